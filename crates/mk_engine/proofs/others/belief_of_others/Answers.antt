use Rattle.std.proofs.Common.{◌≡◌, ℕ, ◌+◌, ◌-◌, ◌<◌, length, ◌∙◌, sym, ap, subst, arith}
use Rattle.mk_net.specs.declared.words.Pair.{Pair}
use Rattle.mk_net.specs.Bounds.{max_values}
use Rattle.mk_engine.specs.Meaning.{max_grade}
use Rattle.mk_engine.specs.Cases.{exact_others}
use Rattle.mk_engine.proofs.Found.{case_is_held, found_same, found_more}
use Rattle.mk_engine.proofs.others.belief_of_others.Goals as goal
use Rattle.mk_engine.proofs.others.belief_of_others.Goals.{then-value-target, else-value-target}

pub belief-belief-requires-clause-held : goal.belief-belief-requires-clause-held
belief-belief-requires-clause-held g c =
    let a = c.requires in
    g.met.E.Engine.held_is_answered c.loop-value.engine a.meaning c.args.at c.with_value.result
    (c.loop-value.invariant.kept a.meaning a.stands)
    (case_is_held a.meaning.tree c.args.at c.args.asked.now c.loop-value.value c.with_value.result
    c.with_value.ensures a.held)

-- the grades of both are in range, since the factors are few
pub plus-others-requires : goal.plus-others-requires
plus-others-requires g c =
    let law = g.met.R.Semiring in let m = c.requires.meaning in let v = c.loop-value.value in
    let found = c.loop-value.invariant.found m c.requires.stands in
    let one = c.belief-belief.ensures.belief m (c.loop-value.invariant.kept m c.requires.stands) in
    law.plus_fits c.loop-value.others c.belief-belief.result (length m.factors + max_grade + v)
    found.grade
    (law.grade_more c.belief-belief.result (length m.factors + max_grade)
    (length m.factors + max_grade + v) one.grade (omega arith))
    (omega (arith, c.loop-value-test.true, c.requires.few, c.requires.room))

pub loop-value-preserved : goal.loop-value-preserved
loop-value-preserved g c =
    let R = g.R.Semiring in let law = g.met.R.Semiring in let asked = c.args.asked.now in let v = c.loop-value.value in
    let target : c.target-target.result.value ≡ asked.target.value = ap (λ (p : Pair). p.value) c.target-target.ensures in
    elim c.if-value-target.branch [
      | then-value-target w ↦ rw (w.engine-is, w.others-is) (record {
        kept = λ m h. w.belief-belief.ensures.kept m (c.loop-value.invariant.kept m h);
        found = λ m h.
            found_more R.encloses R.has_grade R.is_exact R.plus_of law.grade_more m
            (g.E.Engine.grade_of m) asked law.lawful v c.loop-value.others
            (c.loop-value.invariant.found m h)
            w.with_value.result w.belief-belief.result w.plus-others.result w.with_value.ensures (w.belief-belief.ensures.belief m (c.loop-value.invariant.kept m h))
            (w.belief-belief.ensures.graded m (c.loop-value.invariant.kept m h))
            w.plus-others.ensures.value w.plus-others.ensures.grade w.plus-others.ensures.exact
            (λ e. w.if-value-target.true (e ∙ sym target));
      })
      | else-value-target w ↦ rw (w.engine-is, w.others-is) (record {
        kept = c.loop-value.invariant.kept;
        found = λ m h.
            found_same R.encloses R.has_grade R.is_exact R.plus_of law.grade_more m
            (g.E.Engine.grade_of m) asked law.lawful v c.loop-value.others
            (c.loop-value.invariant.found m h)
            (w.if-value-target.false ∙ target);
      })
    ]

pub returns-clause-belief : goal.returns-clause-belief
returns-clause-belief g c = λ m h sized.
    let R = g.R.Semiring in let found = c.loop-value.invariant.found m h in
    let all : c.loop-value.value ≡ c.args.values = omega (
      arith,
      c.loop-value-test.false,
      c.loop-value.auto.value-end,
    ) in
    record {
      value = subst (λ (n : ℕ). R.encloses c.loop-value.others
          (exact_others R.plus_of m c.args.asked.now n)) all found.value;
      grade = g.met.R.Semiring.grade_more c.loop-value.others
          (length m.factors + max_grade + c.loop-value.value)
          (length m.factors + max_grade + max_values) found.grade
          (omega (arith, all, c.requires.few));
      exact = found.exact;
    }

pub returns-clause-graded : goal.returns-clause-graded
returns-clause-graded g c = λ m h sized.
    let all : c.loop-value.value ≡ c.args.values = omega (
      arith,
      c.loop-value-test.false,
      c.loop-value.auto.value-end,
    ) in
    let inside : c.args.asked.now.target.value < c.loop-value.value =
    omega (arith, all, c.requires.sized, c.requires.question.target.value) in
    (c.loop-value.invariant.found m h).graded (max_values - 1)
    (λ _. omega (arith, all, c.requires.few)) (λ l. omega (arith, l, inside))
