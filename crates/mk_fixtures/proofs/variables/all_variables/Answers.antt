use Rattle.std.proofs.Common.{inl, inr, ◌==◌, ◌∙◌, sym, arith}
use Rattle.std.proofs.lemmas.Bool.{cases_eq, eq-eqb, eqb-true, or_cases, or_left, or_right}
use Rattle.mk_sets.specs.Sets.{is_member}
use Rattle.mk_fixtures.proofs.variables.all_variables.Goals as goal

pub loop-variable-preserved : goal.loop-variable-preserved
loop-variable-preserved c =
    let v = c.loop-variable.variable in let all = c.loop-variable.all in
    let so_far = c.loop-variable.invariant in let made = c.with-all.ensures.members in
    record {
      all = λ x below. made x ∙ elim (cases_eq x v) [
        | inl same ↦ or_left (x == v) (is_member all x) (eq-eqb x v same)
        | inr other ↦
            or_right (x == v) (is_member all x) (so_far.all x (omega (arith, below, other)))
      ];
      no_other = λ x found. elim (or_cases (x == v) (is_member all x) (sym (made x) ∙ found)) [
        | inl same ↦ omega (arith, eqb-true x v same)
        | inr earlier ↦ omega (arith, so_far.no_other x earlier)
      ];
    }
