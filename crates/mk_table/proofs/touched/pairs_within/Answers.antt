use Rattle.std.proofs.Common.{◌≡◌, ◌+◌, ◌<◌, Bool, true, List, length, get_or, sym, ap, subst, ◌∙◌, arith}
use Rattle.mk_net.specs.declared.words.Pair.{Pair}
use Rattle.mk_scope.specs.Scopes.{HasEvent, has_variable}
use Rattle.mk_table.specs.Ratios.{has_pair}
use Rattle.mk_table.specs.inner.Touched.{IsPart, AreTaken}
use Rattle.mk_table.proofs.Untouched.{all_push, is_one}
use Rattle.mk_table.proofs.Taken.{taken_step, passed_step}
use Rattle.mk_table.proofs.touched.pairs_within.Goals as goal
use Rattle.mk_table.proofs.touched.pairs_within.Goals.{then-has, else-has}

pub loop-pair-preserved : goal.loop-pair-preserved
loop-pair-preserved c =
    let event = c.args.event.now in let scope = c.args.scope.now in let items = c.pairs-pair-items.result.now in let i = c.loop-pair.pair-index in
    let d : Pair = record { variable = 0; value = 0 } in let test : Pair → Bool = λ p. has_variable scope p.variable in let same = c.pairs-pair-items.ensures.pairs in
    let pair : Pair = get_or items i d in
    let l : i < length event = let e = ap (λ (ps : List Pair). length ps) c.pairs-pair-items.ensures.pairs in omega (arith, e, c.loop-pair-test.true) in
    let one : has_pair event pair ≡ true =
    subst (λ (ps : List Pair). has_pair event (get_or ps i (record { variable = 0; value = 0 })) ≡ true) (sym c.pairs-pair-items.ensures.pairs) (is_one event i (record { variable = 0; value = 0 }) l) in
    elim c.if-has.branch [
      | then-has w ↦ record {
        of_event = subst (λ (ps : List Pair). IsPart ps event) (sym w.kept-is)
            (all_push (λ (p : Pair). has_pair event p ≡ true) c.loop-pair.kept w.with_pair-kept.result pair w.with_pair-kept.ensures.either c.loop-pair.invariant.of_event one);
        there = subst (λ (ps : List Pair). HasEvent scope ps) (sym w.kept-is)
            (all_push (λ (p : Pair). has_variable scope p.variable ≡ true) c.loop-pair.kept w.with_pair-kept.result pair w.with_pair-kept.ensures.either c.loop-pair.invariant.there (sym c.has.ensures ∙ w.if-has.true));
        taken = subst (AreTaken event (i + 1) test) (sym w.kept-is)
            (taken_step event items i d test c.loop-pair.kept same c.loop-pair-test.true w.with_pair-kept.result c.pairs-pair-items.ensures.event c.loop-pair.invariant.taken w.with_pair-kept.ensures.added);
      }
      | else-has w ↦ record {
        of_event = subst (λ (ps : List Pair). IsPart ps event) (sym w.kept-is) c.loop-pair.invariant.of_event;
        there = subst (λ (ps : List Pair). HasEvent scope ps) (sym w.kept-is) c.loop-pair.invariant.there;
        taken = subst (AreTaken event (i + 1) test) (sym w.kept-is)
            (passed_step event items i d test c.loop-pair.kept same c.loop-pair-test.true c.loop-pair.invariant.taken (sym c.has.ensures ∙ w.if-has.false));
      }
    ]
