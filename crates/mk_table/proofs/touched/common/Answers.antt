use Rattle.std.proofs.Common.{◌≡◌, ◌+◌, ◌<◌, true, List, length, get_or, sym, ap, subst, ◌∙◌, arith}
use Rattle.mk_net.specs.declared.words.Pair.{Pair}
use Rattle.mk_table.specs.Ratios.{has_pair}
use Rattle.mk_table.specs.inner.Touched.{IsPart, AreTaken}
use Rattle.mk_table.proofs.Untouched.{all_push, is_one}
use Rattle.mk_table.proofs.Taken.{taken_step, passed_step}
use Rattle.mk_table.proofs.touched.common.Goals as goal
use Rattle.mk_table.proofs.touched.common.Goals.{then-has_pair, else-has_pair}

pub loop-pair-preserved : goal.loop-pair-preserved
loop-pair-preserved c =
    let event = c.args.event.now in let others = c.args.others.now in let items = c.pairs-pair-items.result.now in let i = c.loop-pair.pair-index in
    let shared = c.loop-pair.shared in let d : Pair = record { variable = 0; value = 0 } in
    let pair : Pair = get_or items i d in
    let same = c.pairs-pair-items.ensures.pairs in
    let l : i < length event = let e = ap (λ (ps : List Pair). length ps) same in omega (arith, e, c.loop-pair-test.true) in
    let one : has_pair event pair ≡ true = subst (λ (ps : List Pair). has_pair event (get_or ps i d) ≡ true) (sym same) (is_one event i d l) in
    elim c.if-has_pair.branch [
      | then-has_pair w ↦ record {
        of_event = subst (λ (ps : List Pair). IsPart ps event) (sym w.shared-is)
            (all_push (λ (p : Pair). has_pair event p ≡ true) shared w.with_pair-shared.result pair w.with_pair-shared.ensures.either c.loop-pair.invariant.of_event one);
        of_others = subst (λ (ps : List Pair). IsPart ps others) (sym w.shared-is)
            (all_push (λ (p : Pair). has_pair others p ≡ true) shared w.with_pair-shared.result pair w.with_pair-shared.ensures.either c.loop-pair.invariant.of_others (sym c.has_pair.ensures ∙ w.if-has_pair.true));
        taken = subst (AreTaken event (i + 1) (has_pair others)) (sym w.shared-is)
            (taken_step event items i d (has_pair others) shared same c.loop-pair-test.true w.with_pair-shared.result c.pairs-pair-items.ensures.event c.loop-pair.invariant.taken w.with_pair-shared.ensures.added);
      }
      | else-has_pair w ↦ record {
        of_event = subst (λ (ps : List Pair). IsPart ps event) (sym w.shared-is) c.loop-pair.invariant.of_event;
        of_others = subst (λ (ps : List Pair). IsPart ps others) (sym w.shared-is) c.loop-pair.invariant.of_others;
        taken = subst (AreTaken event (i + 1) (has_pair others)) (sym w.shared-is)
            (passed_step event items i d (has_pair others) shared same c.loop-pair-test.true c.loop-pair.invariant.taken (sym c.has_pair.ensures ∙ w.if-has_pair.false));
      }
    ]
