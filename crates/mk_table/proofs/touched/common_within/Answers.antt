use Rattle.std.proofs.Common.{◌≡◌, ◌+◌, ◌<◌, ◌&&◌, Bool, true, false, List, length, get_or, sym, ap, subst, ◌∙◌, arith}
use Rattle.std.proofs.lemmas.Bool.{and_left, and_right}
use Rattle.mk_net.specs.declared.words.Pair.{Pair}
use Rattle.mk_scope.specs.Scopes.{HasEvent, has_variable}
use Rattle.mk_table.specs.Ratios.{has_pair}
use Rattle.mk_table.specs.inner.Touched.{IsPart, AreTaken}
use Rattle.mk_table.proofs.Untouched.{all_push, is_one}
use Rattle.mk_table.proofs.Taken.{taken_step, passed_step}
use Rattle.mk_table.proofs.touched.common_within.Goals as goal
use Rattle.mk_table.proofs.touched.common_within.Goals.{then-has_pair+then-has, else-has_pair, else-has_pair-via-then-has_pair+else-has, else-has_pair-via-else-has_pair}

pub loop-pair-preserved : goal.loop-pair-preserved
loop-pair-preserved c =
    let event = c.args.event.now in let others = c.args.others.now in let scope = c.args.scope.now in let items = c.pairs-pair-items.result.now in let i = c.loop-pair.pair-index in
    let shared = c.loop-pair.shared in
    let d : Pair = record { variable = 0; value = 0 } in let test : Pair → Bool = λ p. has_pair others p && has_variable scope p.variable in let same = c.pairs-pair-items.ensures.pairs in
    let pair : Pair = get_or items i d in
    let l : i < length event = let e = ap (λ (ps : List Pair). length ps) c.pairs-pair-items.ensures.pairs in omega (arith, e, c.loop-pair-test.true) in
    let one : has_pair event pair ≡ true =
    subst (λ (ps : List Pair). has_pair event (get_or ps i (record { variable = 0; value = 0 })) ≡ true) (sym c.pairs-pair-items.ensures.pairs) (is_one event i (record { variable = 0; value = 0 }) l) in
    elim c.if-has_pair.branch [
      | then-has_pair+then-has w ↦ record {
        of_event = subst (λ (ps : List Pair). IsPart ps event) (sym w.shared-is)
            (all_push (λ (p : Pair). has_pair event p ≡ true) shared w.with_pair-shared.result pair w.with_pair-shared.ensures.either c.loop-pair.invariant.of_event one);
        of_others = subst (λ (ps : List Pair). IsPart ps others) (sym w.shared-is)
            (all_push (λ (p : Pair). has_pair others p ≡ true) shared w.with_pair-shared.result pair w.with_pair-shared.ensures.either c.loop-pair.invariant.of_others (sym c.has_pair.ensures ∙ w.if-has_pair.true));
        there = subst (λ (ps : List Pair). HasEvent scope ps) (sym w.shared-is)
            (all_push (λ (p : Pair). has_variable scope p.variable ≡ true) shared w.with_pair-shared.result pair w.with_pair-shared.ensures.either c.loop-pair.invariant.there (sym w.has.ensures ∙ w.if-has.true));
        taken = subst (AreTaken event (i + 1) test) (sym w.shared-is)
            (taken_step event items i d test shared same c.loop-pair-test.true w.with_pair-shared.result c.pairs-pair-items.ensures.event c.loop-pair.invariant.taken w.with_pair-shared.ensures.added);
      }
      | else-has_pair w ↦
          let fails : test pair ≡ false = elim w.else-has_pair.branch [
            | else-has_pair-via-then-has_pair+else-has v ↦ and_right (has_pair others pair) (has_variable scope pair.variable) (sym v.has.ensures ∙ v.if-has.false)
            | else-has_pair-via-else-has_pair v ↦ and_left (has_pair others pair) (has_variable scope pair.variable) (sym c.has_pair.ensures ∙ v.if-has_pair.false)
          ] in
          record {
            of_event = subst (λ (ps : List Pair). IsPart ps event) (sym w.shared-is) c.loop-pair.invariant.of_event;
            of_others = subst (λ (ps : List Pair). IsPart ps others) (sym w.shared-is) c.loop-pair.invariant.of_others;
            there = subst (λ (ps : List Pair). HasEvent scope ps) (sym w.shared-is) c.loop-pair.invariant.there;
            taken = subst (AreTaken event (i + 1) test) (sym w.shared-is) (passed_step event items i d test shared same c.loop-pair-test.true c.loop-pair.invariant.taken fails);
          }
    ]
