use Rattle.std.proofs.Common.{not, sym, ap, ◌∙◌, arith}
use Rattle.mk_rules.specs.Refusals.{is_resolved}
use Rattle.mk_asking.proofs.Counted.{one_counted, none_counted}
use Rattle.mk_asking.proofs.counting.open_questions.Goals as goal
use Rattle.mk_asking.proofs.counting.open_questions.Goals.{then-not-is_resolved}
use Rattle.mk_asking.proofs.counting.open_questions.Goals.{else-not-is_resolved}

pub loop-variable-preserved : goal.loop-variable-preserved
loop-variable-preserved c =
    let H = c.args.journal.now.history in let so_far = c.loop-variable.invariant in
    let n = c.loop-variable.variable in
    elim c.if-not-is_resolved.branch [
      | then-not-is_resolved w ↦ rw w.open-is (record {
        counted = one_counted (λ v. not (is_resolved H v)) n c.loop-variable.open so_far.counted
            (ap not (sym c.is_resolved.ensures ∙ w.if-not-is_resolved.true));
        few = omega (arith, so_far.few);
      })
      | else-not-is_resolved w ↦ rw w.open-is (record {
        counted = none_counted (λ v. not (is_resolved H v)) n c.loop-variable.open so_far.counted
            (ap not (sym c.is_resolved.ensures ∙ w.if-not-is_resolved.false));
        few = omega (arith, so_far.few);
      })
    ]
