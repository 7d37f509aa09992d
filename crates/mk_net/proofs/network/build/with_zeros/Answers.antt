use Rattle.std.specs.Prelude.{◌≡◌, true, false, map, ◌==◌}
use Rattle.std.specs.List.{list_any}
use Rattle.std.proofs.Common.{◌∙◌, ap, sym, append-nil}
use Rattle.mk_net.specs.Stored.{variables_of}
use Rattle.mk_net.specs.Zeros.{has_zero}
use Rattle.mk_net.proofs.Zeroed.{zero_stored, next_zero}
use Rattle.mk_net.proofs.network.build.with_zeros.Goals as goal
use Rattle.mk_net.proofs.network.build.with_zeros.Goals.{then-has_zero+in_ok-push, else-has_zero}

tested : (c : goal.Joined-has_zero) → has_zero (variables_of c.args.variables.now.entries) c.loop-number.number ≡ c.has_zero.result
tested c = zero_stored c.args.variables.now.entries c.loop-number.number c.index.result.now c.has_zero.result c.index.ensures
    (c.has_zero.ensures ∙ ap (λ rows. list_any (λ row. list_any (λ share. share == 0) row) (map (λ row. row.items) rows)) c.deref.ensures.value)

pub loop-number-preserved : goal.loop-number-preserved
loop-number-preserved c =
    let next = next_zero (has_zero (variables_of c.args.variables.now.entries)) c.loop-number.zeros.items c.loop-number.number in
    elim c.if-has_zero.branch [
      | then-has_zero+in_ok-push w ↦ rw w.zeros-is (w.in_ok-push.ensures.items ∙ next true (tested c ∙ w.if-has_zero.true) c.loop-number.invariant)
      | else-has_zero w ↦ rw w.zeros-is (sym (append-nil c.loop-number.zeros.items) ∙ next false (tested c ∙ w.if-has_zero.false) c.loop-number.invariant)
    ]
