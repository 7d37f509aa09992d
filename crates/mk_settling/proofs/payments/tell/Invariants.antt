use Rattle.std.proofs.Common.{◌≡◌}
use Rattle.mk_record.specs.Members.{names_of}
use Rattle.mk_settling.proofs.Told.{AreToldBefore}
use Rattle.mk_settling.proofs.payments.tell.Given as goal

abbrev pub invariant-loop-row : goal.invariant-loop-row
invariant-loop-row g l = record {
  told : AreToldBefore (names_of l.users) l.rows l.row-index l.payments;
  counted : l.user ≡ l.row-index;
}
