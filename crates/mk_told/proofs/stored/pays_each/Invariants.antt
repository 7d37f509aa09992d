use Rattle.mk_record.specs.Members.{names_of}
use Rattle.mk_told.proofs.Retold.{AgreeBefore}
use Rattle.mk_told.proofs.stored.pays_each.Given as goal

abbrev pub invariant-loop-user : goal.invariant-loop-user
invariant-loop-user g l = AgreeBefore l.payments (names_of l.users) l.user
