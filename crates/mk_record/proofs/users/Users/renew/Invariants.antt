use Rattle.std.specs.Vec.Iter.{into_iter_items}
use Rattle.mk_record.proofs.Renewing.{IsRenewedTo}
use Rattle.mk_record.proofs.users.Users.renew.Given as goal

abbrev pub invariant-loop-member : goal.invariant-loop-member
invariant-loop-member g l =
    IsRenewedTo l.fn.assets.items l.initial.member-items l.member-index (into_iter_items l.renewed)
    l.member-items
