use Rattle.std.proofs.Common.{◌≡◌, take, vec_capacity}
use Rattle.mk_user_engine.specs.Kept.{AreKept}
use Rattle.mk_user_engine.proofs.kept.keep_each.Given as goal

abbrev pub invariant-loop-place : goal.invariant-loop-place
invariant-loop-place l = AreKept (take l.place l.groups) l.trades l.known l.kept.items
    × (vec_capacity l.kept ≡ vec_capacity l.fn.kept)
