use Rattle.std.proofs.Common.{◌≡◌, take, replicate}
use Rattle.mk_table.proofs.store.put_each.Given as goal

abbrev pub invariant-loop-place : goal.invariant-loop-place
invariant-loop-place g l = take l.place l.values ≡ replicate l.place l.value
