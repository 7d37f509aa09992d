use Rattle.std.proofs.Common.{◌≡◌, ◌+◌, map, take}
use Rattle.mk_scope.proofs.strides.write_moved.Given as goal

abbrev pub invariant-loop-place : goal.invariant-loop-place
invariant-loop-place l = take l.place l.moved ≡ map (λ c. l.by + c) (take l.place l.listed)
