use Rattle.std.proofs.Common.{◌≡◌, ◌<◌, ℕ, false}
use Rattle.mk_user_engine.specs.Grouped.{names}
use Rattle.mk_user_engine.proofs.groups.Groups.naming.Given as goal

abbrev pub invariant-loop-place : goal.invariant-loop-place
invariant-loop-place l = (k : ℕ) → k < l.place → names l.self.list.items k l.variable ≡ false
