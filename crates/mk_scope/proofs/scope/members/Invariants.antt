use Rattle.std.proofs.Common.{◌≡◌, ◌++◌, ℕ, ◌<◌, true, length}
use Rattle.mk_sets.specs.Sets.{is_member}
use Rattle.mk_net.specs.Network.{sizes}
use Rattle.mk_sums.specs.Cells.{keep}
use Rattle.mk_sums.specs.Joint.{variables}
use Rattle.mk_scope.proofs.scope.members.Given as goal

abbrev pub invariant-loop-variable : goal.invariant-loop-variable
invariant-loop-variable l = record {
  all : l.members.items ++ keep (is_member l.left) (variables (sizes l.net)) ≡ keep (is_member l.set) (variables (sizes l.net));
  inside : (x : ℕ) → is_member l.left x ≡ true → x < length l.net;
}

abbrev pub decreases-loop-variable : goal.decreases-loop-variable
decreases-loop-variable l = length (keep (is_member l.left) (variables (sizes l.net)))
