use Rattle.std.proofs.Common.{◌≡◌, filter}
use Rattle.std.specs.List.{range_with_len}
use Rattle.mk_net.specs.Stored.{variables_of}
use Rattle.mk_net.specs.Zeros.{has_zero}
use Rattle.mk_net.proofs.network.build.with_zeros.Given as goal

abbrev pub invariant-loop-number : goal.invariant-loop-number
invariant-loop-number l = l.zeros.items ≡ filter (has_zero (variables_of l.variables.entries)) (range_with_len 0 l.number)
