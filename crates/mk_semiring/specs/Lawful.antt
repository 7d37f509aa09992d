-- Sums are lawful.
use Rattle.std.specs.Prelude.{◌+◌}
use Rattle.std.proofs.Common.{arith}
use Rattle.mk_states.specs.Lawful.{Lawful}

pub sum_lawful : Lawful ◌+◌
sum_lawful = record {
  commutes = λ a b. omega arith;
  associates = λ a b c. omega arith;
  neutral = λ a. omega arith;
  distributes = λ a b c. omega arith;
  present = λ a b p. omega arith;
  bounded = λ a b. omega arith;
}
