use Rattle.std.proofs.Common.{◌^◌, arith}
use Rattle.mk_scaled.specs.Range.{sum_in_range, product_in_range}
use Rattle.mk_number_trials.proofs.scaled.check_pair.Goals as goal

pub add_down-requires : goal.add_down-requires
add_down-requires g c = sum_in_range _ _ (2 ^ 42) (omega arith) c.number-left.ensures c.number-right.ensures

pub add_up-requires : goal.add_up-requires
add_up-requires g c = sum_in_range _ _ (2 ^ 42) (omega arith) c.number-left.ensures c.number-right.ensures

pub add_down-requires-2 : goal.add_down-requires-2
add_down-requires-2 g c = sum_in_range _ _ (2 ^ 42) (omega arith) c.number-right.ensures c.number-left.ensures

pub mul_down-requires : goal.mul_down-requires
mul_down-requires g c = product_in_range _ _ (2 ^ 42) (omega arith) c.number-left.ensures c.number-right.ensures

pub mul_up-requires : goal.mul_up-requires
mul_up-requires g c = product_in_range _ _ (2 ^ 42) (omega arith) c.number-left.ensures c.number-right.ensures
