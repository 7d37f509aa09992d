use Rattle.std.proofs.Common.{◌^◌, arith}
use Rattle.mk_scaled.specs.Range.{whole_below}
use Rattle.mk_number_trials.proofs.scaled.worked_answers.Goals as goal

pub add_down-requires : goal.add_down-requires
add_down-requires g c = whole_below _ 65 (2 ^ 50) (omega arith) (omega arith)

pub add_up-requires : goal.add_up-requires
add_up-requires g c = whole_below _ 65 (2 ^ 50) (omega arith) (omega arith)
