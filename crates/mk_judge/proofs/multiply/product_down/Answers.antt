use Rattle.std.proofs.Common.{refl}
use Rattle.mk_judge.proofs.Multiplying.{IsWritten, stored_written, product_fits, down_below}
use Rattle.mk_judge.proofs.Multiplying.{down_near}
use Rattle.mk_judge.proofs.multiply.product_down.Goals.{After-exponent-2}
use Rattle.mk_judge.proofs.multiply.product_down.Goals as goal

pub mul_down-number-requires : goal.mul_down-number-requires
mul_down-number-requires c =
    rw (c.of_whole.ensures, c.of_whole-2.ensures) (product_fits c.args.left.now c.mantissa.result _
    c.args.right.now c.mantissa-2.result _
    (stored_written _ _ _ c.mantissa.ensures.stored c.mantissa.ensures.value refl)
    (stored_written _ _ _ c.mantissa-2.ensures.stored c.mantissa-2.ensures.value refl))

-- both factors as they are written
written : (c : After-exponent-2) → IsWritten c.args.left.now c.mantissa.result c.exponent.result
    × IsWritten c.args.right.now c.mantissa-2.result c.exponent-2.result
written c = (
  stored_written _ _ _ c.mantissa.ensures.stored c.mantissa.ensures.value c.exponent.ensures.value,
  stored_written _ _ _ c.mantissa-2.ensures.stored c.mantissa-2.ensures.value
      c.exponent-2.ensures.value,
)

pub returns-clause-below : goal.returns-clause-below
returns-clause-below c =
    let both = written (goal.at.returns-clause-below c).After-exponent-2 in
    down_below _ _ _ _ _ _ both.0 both.1 c.mul_down-number.result
    (rw (c.of_whole.ensures, c.of_whole-2.ensures) at c.mul_down-number.ensures)

pub returns-clause-near : goal.returns-clause-near
returns-clause-near c =
    let both = written (goal.at.returns-clause-near c).After-exponent-2 in
    down_near _ _ _ _ _ _ both.0 both.1 c.mul_down-number.result
    (rw (c.of_whole.ensures, c.of_whole-2.ensures) at c.mul_down-number.ensures)
