use Rattle.std.proofs.Common.{◌+◌, ◌*◌, ◌^◌, ◌≤◌, refl, arith, le_refl}
use Rattle.std.proofs.Math.Nat.{one-le-mul}
use Rattle.std.proofs.lemmas.Nat.{pow_pos}
use Rattle.mk_scaled.specs.Range.{below_two_to}
use Rattle.mk_judge.proofs.Multiplying.{stored_written}
use Rattle.mk_judge.proofs.Sharing.{first_right, first_above}
use Rattle.mk_judge.proofs.wanting.first_share.Goals as goal

pub shift-start-requires : goal.shift-start-requires
shift-start-requires c =
    let written = stored_written _ _ _ c.mantissa.ensures.stored c.mantissa.ensures.value
    c.exponent.ensures.value in
    rw c.of_whole.ensures (below_two_to c.mantissa.result c.min-more.result 64
    (2 ^ 50) written.below (let e = c.min-more.ensures in omega (arith, e)))

pub shift-requires : goal.shift-requires
shift-requires c =
    below_two_to c.args.product.now.number c.min-less.result 129 (2 ^ 50)
    (let l = c.args.product.now.few_digits in omega (arith, l))
    (let e = c.min-less.ensures in omega (arith, e))

pub returns-clause-first : goal.returns-clause-first
returns-clause-first c = λ X share.
    let written = stored_written c.args.part.now c.mantissa.result c.exponent.result
    c.mantissa.ensures.stored c.mantissa.ensures.value c.exponent.ensures.value in
    let product = c.args.product.now in
    let scale = c.args.scale.now in
    let some : 1 ≤ c.shift.result * 1 = rw c.shift.ensures
    (one-le-mul (one-le-mul product.positive (pow_pos c.min-less.result)) (le_refl 1)) in
    rw written.written
    (first_above c.mantissa.result c.exponent.result product.number product.bits scale.owed
    scale.gained (1000000 * (2 ^ 19 + 1)) c.capped.result X
    (c.shift-start.result * (1000000 * (2 ^ 19 + 1))) (c.shift.result * 1) written.below
    (omega arith) product.few_digits share
    (rw (c.shift-start.ensures, c.of_whole.ensures, c.min-more.ensures, c.saturating_sub.ensures)
    refl)
    (rw (c.shift.ensures, c.min-less.ensures, c.saturating_sub-2.ensures) refl)
    (first_right c.div_ceil.result c.capped.result _ _ some c.div_ceil.ensures
    c.capped.ensures.value X share))
