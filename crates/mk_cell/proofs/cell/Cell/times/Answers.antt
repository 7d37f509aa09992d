use Rattle.std.proofs.Common.{◌≡◌, ◌-◌, ◌*◌, ◌<◌, arith}
use Rattle.mk_cell.proofs.Digits.{product_room, rounded_product, no_digits_left}
use Rattle.mk_cell.proofs.Standing.{times_stands}
use Rattle.mk_cell.proofs.cell.Cell.times.Goals as goal

pub returns-clause-rounded : goal.returns-clause-rounded
returns-clause-rounded c =
    let a = c.args.self in
    let b = c.args.other in
    let l = c.leading_digits-digits in
    rounded_product a.digits a.exponent b.digits b.exponent l.result.0 l.result.1 c.keep.result l.ensures.digits l.ensures.made_up l.ensures.full (omega arith)
    (λ (p : 0 < a.digits * b.digits).
    let r = product_room a.digits a.exponent b.digits b.exponent c.requires.cell c.requires.other_cell p in
    let f = l.ensures.full p in
    let k = c.keep.ensures.kept in
    let u = l.ensures.made_up in
    omega arith)
    (λ (z : a.digits * b.digits ≡ 0).
    let q = no_digits_left (a.digits * b.digits) (64 - l.result.1) l.result.0 l.ensures.digits z in
    let k = c.keep.ensures.cleared in
    omega arith)

pub returns-clause-stands : goal.returns-clause-stands
returns-clause-stands c = λ j k v w n p h l.
    times_stands j k c.args.self.digits c.args.self.exponent c.args.other.digits c.args.other.exponent c.leading_digits-digits.result.0 c.keep.result v w n p h l (returns-clause-rounded c)
