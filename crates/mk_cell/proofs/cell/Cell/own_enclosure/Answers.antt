use Rattle.std.proofs.Common.{◌*◌, ◌^◌, ◌≤◌, arith}
use Rattle.std.proofs.Math.Nat.{mul-le-mul_left}
use Rattle.mk_enclose.specs.Enclosure.{lower_of, upper_of}
use Rattle.mk_cell.proofs.Own.{own_bounded, grade_in_range, near_multiple}
use Rattle.mk_cell.proofs.cell.Cell.own_enclosure.Goals as goal

pub multiple-requires : goal.multiple-requires
multiple-requires c = grade_in_range c.args.grade (upper_of c.in-Some.own) c.requires.grade_at_most (c.in-Some.ensures).bounded

pub returns-in-Some-clause-encloses : goal.returns-in-Some-clause-encloses
returns-in-Some-clause-encloses c = λ w s.
    let own = (c.in-Some.ensures).encloses w s in
    let p : 2 ^ c.args.shift * lower_of c.in-Some.own ≤ 2 ^ c.args.shift * w = mul-le-mul_left (2 ^ c.args.shift) own.lower in
    let q : 2 ^ c.args.shift * w ≤ 2 ^ c.args.shift * upper_of c.in-Some.own = mul-le-mul_left (2 ^ c.args.shift) own.upper in
    let l = c.multiple.ensures.lower in
    let u = c.multiple.ensures.upper in
    record { lower = omega arith; upper = omega arith }

pub returns-in-Some-clause-grade : goal.returns-in-Some-clause-grade
returns-in-Some-clause-grade c =
    let g = (c.in-Some.ensures).grade in
    record { near = rw (c.multiple.ensures.lower, c.multiple.ensures.upper) (near_multiple (lower_of c.in-Some.own) (upper_of c.in-Some.own) c.args.grade c.args.shift g.near) }

pub returns-in-Some-clause-bounded : goal.returns-in-Some-clause-bounded
returns-in-Some-clause-bounded c =
    let v = c.requires.shifted in
    let w = c.requires.stands in
    let own = (c.in-Some.ensures).encloses w.0 w.1 in
    let g = (c.in-Some.ensures).grade in
    rw c.multiple.ensures.upper
    (own_bounded c.args.self.digits c.args.self.exponent c.args.shift v.0 w.0 c.args.grade (lower_of c.in-Some.own) (upper_of c.in-Some.own) c.requires.grade_at_most v.1 w.1 own.lower g.near)
