use Rattle.std.proofs.Common.{◌^◌, ◌<◌, arith}
use Rattle.mk_scaled.specs.Range.{two_to, whole_below, product_in_range}
use Rattle.mk_enclose.specs.Enclosure.{upper_of}
use Rattle.mk_number_trials.proofs.enclosures.ends.Goals as goal

pub add-sum-requires : goal.add-sum-requires
add-sum-requires g c =
    let m = c.exact-most.ensures.upper in
    let t = c.exact-two.ensures.upper in
    whole_below _ 65 (2 ^ 50) (omega arith) (omega arith)

pub mul-square-requires : goal.mul-square-requires
mul-square-requires g c =
    let m = c.exact-most.ensures.upper in
    let l : upper_of c.exact-most.result < two_to 64 = whole_below _ 64 64 (omega arith) (omega arith) in
    product_in_range _ _ 64 (omega arith) l l

pub add-requires : goal.add-requires
add-requires g c =
    let t = c.exact-two.ensures.upper in whole_below _ 65 (2 ^ 50) (omega arith) (omega arith)

pub mul-requires : goal.mul-requires
mul-requires g c =
    let t = c.exact-two.ensures.upper in
    let l : upper_of c.exact-two.result < two_to 64 = whole_below _ 64 64 (omega arith) (omega arith) in
    product_in_range _ _ 64 (omega arith) l l
