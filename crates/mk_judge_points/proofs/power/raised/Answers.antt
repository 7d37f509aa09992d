use Rattle.std.proofs.Common.{◌≡◌, ◌+◌, ◌*◌, ◌^◌, ◌≤◌, arith, le_trans, lt_of_le_of_lt}
use Rattle.std.proofs.Math.Nat.{pow-le-pow_left}
use Rattle.mk_cash.proofs.Nearness.{near_power}
use Rattle.mk_scaled.specs.Near.{IsNear, near_trans}
use Rattle.mk_judge_points.proofs.power.raised.Goals as goal

pub pow_down-requires-clause-range : goal.pow_down-requires-clause-range
pow_down-requires-clause-range c = lt_of_le_of_lt (pow-le-pow_left c.lo.ensures.ordered c.args.power) c.requires.range

pub between-requires-clause-ordered : goal.between-requires-clause-ordered
between-requires-clause-ordered c =
    le_trans c.pow_down.ensures.below (le_trans (pow-le-pow_left (let l : c.lo.result ≤ c.hi.result = rw c.hi.ensures.value c.lo.ensures.ordered in l) c.args.power) c.pow_up.ensures.above)

pub returns-clause-encloses : goal.returns-clause-encloses
returns-clause-encloses c = λ v is.
    let lo : c.lo.result ≤ v = rw c.lo.ensures.value is.lower in
    let hi : v ≤ c.hi.result = rw c.hi.ensures.value is.upper in
    record {
      lower = rw c.between.ensures.lower (le_trans c.pow_down.ensures.below (pow-le-pow_left lo c.args.power));
      upper = rw c.between.ensures.upper (le_trans (pow-le-pow_left hi c.args.power) c.pow_up.ensures.above);
    }

pub returns-clause-grade : goal.returns-clause-grade
returns-clause-grade c = λ g graded.
    let b = c.args.power in
    let lo = c.lo.result in
    let hi = c.hi.result in
    let ends : IsNear lo hi g = rw (c.lo.ensures.value, c.hi.ensures.value) graded.near in
    let steps : 2 * b + (b * g + 2 * b) ≡ b * (g + 4) = omega arith in
    record {
      near = rw (c.between.ensures.lower, c.between.ensures.upper, ← steps)
          (near_trans c.pow_down.result (lo ^ b) c.pow_up.result (2 * b) (b * g + 2 * b) c.pow_down.ensures.near
          (near_trans (lo ^ b) (hi ^ b) c.pow_up.result (b * g) (2 * b) (near_power lo hi g b ends) c.pow_up.ensures.near));
    }
