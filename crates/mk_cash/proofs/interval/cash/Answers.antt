use Rattle.std.proofs.Common.{ℕ, ◌^◌, ◌<◌, ◌≤◌, arith}
use Rattle.mk_net.specs.Bounds.{sharpness, grade_room}
use Rattle.mk_cash.proofs.Covering.{raised_factor, covers_cash}
use Rattle.mk_cash.proofs.Nearness.{wide_room, room_small}
use Rattle.mk_enclose.specs.Enclosure.{Encloses, IsExact}
use Rattle.mk_cash.proofs.interval.cash.Goals as goal

small_grade : (grade most_trades : ℕ) → grade ≤ grade_room most_trades → grade < 2 ^ 59
small_grade grade most_trades small = let room = room_small most_trades in omega arith

pub returns-clause-covers : goal.returns-clause-covers
returns-clause-covers c = λ q most_trades stands graded one.
    let b = c.args.points_per_bit in
    let f = c.args.factor.now in
    let told = c.power_bits-low.ensures in
    covers_cash q b stands.gain c.bits_gained-gained.result c.bits_owed-owed.result f.gain.lo
    f.gain.hi graded.grade _ _
    (record {
      same = rw (c.bits_gained-gained.ensures.value, c.bits_owed-owed.ensures)
          (raised_factor q.num q.den f.trades _ _ stands.gain b stands.same);
      positive = stands.positive;
      at_least_one = one;
      between = record {
        lower = stands.encloses.lower;
        upper = stands.encloses.upper;
        near =
            graded.has.near;
      };
    })
    (record {
      below = told.below;
      above = told.above;
      low_near = told.low_near;
      high_near =
          told.high_near;
    }) f.gain.positive c.requires.few_points (small_grade graded.grade most_trades graded.small)
    (sharpness most_trades) (wide_room most_trades graded.grade graded.small)
    (IsExact f.gain) (Encloses f.gain 1) _ _ (λ exact. exact.same) (λ holds. holds.lower)
    c.saturating_sub.ensures c.saturating_sub-2.ensures
