-- What mk_judge leaves open of the sides of a question is near by the steps that an auditor may leave open.
use Rattle.std.proofs.Common.{◌≡◌, ℕ, ◌+◌, ◌-◌, ◌*◌, ◌≤◌, ◌⊎◌, inl, inr, Bool, List, Some, None, ◌∙◌, arith}
use Rattle.mk_net.specs.Bounds.{max_values, million}
use Rattle.mk_net.specs.Network.{Variable}
use Rattle.mk_exact.specs.History.{Entry}
use Rattle.mk_exact.specs.Factors.{HoldsNoTrade}
use Rattle.mk_exact.specs.Limits.{Side}
use Rattle.mk_quote.specs.declared.bounds.Bounds.{Bounds}
use Rattle.mk_quote.specs.declared.side.SideBounds.{SideBounds}
use Rattle.mk_quote.specs.Bounds.{hit_side, miss_side}
use Rattle.mk_rules.specs.Quotes.{Interval}
use Rattle.mk_judge.specs.Units.{AreUnitsNear, IsFairNear, IsSolvencyNear}
use Rattle.mk_judge.specs.Limits.{IsLeastNear, AreEndsNear}
use Rattle.mk_judge.specs.Wanted.{IsWantedNear}
use Rattle.mk_judge.specs.Questions.{IsSideNear, AreLimitsNear}
use Rattle.mk_answers.specs.Evidence.{AreBoundsOfSide}
use Rattle.mk_judge_quotes.specs.Clear.{AreUnitsOpen, AreEndsOpen, IsShareOpen, IsIntervalOpen}
use Rattle.mk_judge_quotes.specs.Clear.{AreSidesOpen}
use Rattle.mk_judge_quotes.proofs.Nearer.{nearer, either_of}

-- the first two of three
first_two : {A B C : Type 0} → A ⊎ B → A ⊎ (B ⊎ C)
first_two (inl a) = inl a
first_two (inr b) = inr (inl b)

module _ (most : ℕ) (room : max_values ≤ most) (network : List Variable) (H : List Entry) (u : ℕ)
    (bounds : SideBounds) (side : Side) (its : AreBoundsOfSide most network H u bounds side) where
  -- the user holds some trade where the factor has one
  holds_some : (bounds.factor.trades ≡ 0 → ⊥) → HoldsNoTrade H u → ⊥
  holds_some traded none = traded (its.traded ∙ none)

  pub units_open : (small : Bool) (F X : ℕ) → AreUnitsNear bounds small side F X
      → AreUnitsOpen (4 * most) (HoldsNoTrade H u) side X F
  units_open small F X near = at near.near
    where
      at : IsFairNear bounds.part bounds.whole side.price F X
          ⊎ IsSolvencyNear bounds.factor side.least F
          → AreUnitsOpen (4 * most) (HoldsNoTrade H u) side X F
      at (inl fair) = first_two (either_of (nearer _ _
          (its.graded.part.grade + its.graded.whole.grade) (4 * most)
          (omega (arith, its.graded.part.small, its.graded.whole.small)))
          (nearer _ _ (its.graded.part.grade + its.graded.whole.grade) (4 * most)
          (omega (arith, its.graded.part.small, its.graded.whole.small)))
          (fair its.graded.part.grade its.graded.whole.grade its.graded.part.has its.graded.whole.has))
      at (inr solvency) = inr (inr (
        holds_some solvency.traded,
        nearer _ _ its.graded.gain.grade (4 * most) (omega (arith, its.graded.gain.small))
            (solvency.near its.graded.gain.grade its.graded.gain.has),
      ))

  ends_open : (n low high : ℕ) → IsLeastNear bounds.factor side.least n
      ⊎ AreEndsNear bounds side n low high
      → AreEndsOpen (4 * most) (HoldsNoTrade H u) side n low high
  ends_open n low high (inl least) = inr (inr (
    holds_some least.traded,
    either_of (nearer _ _ its.graded.gain.grade (4 * most) more)
        (nearer _ _ its.graded.gain.grade (4 * most) more)
        (least.near its.graded.gain.grade its.graded.gain.has),
  ))
    where
      more : its.graded.gain.grade ≤ 4 * most
      more = omega (arith, its.graded.gain.small)
  ends_open n low high (inr ends) = first_two (either_of
      (nearer _ _ (its.graded.part.grade + its.graded.whole.grade) (4 * most)
      (omega (arith, its.graded.part.small, its.graded.whole.small)))
      (nearer _ _ (its.graded.part.grade + its.graded.whole.grade) (4 * most)
      (omega (arith, its.graded.part.small, its.graded.whole.small)))
      (ends its.graded.part.grade its.graded.whole.grade its.graded.part.has its.graded.whole.has))

  pub share_open : IsWantedNear bounds side → IsShareOpen (4 * most) side
  share_open near = record {
    share = near.share;
    some = near.from;
    few = near.to;
    near = either_of
        (nearer _ _ (its.graded.part.grade + its.graded.whole.grade + its.graded.gain.grade + 2)
        (4 * most)
        (omega (arith, room, its.graded.part.small, its.graded.whole.small, its.graded.gain.small)))
        (nearer _ _ (its.graded.part.grade + its.graded.whole.grade) (4 * most)
        (omega (arith, its.graded.part.small, its.graded.whole.small)))
        (near.near its.graded.part.grade its.graded.whole.grade its.graded.gain.grade its.graded.part.has its.graded.whole.has its.graded.gain.has);
  }

  pub interval_open : (low high : ℕ) → IsSideNear bounds side low high
      → IsIntervalOpen (4 * most) (HoldsNoTrade H u) side low high
  interval_open low high (inl interval) = inl (λ n least. ends_open n low high (interval n least))
  interval_open low high (inr wanted) = inr (share_open wanted)

-- of both sides
pub limits_open : (most : ℕ) → max_values ≤ most
    → (network : List Variable) (H : List Entry) (u : ℕ) (bounds : Bounds) (hit miss : Side)
    (limits : Interval)
    → AreBoundsOfSide most network H u (hit_side bounds) hit
    → AreBoundsOfSide most network H u (miss_side bounds) miss
    → AreLimitsNear bounds hit miss limits
    → AreSidesOpen (4 * most) (HoldsNoTrade H u) hit miss limits
limits_open most room network H u bounds hit miss None of_hit of_miss =
    either_of (share_open most room network H u (hit_side bounds) hit of_hit)
    (share_open most room network H u (miss_side bounds) miss of_miss)
limits_open most room network H u bounds hit miss (Some (low, high)) of_hit of_miss =
    either_of (interval_open most room network H u (hit_side bounds) hit of_hit low high)
    (interval_open most room network H u (miss_side bounds) miss of_miss (million - high)
    (million - low))
