-- The share of an event in the whole, by the beliefs of an engine.
use Rattle.std.proofs.Common.{◌≡◌, ℕ, ◌+◌, ◌*◌, ◌^◌, ◌<◌, ◌≤◌, List, [], length}
use Rattle.std.proofs.Common.{refl, subst, arith, le_trans}
use Rattle.std.proofs.Math.Nat.{le_of_mul-le-mul_right}
use Rattle.mk_net.specs.declared.words.Pair.{Pair}
use Rattle.mk_net.specs.Asked.{Asked, TradeRatio, ratio_pairs}
use Rattle.mk_net.specs.Bounds.{max_market_trades}
use Rattle.mk_net.specs.Network.{Variable, IsNetwork}
use Rattle.mk_states.specs.Events.{holds, always}
use Rattle.mk_exact.specs.History.{Entry, trades}
use Rattle.mk_states.specs.OfNetwork.{IsRatioOf}
use Rattle.mk_exact.specs.Weight.{IsSmall, total}
use Rattle.mk_exact.proofs.Totals.{total_always}
use Rattle.mk_enclose.specs.declared.enclosure.Enclosure.{Enclosure}
use Rattle.mk_enclose.specs.Enclosure.{Encloses}
use Rattle.mk_semiring.specs.declared.held.Held.{Held}
use Rattle.mk_semiring.specs.declared.held.Held.TheVariants.{Present}
use Rattle.mk_semiring.specs.Held.{HeldEncloses, HasHeldGrade, IsHeldExact, held_grade_more}
use Rattle.mk_tree.specs.Given.{GivenTree}
use Rattle.mk_tree.specs.Held.{IsHeldAt}
use Rattle.mk_engine.specs.Meaning.{Meaning, max_grade, ArePairsOf}
use Rattle.mk_engine.specs.Beliefs.{IsBelief}
use Rattle.mk_beliefs.specs.Meanings.{weights_of}
use Rattle.mk_beliefs.proofs.Grown.{factors_are_few}
use Rattle.mk_beliefs.proofs.Weighed.{belief_is_total, weights_are_small}
use Rattle.mk_best.proofs.Shares.{left_in, in_present}
use Rattle.mk_answers.specs.inner.Found.{IsBeliefIn, max_side_grade}
use Rattle.mk_engine.proofs.Found.{pairs_fit, case_is_held}
use Rattle.mk_expect.specs.inner.Parts.{event_at}
use Rattle.mk_expect.specs.inner.Shares.{IsShare, HasWhole}

-- a belief in an event is in the weight of its states
pub event_in : (network : List Variable) (tree : GivenTree) (H : List Entry) → IsNetwork network
    → length (trades H) ≤ max_market_trades → (event : List Pair) (belief : Held)
    → IsBelief HeldEncloses HasHeldGrade IsHeldExact ◌+◌ (weights_of network tree H) event belief
    → IsBeliefIn belief (IsSmall network H) (total network H (holds event))
event_in network tree H legal few event belief b =
    let room = (factors_are_few network tree H 0 legal few).0 in
    record {
      encloses = subst (HeldEncloses belief) (belief_is_total network tree H event) b.value;
      grade = held_grade_more belief (length (weights_of network tree H).factors + max_grade)
          max_side_grade b.grade (omega (arith, room));
      exact = λ s. b.exact (weights_are_small network tree H s);
    }

-- an event weighs no more than everything
pub part_at_most : (network : List Variable) (H : List Entry) (event : List Pair)
    → total network H (holds event) ≤ total network H always
part_at_most network H event = let e = total_always network H event in omega (arith, e)

pub no_share : (part whole : ℕ) → part ≡ 0 → IsShare (0, 0) part whole
no_share part whole none = record { below = omega arith; above = omega (arith, none) }

-- two bounds of a share are in order
pub share_order : (low high part whole : ℕ) → 1 ≤ whole → IsShare (low, high) part whole
    → low ≤ high
share_order low high part whole some s =
    le_of_mul-le-mul_right {k = whole} (le_trans s.below s.above) some

-- what `parts` says of an event and everything
pub record ArePartsOf (part whole : Enclosure) (low high : ℕ) : Type 0 where
  pub below : (v w : ℕ) → Encloses part v → Encloses whole w → low * w ≤ v * 2 ^ 34
  pub above : (v w : ℕ) → Encloses part v → Encloses whole w → v ≤ w → v * 2 ^ 34 ≤ high * w

pub share_in : (network : List Variable) (H : List Entry) (event : List Pair)
    (part whole : Enclosure) (low high : ℕ) → ArePartsOf part whole low high
    → IsBeliefIn (Present part) (IsSmall network H) (total network H (holds event))
    → IsBeliefIn (Present whole) (IsSmall network H) (total network H always)
    → IsShare (low, high) (total network H (holds event)) (total network H always)
share_in network H event part whole low high parts of_part of_whole =
    let a = parts.below (total network H (holds event)) (total network H always) of_part.encloses
    of_whole.encloses in
    let b = parts.above (total network H (holds event)) (total network H always) of_part.encloses
    of_whole.encloses (part_at_most network H event) in
    record { below = omega (arith, a); above = omega (arith, b) }

-- ---- what is asked of an engine

pub has_kept : {E : Type 0} (stands_for : E → Meaning → Type 0) (old new : E)
    → ((m : Meaning) → stands_for old m → stands_for new m)
    → (network : List Variable) (tree : GivenTree) (H : List Entry) (whole : Enclosure)
    → HasWhole stands_for old network tree H whole → HasWhole stands_for new network tree H whole
has_kept stands_for old new kept network tree H whole has = record {
  stands = kept (weights_of network tree H) has.stands;
  legal = has.legal;
  few_trades = has.few_trades;
  of_whole = has.of_whole;
}

as_asked : TradeRatio → Asked
as_asked r = record
    { target = record { variable = r.variable; value = 0 }; condition = r.condition }

pub event_fits : (network : List Variable) (r : TradeRatio) (k : ℕ) → IsRatioOf network r
    → k < length r.factors → ArePairsOf network (event_at r k)
unfolding as_asked
event_fits network r k fits l =
    pairs_fit network (as_asked r) k
    (record {
      target = record { variable = fits.variable; value = omega (arith, l, fits.one_each) };
      condition = fits.condition;
    })
    (omega (arith, l, fits.one_each))

pub event_held : (tree : GivenTree) (at : ℕ) (r : TradeRatio) (k : ℕ)
    → IsHeldAt tree at (ratio_pairs r) → IsHeldAt tree at (event_at r k)
unfolding as_asked
event_held tree at r k h = case_is_held tree at (as_asked r) k (event_at r k) refl h

-- the belief in no pair at all is the whole
pub has_whole : {E : Type 0} (stands_for : E → Meaning → Type 0) (old new : E)
    → ((m : Meaning) → stands_for old m → stands_for new m)
    → (network : List Variable) (tree : GivenTree) (H : List Entry) (event : List Pair)
    (belief : Held) (whole : Enclosure) → event ≡ [] → belief ≡ Present whole
    → stands_for old (weights_of network tree H) → IsNetwork network
    → length (trades H) ≤ max_market_trades
    → IsBelief HeldEncloses HasHeldGrade IsHeldExact ◌+◌ (weights_of network tree H) event belief
    → HasWhole stands_for new network tree H whole
has_whole stands_for old new kept network tree H event belief whole none is stands legal few b =
    record {
      stands = kept (weights_of network tree H) stands;
      legal = legal;
      few_trades = few;
      of_whole = in_present belief whole (IsSmall network H) (total network H always) is
          (left_in network tree H legal few event belief none b);
    }
