-- The revision of a bounded history is a number of 63 bits.
use Rattle.std.proofs.Common.{◌≡◌, ℕ, ◌+◌, ◌^◌, ◌<◌, ◌≤◌, Bool, true, false, ◌||◌, eqb, List, [], ◌∷◌, length, refl, arith}
use Rattle.std.specs.Prelude.{◌==◌}
use Rattle.std.specs.List.{AllByRecursion, IsDistinct, count_by, list_any}
use Rattle.std.proofs.lemmas.Bool.{eqb-true}
use Rattle.std.proofs.lemmas.List.{length-map}
use Rattle.std.proofs.lemmas.Map.Steps.{length-le_from_distinct_below}
use Rattle.mk_net.specs.declared.words.Pair.{Pair}
use Rattle.mk_net.specs.Events.{speaks_of, AreApart}
use Rattle.mk_net.specs.Network.{Variable}
use Rattle.mk_net.proofs.Taken.{neither_of}
use Rattle.mk_exact.specs.History.{Entry, Join, Deposit, Withdraw, Trade, Resolve, Settle, Add}
use Rattle.mk_exact.specs.History.{users, trades, resolutions, additions, is_transfer, is_settlement}
use Rattle.mk_exact.specs.History.{revision}
use Rattle.mk_exact.specs.Market.{Market}
use Rattle.mk_states.specs.OfNetwork.{IsPairOf}
use Rattle.mk_exact.specs.Proper.{IsProper}
use Rattle.mk_rules.specs.Refusals.{variables_in}
use Rattle.mk_rules.specs.Standings.{IsMarket, Stands}
use Rattle.mk_rules.specs.Bounded.{IsBounded}
use Rattle.mk_rules.proofs.Bounds.{count_first}

-- each entry is of one kind
kinds : (H : List Entry) → length H ≡ length (users H) + count_by is_transfer H + length (trades H)
    + length (resolutions H) + count_by is_settlement H + length (additions H)
kinds [] = omega arith
kinds (Join name ∷ H) = omega (arith, kinds H)
kinds (Deposit user bits ∷ H) = omega (arith, kinds H, count_first is_transfer (Deposit user bits) H)
kinds (Withdraw user bits ∷ H) = omega (arith, kinds H, count_first is_transfer (Withdraw user bits) H)
kinds (Trade user ratio ∷ H) = omega (arith, kinds H)
kinds (Resolve pair ∷ H) = omega (arith, kinds H)
kinds (Settle payments ∷ H) = omega (arith, kinds H, count_first is_settlement (Settle payments) H)
kinds (Add addition ∷ H) = omega (arith, kinds H)

-- no two pairs that are apart have one variable
others : (variable : ℕ) (pairs : List Pair) → speaks_of pairs variable ≡ false → AllByRecursion (λ other. eqb variable other ≡ false) (variables_in pairs)
others variable [] h = tt
others variable (p ∷ pairs) h = let parts = neither_of (variable == p.variable) (speaks_of pairs variable) h in (parts.0, others variable pairs parts.1)

distinct : (pairs : List Pair) → AreApart pairs → IsDistinct eqb (variables_in pairs)
unfolding IsDistinct
distinct [] h = tt
distinct (p ∷ pairs) h = (others p.variable pairs h.0, distinct pairs h.1)

below : (network : List Variable) (pairs : List Pair) → AllByRecursion (IsPairOf network) pairs → (q : ℕ) → list_any (eqb q) (variables_in pairs) ≡ true → q < length network
below network [] fits q h = absurd (cc)
below network (p ∷ pairs) fits q h = at (eqb q p.variable) (eqb-true q p.variable) h (below network pairs fits.1 q)
  where
    at : (b : Bool) → (b ≡ true → q ≡ p.variable) → (b || list_any (eqb q) (variables_in pairs)) ≡ true
        → (list_any (eqb q) (variables_in pairs) ≡ true → q < length network) → q < length network
    at true same h later = let is = same refl in let inside = fits.0.variable in omega arith
    at false same h later = later h

pub few_resolutions : (network : List Variable) (H : List Entry) → IsProper network H → length (resolutions H) ≤ length network
few_resolutions network H proper =
    let few : length (variables_in (resolutions H)) ≤ length network = length-le_from_distinct_below (variables_in (resolutions H)) (length network)
    (distinct (resolutions H) proper.resolved_once) (below network (resolutions H) proper.resolutions_fit) in
    omega (arith, length-map (resolutions H) (λ (p : Pair). p.variable))

pub revision_fits : (market : Market) (H : List Entry) → IsMarket market → Stands market H → IsBounded market H → revision H + 1 < 2 ^ 63
revision_fits market H is_market stands bounded =
    let few = few_resolutions market.network H stands.proper in
    omega (
      arith,
      kinds H,
      bounded.few_users,
      bounded.within.few_transfers,
      bounded.within.few_trades,
      few,
      is_market.network.few,
      stands.few_added,
      bounded.settled_once,
    )
