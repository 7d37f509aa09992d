-- The supports of a network's variables as factors: few, of its variables, and none of them a trade.
use Rattle.std.proofs.Common.{◌≡◌, ℕ, ◌+◌, ◌<◌, ◌≤◌, Bool, true, false, cond, List, [], ◌∷◌, map, filter, length, slice_index, refl, arith}
use Rattle.std.specs.List.{count_by, range_with_len}
use Rattle.std.proofs.lemmas.List.Elements.{All-from_recursion}
use Rattle.std.proofs.lemmas.List.FromFn.{length-range_with_len}
use Rattle.mk_net.specs.Network.{Variable}
use Rattle.mk_net.specs.Zeros.{has_zero, with_zeros}
use Rattle.mk_states.proofs.Sums.{each_below}
use Rattle.mk_engine.specs.Meaning.{SupportOf, is_ratio}

-- no support is a trade
pub no_trades : (ks : List ℕ) → count_by is_ratio (map SupportOf ks) ≡ 0
no_trades [] = refl
no_trades (k ∷ ks) = no_trades ks

kept_few : (p : ℕ → Bool) (ks : List ℕ) → length (filter p ks) ≤ length ks
kept_few p [] = omega arith
kept_few p (k ∷ ks) = at (p k) (kept_few p ks)
  where
    at : (b : Bool) → length (filter p ks) ≤ length ks → length (cond b (k ∷ filter p ks) (filter p ks)) ≤ length (k ∷ ks)
    at true h = omega arith
    at false h = omega arith

-- a variable with a share of nothing is one of the network's
pub zero_within : (network : List Variable) (i : ℕ) → i < length (with_zeros network) → slice_index (with_zeros network) i < length network
zero_within network i h = let below = All-from_recursion (λ k. k < 0 + length network) (with_zeros network) (each_below (has_zero network) 0 (length network)) i 0 h in omega (arith, below)

pub few_zeros : (network : List Variable) → length (with_zeros network) ≤ length network
few_zeros network = omega (arith, kept_few (has_zero network) (range_with_len 0 (length network)), length-range_with_len 0 (length network))
