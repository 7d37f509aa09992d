-- A fair and solvent list makes a safe trade.
use Rattle.std.proofs.Common.{◌≡◌, ℕ, ◌+◌, ◌*◌, ◌^◌, ◌<◌, ◌≤◌, Bool, true, false, cond, eqb, ◌&&◌, List, [], ◌∷◌, length, slice_index, sum, All, arith, mul-le-mul_right, eq-eqb, refl}
use Rattle.std.specs.List.{AllByRecursion}
use Rattle.std.proofs.lemmas.Bool.{and_from, and_parts}
use Rattle.std.proofs.lemmas.List.Elements.{All-from_recursion}
use Rattle.mk_net.specs.Bounds.{million}
use Rattle.mk_net.specs.Network.{Variable, sizes}
use Rattle.mk_states.specs.States.{IsState}
use Rattle.mk_states.specs.InitialWeight.{all_states, value_at}
use Rattle.mk_states.specs.Events.{holds, with_target}
use Rattle.mk_states.specs.Ratios.{unit, ratio_at}
use Rattle.mk_exact.specs.History.{Entry, deposited, withdrawn}
use Rattle.mk_exact.specs.Weight.{total, is_possible, possible_states}
use Rattle.mk_exact.specs.Factors.{gain, trade_count, factor, factor_with}
use Rattle.mk_exact.specs.Prices.{IsSolvent}
use Rattle.mk_exact.specs.Accepted.{IsSafeTrade}
use Rattle.mk_states.proofs.Sums.{each_kept, kept_each, each_weaker, each_both}
use Rattle.mk_states.proofs.Listed.{all_are, value_below}
use Rattle.mk_exact.proofs.Totals.{traded_sum}
use Rattle.mk_exact.proofs.Solvent.{least_each, solvent_up}
use Rattle.mk_spread.specs.Spreads.{SpreadAsked, asked_of, spread_ratio}
use Rattle.mk_spread.specs.Markets.{IsFairList}
use Rattle.mk_spread.proofs.Fair.{listed_fair, listed_solvent, listed_lengths}
use Rattle.mk_spread.proofs.Summed.{part_of, traded_by_value, sum_within}

-- what holds at each number holds, of each element, at each number
at_each : {X : Type 0} (Q : ℕ → X → Type 0) (n : ℕ) (xs : List X) → ((k : ℕ) → k < n → AllByRecursion (Q k) xs) → AllByRecursion (λ x. (k : ℕ) → k < n → Q k x) xs
at_each Q n [] h = tt
at_each Q n (x ∷ xs) h = (λ k p. (h k p).0, at_each Q n xs (λ k p. (h k p).1))

units_where : (P : ℕ → Type 0) (h : Bool) (units rest : ℕ) → h ≡ true → P units → P (cond h units rest)
units_where P true units rest e p = p
units_where P false units rest e p = absurd (cc)

pub within_million : (n s c : ℕ) → n * million ≤ s * c → s ≤ million → n ≤ c
within_million n s c p q =
    let l : s * c ≤ million * c = mul-le-mul_right c q in
    omega arith

module _ (network : List Variable) (H : List Entry) (u : ℕ) (spread : SpreadAsked) (Xs Fs : List ℕ) (within : spread.variable < length network) (list : IsFairList network H u spread Xs Fs) where
  -- the weights that the trade makes are within what the shares take of a million
  pub traded_within : traded_sum network H (spread_ratio spread Fs) (holds spread.condition) * million ≤ sum Xs * (unit * total network H (holds spread.condition))
  traded_within =
      rw (traded_by_value network H spread Fs within, ← (listed_lengths network H u spread Xs Fs list).0)
      (sum_within (λ k. slice_index Fs k * part_of network H spread k) million (unit * total network H (holds spread.condition)) Xs 0 each)
    where
      each : (k : ℕ) → k < length Xs → slice_index Fs (0 + k) * part_of network H spread (0 + k) * million ≤ slice_index Xs k * (unit * total network H (holds spread.condition))
      each k p =
          let same : 0 + k ≡ k = omega arith in
          let fair = (listed_fair network H u spread Xs Fs list k (omega (arith, (listed_lengths network H u spread Xs Fs list).0))).not_above in
          rw same (omega (arith, fair))

  bounded : sum Xs ≤ million → traded_sum network H (spread_ratio spread Fs) (holds spread.condition) ≤ total network H (holds spread.condition) * unit
  bounded h =
      let l = within_million _ _ _ traded_within h in
      omega (arith, l)

  -- each state with a value bears the units of the value
  value_solvent : (k : ℕ) → k < slice_index (sizes network) spread.variable
      → AllByRecursion (λ s. (is_possible H s && with_target (asked_of spread k) s) ≡ true → IsSolvent (slice_index Fs k) (factor H u s)) (all_states network)
  value_solvent k p = each_kept (λ s. is_possible H s && with_target (asked_of spread k) s) (λ s. IsSolvent (slice_index Fs k) (factor H u s)) (all_states network)
      (All-from_recursion (λ s. IsSolvent (slice_index Fs k) (factor H u s)) (possible_states network H (with_target (asked_of spread k)))
      (least_each (gain H u) (λ g. IsSolvent (slice_index Fs k) (factor_with H u g)) (λ a b. solvent_up (slice_index Fs k) (2 ^ withdrawn H u * unit ^ trade_count H u) (2 ^ deposited H u) a b)
      (possible_states network H (with_target (asked_of spread k))) (listed_solvent network H u spread Xs Fs list k p)))

  state_solvent : (s : List ℕ) → IsState (sizes network) s
      → ((k : ℕ) → k < slice_index (sizes network) spread.variable → (is_possible H s && with_target (asked_of spread k) s) ≡ true → IsSolvent (slice_index Fs k) (factor H u s))
      → (is_possible H s && holds spread.condition s) ≡ true → IsSolvent (ratio_at (spread_ratio spread Fs) s) (factor H u s)
  state_solvent s is_state each passes =
      let parts = and_parts (is_possible H s) (holds spread.condition s) passes in
      units_where (λ n. IsSolvent n (factor H u s)) (holds spread.condition s) (slice_index Fs (value_at s spread.variable)) unit parts.1
      (each (value_at s spread.variable) (value_below network spread.variable s within is_state)
      (and_from (is_possible H s) (with_target (asked_of spread (value_at s spread.variable)) s) parts.0
      (and_from (holds spread.condition s) (eqb (value_at s spread.variable) (value_at s spread.variable)) parts.1 (eq-eqb (value_at s spread.variable) (value_at s spread.variable) refl))))

  solvent : All (λ s. IsSolvent (ratio_at (spread_ratio spread Fs) s) (factor H u s)) (possible_states network H (holds spread.condition))
  solvent = kept_each (λ s. is_possible H s && holds spread.condition s) (λ s. IsSolvent (ratio_at (spread_ratio spread Fs) s) (factor H u s)) (all_states network)
      (each_weaker (λ s. IsState (sizes network) s × Each s) Solvent (λ s h. state_solvent s h.0 h.1) (all_states network)
      (each_both (IsState (sizes network)) Each (all_states network) (all_are network)
      (at_each Value (slice_index (sizes network) spread.variable) (all_states network) value_solvent)))
    where
      Value : ℕ → List ℕ → Type 0
      Value k s = (is_possible H s && with_target (asked_of spread k) s) ≡ true → IsSolvent (slice_index Fs k) (factor H u s)

      Each : List ℕ → Type 0
      Each s = (k : ℕ) → k < slice_index (sizes network) spread.variable → Value k s

      Solvent : List ℕ → Type 0
      Solvent s = (is_possible H s && holds spread.condition s) ≡ true → IsSolvent (ratio_at (spread_ratio spread Fs) s) (factor H u s)

  pub fair_list_is_safe : sum Xs ≤ million → IsSafeTrade network H u (spread_ratio spread Fs)
  fair_list_is_safe h = record { bounded = bounded h; solvent = solvent }
