-- Each acceptable change leads from a sound market to a sound one.
use Rattle.std.proofs.Common.{◌≡◌, ℕ, ◌*◌, ◌^◌, ◌≤◌, Bool, true, false, cond, ◌&&◌, ◌⊎◌, inl, inr, List, [], ◌∷◌, ◌++◌, None, IfSome, All, length, sum_by, refl, sym, ap, ap₂, ◌∙◌, subst, arith, add-zero, add-one, pow-suc, pow-add, mul-le-mul_left, le_trans, le_refl, le_of_eq, length-append, ne_eqb, eq-eqb}
use Rattle.std.proofs.Math.Path.{fun_ext}
use Rattle.std.proofs.Math.Nat.{one-le-pow}
use Rattle.std.proofs.lemmas.List.Elements.{All-from_recursion}
use Rattle.std.proofs.lemmas.List.Sums.{sum_by-le-sum_by}
use Rattle.std.proofs.lemmas.Bool.{and_from, and_parts, cases_eq}
use Rattle.mk_net.specs.declared.words.Pair.{Pair}
use Rattle.mk_net.specs.Network.{Variable}
use Rattle.mk_net.specs.Asked.{TradeRatio}
use Rattle.mk_states.specs.InitialWeight.{all_states, initial_total}
use Rattle.mk_states.specs.Events.{has, always}
use Rattle.mk_states.specs.Ratios.{unit}
use Rattle.mk_exact.specs.History.{Entry, UserTrade, Join, Deposit, Withdraw, Trade, Resolve, Settle, Add, trade_in, resolution_in, bits_in, bits_out, trades, deposited, withdrawn}
use Rattle.mk_exact.specs.Weight.{weight, total, is_possible, possible_states}
use Rattle.mk_exact.specs.Factors.{gain, trade_count, factor, factor_with, least_gain, IsAtLeastOne}
use Rattle.mk_exact.specs.Sound.{IsSound}
use Rattle.mk_exact.specs.Accepted.{Covers, IsSafeTrade, IsAcceptable}
use Rattle.mk_states.proofs.Sums.{each_kept, kept_each, each_weaker}
use Rattle.mk_exact.proofs.After.{trades_kept, trades_more, trades_of_kept, trades_of_other, weight_kept, possible_kept, possible_resolved, factor_kept, factor_moved}
use Rattle.mk_exact.proofs.Totals.{total_is}
use Rattle.mk_exact.proofs.Fair.{total_bounded}
use Rattle.mk_exact.proofs.Solvent.{trade_solvent, least_each}

-- totals after a change that is no trade
pub total_kept : (network : List Variable) (H : List Entry) (e : Entry) (test : List ℕ → Bool) → trade_in e ≡ None → resolution_in e ≡ None
    → total network (H ++ e ∷ []) test ≡ total network H test
total_kept network H e test q r =
    total_is network (H ++ e ∷ []) test
    ∙ ap (λ (f : List ℕ → ℕ). sum_by f (all_states network)) (fun_ext (λ s. ap₂ (λ (b : Bool) (w : ℕ). cond (b && test s) w 0) (possible_kept H e s r) (weight_kept network H e s q)))
    ∙ sym (total_is network H test)

pub total_resolved : (network : List Variable) (H : List Entry) (p : Pair) → total network (H ++ Resolve p ∷ []) always ≤ total network H always
total_resolved network H p = rw (total_is network (H ++ Resolve p ∷ []) always, total_is network H always)
    (sum_by-le-sum_by _ _ (all_states network) (λ s. rw (possible_resolved H p s, weight_kept network H (Resolve p) s refl) (fewer (is_possible H s) (has p s) (weight network H s))))
  where
    fewer : (a b : Bool) (w : ℕ) → cond ((a && (b && true)) && true) w 0 ≤ cond (a && true) w 0
    fewer false b w = le_refl 0
    fewer true true w = le_refl w
    fewer true false w = omega arith

-- the bound on the total
bound_kept : (network : List Variable) (H : List Entry) (e : Entry) → trade_in e ≡ None → total network (H ++ e ∷ []) always ≤ total network H always
    → total network H always ≤ initial_total network * unit ^ length (trades H) → total network (H ++ e ∷ []) always ≤ initial_total network * unit ^ length (trades (H ++ e ∷ []))
bound_kept network H e q p h = subst (λ (ts : List UserTrade). total network (H ++ e ∷ []) always ≤ initial_total network * unit ^ length ts) (sym (trades_kept H e q)) (le_trans p h)

bound_traded : (network : List Variable) (H : List Entry) (u : ℕ) (r : TradeRatio) → total network (H ++ Trade u r ∷ []) always ≤ total network H always * unit
    → total network H always ≤ initial_total network * unit ^ length (trades H) → total network (H ++ Trade u r ∷ []) always ≤ initial_total network * unit ^ length (trades (H ++ Trade u r ∷ []))
bound_traded network H u r p h = subst (λ (n : ℕ). total network (H ++ Trade u r ∷ []) always ≤ initial_total network * n) (sym powers) (at_most (initial_total network) (unit ^ length (trades H)) (total network H always) _ h p)
  where
    powers : unit ^ length (trades (H ++ Trade u r ∷ [])) ≡ unit ^ length (trades H) * unit
    powers = ap (λ (ts : List UserTrade). unit ^ length ts) (trades_more H u r) ∙ ap (λ n. unit ^ n) (length-append (trades H) (record { user = u; ratio = r } ∷ []) ∙ add-one (length (trades H))) ∙ pow-suc unit (length (trades H))

    at_most : (z units t t' : ℕ) → t ≤ z * units → t' ≤ t * unit → t' ≤ z * (units * unit)
    at_most z units t t' p q = omega arith

-- solvency, state by state
states_kept : (network : List Variable) (H H' : List Entry) (u : ℕ) → ((s : List ℕ) → is_possible H' s ≡ true → is_possible H s ≡ true)
    → ((s : List ℕ) → IsAtLeastOne (factor H u s) → IsAtLeastOne (factor H' u s))
    → All (λ s. IsAtLeastOne (factor H u s)) (possible_states network H always) → All (λ s. IsAtLeastOne (factor H' u s)) (possible_states network H' always)
states_kept network H H' u fewer more h = kept_each (λ s. is_possible H' s && true) (λ s. IsAtLeastOne (factor H' u s)) (all_states network)
    (each_weaker Before After (λ s before passes. more s (before (and_from (is_possible H s) true (fewer s (and_parts (is_possible H' s) true passes).0) refl))) (all_states network)
    (each_kept (λ s. is_possible H s && true) (λ s. IsAtLeastOne (factor H u s)) (all_states network) h))
  where
    Before : List ℕ → Type 0
    Before s = (is_possible H s && true) ≡ true → IsAtLeastOne (factor H u s)

    After : List ℕ → Type 0
    After s = (is_possible H' s && true) ≡ true → IsAtLeastOne (factor H' u s)

same_possible : (H : List Entry) (e : Entry) → resolution_in e ≡ None → (s : List ℕ) → is_possible (H ++ e ∷ []) s ≡ true → is_possible H s ≡ true
same_possible H e r s p = sym (possible_kept H e s r) ∙ p

same_factor : (H : List Entry) (e : Entry) (u : ℕ) → trade_in e ≡ None → bits_in u e ≡ 0 → bits_out u e ≡ 0 → (s : List ℕ) → IsAtLeastOne (factor H u s) → IsAtLeastOne (factor (H ++ e ∷ []) u s)
same_factor H e u q i o s h = subst IsAtLeastOne (sym (factor_kept H e u s (trades_of_kept H e u q) i o)) h

deposit_factor : (H : List Entry) (v bits u : ℕ) (s : List ℕ) → IsAtLeastOne (factor H u s) → IsAtLeastOne (factor (H ++ Deposit v bits ∷ []) u s)
deposit_factor H v bits u s h = subst IsAtLeastOne (sym (factor_moved H (Deposit v bits) u s refl)) (rw (add-zero (withdrawn H u), pow-add 2 (deposited H u) (bits_in u (Deposit v bits)))
    (more (2 ^ deposited H u) _ (gain H u s) _ (one-le-pow (bits_in u (Deposit v bits)) 2 (omega arith)) h))
  where
    more : (ins x g den : ℕ) → 1 ≤ x → den ≤ ins * g → den ≤ (ins * x) * g
    more ins x g den p q = let r : ins * g * 1 ≤ ins * g * x = mul-le-mul_left (ins * g) p in omega arith

-- a withdrawal of what the user's least factor covers
withdraw_covers : (network : List Variable) (H : List Entry) (u bits : ℕ) → IfSome (least_gain network H u always) (λ g. Covers (factor_with H u g) bits)
    → All (λ s. Covers (factor H u s) bits) (possible_states network H always)
withdraw_covers network H u bits h = All-from_recursion (λ s. Covers (factor H u s) bits) (possible_states network H always)
    (least_each (gain H u) (λ g. Covers (factor_with H u g) bits) (λ a b p q. le_trans q (mul-le-mul_left (2 ^ deposited H u) p)) (possible_states network H always) h)

withdraw_states : (network : List Variable) (H : List Entry) (u bits : ℕ) → All (λ s. Covers (factor H u s) bits) (possible_states network H always)
    → All (λ s. IsAtLeastOne (factor (H ++ Withdraw u bits ∷ []) u s)) (possible_states network (H ++ Withdraw u bits ∷ []) always)
withdraw_states network H u bits h = kept_each (λ s. is_possible (H ++ Withdraw u bits ∷ []) s && true) (λ s. IsAtLeastOne (factor (H ++ Withdraw u bits ∷ []) u s)) (all_states network)
    (each_weaker Before After (λ s before passes. less s (before (and_from (is_possible H s) true (same_possible H (Withdraw u bits) refl s (and_parts (is_possible (H ++ Withdraw u bits ∷ []) s) true passes).0) refl))) (all_states network)
    (each_kept (λ s. is_possible H s && true) (λ s. Covers (factor H u s) bits) (all_states network) h))
  where
    Before : List ℕ → Type 0
    Before s = (is_possible H s && true) ≡ true → Covers (factor H u s) bits

    After : List ℕ → Type 0
    After s = (is_possible (H ++ Withdraw u bits ∷ []) s && true) ≡ true → IsAtLeastOne (factor (H ++ Withdraw u bits ∷ []) u s)

    taken : (out x units num : ℕ) → x * (out * units) ≤ num → (out * x) * units ≤ num
    taken out x units num p = omega arith

    less : (s : List ℕ) → Covers (factor H u s) bits → IsAtLeastOne (factor (H ++ Withdraw u bits ∷ []) u s)
    less s p = subst IsAtLeastOne (sym (factor_moved H (Withdraw u bits) u s refl))
        (rw (eq-eqb u u refl, add-zero (deposited H u), pow-add 2 (withdrawn H u) bits) (taken (2 ^ withdrawn H u) (2 ^ bits) (unit ^ trade_count H u) (2 ^ deposited H u * gain H u s) p))

-- the laws of each change
module _ (network : List Variable) (H : List Entry) (sound : IsSound network H) where
  quiet : (e : Entry) → trade_in e ≡ None → resolution_in e ≡ None → ((u : ℕ) → bits_in u e ≡ 0) → ((u : ℕ) → bits_out u e ≡ 0) → IsSound network (H ++ e ∷ [])
  quiet e q r i o = record {
    solvent = λ u. states_kept network H (H ++ e ∷ []) u (same_possible H e r) (same_factor H e u q (i u) (o u)) (sound.solvent u);
    bounded = bound_kept network H e q (le_of_eq (total_kept network H e always q r)) sound.bounded;
  }

  deposit_sound : (v bits : ℕ) → IsSound network (H ++ Deposit v bits ∷ [])
  deposit_sound v bits = record {
    solvent = λ u. states_kept network H (H ++ Deposit v bits ∷ []) u (same_possible H (Deposit v bits) refl) (deposit_factor H v bits u) (sound.solvent u);
    bounded = bound_kept network H (Deposit v bits) refl (le_of_eq (total_kept network H (Deposit v bits) always refl refl)) sound.bounded;
  }

  withdraw_sound : (v bits : ℕ) → IfSome (least_gain network H v always) (λ g. Covers (factor_with H v g) bits) → IsSound network (H ++ Withdraw v bits ∷ [])
  withdraw_sound v bits h = record {
    solvent = λ u. at u (cases_eq v u);
    bounded = bound_kept network H (Withdraw v bits) refl (le_of_eq (total_kept network H (Withdraw v bits) always refl refl)) sound.bounded;
  }
    where
      at : (u : ℕ) → (v ≡ u) ⊎ (v ≡ u → ⊥) → All (λ s. IsAtLeastOne (factor (H ++ Withdraw v bits ∷ []) u s)) (possible_states network (H ++ Withdraw v bits ∷ []) always)
      at u (inl e) = subst (λ (x : ℕ). All (λ s. IsAtLeastOne (factor (H ++ Withdraw v bits ∷ []) x s)) (possible_states network (H ++ Withdraw v bits ∷ []) always)) e (withdraw_states network H v bits (withdraw_covers network H v bits h))
      at u (inr d) = states_kept network H (H ++ Withdraw v bits ∷ []) u (same_possible H (Withdraw v bits) refl) (same_factor H (Withdraw v bits) u refl refl (rw (ne_eqb v u d) refl)) (sound.solvent u)

  trade_sound : (v : ℕ) (r : TradeRatio) → IsSafeTrade network H v r → IsSound network (H ++ Trade v r ∷ [])
  trade_sound v r safe = record {
    solvent = λ u. at u (cases_eq v u);
    bounded = bound_traded network H v r (total_bounded network H v r safe.bounded) sound.bounded;
  }
    where
      at : (u : ℕ) → (v ≡ u) ⊎ (v ≡ u → ⊥) → All (λ s. IsAtLeastOne (factor (H ++ Trade v r ∷ []) u s)) (possible_states network (H ++ Trade v r ∷ []) always)
      at u (inl e) = subst (λ (x : ℕ). All (λ s. IsAtLeastOne (factor (H ++ Trade v r ∷ []) x s)) (possible_states network (H ++ Trade v r ∷ []) always)) e (trade_solvent network H v r safe.solvent (sound.solvent v))
      at u (inr d) = states_kept network H (H ++ Trade v r ∷ []) u (same_possible H (Trade v r) refl) (λ s h. subst IsAtLeastOne (sym (factor_kept H (Trade v r) u s (trades_of_other H v r u d) refl refl)) h) (sound.solvent u)

  resolve_sound : (p : Pair) → IsSound network (H ++ Resolve p ∷ [])
  resolve_sound p = record {
    solvent = λ u. states_kept network H (H ++ Resolve p ∷ []) u (λ s q. (and_parts (is_possible H s) (has p s && true) (sym (possible_resolved H p s) ∙ q)).0) (same_factor H (Resolve p) u refl refl refl) (sound.solvent u);
    bounded = bound_kept network H (Resolve p) refl (total_resolved network H p) sound.bounded;
  }

pub sound_next : (network : List Variable) (H : List Entry) (e : Entry) → IsSound network H → IsAcceptable network H e → IsSound network (H ++ e ∷ [])
sound_next network H (Join name) sound h = quiet network H sound (Join name) refl refl (λ u. refl) (λ u. refl)
sound_next network H (Deposit u bits) sound h = deposit_sound network H sound u bits
sound_next network H (Withdraw u bits) sound h = withdraw_sound network H sound u bits h
sound_next network H (Trade u r) sound h = trade_sound network H sound u r h
sound_next network H (Resolve p) sound h = resolve_sound network H sound p
sound_next network H (Settle payments) sound h = quiet network H sound (Settle payments) refl refl (λ u. refl) (λ u. refl)
sound_next network H (Add a) sound h = quiet network H sound (Add a) refl refl (λ u. refl) (λ u. refl)
