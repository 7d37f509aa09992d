-- How the meanings begin, and what one more entry does to them.
use Rattle.std.proofs.Common.{◌≡◌, ℕ, ◌+◌, ◌≤◌, Bool, true, false, cond, ◌⊎◌, inl, inr, eqb, List, [], ◌∷◌, ◌++◌, map, length, filter, None, refl, sym, ap, ap₂, ◌∙◌, arith, append-nil, append_assoc, length-append, eq-eqb, ne_eqb}
use Rattle.std.specs.List.{AllByRecursion}
use Rattle.std.proofs.lemmas.Bool.{cases_eq}
use Rattle.std.proofs.lemmas.List.{map-append, length-map}
use Rattle.std.proofs.lemmas.List.FromFn.{length-map-range_with_len, length-range_with_len}
use Rattle.mk_net.specs.declared.words.Pair.{Pair}
use Rattle.mk_net.specs.Bounds.{max_variables, max_market_trades}
use Rattle.mk_net.specs.Network.{Variable, IsNetwork}
use Rattle.mk_net.specs.Zeros.{has_zero, with_zeros}
use Rattle.mk_states.specs.States.{numbers_below}
use Rattle.mk_exact.specs.History.{Entry, Join, Deposit, Withdraw, Trade, Resolve, Settle, Add, UserTrade, trade_in, resolution_in, users, trades, trades_of, resolutions}
use Rattle.mk_exact.specs.Proper.{IsProper, IsTradeOf}
use Rattle.mk_exact.proofs.After.{trades_kept, trades_more, resolutions_kept, resolutions_more, trades_of_kept, trades_of_more, trades_of_other}
use Rattle.mk_tree.specs.Given.{GivenTree}
use Rattle.mk_engine.specs.Meaning.{Meaning, Factor, RowsOf, SupportOf, RatioOf, max_factors}
use Rattle.mk_beliefs.specs.Meanings.{weights_of, gains_of, grown, grown_for}

factors_of : List UserTrade → List Factor
factors_of ts = map (λ (t : UserTrade). RatioOf t.ratio) ts

factors_more : (ts : List UserTrade) (t : UserTrade) → factors_of (ts ++ t ∷ []) ≡ factors_of ts ++ RatioOf t.ratio ∷ []
unfolding factors_of
factors_more ts t = map-append (λ (t : UserTrade). RatioOf t.ratio) ts (t ∷ [])

module _ (network : List Variable) (tree : GivenTree) where
  -- the meanings with these trades, and these pairs known
  weights_with : List UserTrade → List Pair → Meaning
  unfolding factors_of
  weights_with ts known = record { network = network; tree = tree; factors = map RowsOf (numbers_below (length network)) ++ factors_of ts; known = known }

  gains_with : List UserTrade → List Pair → Meaning
  unfolding factors_of
  gains_with ts known = record { network = network; tree = tree; factors = map SupportOf (with_zeros network) ++ factors_of ts; known = known }

  module _ (H : List Entry) where
    weights_kept : (e : Entry) → trade_in e ≡ None → resolution_in e ≡ None → weights_of network tree (H ++ e ∷ []) ≡ weights_of network tree H
    unfolding factors_of weights_with
    weights_kept e t r = ap₂ weights_with (trades_kept H e t) (resolutions_kept H e r)

    pub weights_grow : (e : Entry) → weights_of network tree (H ++ e ∷ []) ≡ grown e (weights_of network tree H)
    unfolding factors_of weights_with
    weights_grow (Join name) = weights_kept (Join name) refl refl
    weights_grow (Deposit user bits) = weights_kept (Deposit user bits) refl refl
    weights_grow (Withdraw user bits) = weights_kept (Withdraw user bits) refl refl
    weights_grow (Trade user ratio) =
        ap₂ weights_with (trades_more H user ratio) (resolutions_kept H (Trade user ratio) refl)
        ∙ ap (λ (fs : List Factor). record { network = network; tree = tree; factors = fs; known = resolutions H })
        (ap (λ (fs : List Factor). map RowsOf (numbers_below (length network)) ++ fs) (factors_more (trades H) (record { user = user; ratio = ratio }))
        ∙ sym (append_assoc (map RowsOf (numbers_below (length network))) (factors_of (trades H)) (RatioOf ratio ∷ [])))
    weights_grow (Resolve pair) = ap₂ weights_with (trades_kept H (Resolve pair) refl) (resolutions_more H pair)
    weights_grow (Settle payments) = weights_kept (Settle payments) refl refl
    weights_grow (Add addition) = weights_kept (Add addition) refl refl

    gains_kept : (u : ℕ) (e : Entry) → trade_in e ≡ None → resolution_in e ≡ None → gains_of network tree (H ++ e ∷ []) u ≡ gains_of network tree H u
    unfolding factors_of gains_with
    gains_kept u e t r = ap₂ gains_with (trades_of_kept H e u t) (resolutions_kept H e r)

    pub gains_grow : (u : ℕ) (e : Entry) → gains_of network tree (H ++ e ∷ []) u ≡ grown_for u e (gains_of network tree H u)
    unfolding factors_of gains_with
    gains_grow u (Join name) = gains_kept u (Join name) refl refl
    gains_grow u (Deposit user bits) = gains_kept u (Deposit user bits) refl refl
    gains_grow u (Withdraw user bits) = gains_kept u (Withdraw user bits) refl refl
    gains_grow u (Trade user ratio) = at (cases_eq user u)
      where
        at : ((user ≡ u) ⊎ (user ≡ u → ⊥)) → gains_of network tree (H ++ Trade user ratio ∷ []) u ≡ grown_for u (Trade user ratio) (gains_of network tree H u)
        at (inl e) =
            ap₂ gains_with (trades_of_more H user ratio u e) (resolutions_kept H (Trade user ratio) refl)
            ∙ ap (λ (fs : List Factor). record { network = network; tree = tree; factors = fs; known = resolutions H })
            (ap (λ (fs : List Factor). map SupportOf (with_zeros network) ++ fs) (factors_more (trades_of H u) (record { user = user; ratio = ratio }))
            ∙ sym (append_assoc (map SupportOf (with_zeros network)) (factors_of (trades_of H u)) (RatioOf ratio ∷ [])))
            ∙ (rw (eq-eqb user u e) refl)
        at (inr d) =
            ap₂ gains_with (trades_of_other H user ratio u d) (resolutions_kept H (Trade user ratio) refl)
            ∙ (rw (ne_eqb user u d) refl)
    gains_grow u (Resolve pair) = ap₂ gains_with (trades_of_kept H (Resolve pair) u refl) (resolutions_more H pair)
    gains_grow u (Settle payments) = gains_kept u (Settle payments) refl refl
    gains_grow u (Add addition) = gains_kept u (Add addition) refl refl

    none_of : (n : ℕ) (ts : List UserTrade) → AllByRecursion (IsTradeOf network n) ts → filter (λ (t : UserTrade). eqb t.user n) ts ≡ []
    none_of n [] h = refl
    none_of n (t ∷ ts) h = rw (ne_eqb t.user n (λ e. let below = h.0.user in omega arith)) (none_of n ts h.1)

    pub newcomer_has_none : IsProper network H → gains_of network tree H (length (users H)) ≡ record { network = network; tree = tree; factors = map SupportOf (with_zeros network); known = resolutions H }
    unfolding factors_of gains_with
    newcomer_has_none proper = ap (λ (ts : List UserTrade). gains_with ts (resolutions H)) (none_of (length (users H)) (trades H) proper.trades_fit)
        ∙ ap (λ (fs : List Factor). record { network = network; tree = tree; factors = fs; known = resolutions H }) (append-nil (map SupportOf (with_zeros network)))

    some_of : {X : Type 0} (p : X → Bool) (xs : List X) → length (filter p xs) ≤ length xs
    some_of p [] = omega arith
    some_of {X} p (x ∷ xs) = at (p x) (some_of p xs)
      where
        at : (b : Bool) → length (filter p xs) ≤ length xs → length (cond b (x ∷ filter p xs) (filter p xs)) ≤ length (x ∷ xs)
        at true l = omega arith
        at false l = omega arith

    -- at most one factor for each variable, and one for each trade
    pub factors_by_trades : (u : ℕ) → IsNetwork network
        → (length (weights_of network tree H).factors ≤ max_variables + length (trades H))
        × (length (gains_of network tree H u).factors ≤ max_variables + length (trades H))
    factors_by_trades u net =
        let ratio : UserTrade → Factor = λ (t : UserTrade). RatioOf t.ratio in
        let both = length-append (map RowsOf (numbers_below (length network))) (map ratio (trades H)) in
        let rows = length-map-range_with_len RowsOf 0 (length network) in
        let all = length-map (trades H) ratio in
        let own = length-map (trades_of H u) ratio in
        let zeros = length-append (map SupportOf (with_zeros network)) (map ratio (trades_of H u)) in
        let supports = length-map (with_zeros network) SupportOf in
        let few_supports = some_of (has_zero network) (numbers_below (length network)) in
        let numbers = length-range_with_len 0 (length network) in
        let part = some_of (λ (t : UserTrade). eqb t.user u) (trades H) in
        (omega (arith, both, rows, all, net.few), omega (arith, own, part, zeros, supports, few_supports, numbers, net.few))

    pub factors_are_few : (u : ℕ) → IsNetwork network → length (trades H) ≤ max_market_trades
        → (length (weights_of network tree H).factors ≤ max_factors) × (length (gains_of network tree H u).factors ≤ max_factors)
    factors_are_few u net few =
        let by = factors_by_trades u net in
        (omega (arith, by.0, few), omega (arith, by.1, few))

  pub opening_is_rows : (u : ℕ) → (weights_of network tree [] ≡ record { network = network; tree = tree; factors = map RowsOf (numbers_below (length network)); known = [] })
      × (gains_of network tree [] u ≡ record { network = network; tree = tree; factors = map SupportOf (with_zeros network); known = [] })
  opening_is_rows u = (
    ap (λ (fs : List Factor). record { network = network; tree = tree; factors = fs; known = [] }) (append-nil (map RowsOf (numbers_below (length network)))),
    ap (λ (fs : List Factor). record { network = network; tree = tree; factors = fs; known = [] }) (append-nil (map SupportOf (with_zeros network))),
  )
