-- Each change in range leads from a proper history to a proper one; and pairs that are fair and solvent.
use Rattle.std.proofs.Common.{◌≡◌, ℕ, ◌+◌, ◌-◌, ◌^◌, ◌≤◌, true, false, ◌&&◌, List, [], ◌∷◌, ◌++◌, Option, Some, None, IfSome, IsSomeAnd, Bool, length, filter, refl, sym, ap, ◌∙◌, subst, arith, length-append}
use Rattle.std.proofs.Math.Path.{fun_ext}
use Rattle.std.specs.List.{AllByRecursion}
use Rattle.mk_net.specs.declared.words.Pair.{Pair}
use Rattle.mk_net.specs.Network.{Variable, IsNetwork}
use Rattle.mk_net.specs.Asked.{Asked, TradeRatio}
use Rattle.mk_net.specs.Events.{speaks_of, AreApart}
use Rattle.mk_net.proofs.Events.{apart_longer}
use Rattle.mk_states.specs.Events.{has, always, with_target, without_target}
use Rattle.mk_states.specs.InitialWeight.{all_states}
use Rattle.mk_exact.specs.History.{Entry, UserTrade, Join, Deposit, Withdraw, Trade, Resolve, Settle, Add, trade_in, resolution_in, join_in, users, trades, resolutions}
use Rattle.mk_exact.specs.Weight.{IsSmall, is_possible, possible_states}
use Rattle.mk_exact.specs.Factors.{factor_with, least_gain}
use Rattle.mk_exact.specs.Prices.{IsFair, IsSolvent, price_where}
use Rattle.mk_exact.specs.Limits.{Side, IsFairAndSolvent}
use Rattle.mk_exact.specs.Sides.{IsSide, IsFairPair, ratio_in}
use Rattle.mk_states.specs.OfNetwork.{IsPairOf}
use Rattle.mk_exact.specs.Proper.{IsTradeOf, IsProper}
use Rattle.mk_exact.specs.Accepted.{IsSafeTrade, IsInRange}
use Rattle.mk_states.proofs.Sums.{each_weaker, each-append}
use Rattle.mk_exact.proofs.After.{trades_kept, trades_more, resolutions_kept, resolutions_more, users_kept, users_more, possible_kept, possible_resolved}
use Rattle.mk_exact.proofs.Fair.{fair_bounded}
use Rattle.mk_exact.proofs.Solvent.{pair_solvent}
use Rattle.mk_exact.proofs.Single.{filter_every}
use Rattle.mk_exact.proofs.Comes.{some_can}

trade_later : (network : List Variable) (m n : ℕ) → m ≤ n → (t : UserTrade) → IsTradeOf network m t → IsTradeOf network n t
trade_later network m n p t h = record { user = omega (arith, h.user); ratio = h.ratio }

-- the parts of a proper history, by what is read off it
Fits : List Variable → ℕ → List UserTrade → Type 0
Fits network n ts = AllByRecursion (IsTradeOf network n) ts

trades_fit_kept : (network : List Variable) (H : List Entry) (e : Entry) → trade_in e ≡ None → length (users H) ≤ length (users (H ++ e ∷ []))
    → AllByRecursion (IsTradeOf network (length (users H))) (trades H) → AllByRecursion (IsTradeOf network (length (users (H ++ e ∷ [])))) (trades (H ++ e ∷ []))
unfolding Fits
trades_fit_kept network H e q p h = subst (Fits network (length (users (H ++ e ∷ [])))) (sym (trades_kept H e q))
    (each_weaker (IsTradeOf network (length (users H))) (IsTradeOf network (length (users (H ++ e ∷ [])))) (trade_later network (length (users H)) (length (users (H ++ e ∷ []))) p) (trades H) h)

resolutions_fit_kept : (network : List Variable) (H : List Entry) (e : Entry) → resolution_in e ≡ None
    → AllByRecursion (IsPairOf network) (resolutions H) → AllByRecursion (IsPairOf network) (resolutions (H ++ e ∷ []))
resolutions_fit_kept network H e q h = subst (AllByRecursion (IsPairOf network)) (sym (resolutions_kept H e q)) h

resolved_once_kept : (H : List Entry) (e : Entry) → resolution_in e ≡ None → AreApart (resolutions H) → AreApart (resolutions (H ++ e ∷ []))
resolved_once_kept H e q h = subst AreApart (sym (resolutions_kept H e q)) h

-- the states that are left
left_kept : (network : List Variable) (H : List Entry) (e : Entry) → resolution_in e ≡ None → 1 ≤ length (possible_states network H always) → 1 ≤ length (possible_states network (H ++ e ∷ []) always)
left_kept network H e q h = subst (λ (p : List ℕ → Bool). 1 ≤ length (filter p (all_states network))) (fun_ext (λ s. ap (λ (b : Bool). b && true) (sym (possible_kept H e s q)))) h

left_resolved : (network : List Variable) (H : List Entry) (p : Pair) → 1 ≤ length (possible_states network H (has p)) → 1 ≤ length (possible_states network (H ++ Resolve p ∷ []) always)
left_resolved network H p h = subst (λ (q : List ℕ → Bool). 1 ≤ length (filter q (all_states network))) (fun_ext (λ s. plain (is_possible H s) (has p s) ∙ ap (λ (b : Bool). b && true) (sym (possible_resolved H p s)))) h
  where
    plain : (a b : Bool) → (a && b) ≡ ((a && (b && true)) && true)
    plain true true = refl
    plain true false = refl
    plain false b = refl

no_fewer_users : (H : List Entry) (e : Entry) → join_in e ≡ None → length (users H) ≤ length (users (H ++ e ∷ []))
no_fewer_users H e q = let same : length (users (H ++ e ∷ [])) ≡ length (users H) = ap length (users_kept H e q) in omega arith

module _ (network : List Variable) (H : List Entry) (proper : IsProper network H) where
  quiet : (e : Entry) → join_in e ≡ None → trade_in e ≡ None → resolution_in e ≡ None → IsProper network (H ++ e ∷ [])
  quiet e j q r = record {
    trades_fit = trades_fit_kept network H e q (no_fewer_users H e j) proper.trades_fit;
    resolutions_fit = resolutions_fit_kept network H e r proper.resolutions_fit;
    resolved_once = resolved_once_kept H e r proper.resolved_once;
    some_left = left_kept network H e r proper.some_left;
  }

  join_proper : (name : List ℕ) → IsProper network (H ++ Join name ∷ [])
  join_proper name = record {
    trades_fit = trades_fit_kept network H (Join name) refl (let more : length (users (H ++ Join name ∷ [])) ≡ length (users H) + 1 = ap length (users_more H name) ∙ length-append (users H) (name ∷ []) in omega arith) proper.trades_fit;
    resolutions_fit = resolutions_fit_kept network H (Join name) refl proper.resolutions_fit;
    resolved_once = resolved_once_kept H (Join name) refl proper.resolved_once;
    some_left = left_kept network H (Join name) refl proper.some_left;
  }

  trade_proper : (u : ℕ) (r : TradeRatio) → IsTradeOf network (length (users H)) (record { user = u; ratio = r }) → IsProper network (H ++ Trade u r ∷ [])
  unfolding Fits
  trade_proper u r h = record {
    trades_fit = subst (λ (n : ℕ). Fits network n (trades (H ++ Trade u r ∷ []))) (sym (ap length (users_kept H (Trade u r) refl)))
        (subst (Fits network (length (users H))) (sym (trades_more H u r)) (each-append (IsTradeOf network (length (users H))) (trades H) (record { user = u; ratio = r } ∷ []) proper.trades_fit (h, tt)));
    resolutions_fit = resolutions_fit_kept network H (Trade u r) refl proper.resolutions_fit;
    resolved_once = resolved_once_kept H (Trade u r) refl proper.resolved_once;
    some_left = left_kept network H (Trade u r) refl proper.some_left;
  }

  resolve_proper : (p : Pair) → IsPairOf network p → speaks_of (resolutions H) p.variable ≡ false → 1 ≤ length (possible_states network H (has p)) → IsProper network (H ++ Resolve p ∷ [])
  resolve_proper p h new left = record {
    trades_fit = trades_fit_kept network H (Resolve p) refl (no_fewer_users H (Resolve p) refl) proper.trades_fit;
    resolutions_fit = subst (AllByRecursion (IsPairOf network)) (sym (resolutions_more H p)) (each-append (IsPairOf network) (resolutions H) (p ∷ []) proper.resolutions_fit (h, tt));
    resolved_once = subst AreApart (sym (resolutions_more H p)) (apart_longer (resolutions H) p proper.resolved_once new);
    some_left = left_resolved network H p left;
  }

pub proper_next : (network : List Variable) (H : List Entry) (e : Entry) → IsProper network H → IsInRange network H e → IsProper network (H ++ e ∷ [])
proper_next network H (Join name) proper h = join_proper network H proper name
proper_next network H (Deposit u bits) proper h = quiet network H proper (Deposit u bits) refl refl refl
proper_next network H (Withdraw u bits) proper h = quiet network H proper (Withdraw u bits) refl refl refl
proper_next network H (Trade u r) proper h = trade_proper network H proper u r h
proper_next network H (Resolve p) proper h = resolve_proper network H proper p h.0 h.1 h.2
proper_next network H (Settle payments) proper h = quiet network H proper (Settle payments) refl refl refl
proper_next network H (Add a) proper h = quiet network H proper (Add a) refl refl refl

pub empty_proper : (network : List Variable) → IsNetwork network → IsProper network []
empty_proper network net = record { trades_fit = tt; resolutions_fit = tt; resolved_once = tt; some_left = rw (filter_every (all_states network)) (some_can network net) }

-- a pair that is fair and solvent on both sides
side_fair : (network : List Variable) (H : List Entry) (u : ℕ) (asked : Asked) (test : List ℕ → Bool) (side : Side) (X F : ℕ) → IsSide network H u asked test side
    → IsFairAndSolvent (IsSmall network H) side X F → IsFair (IsSmall network H) F X (price_where network H asked.condition test)
side_fair network H u asked test side X F h k = at (least_gain network H u test) h
  where
    at : (o : Option ℕ) → IsSomeAnd o (λ g. side ≡ record { price = price_where network H asked.condition test; least = factor_with H u g }) → IsFair (IsSmall network H) F X (price_where network H asked.condition test)
    at None h = absurd h
    at (Some g) e = subst (λ (s : Side). IsFair (IsSmall network H) F X s.price) e k.fair

side_solvent : (network : List Variable) (H : List Entry) (u : ℕ) (asked : Asked) (test : List ℕ → Bool) (side : Side) (X F : ℕ) → IsSide network H u asked test side
    → IsFairAndSolvent (IsSmall network H) side X F → IfSome (least_gain network H u test) (λ g. IsSolvent F (factor_with H u g))
side_solvent network H u asked test side X F h k = at (least_gain network H u test) h
  where
    at : (o : Option ℕ) → IsSomeAnd o (λ g. side ≡ record { price = price_where network H asked.condition test; least = factor_with H u g }) → IfSome o (λ g. IsSolvent F (factor_with H u g))
    at None h = absurd h
    at (Some g) e = subst (λ (s : Side). IsSolvent F s.least) e k.solvent

pub fair_pair_is_safe : (network : List Variable) (H : List Entry) (u : ℕ) (asked : Asked) (X F_t F_n : ℕ) → X ≤ 10 ^ 6 → IsPairOf network asked.target
    → IsFairPair network H u asked X F_t F_n → IsSafeTrade network H u (ratio_in network asked F_t F_n)
fair_pair_is_safe network H u asked X F_t F_n share fits pair = record {
  bounded = fair_bounded network H asked X F_t F_n fits (record {
    share = share;
    hit = side_fair network H u asked (with_target asked) pair.hit X F_t pair.sides.hit_side pair.hit_units;
    miss = side_fair network H u asked (without_target asked) pair.miss (10 ^ 6 - X) F_n pair.sides.miss_side pair.miss_units;
  });
  solvent = pair_solvent network H u asked F_t F_n fits (record {
    hit = side_solvent network H u asked (with_target asked) pair.hit X F_t pair.sides.hit_side pair.hit_units;
    miss = side_solvent network H u asked (without_target asked) pair.miss (10 ^ 6 - X) F_n pair.sides.miss_side pair.miss_units;
  });
}
