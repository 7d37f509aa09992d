-- What the entries of a history add up to.
use Rattle.std.proofs.Common.{◌≡◌, ℕ, suc, ◌+◌, ◌*◌, ◌^◌, Bool, true, false, cond, eqb, List}
use Rattle.std.proofs.Common.{[], ◌∷◌, length, sum_by, refl, sym, ap, ap₂, ◌∙◌, arith, zero-add}
use Rattle.std.specs.List.{AllByRecursion}
use Rattle.std.proofs.Math.Path.{fun_ext}
use Rattle.std.proofs.lemmas.List.Sums.{sum_by-cons}
use Rattle.mk_net.specs.Asked.{TradeRatio}
use Rattle.mk_net.specs.Network.{Variable}
use Rattle.mk_states.specs.Events.{always}
use Rattle.mk_exact.specs.Factors.{trade_count}
use Rattle.mk_exact.specs.History.{Entry, Join, Deposit, Withdraw, Trade, Resolve, Settle, Add}
use Rattle.mk_exact.specs.History.{UserTrade, bits_in, bits_out, trades, trades_of, deposited}
use Rattle.mk_exact.specs.History.{withdrawn, users}
use Rattle.mk_states.specs.OfNetwork.{IsRatioOf}
use Rattle.mk_exact.specs.Proper.{IsProper, IsTradeOf}
use Rattle.mk_states.specs.Ratios.{unit, ratio_at}
use Rattle.mk_exact.specs.Weight.{total}
use Rattle.mk_states.proofs.Sums.{sum_by-plus, sum_by-times, each_weaker, kept_each}
use Rattle.std.proofs.lemmas.List.Elements.{recursion_from_All}
use Rattle.mk_expect.specs.Expectation.{bits_held, bits_owed}
use Rattle.mk_expect.specs.inner.Parts.{unit_bits, own_trade, values_gained, values_owed}
use Rattle.mk_expect.specs.inner.Parts.{entry_gained, entry_owed, of_trade}
use Rattle.mk_expect.proofs.Means.{mean, mean-plus, mean-same, mean-sum, trade_is}

-- one trade more
joined : (m ms o os g gs z n M O G : ℕ) → M ≡ m + ms → O ≡ o + os → G ≡ g + gs
    → m + o ≡ g + unit_bits * z → ms + os ≡ gs + unit_bits * n * z
    → M + O ≡ G + unit_bits * suc n * z
joined m ms o os g gs z n M O G a b c one rest = omega (arith, a, b, c, one, rest)

-- bits in and out, and trades
summed : (M O G z ins outs n ms os gs : ℕ) → M ≡ ins * 2 ^ 20 * z + ms
    → O ≡ z * (outs * 2 ^ 20) + os → G ≡ z * (ins * 2 ^ 20) + gs → ms + os ≡ gs + unit_bits * n * z
    → M + O ≡ G + (outs + 40 * n) * 2 ^ 20 * z
summed M O G z ins outs n ms os gs a b c trades = omega (arith, a, b, c, trades)

module _ (u : ℕ) where
  one_more : (f : TradeRatio → ℕ) (x : UserTrade) (xs : List UserTrade) (b : Bool)
      → cond b (f x.ratio) 0 + sum_by (λ (t : UserTrade). f t.ratio) xs
      ≡ sum_by (λ (t : UserTrade). f t.ratio) (cond b (x ∷ xs) xs)
  one_more f x xs true = sym (sum_by-cons (λ (t : UserTrade). f t.ratio) x xs)
  one_more f x xs false = zero-add (sum_by (λ (t : UserTrade). f t.ratio) xs)

  passed : (f : TradeRatio → ℕ) (e : Entry) (P : List Entry) → of_trade u f e ≡ 0
      → trades_of (e ∷ P) u ≡ trades_of P u
      → sum_by (of_trade u f) P ≡ sum_by (λ (t : UserTrade). f t.ratio) (trades_of P u)
      → sum_by (of_trade u f) (e ∷ P)
      ≡ sum_by (λ (t : UserTrade). f t.ratio) (trades_of (e ∷ P) u)
  passed f e P none same rest =
      sum_by-cons (of_trade u f) e P ∙ ap (λ n. n + sum_by (of_trade u f) P) none
      ∙ zero-add (sum_by (of_trade u f) P) ∙ rest
      ∙ ap (sum_by (λ (t : UserTrade). f t.ratio)) (sym same)

  -- over a history it adds up over the user's trades
  over_trades : (f : TradeRatio → ℕ) (P : List Entry)
      → sum_by (of_trade u f) P ≡ sum_by (λ (t : UserTrade). f t.ratio) (trades_of P u)
  over_trades f [] = refl
  over_trades f (Trade v r ∷ P) =
      sum_by-cons (of_trade u f) (Trade v r) P
      ∙ ap (λ n. cond (eqb v u) (f r) 0 + n) (over_trades f P)
      ∙ one_more f (record { user = v; ratio = r }) (trades_of P u) (eqb v u)
  over_trades f (Join name ∷ P) = passed f (Join name) P refl refl (over_trades f P)
  over_trades f (Deposit v n ∷ P) = passed f (Deposit v n) P refl refl (over_trades f P)
  over_trades f (Withdraw v n ∷ P) = passed f (Withdraw v n) P refl refl (over_trades f P)
  over_trades f (Resolve p ∷ P) = passed f (Resolve p) P refl refl (over_trades f P)
  over_trades f (Settle payments ∷ P) = passed f (Settle payments) P refl refl (over_trades f P)
  over_trades f (Add a ∷ P) = passed f (Add a) P refl refl (over_trades f P)

  -- a sum over entries, each of which adds bits or a trade
  by_kinds : (z : ℕ) (m : Entry → ℕ) (f : TradeRatio → ℕ) (P : List Entry)
      → sum_by (λ e. z * (m e * 2 ^ 20) + of_trade u f e) P
      ≡ z * (sum_by m P * 2 ^ 20) + sum_by (λ (t : UserTrade). f t.ratio) (trades_of P u)
  by_kinds z m f P =
      ap (λ (h : Entry → ℕ). sum_by h P) (fun_ext (λ e. turned (m e) (of_trade u f e)))
      ∙ sum_by-plus (λ e. z * 2 ^ 20 * m e) (of_trade u f) P
      ∙ ap₂ ◌+◌ (sum_by-times (z * 2 ^ 20) m P ∙ back (sum_by m P)) (over_trades f P)
    where
      turned : (a b : ℕ) → z * (a * 2 ^ 20) + b ≡ z * 2 ^ 20 * a + b
      turned a b = omega arith

      back : (a : ℕ) → z * 2 ^ 20 * a ≡ z * (a * 2 ^ 20)
      back a = omega arith

  -- how many trades
  pub own_trades : (P : List Entry) → sum_by (own_trade u) P ≡ trade_count P u
  own_trades P = over_trades (λ r. 1) P ∙ ones (trades_of P u)
    where
      ones : (ts : List UserTrade) → sum_by (λ t. 1) ts ≡ length ts
      ones [] = refl
      ones (t ∷ ts) =
          let c = sum_by-cons (λ (t : UserTrade). 1) t ts in let i = ones ts in omega (arith, c, i)

  module _ (network : List Variable) (H : List Entry) (bits : ℕ → ℕ) where
    gained_in : UserTrade → ℕ
    gained_in t = values_gained network H bits t.ratio (length t.ratio.factors)

    owed_in : UserTrade → ℕ
    owed_in t = values_owed network H t.ratio (length t.ratio.factors)

    all_gained : (P : List Entry) → sum_by (entry_gained network H bits u) P
        ≡ total network H always * (deposited P u * 2 ^ 20) + sum_by gained_in (trades_of P u)
    unfolding gained_in
    all_gained = by_kinds (total network H always) (bits_in u)
        (λ r. values_gained network H bits r (length r.factors))

    all_owed : (P : List Entry) → sum_by (entry_owed network H u) P
        ≡ total network H always * (withdrawn P u * 2 ^ 20) + sum_by owed_in (trades_of P u)
    unfolding owed_in
    all_owed = by_kinds (total network H always) (bits_out u)
        (λ r. values_owed network H r (length r.factors))

    -- what its bits come to, over the trades of a user
    over_own : bits unit ≡ unit_bits → (ts : List UserTrade)
        → AllByRecursion (λ (t : UserTrade). IsRatioOf network t.ratio) ts
        → sum_by (λ (t : UserTrade). mean network H (λ s. bits (ratio_at t.ratio s))) ts
        + sum_by owed_in ts
        ≡ sum_by gained_in ts + unit_bits * length ts * total network H always
    unfolding gained_in owed_in
    over_own one [] h = omega arith
    over_own one (t ∷ ts) h =
        joined _ _ _ _ _ _ (total network H always) (length ts) _ _ _
        (sum_by-cons (λ (t : UserTrade). mean network H (λ s. bits (ratio_at t.ratio s))) t ts)
        (sum_by-cons (λ t. values_owed network H t.ratio (length t.ratio.factors)) t ts)
        (sum_by-cons (λ t. values_gained network H bits t.ratio (length t.ratio.factors)) t ts)
        (trade_is network H t.ratio h.0.variable bits one h.0.one_each) (over_own one ts h.1)

    -- what a user is expected to hold, and what the entries make the user owe, are what the entries
    -- gain and what is owed in every state
    pub held_is : bits unit ≡ unit_bits → IsProper network H
        → mean network H (bits_held bits H u) + sum_by (entry_owed network H u) H
        ≡ sum_by (entry_gained network H bits u) H + bits_owed H u * total network H always
    unfolding gained_in owed_in
    held_is one proper =
        summed _ _ _ (total network H always) (deposited H u) (withdrawn H u) (trade_count H u)
        _ _ _
        (mean-plus network H (λ s. deposited H u * 2 ^ 20)
        (λ s. sum_by (λ (t : UserTrade). bits (ratio_at t.ratio s)) (trades_of H u))
        ∙ ap₂ ◌+◌ (mean-same network H (deposited H u * 2 ^ 20))
        (mean-sum network H (λ (t : UserTrade) s. bits (ratio_at t.ratio s)) (trades_of H u)))
        (all_owed H) (all_gained H) (over_own one (trades_of H u) own)
      where
        own : AllByRecursion (λ (t : UserTrade). IsRatioOf network t.ratio) (trades_of H u)
        own = recursion_from_All (λ (t : UserTrade). IsRatioOf network t.ratio) (trades_of H u)
            (kept_each (λ (t : UserTrade). eqb t.user u)
            (λ (t : UserTrade). IsRatioOf network t.ratio) (trades H)
            (each_weaker (IsTradeOf network (length (users H)))
            (λ (t : UserTrade). eqb t.user u ≡ true → IsRatioOf network t.ratio)
            (λ t fits _. fits.ratio) (trades H) proper.trades_fit))
