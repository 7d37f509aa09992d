-- An allowed reply to a line of text leads from a bounded history to a bounded one.
use Rattle.std.proofs.Common.{◌≡◌, ◌≢◌, ℕ, ◌+◌, ◌<◌, ◌≤◌, Bool, true, false, ◌||◌, cond, List, [], ◌∷◌, ◌++◌, length, get_or, None, refl, sym, ap, ◌∙◌, subst, arith, length-append}
use Rattle.std.specs.Prelude.{⊤}
use Rattle.std.specs.List.{AllByRecursion, count_by, list_any}
use Rattle.std.proofs.lemmas.List.Sums.{sum_by-append}
use Rattle.std.proofs.lemmas.List.Quantifiers.{all_pairs_push}
use Rattle.mk_net.specs.Bounds.{million, max_market_trades, max_transfers, number_limit}
use Rattle.mk_names.specs.Name.{IsName}
use Rattle.mk_names.specs.Texts.{same_text}
use Rattle.mk_names.specs.inner.TextLaws.{same_text_of_equal}
use Rattle.mk_net.specs.Asked.{TradeRatio}
use Rattle.mk_net.proofs.Taken.{any_at}
use Rattle.mk_net.specs.Network.{AreDistinct}
use Rattle.mk_exact.specs.History.{Entry, UserTrade, Join, Deposit as Deposits, Withdraw as Withdraws}
use Rattle.mk_exact.specs.History.{Trade, Resolve as Resolves, Settle as Settles, Add}
use Rattle.mk_exact.specs.History.{join_in, trade_in, users, trades, is_transfer, is_settlement}
use Rattle.mk_exact.specs.History.{is_settled, payments_in, payments}
use Rattle.mk_exact.specs.Market.{Market}
use Rattle.mk_states.proofs.Sums.{each-append, each_weaker}
use Rattle.mk_exact.proofs.After.{users_kept, users_more, trades_kept, trades_more, payments_more}
use Rattle.mk_exact.specs.Existing.{HasRoom}
use Rattle.mk_exact.proofs.ExistBounds.{bounds_kept}
use Rattle.mk_rules.specs.Standings.{IsMarket}
use Rattle.mk_rules.specs.Bounded.{IsTransferOf, FitsTransfer, FitPayment, IsBounded}

-- the numbers of a market are within their limits
pub record IsLimited (market : Market) : Type 0 where
  pub few_points : market.points_per_bit ≤ million
  pub few_trades : market.max_trades ≤ max_market_trades
  pub few_transfers : market.max_transfers ≤ max_transfers

pub limits_of : (market : Market) → IsMarket market → IsLimited market
limits_of market legal = record { few_points = legal.few_points; few_trades = legal.few_trades; few_transfers = legal.few_transfers }

-- an entry that may follow
abbrev pub MayFollow : Market → List Entry → Entry → Type 0
MayFollow market H (Join name) = IsName name × (length (users H) < market.max_users) × (list_any (same_text name) (users H) ≡ false)
MayFollow market H (Deposits user bits) = IsTransferOf (length (users H)) user bits × (count_by is_transfer H < market.max_transfers)
MayFollow market H (Withdraws user bits) = IsTransferOf (length (users H)) user bits × (count_by is_transfer H < market.max_transfers)
MayFollow market H (Trade user ratio) = AllByRecursion (λ units. units < number_limit) ratio.factors × (length (trades H) < market.max_trades)
MayFollow market H (Resolves pair) = ⊤
MayFollow market H (Settles payments) = (is_settled H ≡ false) × AllByRecursion FitPayment payments
MayFollow market H (Add addition) = ⊤

transfer_later : (m n : ℕ) → m ≤ n → (e : Entry) → FitsTransfer m e → FitsTransfer n e
transfer_later m n p (Join name) h = tt
transfer_later m n p (Deposits user bits) h = record { user = omega (arith, h.user); some = h.some; few = h.few }
transfer_later m n p (Withdraws user bits) h = record { user = omega (arith, h.user); some = h.some; few = h.few }
transfer_later m n p (Trade user ratio) h = tt
transfer_later m n p (Resolves pair) h = tt
transfer_later m n p (Settles payments) h = tt
transfer_later m n p (Add addition) h = tt

-- what an entry adds to a count
count_more : (test : Entry → Bool) (H : List Entry) (e : Entry) → count_by test (H ++ e ∷ []) ≡ count_by test H + (0 + cond (test e) 1 0)
count_more test H e = sum_by-append (λ e. cond (test e) 1 0) H (e ∷ [])

-- and in front
pub count_first : (test : Entry → Bool) (e : Entry) (H : List Entry) → count_by test (e ∷ H) ≡ 0 + cond (test e) 1 0 + count_by test H
count_first test e H = sum_by-append (λ e. cond (test e) 1 0) (e ∷ []) H

none_settled : (H : List Entry) → is_settled H ≡ false → count_by is_settlement H ≡ 0
none_settled [] h = refl
none_settled (e ∷ H) h = count_first is_settlement e H ∙ at (is_settlement e) h (none_settled H)
  where
    at : (b : Bool) → (b || is_settled H) ≡ false → (is_settled H ≡ false → count_by is_settlement H ≡ 0) → 0 + cond b 1 0 + count_by is_settlement H ≡ 0
    at true h later = cc
    at false h later = omega (arith, later h)

-- a name that no text of a list is the same as differs from each
differs : (name : List ℕ) (names : List (List ℕ)) → list_any (same_text name) names ≡ false → (k : ℕ) (d : List ℕ) → k < length names → get_or names k d ≢ name
differs name names h k d inside same =
    let other : same_text name (get_or names k d) ≡ false = any_at (same_text name) names k d h inside in
    let alike = same_text_of_equal name (get_or names k d) (sym same) in
    absurd (cc)

room : (market : Market) (H : List Entry) → IsLimited market → (e : Entry) → MayFollow market H e → HasRoom H e
room market H few (Join name) h = tt
room market H few (Deposits user bits) h = (omega (arith, h.1, few.few_transfers), h.0.few)
room market H few (Withdraws user bits) h = omega (arith, h.1, few.few_transfers)
room market H few (Trade user ratio) h = (omega (arith, h.1, few.few_trades), h.0)
room market H few (Resolves pair) h = tt
room market H few (Settles payments) h = tt
room market H few (Add addition) h = tt

kept_count : (test : Entry → Bool) (most : ℕ) (H : List Entry) (e : Entry) → test e ≡ false → count_by test H ≤ most → count_by test (H ++ e ∷ []) ≤ most
kept_count test most H e not_it h =
    let same : count_by test (H ++ e ∷ []) ≡ count_by test H + (0 + cond false 1 0) = count_more test H e ∙ ap (λ (b : Bool). count_by test H + (0 + cond b 1 0)) not_it in
    omega arith

more_count : (test : Entry → Bool) (most : ℕ) (H : List Entry) (e : Entry) → count_by test H < most → count_by test (H ++ e ∷ []) ≤ most
more_count test most H e h = at (test e) (count_more test H e)
  where
    at : (b : Bool) → count_by test (H ++ e ∷ []) ≡ count_by test H + (0 + cond b 1 0) → count_by test (H ++ e ∷ []) ≤ most
    at true same = omega arith
    at false same = omega arith

module _ (market : Market) (H : List Entry) (few : IsLimited market) (bounded : IsBounded market H) where
  users_same : (e : Entry) → join_in e ≡ None → length (users (H ++ e ∷ [])) ≡ length (users H)
  users_same e other = ap length (users_kept H e other)

  transfers_then : (e : Entry) → length (users H) ≤ length (users (H ++ e ∷ [])) → FitsTransfer (length (users (H ++ e ∷ []))) e → AllByRecursion (FitsTransfer (length (users (H ++ e ∷ [])))) (H ++ e ∷ [])
  transfers_then e more fits = each-append (FitsTransfer (length (users (H ++ e ∷ [])))) H (e ∷ [])
      (each_weaker (FitsTransfer (length (users H))) (FitsTransfer (length (users (H ++ e ∷ [])))) (transfer_later (length (users H)) (length (users (H ++ e ∷ []))) more) H bounded.transfers_fit) (fits, tt)

  payments_then : (e : Entry) → AllByRecursion FitPayment (payments_in e) → AllByRecursion FitPayment (payments (H ++ e ∷ []))
  payments_then e payable = subst (AllByRecursion FitPayment) (sym (payments_more H e))
      (each-append FitPayment (payments H) (payments_in e) bounded.payments_fit payable)

  transfers_stay : (e : Entry) → is_transfer e ≡ false → count_by is_transfer (H ++ e ∷ []) ≤ market.max_transfers
  transfers_stay e other = kept_count is_transfer market.max_transfers H e other bounded.few_transfers

  -- an entry that joins nobody
  not_joined : (e : Entry) → join_in e ≡ None → MayFollow market H e → length (trades (H ++ e ∷ [])) ≤ market.max_trades
      → count_by is_transfer (H ++ e ∷ []) ≤ market.max_transfers → FitsTransfer (length (users H)) e
      → count_by is_settlement (H ++ e ∷ []) ≤ 1 → AllByRecursion FitPayment (payments_in e) → IsBounded market (H ++ e ∷ [])
  not_joined e joins follows trades_fit transfers_few fits settlements payable = record {
    within = bounds_kept H e bounded.within (room market H few e follows);
    few_users = subst (λ (n : ℕ). n ≤ market.max_users) (sym (users_same e joins)) bounded.few_users;
    users_named = subst (AllByRecursion IsName) (sym (users_kept H e joins)) bounded.users_named;
    users_distinct = subst (λ (names : List (List ℕ)). AreDistinct names) (sym (users_kept H e joins)) bounded.users_distinct;
    few_trades = trades_fit;
    few_transfers = transfers_few;
    transfers_fit = transfers_then e (omega (arith, users_same e joins)) (subst (λ (n : ℕ). FitsTransfer n e) (sym (users_same e joins)) fits);
    settled_once = settlements;
    payments_fit = payments_then e payable;
  }

  trades_stay : (e : Entry) → trade_in e ≡ None → length (trades (H ++ e ∷ [])) ≤ market.max_trades
  trades_stay e other = subst (λ (ts : List UserTrade). length ts ≤ market.max_trades) (sym (trades_kept H e other)) bounded.few_trades

  one_more_trade : (user : ℕ) (ratio : TradeRatio) → length (trades H) < market.max_trades → length (trades (H ++ Trade user ratio ∷ [])) ≤ market.max_trades
  one_more_trade user ratio h =
      let more : length (trades (H ++ Trade user ratio ∷ [])) ≡ length (trades H) + 1 = ap length (trades_more H user ratio) ∙ length-append (trades H) (record { user = user; ratio = ratio } ∷ []) in
      omega arith

  settlement_stays : (e : Entry) → is_settlement e ≡ false → count_by is_settlement (H ++ e ∷ []) ≤ 1
  settlement_stays e other = kept_count is_settlement 1 H e other bounded.settled_once

  joined : (name : List ℕ) → MayFollow market H (Join name) → IsBounded market (H ++ Join name ∷ [])
  joined name follows =
      let more : length (users (H ++ Join name ∷ [])) ≡ length (users H) + 1 = ap length (users_more H name) ∙ length-append (users H) (name ∷ []) in
      record {
        within = bounds_kept H (Join name) bounded.within tt;
        few_users = omega (arith, follows.1);
        users_named = subst (AllByRecursion IsName) (sym (users_more H name)) (each-append IsName (users H) (name ∷ []) bounded.users_named (follows.0, tt));
        users_distinct = subst (λ (names : List (List ℕ)). AreDistinct names) (sym (users_more H name))
            (all_pairs_push (λ (x y : List ℕ). x ≢ y) (users H) name bounded.users_distinct (differs name (users H) follows.2));
        few_trades = trades_stay (Join name) refl;
        few_transfers = transfers_stay (Join name) refl;
        transfers_fit = transfers_then (Join name) (omega arith) tt;
        settled_once = settlement_stays (Join name) refl;
        payments_fit = payments_then (Join name) tt;
      }

  pub entry_bounded : (e : Entry) → MayFollow market H e → IsBounded market (H ++ e ∷ [])
  entry_bounded (Join name) h = joined name h
  entry_bounded (Deposits user bits) h = let e = Deposits user bits in
      not_joined e refl h (trades_stay e refl) (more_count is_transfer market.max_transfers H e h.1) h.0 (settlement_stays e refl) tt
  entry_bounded (Withdraws user bits) h = let e = Withdraws user bits in
      not_joined e refl h (trades_stay e refl) (more_count is_transfer market.max_transfers H e h.1) h.0 (settlement_stays e refl) tt
  entry_bounded (Trade user ratio) h = let e = Trade user ratio in
      not_joined e refl h (one_more_trade user ratio h.1) (transfers_stay e refl) tt (settlement_stays e refl) tt
  entry_bounded (Resolves pair) h = let e = Resolves pair in
      not_joined e refl h (trades_stay e refl) (transfers_stay e refl) tt (settlement_stays e refl) tt
  entry_bounded (Add addition) h = let e = Add addition in
      not_joined e refl h (trades_stay e refl) (transfers_stay e refl) tt (settlement_stays e refl) tt
  entry_bounded (Settles paid) h = let e = Settles paid in let none = none_settled H h.0 in
      not_joined e refl h (trades_stay e refl) (transfers_stay e refl) tt (more_count is_settlement 1 H e (omega arith)) h.1
