-- The market is settled.
use Rattle.std.specs.Prelude.{◌≡◌, ℕ, ◌+◌, ◌*◌, ◌^◌, ◌<◌, zero, suc, ◌&&◌, List, [], ◌∷◌, ◌++◌, map}
use Rattle.std.specs.Prelude.{filter, sum_by, length, true, false, Option, Some, None, option_map}
use Rattle.std.specs.Prelude.{slice_get, MatchOption}
use Rattle.std.specs.List.{AllByRecursion, AllZip, enumerate_from}
use Rattle.std.proofs.Common.{inl, inr, refl, sym, ap, ◌∙◌, subst, arith, add-zero}
use Rattle.std.proofs.lemmas.List.{length_push}
use Rattle.std.specs.Prelude.{All, option_to_list, ◌≤◌}
use Rattle.std.proofs.lemmas.Option.{slice_get_within, slice_get-map, get_or_from_slice_get}
use Rattle.mk_net.specs.Bounds.{max_payments, sharpness}
use Rattle.mk_net.specs.Network.{Variable, IsNetwork}
use Rattle.mk_net.specs.declared.words.Pair.{Pair}
use Rattle.mk_exact.specs.Cash.{CoversCash}
use Rattle.mk_states.specs.Events.{always, holds}
use Rattle.mk_exact.specs.Factors.{Fraction, HoldsNoTrade, factor}
use Rattle.mk_states.specs.InitialWeight.{all_states, initial_weight}
use Rattle.mk_states.specs.Ratios.{ratio_at}
use Rattle.mk_states.specs.States.{product_by}
use Rattle.mk_exact.specs.Market.{Market}
use Rattle.mk_exact.specs.History.{Entry, UserTrade, Settle as Settles, join_in, users, revision}
use Rattle.mk_exact.specs.History.{is_settlement, is_settled, or_nothing, payment_to}
use Rattle.mk_exact.specs.Weight.{IsSmall, possible_states}
use Rattle.mk_exact.proofs.After.{deposited_kept, withdrawn_kept, users_kept, resolutions_kept}
use Rattle.mk_exact.proofs.After.{trades_kept, trades_of_kept, factor_kept, payments_before}
use Rattle.mk_exact.proofs.After.{payments_settled}
use Rattle.mk_exact.proofs.ExistOutcome.{outcome_exists}
use Rattle.mk_tree.specs.Given.{GivenTree}
use Rattle.mk_file.specs.declared.market_file.MarketFile.{MarketFile}
use Rattle.mk_file.specs.MarketOf.{market_of}
use Rattle.mk_engine.specs.Meaning.{Meaning}
use Rattle.mk_assets.specs.Holdings.{Holds}
use Rattle.mk_cash.specs.declared.ledger.Account.{Account}
use Rattle.mk_cash.specs.Accounts.{account_of, LedgerOf}
use Rattle.mk_command.specs.declared.command.Command.TheVariants.{Settle}
use Rattle.mk_reply.specs.declared.payments.Payment.{Payment}
use Rattle.mk_reply.specs.declared.refusal.Refusal.{Refusal}
use Rattle.mk_reply.specs.declared.reply.Reply.{Reply}
use Rattle.mk_reply.specs.declared.reply.Reply.TheVariants.{Settled, Refused}
use Rattle.mk_rules.specs.Answers.{IsPayment, IsSettlement, IsSettling, settled_by_rule, ends_of}
use Rattle.mk_rules.specs.Answers.{IsAnswer, entry_of}
use Rattle.mk_rules.specs.Bounded.{FitPayment}
use Rattle.mk_rules.specs.Refusals.{first_refusal, refusals}
use Rattle.mk_rules.proofs.Unrefused.{none_applies, not_faulted, all_resolved}
use Rattle.mk_restore.specs.Restoring.{IsSettledAt}
use Rattle.mk_restore.specs.Laws.{IsSafe}
use Rattle.mk_restore.proofs.Safe.{HasUnits}
use Rattle.mk_rules.proofs.Paying.{SettlingIs, settling_is}
use Rattle.mk_replay.specs.Tills.{TillOf}
use Rattle.mk_rules.specs.Transcript.{OfCommand, after}
use Rattle.mk_record.specs.declared.users.Member.{Member}
use Rattle.mk_record.specs.Journals.{JournalOf}
use Rattle.mk_record.specs.Members.{quotes_of}
use Rattle.mk_market.specs.Points.{IsPaidOff, AreAccounts, ArePaidBy, SettlementPaysOff}
use Rattle.mk_record.specs.Refused.{CanBeSettled}
use Rattle.mk_market.specs.inner.Keeping.{quoted, standing_of, IsKept}
use Rattle.mk_settling.specs.Paying.{ArePaid, CanBeEntered, IsEntered}
use Rattle.mk_record.proofs.Appends.{there, not_found}
use Rattle.mk_market.proofs.Growing.{kept_grown}
use Rattle.mk_answers.proofs.Told.{cash_for}
use Rattle.mk_asking.proofs.Owned.{holding_same}

settled_now : (H : List Entry) (paid : List (ℕ × ℕ)) → is_settled (H ++ Settles paid ∷ []) ≡ false → ⊥
settled_now H paid h = let yes : true ≡ false = sym (there H (Settles paid) is_settlement refl) ∙ h in cc yes

-- nothing was paid before
pub nothing_before : (H : List Entry) (u : ℕ) → is_settled H ≡ false → (payment_to H u).0 ≡ 0
nothing_before H u before = ap (λ (ps : List (ℕ × ℕ)). (or_nothing (slice_get ps u)).0) (payments_before H before)

-- where there is one payment for each name, there is one at each place
payment_at : {A B : Type 0} (R : ℕ × A → B → Type 0) (names : List A) (pays : List B) (m u : ℕ) → AllZip R (enumerate_from m names) pays → u < length names
    → (name : A) × (pay : B) × (slice_get pays u ≡ Some pay) × R (m + u, name) pay
payment_at R [] pays m u h l = absurd (omega (arith, l))
payment_at R (x ∷ xs) [] m u h l = absurd h
payment_at R (x ∷ xs) (p ∷ ps) m zero h l = (x, p, refl, subst (λ (k : ℕ). R (k, x) p) (sym (add-zero m)) (h.0))
payment_at R (x ∷ xs) (p ∷ ps) m (suc u) h l =
    let later = payment_at R xs ps (m + 1) u (h.1) (omega (arith, l)) in
    let same : m + 1 + u ≡ m + suc u = omega arith in
    (later.0, later.1, later.2, subst (λ (k : ℕ). R (k, later.0) (later.1)) same (later.3))

-- the small case, and a user without trades, are what they were before the settlement
small_before : (network : List Variable) (H : List Entry) (paid : List (ℕ × ℕ)) → IsSmall network (H ++ Settles paid ∷ [])
    → IsSmall network H
small_before network H paid small =
    subst (λ (ts : List UserTrade). sum_by (λ s. initial_weight network s * product_by
    (λ (t : UserTrade). ratio_at t.ratio s) ts) (all_states network) < 2 ^ 63)
    (trades_kept H (Settles paid) refl) small

idle_before : (H : List Entry) (paid : List (ℕ × ℕ)) (u : ℕ) → HoldsNoTrade (H ++ Settles paid ∷ []) u → HoldsNoTrade H u
idle_before H paid u none = subst (λ (ts : List UserTrade). length ts ≡ 0)
    (trades_of_kept H (Settles paid) u refl) none

module _ (market : Market) (H : List Entry) (all : List (ℕ × ℕ)) (state : List ℕ) (one : possible_states market.network H always ≡ state ∷ []) where
  -- a user who was paid as it is printed is paid off
  is_paid_off : (u : ℕ) (name : List ℕ) (payment : Payment) (points : ℕ) → points ≡ payment.paid
      → IsPayment market.network H market.max_trades market.points_per_bit state (u, name) payment
      → IsPaidOff market (H ++ Settles all ∷ []) u points
  is_paid_off u name payment points printed is = record {
    state = state;
    one_state = ap (λ (ps : List Pair). filter (λ s. holds ps s && always s) (all_states market.network)) (resolutions_kept H (Settles all) refl) ∙ one;
    high = payment.high;
    covers = subst (λ (low : ℕ). CoversCash (IsSmall market.network (H ++ Settles all ∷ []))
        (HoldsNoTrade (H ++ Settles all ∷ []) u) (sharpness market.max_trades) (factor (H ++ Settles all ∷ []) u state)
        market.points_per_bit low payment.high)
        (sym (printed ∙ is.low_end))
        (subst (λ (q : Fraction). CoversCash (IsSmall market.network (H ++ Settles all ∷ []))
        (HoldsNoTrade (H ++ Settles all ∷ []) u) (sharpness market.max_trades) q market.points_per_bit payment.low payment.high)
        (sym (factor_kept H (Settles all) u state (trades_of_kept H (Settles all) u refl) refl refl))
        (cash_for (IsSmall market.network (H ++ Settles all ∷ []))
        (HoldsNoTrade (H ++ Settles all ∷ []) u) (IsSmall market.network H) (HoldsNoTrade H u)
        (sharpness market.max_trades) (factor H u state) market.points_per_bit payment.low payment.high
        (small_before market.network H all) (idle_before H all u) is.covers));
  }

-- so each user is, where a settlement is entered that is one
pub settlement_pays_off : SettlementPaysOff
settlement_pays_off market H quotes old new at payments allowed paid u within =
    met (first_refusal market H Settle) allowed
  where
    all : List (ℕ × ℕ)
    all = map ends_of payments

    by : IsSettlement market.network H market.max_trades market.points_per_bit (Settled at payments)
        → IsPaidOff market (H ++ Settles all ∷ []) u (account_of new u).paid
    by is =
        let same : payments ≡ is.payments = (let e = is.printed in cc) in
        let one = payment_at (IsPayment market.network H market.max_trades market.points_per_bit is.state)
        (users H) is.payments 0 u is.paid within in
        let zero_u : 0 + u ≡ u = omega arith in
        is_paid_off market H all is.state is.one_state u (one.0) (one.1) (account_of new u).paid
        (paid u (one.1) (ap (λ (ps : List Payment). slice_get ps u) same ∙ one.2))
        (subst (λ (k : ℕ). IsPayment market.network H market.max_trades market.points_per_bit is.state
        (k, one.0) (one.1)) zero_u (one.3))

    either : SettlingIs market H (Settled at payments)
        → IsPaidOff market (H ++ Settles all ∷ []) u (account_of new u).paid
    either (inl (few, is)) = by is
    either (inr (many, e)) = absurd (cc)

    met : (o : Option Refusal)
        → MatchOption o (IsAnswer market H quotes Settle (Settled at payments))
        (λ why. Settled at payments ≡ Refused why)
        → IsPaidOff market (H ++ Settles all ∷ []) u (account_of new u).paid
    met None is = either (settling_is market H (Settled at payments) is)
    met (Some why) same = absurd (cc)

-- payments that are entered leave what went in and out
pub accounts_settled : (market : Market) (H : List Entry) (old new : List Account)
    (paid : List (ℕ × ℕ)) → is_settled H ≡ false
    → AreAccounts market H old → ArePaid old new paid → AreAccounts market (H ++ Settles paid ∷ []) new
accounts_settled market H old new paid before are entered = record {
  one_each = entered.count ∙ are.one_each ∙ sym (ap (λ (names : List (List ℕ)). length names) (users_kept H (Settles paid) refl));
  each = λ u within.
      let inside : u < length old = omega (arith, within, entered.count) in
      let was = are.each u inside in
      let now = entered.each u inside in
      let told : or_nothing (slice_get paid u) ≡ payment_to (H ++ Settles paid ∷ []) u =
      sym (ap (λ (ps : List (ℕ × ℕ)). or_nothing (slice_get ps u)) (payments_settled H paid before)) in
      let none : (account_of old u).paid ≡ 0 = was.paid_to.0 ∙ nothing_before H u before in
      let plus : (account_of new u).paid ≡ (or_nothing (slice_get paid u)).0 = omega (arith, now.paid, none) in
      record {
        paid_in = now.paid_in ∙ was.paid_in ∙ ap (λ (n : ℕ). market.points_per_bit * n) (sym (deposited_kept H (Settles paid) u refl));
        taken_out = now.taken_out ∙ was.taken_out ∙ ap (λ (n : ℕ). market.points_per_bit * n) (sym (withdrawn_kept H (Settles paid) u refl));
        paid_to = (
          plus ∙ ap (λ (ends : ℕ × ℕ). ends.0) told,
          now.high ∙ ap (λ (ends : ℕ × ℕ). ends.1) told,
        );
      };
}

-- what the history says of each account before the settlement
pub unpaid_before : (market : Market) (H : List Entry) (accounts : List Account) → is_settled H ≡ false
    → AreAccounts market H accounts → (u : ℕ) → u < length accounts → (account_of accounts u).paid ≡ 0
unpaid_before market H accounts before are u within = (are.each u within).paid_to.0 ∙ nothing_before H u before

-- payments to each user, which can be printed, can be entered
pub enters : (file : MarketFile) (H : List Entry) (accounts : List Account)
    → IsSafe (market_of file) H → AreAccounts (market_of file) H accounts
    → CanBeSettled file.net H → (paid : List (ℕ × ℕ)) → length paid ≡ length (users H)
    → AllByRecursion FitPayment paid → CanBeEntered H accounts paid
enters file H accounts safe are can paid count fit = record {
  unsettled = can.unsettled;
  one_each = count ∙ sym are.one_each;
  few = omega (arith, count, safe.bounded.few_users, safe.legal.few_users);
  unpaid = unpaid_before (market_of file) H accounts can.unsettled are;
  fit = fit;
}

-- so the market is settled
module _ {P A Plan : Type 0} {weights_stand : P → Meaning → Type 0} {gains_stand : A → Meaning → Type 0} {plan_for : Plan → List Variable → GivenTree → Type 0}
    {file : MarketFile} {prices : P} {rows : A} {plan : Plan} {members : List (Member A Plan)} {ledger : LedgerOf} {journal : JournalOf}
    {payments : Option (List Payment)} {till : Option TillOf}
    (kept : IsKept weights_stand gains_stand plan_for file prices rows plan members ledger journal payments till)
    (can : CanBeSettled file.net journal.history) (none : None ≡ first_refusal (market_of file) journal.history Settle)
    {paid all : List (ℕ × ℕ)} (are : paid ≡ all) {new_ledger : LedgerOf} {new_journal : JournalOf}
    (is : IsEntered ledger new_ledger journal new_journal paid) (reply : Reply)
    (appends : entry_of (market_of file) journal.history Settle reply ≡ Some (Settles all)) where
  settled : new_journal.history ≡ journal.history ++ Settles all ∷ []
  settled = is.history ∙ ap (λ (ps : List (ℕ × ℕ)). journal.history ++ Settles ps ∷ []) are

  pub settlement_next : standing_of new_journal members ≡ after (market_of file) (standing_of journal members) (OfCommand Settle) reply
  settlement_next = ap (λ (H : List Entry). record { history = H; quotes = map (option_map quoted) (quotes_of members) })
      (settled ∙ sym (ap (λ (o : Option Entry). journal.history ++ option_to_list o) appends))

  -- and kept
  pub settlement_kept : IsSettledAt (market_of file) journal.history reply → HasUnits reply
      → (left : Option (List Payment)) (till_left : Option TillOf)
      → IsKept weights_stand gains_stand plan_for file prices rows plan members new_ledger new_journal left till_left
  settlement_kept agrees units left till_left =
      let H = journal.history in
      let e = Settles all in
      kept_grown weights_stand gains_stand plan_for file prices prices rows rows plan members members ledger new_ledger journal new_journal payments left till till_left
      e Settle reply tt tt units kept (record { unrefused = sym none; agrees = agrees }) settlement_next
      (record {
        history = settled;
        limits = record { trades = is.trades; users = is.users; transfers = is.transfers };
        prices_grown = λ m stands. stands;
        rows_grown = λ m stands. stands;
        names = kept.named ∙ sym (not_found H e join_in refl);
        held = λ u assets at. subst (Holds gains_stand assets) (sym (holding_same file.net file.tree H e u refl refl refl)) (kept.held u assets at);
        none_quoted = λ u quote at. at;
        accounts = accounts_settled (market_of file) H ledger.accounts new_ledger.accounts all can.unsettled kept.accounts_kept
            (subst (ArePaid ledger.accounts new_ledger.accounts) are is.paid_each);
        ledger_room = is.room ∙ kept.ledger_room;
        room = λ unsettled. absurd (settled_now H all unsettled);
        till_room = λ unsettled. absurd (settled_now H all unsettled);
      })

-- the revision behind a settlement
pub settled_at : (journal new_journal : JournalOf) (paid : List (ℕ × ℕ)) (at : ℕ) → new_journal.history ≡ journal.history ++ Settles paid ∷ []
    → at ≡ revision new_journal.history → at ≡ revision journal.history + 1
settled_at journal new_journal paid at history now =
    now ∙ ap (λ (H : List Entry). length H) history ∙ length_push journal.history (Settles paid)

-- one state is left, and the payments that are listed are what the factors there are worth
pub listed_settlement : (file : MarketFile) (H : List Entry) (pays : List Payment) (at : ℕ)
    → IsNetwork file.net → IsSafe (market_of file) H → CanBeSettled file.net H → at ≡ revision H + 1
    → ((state : List ℕ) → possible_states file.net H always ≡ state ∷ []
    → AllZip (IsPayment file.net H file.max_trades file.points_per_bit state) (enumerate_from 0 (users H)) pays)
    → IsSettlement file.net H file.max_trades file.points_per_bit (Settled at pays)
listed_settlement file H pays at legal safe can later paid =
    let left = outcome_exists file.net H legal safe.proper can.resolved in
    record {
      state = left.state;
      one_state = left.one_state;
      payments = pays;
      printed = ap (λ (n : ℕ). Settled n pays) later;
      paid = paid left.state left.one_state;
    }

-- as many users as a settlement may list, or more, are not the other
pub listed_agrees : (market : Market) (H : List Entry) (at : ℕ) (pays : List Payment) → length (users H) ≤ max_payments
    → at ≡ revision H + 1 → map (λ (p : Payment). p.user) pays ≡ users H → IsSettledAt market H (Settled at pays)
listed_agrees market H at pays few later in_order = record {
  listed = λ _. record { payments = pays; printed = ap (λ (n : ℕ). Settled n pays) later; in_order = in_order };
  summed = λ many. absurd (omega (arith, few, many));
}

pub summed_agrees : (market : Market) (H : List Entry) (reply : Reply) → max_payments < length (users H)
    → reply ≡ settled_by_rule market H → IsSettledAt market H reply
summed_agrees market H reply many e = record {
  listed = λ few. absurd (omega (arith, few, many));
  summed = λ _. e;
}

pub listed_settles : (market : Market) (H : List Entry) (reply : Reply) → length (users H) ≤ max_payments
    → IsSettlement market.network H market.max_trades market.points_per_bit reply → IsSettling market H reply
listed_settles market H reply few is = record { listed = λ _. is; summed = λ many. absurd (omega (arith, few, many)) }

pub summed_settles : (market : Market) (H : List Entry) (reply : Reply) → max_payments < length (users H)
    → reply ≡ settled_by_rule market H → IsSettling market H reply
summed_settles market H reply many e = record { listed = λ few. absurd (omega (arith, few, many)); summed = λ _. e }

-- each account was paid nothing before, so the payment that is listed is all that it was paid
pub listed_paid : (market : Market) (H : List Entry) (accounts new : List Account) (at : ℕ) (pays : List Payment) → is_settled H ≡ false
    → AreAccounts market H accounts → ArePaid accounts new (map ends_of pays) → length pays ≡ length accounts → All (λ p. p.paid ≡ p.low) pays
    → ArePaidBy (Settled at pays) accounts new
listed_paid market H accounts new at pays before are entered as_many lows u payment found =
    let few = slice_get_within pays u payment found in
    let inside : u < length accounts = omega (arith, few, as_many) in
    let now = (entered.each u inside).paid in
    let none = unpaid_before market H accounts before are u inside in
    let own : or_nothing (slice_get (map ends_of pays) u) ≡ ends_of payment =
    ap or_nothing (slice_get-map ends_of pays u ∙ ap (option_map ends_of) found) in
    let low : payment.paid ≡ payment.low = subst (λ (p : Payment). p.paid ≡ p.low) (get_or_from_slice_get pays u payment payment found) (lows u payment few) in
    omega (arith, now, none, ap (λ (ends : ℕ × ℕ). ends.0) own, low)

-- a settlement that meets no refusal can be
pub can_be_settled : (market : Market) (H : List Entry) → None ≡ first_refusal market H Settle → CanBeSettled market.network H
can_be_settled market H none =
    let refused = none_applies (refusals market H Settle) (sym none) in
    record { resolved = all_resolved market.network H refused.1.0; unsettled = not_faulted _ _ refused.0 }
