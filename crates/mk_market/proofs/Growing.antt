-- How a market is kept while its history grows, and while it stays.
use Rattle.std.specs.Prelude.{◌≡◌, ℕ, ◌+◌, List, [], ◌∷◌, ◌++◌, length, false, Option, Some}
use Rattle.std.specs.Prelude.{slice_get}
use Rattle.std.proofs.Common.{sym, ap, ◌∙◌, subst, arith}
use Rattle.std.proofs.lemmas.List.{length_push}
use Rattle.mk_net.specs.Network.{Variable}
use Rattle.mk_exact.specs.History.{Entry, users, is_settled}
use Rattle.mk_exact.specs.Market.{Market}
use Rattle.mk_tree.specs.Given.{GivenTree}
use Rattle.mk_tree.specs.Tests.{members}
use Rattle.mk_file.specs.declared.market_file.MarketFile.{MarketFile}
use Rattle.mk_file.specs.MarketOf.{market_of}
use Rattle.mk_engine.specs.Meaning.{Meaning}
use Rattle.mk_beliefs.specs.Meanings.{weights_of, rows_of, grown, grown_rows}
use Rattle.mk_beliefs.proofs.Grown.{weights_grow}
use Rattle.mk_beliefs.proofs.Initials.{rows_grow}
use Rattle.mk_assets.specs.declared.assets.Assets.{Assets}
use Rattle.mk_assets.specs.Holdings.{Holding, Holds}
use Rattle.mk_cash.specs.Accounts.{LedgerOf}
use Rattle.mk_record.specs.declared.last_quote.LastQuote.{LastQuote}
use Rattle.mk_command.specs.declared.command.Command.{Command}
use Rattle.mk_reply.specs.declared.payments.Payment.{Payment}
use Rattle.mk_reply.specs.declared.reply.Reply.{Reply}
use Rattle.mk_rules.specs.Answers.{next_history}
use Rattle.mk_rules.specs.Transcript.{Standing, OfCommand, after}
use Rattle.mk_rules.proofs.Adds.{IsNoAddition, adds_nothing}
use Rattle.mk_rules.specs.Bounded.{JoinsByName}
use Rattle.mk_restore.specs.Laws.{IsSafe}
use Rattle.mk_restore.specs.Restoring.{IsFit}
use Rattle.mk_restore.proofs.Safe.{HasUnits, fit_keeps_safe}
use Rattle.mk_answers.specs.Open.{IsOpen, holding_of}
use Rattle.mk_record.specs.declared.users.Member.{Member}
use Rattle.mk_record.specs.Journals.{JournalOf}
use Rattle.mk_record.specs.Members.{names_of, assets_of, quotes_of}
use Rattle.mk_market.specs.Points.{AreAccounts}
use Rattle.mk_asking.specs.Keeping.{AreHeld, IsKeptQuote, AreKeptQuotes, TakesAsMuch}
use Rattle.mk_market.specs.inner.Keeping.{standing_of, IsKept}
use Rattle.mk_replay.specs.Tills.{TillOf, room_for}

-- a change that is taken back keeps its market safe, where it adds nothing to it
abbrev pub SafeIn : List Entry → Market → Type 0
SafeIn H market = IsSafe market H

pub fit_stays_safe : (market : Market) (H : List Entry) (command : Command) (reply : Reply)
    → JoinsByName (OfCommand command) → IsNoAddition command → HasUnits reply → IsSafe market H
    → IsFit market H command reply → IsSafe market (next_history market H command reply)
fit_stays_safe market H command reply joins other units safe fit =
    subst (SafeIn (next_history market H command reply)) (adds_nothing market H command reply other)
    (fit_keeps_safe market H command reply joins units safe fit)

-- after an entry a quote is of an earlier revision
pub quote_later : (network longer : List Variable) (tree more : GivenTree) (H : List Entry)
    (e : Entry) (u : ℕ) (quote : LastQuote)
    → IsKeptQuote network tree H u quote → IsKeptQuote longer more (H ++ e ∷ []) u quote
quote_later network longer tree more H e u quote kept =
    let pushed : length (H ++ e ∷ []) ≡ length H + 1 = length_push H e in
    record { same_user = kept.same_user; not_later = omega (arith, kept.not_later); current = λ same. absurd (omega (arith, kept.not_later)) }

-- a market that is kept is open
pub open_by : {P A Plan : Type 0} {weights_stand : P → Meaning → Type 0}
    {gains_stand : A → Meaning → Type 0} {plan_for : Plan → List Variable → GivenTree → Type 0}
    {file : MarketFile} {prices : P} {rows : A} {plan : Plan} {members : List (Member A Plan)}
    {ledger : LedgerOf} {journal : JournalOf} {payments : Option (List Payment)}
    {till : Option TillOf}
    → IsKept weights_stand gains_stand plan_for file prices rows plan members ledger journal
    payments till
    → IsOpen file.net file.tree journal.history
open_by kept = record {
  legal = kept.legal;
  tree_of_it = kept.tree;
  proper = kept.safe.proper;
  within = kept.safe.bounded.within;
}

module _ {P A Plan : Type 0} (weights_stand : P → Meaning → Type 0) (gains_stand : A → Meaning → Type 0) (plan_for : Plan → List Variable → GivenTree → Type 0) where
  pub is_open : (file : MarketFile) (prices : P) (rows : A) (plan : Plan) (members : List (Member A Plan)) (ledger : LedgerOf) (journal : JournalOf) (payments : Option (List Payment)) (till : Option TillOf)
      → IsKept weights_stand gains_stand plan_for file prices rows plan members ledger journal payments till → IsOpen file.net file.tree journal.history
  is_open file prices rows plan members ledger journal payments till kept = open_by kept

  -- engines that stand for the history, and users of the same names and of assets and quotes that
  -- are theirs, keep the market too
  pub kept_by : (file : MarketFile) (prices new_prices : P) (rows new_rows : A) (plan : Plan) (members new_members : List (Member A Plan)) (ledger : LedgerOf)
      (journal : JournalOf) (payments : Option (List Payment)) (till : Option TillOf)
      → IsKept weights_stand gains_stand plan_for file prices rows plan members ledger journal payments till
      → weights_stand new_prices (weights_of file.net file.tree journal.history)
      → gains_stand new_rows (rows_of file.net file.tree journal.history)
      → names_of new_members ≡ users journal.history
      → AreHeld gains_stand file.net file.tree journal.history new_members
      → AreKeptQuotes file.net file.tree journal.history (quotes_of new_members)
      → IsKept weights_stand gains_stand plan_for file new_prices new_rows plan new_members ledger journal payments till
  kept_by file prices new_prices rows new_rows plan members new_members ledger journal payments till kept prices_stand rows_stand named held quotes_kept = record {
    beside = kept.beside;
    prices_stand = prices_stand;
    rows_stand = rows_stand;
    named = named;
    held = held;
    quotes_kept = quotes_kept;
  }

  -- what the parts of a market became by an entry
  pub record AreGrown (file : MarketFile) (journal new_journal : JournalOf) (e : Entry) (prices new_prices : P) (rows new_rows : A) (members new_members : List (Member A Plan))
      (new_ledger : LedgerOf) (new_payments : Option (List Payment)) (new_till : Option TillOf) : Type 0 where
    pub history : new_journal.history ≡ journal.history ++ e ∷ []
    pub limits : TakesAsMuch journal new_journal
    pub prices_grown : (m : Meaning) → weights_stand prices m → weights_stand new_prices (grown e m)
    pub rows_grown : (m : Meaning) → gains_stand rows m → gains_stand new_rows (grown_rows e m)
    pub names : names_of new_members ≡ users (journal.history ++ e ∷ [])
    pub held : AreHeld gains_stand file.net file.tree (journal.history ++ e ∷ []) new_members
    pub none_quoted : (u : ℕ) (quote : LastQuote) → slice_get (quotes_of new_members) u ≡ Some (Some quote) → slice_get (quotes_of members) u ≡ Some (Some quote)
    pub accounts : AreAccounts (market_of file) (journal.history ++ e ∷ []) new_ledger.accounts
    pub ledger_room : new_ledger.room ≡ file.max_users
    pub room : is_settled (journal.history ++ e ∷ []) ≡ false → new_payments ≡ Some []
    pub till_room : is_settled (journal.history ++ e ∷ []) ≡ false → new_till ≡ Some (room_for file.max_users)

  -- a reply that is taken back leads from a market that is kept to one that is
  pub kept_grown : (file : MarketFile) (prices new_prices : P) (rows new_rows : A) (plan : Plan) (members new_members : List (Member A Plan)) (ledger new_ledger : LedgerOf)
      (journal new_journal : JournalOf) (payments new_payments : Option (List Payment)) (till new_till : Option TillOf) (e : Entry) (command : Command) (reply : Reply)
      → JoinsByName (OfCommand command) → IsNoAddition command → HasUnits reply
      → IsKept weights_stand gains_stand plan_for file prices rows plan members ledger journal payments till
      → IsFit (market_of file) journal.history command reply
      → standing_of new_journal new_members ≡ after (market_of file) (standing_of journal members) (OfCommand command) reply
      → AreGrown file journal new_journal e prices new_prices rows new_rows members new_members new_ledger new_payments new_till
      → IsKept weights_stand gains_stand plan_for file new_prices new_rows plan new_members new_ledger new_journal new_payments new_till
  kept_grown file prices new_prices rows new_rows plan members new_members ledger new_ledger journal new_journal payments new_payments till new_till e command reply joins other units kept fit next are =
      let market = market_of file in
      let back : journal.history ++ e ∷ [] ≡ new_journal.history = sym are.history in
      record {
        beside = record {
          legal = kept.legal;
          tree = kept.tree;
          planned = kept.planned;
          accounts_kept = subst (λ (H : List Entry). AreAccounts (market_of file) H new_ledger.accounts) back are.accounts;
          ledger_room = are.ledger_room;
          safe = subst (λ (now : Standing). IsSafe market now.history) (sym next)
              (fit_stays_safe market journal.history command reply joins other units kept.safe fit);
          max_trades = are.limits.trades ∙ kept.max_trades;
          max_users = are.limits.users ∙ kept.max_users;
          max_transfers = are.limits.transfers ∙ kept.max_transfers;
          room = λ unsettled. are.room (subst (λ (H : List Entry). is_settled H ≡ false) are.history unsettled);
          till_room = λ unsettled. are.till_room (subst (λ (H : List Entry). is_settled H ≡ false) are.history unsettled);
        };
        prices_stand = subst (λ (H : List Entry). weights_stand new_prices (weights_of file.net file.tree H)) back
            (subst (weights_stand new_prices) (sym (weights_grow file.net file.tree journal.history e)) (are.prices_grown (weights_of file.net file.tree journal.history) kept.prices_stand));
        rows_stand = subst (λ (H : List Entry). gains_stand new_rows (rows_of file.net file.tree H)) back
            (subst (gains_stand new_rows) (sym (rows_grow file.net file.tree journal.history e)) (are.rows_grown (rows_of file.net file.tree journal.history) kept.rows_stand));
        named = are.names ∙ ap users back;
        held = λ u assets at. subst (λ (H : List Entry). Holds gains_stand assets (holding_of file.net file.tree H u)) back (are.held u assets at);
        quotes_kept = λ u quote at. subst (λ (H : List Entry). IsKeptQuote file.net file.tree H u quote) back
            (quote_later file.net file.net file.tree file.tree journal.history e u quote (kept.quotes_kept u quote (are.none_quoted u quote at)));
      }

  -- engines that stand for all that they stood for, and assets of all holdings that they were of, beside the same names and quotes
  pub record AreStill (prices new_prices : P) (members new_members : List (Member A Plan)) : Type 0 where
    pub prices_still : (m : Meaning) → weights_stand prices m → weights_stand new_prices m
    pub names_still : names_of new_members ≡ names_of members
    pub quotes_still : quotes_of new_members ≡ quotes_of members
    pub held_still : (u : ℕ) (assets : Assets A Plan) → slice_get (assets_of new_members) u ≡ Some assets
        → (before : Assets A Plan) × (slice_get (assets_of members) u ≡ Some before) × ((h : Holding) → Holds gains_stand before h → Holds gains_stand assets h)

  -- an answer that appends none
  pub kept_still : (file : MarketFile) (prices new_prices : P) (rows : A) (plan : Plan) (members new_members : List (Member A Plan)) (ledger : LedgerOf)
      (journal : JournalOf) (payments : Option (List Payment)) (till : Option TillOf)
      → IsKept weights_stand gains_stand plan_for file prices rows plan members ledger journal payments till
      → AreStill prices new_prices members new_members
      → IsKept weights_stand gains_stand plan_for file new_prices rows plan new_members ledger journal payments till
  kept_still file prices new_prices rows plan members new_members ledger journal payments till kept are =
      kept_by file prices new_prices rows rows plan members new_members ledger journal payments till kept
      (are.prices_still (weights_of file.net file.tree journal.history) kept.prices_stand)
      kept.rows_stand (are.names_still ∙ kept.named)
      (λ u assets at.
      let own = are.held_still u assets at in
      own.2 (holding_of file.net file.tree journal.history u) (kept.held u (own.0) (own.1)))
      (subst (AreKeptQuotes file.net file.tree journal.history) (sym are.quotes_still) kept.quotes_kept)

  -- the engine of initial weights may change as long as it stands for all that it stood for
  pub rows_kept : (file : MarketFile) (prices : P) (rows new_rows : A) (plan : Plan) (members : List (Member A Plan)) (ledger : LedgerOf) (journal : JournalOf)
      (payments : Option (List Payment)) (till : Option TillOf) → IsKept weights_stand gains_stand plan_for file prices rows plan members ledger journal payments till
      → ((m : Meaning) → gains_stand rows m → gains_stand new_rows m)
      → IsKept weights_stand gains_stand plan_for file prices new_rows plan members ledger journal payments till
  rows_kept file prices rows new_rows plan members ledger journal payments till kept still =
      kept_by file prices prices rows new_rows plan members members ledger journal payments till kept
      kept.prices_stand (still (rows_of file.net file.tree journal.history) kept.rows_stand)
      kept.named kept.held kept.quotes_kept
