-- A market in which a user trades.
use Rattle.std.specs.Prelude.{◌≡◌, ℕ, ◌<◌, List, [], ◌∷◌, ◌++◌, length, false, Option, Some}
use Rattle.std.specs.Prelude.{slice_get}
use Rattle.std.proofs.Common.{refl, sym, ap, ◌∙◌, subst, arith}
use Rattle.mk_net.specs.Network.{Variable}
use Rattle.mk_net.specs.Asked.{TradeRatio, ratio_pairs}
use Rattle.mk_exact.specs.History.{Entry, Trade, join_in, users, trades, is_settlement, is_settled}
use Rattle.mk_states.specs.OfNetwork.{IsRatioOf}
use Rattle.mk_tree.specs.Given.{GivenTree, home}
use Rattle.mk_file.specs.declared.market_file.MarketFile.{MarketFile}
use Rattle.mk_file.specs.MarketOf.{market_of}
use Rattle.mk_engine.specs.Meaning.{Meaning, RatioOf, with_factor}
use Rattle.mk_cash.specs.Accounts.{LedgerOf}
use Rattle.mk_command.specs.declared.command.Command.{Command}
use Rattle.mk_reply.specs.declared.payments.Payment.{Payment}
use Rattle.mk_reply.specs.declared.reply.Reply.{Reply}
use Rattle.mk_restore.specs.Restoring.{IsFit}
use Rattle.mk_restore.proofs.Safe.{HasUnits}
use Rattle.mk_rules.specs.Transcript.{OfCommand, after}
use Rattle.mk_rules.proofs.Adds.{IsNoAddition}
use Rattle.mk_rules.specs.Bounded.{JoinsByName}
use Rattle.mk_record.specs.declared.last_quote.LastQuote.{LastQuote}
use Rattle.mk_record.specs.declared.users.Member.{Member}
use Rattle.mk_record.specs.Journals.{JournalOf}
use Rattle.mk_record.specs.Members.{names_of, quotes_of}
use Rattle.mk_asking.specs.Keeping.{AreHeld, TakesAsMuch}
use Rattle.mk_market.specs.inner.Keeping.{standing_of, IsKept}
use Rattle.mk_asking.specs.Quoting.{AreInUse, CanBeMade}
use Rattle.mk_market.proofs.Accounted.{accounts_kept}
use Rattle.mk_record.proofs.Appends.{not_there, not_found}
use Rattle.mk_market.proofs.Growing.{is_open, kept_grown}
use Rattle.mk_asking.proofs.Lent.{in_range}
use Rattle.mk_replay.specs.Tills.{TillOf}

-- the entry of a trade is that of the ratio that its own is
pub traded_by : (H : List Entry) (user : ℕ) {later : List Entry} {own its : TradeRatio}
    → later ≡ H ++ Trade user own ∷ [] → own ≡ its → later ≡ H ++ Trade user its ∷ []
traded_by H user history same = history ∙ ap (λ (r : TradeRatio). H ++ Trade user r ∷ []) same

module _ {P A Plan : Type 0} (weights_stand : P → Meaning → Type 0) (gains_stand : A → Meaning → Type 0) (plan_for : Plan → List Variable → GivenTree → Type 0)
    (file : MarketFile) (prices : P) (rows : A) (plan : Plan) (members : List (Member A Plan)) (ledger : LedgerOf) (journal : JournalOf)
    (payments : Option (List Payment)) (till : Option TillOf) (kept : IsKept weights_stand gains_stand plan_for file prices rows plan members ledger journal payments till) where
  -- a market that is kept is in use, and so it is by an engine that stands for all that its own stood for, and by other assets that its history leaves
  pub in_use : (new_prices : P) (new_members : List (Member A Plan)) → ((m : Meaning) → weights_stand prices m → weights_stand new_prices m)
      → AreHeld gains_stand file.net file.tree journal.history new_members
      → AreInUse weights_stand gains_stand file.net file.tree journal.history new_prices new_members
  in_use new_prices new_members still_prices held = record {
    is_open = is_open weights_stand gains_stand plan_for file prices rows plan members ledger journal payments till kept;
    weights = still_prices _ kept.prices_stand;
    held = held;
  }

  module _ (user : ℕ) (within : user < length (users journal.history)) (ratio : TradeRatio) where
    -- a trade of a ratio of the network that has a home can be made there
    pub can_be_made : (new_prices : P) (new_members : List (Member A Plan)) → ((m : Meaning) → weights_stand prices m → weights_stand new_prices m)
        → AreHeld gains_stand file.net file.tree journal.history new_members → names_of new_members ≡ names_of members
        → IsRatioOf file.net ratio → (at : ℕ) → home file.tree (ratio_pairs ratio) ≡ Some at
        → length (trades journal.history) < journal.max_trades
        → CanBeMade weights_stand gains_stand new_prices new_members journal user at ratio
    can_be_made new_prices new_members still_prices held same_names fits at at_home room =
        record {
          network = file.net;
          tree = file.tree;
          in_use = in_use new_prices new_members still_prices held;
          within = in_range new_members (users journal.history) user (same_names ∙ kept.named) within;
          in_range = fits;
          at_home = at_home;
          room = room;
          few = omega (arith, kept.max_trades, file.trades_most);
        }

    -- and where the reply to it is taken back the market is kept
    pub trade_kept : (command : Command) (reply : Reply) → JoinsByName (OfCommand command) → IsNoAddition command → HasUnits reply
        → is_settled journal.history ≡ false
        → (new_members : List (Member A Plan)) (new_journal : JournalOf)
        → IsFit (market_of file) journal.history command reply
        → standing_of new_journal new_members ≡ after (market_of file) (standing_of journal members) (OfCommand command) reply
        → new_journal.history ≡ journal.history ++ Trade user ratio ∷ [] → quotes_of new_members ≡ quotes_of members
        → (new_prices : P) → TakesAsMuch journal new_journal
        → ((m : Meaning) → weights_stand prices m → weights_stand new_prices (with_factor (RatioOf ratio) m))
        → names_of new_members ≡ names_of members
        → AreHeld gains_stand file.net file.tree (journal.history ++ Trade user ratio ∷ []) new_members
        → IsKept weights_stand gains_stand plan_for file new_prices rows plan new_members ledger new_journal payments till
    trade_kept command reply joins other units unsettled new_members new_journal fit next history same_quotes new_prices limits grown names held =
        let H = journal.history in
        kept_grown weights_stand gains_stand plan_for file prices new_prices rows rows plan members new_members ledger ledger journal new_journal payments payments till till
        (Trade user ratio) command reply joins other units kept fit next
        (record {
          history = history;
          limits = limits;
          prices_grown = grown;
          rows_grown = λ m stands. stands;
          names = names ∙ kept.named ∙ sym (not_found H (Trade user ratio) join_in refl);
          held = held;
          none_quoted = λ u quote at. subst (λ (qs : List (Option LastQuote)). slice_get qs u ≡ Some (Some quote)) same_quotes at;
          accounts = accounts_kept (market_of file) H unsettled (Trade user ratio) ledger.accounts refl refl (λ u. (refl, refl)) kept.accounts_kept;
          ledger_room = kept.ledger_room;
          room = λ still. kept.room (sym (not_there H (Trade user ratio) is_settlement refl) ∙ still);
          till_room = λ still. kept.till_room (sym (not_there H (Trade user ratio) is_settlement refl) ∙ still);
        })
