-- How a market is kept.
use Rattle.std.specs.Prelude.{◌≡◌, List, [], map, false, Option, Some, option_map}
use Rattle.mk_net.specs.Network.{Variable, IsNetwork}
use Rattle.mk_exact.specs.History.{users, is_settled}
use Rattle.mk_tree.specs.Given.{GivenTree}
use Rattle.mk_tree.specs.Checked.{IsTreeOf}
use Rattle.mk_file.specs.declared.market_file.MarketFile.{MarketFile}
use Rattle.mk_file.specs.MarketOf.{market_of}
use Rattle.mk_engine.specs.Meaning.{Meaning}
use Rattle.mk_beliefs.specs.Meanings.{weights_of, rows_of}
use Rattle.mk_cash.specs.Accounts.{LedgerOf}
use Rattle.mk_quote.specs.Quotes.{question_of, revision_of, limits_of}
use Rattle.mk_quote.specs.Spreads as spreads
use Rattle.mk_reply.specs.declared.payments.Payment.{Payment}
use Rattle.mk_rules.specs.Quotes as rules
use Rattle.mk_rules.specs.Transcript.{Standing}
use Rattle.mk_restore.specs.Laws.{IsSafe}
use Rattle.mk_record.specs.declared.last_quote.LastQuote.{LastQuote}
use Rattle.mk_record.specs.declared.last_quote.LastQuote.TheVariants.{Limits, Bounds}
use Rattle.mk_record.specs.declared.users.Member.{Member}
use Rattle.mk_record.specs.Journals.{JournalOf}
use Rattle.mk_record.specs.Members.{names_of, quotes_of}
use Rattle.mk_asking.specs.Keeping.{AreHeld, AreKeptQuotes}
use Rattle.mk_market.specs.Points.{AreAccounts}
use Rattle.mk_replay.specs.Tills.{TillOf, room_for}

-- a quote as the rules of the market see it
abbrev pub quoted : LastQuote → rules.Quote
quoted (Limits quote) = record { says = rules.EditLimits (question_of quote) (limits_of quote); at = revision_of quote }
quoted (Bounds quote) = record { says = rules.SpreadBounds (spreads.question_of quote) (spreads.intervals_of quote); at = spreads.revision_of quote }

-- what a journal and the users leave
abbrev pub standing_of : {E P : Type 0} → JournalOf → List (Member E P) → Standing
standing_of journal members = record { history = journal.history; quotes = map (option_map quoted) (quotes_of members) }

-- the engines, the users and the ledger are as the history leaves them, and the history is safe:
-- what a store gives back is that also where it isn't sound
module _ {P A Plan : Type 0} (weights_stand : P → Meaning → Type 0) (gains_stand : A → Meaning → Type 0) (plan_for : Plan → List Variable → GivenTree → Type 0) where
  -- what does not speak of the engines and the users
  pub record IsKeptBeside (file : MarketFile) (plan : Plan) (ledger : LedgerOf)
      (journal : JournalOf) (payments : Option (List Payment)) (till : Option TillOf) : Type 0 where
    pub legal : IsNetwork file.net
    pub tree : IsTreeOf file.net file.tree
    pub planned : plan_for plan file.net file.tree
    pub accounts_kept : AreAccounts (market_of file) journal.history ledger.accounts
    pub ledger_room : ledger.room ≡ file.max_users
    pub safe : IsSafe (market_of file) journal.history
    pub max_trades : journal.max_trades ≡ file.max_trades
    pub max_users : journal.max_users ≡ file.max_users
    pub max_transfers : journal.max_transfers ≡ file.max_transfers
    pub room : is_settled journal.history ≡ false → payments ≡ Some []
    pub till_room : is_settled journal.history ≡ false → till ≡ Some (room_for file.max_users)

  pub record IsKept (file : MarketFile) (prices : P) (rows : A) (plan : Plan) (members : List (Member A Plan)) (ledger : LedgerOf) (journal : JournalOf)
      (payments : Option (List Payment)) (till : Option TillOf) : Type 0 where
    pub beside : IsKeptBeside file plan ledger journal payments till
    pub open beside use *
    pub prices_stand : weights_stand prices (weights_of file.net file.tree journal.history)
    pub rows_stand : gains_stand rows (rows_of file.net file.tree journal.history)
    pub named : names_of members ≡ users journal.history
    pub held : AreHeld gains_stand file.net file.tree journal.history members
    pub quotes_kept : AreKeptQuotes file.net file.tree journal.history (quotes_of members)
