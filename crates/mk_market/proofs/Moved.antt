-- A market in which a user moves bits.
use Rattle.std.specs.Prelude.{◌≡◌, ℕ, ◌+◌, ◌*◌, ◌<◌, ◌≤◌, List, [], ◌∷◌, ◌++◌, map, false, Option, Some, None}
use Rattle.std.specs.Prelude.{option_map, slice_get, slice_set}
use Rattle.std.proofs.Common.{sym, ap, ap₂, ◌∙◌, subst, arith}
use Rattle.std.proofs.Math.Nat.{mul-le-mul}
use Rattle.mk_net.specs.Bounds.{number_limit}
use Rattle.mk_net.specs.Network.{Variable}
use Rattle.mk_exact.specs.History.{Entry, join_in, is_settlement}
use Rattle.mk_tree.specs.Given.{GivenTree}
use Rattle.mk_file.specs.declared.market_file.MarketFile.{MarketFile}
use Rattle.mk_file.specs.MarketOf.{market_of}
use Rattle.mk_engine.specs.Meaning.{Meaning}
use Rattle.mk_beliefs.specs.Meanings.{grown, grown_rows}
use Rattle.mk_assets.specs.declared.assets.Assets.{Assets}
use Rattle.mk_assets.specs.Holdings.{Holds, max_bits}
use Rattle.mk_cash.specs.declared.ledger.Account.{Account}
use Rattle.mk_cash.specs.Accounts.{account_of, LedgerOf}
use Rattle.mk_command.specs.declared.command.Command.{Command}
use Rattle.mk_reply.specs.declared.payments.Payment.{Payment}
use Rattle.mk_reply.specs.declared.reply.Reply.{Reply}
use Rattle.mk_rules.specs.Bounded.{JoinsByName}
use Rattle.mk_rules.specs.Refusals.{user_number}
use Rattle.mk_rules.specs.Transcript.{OfCommand, after}
use Rattle.mk_rules.proofs.Adds.{IsNoAddition}
use Rattle.mk_restore.specs.Restoring.{IsFit}
use Rattle.mk_restore.proofs.Safe.{HasUnits}
use Rattle.mk_answers.specs.Open.{holding_of}
use Rattle.mk_record.specs.declared.last_quote.LastQuote.{LastQuote}
use Rattle.mk_record.specs.declared.users.Member.{Member}
use Rattle.mk_record.specs.Journals.{JournalOf}
use Rattle.mk_record.specs.Members.{assets_of, quotes_of, with_assets}
use Rattle.mk_record.specs.Refused.{IsUser}
use Rattle.mk_record.proofs.Appends.{not_there, not_found}
use Rattle.mk_replay.specs.Tills.{TillOf}
use Rattle.mk_asking.specs.Keeping.{TakesAsMuch}
use Rattle.mk_asking.proofs.Owned.{names_same, quotes_same, held_one}
use Rattle.mk_market.specs.Points.{IsAccount, AreAccounts}
use Rattle.mk_market.specs.inner.Keeping.{quoted, standing_of, IsKept}
use Rattle.mk_market.proofs.Accounted.{paid_set}
use Rattle.mk_market.proofs.Growing.{kept_grown}

-- an entry by which nobody joins, nothing is settled, and no engine learns of a trade or a pair
pub record MovesBits (e : Entry) : Type 0 where
  pub joins : join_in e ≡ None
  pub settles : is_settlement e ≡ false
  pub weights : (m : Meaning) → grown e m ≡ m
  pub rows : (m : Meaning) → grown_rows e m ≡ m

-- the points of as many bits as a holding may have are a number
pub points_below : (file : MarketFile) (moved bits points : ℕ) → moved + bits ≤ max_bits
    → points ≡ file.points_per_bit * moved → points + file.points_per_bit * bits < number_limit
points_below file moved bits points fits are =
    let most : file.points_per_bit * (moved + bits) ≤ 1000000 * 1000000000 = mul-le-mul
    file.points_most fits in
    omega (arith, are, most)

module _ {P A Plan : Type 0} (weights_stand : P → Meaning → Type 0) (gains_stand : A → Meaning
    → Type 0) (plan_for : Plan → List Variable → GivenTree → Type 0)
    (file : MarketFile) (prices : P) (rows : A) (plan : Plan) (members : List (Member A Plan))
    (ledger : LedgerOf) (journal : JournalOf) (payments : Option (List Payment))
    (till : Option TillOf)
    (kept : IsKept weights_stand gains_stand plan_for file prices rows plan members ledger journal
    payments till)
    (name : List ℕ) (user : ℕ) (is_user : IsUser journal.history name user) where
  pub its_account : IsAccount (market_of file) journal.history user
      (account_of ledger.accounts user)
  its_account = kept.accounts_kept.each user
      (omega (arith, is_user.within, kept.accounts_kept.one_each))

  -- an account that says the same of what was paid leaves what each user was paid
  pub transfer_paid : (new_ledger : LedgerOf) (account : Account)
      → new_ledger ≡ record ledger { accounts = slice_set ledger.accounts user account }
      → account.paid ≡ (account_of ledger.accounts user).paid
      → (u : ℕ) → (account_of new_ledger.accounts u).paid ≡ (account_of ledger.accounts u).paid
  transfer_paid new_ledger account entered same u =
      ap (λ (l : LedgerOf). (account_of l.accounts u).paid) entered
      ∙ paid_set ledger.accounts user account
      (omega (arith, is_user.within, kept.accounts_kept.one_each)) same u

  module _ (entry : ℕ → Entry) (before now : Assets A Plan)
      (there : slice_get (assets_of members) user ≡ Some before) (new_ledger : LedgerOf)
      (new_journal : JournalOf)
      (history : new_journal.history ≡ journal.history ++ entry user ∷ []) where
    same_quotes : quotes_of (with_assets members user now) ≡ quotes_of members
    same_quotes = quotes_same members user before now there

    -- the entry is that of the user of this name
    pub transfer_next : standing_of new_journal (with_assets members user now)
        ≡ record {
          history = journal.history ++ entry (user_number journal.history name) ∷ [];
          quotes = map (option_map quoted) (quotes_of members);
        }
    transfer_next = ap₂ (λ (H : List Entry) (qs : List (Option LastQuote)). record
        { history = H; quotes = map (option_map quoted) qs })
        (history ∙ ap (λ (v : ℕ). journal.history ++ entry v ∷ []) is_user.number) same_quotes

    -- the market is kept behind it
    pub transfer_kept : (command : Command) (reply : Reply) → JoinsByName (OfCommand command)
        → IsNoAddition command → HasUnits reply
        → IsFit (market_of file) journal.history command reply
        → after (market_of file) (standing_of journal members) (OfCommand command) reply
        ≡ record {
          history = journal.history ++ entry (user_number journal.history name) ∷ [];
          quotes = map (option_map quoted) (quotes_of members);
        }
        → MovesBits (entry user) → TakesAsMuch journal new_journal
        → Holds gains_stand now (holding_of file.net file.tree (journal.history ++ entry user ∷ [])
        user)
        → ((u : ℕ) → (u ≡ user → ⊥) → holding_of file.net file.tree
        (journal.history ++ entry user ∷ []) u ≡ holding_of file.net file.tree journal.history
        u)
        → AreAccounts (market_of file) (journal.history ++ entry user ∷ []) new_ledger.accounts
        → new_ledger.room ≡ file.max_users
        → IsKept weights_stand gains_stand plan_for file prices rows plan
        (with_assets members user now) new_ledger new_journal payments till
    transfer_kept command reply joins other units fit leaves is limits own others accounts room =
        let H = journal.history in
        kept_grown weights_stand gains_stand plan_for file prices prices rows rows plan members
        (with_assets members user now) ledger new_ledger journal new_journal payments payments
        till till
        (entry user) command reply joins other units kept fit (transfer_next ∙ sym leaves)
        (record {
          history = history;
          limits = limits;
          prices_grown = λ m stands. subst (weights_stand prices) (sym (is.weights m)) stands;
          rows_grown = λ m stands. subst (gains_stand rows) (sym (is.rows m)) stands;
          names = names_same members user before now there ∙ kept.named
              ∙ sym (not_found H (entry user) join_in is.joins);
          held = held_one file.net file.tree H gains_stand members user before now (entry user)
              there kept.held own others;
          none_quoted = λ u quote at. subst (λ (qs : List (Option LastQuote)). slice_get qs u ≡ Some
              (Some quote)) same_quotes at;
          accounts = accounts;
          ledger_room = room;
          room = λ unsettled. kept.room (sym (not_there H (entry user) is_settlement is.settles)
              ∙ unsettled);
          till_room = λ unsettled. kept.till_room
              (sym (not_there H (entry user) is_settlement is.settles) ∙ unsettled);
        })
