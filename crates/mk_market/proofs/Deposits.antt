-- Bits are paid in.
use Rattle.std.specs.Prelude.{◌≡◌, ℕ, ◌+◌, ◌*◌, ◌<◌, ◌≤◌, List, [], ◌∷◌, ◌++◌, length, Option}
use Rattle.std.specs.Prelude.{Some, None, slice_get, slice_set}
use Rattle.std.proofs.Common.{refl, sym, ap, ◌∙◌, subst, arith}
use Rattle.std.proofs.lemmas.List.{length_push}
use Rattle.mk_net.specs.Network.{Variable}
use Rattle.mk_net.specs.Bounds.{number_limit}
use Rattle.mk_exact.specs.History.{Entry, Deposit as Deposits, users, deposited, revision}
use Rattle.mk_tree.specs.Given.{GivenTree}
use Rattle.mk_file.specs.declared.market_file.MarketFile.{MarketFile}
use Rattle.mk_file.specs.MarketOf.{market_of}
use Rattle.mk_engine.specs.Meaning.{Meaning}
use Rattle.mk_assets.specs.declared.assets.Assets.{Assets}
use Rattle.mk_assets.specs.Holdings.{Holding, Holds, CanDeposit, max_bits, with_deposit}
use Rattle.mk_cash.specs.Accounts.{account_of, LedgerOf}
use Rattle.mk_command.specs.declared.command.Command.TheVariants.{Deposit}
use Rattle.mk_reply.specs.declared.payments.Payment.{Payment}
use Rattle.mk_reply.specs.declared.reply.Reply.TheVariants.{Deposited}
use Rattle.mk_rules.specs.Refusals.{first_refusal}
use Rattle.mk_rules.specs.Transcript.{OfCommand, IsAllowedFor, after}
use Rattle.mk_answers.specs.Open.{holding_of}
use Rattle.mk_record.specs.declared.users.Member.{Member}
use Rattle.mk_record.specs.Journals.{JournalOf}
use Rattle.mk_record.specs.Members.{assets_of, with_assets}
use Rattle.mk_market.specs.Points.{ArePaidBy}
use Rattle.mk_record.specs.Refused.{IsUser, HasRoomForTransfer}
use Rattle.mk_asking.specs.Keeping.{TakesAsMuch}
use Rattle.mk_market.specs.inner.Keeping.{standing_of, IsKept}
use Rattle.mk_market.proofs.Moved.{points_below, its_account, transfer_paid, transfer_next, transfer_kept}
use Rattle.mk_market.proofs.Owned.{deposit_holding}
use Rattle.mk_market.proofs.Owned.{deposit_others}
use Rattle.mk_parts.proofs.Moved.{few_moved}
use Rattle.mk_market.proofs.Accounted.{accounts_deposited}
use Rattle.mk_market.proofs.Replies.{answer_allowed, unsettled}
use Rattle.mk_replay.specs.Tills.{TillOf}

module _ {P A Plan : Type 0} (weights_stand : P → Meaning → Type 0) (gains_stand : A → Meaning → Type 0) (plan_for : Plan → List Variable → GivenTree → Type 0)
    (file : MarketFile) (prices : P) (rows : A) (plan : Plan) (members : List (Member A Plan)) (ledger : LedgerOf) (journal : JournalOf) (payments : Option (List Payment)) (till : Option TillOf)
    (kept : IsKept weights_stand gains_stand plan_for file prices rows plan members ledger journal payments till)
    (name : List ℕ) (user bits : ℕ) (is_user : IsUser journal.history name user) (room : HasRoomForTransfer journal bits) where
  bits_fit : deposited journal.history user + bits ≤ max_bits
  bits_fit = let most = few_moved (length (users journal.history)) user journal.history kept.safe.bounded.transfers_fit in omega (arith, most.0, room.most, room.few, kept.max_transfers, file.transfers_most)

  pub can_deposit : (before : Assets A Plan) → slice_get (assets_of members) user ≡ Some before → CanDeposit gains_stand before bits
  can_deposit before there = record { holding = holding_of file.net file.tree journal.history user; holds = kept.held user before there; room = bits_fit }

  pub points_fit : (account_of ledger.accounts user).deposited + file.points_per_bit * bits < number_limit
  points_fit =
      points_below file (deposited journal.history user) bits
      (account_of ledger.accounts user).deposited bits_fit
      (its_account weights_stand gains_stand plan_for file prices rows plan members ledger journal
      payments till kept name user is_user).paid_in

  pub deposit_paid : (new_ledger : LedgerOf)
      → new_ledger ≡ record ledger {
        accounts = slice_set ledger.accounts user (let account = account_of ledger.accounts user in record
            account { deposited = account.deposited + file.points_per_bit * bits });
      }
      → (at : ℕ) → ArePaidBy (Deposited name bits at) ledger.accounts new_ledger.accounts
  deposit_paid new_ledger entered at u =
      transfer_paid weights_stand gains_stand plan_for file prices rows plan members ledger journal
      payments till kept name user is_user new_ledger
      (let account = account_of ledger.accounts user in record account
      { deposited = account.deposited + file.points_per_bit * bits }) entered refl u

  module _ (before now : Assets A Plan) (there : slice_get (assets_of members) user ≡ Some before) (new_ledger : LedgerOf) (new_journal : JournalOf)
      (history : new_journal.history ≡ journal.history ++ Deposits user bits ∷ []) (none : None ≡ first_refusal (market_of file) journal.history (Deposit name bits)) where
    -- the market is kept
    pub deposit_kept : TakesAsMuch journal new_journal
        → ((h : Holding) → Holds gains_stand before h → h.deposited + bits ≤ max_bits → Holds gains_stand now (with_deposit bits h))
        → new_ledger ≡ record ledger { accounts = slice_set ledger.accounts user (let account = account_of ledger.accounts user in record account { deposited = account.deposited + file.points_per_bit * bits }) }
        → IsKept weights_stand gains_stand plan_for file prices rows plan (with_assets members user now) new_ledger new_journal payments till
    deposit_kept limits deposits paid =
        let H = journal.history in
        transfer_kept weights_stand gains_stand plan_for file prices rows plan members ledger
        journal payments till kept name user is_user
        (λ (v : ℕ). Deposits v bits) before now there new_ledger new_journal history
        (Deposit name bits) (Deposited name bits (revision H + 1)) tt tt tt
        (record { unrefused = sym none; agrees = refl }) refl
        (record { joins = refl; settles = refl; weights = λ m. refl; rows = λ m. refl }) limits
        (subst (Holds gains_stand now) (sym (deposit_holding file.net file.tree H user bits))
        (deposits (holding_of file.net file.tree H user) (kept.held user before there) bits_fit))
        (deposit_others file.net file.tree H user bits)
        (rw paid (accounts_deposited (market_of file) H
        (unsettled (market_of file) H (Deposit name bits) none) ledger.accounts user bits
        (file.points_per_bit * bits) is_user.within refl kept.accounts_kept))
        (rw paid kept.ledger_room)

    pub deposit_allowed : (at : ℕ) → at ≡ revision new_journal.history → IsAllowedFor (market_of file) (standing_of journal members) (OfCommand (Deposit name bits)) (Deposited name bits at)
    deposit_allowed at e =
        subst (λ (n : ℕ). IsAllowedFor (market_of file) (standing_of journal members) (OfCommand (Deposit name bits)) (Deposited name bits n))
        (sym (e ∙ ap (λ (H : List Entry). length H) history
        ∙ length_push journal.history (Deposits user bits)))
        (answer_allowed (market_of file) (standing_of journal members) (Deposit name bits)
        (Deposited name bits (revision journal.history + 1)) none refl)

    pub deposit_next : (at : ℕ) → standing_of new_journal (with_assets members user now) ≡ after (market_of file) (standing_of journal members) (OfCommand (Deposit name bits)) (Deposited name bits at)
    deposit_next at =
        transfer_next weights_stand gains_stand plan_for file prices rows plan members ledger
        journal payments till kept name user is_user
        (λ (v : ℕ). Deposits v bits) before now there new_ledger new_journal history
