-- Bits are taken out.
use Rattle.std.specs.Prelude.{◌≡◌, ℕ, ◌+◌, ◌*◌, ◌<◌, ◌≤◌, List, [], ◌∷◌, ◌++◌, map, length, Option}
use Rattle.std.specs.Prelude.{Some, None, option_map, IsSomeAnd, slice_get, slice_set}
use Rattle.std.proofs.Common.{refl, sym, ap, inl, inr, ◌∙◌, subst, arith}
use Rattle.std.proofs.lemmas.List.{length_push}
use Rattle.mk_net.specs.Network.{Variable}
use Rattle.mk_net.specs.Bounds.{number_limit, sharpness}
use Rattle.mk_exact.specs.History.{Entry, Withdraw as Withdraws, users, trades, withdrawn, revision}
use Rattle.mk_tree.specs.Given.{GivenTree}
use Rattle.mk_file.specs.declared.market_file.MarketFile.{MarketFile}
use Rattle.mk_file.specs.MarketOf.{market_of}
use Rattle.mk_exact.specs.Accepted.{Covers, IsMost}
use Rattle.mk_states.specs.Events.{always}
use Rattle.mk_exact.specs.Existing.{HasLeast}
use Rattle.mk_exact.specs.Sound.{IsSound}
use Rattle.mk_exact.specs.Factors.{Fraction, HoldsNoTrade, IsAtLeastOne, factor_with, least_gain}
use Rattle.mk_exact.specs.Weight.{IsSmall}
use Rattle.mk_exact.proofs.ExistMarkets.{least_gain_exists}
use Rattle.mk_enclose.specs.declared.factor.Factor.{Factor}
use Rattle.mk_enclose.specs.Enclosure.{Encloses}
use Rattle.mk_reply.specs.declared.refusal.Refusal.TheVariants.{Short}
use Rattle.mk_rules.specs.Answers.{IsShort, IsWithdrawal}
use Rattle.mk_answers.specs.Open.{IsOpen, IsFactorFor, holding_of}
use Rattle.mk_engine.specs.Meaning.{Meaning}
use Rattle.mk_assets.specs.declared.assets.Assets.{Assets}
use Rattle.mk_assets.specs.Holdings.{Holding, Holds, Owns, CanWithdraw, max_bits, with_withdrawal}
use Rattle.mk_cash.specs.Accounts.{account_of, LedgerOf}
use Rattle.mk_record.specs.declared.last_quote.LastQuote.{LastQuote}
use Rattle.mk_command.specs.declared.command.Command.TheVariants.{Withdraw}
use Rattle.mk_reply.specs.declared.payments.Payment.{Payment}
use Rattle.mk_reply.specs.declared.reply.Reply.{Reply}
use Rattle.mk_reply.specs.declared.reply.Reply.TheVariants.{Withdrawn, Refused}
use Rattle.mk_rules.specs.Refusals.{first_refusal}
use Rattle.mk_rules.specs.Transcript.{OfCommand, IsAllowedFor, after}
use Rattle.mk_record.specs.declared.users.Member.{Member}
use Rattle.mk_record.specs.Journals.{JournalOf}
use Rattle.mk_record.specs.Members.{assets_of, with_assets}
use Rattle.mk_market.specs.Points.{ArePaidBy}
use Rattle.mk_record.specs.Refused.{IsUser, HasRoomForTransfer}
use Rattle.mk_asking.specs.Keeping.{TakesAsMuch}
use Rattle.mk_market.specs.inner.Keeping.{quoted, standing_of, IsKept}
use Rattle.mk_asking.specs.Quoting.{OwnsAt}
use Rattle.mk_market.proofs.Growing.{is_open}
use Rattle.mk_asking.proofs.Learnt.{holds_still}
use Rattle.mk_asking.proofs.Owned.{quotes_same}
use Rattle.mk_market.proofs.Moved.{points_below, its_account, transfer_paid, transfer_next, transfer_kept}
use Rattle.mk_market.proofs.Owned.{withdrawal_holding}
use Rattle.mk_market.proofs.Owned.{withdrawal_others}
use Rattle.mk_parts.proofs.Moved.{few_moved}
use Rattle.mk_market.proofs.Accounted.{accounts_withdrawn}
use Rattle.mk_market.proofs.Replies.{answer_allowed, none_appended, unsettled}
use Rattle.mk_market.proofs.Weaker.{most_when}
use Rattle.mk_replay.specs.Tills.{TillOf}

module _ {P A Plan : Type 0} (weights_stand : P → Meaning → Type 0) (gains_stand : A → Meaning → Type 0) (plan_for : Plan → List Variable → GivenTree → Type 0)
    (file : MarketFile) (prices : P) (rows : A) (plan : Plan) (members : List (Member A Plan)) (ledger : LedgerOf) (journal : JournalOf) (payments : Option (List Payment)) (till : Option TillOf)
    (kept : IsKept weights_stand gains_stand plan_for file prices rows plan members ledger journal payments till)
    (name : List ℕ) (user bits : ℕ) (is_user : IsUser journal.history name user) (room : HasRoomForTransfer journal bits) where
  bits_fit : withdrawn journal.history user + bits ≤ max_bits
  bits_fit = let most = few_moved (length (users journal.history)) user journal.history kept.safe.bounded.transfers_fit in omega (arith, most.1, room.most, room.few, kept.max_transfers, file.transfers_most)

  pub points_fit : (account_of ledger.accounts user).withdrawn + file.points_per_bit * bits < number_limit
  points_fit =
      points_below file (withdrawn journal.history user) bits
      (account_of ledger.accounts user).withdrawn bits_fit
      (its_account weights_stand gains_stand plan_for file prices rows plan members ledger journal
      payments till kept name user is_user).taken_out

  pub withdrawal_paid : (new_ledger : LedgerOf)
      → new_ledger ≡ record ledger {
        accounts = slice_set ledger.accounts user (let account = account_of ledger.accounts user in record
            account { withdrawn = account.withdrawn + file.points_per_bit * bits });
      }
      → (at : ℕ) → ArePaidBy (Withdrawn name bits at) ledger.accounts new_ledger.accounts
  withdrawal_paid new_ledger entered at u =
      transfer_paid weights_stand gains_stand plan_for file prices rows plan members ledger journal
      payments till kept name user is_user new_ledger
      (let account = account_of ledger.accounts user in record account
      { withdrawn = account.withdrawn + file.points_per_bit * bits }) entered refl u

  module _ (before mid : Assets A Plan) (there : slice_get (assets_of members) user ≡ Some before) (still : (h : Holding) → Owns gains_stand before h → Owns gains_stand mid h) where
    -- assets that were asked are those that they were
    held_still : Holds gains_stand before (holding_of file.net file.tree journal.history user) → Holds gains_stand mid (holding_of file.net file.tree journal.history user)
    held_still = holds_still gains_stand before mid still (holding_of file.net file.tree journal.history user)

    pub can_withdraw : CanWithdraw gains_stand mid bits
    can_withdraw = record { holding = holding_of file.net file.tree journal.history user; holds = held_still (kept.held user before there); room = bits_fit }

    module _ (learnt : OwnsAt gains_stand members user (holding_of file.net file.tree journal.history user)) (factor : Factor) (most : ℕ) (none : None ≡ first_refusal (market_of file) journal.history (Withdraw name bits))
        (found : (network : List Variable) (tree : GivenTree) (H : List Entry) (most_trades u g : ℕ) → Owns gains_stand before (holding_of network tree H u) → IsOpen network tree H
        → length (trades H) ≤ most_trades → least_gain network H u always ≡ Some g
        → IsFactorFor factor most_trades (IsSmall network H) (factor_with H u g)) where
      has_least : HasLeast file.net journal.history user
      has_least = least_gain_exists file.net journal.history user kept.legal kept.safe.proper

      -- the factor of the least gain
      worth : Fraction
      worth = factor_with journal.history user has_least.least

      worth_for : IsFactorFor factor file.max_trades (IsSmall file.net journal.history) worth
      unfolding worth
      worth_for = found file.net file.tree journal.history file.max_trades user has_least.least (learnt before there)
          (is_open weights_stand gains_stand plan_for file prices rows plan members ledger journal payments till kept) kept.safe.bounded.few_trades has_least.is_least

      answered : (reply : Reply)
          → IsWithdrawal (IsSmall file.net journal.history) (HoldsNoTrade journal.history user)
          (sharpness file.max_trades) worth name bits (revision journal.history + 1) reply
          → IsAllowedFor (market_of file) (standing_of journal members) (OfCommand (Withdraw name bits)) reply
      unfolding worth
      answered reply withdrawal =
          let H = journal.history in
          answer_allowed (market_of file) (standing_of journal members) (Withdraw name bits) reply none
          (subst (λ (n : ℕ). IsSomeAnd (least_gain file.net H n always)
          (λ g. IsWithdrawal (IsSmall file.net H) (HoldsNoTrade H n) (sharpness file.max_trades) (factor_with H n g) name
          bits (revision H + 1) reply)) is_user.number
          (subst (λ (o : Option ℕ). IsSomeAnd o (λ g. IsWithdrawal (IsSmall file.net H)
          (HoldsNoTrade H user) (sharpness file.max_trades) (factor_with H user g) name bits (revision H + 1) reply))
          (sym has_least.is_least) withdrawal))

      -- bits beyond the most are refused
      pub short_allowed : ((network : List Variable) (tree : GivenTree) (H : List Entry) (u : ℕ)
          → Owns gains_stand before (holding_of network tree H u) → IsOpen network tree H
          → HoldsNoTrade H u → Encloses factor.gain 1) → most < bits
          → ((network : List Variable) (H : List Entry) (most_trades : ℕ) (q : Fraction)
          → IsFactorFor factor most_trades (IsSmall network H) q → IsAtLeastOne q
          → IsMost (IsSmall network H) (Encloses factor.gain 1) (sharpness most_trades) q most)
          → IsSound file.net journal.history
          → IsAllowedFor (market_of file) (standing_of journal members) (OfCommand (Withdraw name bits)) (Refused (Short most))
      unfolding worth
      short_allowed one_gain less is_most sound =
          let small = IsSmall file.net journal.history in let idle = HoldsNoTrade journal.history
          user in
          let opened = is_open weights_stand gains_stand plan_for file prices rows plan members
          ledger journal payments till kept in
          let short : IsShort small idle (sharpness file.max_trades) worth bits (Refused (Short most))
          = record {
            most = most;
            less = less;
            is_most = most_when small small idle (Encloses factor.gain 1) (λ s. s)
                (one_gain file.net file.tree journal.history user (learnt before there)
                opened) worth (sharpness file.max_trades) most
                (is_most file.net journal.history file.max_trades worth worth_for
                (has_least.safe sound).at_least_one);
            printed = refl;
          } in
          answered (Refused (Short most)) (inr short)

      -- and others are covered
      pub withdrawal_allowed : (new_journal : JournalOf)
          → new_journal.history ≡ journal.history ++ Withdraws user bits ∷ [] → bits ≤ most
          → ((network : List Variable) (H : List Entry) (most_trades : ℕ) (q : Fraction) (bits : ℕ)
          → IsFactorFor factor most_trades (IsSmall network H) q → IsAtLeastOne q → bits ≤ most → Covers q bits)
          → (at : ℕ) → at ≡ revision new_journal.history → IsSound file.net journal.history
          → IsAllowedFor (market_of file) (standing_of journal members)
          (OfCommand (Withdraw name bits)) (Withdrawn name bits at)
      unfolding worth
      withdrawal_allowed new_journal history enough covered at e sound =
          subst (λ (n : ℕ). IsAllowedFor (market_of file) (standing_of journal members)
          (OfCommand (Withdraw name bits)) (Withdrawn name bits n))
          (sym (e ∙ ap (λ (H : List Entry). length H) history
          ∙ length_push journal.history (Withdraws user bits)))
          (answered (Withdrawn name bits (revision journal.history + 1))
          (inl (
            covered file.net journal.history file.max_trades worth bits worth_for
                (has_least.safe sound).at_least_one enough,
            refl,
          )))

    -- bits that are taken out leave the market kept, covered or not
    module _ (none : None ≡ first_refusal (market_of file) journal.history (Withdraw name bits))
        (now : Assets A Plan) (new_ledger : LedgerOf) (new_journal : JournalOf)
        (history : new_journal.history ≡ journal.history ++ Withdraws user bits ∷ []) where
      pub withdrawal_kept : TakesAsMuch journal new_journal
          → ((h : Holding) → Holds gains_stand mid h → h.withdrawn + bits ≤ max_bits → Holds gains_stand now (with_withdrawal bits h))
          → new_ledger ≡ record ledger { accounts = slice_set ledger.accounts user (let account = account_of ledger.accounts user in record account { withdrawn = account.withdrawn + file.points_per_bit * bits }) }
          → IsKept weights_stand gains_stand plan_for file prices rows plan (with_assets members user now) new_ledger new_journal payments till
      withdrawal_kept limits withdraws paid =
          let H = journal.history in
          transfer_kept weights_stand gains_stand plan_for file prices rows plan members ledger
          journal payments till kept name user is_user
          (λ (v : ℕ). Withdraws v bits) before now there new_ledger new_journal history
          (Withdraw name bits) (Withdrawn name bits (revision H + 1)) tt tt tt
          (record { unrefused = sym none; agrees = refl }) refl
          (record { joins = refl; settles = refl; weights = λ m. refl; rows = λ m. refl }) limits
          (subst (Holds gains_stand now) (sym (withdrawal_holding file.net file.tree H user bits))
          (withdraws (holding_of file.net file.tree H user)
          (held_still (kept.held user before there)) bits_fit))
          (withdrawal_others file.net file.tree H user bits)
          (rw paid (accounts_withdrawn (market_of file) H
          (unsettled (market_of file) H (Withdraw name bits) none) ledger.accounts user bits
          (file.points_per_bit * bits) is_user.within refl kept.accounts_kept))
          (rw paid kept.ledger_room)

      pub withdrawal_next : (at : ℕ) → standing_of new_journal (with_assets members user now) ≡ after (market_of file) (standing_of journal members) (OfCommand (Withdraw name bits)) (Withdrawn name bits at)
      withdrawal_next at =
          transfer_next weights_stand gains_stand plan_for file prices rows plan members ledger
          journal payments till kept name user is_user
          (λ (v : ℕ). Withdraws v bits) before now there new_ledger new_journal history

    pub short_next : (now : Assets A Plan) (most : ℕ) → standing_of journal (with_assets members user now) ≡ after (market_of file) (standing_of journal members) (OfCommand (Withdraw name bits)) (Refused (Short most))
    short_next now most =
        ap (λ (qs : List (Option LastQuote)). record { history = journal.history; quotes = map (option_map quoted) qs }) (quotes_same members user before now there)
        ∙ none_appended (market_of file) (standing_of journal members) (Withdraw name bits) (Refused (Short most)) refl refl
