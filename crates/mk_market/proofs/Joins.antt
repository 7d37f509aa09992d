-- A user joins.
use Rattle.std.specs.Prelude.{◌≡◌, ℕ, List, [], ◌∷◌, ◌++◌, map, length, Option, Some, None, option_map, slice_get}
use Rattle.std.proofs.Common.{inr, refl, sym, ap, ap₂, ◌∙◌, subst, arith}
use Rattle.std.proofs.lemmas.List.{length_push, map-append}
use Rattle.mk_net.specs.Network.{Variable}
use Rattle.mk_names.specs.Name.{IsName}
use Rattle.mk_exact.specs.History.{Entry, Join, users, resolutions, revision, is_settlement}
use Rattle.mk_exact.proofs.After.{users_more}
use Rattle.mk_tree.specs.Given.{GivenTree}
use Rattle.mk_file.specs.declared.market_file.MarketFile.{MarketFile}
use Rattle.mk_file.specs.MarketOf.{market_of}
use Rattle.mk_engine.specs.Meaning.{Meaning}
use Rattle.mk_assets.specs.declared.assets.Assets.{Assets}
use Rattle.mk_assets.specs.Holdings.{Holds, opening_holding}
use Rattle.mk_cash.specs.Accounts.{account_of, empty_account, LedgerOf}
use Rattle.mk_command.specs.declared.command.Command.TheVariants.{User}
use Rattle.mk_reply.specs.declared.payments.Payment.{Payment}
use Rattle.mk_reply.specs.declared.refusal.Refusal.TheVariants.{Memory}
use Rattle.mk_reply.specs.declared.reply.Reply.TheVariants.{Joined, Refused}
use Rattle.mk_rules.specs.Refusals.{first_refusal}
use Rattle.mk_restore.specs.Restoring.{IsFit}
use Rattle.mk_rules.specs.Quotes.{Quotes}
use Rattle.mk_rules.specs.Transcript.{OfCommand, IsAllowedFor, after}
use Rattle.mk_record.specs.declared.users.Member.{Member}
use Rattle.mk_record.specs.Journals.{JournalOf}
use Rattle.mk_record.specs.Members.{new_member, names_of, assets_of, quotes_of}
use Rattle.mk_market.specs.Points.{ArePaidBy}
use Rattle.mk_market.specs.Trading.{Trading, IsAnswered}
use Rattle.mk_asking.specs.Keeping.{TakesAsMuch}
use Rattle.mk_market.specs.inner.Keeping.{quoted, standing_of, IsKept}
use Rattle.mk_record.proofs.Appends.{not_there}
use Rattle.mk_market.proofs.Apart.{EachOwns, left_alone, each_owns, joined_left}
use Rattle.mk_market.proofs.Growing.{kept_grown}
use Rattle.mk_market.proofs.Owned.{held_joined, none_quoted_joined}
use Rattle.mk_market.proofs.Accounted.{paid_opened, accounts_joined}
use Rattle.mk_market.proofs.Replies.{answer_allowed, refused_stays, unsettled}
use Rattle.mk_replay.specs.Tills.{TillOf}

-- where memory is wanting nothing changes
pub memory_answered : {Own : Type 0} → (now : Trading Own) → EachOwns now → (name : List ℕ)
    → None ≡ first_refusal now.market now.standing.history (User name)
    → IsAnswered now now (User name) (Refused Memory)
memory_answered now owns name none = record {
  market = refl;
  allowed = λ sound. answer_allowed now.market now.standing (User name) (Refused Memory) none (inr refl);
  next = refused_stays now.market now.standing (User name) Memory tt;
  paid = λ u. refl;
  one_each = owns;
  others = left_alone now now (User name) refl;
}

module _ {P A Plan : Type 0} (weights_stand : P → Meaning → Type 0) (gains_stand : A → Meaning → Type 0) (plan_for : Plan → List Variable → GivenTree → Type 0)
    (file : MarketFile) (prices : P) (rows : A) (plan : Plan) (members : List (Member A Plan)) (ledger : LedgerOf) (journal : JournalOf) (payments : Option (List Payment)) (till : Option TillOf)
    (kept : IsKept weights_stand gains_stand plan_for file prices rows plan members ledger journal payments till)
    (name : List ℕ) where
  module _ (assets : Assets A Plan) (held : Holds gains_stand assets (opening_holding file.net file.tree (resolutions journal.history))) (new_members : List (Member A Plan)) (more : new_members ≡ members ++ new_member name assets ∷ [])
      (new_ledger : LedgerOf) (new_journal : JournalOf) (history : new_journal.history ≡ journal.history ++ Join name ∷ [])
      (none : None ≡ first_refusal (market_of file) journal.history (User name)) where
    quotes_more : map (option_map quoted) (quotes_of new_members) ≡ map (option_map quoted) (quotes_of members) ++ None ∷ []
    quotes_more =
        ap (λ (ms : List (Member A Plan)). map (option_map quoted) (quotes_of ms)) more
        ∙ ap (λ (qs : List (Option _)). map (option_map quoted) qs) (map-append (λ (m : Member A Plan). m.quote) members (new_member name assets ∷ []))
        ∙ map-append (option_map quoted) (quotes_of members) (None ∷ [])

    pub join_next : (at : ℕ) → standing_of new_journal new_members ≡ after (market_of file) (standing_of journal members) (OfCommand (User name)) (Joined name at)
    join_next at = ap₂ (λ (H : List Entry) (qs : Quotes). record { history = H; quotes = qs }) history quotes_more

    pub join_allowed : (at : ℕ) → at ≡ revision new_journal.history → IsAllowedFor (market_of file) (standing_of journal members) (OfCommand (User name)) (Joined name at)
    join_allowed at e = answer_allowed (market_of file) (standing_of journal members) (User name) (Joined name at) none
        (Rattle.std.proofs.Common.inl (ap (λ (n : ℕ). Joined name n) (e ∙ ap (λ (H : List Entry). length H) history ∙ length_push journal.history (Join name))))

    join_fit : IsFit (market_of file) journal.history (User name)
        (Joined name (revision new_journal.history))
    join_fit = record {
      unrefused = sym none;
      agrees = ap (λ (n : ℕ). Joined name n)
          (ap (λ (H : List Entry). length H) history ∙ length_push journal.history (Join name));
    }

    pub join_paid : (at : ℕ) → new_ledger ≡ record ledger { accounts = ledger.accounts ++ empty_account ∷ [] }
        → ArePaidBy (Joined name at) ledger.accounts new_ledger.accounts
    join_paid at opened u = ap (λ (l : LedgerOf). (account_of l.accounts u).paid) opened ∙ paid_opened
        ledger.accounts u

    names_more : names_of new_members ≡ users (journal.history ++ Join name ∷ [])
    names_more =
        ap (λ (ms : List (Member A Plan)). names_of ms) more ∙ map-append (λ (m : Member A Plan). m.name) members (new_member name assets ∷ [])
        ∙ ap (λ (names : List (List ℕ)). names ++ name ∷ []) kept.named ∙ sym (users_more journal.history name)

    -- each user owns something, and the others own what they owned
    pub join_owns : length (assets_of new_members) ≡ length (users new_journal.history)
    join_owns = each_owns new_members (users new_journal.history)
        (names_more ∙ sym (ap users history))

    pub join_left : (u : ℕ) (other : List ℕ) → slice_get (users journal.history) u ≡ Some other
        → slice_get (assets_of new_members) u ≡ slice_get (assets_of members) u
    join_left = joined_left journal.history members new_members name assets kept.named more

    -- the market is kept
    pub join_kept : IsName name → TakesAsMuch journal new_journal → new_ledger ≡ record ledger { accounts = ledger.accounts ++ empty_account ∷ [] }
        → IsKept weights_stand gains_stand plan_for file prices rows plan new_members new_ledger new_journal payments till
    join_kept is_name limits opened =
        let H = journal.history in
        kept_grown weights_stand gains_stand plan_for file prices prices rows rows plan members new_members ledger new_ledger journal new_journal payments payments till till
        (Join name) (User name) (Joined name (revision new_journal.history)) is_name tt tt kept join_fit (join_next (revision new_journal.history))
        (record {
          history = history;
          limits = limits;
          prices_grown = λ m stands. stands;
          rows_grown = λ m stands. stands;
          names = names_more;
          held = rw more (held_joined file.net file.tree H name gains_stand members assets kept.named kept.safe.proper kept.safe.bounded.transfers_fit kept.held held);
          none_quoted = rw more (none_quoted_joined file.net file.tree H name members assets);
          accounts = rw opened (accounts_joined (market_of file) H (unsettled (market_of file) H (User name) none) ledger.accounts name kept.safe.bounded.transfers_fit kept.accounts_kept);
          ledger_room = rw opened kept.ledger_room;
          room = λ unsettled. kept.room (sym (not_there H (Join name) is_settlement refl) ∙ unsettled);
          till_room = λ unsettled. kept.till_room (sym (not_there H (Join name) is_settlement refl) ∙ unsettled);
        })
