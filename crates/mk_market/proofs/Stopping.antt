-- A question that the record does not refuse, and what can come does.
use Rattle.std.specs.Prelude.{◌≡◌, ℕ, List, Option, Some, None, option_map}
use Rattle.std.specs.Prelude.{map}
use Rattle.std.proofs.Common.{refl, sym, ap, ◌∙◌}
use Rattle.mk_net.specs.declared.words.QuestionText.{QuestionText}
use Rattle.mk_net.specs.Asked.{Asked}
use Rattle.mk_net.specs.Firsts.{first_of}
use Rattle.mk_exact.specs.History.{Entry, users}
use Rattle.mk_file.specs.declared.market_file.MarketFile.{MarketFile}
use Rattle.mk_file.specs.MarketOf.{market_of}
use Rattle.mk_cash.specs.Accounts.{LedgerOf}
use Rattle.mk_command.specs.declared.command.Command.TheVariants.{Price, Limits, Edit}
use Rattle.mk_reply.specs.declared.refusal.Refusal.{Refusal}
use Rattle.mk_reply.specs.declared.reply.Reply.TheVariants.{Refused}
use Rattle.mk_rules.specs.Refusals.{pairs_of, question_named, unknown}
use Rattle.mk_rules.specs.Refusals.{impossible_together, refusals_by_record}
use Rattle.mk_rules.specs.Refusals.{refusals_by_states, first_refusal}
use Rattle.mk_rules.proofs.Ready.{edit_refused}
use Rattle.mk_rules.proofs.Unrefused.{none_applies}
use Rattle.mk_answers.specs.Results.{AreBothLeft}
use Rattle.mk_record.specs.declared.last_quote.LastQuote.{LastQuote}
use Rattle.mk_record.specs.declared.users.Member.{Member}
use Rattle.mk_record.specs.Journals.{JournalOf}
use Rattle.mk_record.specs.Members.{names_of, assets_of, quotes_of}
use Rattle.mk_record.specs.Refused.{IsUser}
use Rattle.mk_market.specs.Trading.{IsAnswered}
use Rattle.mk_asking.specs.Apart.{OwnApart}
use Rattle.mk_asking.proofs.Stopping.{first_is, none_stops}
use Rattle.mk_market.specs.inner.Keeping.{quoted, standing_of}
use Rattle.mk_market.proofs.Apart.{left_alone, each_owns, others_left}
use Rattle.mk_market.proofs.Quotes.{trading}
use Rattle.mk_market.proofs.Replies.{refusal_allowed, none_appended, stopped_by_states, unrefused}

-- where the record does not refuse a question all its words are known
pub price_known : (file : MarketFile) (H : List Entry) (q : QuestionText) → None ≡ first_of (refusals_by_record (market_of file) H (Price q)) → unknown file.net (pairs_of q) ≡ None
price_known file H q none = (none_applies (refusals_by_record (market_of file) H (Price q)) (sym none)).1.0

pub limits_known : (file : MarketFile) (H : List Entry) (name : List ℕ) (q : QuestionText) → None ≡ first_of (refusals_by_record (market_of file) H (Limits name q)) → unknown file.net (pairs_of q) ≡ None
limits_known file H name q none = (none_applies (refusals_by_record (market_of file) H (Limits name q)) (sym none)).1.1.0

pub edit_known : (file : MarketFile) (H : List Entry) (name : List ℕ) (q : QuestionText) (X : ℕ) (seen : Option ℕ)
    → None ≡ first_of (refusals_by_record (market_of file) H (Edit name q X seen)) → unknown file.net (pairs_of q) ≡ None
edit_known file H name q X seen none = (none_applies (refusals_by_record (market_of file) H (Edit name q X seen)) (sym none)).1.1.0

pub limits_unrefused : (file : MarketFile) (H : List Entry) (name : List ℕ) (q : QuestionText) (asked : Asked) → question_named file.net q ≡ Some asked → AreBothLeft file.net H asked
    → None ≡ first_of (refusals_by_record (market_of file) H (Limits name q)) → None ≡ first_refusal (market_of file) H (Limits name q)
limits_unrefused file H name q asked named left none =
    unrefused (market_of file) H (Limits name q) none (none_stops file.net H q asked (record { named = named; known = limits_known file H name q none }) left)

pub edit_unrefused : (file : MarketFile) (H : List Entry) (name : List ℕ) (q : QuestionText) (X : ℕ) (seen : Option ℕ) (asked : Asked) → question_named file.net q ≡ Some asked
    → AreBothLeft file.net H asked
    → None ≡ first_of (refusals_by_record (market_of file) H (Edit name q X seen)) → None ≡ first_refusal (market_of file) H (Edit name q X seen)
edit_unrefused file H name q X seen asked named left none =
    unrefused (market_of file) H (Edit name q X seen) none (none_stops file.net H q asked (record { named = named; known = edit_known file H name q X seen none }) left)

-- the market answers with the refusal
module _ {A Plan : Type 0} (file : MarketFile) (ledger : LedgerOf) (journal : JournalOf)
    (members new_members : List (Member A Plan))
    (same_quotes : quotes_of new_members ≡ quotes_of members)
    (named : names_of new_members ≡ users journal.history) where
  same_standing : standing_of journal new_members ≡ standing_of journal members
  same_standing = ap (λ (qs : List (Option LastQuote)). record { history = journal.history; quotes = map (option_map quoted) qs }) same_quotes

  pub price_stopped : assets_of new_members ≡ assets_of members
      → (q : QuestionText) (why : Refusal)
      → None ≡ first_of (refusals_by_record (market_of file) journal.history (Price q))
      → impossible_together file.net journal.history q.condition.items ≡ Some why
      → IsAnswered (trading file ledger journal members)
      (trading file ledger journal new_members) (Price q) (Refused why)
  price_stopped same_assets q why none e = record {
    market = refl;
    allowed = λ sound. refusal_allowed (market_of file) (standing_of journal members) (Price q) why
        (stopped_by_states (market_of file) journal.history (Price q) why none (first_is _ _ why e));
    next = same_standing ∙ none_appended (market_of file) (standing_of journal members) (Price q) (Refused why) refl refl;
    paid = λ u. refl;
    one_each = each_owns new_members (users journal.history) named;
    others = left_alone (trading file ledger journal members)
        (trading file ledger journal new_members) (Price q) same_assets;
  }

  pub limits_stopped : (name : List ℕ) (user : ℕ) → IsUser journal.history name user
      → OwnApart user members new_members
      → (q : QuestionText) (why : Refusal)
      → None ≡ first_of (refusals_by_record (market_of file) journal.history (Limits name q))
      → first_of (refusals_by_states (market_of file) journal.history (Limits name q)) ≡ Some why
      → IsAnswered (trading file ledger journal members)
      (trading file ledger journal new_members) (Limits name q) (Refused why)
  limits_stopped name user is_user apart q why none e = record {
    market = refl;
    allowed = λ sound. refusal_allowed (market_of file) (standing_of journal members) (Limits name q) why (stopped_by_states (market_of file) journal.history (Limits name q) why none e);
    next = same_standing ∙ none_appended (market_of file) (standing_of journal members) (Limits name q) (Refused why) refl refl;
    paid = λ u. refl;
    one_each = each_owns new_members (users journal.history) named;
    others = others_left journal.history name user is_user members new_members apart;
  }

  pub edit_stopped : (name : List ℕ) (user : ℕ) → IsUser journal.history name user
      → OwnApart user members new_members
      → (q : QuestionText) (X : ℕ) (seen : Option ℕ) (why : Refusal)
      → None ≡ first_of (refusals_by_record (market_of file) journal.history (Edit name q X seen))
      → first_of (refusals_by_states (market_of file) journal.history (Edit name q X seen)) ≡ Some why
      → IsAnswered (trading file ledger journal members)
      (trading file ledger journal new_members) (Edit name q X seen) (Refused why)
  edit_stopped name user is_user apart q X seen why none e =
      let first = stopped_by_states (market_of file) journal.history (Edit name q X seen) why none e in
      record {
        market = refl;
        allowed = λ sound. refusal_allowed (market_of file) (standing_of journal members) (Edit name q X seen) why first;
        next = same_standing ∙ none_appended (market_of file) (standing_of journal members) (Edit name q X seen) (Refused why) refl
            (edit_refused (market_of file) journal.history (map (option_map quoted) (quotes_of members)) name q X seen why (sym first));
        paid = λ u. refl;
        one_each = each_owns new_members (users journal.history) named;
        others = others_left journal.history name user is_user members new_members apart;
      }
