-- Prices, and what users are worth at least.
use Rattle.std.specs.Prelude.{◌≡◌, ℕ, ◌≤◌, List, length, Bool, true, false, Option, Some, None}
use Rattle.std.specs.Prelude.{IfSome, IsNone, IsSomeAnd, ◌↔◌}
use Rattle.std.proofs.Common.{refl, sym, ap, subst}
use Rattle.mk_net.specs.Firsts.{or_else, first_of}
use Rattle.mk_net.specs.Network.{Variable}
use Rattle.mk_net.specs.Asked.{Asked}
use Rattle.mk_net.specs.declared.words.QuestionText.{QuestionText}
use Rattle.mk_states.specs.Events.{holds}
use Rattle.mk_exact.specs.History.{Entry, trades}
use Rattle.mk_exact.specs.Weight.{cannot_come}
use Rattle.mk_net.specs.Events.{pairs_asked}
use Rattle.mk_tree.specs.Given.{GivenTree, home}
use Rattle.mk_tree.proofs.Held.{home_is_held}
use Rattle.mk_file.specs.declared.market_file.MarketFile.{MarketFile}
use Rattle.mk_file.specs.MarketOf.{market_of}
use Rattle.mk_engine.specs.Meaning.{Meaning}
use Rattle.mk_beliefs.specs.Meanings.{weights_of}
use Rattle.mk_cash.specs.Accounts.{LedgerOf}
use Rattle.mk_command.specs.declared.command.Command.TheVariants.{Price}
use Rattle.mk_reply.specs.declared.payments.Payment.{Payment}
use Rattle.mk_reply.specs.declared.reply.Reply.TheVariants.{Price as Priced}
use Rattle.mk_rules.specs.Refusals.{refusals_by_record, impossible_together}
use Rattle.mk_rules.specs.Answers.{IsPrice}
use Rattle.mk_rules.specs.Transcript.{OfCommand, IsAllowedFor, after}
use Rattle.mk_answers.specs.Calls.{CanPrice}
use Rattle.mk_answers.specs.Open.{IsOpen, CanBeAnswered}
use Rattle.mk_answers.specs.Results.{IsPriceFor}
use Rattle.mk_rules.proofs.Unrefused.{target_named}
use Rattle.mk_record.specs.declared.users.Member.{Member}
use Rattle.mk_record.specs.Journals.{JournalOf}
use Rattle.mk_record.specs.Refused.{IsQuestionFor}
use Rattle.mk_market.specs.inner.Keeping.{standing_of, IsKept}
use Rattle.mk_market.proofs.Growing.{is_open, open_by}
use Rattle.mk_market.proofs.Replies.{answer_allowed, none_appended, unrefused}
use Rattle.mk_asking.proofs.Together.{none_together}
use Rattle.mk_replay.specs.Tills.{TillOf}

-- what holds of each pair that is found
pub on_some : (P : ℕ × ℕ → Type 0) (found : Option (ℕ × ℕ)) → ((low high : ℕ) → found ≡ Some (low, high) → P (low, high)) → IfSome found P
on_some P None h = tt
on_some P (Some price) h = h price.0 price.1 refl

module _ {P A Plan : Type 0} (weights_stand : P → Meaning → Type 0) (gains_stand : A → Meaning → Type 0) (plan_for : Plan → List Variable → GivenTree → Type 0)
    (file : MarketFile) (prices : P) (rows : A) (plan : Plan) (members : List (Member A Plan)) (ledger : LedgerOf) (journal : JournalOf) (payments : Option (List Payment)) (till : Option TillOf)
    (kept : IsKept weights_stand gains_stand plan_for file prices rows plan members ledger journal payments till) where
  opened : IsOpen file.net file.tree journal.history
  opened = is_open weights_stand gains_stand plan_for file prices rows plan members ledger journal payments till kept

  -- a question that can be answered
  module _ (question : QuestionText) (asked : Asked) (is_question : IsQuestionFor (market_of file) file.tree journal.history question asked) where
    pub price_allowed : (low high : ℕ) → None ≡ first_of (refusals_by_record (market_of file) journal.history (Price question))
        → ((tree : GivenTree) (H : List Entry) (most_trades : ℕ) → weights_stand prices (weights_of file.net tree H) → IsOpen file.net tree H
        → length (trades H) ≤ most_trades → CanBeAnswered file.net tree H asked
        → IsPriceFor file.net H most_trades asked (Some (low, high)))
        → IsAllowedFor (market_of file) (standing_of journal members) (OfCommand (Price question)) (Priced low high)
    price_allowed low high none found =
        let is = found file.tree journal.history file.max_trades kept.prices_stand opened kept.safe.bounded.few_trades is_question.answered in
        let price : IsPrice file.net journal.history file.max_trades asked (Priced low high)
        = record { low = low; high = high; printed = refl; covers = is.covers } in
        answer_allowed (market_of file) (standing_of journal members) (Price question) (Priced low high)
        (unrefused (market_of file) journal.history (Price question) none (ap (λ o. or_else o None) (comes is.none)))
        (subst (λ (o : Option Asked). IsSomeAnd o (λ asked. IsPrice file.net journal.history file.max_trades asked (Priced low high))) (sym is_question.named) price)
      where
        can : (b : Bool) → ((b ≡ true) → IsNone {T = ℕ × ℕ} (Some (low, high))) → b ≡ false
        can true h = h refl
        can false h = refl

        comes : (IsNone {T = ℕ × ℕ} (Some (low, high)) ↔ (cannot_come file.net journal.history (holds asked.condition) ≡ true)) → impossible_together file.net journal.history question.condition.items ≡ None
        comes none = none_together file.net journal.history question.condition.items asked.condition (target_named file.net question asked is_question.named).1
            (can (cannot_come file.net journal.history (holds asked.condition)) none.1)

  pub price_next : (question : QuestionText) (low high : ℕ) → standing_of journal members ≡ after (market_of file) (standing_of journal members) (OfCommand (Price question)) (Priced low high)
  price_next question low high = none_appended (market_of file) (standing_of journal members) (Price question) (Priced low high) refl refl

-- the engine can price it in its home
pub can_price : {P A Plan : Type 0} {weights_stand : P → Meaning → Type 0}
    {gains_stand : A → Meaning → Type 0} {plan_for : Plan → List Variable → GivenTree → Type 0}
    {file : MarketFile} {prices : P} {rows : A} {plan : Plan} {members : List (Member A Plan)}
    {ledger : LedgerOf} {journal : JournalOf} {payments : Option (List Payment)}
    {till : Option TillOf}
    {question : QuestionText} {asked : Asked} {at : ℕ}
    → IsKept weights_stand gains_stand plan_for file prices rows plan members ledger journal
    payments till
    → IsQuestionFor (market_of file) file.tree journal.history question asked
    → home file.tree (pairs_asked asked) ≡ Some at → CanPrice weights_stand prices file.net at asked
can_price {file = file} {journal = journal} {asked = asked} {at = at} kept is_question at_home = record {
  tree = file.tree;
  history = journal.history;
  stands = kept.prices_stand;
  is_open = open_by kept;
  answered = is_question.answered;
  held = home_is_held file.tree at (pairs_asked asked) at_home;
}
