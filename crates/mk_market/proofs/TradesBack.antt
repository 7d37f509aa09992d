-- Trades that are taken back.
use Rattle.std.specs.Prelude.{◌≡◌, ◌≤◌, ℕ, ◌+◌, List, [], ◌∷◌, ◌++◌, map, length, false, Option}
use Rattle.std.specs.Prelude.{None, option_map, option_to_list, All}
use Rattle.std.proofs.Common.{refl, sym, ap, ap₂, ◌∙◌, subst}
use Rattle.arrayvec.specs.ArrayVec.{ArrayVec}
use Rattle.mk_net.specs.Asked.{Asked, IsUnits}
use Rattle.mk_net.specs.Firsts.{first_of}
use Rattle.mk_net.specs.declared.words.PairText.{PairText}
use Rattle.mk_net.specs.declared.words.QuestionText.{QuestionText}
use Rattle.mk_exact.specs.History.{Entry, Trade, is_settled, revision}
use Rattle.mk_exact.specs.Sides.{ratio_in}
use Rattle.mk_states.specs.OfNetwork.{IsRatioOf}
use Rattle.mk_states.proofs.Sums.{each_weaker}
use Rattle.std.proofs.lemmas.List.Elements.{All-from_recursion, recursion_from_All}
use Rattle.mk_spread.specs.Laws.{AreOfValues}
use Rattle.mk_rules.proofs.Spreadable.{as_many_shares}
use Rattle.mk_rules.proofs.Unrefused.{none_applies}
use Rattle.mk_spread.specs.Spreads.{SpreadAsked, spread_ratio}
use Rattle.mk_cash.specs.declared.ledger.Account.{Account}
use Rattle.mk_file.specs.declared.market_file.MarketFile.{MarketFile}
use Rattle.mk_file.specs.MarketOf.{market_of}
use Rattle.mk_command.specs.declared.command.Command.{Command}
use Rattle.mk_command.specs.declared.command.Command.TheVariants.{Edit, Spread}
use Rattle.mk_reply.specs.declared.reply.Reply.{Reply}
use Rattle.mk_reply.specs.declared.reply.Reply.TheVariants.{Traded, Spreaded}
use Rattle.mk_reply.specs.Replies.{IsReply, IsRatio}
use Rattle.mk_rules.specs.Refusals.{refusals_by_record, question_named, spread_named}
use Rattle.mk_rules.specs.Transcript.{Standing, OfCommand, after}
use Rattle.mk_restore.specs.Restoring.{IsFit}
use Rattle.mk_restore.proofs.Safe.{HasUnits}
use Rattle.mk_record.specs.declared.last_quote.LastQuote.{LastQuote}
use Rattle.mk_record.specs.declared.users.Member.{Member}
use Rattle.mk_record.specs.Journals.{JournalOf}
use Rattle.mk_record.specs.Members.{quotes_of}
use Rattle.mk_record.specs.Refused.{IsUser, IsQuestionFor, IsSpreadQuestionFor}
use Rattle.mk_market.specs.Points.{ArePaidBy}
use Rattle.mk_market.specs.inner.Keeping.{quoted, standing_of}
use Rattle.mk_market.proofs.Replies.{unsettled_first}

-- what a history and the last quotes leave
abbrev stands : List Entry → List (Option LastQuote) → Standing
stands H quotes = record { history = H; quotes = map (option_map quoted) quotes }

module _ (file : MarketFile) (journal : JournalOf) (name : List ℕ) (user : ℕ)
    (is_user : IsUser journal.history name user) where
  -- a journal with one entry more, and as many quotes, stands as a reply to a command has it
  abbrev pub GoesOn : {A Plan : Type 0} → Entry → Command → Reply → List (Member A Plan)
      → List (Member A Plan) → JournalOf → Type 0
  GoesOn entry command reply members new_members new_journal =
      new_journal.history ≡ journal.history ++ entry ∷ []
      → quotes_of new_members ≡ quotes_of members
      → standing_of new_journal new_members ≡ after (market_of file)
      (standing_of journal members) (OfCommand command) reply

  module _ (q : QuestionText) (asked : Asked)
      (is_question : IsQuestionFor (market_of file) file.tree journal.history q asked) (X : ℕ)
      (seen : Option ℕ) (none : None ≡ first_of
      (refusals_by_record (market_of file) journal.history (Edit name q X seen)))
      (hit miss : ℕ) (reply : Reply)
      (told : reply ≡ Traded hit miss (revision journal.history + 1)) where
    pub edit_fits : IsFit (market_of file) journal.history (Edit name q X seen) reply
    edit_fits = record {
      unrefused = sym none;
      agrees = record { hit = hit; miss = miss; printed = told };
    }

    pub edit_unsettled : is_settled journal.history ≡ false
    edit_unsettled = unsettled_first (is_settled journal.history) _ _ none

    pub edit_units : IsReply reply → HasUnits reply
    edit_units is =
        let units = subst IsReply told is in
        subst HasUnits (sym told) (units.0, units.1)

    pub edit_paid : (accounts : List Account) → ArePaidBy reply accounts accounts
    edit_paid accounts = subst (λ (r : Reply). ArePaidBy r accounts accounts) (sym told)
        (λ u. refl)

    pub edit_next : {A Plan : Type 0} (members new_members : List (Member A Plan))
        (new_journal : JournalOf)
        → GoesOn (Trade user (ratio_in file.net asked hit miss)) (Edit name q X seen) reply
        members new_members new_journal
    edit_next members new_members new_journal history same_quotes =
        ap₂ stands (history
        ∙ ap (λ (o : Option Asked). journal.history ++ option_to_list (option_map
        (λ (a : Asked). Trade user (ratio_in file.net a hit miss)) o)) (sym is_question.named)
        ∙ ap (λ (n : ℕ). journal.history ++ option_to_list (option_map
        (λ (a : Asked). Trade n (ratio_in file.net a hit miss)) (question_named file.net q)))
        is_user.number)
        same_quotes
        ∙ ap (after (market_of file) (standing_of journal members)
        (OfCommand (Edit name q X seen))) (sym told)

  module _ (v : List ℕ) (condition : ArrayVec PairText) (spread : SpreadAsked)
      (is_question : IsSpreadQuestionFor (market_of file) file.tree journal.history v
      condition.items spread) (to : ArrayVec ℕ) (seen : Option ℕ) (none : None ≡ first_of
      (refusals_by_record (market_of file) journal.history (Spread name v condition to seen)))
      (factors : ArrayVec ℕ) (reply : Reply)
      (told : reply ≡ Spreaded factors (revision journal.history + 1))
      (one_each : length factors.items ≡ length to.items) where
    pub spread_fits : IsFit (market_of file) journal.history (Spread name v condition to seen) reply
    spread_fits = record {
      unrefused = sym none;
      agrees = record { factors = factors; printed = told; one_each = one_each };
    }

    pub spread_of_values : IsReply reply
        → AreOfValues factors.items × All IsUnits factors.items
    spread_of_values is =
        let units = subst IsReply told is in (
          record { two = units.0.two; few = units.0.few },
          All-from_recursion IsUnits factors.items (each_weaker IsRatio IsUnits
              (λ n one. record { positive = one.positive; fits = one.below }) factors.items
              (recursion_from_All IsRatio factors.items units.0.each)),
        )

    pub spread_ratio_fits : IsReply reply → IsRatioOf file.net (spread_ratio spread factors.items)
    spread_ratio_fits is =
        let units = subst IsReply told is in
        let fits = is_question.answered.in_order.in_range in
        record {
          variable = fits.variable;
          condition = fits.condition;
          one_each = one_each ∙ as_many_shares file.net v condition.items spread to.items
              is_question.named
              (none_applies (refusals_by_record (market_of file) journal.history
              (Spread name v condition to seen)) (sym none)).1.1.1.1.1.1.1.1.1.0;
          positive = each_weaker IsRatio (λ n. 1 ≤ n) (λ n one. one.positive) factors.items
              (recursion_from_All IsRatio factors.items units.0.each);
        }

    pub spread_unsettled : is_settled journal.history ≡ false
    spread_unsettled = unsettled_first (is_settled journal.history) _ _ none

    pub spread_units : IsReply reply → HasUnits reply
    spread_units is =
        let units = subst IsReply told is in
        subst HasUnits (sym told) units.0.each

    pub spread_paid : (accounts : List Account) → ArePaidBy reply accounts accounts
    spread_paid accounts = subst (λ (r : Reply). ArePaidBy r accounts accounts) (sym told)
        (λ u. refl)

    pub spread_next : {A Plan : Type 0} (members new_members : List (Member A Plan))
        (new_journal : JournalOf)
        → GoesOn (Trade user (spread_ratio spread factors.items))
        (Spread name v condition to seen) reply members new_members new_journal
    spread_next members new_members new_journal history same_quotes =
        ap₂ stands (history
        ∙ ap (λ (o : Option SpreadAsked). journal.history ++ option_to_list (option_map
        (λ (s : SpreadAsked). Trade user (spread_ratio s factors.items)) o))
        (sym is_question.named)
        ∙ ap (λ (n : ℕ). journal.history ++ option_to_list (option_map
        (λ (s : SpreadAsked). Trade n (spread_ratio s factors.items))
        (spread_named file.net v condition.items))) is_user.number)
        same_quotes
        ∙ ap (after (market_of file) (standing_of journal members)
        (OfCommand (Spread name v condition to seen))) (sym told)
