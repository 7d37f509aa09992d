-- A user is quoted limits, or an edit is judged by them.
use Rattle.std.specs.Prelude.{◌≡◌, ℕ, ◌+◌, ◌==◌, List, [], ◌∷◌, ◌++◌}
use Rattle.std.specs.Prelude.{length, map, Option, Some, None, option_map}
use Rattle.std.specs.Prelude.{option_and_then, option_to_list, MatchOption, IsSomeAnd, Result, Ok}
use Rattle.std.specs.Prelude.{Err, IsErrAnd, slice_get}
use Rattle.std.proofs.Common.{refl, sym, ap, ap₂, ◌∙◌, subst, inl, inr, arith}
use Rattle.std.proofs.lemmas.Bool.{eqb-true}
use Rattle.std.proofs.lemmas.List.{length_push}
use Rattle.mk_net.specs.declared.words.QuestionText.{QuestionText}
use Rattle.mk_net.specs.Network.{Variable}
use Rattle.mk_net.specs.Asked.{Asked, IsUnits}
use Rattle.mk_exact.specs.History.{Entry, Trade, users, revision}
use Rattle.mk_exact.specs.Limits.{Inside}
use Rattle.mk_exact.specs.Sides.{AreRightLimits, IsFairPair, ratio_in}
use Rattle.mk_states.specs.Events.{holds, with_target, without_target}
use Rattle.mk_exact.specs.Existing.{IsInOrder, CanMove}
use Rattle.mk_exact.proofs.Coming.{state_of}
use Rattle.mk_exact.proofs.ExistMarkets.{sides_exist}
use Rattle.mk_tree.specs.Given.{GivenTree}
use Rattle.mk_file.specs.declared.market_file.MarketFile.{MarketFile}
use Rattle.mk_file.specs.MarketOf.{market_of}
use Rattle.mk_engine.specs.Meaning.{Meaning}
use Rattle.mk_cash.specs.Accounts.{LedgerOf}
use Rattle.mk_command.specs.declared.command.Command.TheVariants.{Limits, Edit}
use Rattle.mk_quote.specs.declared.quote.Quote.{Quote}
use Rattle.mk_quote.specs.Bounds.{AreRightFor, AreFairAndSolvent}
use Rattle.mk_quote.specs.Quotes.{question_of, revision_of, limits_of, bounds_of, IsFor}
use Rattle.mk_reply.specs.declared.payments.Payment.{Payment}
use Rattle.mk_reply.specs.declared.refusal.Refusal.{Refusal}
use Rattle.mk_reply.specs.declared.refusal.Refusal.TheVariants.{Beyond}
use Rattle.mk_reply.specs.declared.reply.Reply.{Reply}
use Rattle.mk_reply.specs.declared.reply.Reply.TheVariants.{Limits as Limited, Traded, Refused}
use Rattle.mk_rules.specs.Answers.{IsLimits, IsTrade, IsBeyond, IsJudged, IsJudgedAfresh}
use Rattle.mk_rules.specs.Answers.{with_limits, with_quote}
use Rattle.mk_rules.specs.Refusals.{question_named, user_number, first_refusal}
use Rattle.mk_rules.specs.Quotes as rules
use Rattle.mk_rules.specs.Transcript.{OfCommand, IsAllowedFor, after}
use Rattle.mk_rules.proofs.Ready.{edit_refused}
use Rattle.mk_rules.proofs.Quoted.{same_question_is}
use Rattle.mk_answers.specs.Open.{IsOpen}
use Rattle.mk_answers.specs.Results.{AreBothLeft}
use Rattle.mk_answers.proofs.Weaker.{right_by_bounds, fair_by_bounds}
use Rattle.mk_record.specs.declared.last_quote.LastQuote.{LastQuote}
use Rattle.mk_record.specs.declared.last_quote.LastQuote.TheVariants.{Limits as LastLimits}
use Rattle.mk_record.specs.declared.last_quote.LastQuote.TheVariants.{Bounds as LastBounds}
use Rattle.mk_record.specs.declared.users.Member.{Member}
use Rattle.mk_record.specs.Journals.{JournalOf}
use Rattle.mk_record.specs.Members.{quotes_of}
use Rattle.mk_record.specs.Refused.{IsUser, IsQuestionFor}
use Rattle.mk_market.specs.Trading.{Trading, IsAnswered}
use Rattle.mk_market.specs.inner.Answering.{IsAnsweredBy}
use Rattle.mk_asking.specs.Keeping.{IsKeptQuote}
use Rattle.mk_market.specs.inner.Keeping.{quoted, standing_of, IsKept}
use Rattle.mk_asking.specs.Quoting.{IsQuoteOf}
use Rattle.mk_market.proofs.Apart.{EachOwns, AreApart, left_alone, each_owns}
use Rattle.mk_market.proofs.Apart.{each_owns_then, others_left}
use Rattle.mk_market.proofs.Growing.{is_open}
use Rattle.mk_market.proofs.Judged.{TheSame, in_quote, in_other, judged_by}
use Rattle.mk_asking.proofs.Quotes.{AreQuoted}
use Rattle.mk_market.proofs.Quotes.{trading, quote_said, standing_quoted}
use Rattle.mk_market.proofs.Replies.{answer_allowed, refusal_allowed, none_appended, nothing_added}
use Rattle.mk_reply.specs.Replies.{IsRatio}
use Rattle.mk_restore.specs.Restoring.{IsFit}
use Rattle.mk_restore.proofs.Taken.{allowed_fits}
use Rattle.mk_asking.proofs.Together.{condition_comes}
use Rattle.mk_replay.specs.Tills.{TillOf}

-- ---- a refusal

-- an edit that a refusal of the table meets leaves the standing
refused_answered : {Own : Type 0} → (old : Trading Own) → EachOwns old → (name : List ℕ)
    (q : QuestionText) (X : ℕ) (seen : Option ℕ) (why : Refusal)
    → Some why ≡ first_refusal old.market old.standing.history (Edit name q X seen) → IsAnswered old old (Edit name q X seen) (Refused why)
refused_answered old owns name q X seen why e = record {
  market = refl;
  allowed = λ sound. refusal_allowed old.market old.standing (Edit name q X seen) why e;
  next = none_appended old.market old.standing (Edit name q X seen) (Refused why) refl
      (edit_refused old.market old.standing.history old.standing.quotes name q X seen why (sym e));
  paid = λ u. refl;
  one_each = owns;
  others = left_alone old old (Edit name q X seen) refl;
}

pub edit_refused_answered : {Own F : Type 0} → (tell : F → Reply) (old known : Trading Own)
    → known ≡ old → EachOwns known
    → (name : List ℕ) (q : QuestionText) (X : ℕ) (seen : Option ℕ) (why : Refusal)
    (result : Result F Refusal) → IsErrAnd result (λ e. e ≡ why)
    → Some why ≡ first_refusal known.market known.standing.history (Edit name q X seen)
    → IsAnsweredBy old old (Edit name q X seen) result tell
edit_refused_answered tell old known same owns name q X seen why (Ok found) e refusal = absurd e
edit_refused_answered {Own} tell old known same owns name q X seen why (Err found) e refusal =
    subst (λ (w : Refusal). IsAnswered old old (Edit name q X seen) (Refused w)) (sym e)
    (subst (λ (t : Trading Own). IsAnswered t t (Edit name q X seen) (Refused why)) same
    (refused_answered known owns name q X seen why refusal))

-- ---- a quote

-- a last quote that is found is the one that judges
pub last_is : {A Plan E : Type 0} (members : List (Member A Plan)) (user : ℕ) (asked : Asked) (now : ℕ) (found : Result Quote E) (quote : Quote) → found ≡ Ok quote
    → ((held : Quote) → slice_get (quotes_of members) user ≡ Some (Some (LastLimits held)) → IsFor held asked now → found ≡ Ok held)
    → (held : Quote) → slice_get (quotes_of members) user ≡ Some (Some (LastLimits held)) → IsFor held asked now → quote ≡ held
last_is {A} {Plan} {E} members user asked now found quote is last held at for = same found is (last held at for)
  where
    same : (r : Result Quote E) → r ≡ Ok quote → r ≡ Ok held → quote ≡ held
    same r e f = cc

-- a question in order that nothing decides can be moved
can_move : (network : List Variable) (H : List Entry) (asked : Asked) → IsInOrder network H asked → AreBothLeft network H asked → CanMove network H asked
can_move network H asked in_order left =
    record {
      can_ask = record {
        in_order = in_order;
        some_state = state_of network H (holds asked.condition) (condition_comes network H asked left.hit);
      };
      some_hit = state_of network H (with_target asked) left.hit;
      some_miss = state_of network H (without_target asked) left.miss;
    }

module _ (network : List Variable) (tree : GivenTree) (H : List Entry) (u : ℕ) (asked : Asked) (quote : Quote) (is : IsQuoteOf network tree H u asked quote) where
  pub kept_quote : IsKeptQuote network tree H u (LastLimits quote)
  kept_quote = record { same_user = is.same_user; not_later = omega (arith, is.at_present); current = λ same. is.current }

  -- nothing decides its question
  pub left_by_quote : AreBothLeft network H asked
  left_by_quote = subst (AreBothLeft network H) is.question is.current.left

  -- as the rules see it
  pub quoted_is : quoted (LastLimits quote) ≡ record { says = rules.EditLimits asked (limits_of quote); at = revision H }
  quoted_is = ap₂ (λ (a : Asked) (n : ℕ). record { says = rules.EditLimits a (limits_of quote); at = n }) is.question is.at_present

  module _ (open_for : IsOpen network tree H) where
    -- its limits are right
    pub right_limits : (limits : Option (ℕ × ℕ)) → AreRightFor (bounds_of quote) limits → AreRightLimits network H u asked limits
    right_limits limits right =
        let has = sides_exist network H u (question_of quote) open_for.legal open_for.proper (can_move network H (question_of quote) is.current.answered.in_order is.current.left) in
        subst (λ (a : Asked). AreRightLimits network H u a limits) is.question
        (right_by_bounds network H u (question_of quote) (bounds_of quote) has.hit has.miss has.sides (is.current.bounds has.hit has.miss has.sides) limits right)

    -- and the units that it gives are a fair pair
    pub fair_pair : (X hit miss : ℕ) → AreFairAndSolvent (bounds_of quote) X hit miss → IsFairPair network H u asked X hit miss
    fair_pair X hit miss fair =
        let has = sides_exist network H u (question_of quote) open_for.legal open_for.proper (can_move network H (question_of quote) is.current.answered.in_order is.current.left) in
        subst (λ (a : Asked). IsFairPair network H u a X hit miss) is.question
        (fair_by_bounds network H u (question_of quote) (bounds_of quote) has.hit has.miss has.sides (is.current.bounds has.hit has.miss has.sides) X hit miss fair)

-- ---- limits in the standing

-- the limits that the rules find in a user's last quote are those of the quote that judges
current_is : (asked : Asked) (now : ℕ) (quote : Quote) (o : Option (Option LastQuote))
    → ((held : Quote) → o ≡ Some (Some (LastLimits held)) → IsFor held asked now → quote ≡ held)
    → TheSame limits_of quote (rules.current_limits
    (option_and_then (λ held. held) (option_map (option_map quoted) o)) asked now)
current_is asked now quote None h = tt
current_is asked now quote (Some None) h = tt
current_is asked now quote (Some (Some (LastLimits held))) h =
    in_quote limits_of quote held (rules.same_question (question_of held) asked)
    (revision_of held == now)
    (λ same at. h held refl (record {
      same_question = same_question_is (question_of held) asked
          same;
      same_revision = eqb-true (revision_of held) now at;
    }))
current_is asked now quote (Some (Some (LastBounds held))) h = in_other limits_of quote _

-- an edit that no refusal of the table meets is answered as the quote judges it
module _ {A Plan : Type 0} (file : MarketFile) (journal : JournalOf) (members : List (Member A Plan)) (name : List ℕ) (user : ℕ) (is_user : IsUser journal.history name user)
    (q : QuestionText) (asked : Asked) (is_question : IsQuestionFor (market_of file) file.tree journal.history q asked) (quote : Quote)
    (last : (held : Quote) → slice_get (quotes_of members) user ≡ Some (Some (LastLimits held)) → IsFor held asked (revision journal.history) → quote ≡ held) where
  pub edit_allowed : (X : ℕ) (seen : Option ℕ) (reply : Reply) → None ≡ first_refusal (market_of file) journal.history (Edit name q X seen)
      → IsJudgedAfresh file.net journal.history user asked X reply → IsJudged file.net journal.history user asked X (limits_of quote) reply
      → IsAllowedFor (market_of file) (standing_of journal members) (OfCommand (Edit name q X seen)) reply
  edit_allowed X seen reply none afresh by =
      let H = journal.history in
      let quotes : rules.Quotes = map (option_map quoted) (quotes_of members) in
      answer_allowed (market_of file) (standing_of journal members) (Edit name q X seen) reply none
      (subst (λ (o : Option Asked). IsSomeAnd o (λ asked. MatchOption (rules.current_limits (rules.last_quote quotes (user_number H name)) asked (revision H))
      (IsJudgedAfresh file.net H (user_number H name) asked X reply) (λ limits. IsJudged file.net H (user_number H name) asked X limits reply)))
      (sym is_question.named)
      (subst (λ (n : ℕ). MatchOption (rules.current_limits (rules.last_quote quotes n) asked (revision H))
      (IsJudgedAfresh file.net H n asked X reply) (λ limits. IsJudged file.net H n asked X limits reply))
      is_user.number
      (judged_by limits_of quote (λ (held : Quote). LastLimits held)
      (λ (o : Option rules.Quote). rules.current_limits o asked (revision H))
      (λ (held : Quote). IsFor held asked (revision H)) (current_is asked (revision H) quote)
      members user last (IsJudgedAfresh file.net H user asked X reply)
      (λ limits. IsJudged file.net H user asked X limits reply) afresh by)))

-- ---- the market

module _ {P A Plan : Type 0} (weights_stand : P → Meaning → Type 0) (gains_stand : A → Meaning → Type 0) (plan_for : Plan → List Variable → GivenTree → Type 0)
    (file : MarketFile) (prices : P) (rows : A) (plan : Plan) (members new_members : List (Member A Plan)) (ledger : LedgerOf) (journal : JournalOf)
    (payments : Option (List Payment)) (till : Option TillOf) (kept : IsKept weights_stand gains_stand plan_for file prices rows plan members ledger journal payments till)
    (name : List ℕ) (user : ℕ) (is_user : IsUser journal.history name user) (q : QuestionText) (asked : Asked)
    (is_question : IsQuestionFor (market_of file) file.tree journal.history q asked)
    (quote : Quote) (is : IsQuoteOf file.net file.tree journal.history user asked quote) (are : AreQuoted gains_stand file.net file.tree journal.history members new_members user (LastLimits quote))
    (beside : AreApart user journal.history members new_members) where
  next_quoted : standing_of journal new_members
      ≡ record { history = journal.history ++ []; quotes = with_limits (market_of file) journal.history (map (option_map quoted) (quotes_of members)) name q (limits_of quote) }
  next_quoted =
      standing_quoted journal new_members _
      (quote_said journal.history members new_members name user (LastLimits quote) (rules.EditLimits asked (limits_of quote)) is_user.number
      (quoted_is file.net file.tree journal.history user asked quote is) are.quotes
      ∙ sym (ap (λ (o : Option Asked). with_quote journal.history (map (option_map quoted) (quotes_of members)) name (option_map (λ (a : Asked). rules.EditLimits a (limits_of quote)) o))
      is_question.named))

  open_for : IsOpen file.net file.tree journal.history
  open_for = is_open weights_stand gains_stand plan_for file prices rows plan members ledger journal payments till kept

  right_for_user : AreRightFor (bounds_of quote) (limits_of quote) → AreRightLimits file.net journal.history (user_number journal.history name) asked (limits_of quote)
  right_for_user right =
      subst (λ (n : ℕ). AreRightLimits file.net journal.history n asked (limits_of quote)) is_user.number
      (right_limits file.net file.tree journal.history user asked quote is open_for (limits_of quote) right)

  -- the limits of a question
  pub limits_answered : (limits : Option (ℕ × ℕ)) (at : ℕ) → None ≡ first_refusal (market_of file) journal.history (Limits name q)
      → limits ≡ limits_of quote → AreRightFor (bounds_of quote) limits → at ≡ revision journal.history
      → IsAnswered (trading file ledger journal members)
      (trading file ledger journal new_members) (Limits name q) (Limited limits at)
  limits_answered limits at none its right now =
      let reply = Limited (limits_of quote) (revision journal.history) in
      let printed : Limited limits at ≡ reply = ap₂ (λ (l : Option (ℕ × ℕ)) (n : ℕ). Limited l n) its now in
      subst (IsAnswered (trading file ledger journal members)
      (trading file ledger journal new_members) (Limits name q)) (sym printed)
      (record {
        market = refl;
        allowed = λ sound. answer_allowed (market_of file) (standing_of journal members) (Limits name q) reply none
            (subst (λ (o : Option Asked). IsSomeAnd o (λ a. IsLimits file.net journal.history (user_number journal.history name) a reply)) (sym is_question.named)
            (record { limits = limits_of quote; printed = refl; right = right_for_user (subst (AreRightFor (bounds_of quote)) its right) }));
        next = next_quoted;
        paid = λ u. refl;
        one_each = each_owns new_members (users journal.history) beside.named;
        others = others_left journal.history name user is_user members new_members beside.apart;
      })

  -- an edit that is outside of the quote's limits
  pub beyond_answered : (X : ℕ) (seen : Option ℕ) (limits : Option (ℕ × ℕ)) → None ≡ first_refusal (market_of file) journal.history (Edit name q X seen)
      → limits ≡ limits_of quote → AreRightFor (bounds_of quote) limits → ¬ Inside (limits_of quote) X
      → ((held : Quote) → slice_get (quotes_of members) user ≡ Some (Some (LastLimits held)) → IsFor held asked (revision journal.history) → quote ≡ held)
      → IsAnswered (trading file ledger journal members)
      (trading file ledger journal new_members) (Edit name q X seen) (Refused (Beyond limits))
  beyond_answered X seen limits none its right outside last =
      let reply = Refused (Beyond (limits_of quote)) in
      let printed : Refused (Beyond limits) ≡ reply = ap (λ (l : Option (ℕ × ℕ)). Refused (Beyond l)) its in
      let beyond : IsBeyond (limits_of quote) X reply = record { outside = outside; printed = refl } in
      subst (IsAnswered (trading file ledger journal members)
      (trading file ledger journal new_members) (Edit name q X seen)) (sym printed)
      (record {
        market = refl;
        allowed = λ sound. edit_allowed file journal members name user is_user q asked is_question quote last X seen reply none
            (inr (record {
              limits = limits_of quote;
              right = right_limits file.net file.tree journal.history user asked quote is open_for (limits_of quote) (subst (AreRightFor (bounds_of quote)) its right);
              beyond = beyond;
            }))
            (inr beyond);
        next = next_quoted;
        paid = λ u. refl;
        one_each = each_owns new_members (users journal.history) beside.named;
        others = others_left journal.history name user is_user members new_members beside.apart;
      })

-- ---- a trade

-- two numbers that are units, and so those of a reply
pub record AreUnits (hit miss : ℕ) : Type 0 where
  pub hit_units : IsUnits hit
  pub miss_units : IsUnits miss
  pub ratios : IsRatio hit × IsRatio miss

module _ (file : MarketFile) (journal : JournalOf) (open_for : IsOpen file.net file.tree journal.history) (name : List ℕ) (user : ℕ) (is_user : IsUser journal.history name user)
    (q : QuestionText) (asked : Asked) (is_question : IsQuestionFor (market_of file) file.tree journal.history q asked)
    (quote : Quote) (is : IsQuoteOf file.net file.tree journal.history user asked quote) (X hit miss : ℕ) (fair : AreFairAndSolvent (bounds_of quote) X hit miss) where
  pair : IsFairPair file.net journal.history user asked X hit miss
  pair = fair_pair file.net file.tree journal.history user asked quote is open_for X hit miss fair

  -- both numbers are units
  pub units_fit : AreUnits hit miss
  units_fit =
      let of_hit = pair.hit_units.fair in
      let of_miss = pair.miss_units.fair in
      record {
        hit_units = record { positive = of_hit.positive; fits = of_hit.fits };
        miss_units = record { positive = of_miss.positive; fits = of_miss.fits };
        ratios = (
          record { positive = of_hit.positive; below = of_hit.fits },
          record { positive = of_miss.positive; below = of_miss.fits },
        );
      }

  module _ {A Plan : Type 0} (members new_members : List (Member A Plan)) (new_journal : JournalOf) (seen : Option ℕ)
      (none : None ≡ first_refusal (market_of file) journal.history (Edit name q X seen)) (inside : Inside (limits_of quote) X)
      (last : (held : Quote) → slice_get (quotes_of members) user ≡ Some (Some (LastLimits held)) → IsFor held asked (revision journal.history) → quote ≡ held)
      (history : new_journal.history ≡ journal.history ++ Trade user (ratio_in file.net asked hit miss) ∷ []) (same_quotes : quotes_of new_members ≡ quotes_of members)
      (at : ℕ) (now : at ≡ revision new_journal.history) where
    pub trade_allowed : IsAllowedFor (market_of file) (standing_of journal members) (OfCommand (Edit name q X seen)) (Traded hit miss at)
    trade_allowed =
        let later : at ≡ revision journal.history + 1
        = now ∙ ap (λ (H : List Entry). length H) history ∙ length_push journal.history (Trade user (ratio_in file.net asked hit miss)) in
        let trade : IsTrade file.net journal.history user asked X (Traded hit miss at)
        = record { hit = hit; miss = miss; printed = ap (λ (n : ℕ). Traded hit miss n) later; fair = pair } in
        edit_allowed file journal members name user is_user q asked is_question quote last X seen (Traded hit miss at) none (inl trade) (inl (inside, trade))

    pub trade_fits : IsFit (market_of file) journal.history (Edit name q X seen)
        (Traded hit miss at)
    trade_fits = allowed_fits (market_of file) journal.history
        (map (option_map quoted) (quotes_of members)) (Edit name q X seen) (Traded hit miss at)
        (Trade (user_number journal.history name) (ratio_in file.net asked hit miss)) trade_allowed
        (ap (option_map (λ (a : Asked). Trade (user_number journal.history name)
        (ratio_in file.net a hit miss))) is_question.named)

    pub trade_next : standing_of new_journal new_members ≡ after (market_of file) (standing_of journal members) (OfCommand (Edit name q X seen)) (Traded hit miss at)
    trade_next =
        ap₂ (λ (H : List Entry) (qs : List (Option LastQuote)). record { history = H; quotes = map (option_map quoted) qs })
        (history
        ∙ ap (λ (o : Option Asked). journal.history ++ option_to_list (option_map (λ (a : Asked). Trade user (ratio_in file.net a hit miss)) o)) (sym is_question.named)
        ∙ ap (λ (n : ℕ). journal.history ++ option_to_list (option_map (λ (a : Asked). Trade n (ratio_in file.net a hit miss)) (question_named file.net q))) is_user.number)
        same_quotes

    pub trade_answered : (ledger : LedgerOf) → AreApart user journal.history members new_members
        → IsAnswered (trading file ledger journal members)
        (trading file ledger new_journal new_members) (Edit name q X seen) (Traded hit miss at)
    trade_answered ledger are = record {
      market = nothing_added (market_of file) (standing_of journal members) (Edit name q X seen)
          (Traded hit miss at) tt;
      allowed = λ sound. trade_allowed;
      next =
          trade_next;
      paid = λ u. refl;
      one_each = each_owns_then new_members journal.history new_journal.history
          (Trade user (ratio_in file.net asked hit miss)) are.named history refl;
      others = others_left journal.history name user is_user members new_members are.apart;
    }
