-- A user is quoted bounds, or a spread is judged by them.
use Rattle.std.specs.Prelude.{◌≡◌, ℕ, ◌+◌, ◌==◌, List, [], ◌∷◌, ◌++◌}
use Rattle.std.specs.Prelude.{length, map, All, Option, Some, None, option_map}
use Rattle.std.specs.Prelude.{option_and_then, option_to_list, MatchOption, IsSomeAnd, Result, Ok}
use Rattle.std.specs.Prelude.{Err, IsErrAnd, slice_get, slice_set}
use Rattle.std.proofs.Common.{refl, sym, ap, ap₂, ◌∙◌, subst, inl, inr}
use Rattle.std.proofs.lemmas.Bool.{eqb-true}
use Rattle.std.proofs.lemmas.List.{length_push}
use Rattle.std.proofs.lemmas.List.Elements.{All-from_recursion, recursion_from_All}
use Rattle.arrayvec.specs.ArrayVec.{ArrayVec}
use Rattle.mk_net.specs.declared.words.PairText.{PairText}
use Rattle.mk_net.specs.Network.{Variable}
use Rattle.mk_net.specs.Asked.{IsUnits}
use Rattle.mk_net.specs.Firsts.{first_of}
use Rattle.mk_exact.specs.History.{Entry, Trade, users, revision}
use Rattle.mk_states.specs.OfNetwork.{IsRatioOf}
use Rattle.mk_states.proofs.Sums.{each_weaker}
use Rattle.mk_spread.specs.Spreads.{SpreadAsked, spread_ratio}
use Rattle.mk_spread.specs.Bounds.{Intervals, InsideEach}
use Rattle.mk_spread.specs.Laws.{AreOfValues}
use Rattle.mk_spread.specs.Markets.{AreRightBoundsOf, IsFairList}
use Rattle.mk_spread.proofs.Fair.{fair_list_is_ratio, fair_list_fits}
use Rattle.mk_tree.specs.Given.{GivenTree}
use Rattle.mk_file.specs.declared.market_file.MarketFile.{MarketFile}
use Rattle.mk_file.specs.MarketOf.{market_of}
use Rattle.mk_engine.specs.Meaning.{Meaning}
use Rattle.mk_cash.specs.Accounts.{LedgerOf}
use Rattle.mk_command.specs.declared.command.Command.TheVariants.{Bounds, Spread}
use Rattle.mk_quote.specs.declared.spread_quote.SpreadQuote.{SpreadQuote}
use Rattle.mk_quote.specs.Values.{AreRightForEach, AreFairForEach}
use Rattle.mk_quote.specs.Spreads.{question_of, revision_of, sides_of, intervals_of, IsSpreadFor}
use Rattle.mk_reply.specs.declared.payments.Payment.{Payment}
use Rattle.mk_reply.specs.declared.refusal.Refusal.{Refusal}
use Rattle.mk_reply.specs.declared.refusal.Refusal.TheVariants.{Outside}
use Rattle.mk_reply.specs.declared.reply.Reply.{Reply}
use Rattle.mk_reply.specs.declared.reply.Reply.TheVariants.{Bounded, Spreaded, Refused}
use Rattle.mk_reply.specs.Refusals.{given_in}
use Rattle.mk_rules.specs.Answers.{IsBounds, IsSpreadTrade, IsOutside as PrintsOutside}
use Rattle.mk_rules.specs.Answers.{IsSpreadJudged, IsSpreadJudgedAfresh, with_bounds, with_quote}
use Rattle.mk_rules.specs.Refusals.{spread_named, user_number, first_refusal, refusals_by_record}
use Rattle.mk_rules.specs.Quotes as rules
use Rattle.mk_rules.specs.Transcript.{OfCommand, IsAllowedFor, after}
use Rattle.mk_rules.proofs.Ready.{spread_refused}
use Rattle.mk_rules.proofs.Quoted.{same_spread_is}
use Rattle.mk_answers.specs.Open.{IsOpen}
use Rattle.mk_record.specs.declared.last_quote.LastQuote.{LastQuote}
use Rattle.mk_record.specs.declared.last_quote.LastQuote.TheVariants.{Limits as LastLimits}
use Rattle.mk_record.specs.declared.last_quote.LastQuote.TheVariants.{Bounds as LastBounds}
use Rattle.mk_record.specs.declared.users.Member.{Member}
use Rattle.mk_record.specs.Journals.{JournalOf}
use Rattle.mk_record.specs.Members.{quotes_of}
use Rattle.mk_record.specs.Refused.{IsUser, IsSpreadQuestionFor}
use Rattle.mk_market.specs.Trading.{Trading, IsAnswered}
use Rattle.mk_market.specs.inner.Answering.{IsAnsweredBy}
use Rattle.mk_market.specs.inner.Keeping.{quoted, standing_of, IsKept}
use Rattle.mk_asking.specs.Quoting.{IsSpreadQuoteOf, IsOutside}
use Rattle.mk_market.proofs.Apart.{EachOwns, AreApart, left_alone, each_owns}
use Rattle.mk_market.proofs.Apart.{each_owns_then, others_left}
use Rattle.mk_market.proofs.Growing.{is_open}
use Rattle.mk_market.proofs.Judged.{TheSame, in_quote, in_other, judged_by}
use Rattle.mk_market.proofs.Quotes.{trading, quote_said, standing_quoted}
use Rattle.mk_market.proofs.Replies.{answer_allowed, refusal_allowed, none_appended, nothing_added}
use Rattle.mk_reply.specs.Replies.{IsRatio}
use Rattle.mk_restore.specs.Restoring.{IsFit}
use Rattle.mk_restore.proofs.Taken.{allowed_fits}
use Rattle.mk_asking.proofs.SpreadQuotes.{right_bounds, fair_list}
use Rattle.mk_replay.specs.Tills.{TillOf}

-- ---- a refusal

-- a spread that a refusal of the table meets leaves the standing
pub refused_answered : {Own : Type 0} → (old : Trading Own) → EachOwns old → (name v : List ℕ)
    (condition : ArrayVec PairText) (to : ArrayVec ℕ) (seen : Option ℕ) (why : Refusal)
    → Some why ≡ first_refusal old.market old.standing.history (Spread name v condition to seen) → IsAnswered old old (Spread name v condition to seen) (Refused why)
refused_answered old owns name v condition to seen why e = record {
  market = refl;
  allowed = λ sound. refusal_allowed old.market old.standing (Spread name v condition to seen) why e;
  next = none_appended old.market old.standing (Spread name v condition to seen) (Refused why) refl
      (spread_refused old.market old.standing.history old.standing.quotes name v condition to seen why (sym e));
  paid = λ u. refl;
  one_each = owns;
  others = left_alone old old (Spread name v condition to seen) refl;
}

pub spread_refused_answered : {Own F : Type 0} → (tell : F → Reply) (old known : Trading Own)
    → known ≡ old → EachOwns known
    → (name v : List ℕ) (condition : ArrayVec PairText) (to : ArrayVec ℕ)
    (seen : Option ℕ) (why : Refusal) (result : Result F Refusal) → IsErrAnd result (λ e. e ≡ why)
    → Some why ≡ first_refusal known.market known.standing.history
    (Spread name v condition to seen)
    → IsAnsweredBy old old (Spread name v condition to seen) result tell
spread_refused_answered tell old known same owns name v condition to seen why (Ok found) e refusal = absurd e
spread_refused_answered {Own} tell old known same owns name v condition to seen why (Err found) e refusal =
    subst (λ (w : Refusal). IsAnswered old old (Spread name v condition to seen) (Refused w)) (sym e)
    (subst (λ (t : Trading Own). IsAnswered t t (Spread name v condition to seen) (Refused why)) same
    (refused_answered known owns name v condition to seen why refusal))

-- the question of a slice of words is that of their list
pub question_for : (file : MarketFile) (H : List Entry) (v : List ℕ) (words : List PairText) (condition : ArrayVec PairText) (spread : SpreadAsked) → words ≡ condition.items
    → IsSpreadQuestionFor (market_of file) file.tree H v words spread → IsSpreadQuestionFor (market_of file) file.tree H v condition.items spread
question_for file H v words condition spread same is = subst (λ (pairs : List PairText). IsSpreadQuestionFor (market_of file) file.tree H v pairs spread) same is

-- a spread in words is this one in numbers, and the record refuses it nothing
pub record IsSpreadFound (file : MarketFile) (H : List Entry) (name v : List ℕ)
    (condition : ArrayVec PairText) (to : ArrayVec ℕ) (seen : Option ℕ) (spread : SpreadAsked) :
    Type 0 where
  pub question : IsSpreadQuestionFor (market_of file) file.tree H v condition.items spread
  pub unrefused : None ≡ first_of (refusals_by_record (market_of file) H
      (Spread name v condition to seen))

-- ---- a quote

module _ (network : List Variable) (tree : GivenTree) (H : List Entry) (u : ℕ) (spread : SpreadAsked) (quote : SpreadQuote) (is : IsSpreadQuoteOf network tree H u spread quote) where
  -- as the rules see it
  pub quoted_is : quoted (LastBounds quote) ≡ record { says = rules.SpreadBounds spread (intervals_of quote); at = revision H }
  quoted_is = ap₂ (λ (s : SpreadAsked) (n : ℕ). record { says = rules.SpreadBounds s (intervals_of quote); at = n }) is.question is.at_present

-- ---- bounds in the standing

-- the bounds that the rules find in a user's last quote are those of the quote that judges
current_is : (spread : SpreadAsked) (now : ℕ) (quote : SpreadQuote) (o : Option (Option LastQuote))
    → ((held : SpreadQuote) → o ≡ Some (Some (LastBounds held)) → IsSpreadFor held spread now
    → quote ≡ held)
    → TheSame intervals_of quote (rules.current_bounds
    (option_and_then (λ held. held) (option_map (option_map quoted) o)) spread now)
current_is spread now quote None h = tt
current_is spread now quote (Some None) h = tt
current_is spread now quote (Some (Some (LastLimits held))) h = in_other intervals_of quote _
current_is spread now quote (Some (Some (LastBounds held))) h =
    in_quote intervals_of quote held (rules.same_spread (question_of held) spread)
    (revision_of held == now)
    (λ same at. h held refl (record {
      same_question = same_spread_is (question_of held) spread same;
      same_revision = eqb-true (revision_of held) now at;
    }))

-- a spread that no refusal of the table meets is answered as the quote judges it
module _ {A Plan : Type 0} (file : MarketFile) (journal : JournalOf) (members : List (Member A Plan)) (name : List ℕ) (user : ℕ) (is_user : IsUser journal.history name user)
    (v : List ℕ) (condition : ArrayVec PairText) (spread : SpreadAsked)
    (is_question : IsSpreadQuestionFor (market_of file) file.tree journal.history v condition.items spread) (quote : SpreadQuote)
    (last : (held : SpreadQuote) → slice_get (quotes_of members) user ≡ Some (Some (LastBounds held)) → IsSpreadFor held spread (revision journal.history) → quote ≡ held) where
  pub spread_allowed : (to : ArrayVec ℕ) (seen : Option ℕ) (reply : Reply) → None ≡ first_refusal (market_of file) journal.history (Spread name v condition to seen)
      → IsSpreadJudgedAfresh file.net journal.history user spread to.items reply → IsSpreadJudged file.net journal.history user spread to.items (intervals_of quote) reply
      → IsAllowedFor (market_of file) (standing_of journal members) (OfCommand (Spread name v condition to seen)) reply
  spread_allowed to seen reply none afresh by =
      let H = journal.history in
      let quotes : rules.Quotes = map (option_map quoted) (quotes_of members) in
      answer_allowed (market_of file) (standing_of journal members) (Spread name v condition to seen) reply none
      (subst (λ (o : Option SpreadAsked). IsSomeAnd o (λ spread. MatchOption (rules.current_bounds (rules.last_quote quotes (user_number H name)) spread (revision H))
      (IsSpreadJudgedAfresh file.net H (user_number H name) spread to.items reply) (λ intervals. IsSpreadJudged file.net H (user_number H name) spread to.items intervals reply)))
      (sym is_question.named)
      (subst (λ (n : ℕ). MatchOption (rules.current_bounds (rules.last_quote quotes n) spread (revision H))
      (IsSpreadJudgedAfresh file.net H n spread to.items reply) (λ intervals. IsSpreadJudged file.net H n spread to.items intervals reply))
      is_user.number
      (judged_by intervals_of quote (λ (held : SpreadQuote). LastBounds held)
      (λ (o : Option rules.Quote). rules.current_bounds o spread (revision H))
      (λ (held : SpreadQuote). IsSpreadFor held spread (revision H))
      (current_is spread (revision H) quote) members user last
      (IsSpreadJudgedAfresh file.net H user spread to.items reply)
      (λ intervals. IsSpreadJudged file.net H user spread to.items intervals reply) afresh by)))

-- ---- the market

module _ {P A Plan : Type 0} (weights_stand : P → Meaning → Type 0) (gains_stand : A → Meaning → Type 0) (plan_for : Plan → List Variable → GivenTree → Type 0)
    (file : MarketFile) (prices : P) (rows : A) (plan : Plan) (members new_members : List (Member A Plan)) (ledger : LedgerOf) (journal : JournalOf)
    (payments : Option (List Payment)) (till : Option TillOf) (kept : IsKept weights_stand gains_stand plan_for file prices rows plan members ledger journal payments till)
    (name : List ℕ) (user : ℕ) (is_user : IsUser journal.history name user) (v : List ℕ) (condition : ArrayVec PairText) (spread : SpreadAsked)
    (is_question : IsSpreadQuestionFor (market_of file) file.tree journal.history v condition.items spread) (quote : SpreadQuote)
    (is : IsSpreadQuoteOf file.net file.tree journal.history user spread quote)
    (new_quotes : quotes_of new_members ≡ slice_set (quotes_of members) user (Some (LastBounds quote)))
    (are : AreApart user journal.history members new_members) where
  next_quoted : (intervals : Intervals) → intervals ≡ intervals_of quote → standing_of journal new_members
      ≡ record { history = journal.history ++ []; quotes = with_bounds (market_of file) journal.history (map (option_map quoted) (quotes_of members)) name v condition.items intervals }
  next_quoted intervals given =
      standing_quoted journal new_members _
      (quote_said journal.history members new_members name user (LastBounds quote) (rules.SpreadBounds spread (intervals_of quote)) is_user.number
      (quoted_is file.net file.tree journal.history user spread quote is) new_quotes
      ∙ ap (λ (i : Intervals). with_quote journal.history (map (option_map quoted) (quotes_of members)) name (Some (rules.SpreadBounds spread i))) (sym given)
      ∙ sym (ap (λ (o : Option SpreadAsked). with_quote journal.history (map (option_map quoted) (quotes_of members)) name (option_map (λ (s : SpreadAsked). rules.SpreadBounds s intervals) o))
      is_question.named))

  open_for : IsOpen file.net file.tree journal.history
  open_for = is_open weights_stand gains_stand plan_for file prices rows plan members ledger journal payments till kept

  right_for : (intervals : Intervals) → AreRightForEach (sides_of quote) intervals → AreRightBoundsOf file.net journal.history user spread intervals
  right_for intervals right = right_bounds file.net file.tree journal.history user spread quote is open_for intervals right

  -- the bounds of a spread
  pub bounds_answered : (box : Option (ArrayVec (ℕ × ℕ))) (at : ℕ) → None ≡ first_refusal (market_of file) journal.history (Bounds name v condition)
      → given_in box ≡ intervals_of quote → AreRightForEach (sides_of quote) (given_in box) → at ≡ revision journal.history
      → IsAnswered (trading file ledger journal members)
      (trading file ledger journal new_members) (Bounds name v condition) (Bounded box at)
  bounds_answered box at none given right now = record {
    market = refl;
    allowed = λ sound. answer_allowed (market_of file) (standing_of journal members) (Bounds name v condition) (Bounded box at) none
        (subst (λ (o : Option SpreadAsked). IsSomeAnd o (λ s. IsBounds file.net journal.history (user_number journal.history name) s (Bounded box at))) (sym is_question.named)
        (record {
          box = box;
          printed = ap (λ (n : ℕ). Bounded box n) now;
          right = subst (λ (n : ℕ). AreRightBoundsOf file.net journal.history n spread (given_in box)) is_user.number (right_for (given_in box) right);
        }));
    next = next_quoted (given_in box) given;
    paid = λ u. refl;
    one_each = each_owns new_members (users journal.history) are.named;
    others = others_left journal.history name user is_user members new_members are.apart;
  }

  -- a spread that is outside of the quote's bounds
  pub outside_answered : (to : ArrayVec ℕ) (seen : Option ℕ) (box : Option (ArrayVec (ℕ × ℕ))) → None ≡ first_refusal (market_of file) journal.history (Spread name v condition to seen)
      → IsOutside quote to.items box
      → ((held : SpreadQuote) → slice_get (quotes_of members) user ≡ Some (Some (LastBounds held)) → IsSpreadFor held spread (revision journal.history) → quote ≡ held)
      → IsAnswered (trading file ledger journal members)
      (trading file ledger journal new_members) (Spread name v condition to seen)
      (Refused (Outside box))
  outside_answered to seen box none out last =
      let reply = Refused (Outside box) in
      let outside : PrintsOutside (intervals_of quote) to.items reply = record { outside = out.outside; box = box; given = out.given; printed = refl } in
      record {
        market = refl;
        allowed = λ sound. spread_allowed file journal members name user is_user v condition spread is_question quote last to seen reply none
            (inr (record {
              intervals = intervals_of quote;
              right = right_for (intervals_of quote) (subst (AreRightForEach (sides_of quote)) out.given out.right);
              outside = outside;
            }))
            (inr outside);
        next = next_quoted (given_in box) out.given;
        paid = λ u. refl;
        one_each = each_owns new_members (users journal.history) are.named;
        others = others_left journal.history name user is_user members new_members are.apart;
      }

-- ---- a trade

-- factors of which there is one for each value, and which are units of a ratio of the network
pub record AreFactors (network : List Variable) (spread : SpreadAsked) (factors : List ℕ) : Type 0
  where
    pub of_values : AreOfValues factors
    pub units : All IsUnits factors
    pub ratios : All IsRatio factors
    pub ratio : IsRatioOf network (spread_ratio spread factors)

module _ (file : MarketFile) (journal : JournalOf) (open_for : IsOpen file.net file.tree journal.history) (name : List ℕ) (user : ℕ) (is_user : IsUser journal.history name user)
    (v : List ℕ) (condition : ArrayVec PairText) (spread : SpreadAsked)
    (is_question : IsSpreadQuestionFor (market_of file) file.tree journal.history v condition.items spread) (quote : SpreadQuote)
    (is : IsSpreadQuoteOf file.net file.tree journal.history user spread quote) (to factors : ArrayVec ℕ) (fair : AreFairForEach (sides_of quote) to.items factors.items) where
  list : IsFairList file.net journal.history user spread to.items factors.items
  list = fair_list file.net file.tree journal.history user spread quote is open_for to.items factors.items fair

  -- the factors fit
  pub factors_fit : AreFactors file.net spread factors.items
  factors_fit =
      let fits = fair_list_fits file.net journal.history user spread to.items factors.items list
      open_for.legal is_question.answered.in_order.in_range.variable in
      record {
        of_values = fits.0;
        units = fits.1;
        ratios = All-from_recursion IsRatio factors.items
            (each_weaker IsUnits IsRatio (λ n is. record
            { positive = is.positive; below = is.fits })
            factors.items (recursion_from_All IsUnits factors.items fits.1));
        ratio = fair_list_is_ratio file.net journal.history user spread to.items factors.items list
            is_question.answered.in_order.in_range;
      }

  module _ {A Plan : Type 0} (members new_members : List (Member A Plan)) (new_journal : JournalOf) (seen : Option ℕ)
      (none : None ≡ first_refusal (market_of file) journal.history (Spread name v condition to seen)) (inside : InsideEach (intervals_of quote) to.items)
      (last : (held : SpreadQuote) → slice_get (quotes_of members) user ≡ Some (Some (LastBounds held)) → IsSpreadFor held spread (revision journal.history) → quote ≡ held)
      (history : new_journal.history ≡ journal.history ++ Trade user (spread_ratio spread factors.items) ∷ []) (same_quotes : quotes_of new_members ≡ quotes_of members)
      (at : ℕ) (now : at ≡ revision new_journal.history) where
    pub spread_trade_allowed : IsAllowedFor (market_of file) (standing_of journal members) (OfCommand (Spread name v condition to seen)) (Spreaded factors at)
    spread_trade_allowed =
        let later : at ≡ revision journal.history + 1
        = now ∙ ap (λ (H : List Entry). length H) history ∙ length_push journal.history (Trade user (spread_ratio spread factors.items)) in
        let trade : IsSpreadTrade file.net journal.history user spread to.items (Spreaded factors at)
        = record { factors = factors; printed = ap (λ (n : ℕ). Spreaded factors n) later; fair = list } in
        spread_allowed file journal members name user is_user v condition spread is_question quote last to seen (Spreaded factors at) none (inl trade) (inl (inside, trade))

    pub spread_trade_fits : IsFit (market_of file) journal.history
        (Spread name v condition to seen) (Spreaded factors at)
    spread_trade_fits = allowed_fits (market_of file) journal.history
        (map (option_map quoted) (quotes_of members)) (Spread name v condition to seen)
        (Spreaded factors at)
        (Trade (user_number journal.history name) (spread_ratio spread factors.items))
        spread_trade_allowed
        (ap (option_map (λ (s : SpreadAsked). Trade (user_number journal.history name)
        (spread_ratio s factors.items))) is_question.named)

    pub spread_trade_next : standing_of new_journal new_members ≡ after (market_of file) (standing_of journal members) (OfCommand (Spread name v condition to seen)) (Spreaded factors at)
    spread_trade_next =
        ap₂ (λ (H : List Entry) (qs : List (Option LastQuote)). record { history = H; quotes = map (option_map quoted) qs })
        (history
        ∙ ap (λ (o : Option SpreadAsked). journal.history ++ option_to_list (option_map (λ (s : SpreadAsked). Trade user (spread_ratio s factors.items)) o)) (sym is_question.named)
        ∙ ap (λ (n : ℕ). journal.history ++ option_to_list (option_map (λ (s : SpreadAsked). Trade n (spread_ratio s factors.items)) (spread_named file.net v condition.items))) is_user.number)
        same_quotes

    pub spread_trade_answered : (ledger : LedgerOf)
        → AreApart user journal.history members new_members
        → IsAnswered (trading file ledger journal members)
        (trading file ledger new_journal new_members) (Spread name v condition to seen)
        (Spreaded factors at)
    spread_trade_answered ledger are = record {
      market = nothing_added (market_of file) (standing_of journal members)
          (Spread name v condition to seen) (Spreaded factors at) tt;
      allowed = λ sound. spread_trade_allowed;
      next = spread_trade_next;
      paid = λ u. refl;
      one_each = each_owns_then new_members journal.history new_journal.history
          (Trade user (spread_ratio spread factors.items)) are.named history refl;
      others = others_left journal.history name user is_user members new_members are.apart;
    }
