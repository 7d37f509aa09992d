-- What is found for an auditor is what was asked for, and leaves the market as it stood.
use Rattle.std.specs.Prelude.{◌≡◌, ℕ, List, [], ◌∷◌, map, false, Option, Some, None}
use Rattle.std.specs.Prelude.{option_map, IsSomeAnd, IsErrAnd, IfOk, MatchResult, Result, Ok, Err}
use Rattle.std.specs.List.{AllZip}
use Rattle.std.proofs.Common.{refl, sym, ap, ◌∙◌, subst}
use Rattle.arrayvec.specs.ArrayVec.{ArrayVec}
use Rattle.mk_net.specs.declared.words.PairText.{PairText}
use Rattle.mk_net.specs.declared.words.QuestionText.{QuestionText}
use Rattle.mk_net.specs.Asked.{Asked}
use Rattle.mk_net.specs.Events.{pairs_asked}
use Rattle.mk_net.specs.Firsts.{first_of}
use Rattle.mk_net.specs.Network.{Variable, IsNetwork}
use Rattle.mk_states.specs.Events.{always, holds, with_target, without_target}
use Rattle.mk_exact.specs.Existing.{HasOutcome, HasSides}
use Rattle.mk_exact.specs.Factors.{gain, least_gain}
use Rattle.mk_exact.specs.History.{Entry}
use Rattle.mk_exact.specs.Market.{Market}
use Rattle.mk_exact.specs.Proper.{IsProper}
use Rattle.mk_exact.specs.Weight.{cannot_come}
use Rattle.mk_exact.proofs.ExistMarkets.{sides_exist}
use Rattle.mk_exact.proofs.ExistOutcome.{outcome_exists}
use Rattle.mk_spread.specs.Existing.{HasValueSides}
use Rattle.mk_spread.specs.Markets.{values_of}
use Rattle.mk_spread.specs.Spreads.{SpreadAsked, asked_of}
use Rattle.mk_spread.proofs.Exist.{value_sides_exist}
use Rattle.mk_spread.proofs.Left.{can_come_is}
use Rattle.mk_tree.specs.Given.{home}
use Rattle.mk_enclose.specs.declared.factor.Factor.{Factor}
use Rattle.mk_file.specs.declared.market_file.MarketFile.{MarketFile}
use Rattle.mk_file.specs.MarketOf.{market_of}
use Rattle.mk_assets.specs.declared.assets.Assets.{Assets}
use Rattle.mk_cash.specs.Accounts.{LedgerOf}
use Rattle.mk_judge.specs.declared.price.PriceBounds.{PriceBounds}
use Rattle.mk_quote.specs.declared.bounds.Bounds.{Bounds}
use Rattle.mk_quote.specs.Questions.{spread_in}
use Rattle.mk_command.specs.declared.command.Command.{Command}
use Rattle.mk_command.specs.declared.command.Command.TheVariants.{Price, Limits, Edit, Prices}
use Rattle.mk_command.specs.declared.command.Command.TheVariants.{Position}
use Rattle.mk_reply.specs.declared.refusal.Refusal.{Refusal}
use Rattle.mk_rules.specs.Refusals.{first_refusal, refusals_by_record, impossible_together}
use Rattle.mk_rules.specs.Refusals.{refusals_by_states, decided, user_number}
use Rattle.mk_rules.proofs.Spreads.{spread_parts}
use Rattle.mk_rules.proofs.Unrefused.{target_named, none_applies}
use Rattle.mk_answers.specs.Evidence.{AreBoundsOfPrice, IsPriceBounded, ArePricesBounded}
use Rattle.mk_answers.specs.Evidence.{IsFactorOf, IsLeastFactorOf, IsSureFactor, AreSureFactors}
use Rattle.mk_answers.specs.Evidence.{AreSidesBounded, AreSpreadSidesBounded}
use Rattle.mk_answers.specs.declared.edit.Sides.{Sides}
use Rattle.mk_answers.specs.declared.edit.Sides.TheVariants as both
use Rattle.mk_answers.specs.declared.spread.SpreadSides.{SpreadSides}
use Rattle.mk_answers.specs.declared.spread.SpreadSides.TheVariants as each
use Rattle.mk_answers.specs.Open.{IsOpen}
use Rattle.mk_answers.specs.Results.{AreSidesFor, AreSpreadSidesFor}
use Rattle.mk_answers.proofs.Told.{not_never}
use Rattle.mk_record.specs.declared.last_quote.LastQuote.{LastQuote}
use Rattle.mk_record.specs.declared.requests.Request.{Request}
use Rattle.mk_record.specs.declared.users.Member.{Member}
use Rattle.mk_record.specs.Journals.{JournalOf}
use Rattle.mk_record.specs.Members.{quotes_of}
use Rattle.mk_record.specs.Refused.{IsUser, IsQuestionFor, IsSpreadQuestionFor, CanBeSettled}
use Rattle.mk_record.specs.Refused.{refusal_in}
use Rattle.mk_evidence.specs.declared.evidence_of_edits.EditEvidence.{EditEvidence}
use Rattle.mk_evidence.specs.declared.evidence_of_spreads.SpreadEvidence.{SpreadEvidence}
use Rattle.mk_evidence.specs.Grades.{evidence_grade}
use Rattle.mk_evidence.specs.Evidence.{IsAskedFor, IsPriceEvidence, ArePricesEvidence}
use Rattle.mk_evidence.specs.Evidence.{IsWorstEvidence, IsPositionEvidence, IsPaymentEvidence}
use Rattle.mk_evidence.specs.Evidence.{IsEditEvidence, IsSpreadEvidence}
use Rattle.mk_market.specs.Trading.{Trading, IsOnlyAsked}
use Rattle.mk_evidence.specs.inner.Finding.{AreBothFound, AreEachFound, IsRequestFor}
use Rattle.mk_evidence.specs.inner.Finding.{IsDecidedAnew, question_command, opened, opened_each}
use Rattle.mk_market.specs.inner.Keeping.{quoted}
use Rattle.mk_market.proofs.Quotes.{trading}
use Rattle.mk_market.proofs.Replies.{stopped_by_states, unrefused}
use Rattle.mk_asking.specs.Stopped.{IsAskedBy, IsDecidedBy}
use Rattle.mk_asking.proofs.Stopping.{none_stops}
use Rattle.mk_asking.proofs.Together.{none_together, condition_comes}

-- a market whose users were quoted the same was only asked
pub only_asked : {A Plan : Type 0} (file : MarketFile) (ledger : LedgerOf)
    (journal : JournalOf) (members new_members : List (Member A Plan))
    → quotes_of new_members ≡ quotes_of members → (old : Trading (Assets A Plan))
    → trading file ledger journal members ≡ old
    → IsOnlyAsked old (trading file ledger journal new_members)
only_asked {A} {Plan} file ledger journal members new_members same old view = record {
  market = ap (λ (t : Trading (Assets A Plan)). t.market) view;
  standing = ap (λ (qs : List (Option LastQuote)). record {
    history = journal.history;
    quotes = map (option_map quoted) qs;
  }) same
      ∙ ap (λ (t : Trading (Assets A Plan)). t.standing) view;
  accounts = ap (λ (t : Trading (Assets A Plan)). t.accounts) view;
}

-- what is refused
pub asked_refused : {Own F : Type 0} (old known : Trading Own) → known ≡ old → (command : Command)
    (why : Refusal) (result : Result F Refusal) (E : F → Type 0)
    → IsErrAnd result (λ e. e ≡ why)
    → Some why ≡ first_refusal known.market known.standing.history command
    → IsAskedFor old.market old.standing.history command result E
asked_refused {Own} old known same command why (Ok found) E is refusal = absurd is
asked_refused {Own} old known same command why (Err found) E is refusal =
    subst (λ (t : Trading Own). first_refusal t.market t.standing.history command ≡ Some found) same
    (sym refusal ∙ ap (λ (w : Refusal). Some w) (sym is))

-- what is asked of a market as its parts give it is asked of it
pub asked_in : {Own F : Type 0} (old known : Trading Own) → known ≡ old → (command : Command)
    (result : Result F Refusal) (E : Market → List Entry → F → Type 0)
    → IsAskedFor known.market known.standing.history command result
    (E known.market known.standing.history)
    → IsAskedFor old.market old.standing.history command result
    (E old.market old.standing.history)
asked_in {Own} old known same command result E h =
    subst (λ (t : Trading Own). IsAskedFor t.market t.standing.history command result
    (E t.market t.standing.history)) same h

pub stopped_in : {Own : Type 0} (old known : Trading Own) → known ≡ old → (command : Command)
    (found : Option Refusal)
    → first_refusal known.market known.standing.history command ≡ found
    → first_refusal old.market old.standing.history command ≡ found
stopped_in {Own} old known same command found e =
    subst (λ (t : Trading Own). first_refusal t.market t.standing.history command ≡ found) same e

pub refused_is : {Own T : Type 0} (old known : Trading Own) → known ≡ old → (command : Command)
    (result : Result T Refusal)
    → refusal_in result ≡ first_refusal known.market known.standing.history command
    → refusal_in result ≡ first_refusal old.market old.standing.history command
refused_is {Own} old known same command result e =
    subst (λ (t : Trading Own). refusal_in result
    ≡ first_refusal t.market t.standing.history command) same e

pub refused_err : {Own T : Type 0} (old known : Trading Own) → known ≡ old → (command : Command)
    (why : Refusal) (result : Result T Refusal) → IsErrAnd result (λ e. e ≡ why)
    → Some why ≡ first_refusal known.market known.standing.history command
    → refusal_in result ≡ first_refusal old.market old.standing.history command
refused_err {Own} {T} old known same command why (Ok found) is refusal = absurd is
refused_err {Own} {T} old known same command why (Err found) is refusal =
    refused_is {T = T} old known same command (Err found)
    (ap (λ (w : Refusal). Some w) is ∙ refusal)

-- where every variable is resolved one state is left
pub outcome_where : {T : Type 0} (network : List Variable) (H : List Entry) → IsNetwork network
    → IsProper network H → (result : Result T Refusal)
    → IfOk result (λ _. CanBeSettled network H) → IfOk result (λ _. HasOutcome network H)
outcome_where network H legal proper (Ok x) can = outcome_exists network H legal proper can.resolved
outcome_where network H legal proper (Err why) can = tt

-- ---- factors

module _ (market : Market) (H : List Entry) where
  pub payment_found : (user : ℕ) (factor : Factor)
      → IsLeastFactorOf (evidence_grade market H) market.network H user always factor
      → IsPaymentEvidence market H user factor
  payment_found user factor found state one =
      let only_gain : least_gain market.network H user always ≡ Some (gain H user state) =
      rw one refl in
      subst (λ (o : Option ℕ). IsSomeAnd o
      (λ g. IsFactorOf (evidence_grade market H) market.network H user g factor)) only_gain
      found

-- by a user's least factor
pub worst_found : {Own : Type 0} {old known : Trading Own} → known ≡ old → (command : Command)
    (name : List ℕ) (user : ℕ) (factor : Factor) → IsUser known.standing.history name user
    → None ≡ first_refusal known.market known.standing.history command
    → IsLeastFactorOf (evidence_grade old.market old.standing.history) old.market.network
    old.standing.history user always factor
    → IsAskedFor old.market old.standing.history command (Ok factor)
    (IsWorstEvidence old.market old.standing.history name)
worst_found {Own} {old} {known} same command name user factor is_user none found = (
  subst (λ (t : Trading Own). first_refusal t.market t.standing.history command ≡ None) same
      (sym none),
  subst (λ (n : ℕ). IsLeastFactorOf (evidence_grade old.market old.standing.history)
      old.market.network old.standing.history n always factor)
      (subst (λ (t : Trading Own). user ≡ user_number t.standing.history name) same is_user.number)
      found,
)

-- ---- sides that were found

pub both_opened : (most : ℕ) (network : List Variable) (H : List Entry) (u : ℕ) (asked : Asked)
    (sides : Sides) → AreSidesFor network H u asked sides
    → AreSidesBounded most network H u asked sides
    → MatchResult (opened sides) (AreBothFound most network H u asked)
    (IsDecidedBy network H asked)
both_opened most network H u asked (both.Open bounds) are bounded =
    record { left = are.0; bounded = bounded }
both_opened most network H u asked both.Impossible are bounded = are
both_opened most network H u asked both.Never are bounded = are
both_opened most network H u asked both.Sure are bounded = are

pub each_opened : (most : ℕ) (network : List Variable) (H : List Entry) (u : ℕ)
    (spread : SpreadAsked) (sides : SpreadSides) → AreSpreadSidesFor network H u spread sides
    → AreSpreadSidesBounded most network H u spread sides
    → MatchResult (opened_each sides) (AreEachFound most network H u spread)
    (IsDecidedAnew network H spread)
each_opened most network H u spread (each.Open bounds) are bounded =
    record { two_left = are.0; enclosed = are.1; bounded = bounded }
each_opened most network H u spread each.Impossible are bounded = are
each_opened most network H u spread (each.Sure value) are bounded = are

-- a request that the record does not refuse
pub request_found : (file : MarketFile) (H : List Entry) (name : List ℕ) (q : QuestionText)
    (result : Result Request Refusal) → IfOk result (λ found. IsUser H name found.user)
    → IfOk result (λ found. IsQuestionFor (market_of file) file.tree H q found.question)
    → IfOk result (λ found. home file.tree (pairs_asked found.question) ≡ Some found.home)
    → IfOk result (IsRequestFor file H name q)
request_found file H name q (Ok request) user question at_home =
    record { user = user; question = question; at_home = at_home }
request_found file H name q (Err why) user question at_home = tt

module _ (file : MarketFile) (H : List Entry) where
  -- the first refusal by what can come is that of the condition
  only : (o : Option Refusal) (why : Refusal) → o ≡ Some why → first_of (o ∷ []) ≡ Some why
  only o why e = ap (λ (p : Option Refusal). first_of (p ∷ [])) e

  none_first : (o : Option Refusal) → o ≡ None → first_of (o ∷ []) ≡ None
  none_first o e = ap (λ (p : Option Refusal). first_of (p ∷ [])) e

  -- ---- prices

  module _ (q : QuestionText)
      (none : None ≡ first_of (refusals_by_record (market_of file) H (Price q))) where
    pub price_stopped : (why : Refusal)
        → impossible_together file.net H q.condition.items ≡ Some why
        → first_refusal (market_of file) H (Price q) ≡ Some why
    price_stopped why e =
        sym (stopped_by_states (market_of file) H (Price q) why none (only _ why e))

    pub price_found : (asked : Asked) → IsQuestionFor (market_of file) file.tree H q asked
        → (bounds : PriceBounds) → IsPriceBounded
        (evidence_grade (market_of file) H) file.net H asked (Some bounds)
        → IsAskedFor (market_of file) H (Price q) (Ok bounds)
        (IsPriceEvidence (market_of file) H q)
    price_found asked question bounds found =
        let comes = not_never {X = PriceBounds} bounds
        (cannot_come file.net H (holds asked.condition)) found.none in (
          sym (unrefused (market_of file) H (Price q) none (none_first _
              (none_together file.net H q.condition.items asked.condition
              (target_named file.net q asked question.named).1 comes))),
          subst (λ (o : Option Asked). IsSomeAnd o
              (λ asked. AreBoundsOfPrice (evidence_grade (market_of file) H) file.net H asked
              bounds)) (sym question.named)
              found.bounds,
        )

  -- ---- every value

  module _ (v : List ℕ) (condition : ArrayVec PairText) (spread : SpreadAsked)
      (question : IsSpreadQuestionFor (market_of file) file.tree H v condition.items spread) where
    together : cannot_come file.net H (holds spread.condition) ≡ false
        → impossible_together file.net H condition.items ≡ None
    together comes =
        none_together file.net H condition.items spread.condition
        (spread_parts file.net v condition.items spread question.named).2 comes

    module _ (none : None ≡ first_of (refusals_by_record (market_of file) H (Prices v condition)))
      where
        pub prices_stopped : (why : Refusal)
            → impossible_together file.net H condition.items ≡ Some why
            → first_refusal (market_of file) H (Prices v condition) ≡ Some why
        prices_stopped why e =
            sym (stopped_by_states (market_of file) H (Prices v condition) why none (only _ why e))

        pub prices_found : (bounds : ArrayVec (Option PriceBounds))
            → ArePricesBounded (evidence_grade (market_of file) H) file.net H spread (Some bounds)
            → IsAskedFor (market_of file) H (Prices v condition) (Ok bounds)
            (ArePricesEvidence (market_of file) H v condition)
        prices_found bounds found = (
          sym (unrefused (market_of file) H (Prices v condition) none
              (none_first _ (together found.0))),
          subst (λ (o : Option SpreadAsked). IsSomeAnd o (λ spread.
              AllZip (λ value price. IsSomeAnd price
              (AreBoundsOfPrice (evidence_grade (market_of file) H) file.net H
              (asked_of spread value)))
              (values_of file.net spread) bounds.items)) (sym question.named) found.1,
        )

    module _ (name : List ℕ) (none : None ≡ first_of (refusals_by_record (market_of file) H
        (Position name v condition))) where
      pub position_stopped : (why : Refusal)
          → impossible_together file.net H condition.items ≡ Some why
          → first_refusal (market_of file) H (Position name v condition) ≡ Some why
      position_stopped why e =
          sym (stopped_by_states (market_of file) H (Position name v condition) why none
          (only _ why e))

      pub position_found : (user : ℕ) → IsUser H name user → (factors : ArrayVec (Option Factor))
          → AreSureFactors (evidence_grade (market_of file) H) file.net H user spread (Some factors)
          → IsAskedFor (market_of file) H (Position name v condition) (Ok factors)
          (IsPositionEvidence (market_of file) H name v condition)
      position_found user is_user factors found = (
        sym (unrefused (market_of file) H (Position name v condition) none
            (none_first _ (together found.0))),
        subst (λ (o : Option SpreadAsked). IsSomeAnd o (λ spread.
            AllZip (λ value factor. IsSureFactor (evidence_grade (market_of file) H) file.net H
            (user_number H name)
            (with_target (asked_of spread value)) factor) (values_of file.net spread)
            factors.items)) (sym question.named)
            (subst (λ (n : ℕ). AllZip (λ value factor. IsSureFactor
            (evidence_grade (market_of file) H) file.net H n
            (with_target (asked_of spread value)) factor) (values_of file.net spread)
            factors.items) is_user.number found.1),
      )

  -- ---- sides

  module _ (is_open : IsOpen file.net file.tree H) (name : List ℕ) (user : ℕ)
      (is_user : IsUser H name user) where
    pub edit_found : (q : QuestionText) (asked : Asked)
        → IsQuestionFor (market_of file) file.tree H q asked → (bounds : Bounds)
        → AreBothFound (evidence_grade (market_of file) H) file.net H user asked bounds
        → (evidence : EditEvidence)
        → evidence ≡ record { user = user; question = asked; bounds = bounds }
        → IsEditEvidence (market_of file) H name q evidence
    edit_found q asked question bounds found evidence is = rw is (record {
      user = is_user.number;
      within = is_user.within;
      named = question.named;
      sides = record {
        hit = sides.hit;
        miss = sides.miss;
        exist = sides.sides;
        hit_bounds = found.bounded.hit;
        miss_bounds = found.bounded.miss;
      };
    })
      where
        sides : HasSides file.net H user asked
        sides = sides_exist file.net H user asked is_open.legal is_open.proper (record {
          can_ask = record {
            in_order = question.answered.in_order;
            some_state = can_come_is file.net H (holds asked.condition)
                (condition_comes file.net H asked found.left.hit);
          };
          some_hit = can_come_is file.net H (with_target asked) found.left.hit;
          some_miss = can_come_is file.net H (without_target asked) found.left.miss;
        })

    pub spread_found : (v : List ℕ) (condition : ArrayVec PairText) (evidence : SpreadEvidence)
        → IsSpreadQuestionFor (market_of file) file.tree H v condition.items
        (spread_in evidence.question)
        → evidence.user ≡ user
        → AreEachFound (evidence_grade (market_of file) H) file.net H user
        (spread_in evidence.question) evidence.bounds
        → IsSpreadEvidence (market_of file) H name v condition evidence
    spread_found v condition evidence question same found = record {
      user = same ∙ is_user.number;
      within = rw same is_user.within;
      named = question.named;
      two_left = found.two_left;
      sides = record {
        sides = sides.sides;
        exist = rw same sides.are_sides;
        bounds_of = rw same found.bounded;
      };
    }
      where
        sides : HasValueSides file.net H user (spread_in evidence.question)
        sides = value_sides_exist file.net H user (spread_in evidence.question) is_open.legal
            is_open.proper
            (record { in_order = question.answered.in_order; two_left = found.two_left })

  -- ---- questions for limits and edits

  module _ (name : List ℕ) (q : QuestionText) (request : Request)
      (is : IsRequestFor file H name q request) where
    pub asked_by : (wish : Option (ℕ × Option ℕ))
        → None ≡ first_of (refusals_by_record (market_of file) H (question_command name q wish))
        → IsAskedBy file.net q request.question
    asked_by None none = record {
      named = is.question.named;
      known = (none_applies (refusals_by_record (market_of file) H (Limits name q))
          (sym none)).1.1.0;
    }
    asked_by (Some wish) none = record {
      named = is.question.named;
      known = (none_applies (refusals_by_record (market_of file) H (Edit name q wish.0 wish.1))
          (sym none)).1.1.0;
    }

    by_states : (wish : Option (ℕ × Option ℕ))
        → refusals_by_states (market_of file) H (question_command name q wish)
        ≡ impossible_together file.net H q.condition.items ∷ decided file.net H q ∷ []
    by_states None = refl
    by_states (Some wish) = refl

    pub question_stopped : (wish : Option (ℕ × Option ℕ)) (why : Refusal)
        → None ≡ first_of (refusals_by_record (market_of file) H (question_command name q wish))
        → first_of (impossible_together file.net H q.condition.items ∷ decided file.net H q ∷ [])
        ≡ Some why
        → first_refusal (market_of file) H (question_command name q wish) ≡ Some why
    question_stopped wish why none first =
        sym (stopped_by_states (market_of file) H (question_command name q wish) why none
        (ap (λ (faults : List (Option Refusal)). first_of faults) (by_states wish) ∙ first))

    pub question_found : IsOpen file.net file.tree H → (wish : Option (ℕ × Option ℕ))
        → None ≡ first_of (refusals_by_record (market_of file) H (question_command name q wish))
        → (bounds : Bounds)
        → AreBothFound (evidence_grade (market_of file) H) file.net H request.user request.question
        bounds
        → (evidence : EditEvidence)
        → evidence
        ≡ record { user = request.user; question = request.question; bounds = bounds }
        → IsAskedFor (market_of file) H (question_command name q wish) (Ok evidence)
        (IsEditEvidence (market_of file) H name q)
    question_found open_now wish none bounds found evidence same = (
      sym (unrefused (market_of file) H (question_command name q wish) none
          (ap (λ (faults : List (Option Refusal)). first_of faults) (by_states wish)
          ∙ none_stops file.net H q request.question (asked_by wish none) found.left)),
      edit_found open_now name request.user is.user q request.question is.question bounds found
          evidence same,
    )
