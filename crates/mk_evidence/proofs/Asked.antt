-- What the parts of a market in use may be asked, and what that leaves of it.
use Rattle.std.specs.Prelude.{◌≡◌, ℕ, ◌<◌, List, length, slice_get, slice_index, Option, Some}
use Rattle.std.specs.Prelude.{None, Result, Ok}
use Rattle.std.specs.Prelude.{Err, IsErrAnd, MatchResult, ⊤, true}
use Rattle.std.proofs.Common.{refl, sym, ap, ◌∙◌, subst}
use Rattle.arrayvec.specs.ArrayVec.{ArrayVec}
use Rattle.mk_net.specs.declared.words.PairText.{PairText}
use Rattle.mk_net.specs.declared.words.QuestionText.{QuestionText}
use Rattle.mk_net.specs.Events.{pairs_asked}
use Rattle.mk_net.specs.Firsts.{first_of}
use Rattle.mk_net.specs.Network.{Variable, sizes}
use Rattle.mk_states.specs.Events.{holds}
use Rattle.mk_exact.specs.History.{Entry, users}
use Rattle.mk_exact.specs.Weight.{cannot_come}
use Rattle.mk_spread.specs.Spreads.{SpreadAsked, asked_of}
use Rattle.mk_tree.specs.Given.{GivenTree, home}
use Rattle.mk_tree.proofs.Held.{home_is_held}
use Rattle.mk_engine.specs.Meaning.{Meaning}
use Rattle.mk_beliefs.specs.Meanings.{weights_of}
use Rattle.mk_file.specs.declared.market_file.MarketFile.{MarketFile}
use Rattle.mk_file.specs.MarketOf.{market_of}
use Rattle.mk_assets.specs.declared.assets.Assets.{Assets}
use Rattle.mk_assets.specs.Holdings.{Holding, Owns}
use Rattle.mk_cash.specs.Accounts.{LedgerOf}
use Rattle.mk_quote.specs.declared.values.SpreadBounds.{SpreadBounds}
use Rattle.mk_quote.specs.Questions.{spread_in}
use Rattle.mk_command.specs.declared.command.Command.{Command}
use Rattle.mk_command.specs.declared.command.Command.TheVariants.{Bounds, Spread}
use Rattle.mk_reply.specs.declared.payments.Payment.{Payment}
use Rattle.mk_reply.specs.declared.refusal.Refusal.{Refusal}
use Rattle.mk_rules.specs.Refusals.{spread_named, unknown, refusals_by_record}
use Rattle.mk_rules.specs.Refusals.{refusals_by_states, first_refusal, impossible_together}
use Rattle.mk_rules.proofs.Spreadable.{as_many_shares}
use Rattle.mk_rules.proofs.Spreads.{spread_parts}
use Rattle.mk_rules.proofs.Unrefused.{none_applies}
use Rattle.mk_answers.specs.Open.{IsOpen, CanBeSpreadHere}
use Rattle.mk_answers.specs.Telling.{CanTellPrices}
use Rattle.mk_answers.proofs.Homes.{condition_is_held}
use Rattle.mk_record.specs.declared.requests.Request.{Request}
use Rattle.mk_record.specs.declared.requests.SpreadRequest.{SpreadRequest}
use Rattle.mk_record.specs.declared.users.Member.{Member}
use Rattle.mk_record.specs.Journals.{JournalOf}
use Rattle.mk_record.specs.Members.{names_of, assets_of, quotes_of, with_assets}
use Rattle.mk_record.specs.Refused.{IsUser, IsSpreadQuestionFor}
use Rattle.mk_record.proofs.SpreadRefusals.{value_is_held}
use Rattle.mk_replay.specs.Tills.{TillOf}
use Rattle.mk_asking.specs.declared.possible.Stopped.{Stopped}
use Rattle.mk_asking.specs.Keeping.{AreHeld}
use Rattle.mk_asking.specs.Stopped.{IsConditionBy, IsRefusedFor, MayStop}
use Rattle.mk_asking.specs.Stopped.{CanRefuseCondition, CanRefuseSpread}
use Rattle.mk_asking.proofs.Learnt.{held_asked}
use Rattle.mk_asking.proofs.Lent.{in_range, names_stay, quotes_stay}
use Rattle.mk_market.specs.Trading.{Trading, IsOnlyAsked}
use Rattle.mk_market.specs.inner.Keeping.{IsKept}
use Rattle.mk_market.proofs.Growing.{open_by}
use Rattle.mk_market.proofs.Quotes.{trading, kept_unquoted}
use Rattle.mk_market.proofs.Replies.{by_record, stopped_by_states, unrefused}
use Rattle.mk_evidence.specs.declared.evidence_of_spreads.SpreadEvidence.{SpreadEvidence}
use Rattle.mk_evidence.specs.Grades.{evidence_grade}
use Rattle.mk_evidence.specs.Evidence.{IsAskedFor, IsSpreadEvidence}
use Rattle.mk_evidence.specs.inner.Finding.{AreAsked, IsRequestFor, CanAskEach, CanFindBoth}
use Rattle.mk_evidence.specs.inner.Finding.{CanFindEach, AreEachFound, IsDecidedAnew}
use Rattle.mk_evidence.specs.inner.Finding.{ArePlacedBounds}
use Rattle.mk_evidence.specs.inner.Finding.{IsStoppedAnew, IsTold}
use Rattle.mk_evidence.proofs.Evidenced.{only_asked, asked_refused, spread_found}
use Rattle.mk_evidence.proofs.EvidencedSpreads.{two_first, decided_only, decided_may_stop}
use Rattle.mk_evidence.proofs.EvidencedSpreads.{placed_first, stopped_first, anew_may_stop}

-- users of whom one has learnt what is known, and was asked then
pub learnt_asked : {A Plan : Type 0} {gains_stand : A → Meaning → Type 0} {file : MarketFile}
    {H : List Entry} {members : List (Member A Plan)} (learnt : List (Member A Plan)) (user : ℕ)
    (lent now : Assets A Plan) → AreHeld gains_stand file.net file.tree H learnt
    → names_of learnt ≡ names_of members → quotes_of learnt ≡ quotes_of members
    → slice_get (assets_of learnt) user ≡ Some lent
    → ((h : Holding) → Owns gains_stand lent h → Owns gains_stand now h)
    → AreAsked gains_stand file H members (with_assets learnt user now)
learnt_asked {A} {Plan} {gains_stand} {file} {H} learnt user lent now held named quoted there
    still =
    record {
      held = held_asked gains_stand file.net file.tree H learnt held user lent now there still;
      names = names_stay learnt user now ∙ named;
      quotes = quotes_stay learnt user now ∙ quoted;
    }

-- a spread that the record does not refuse gives a share to each value
pub one_each : (file : MarketFile) (H : List Entry) (name v : List ℕ)
    (condition : ArrayVec PairText) (words : List PairText) → words ≡ condition.items
    → (spread : SpreadAsked) → spread_named file.net v words ≡ Some spread
    → (to : ArrayVec ℕ) (seen : Option ℕ)
    → None ≡ first_of (refusals_by_record (market_of file) H (Spread name v condition to seen))
    → length to.items ≡ slice_index (sizes file.net) spread.variable
one_each file H name v condition words as_words spread named to seen none =
    as_many_shares file.net v condition.items spread to.items
    (subst (λ (pairs : List PairText). spread_named file.net v pairs ≡ Some spread) as_words named)
    (none_applies (refusals_by_record (market_of file) H (Spread name v condition to seen))
    (sym none)).1.1.1.1.1.1.1.1.1.0

module _ {P A Plan : Type 0} {weights_stand : P → Meaning → Type 0}
    {gains_stand : A → Meaning → Type 0} {plan_for : Plan → List Variable → GivenTree → Type 0}
    {file : MarketFile} {prices : P} {rows : A} {plan : Plan} {members : List (Member A Plan)}
    {ledger : LedgerOf} {journal : JournalOf} {payments : Option (List Payment)}
    {till : Option TillOf}
    (kept : IsKept weights_stand gains_stand plan_for file prices rows plan members ledger journal
    payments till) where
  -- once it was asked it is kept
  pub asked_kept : {new_prices : P} {new_members : List (Member A Plan)}
      → ((m : Meaning) → weights_stand prices m → weights_stand new_prices m)
      → AreAsked gains_stand file journal.history members new_members
      → IsKept weights_stand gains_stand plan_for file new_prices rows plan new_members ledger
      journal payments till
  asked_kept {new_prices} {new_members} still asked =
      kept_unquoted weights_stand gains_stand plan_for file prices new_prices rows plan members
      new_members ledger journal payments till kept still asked.names asked.quotes asked.held

  -- where the engine of prices alone was asked
  pub prices_kept : {new_prices : P}
      → ((m : Meaning) → weights_stand prices m → weights_stand new_prices m)
      → IsKept weights_stand gains_stand plan_for file new_prices rows plan members ledger journal
      payments till
  prices_kept still =
      asked_kept still (record { held = kept.held; names = refl; quotes = refl })

  -- with a file that is the same but for the proofs that it carries
  pub filed_kept : {other : MarketFile} → other ≡ file
      → IsKept weights_stand gains_stand plan_for other prices rows plan members ledger journal
      payments till
  filed_kept same = subst (λ (f : MarketFile). IsKept weights_stand gains_stand plan_for f prices
      rows plan members ledger journal payments till) (sym same) kept

  -- the prices of each value can be asked for in the home of the first
  pub can_tell_prices : (at : ℕ) (spread : SpreadAsked)
      → CanBeSpreadHere file.net file.tree journal.history spread
      → home file.tree (pairs_asked (asked_of spread 0)) ≡ Some at
      → CanTellPrices weights_stand prices file.net at spread
  can_tell_prices at spread answered at_home = record {
    tree = file.tree;
    history = journal.history;
    stands = kept.prices_stand;
    is_open = open_by kept;
    answered = answered;
    held = λ value. value_is_held file.tree at spread value at_home;
  }

  -- what a request asks
  pub can_find_both : (name : List ℕ) (q : QuestionText) (request : Request)
      → IsRequestFor file journal.history name q request
      → CanFindBoth weights_stand gains_stand file journal.history prices members request
  can_find_both name q request is = record {
    in_use = record { is_open = open_by kept; weights = kept.prices_stand; held = kept.held };
    user = in_range members (users journal.history) request.user kept.named is.user.within;
    answered = is.question.answered;
    at_home = is.at_home;
  }

  module _ (request : SpreadRequest) (within : request.user < length (users journal.history))
      (answered : CanBeSpreadHere file.net file.tree journal.history (spread_in request.question))
      (at_home : home file.tree (pairs_asked (asked_of (spread_in request.question) 0))
      ≡ Some request.home) where
    pub can_ask_each : CanAskEach gains_stand file journal.history members request
    can_ask_each = record {
      is_open = open_by kept;
      held = kept.held;
      user = in_range members (users journal.history) request.user kept.named within;
      answered = answered;
      at_home = at_home;
    }

    pub can_find_each :
        CanFindEach weights_stand gains_stand file journal.history prices members request
    can_find_each = record { weights = kept.prices_stand; users = can_ask_each }

  -- a question about every value of a variable whose condition cannot come
  module _ (v : List ℕ) (condition : ArrayVec PairText) (words : List PairText)
      (as_words : words ≡ condition.items) (spread : SpreadAsked)
      (is_question : IsSpreadQuestionFor (market_of file) file.tree journal.history v words spread)
      (known : unknown file.net condition.items ≡ None)
      (cannot : cannot_come file.net journal.history (holds spread.condition) ≡ true) where
    by : IsConditionBy file.net words spread.condition
    by = record {
      known = ap (unknown file.net) as_words ∙ known;
      named = (spread_parts file.net v words spread is_question.named).2;
    }

    pub can_refuse_under : (new_prices : P)
        → weights_stand new_prices (weights_of file.net file.tree journal.history) → (at : ℕ)
        → home file.tree (pairs_asked (asked_of spread 0)) ≡ Some at
        → CanRefuseCondition weights_stand new_prices at spread.condition words
    can_refuse_under new_prices stands at at_home = record {
      network = file.net;
      tree = file.tree;
      history = journal.history;
      stands = stands;
      is_open = open_by kept;
      condition_by = by;
      in_range = is_question.answered.in_order.in_range.condition;
      held = condition_is_held file.tree at (asked_of spread 0) spread.condition refl
          (home_is_held file.tree at _ at_home);
      cannot = cannot;
    }

    pub refused_under : (why : Refusal) → (IsConditionBy file.net words spread.condition
        → cannot_come file.net journal.history (holds spread.condition) ≡ true
        → impossible_together file.net journal.history words ≡ Some why)
        → impossible_together file.net journal.history condition.items ≡ Some why
    refused_under why refused =
        ap (impossible_together file.net journal.history) (sym as_words) ∙ refused by cannot

  module _ {old : Trading (Assets A Plan)} (same : trading file ledger journal members ≡ old) where
    -- it was only asked
    pub asked_only : {new_members : List (Member A Plan)}
        → AreAsked gains_stand file journal.history members new_members
        → IsOnlyAsked old (trading file ledger journal new_members)
    asked_only {new_members} asked =
        only_asked file ledger journal members new_members asked.quotes old same

    -- what the record refuses
    pub refused_by_record : {F : Type 0} {why : Refusal} (command : Command)
        (result : Result F Refusal) (E : F → Type 0) → IsErrAnd result (λ e. e ≡ why)
        → Some why ≡ first_of (refusals_by_record (market_of file) journal.history command)
        → IsAskedFor old.market old.standing.history command result E
    refused_by_record {F} {why} command result E is refusal =
        asked_refused old (trading file ledger journal members) same command why result E is
        (by_record (market_of file) journal.history command why refusal)

    -- a question about every value of a variable that the record does not refuse
    module _ (name v : List ℕ) (condition : ArrayVec PairText) (words : List PairText)
        (as_words : words ≡ condition.items) (request : SpreadRequest)
        (is_user : IsUser journal.history name request.user)
        (is_question : IsSpreadQuestionFor (market_of file) file.tree journal.history v words
        (spread_in request.question))
        (Found : SpreadBounds → Type 0) (Stops : Stopped → Type 0)
        (may : (why : Stopped) → Stops why
        → MayStop file.net journal.history (spread_in request.question) why)
        {new_prices : P} (still : (m : Meaning) → weights_stand prices m
        → weights_stand new_prices m) where
      abbrev spread : SpreadAsked
      spread = spread_in request.question

      question : IsSpreadQuestionFor (market_of file) file.tree journal.history v condition.items
          spread
      question = subst (λ (pairs : List PairText). IsSpreadQuestionFor (market_of file) file.tree
          journal.history v pairs (spread_in request.question)) as_words is_question

      stands : weights_stand new_prices (weights_of file.net file.tree journal.history)
      stands = still (weights_of file.net file.tree journal.history) kept.prices_stand

      ok_is : (evidence other : SpreadEvidence) (result : Result SpreadEvidence Refusal)
          → result ≡ Ok evidence → result ≡ Ok other → evidence ≡ other
      ok_is evidence other result a b = cc

      spread_is : (evidence : SpreadEvidence) (bounds : SpreadBounds)
          → evidence ≡ record {
            user = request.user;
            question = request.question;
            bounds = bounds;
          }
          → AreEachFound (evidence_grade (market_of file) journal.history) file.net
          journal.history request.user spread bounds
          → IsSpreadEvidence (market_of file) journal.history name v condition evidence
      spread_is evidence bounds is each = rw is
          (spread_found file journal.history (open_by kept) name request.user is_user v condition
          (record { user = request.user; question = request.question; bounds = bounds }) question
          refl each)

      -- what stops it can be told
      pub can_tell : home file.tree (pairs_asked (asked_of (spread_in request.question) 0))
          ≡ Some request.home → unknown file.net condition.items ≡ None
          → (found : Result SpreadBounds Stopped) → MatchResult found Found Stops
          → MatchResult found (λ _. ⊤)
          (CanRefuseSpread weights_stand new_prices file.net v words request)
      can_tell at_home known (Ok bounds) is = tt
      can_tell at_home known (Err why) is = record {
        tree = file.tree;
        history = journal.history;
        stands = stands;
        is_open = open_by kept;
        named = is_question.named;
        known = ap (unknown file.net) as_words ∙ known;
        answered = is_question.answered;
        at_home = at_home;
        may_stop = may why is;
      }

      -- and what is told is what was asked for
      pub told_is : (command : Command)
          → None ≡ first_of (refusals_by_record (market_of file) journal.history command)
          → (spread_named file.net v condition.items ≡ Some spread → (bounds : SpreadBounds)
          → Found bounds
          → (first_of (refusals_by_states (market_of file) journal.history command) ≡ None)
          × AreEachFound (evidence_grade (market_of file) journal.history) file.net
          journal.history request.user spread bounds)
          → (spread_named file.net v condition.items ≡ Some spread → (why : Stopped)
          (refusal : Refusal) → Stops why
          → IsRefusedFor file.net journal.history v condition.items spread why refusal
          → first_of (refusals_by_states (market_of file) journal.history command)
          ≡ Some refusal)
          → (found : Result SpreadBounds Stopped) (result : Result SpreadEvidence Refusal)
          → MatchResult found Found Stops
          → IsTold weights_stand new_prices file.net v words request found result
          → IsAskedFor old.market old.standing.history command result
          (IsSpreadEvidence old.market old.standing.history name v condition)
      told_is command none fine stop (Ok bounds) (Err refusal) is told = absurd (cc)
      told_is command none fine stop (Err why) (Ok evidence) is told = absurd told
      told_is command none fine stop (Ok bounds) (Ok evidence) is told =
          let each = fine question.named bounds is in
          subst (λ (t : Trading (Assets A Plan)). IsAskedFor t.market t.standing.history command
          (Ok evidence) (IsSpreadEvidence t.market t.standing.history name v condition)) same (
            sym (unrefused (market_of file) journal.history command none each.0),
            spread_is evidence bounds (ok_is evidence _ (Ok evidence) refl told) each.1,
          )
      told_is command none fine stop (Err why) (Err refusal) is told =
          subst (λ (t : Trading (Assets A Plan)). first_refusal t.market t.standing.history command
          ≡ Some refusal) same
          (sym (stopped_by_states (market_of file) journal.history command refusal none
          (stop question.named why refusal is (subst (λ (pairs : List PairText). IsRefusedFor
          file.net journal.history v pairs spread why refusal) as_words
          (told file.tree journal.history stands (open_by kept) (may why is))))))

    module _ {name v : List ℕ} {words : List PairText} (condition : ArrayVec PairText)
        (as_words : words ≡ condition.items) (request : SpreadRequest)
        (is_user : IsUser journal.history name request.user)
        (is_question : IsSpreadQuestionFor (market_of file) file.tree journal.history v words
        (spread_in request.question))
        (at_home : home file.tree (pairs_asked (asked_of (spread_in request.question) 0))
        ≡ Some request.home)
        {new_prices : P} (still : (m : Meaning) → weights_stand prices m
        → weights_stand new_prices m) (found : Result SpreadBounds Stopped) where
      -- bounds
      module _ (none : None ≡ first_of
          (refusals_by_record (market_of file) journal.history (Bounds name v condition)))
          (is : MatchResult found (AreEachFound
          (evidence_grade (market_of file) journal.history) file.net journal.history
          request.user (spread_in request.question))
          (IsDecidedAnew file.net journal.history (spread_in request.question))) where
        abbrev Found : SpreadBounds → Type 0
        Found = AreEachFound (evidence_grade (market_of file) journal.history) file.net
            journal.history request.user (spread_in request.question)

        abbrev Stops : Stopped → Type 0
        Stops = IsDecidedAnew file.net journal.history (spread_in request.question)

        pub bounds_can_tell : MatchResult found (λ _. ⊤)
            (CanRefuseSpread weights_stand new_prices file.net v words request)
        bounds_can_tell =
            can_tell name v condition words as_words request is_user is_question Found Stops
            (decided_may_stop file.net journal.history (spread_in request.question)) still at_home
            (none_applies (refusals_by_record (market_of file) journal.history
            (Bounds name v condition)) (sym none)).1.1.1.0 found is

        pub bounds_told : (result : Result SpreadEvidence Refusal)
            → IsTold weights_stand new_prices file.net v words request found result
            → IsAskedFor old.market old.standing.history (Bounds name v condition) result
            (IsSpreadEvidence old.market old.standing.history name v condition)
        bounds_told result told =
            told_is name v condition words as_words request is_user is_question Found Stops
            (decided_may_stop file.net journal.history (spread_in request.question)) still
            (Bounds name v condition) none
            (λ named bounds each. (
              two_first file.net file.tree journal.history request.user
                  (spread_in request.question) v condition.items named each.two_left,
              each,
            ))
            (decided_only file.net file.tree journal.history (spread_in request.question) v
            condition.items) found result is told

      -- a spread
      module _ {shares : List ℕ} (to : ArrayVec ℕ) (as_shares : shares ≡ to.items)
          (seen : Option ℕ) (none : None ≡ first_of (refusals_by_record (market_of file)
          journal.history (Spread name v condition to seen)))
          (is : MatchResult found (ArePlacedBounds
          (evidence_grade (market_of file) journal.history) file.net file.tree journal.history
          request.user (spread_in request.question) shares)
          (IsStoppedAnew file.net file.tree journal.history request.user
          (spread_in request.question) shares)) where
        abbrev Placed : List ℕ → SpreadBounds → Type 0
        Placed Xs = ArePlacedBounds (evidence_grade (market_of file) journal.history) file.net
            file.tree journal.history request.user (spread_in request.question) Xs

        abbrev StopsAnew : List ℕ → Stopped → Type 0
        StopsAnew Xs = IsStoppedAnew file.net file.tree journal.history request.user
            (spread_in request.question) Xs

        is_placed : MatchResult found (Placed to.items) (StopsAnew to.items)
        is_placed =
            subst (λ (Xs : List ℕ). MatchResult found (Placed Xs) (StopsAnew Xs)) as_shares is

        may_stop : (why : Stopped) → StopsAnew to.items why
            → MayStop file.net journal.history (spread_in request.question) why
        may_stop = anew_may_stop file.net file.tree journal.history request.user
            (spread_in request.question) to.items
            (one_each file journal.history name v condition words as_words
            (spread_in request.question) is_question.named to seen none)

        pub spread_can_tell : MatchResult found (λ _. ⊤)
            (CanRefuseSpread weights_stand new_prices file.net v words request)
        spread_can_tell =
            can_tell name v condition words as_words request is_user is_question
            (Placed to.items) (StopsAnew to.items) may_stop still at_home
            (none_applies (refusals_by_record (market_of file) journal.history
            (Spread name v condition to seen)) (sym none)).1.1.1.0 found is_placed

        pub spread_told : (result : Result SpreadEvidence Refusal)
            → IsTold weights_stand new_prices file.net v words request found result
            → IsAskedFor old.market old.standing.history (Spread name v condition to seen) result
            (IsSpreadEvidence old.market old.standing.history name v condition)
        spread_told result told =
            told_is name v condition words as_words request is_user is_question
            (Placed to.items) (StopsAnew to.items) may_stop still
            (Spread name v condition to seen) none
            (λ named bounds placed. (
              placed_first file.net file.tree journal.history request.user
                  (spread_in request.question) v condition.items named (open_by kept) to.items
                  placed.placed,
              placed.found,
            ))
            (λ named. stopped_first file.net file.tree journal.history request.user
            (spread_in request.question) v condition.items named (open_by kept) to.items)
            found result is_placed told
