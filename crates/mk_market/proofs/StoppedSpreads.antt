-- What stops a spread is refused, and leaves the market.
use Rattle.std.specs.Prelude.{◌≡◌, ℕ, List, [], ◌∷◌, length, slice_index, Option, Some, None}
use Rattle.std.proofs.Common.{sym, ap, ◌∙◌, subst}
use Rattle.arrayvec.specs.ArrayVec.{ArrayVec}
use Rattle.mk_net.specs.declared.words.PairText.{PairText}
use Rattle.mk_net.specs.Firsts.{first_of}
use Rattle.mk_net.specs.Network.{Variable, sizes}
use Rattle.mk_exact.specs.History.{users}
use Rattle.mk_spread.specs.Bounds.{InsideEach}
use Rattle.mk_spread.specs.Spreads.{SpreadAsked, asked_of}
use Rattle.mk_quote.specs.Questions.{spread_in}
use Rattle.mk_net.specs.Events.{pairs_asked}
use Rattle.mk_record.specs.declared.requests.SpreadRequest.{SpreadRequest}
use Rattle.mk_tree.specs.Given.{GivenTree, home}
use Rattle.mk_file.specs.declared.market_file.MarketFile.{MarketFile}
use Rattle.mk_file.specs.MarketOf.{market_of}
use Rattle.mk_engine.specs.Meaning.{Meaning}
use Rattle.mk_beliefs.specs.Meanings.{weights_of}
use Rattle.mk_cash.specs.Accounts.{LedgerOf}
use Rattle.mk_command.specs.declared.command.Command.TheVariants.{Bounds, Spread}
use Rattle.mk_quote.specs.declared.spread_quote.SpreadQuote.{SpreadQuote}
use Rattle.mk_quote.specs.Spreads.{intervals_of}
use Rattle.mk_reply.specs.declared.payments.Payment.{Payment}
use Rattle.mk_reply.specs.declared.refusal.Refusal.{Refusal}
use Rattle.mk_reply.specs.declared.reply.Reply.TheVariants.{Refused}
use Rattle.mk_rules.specs.Refusals.{unknown, refusals_by_record, first_refusal, impossible_together, sure_value, impossible_share, missing_share}
use Rattle.mk_rules.proofs.Spreadable.{as_many_shares}
use Rattle.mk_rules.proofs.Unrefused.{none_applies}
use Rattle.mk_answers.specs.Open.{IsOpen}
use Rattle.mk_record.specs.declared.last_quote.LastQuote.TheVariants.{Bounds as LastBounds}
use Rattle.mk_asking.specs.declared.possible.SpreadDecided.{SpreadDecided}
use Rattle.mk_asking.specs.declared.possible.Stopped.{Stopped}
use Rattle.mk_asking.specs.declared.possible.Stopped.TheVariants as stopped
use Rattle.mk_record.specs.declared.users.Member.{Member}
use Rattle.mk_record.specs.Journals.{JournalOf}
use Rattle.mk_record.specs.Members.{names_of, quotes_of}
use Rattle.mk_record.specs.Refused.{IsUser, IsSpreadQuestionFor}
use Rattle.mk_market.specs.Trading.{IsAnswered}
use Rattle.mk_asking.specs.Keeping.{AreHeld}
use Rattle.mk_market.specs.inner.Keeping.{IsKept}
use Rattle.mk_asking.specs.Quoting.{IsSpreadQuoteOf, IsTurnedDown}
use Rattle.mk_asking.specs.Stopped.{IsSpreadDecidedBy, IsRefusedFor, MayStop, CanRefuseSpread}
use Rattle.mk_market.proofs.Growing.{is_open}
use Rattle.mk_market.proofs.Apart.{AreApart, each_owns, others_left}
use Rattle.mk_market.proofs.Quotes.{trading, kept_quoted, kept_unquoted, answered_before}
use Rattle.mk_market.proofs.Replies.{refused_answered, stopped_by_states, unrefused}
use Rattle.mk_asking.proofs.SpreadQuotes.{kept_quote}
use Rattle.mk_asking.proofs.StoppedSpreads.{decided_first, undecided, impossible_first}
use Rattle.mk_asking.proofs.StoppedSpreads.{missing_first, none_first, inside_first}
use Rattle.mk_market.proofs.Spreads.{refused_answered as spread_refused, outside_answered}
use Rattle.mk_replay.specs.Tills.{TillOf}

module _ {P A Plan : Type 0} (weights_stand : P → Meaning → Type 0) (gains_stand : A → Meaning → Type 0) (plan_for : Plan → List Variable → GivenTree → Type 0)
    (file : MarketFile) (prices : P) (rows : A) (plan : Plan) (members : List (Member A Plan)) (ledger : LedgerOf) (journal : JournalOf)
    (payments : Option (List Payment)) (till : Option TillOf) (kept : IsKept weights_stand gains_stand plan_for file prices rows plan members ledger journal payments till)
    (new_prices : P) (new_members : List (Member A Plan)) where
  -- a market is kept beside users who were quoted the same
  pub record AreBeside : Type 0 where
    pub prices_beside : (m : Meaning) → weights_stand prices m → weights_stand new_prices m
    pub names_beside : names_of new_members ≡ names_of members
    pub held_beside : AreHeld gains_stand file.net file.tree journal.history new_members

  pub kept_beside : AreBeside → quotes_of new_members ≡ quotes_of members → IsKept weights_stand gains_stand plan_for file new_prices rows plan new_members ledger journal payments till
  kept_beside are same =
      kept_unquoted weights_stand gains_stand plan_for file prices new_prices rows plan members
      new_members ledger journal payments till kept are.prices_beside are.names_beside same
      are.held_beside

  module _ (name : List ℕ) (user : ℕ) (is_user : IsUser journal.history name user) (v : List ℕ) (condition : ArrayVec PairText) (spread : SpreadAsked)
      (is_question : IsSpreadQuestionFor (market_of file) file.tree journal.history v condition.items spread) where
    open_for : IsOpen file.net file.tree journal.history
    open_for = is_open weights_stand gains_stand plan_for file prices rows plan members ledger journal payments till kept

    -- the engine can find the words of what stops it
    pub can_refuse : (request : SpreadRequest) → spread_in request.question ≡ spread
        → home file.tree (pairs_asked (asked_of (spread_in request.question) 0)) ≡ Some request.home
        → (words : List PairText) → words ≡ condition.items
        → unknown file.net condition.items ≡ None
        → ((m : Meaning) → weights_stand prices m → weights_stand new_prices m) → (why : Stopped) → MayStop file.net journal.history spread why
        → CanRefuseSpread weights_stand new_prices file.net v words request why
    can_refuse request its at_home words same known still why may =
        subst (λ (ps : List PairText). CanRefuseSpread weights_stand new_prices file.net v ps
        request why) (sym same) (record {
          tree = file.tree;
          history = journal.history;
          stands = still (weights_of file.net file.tree journal.history) kept.prices_stand;
          is_open = open_for;
          named = rw its is_question.named;
          known = known;
          answered = rw its is_question.answered;
          at_home = at_home;
          may_stop = rw its may;
        })

    -- a condition that no refusal meets is known
    pub bounds_known : None ≡ first_of (refusals_by_record (market_of file) journal.history (Bounds name v condition)) → unknown file.net condition.items ≡ None
    bounds_known none = (none_applies (refusals_by_record (market_of file) journal.history (Bounds name v condition)) (sym none)).1.1.1.0

    -- bounds of a distribution that is decided
    pub decided_answered : (why : SpreadDecided) (found : Refusal) → None ≡ first_of (refusals_by_record (market_of file) journal.history (Bounds name v condition))
        → IsSpreadDecidedBy file.net journal.history spread why → IsRefusedFor file.net journal.history v condition.items spread (stopped.Decided why) found
        → quotes_of new_members ≡ quotes_of members
        → AreApart user journal.history members new_members
        → IsAnswered (trading file ledger journal members)
        (trading file ledger journal new_members) (Bounds name v condition) (Refused found)
    decided_answered why found none by is same are =
        answered_before file ledger journal members new_members same are.named
        (Bounds name v condition) (Refused found)
        (others_left journal.history name user is_user members new_members are.apart)
        (refused_answered (trading file ledger journal members)
        (each_owns members (users journal.history) kept.named)
        (Bounds name v condition) found tt
        (stopped_by_states (market_of file) journal.history (Bounds name v condition) found none
        (decided_first file.net file.tree journal.history v condition.items spread is_question.named why found [] by is)))

    -- where one has a quote its bounds are no refusal
    pub bounds_unrefused : (quote : SpreadQuote) → IsSpreadQuoteOf file.net file.tree journal.history user spread quote
        → None ≡ first_of (refusals_by_record (market_of file) journal.history (Bounds name v condition)) → None ≡ first_refusal (market_of file) journal.history (Bounds name v condition)
    bounds_unrefused quote its none =
        unrefused (market_of file) journal.history (Bounds name v condition) none
        (undecided file.net file.tree journal.history v condition.items spread is_question.named open_for user quote its [])

    -- ---- a spread

    module _ (to : ArrayVec ℕ) (seen : Option ℕ) (none : None ≡ first_of (refusals_by_record (market_of file) journal.history (Spread name v condition to seen))) where
      pub spread_known : unknown file.net condition.items ≡ None
      spread_known = (none_applies (refusals_by_record (market_of file) journal.history (Spread name v condition to seen)) (sym none)).1.1.1.0

      pub one_share_each : length to.items ≡ slice_index (sizes file.net) spread.variable
      one_share_each =
          as_many_shares file.net v condition.items spread to.items is_question.named
          (none_applies (refusals_by_record (market_of file) journal.history (Spread name v condition to seen)) (sym none)).1.1.1.1.1.1.1.1.1.0

      -- shares inside of its quote are no refusal
      pub spread_unrefused : (quote : SpreadQuote) → IsSpreadQuoteOf file.net file.tree journal.history user spread quote → InsideEach (intervals_of quote) to.items
          → None ≡ first_refusal (market_of file) journal.history (Spread name v condition to seen)
      spread_unrefused quote its inside =
          unrefused (market_of file) journal.history (Spread name v condition to seen) none
          (inside_first file.net file.tree journal.history v condition.items spread is_question.named open_for user quote its to.items inside)

      abbrev IsReply : Refusal → Type 0
      IsReply found = IsAnswered (trading file ledger journal members)
          (trading file ledger journal new_members) (Spread name v condition to seen)
          (Refused found)

      refused_same : (found : Refusal) → quotes_of new_members ≡ quotes_of members
          → AreApart user journal.history members new_members
          → first_of (impossible_together file.net journal.history condition.items ∷ sure_value file.net journal.history v condition.items
          ∷ impossible_share file.net journal.history v condition.items to.items ∷ missing_share file.net journal.history v condition.items to.items ∷ []) ≡ Some found → IsReply found
      refused_same found same are first =
          answered_before file ledger journal members new_members same are.named
          (Spread name v condition to seen) (Refused found)
          (others_left journal.history name user is_user members new_members are.apart)
          (spread_refused (trading file ledger journal members)
          (each_owns members (users journal.history) kept.named) name v condition to seen found
          (stopped_by_states (market_of file) journal.history (Spread name v condition to seen) found none first))

      abbrev IsTurned : Stopped → Type 0
      IsTurned why = IsTurnedDown file.net file.tree journal.history user spread (quotes_of members) (quotes_of new_members) to.items why

      -- what stops it is its reply
      pub stopped_answered : (why : Stopped) (found : Refusal) → IsTurned why → IsRefusedFor file.net journal.history v condition.items spread why found
          → AreApart user journal.history members new_members → IsReply found
      stopped_answered (stopped.Decided why) found down is are =
          refused_same found down.same_quotes are (decided_first file.net file.tree journal.history v condition.items spread is_question.named why found
          (impossible_share file.net journal.history v condition.items to.items ∷ missing_share file.net journal.history v condition.items to.items ∷ []) down.decided is)
      stopped_answered (stopped.ImpossibleShare value) found down is are =
          refused_same found down.quotes_left are
          (impossible_first file.net file.tree journal.history v condition.items spread is_question.named open_for user down.quote down.judge.its to.items value down.is_stopped
          ∙ ap (λ (w : Refusal). Some w) (sym is))
      stopped_answered stopped.MissingShare found down is are =
          refused_same found down.quotes_left are
          (missing_first file.net file.tree journal.history v condition.items spread is_question.named open_for user down.quote down.judge.its to.items (down.is_stopped.0) (down.is_stopped.1)
          ∙ ap (λ (w : Refusal). Some w) (sym is))
      stopped_answered (stopped.Outside box) found down is are =
          subst IsReply (sym is)
          (outside_answered weights_stand gains_stand plan_for file prices rows plan members new_members ledger journal payments till kept name user is_user v condition spread is_question
          down.quote down.judge.its down.quotes_left are to seen box
          (unrefused (market_of file) journal.history (Spread name v condition to seen) none
          (none_first file.net file.tree journal.history v condition.items spread is_question.named open_for user down.quote down.judge.its to.items
          down.is_stopped.no_impossible down.is_stopped.no_missing))
          down.is_stopped down.judge.last)

      -- and leaves the market kept
      pub stopped_kept : (why : Stopped) (found : Refusal) → IsTurned why → IsRefusedFor file.net journal.history v condition.items spread why found → AreBeside
          → IsKept weights_stand gains_stand plan_for file new_prices rows plan new_members ledger journal payments till
      stopped_kept (stopped.Decided why) found down is are = kept_beside are down.same_quotes
      stopped_kept (stopped.ImpossibleShare value) found down is are = kept_beside are down.quotes_left
      stopped_kept stopped.MissingShare found down is are = kept_beside are down.quotes_left
      stopped_kept (stopped.Outside box) found down is are =
          kept_quoted weights_stand gains_stand plan_for file prices new_prices rows plan members new_members ledger journal payments till kept user (LastBounds down.quote)
          (kept_quote file.net file.tree journal.history user spread down.quote down.judge.its)
          (record { names = are.names_beside; quotes = down.quotes_left; held = are.held_beside }) are.prices_beside
