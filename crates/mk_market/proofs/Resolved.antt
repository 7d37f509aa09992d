-- A variable is resolved.
use Rattle.std.specs.Prelude.{◌≡◌, ℕ, ◌+◌, ◌<◌, List, [], ◌∷◌, ◌++◌, map, length, Option, Some}
use Rattle.std.specs.Prelude.{None, option_map, option_to_list, is_some}
use Rattle.std.proofs.Common.{Bool, true, false, not, cond, refl, sym, ap, ap₂, ◌∙◌, subst, arith, add-zero}
use Rattle.std.specs.List.{cons_option}
use Rattle.std.proofs.lemmas.List.{length_push}
use Rattle.mk_net.specs.declared.words.Pair.{Pair}
use Rattle.mk_net.specs.declared.words.PairText.{PairText}
use Rattle.mk_net.specs.Bounds.{max_variables}
use Rattle.mk_net.specs.Firsts.{first_of}
use Rattle.mk_net.specs.Named.{pair_named}
use Rattle.mk_net.specs.Network.{Variable}
use Rattle.mk_states.specs.Events.{has, holds}
use Rattle.mk_exact.specs.Weight.{cannot_come}
use Rattle.mk_exact.specs.History.{Entry, Resolve as Resolves, join_in, resolutions, deposited, withdrawn, revision, is_settlement}
use Rattle.mk_exact.specs.Proper.{IsProper}
use Rattle.mk_exact.proofs.After.{resolutions_more}
use Rattle.mk_tree.specs.Given.{GivenTree, home}
use Rattle.mk_tree.proofs.Held.{pair_has_home}
use Rattle.mk_file.specs.declared.market_file.MarketFile.{MarketFile}
use Rattle.mk_file.specs.MarketOf.{market_of}
use Rattle.mk_engine.specs.Meaning.{Meaning, with_known}
use Rattle.mk_beliefs.specs.Meanings.{weights_of, gains_of}
use Rattle.mk_assets.specs.Holdings.{Holding, Holds}
use Rattle.mk_assets.proofs.Learning.{held_further}
use Rattle.mk_cash.specs.Accounts.{LedgerOf}
use Rattle.mk_command.specs.declared.command.Command.TheVariants.{Resolve}
use Rattle.mk_reply.specs.declared.payments.Payment.{Payment}
use Rattle.mk_reply.specs.declared.refusal.Refusal.TheVariants.{Impossible}
use Rattle.mk_reply.specs.declared.reply.Reply.{Reply}
use Rattle.mk_reply.specs.declared.reply.Reply.TheVariants.{Resolved, Refused}
use Rattle.mk_rules.specs.Refusals.{first_refusal, refusals_by_record, refusals_by_states}
use Rattle.mk_rules.specs.Transcript.{OfCommand, IsAllowedFor, after}
use Rattle.mk_restore.specs.Restoring.{IsFit}
use Rattle.mk_rules.proofs.Revisions.{few_resolutions}
use Rattle.mk_answers.specs.Open.{IsOpen, holding_of}
use Rattle.mk_record.specs.declared.users.Member.{Member}
use Rattle.mk_record.specs.Journals.{JournalOf}
use Rattle.mk_record.specs.Members.{quotes_of}
use Rattle.mk_record.specs.Refused.{CanBeResolved}
use Rattle.mk_asking.specs.Keeping.{TakesAsMuch}
use Rattle.mk_market.specs.inner.Keeping.{quoted, standing_of, IsKept}
use Rattle.mk_asking.specs.Stopped.{CanAskOfPair}
use Rattle.mk_market.proofs.Accounted.{accounts_kept}
use Rattle.mk_record.proofs.Appends.{not_there, not_found}
use Rattle.mk_market.proofs.Growing.{is_open, fit_stays_safe, kept_grown, kept_still}
use Rattle.mk_asking.proofs.Owned.{holding_grows}
use Rattle.mk_market.proofs.Replies.{stopped_by_states, unrefused, refusal_allowed, answer_allowed, unsettled}
use Rattle.mk_asking.proofs.Resolvable.{of_one}
use Rattle.mk_replay.specs.Tills.{TillOf}

-- what users hold then
told_holding : (network : List Variable) (tree : GivenTree) (H : List Entry) (pair : Pair) (u : ℕ)
    → holding_of network tree (H ++ Resolves pair ∷ []) u ≡ record { meaning = with_known pair (gains_of network tree H u); deposited = deposited H u; withdrawn = withdrawn H u }
told_holding network tree H pair u =
    holding_grows network tree H (Resolves pair) u
    ∙ ap₂ (λ (d w : ℕ). record { meaning = with_known pair (gains_of network tree H u); deposited = d; withdrawn = w }) (add-zero (deposited H u)) (add-zero (withdrawn H u))

turned : (a b : Bool) → not a ≡ b → a ≡ not b
turned true b e = ap not e
turned false b e = ap not e

module _ {P A Plan : Type 0} (weights_stand : P → Meaning → Type 0) (gains_stand : A → Meaning → Type 0) (plan_for : Plan → List Variable → GivenTree → Type 0)
    (file : MarketFile) (prices : P) (rows : A) (plan : Plan) (members : List (Member A Plan)) (ledger : LedgerOf) (journal : JournalOf) (payments : Option (List Payment)) (till : Option TillOf)
    (kept : IsKept weights_stand gains_stand plan_for file prices rows plan members ledger journal payments till)
    (words : PairText) (pair : Pair) (named : pair_named file.net words ≡ Some pair) (can : CanBeResolved file.net journal.history pair) where
  opened : IsOpen file.net file.tree journal.history
  opened = is_open weights_stand gains_stand plan_for file prices rows plan members ledger journal payments till kept

  pub has_home : is_some (home file.tree (pair ∷ [])) ≡ true
  has_home = pair_has_home file.net file.tree pair
      (kept.tree.covers pair.variable can.in_range.variable)

  module _ (place : ℕ) (at_home : home file.tree (pair ∷ []) ≡ Some place) where
    -- it can be asked whether the pair can come
    pub can_ask : CanAskOfPair weights_stand prices file.net place pair
    can_ask = record {
      tree = file.tree;
      history = journal.history;
      stands = kept.prices_stand;
      is_open = opened;
      at_home = at_home;
      resolvable = can;
    }

  -- what it is refused for where nothing in the record refuses it
  by_one_pair : (b : Bool) → cannot_come file.net journal.history (has pair) ≡ b
      → first_of (refusals_by_states (market_of file) journal.history (Resolve words)) ≡ cond b (Some (Impossible words)) None
  by_one_pair b e =
      ap (λ (o : Option Pair). first_of (cond (cannot_come file.net journal.history (holds (cons_option o []))) (Some (Impossible words)) None ∷ [])) named
      ∙ ap (λ (c : Bool). first_of (cond c (Some (Impossible words)) None ∷ [])) (of_one file.net journal.history pair ∙ e) ∙ alone b
    where
      alone : (b : Bool) → first_of (cond b (Some (Impossible words)) None ∷ []) ≡ cond b (Some (Impossible words)) None
      alone true = refl
      alone false = refl

  module _ (by_record : None ≡ first_of (refusals_by_record (market_of file) journal.history (Resolve words))) (comes : Bool)
      (found : (tree : GivenTree) (H : List Entry) → weights_stand prices (weights_of file.net tree H) → IsOpen file.net tree H → CanBeResolved file.net H pair
      → comes ≡ not (cannot_come file.net H (has pair))) where
    is_found : comes ≡ not (cannot_come file.net journal.history (has pair))
    is_found = found file.tree journal.history kept.prices_stand opened can

    -- where no possible state has the pair it is refused, and else it is not
    pub never_refused : comes ≡ false → Some (Impossible words) ≡ first_refusal (market_of file) journal.history (Resolve words)
    never_refused e = stopped_by_states (market_of file) journal.history (Resolve words) (Impossible words) by_record
        (by_one_pair true (turned (cannot_come file.net journal.history (has pair)) false (sym is_found ∙ e)))

    pub unrefused_where : comes ≡ true → None ≡ first_refusal (market_of file) journal.history (Resolve words)
    unrefused_where e = unrefused (market_of file) journal.history (Resolve words) by_record
        (by_one_pair false (turned (cannot_come file.net journal.history (has pair)) true (sym is_found ∙ e)))

    pub never_answered : comes ≡ false → IsAllowedFor (market_of file) (standing_of journal members) (OfCommand (Resolve words)) (Refused (Impossible words))
    never_answered e = refusal_allowed (market_of file) (standing_of journal members) (Resolve words) (Impossible words) (never_refused e)

  -- the engine of prices may have been asked
  pub asked_kept : (new_prices : P) → ((m : Meaning) → weights_stand prices m → weights_stand new_prices m)
      → IsKept weights_stand gains_stand plan_for file new_prices rows plan members ledger journal payments till
  asked_kept new_prices still = kept_still weights_stand gains_stand plan_for file prices new_prices rows plan members members ledger journal payments till kept
      (record { prices_still = still; names_still = refl; quotes_still = refl; held_still = λ u assets at. (assets, at, λ (h : Holding) held. held) })

  module _ (none : None ≡ first_refusal (market_of file) journal.history (Resolve words)) where
    reply : Reply
    reply = Resolved words (revision journal.history + 1)

    allowed : IsAllowedFor (market_of file) (standing_of journal members) (OfCommand (Resolve words)) reply
    unfolding reply
    allowed = answer_allowed (market_of file) (standing_of journal members) (Resolve words) (Resolved words (revision journal.history + 1)) none refl

    fit : IsFit (market_of file) journal.history (Resolve words) reply
    unfolding reply
    fit = record { unrefused = sym none; agrees = refl }

    longer : (after (market_of file) (standing_of journal members) (OfCommand (Resolve words)) reply).history ≡ journal.history ++ Resolves pair ∷ []
    unfolding reply
    longer = ap (λ (o : Option Pair). journal.history ++ option_to_list (option_map Resolves o)) named

    pub few_known : length (resolutions journal.history) < max_variables
    unfolding reply
    few_known =
        let safe = fit_stays_safe (market_of file) journal.history (Resolve words) reply
        tt tt tt kept.safe fit in
        let proper : IsProper file.net (journal.history ++ Resolves pair ∷ []) = subst (λ (H : List Entry). IsProper file.net H) longer safe.proper in
        let few = few_resolutions file.net (journal.history ++ Resolves pair ∷ []) proper in
        let more = ap (λ (ps : List Pair). length ps) (resolutions_more journal.history pair) in
        omega (arith, few, more, length_push (resolutions journal.history) pair, kept.legal.few)

    pub resolution_allowed : (new_journal : JournalOf) → new_journal.history ≡ journal.history ++ Resolves pair ∷ [] → (at : ℕ) → at ≡ revision new_journal.history
        → IsAllowedFor (market_of file) (standing_of journal members) (OfCommand (Resolve words)) (Resolved words at)
    unfolding reply
    resolution_allowed new_journal history at e =
        let next : at ≡ revision journal.history + 1 = e ∙ ap (λ (H : List Entry). length H) history ∙ length_push journal.history (Resolves pair) in
        subst (λ (n : ℕ). IsAllowedFor (market_of file) (standing_of journal members) (OfCommand (Resolve words)) (Resolved words n)) (sym next) allowed

    pub resolution_next : (new_journal : JournalOf) → new_journal.history ≡ journal.history ++ Resolves pair ∷ [] → (at : ℕ)
        → standing_of new_journal members ≡ after (market_of file) (standing_of journal members) (OfCommand (Resolve words)) (Resolved words at)
    unfolding reply
    resolution_next new_journal history at = ap (λ (H : List Entry). record { history = H; quotes = map (option_map quoted) (quotes_of members) }) (history ∙ sym longer)

    -- the market is kept, and its users stay as they are: the pair is one more that their assets have not learnt
    pub resolution_kept : (new_prices : P) (new_rows : A) (new_journal : JournalOf)
        → new_journal.history ≡ journal.history ++ Resolves pair ∷ [] → TakesAsMuch journal new_journal
        → ((m : Meaning) → weights_stand prices m → weights_stand new_prices (with_known pair m))
        → ((m : Meaning) → gains_stand rows m → gains_stand new_rows (with_known pair m))
        → IsKept weights_stand gains_stand plan_for file new_prices new_rows plan members ledger new_journal payments till
    unfolding reply
    resolution_kept new_prices new_rows new_journal history limits known known_rows =
        let H = journal.history in
        kept_grown weights_stand gains_stand plan_for file prices new_prices rows new_rows plan members members ledger ledger journal new_journal payments payments till till
        (Resolves pair) (Resolve words) reply tt tt tt kept fit
        (resolution_next new_journal history (revision journal.history + 1))
        (record {
          history = history;
          limits = limits;
          prices_grown = known;
          rows_grown = known_rows;
          names = kept.named ∙ sym (not_found H (Resolves pair) join_in refl);
          held = λ u assets at. subst (Holds gains_stand assets) (sym (told_holding file.net file.tree H pair u))
              (held_further gains_stand assets (holding_of file.net file.tree H u) pair (kept.held u assets at));
          none_quoted = λ u quote at. at;
          accounts = accounts_kept (market_of file) H (unsettled (market_of file) H (Resolve words) none) (Resolves pair) ledger.accounts refl refl (λ u. (refl, refl)) kept.accounts_kept;
          ledger_room = kept.ledger_room;
          room = λ unsettled. kept.room (sym (not_there H (Resolves pair) is_settlement refl) ∙ unsettled);
          till_room = λ unsettled. kept.till_room (sym (not_there H (Resolves pair) is_settlement refl) ∙ unsettled);
        })
