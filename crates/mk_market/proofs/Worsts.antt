-- What users are worth at least.
use Rattle.std.specs.Prelude.{◌≡◌, ℕ, ◌≤◌, List, length, map, Option, Some, None, option_map, slice_get, IsSomeAnd}
use Rattle.std.proofs.Common.{refl, sym, ap, ◌∙◌, subst}
use Rattle.mk_net.specs.Network.{Variable}
use Rattle.mk_states.specs.Events.{always}
use Rattle.mk_net.specs.Bounds.{sharpness, grade_room}
use Rattle.mk_exact.specs.History.{Entry, trades}
use Rattle.mk_exact.specs.Weight.{IsSmall}
use Rattle.mk_exact.specs.Factors.{Fraction, HoldsNoTrade, IsAtLeastOne, factor_with, least_gain}
use Rattle.mk_exact.specs.Cash.{CoversCash}
use Rattle.mk_exact.specs.Existing.{HasLeast}
use Rattle.mk_exact.specs.Sound.{IsSound}
use Rattle.mk_exact.proofs.ExistMarkets.{least_gain_exists}
use Rattle.mk_tree.specs.Given.{GivenTree}
use Rattle.mk_file.specs.declared.market_file.MarketFile.{MarketFile}
use Rattle.mk_file.specs.MarketOf.{market_of}
use Rattle.mk_engine.specs.Meaning.{Meaning}
use Rattle.mk_enclose.specs.declared.factor.Factor.{Factor}
use Rattle.mk_enclose.specs.Enclosure.{Encloses, IsExact, IsGradedWithin}
use Rattle.mk_enclose.specs.Factor.{StandsFor}
use Rattle.mk_assets.specs.declared.assets.Assets.{Assets}
use Rattle.mk_assets.specs.Holdings.{Owns}
use Rattle.mk_cash.specs.Accounts.{LedgerOf}
use Rattle.mk_record.specs.declared.last_quote.LastQuote.{LastQuote}
use Rattle.mk_command.specs.declared.command.Command.TheVariants.{Worst}
use Rattle.mk_reply.specs.declared.payments.Payment.{Payment}
use Rattle.mk_reply.specs.declared.reply.Reply.TheVariants.{Worst as Worsted}
use Rattle.mk_rules.specs.Refusals.{first_refusal}
use Rattle.mk_rules.specs.Answers.{IsWorst}
use Rattle.mk_rules.specs.Transcript.{OfCommand, IsAllowedFor, after}
use Rattle.mk_answers.specs.Open.{IsOpen, IsFactorFor, holding_of}
use Rattle.mk_answers.specs.Calls.{CanFindWorst}
use Rattle.mk_record.specs.declared.users.Member.{Member}
use Rattle.mk_record.specs.Journals.{JournalOf}
use Rattle.mk_record.specs.Members.{assets_of, with_assets}
use Rattle.mk_record.specs.Refused.{IsUser}
use Rattle.mk_market.specs.inner.Keeping.{quoted, standing_of, IsKept}
use Rattle.mk_asking.specs.Quoting.{OwnsAt}
use Rattle.mk_market.proofs.Growing.{is_open}
use Rattle.mk_answers.proofs.Told.{cash_for}
use Rattle.mk_asking.proofs.Owned.{quotes_same}
use Rattle.mk_market.proofs.Replies.{answer_allowed, none_appended}
use Rattle.mk_replay.specs.Tills.{TillOf}

module _ {P A Plan : Type 0} (weights_stand : P → Meaning → Type 0) (gains_stand : A → Meaning → Type 0) (plan_for : Plan → List Variable → GivenTree → Type 0)
    (file : MarketFile) (prices : P) (rows : A) (plan : Plan) (members : List (Member A Plan)) (ledger : LedgerOf) (journal : JournalOf) (payments : Option (List Payment)) (till : Option TillOf)
    (kept : IsKept weights_stand gains_stand plan_for file prices rows plan members ledger journal payments till) where
  opened : IsOpen file.net file.tree journal.history
  opened = is_open weights_stand gains_stand plan_for file prices rows plan members ledger journal payments till kept

  -- a user
  module _ (name : List ℕ) (user : ℕ) (is_user : IsUser journal.history name user) (before now : Assets A Plan) (there : slice_get (assets_of members) user ≡ Some before) where
    pub can_find : OwnsAt gains_stand members user (holding_of file.net file.tree journal.history user) → CanFindWorst gains_stand before
    can_find learnt = record {
      network = file.net;
      tree = file.tree;
      history = journal.history;
      user = user;
      owns = learnt before there;
      is_open = opened;
    }

    has_least : HasLeast file.net journal.history user
    has_least = least_gain_exists file.net journal.history user kept.legal kept.safe.proper

    pub worst_allowed : OwnsAt gains_stand members user (holding_of file.net file.tree journal.history user) → (factor : Factor) (low high : ℕ) → IsSound file.net journal.history → None ≡ first_refusal (market_of file) journal.history (Worst name)
        → ((network : List Variable) (tree : GivenTree) (H : List Entry) (most_trades u g : ℕ) → Owns gains_stand before (holding_of network tree H u) → IsOpen network tree H
        → length (trades H) ≤ most_trades → least_gain network H u always ≡ Some g
        → IsFactorFor factor most_trades (IsSmall network H) (factor_with H u g))
        → ((network : List Variable) (tree : GivenTree) (H : List Entry) (u : ℕ)
        → Owns gains_stand before (holding_of network tree H u) → IsOpen network tree H
        → HoldsNoTrade H u → Encloses factor.gain 1)
        → ((q : Fraction) (most_trades : ℕ) → StandsFor factor q.num q.den
        → IsGradedWithin factor.gain (grade_room most_trades) → IsAtLeastOne q
        → CoversCash (IsExact factor.gain) (Encloses factor.gain 1) (sharpness most_trades) q file.points_per_bit low high)
        → IsAllowedFor (market_of file) (standing_of journal members) (OfCommand (Worst name)) (Worsted low high)
    worst_allowed learnt factor low high sound none found one_gain covers =
        let least = has_least in let H = journal.history in
        let is = found file.net file.tree H file.max_trades user least.least (learnt before there) opened kept.safe.bounded.few_trades least.is_least in
        let q = factor_with H user least.least in
        let worst : IsWorst (IsSmall file.net H) (HoldsNoTrade H user) (sharpness file.max_trades) q file.points_per_bit
        (Worsted low high)
        = record {
          low = low;
          high = high;
          printed = refl;
          covers = cash_for (IsSmall file.net H) (HoldsNoTrade H user) (IsExact factor.gain)
              (Encloses factor.gain 1) (sharpness file.max_trades) q file.points_per_bit low high
              is.exact (one_gain file.net file.tree H user (learnt before there) opened)
              (covers q file.max_trades is.stands is.graded (least.safe sound).at_least_one);
        } in
        answer_allowed (market_of file) (standing_of journal members) (Worst name) (Worsted low high) none
        (subst (λ (n : ℕ). IsSomeAnd (least_gain file.net H n always)
        (λ g. IsWorst (IsSmall file.net H) (HoldsNoTrade H n) (sharpness file.max_trades) (factor_with H n g)
        file.points_per_bit (Worsted low high))) is_user.number
        (subst (λ (o : Option ℕ). IsSomeAnd o (λ g. IsWorst (IsSmall file.net H)
        (HoldsNoTrade H user) (sharpness file.max_trades) (factor_with H user g) file.points_per_bit (Worsted low high)))
        (sym least.is_least) worst))

    pub worst_next : (low high : ℕ) → standing_of journal (with_assets members user now) ≡ after (market_of file) (standing_of journal members) (OfCommand (Worst name)) (Worsted low high)
    worst_next low high =
        ap (λ (qs : List (Option LastQuote)). record { history = journal.history; quotes = map (option_map quoted) qs }) (quotes_same members user before now there)
        ∙ none_appended (market_of file) (standing_of journal members) (Worst name) (Worsted low high) refl refl
