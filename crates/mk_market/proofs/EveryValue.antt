-- What a market tells of every value of a variable, and of itself.
use Rattle.std.specs.Prelude.{◌≡◌, ℕ, List, [], ◌∷◌, map, true}
use Rattle.std.specs.Prelude.{false, Option, Some, None, option_map, slice_get, IsSomeAnd}
use Rattle.std.proofs.Common.{refl, sym, ap, ◌∙◌, subst}
use Rattle.arrayvec.specs.ArrayVec.{ArrayVec}
use Rattle.mk_net.specs.declared.words.PairText.{PairText}
use Rattle.mk_net.specs.Firsts.{first_of}
use Rattle.mk_net.specs.Network.{Variable}
use Rattle.mk_states.specs.Events.{holds}
use Rattle.mk_exact.specs.History.{Entry}
use Rattle.mk_exact.specs.Sound.{IsSound}
use Rattle.mk_exact.specs.Weight.{cannot_come}
use Rattle.mk_spread.specs.Spreads.{SpreadAsked}
use Rattle.mk_spread.specs.Told.{ArePricesOf, IsPositionOf}
use Rattle.mk_spread.specs.Spreads.{asked_of}
use Rattle.mk_tree.specs.Given.{GivenTree, home}
use Rattle.mk_tree.proofs.Held.{home_is_held}
use Rattle.mk_net.specs.Events.{pairs_asked}
use Rattle.mk_engine.specs.Meaning.{Meaning}
use Rattle.mk_beliefs.specs.Meanings.{weights_of}
use Rattle.mk_answers.specs.Open.{IsOpen, CanBeSpreadHere}
use Rattle.mk_answers.proofs.Homes.{condition_is_held}
use Rattle.mk_asking.specs.Stopped.{CanRefuseCondition, IsConditionBy}
use Rattle.mk_file.specs.declared.market_file.MarketFile.{MarketFile}
use Rattle.mk_file.specs.MarketOf.{market_of}
use Rattle.mk_command.specs.declared.command.Command.TheVariants.{Prices, Position}
use Rattle.mk_reply.specs.declared.refusal.Refusal.{Refusal}
use Rattle.mk_reply.specs.declared.reply.Reply.TheVariants.{Refused, Prices as Told}
use Rattle.mk_reply.specs.declared.reply.Reply.TheVariants.{Position as Sure}
use Rattle.mk_rules.specs.Refusals.{spread_named, unknown, user_number}
use Rattle.mk_rules.specs.Refusals.{refusals_by_record, impossible_together}
use Rattle.mk_rules.specs.Told.{ArePrices, IsPosition}
use Rattle.mk_rules.specs.Transcript.{Standing, OfCommand, IsAllowedFor}
use Rattle.mk_rules.proofs.Spreads.{spread_parts}
use Rattle.mk_assets.specs.declared.assets.Assets.{Assets}
use Rattle.mk_record.specs.declared.last_quote.LastQuote.{LastQuote}
use Rattle.mk_record.specs.declared.users.Member.{Member}
use Rattle.mk_record.specs.Journals.{JournalOf}
use Rattle.mk_record.specs.Members.{assets_of, with_assets}
use Rattle.mk_record.specs.Refused.{IsUser, IsSpreadQuestionFor}
use Rattle.mk_market.specs.inner.Keeping.{quoted, standing_of}
use Rattle.mk_asking.proofs.Owned.{quotes_same}
use Rattle.mk_market.proofs.Replies.{answer_allowed, refusal_allowed, stopped_by_states, unrefused}
use Rattle.mk_asking.proofs.Together.{none_together}

-- ---- a condition that cannot come

pub can_refuse_told : {E : Type 0} (stands_for : E → Meaning → Type 0) (prices : E)
    (network : List Variable) (tree : GivenTree) (H : List Entry) →
    stands_for prices (weights_of network tree H) → IsOpen network tree H →
    (words : List PairText) (spread : SpreadAsked) →
    IsConditionBy network words spread.condition →
    CanBeSpreadHere network tree H spread →
    (at : ℕ) → home tree (pairs_asked (asked_of spread 0)) ≡ Some at →
    cannot_come network H (holds spread.condition) ≡ true →
    CanRefuseCondition stands_for prices at spread.condition words
can_refuse_told stands_for prices network tree H stands open_for words spread by answered
    at at_home cannot = record {
      network = network;
      tree = tree;
      history = H;
      stands = stands;
      is_open = open_for;
      condition_by = by;
      in_range = answered.in_order.in_range.condition;
      held = condition_is_held tree at (asked_of spread 0) spread.condition refl
          (home_is_held tree at _ at_home);
      cannot = cannot;
    }

-- words that are known are those of the condition
pub condition_by : (network : List Variable) (v : List ℕ) (words items : List PairText)
    (spread : SpreadAsked) → spread_named network v words ≡ Some spread → words ≡ items
    → unknown network items ≡ None → IsConditionBy network words spread.condition
condition_by network v words items spread named same known = record {
  known = ap (unknown network) same ∙ known;
  named = (spread_parts network v words spread named).2;
}

-- ---- answers

module _ (file : MarketFile) (now : Standing) (v : List ℕ) (condition : ArrayVec PairText)
    (spread : SpreadAsked)
    (question : IsSpreadQuestionFor (market_of file) file.tree now.history v condition.items spread)
  where
    together : cannot_come file.net now.history (holds spread.condition) ≡ false →
        impossible_together file.net now.history condition.items ≡ None
    together comes =
        none_together file.net now.history condition.items spread.condition
        (spread_parts file.net v condition.items spread question.named).2 comes

    pub prices_allowed : (intervals : ArrayVec (ℕ × ℕ)) →
        None ≡ first_of (refusals_by_record (market_of file) now.history (Prices v condition)) →
        (cannot_come file.net now.history (holds spread.condition) ≡ false)
        × ArePricesOf file.net now.history file.max_trades spread intervals.items →
        IsAllowedFor (market_of file) now (OfCommand (Prices v condition)) (Told intervals)
    prices_allowed intervals none found =
        let told : ArePrices file.net now.history file.max_trades spread (Told intervals) =
        record { intervals = intervals; printed = refl; covers = found.1 } in
        answer_allowed (market_of file) now (Prices v condition) (Told intervals)
        (unrefused (market_of file) now.history (Prices v condition) none
        (ap (λ (o : Option Refusal). first_of (o ∷ [])) (together found.0)))
        (subst (λ (o : Option SpreadAsked). IsSomeAnd o
        (λ spread. ArePrices file.net now.history file.max_trades spread (Told intervals))) (sym question.named)
        told)

    pub position_allowed : (name : List ℕ) (user : ℕ) → IsUser now.history name user →
        (intervals : ArrayVec (Option (ℕ × ℕ))) →
        None ≡ first_of (refusals_by_record (market_of file) now.history (Position name v condition))
        →
        (cannot_come file.net now.history (holds spread.condition) ≡ false)
        × (IsSound file.net now.history →
        IsPositionOf file.net now.history file.max_trades user file.points_per_bit spread
        intervals.items) →
        IsSound file.net now.history →
        IsAllowedFor (market_of file) now (OfCommand (Position name v condition)) (Sure intervals)
    position_allowed name user is_user intervals none found sound =
        let sure : IsPosition file.net now.history file.max_trades user file.points_per_bit spread
        (Sure intervals) =
        record { intervals = intervals; printed = refl; covers = found.1 sound } in
        answer_allowed (market_of file) now (Position name v condition) (Sure intervals)
        (unrefused (market_of file) now.history (Position name v condition) none
        (ap (λ (o : Option Refusal). first_of (o ∷ [])) (together found.0)))
        (subst (λ (o : Option SpreadAsked). IsSomeAnd o
        (λ spread. IsPosition file.net now.history file.max_trades (user_number now.history name)
        file.points_per_bit spread (Sure intervals))) (sym question.named)
        (subst (λ (n : ℕ). IsPosition file.net now.history file.max_trades n file.points_per_bit spread
        (Sure intervals)) is_user.number sure))

    only : (o : Option Refusal) (why : Refusal) → o ≡ Some why → first_of (o ∷ []) ≡ Some why
    only o why e = ap (λ (p : Option Refusal). first_of (p ∷ [])) e

    pub prices_stopped : (why : Refusal) →
        None ≡ first_of (refusals_by_record (market_of file) now.history (Prices v condition)) →
        impossible_together file.net now.history condition.items ≡ Some why →
        IsAllowedFor (market_of file) now (OfCommand (Prices v condition)) (Refused why)
    prices_stopped why none e =
        refusal_allowed (market_of file) now (Prices v condition) why
        (stopped_by_states (market_of file) now.history (Prices v condition) why none (only _ why e))

    pub position_stopped : (name : List ℕ) (why : Refusal) →
        None ≡ first_of (refusals_by_record (market_of file) now.history (Position name v condition))
        →
        impossible_together file.net now.history condition.items ≡ Some why →
        IsAllowedFor (market_of file) now (OfCommand (Position name v condition)) (Refused why)
    position_stopped name why none e =
        refusal_allowed (market_of file) now (Position name v condition) why
        (stopped_by_states (market_of file) now.history (Position name v condition) why none
        (only _ why e))

-- ---- a user's assets were asked

pub same_standing : {A Plan : Type 0} (journal : JournalOf) (members : List (Member A Plan))
    (user : ℕ)
    (before now : Assets A Plan) → slice_get (assets_of members) user ≡ Some before →
    standing_of journal (with_assets members user now) ≡ standing_of journal members
same_standing journal members user before now there =
    ap (λ (qs : List (Option LastQuote)). record
    { history = journal.history; quotes = map (option_map quoted) qs })
    (quotes_same members user before now there)
