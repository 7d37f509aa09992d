-- Why a question has no quote, or a spread is no trade, and the refusal that says so.
use Rattle.std.specs.Prelude.{◌≡◌, ℕ, ◌<◌, List, [], ◌∷◌, Bool, true, false, slice_index, ⊤, Some}
use Rattle.std.specs.Prelude.{None}
use Rattle.std.specs.List.{AllByRecursion}
use Rattle.mk_net.specs.declared.words.Pair.{Pair}
use Rattle.mk_net.specs.declared.words.PairText.{PairText}
use Rattle.mk_net.specs.declared.words.QuestionText.{QuestionText}
use Rattle.mk_net.specs.Asked.{Asked}
use Rattle.mk_net.specs.Events.{pairs_asked}
use Rattle.mk_net.specs.Network.{Variable, sizes}
use Rattle.mk_states.specs.Events.{holds, with_target, without_target}
use Rattle.mk_exact.specs.History.{Entry}
use Rattle.mk_states.specs.OfNetwork.{IsPairOf}
use Rattle.mk_exact.specs.Weight.{cannot_come}
use Rattle.mk_spread.specs.Spreads.{SpreadAsked, asked_of}
use Rattle.mk_spread.specs.Markets.{values_left}
use Rattle.mk_tree.specs.Given.{GivenTree, home}
use Rattle.mk_tree.specs.Held.{IsHeldAt}
use Rattle.mk_engine.specs.Meaning.{Meaning}
use Rattle.mk_beliefs.specs.Meanings.{weights_of}
use Rattle.mk_reply.specs.declared.refusal.Refusal.{Refusal}
use Rattle.mk_reply.specs.declared.refusal.Refusal.TheVariants as refusal
use Rattle.mk_rules.specs.Refusals.{pairs_of, known_pairs, question_named, spread_named, unknown, pair_with, impossible_together}
use Rattle.mk_answers.specs.Open.{IsOpen, CanBeAnswered, CanBeSpreadHere}
use Rattle.mk_asking.specs.declared.possible.Decided.{Decided}
use Rattle.mk_asking.specs.declared.possible.Decided.TheVariants.{Impossible, Never, Sure}
use Rattle.mk_asking.specs.declared.possible.SpreadDecided.{SpreadDecided}
use Rattle.mk_asking.specs.declared.possible.SpreadDecided.TheVariants as spread
use Rattle.mk_asking.specs.declared.possible.Stopped.{Stopped}
use Rattle.mk_asking.specs.declared.possible.Stopped.TheVariants as stopped
use Rattle.mk_quote.specs.Questions.{spread_in}
use Rattle.mk_record.specs.declared.requests.Request.{Request}
use Rattle.mk_record.specs.declared.requests.SpreadRequest.{SpreadRequest}
use Rattle.mk_record.specs.Refused.{CanBeResolved}

-- a question in words, all of them known, in numbers
pub record IsAskedBy (network : List Variable) (q : QuestionText) (asked : Asked) : Type 0 where
  pub named : question_named network q ≡ Some asked
  pub known : unknown network (pairs_of q) ≡ None

-- a condition in words, all of them known, in numbers
pub record IsConditionBy (network : List Variable) (words : List PairText) (pairs : List Pair) : Type 0 where
  pub known : unknown network words ≡ None
  pub named : pairs ≡ known_pairs network words

-- what decides a question
abbrev pub IsDecidedBy : List Variable → List Entry → Asked → Decided → Type 0
IsDecidedBy network H asked Impossible = cannot_come network H (holds asked.condition) ≡ true
IsDecidedBy network H asked Never = (cannot_come network H (holds asked.condition) ≡ false) × (cannot_come network H (with_target asked) ≡ true)
IsDecidedBy network H asked Sure = (cannot_come network H (with_target asked) ≡ false) × (cannot_come network H (without_target asked) ≡ true)

-- what decides a spread
abbrev pub IsSpreadDecidedBy : List Variable → List Entry → SpreadAsked → SpreadDecided → Type 0
IsSpreadDecidedBy network H asked spread.Impossible = cannot_come network H (holds asked.condition) ≡ true
IsSpreadDecidedBy network H asked (spread.Sure value) = values_left network H asked ≡ value ∷ []

-- its shares are outside of intervals
abbrev pub is_outside : Stopped → Bool
is_outside (stopped.Outside box) = true
is_outside why = false

-- the refusal for what stops a spread
abbrev pub IsRefusedFor : List Variable → List Entry → List ℕ → List PairText → SpreadAsked → Stopped → Refusal → Type 0
IsRefusedFor network H v words asked (stopped.Decided spread.Impossible) why = impossible_together network H words ≡ Some why
IsRefusedFor network H v words asked (stopped.Decided (spread.Sure value)) why = why ≡ refusal.Sure (pair_with network v asked value)
IsRefusedFor network H v words asked (stopped.ImpossibleShare value) why = why ≡ refusal.Impossible (pair_with network v asked value)
IsRefusedFor network H v words asked stopped.MissingShare why = why ≡ refusal.Range 0
IsRefusedFor network H v words asked (stopped.Outside box) why = why ≡ refusal.Outside box

-- what may stop a spread over the values of a variable
abbrev pub MayStop : List Variable → List Entry → SpreadAsked → Stopped → Type 0
MayStop network H asked (stopped.Decided why) = IsSpreadDecidedBy network H asked why
MayStop network H asked (stopped.ImpossibleShare value) = value < slice_index (sizes network) asked.variable
MayStop network H asked stopped.MissingShare = ⊤
MayStop network H asked (stopped.Outside box) = ⊤

-- the engine has the weights of a market in use, where the question can be answered in its home,
-- and is decided
pub record CanRefuse {E : Type 0} (stands_for : E → Meaning
    → Type 0) (prices : E) (q : QuestionText) (request : Request) (why : Decided) : Type 0 where
  pub network : List Variable
  pub tree : GivenTree
  pub history : List Entry
  pub stands : stands_for prices (weights_of network tree history)
  pub is_open : IsOpen network tree history
  pub asked_by : IsAskedBy network q request.question
  pub answered : CanBeAnswered network tree history request.question
  pub at_home : home tree (pairs_asked request.question) ≡ Some request.home
  pub decided : IsDecidedBy network history request.question why

-- the engine has the weights of a market in use, where a clique holds the condition, which cannot
-- come
pub record CanRefuseCondition {E : Type 0} (stands_for : E → Meaning
    → Type 0) (prices : E) (at : ℕ) (condition : List Pair) (words : List PairText) : Type 0 where
  pub network : List Variable
  pub tree : GivenTree
  pub history : List Entry
  pub stands : stands_for prices (weights_of network tree history)
  pub is_open : IsOpen network tree history
  pub condition_by : IsConditionBy network words condition
  pub in_range : AllByRecursion (IsPairOf network) condition
  pub held : IsHeldAt tree at condition
  pub cannot : cannot_come network history (holds condition) ≡ true

-- the engine has the weights of a market in use of this network, where the spread can be answered
-- in its home, and this may stop it
pub record CanRefuseSpread {E : Type 0} (stands_for : E → Meaning → Type 0) (prices : E) (network : List Variable) (v : List ℕ) (words : List PairText)
    (request : SpreadRequest) (why : Stopped) : Type 0 where
  pub tree : GivenTree
  pub history : List Entry
  pub stands : stands_for prices (weights_of network tree history)
  pub is_open : IsOpen network tree history
  pub named : spread_named network v words ≡ Some (spread_in request.question)
  pub known : unknown network words ≡ None
  pub answered : CanBeSpreadHere network tree history (spread_in request.question)
  pub at_home : home tree (pairs_asked (asked_of (spread_in request.question) 0)) ≡ Some
      request.home
  pub may_stop : MayStop network history (spread_in request.question) why

-- the engine has the weights of a market in use of this network, where the pair has this home, and
-- its variable is not resolved
pub record CanAskOfPair {E : Type 0} (stands_for : E → Meaning
    → Type 0) (prices : E) (network : List Variable) (at : ℕ) (pair : Pair) : Type 0 where
  pub tree : GivenTree
  pub history : List Entry
  pub stands : stands_for prices (weights_of network tree history)
  pub is_open : IsOpen network tree history
  pub at_home : home tree (pair ∷ []) ≡ Some at
  pub resolvable : CanBeResolved network history pair
