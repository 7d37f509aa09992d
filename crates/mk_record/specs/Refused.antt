-- What a call refuses, and what one that is not refused found.
use Rattle.std.specs.List.{count_by}
use Rattle.std.specs.Prelude.{◌≡◌, ℕ, ◌<◌, ◌≤◌, List, length, true, false, Option, Some, None, Result, Ok, Err}
use Rattle.mk_net.specs.declared.words.PairText.{PairText}
use Rattle.mk_net.specs.declared.words.QuestionText.{QuestionText}
use Rattle.mk_net.specs.declared.words.Pair.{Pair}
use Rattle.mk_net.specs.Bounds.{max_transfer_bits, million}
use Rattle.mk_net.specs.Network.{Variable}
use Rattle.mk_net.specs.Asked.{Asked}
use Rattle.mk_exact.specs.History.{Entry, users, trades, is_transfer, is_settled}
use Rattle.mk_states.specs.OfNetwork.{IsPairOf}
use Rattle.mk_exact.specs.Market.{Market}
use Rattle.mk_spread.specs.Spreads.{SpreadAsked}
use Rattle.mk_tree.specs.Given.{GivenTree}
use Rattle.mk_reply.specs.declared.refusal.Refusal.{Refusal}
use Rattle.mk_rules.specs.Refusals.{question_named, spread_named, user_number, has_joined, is_resolved}
use Rattle.mk_record.specs.Journals.{JournalOf}
use Rattle.mk_answers.specs.Open.{CanBeAnswered, CanBeSpreadHere}

-- what a call refuses for
abbrev pub refusal_in : {T : Type 0} → Result T Refusal → Option Refusal
refusal_in (Ok x) = None
refusal_in (Err why) = Some why

-- a user by name and number
pub record IsUser (H : List Entry) (name : List ℕ) (u : ℕ) : Type 0 where
  pub joined : has_joined H name ≡ true
  pub number : u ≡ user_number H name
  pub within : u < length (users H)

-- a question in words is this one in numbers, and can be answered
pub record IsQuestionFor (market : Market) (tree : GivenTree) (H : List Entry) (q : QuestionText) (asked : Asked) : Type 0 where
  pub named : question_named market.network q ≡ Some asked
  pub answered : CanBeAnswered market.network tree H asked

-- so is a question about every value of a variable
pub record IsSpreadQuestionFor (market : Market) (tree : GivenTree) (H : List Entry) (v : List ℕ) (condition : List PairText) (spread : SpreadAsked) : Type 0 where
  pub named : spread_named market.network v condition ≡ Some spread
  pub answered : CanBeSpreadHere market.network tree H spread

-- nobody has the name, and a user more may join
pub record HasRoomForUser (journal : JournalOf) (name : List ℕ) : Type 0 where
  pub new : has_joined journal.history name ≡ false
  pub few : length (users journal.history) < journal.max_users

-- bits that may be paid in or taken out at once, and one transfer more may be made
pub record HasRoomForTransfer (journal : JournalOf) (bits : ℕ) : Type 0 where
  pub some : 1 ≤ bits
  pub most : bits ≤ max_transfer_bits
  pub few : count_by is_transfer journal.history < journal.max_transfers

-- a share between nothing and all, and one trade more may be made
pub record CanBeTraded (journal : JournalOf) (to : ℕ) : Type 0 where
  pub some : 1 ≤ to
  pub most : to < million
  pub few : length (trades journal.history) < journal.max_trades

-- a pair of the network whose variable is not resolved
pub record CanBeResolved (network : List Variable) (H : List Entry) (pair : Pair) : Type 0 where
  pub in_range : IsPairOf network pair
  pub unresolved : is_resolved H pair.variable ≡ false

-- each variable of the network is resolved, and the market is not settled
pub record CanBeSettled (network : List Variable) (H : List Entry) : Type 0 where
  pub resolved : (v : ℕ) → v < length network → is_resolved H v ≡ true
  pub unsettled : is_settled H ≡ false
