-- What is found anew of the sides of a question, or of each value of a variable.
use Rattle.std.specs.Prelude.{◌≡◌, ℕ, ◌<◌, ◌≤◌, List, length, true, false, Option, Some, None}
use Rattle.std.specs.Prelude.{Result, Ok, Err, IsErrAnd}
use Rattle.mk_net.specs.declared.words.PairText.{PairText}
use Rattle.mk_net.specs.declared.words.QuestionText.{QuestionText}
use Rattle.mk_net.specs.Asked.{Asked}
use Rattle.mk_net.specs.Events.{pairs_asked}
use Rattle.mk_net.specs.Network.{Variable}
use Rattle.mk_exact.specs.History.{Entry}
use Rattle.mk_exact.specs.Limits.{Side}
use Rattle.mk_exact.specs.Weight.{IsSmall}
use Rattle.mk_spread.specs.Spreads.{SpreadAsked, asked_of}
use Rattle.mk_spread.specs.Markets.{AreValueSides, values_left}
use Rattle.mk_tree.specs.Given.{GivenTree, home}
use Rattle.mk_engine.specs.Meaning.{Meaning}
use Rattle.mk_beliefs.specs.Meanings.{weights_of}
use Rattle.mk_file.specs.declared.market_file.MarketFile.{MarketFile}
use Rattle.mk_file.specs.MarketOf.{market_of}
use Rattle.mk_command.specs.declared.command.Command.{Command}
use Rattle.mk_command.specs.declared.command.Command.TheVariants.{Limits, Edit}
use Rattle.mk_quote.specs.declared.bounds.Bounds.{Bounds}
use Rattle.mk_quote.specs.declared.spread_quote.SpreadQuote.{SpreadQuote}
use Rattle.mk_quote.specs.declared.values.SpreadBounds.{SpreadBounds}
use Rattle.mk_quote.specs.Questions.{spread_in}
use Rattle.mk_quote.specs.Spreads.{sides_of}
use Rattle.mk_quote.specs.Values.{sides_in, impossible_share_in, misses_share_in}
use Rattle.mk_answers.specs.declared.edit.Sides.{Sides}
use Rattle.mk_answers.specs.declared.edit.Sides.TheVariants as both
use Rattle.mk_answers.specs.declared.spread.SpreadSides.{SpreadSides}
use Rattle.mk_answers.specs.declared.spread.SpreadSides.TheVariants as each
use Rattle.mk_answers.specs.Evidence.{AreBoundsOfBoth, AreSpreadSidesBounded}
use Rattle.mk_answers.specs.Open.{IsOpen, CanBeAnswered, CanBeSpreadHere, AreSideBoundsFor}
use Rattle.mk_answers.specs.Results.{AreBothLeft}
use Rattle.mk_reply.specs.declared.refusal.Refusal.{Refusal}
use Rattle.mk_record.specs.declared.requests.Request.{Request}
use Rattle.mk_record.specs.declared.requests.SpreadRequest.{SpreadRequest}
use Rattle.mk_record.specs.declared.users.Member.{Member}
use Rattle.mk_record.specs.Members.{names_of, quotes_of}
use Rattle.mk_record.specs.Refused.{IsUser, IsQuestionFor}
use Rattle.mk_asking.specs.declared.possible.Decided.{Decided}
use Rattle.mk_asking.specs.declared.possible.Decided.TheVariants as decided
use Rattle.mk_asking.specs.declared.possible.SpreadDecided.TheVariants as settled
use Rattle.mk_asking.specs.declared.possible.Stopped.{Stopped}
use Rattle.mk_asking.specs.declared.possible.Stopped.TheVariants as stopped
use Rattle.mk_asking.specs.Keeping.{AreHeld}
use Rattle.mk_asking.specs.Quoting.{AreInUse, IsSpreadQuoteOf}
use Rattle.mk_asking.specs.Stopped.{IsSpreadDecidedBy, IsRefusedFor, MayStop}
use Rattle.mk_evidence.specs.declared.evidence_of_spreads.SpreadEvidence.{SpreadEvidence}

-- ---- users

-- users were asked: the assets of each are still those that the history leaves, and their names
-- and last quotes stay
pub record AreAsked {A Plan : Type 0} (gains_stand : A → Meaning → Type 0) (file : MarketFile)
    (H : List Entry) (members new_members : List (Member A Plan)) : Type 0 where
  pub held : AreHeld gains_stand file.net file.tree H new_members
  pub names : names_of new_members ≡ names_of members
  pub quotes : quotes_of new_members ≡ quotes_of members

-- ---- a question

-- the command that asks for the limits of a question, or edits it to so many millionths having
-- seen a revision
abbrev pub question_command : List ℕ → QuestionText → Option (ℕ × Option ℕ) → Command
question_command name q None = Limits name q
question_command name q (Some wish) = Edit name q wish.0 wish.1

-- a request of this user and this question
pub record IsRequestFor (file : MarketFile) (H : List Entry) (name : List ℕ) (q : QuestionText)
    (request : Request) : Type 0 where
  pub user : IsUser H name request.user
  pub question : IsQuestionFor (market_of file) file.tree H q request.question
  pub at_home : home file.tree (pairs_asked request.question) ≡ Some request.home

-- the bounds of both sides where both can come, or what decides the question
abbrev pub opened : Sides → Result Bounds Decided
opened (both.Open bounds) = Ok bounds
opened both.Impossible = Err decided.Impossible
opened both.Never = Err decided.Never
opened both.Sure = Err decided.Sure

-- both sides of a question can come, and the bounds are theirs
pub record AreBothFound (most : ℕ) (network : List Variable) (H : List Entry) (u : ℕ)
    (asked : Asked) (bounds : Bounds) : Type 0 where
  pub left : AreBothLeft network H asked
  pub bounded : AreBoundsOfBoth most network H u asked bounds

-- ---- a question about every value of a variable

-- the bounds of each value where two can come, or what decides the question
abbrev pub opened_each : SpreadSides → Result SpreadBounds Stopped
opened_each (each.Open bounds) = Ok bounds
opened_each each.Impossible = Err (stopped.Decided settled.Impossible)
opened_each (each.Sure value) = Err (stopped.Decided (settled.Sure value))

-- what stops a question is what decides it
abbrev pub IsDecidedAnew : List Variable → List Entry → SpreadAsked → Stopped → Type 0
IsDecidedAnew network H spread (stopped.Decided why) = IsSpreadDecidedBy network H spread why
IsDecidedAnew network H spread _ = ⊥

-- two values of a variable can come, and the bounds are those of each
pub record AreEachFound (most : ℕ) (network : List Variable) (H : List Entry) (u : ℕ)
    (spread : SpreadAsked) (bounds : SpreadBounds) : Type 0 where
  pub two_left : 2 ≤ length (values_left network H spread)
  pub enclosed : (sides : List (Option Side)) → AreValueSides network H u spread sides
      → AreSideBoundsFor (sides_in bounds) (IsSmall network H) sides
  pub bounded : AreSpreadSidesBounded most network H u spread (each.Open bounds)

-- ---- what a call for them asks: a market in use of this file and history, where the question can
-- be answered in its home

-- of the users alone
pub record CanAskEach {A Plan : Type 0} (gains_stand : A → Meaning → Type 0) (file : MarketFile)
    (H : List Entry) (members : List (Member A Plan)) (request : SpreadRequest) : Type 0 where
  pub is_open : IsOpen file.net file.tree H
  pub held : AreHeld gains_stand file.net file.tree H members
  pub user : request.user < length members
  pub answered : CanBeSpreadHere file.net file.tree H (spread_in request.question)
  pub at_home : home file.tree (pairs_asked (asked_of (spread_in request.question) 0))
      ≡ Some request.home

module _ {P A Plan : Type 0} (weights_stand : P → Meaning → Type 0)
    (gains_stand : A → Meaning → Type 0) (file : MarketFile) (H : List Entry) (prices : P)
    (members : List (Member A Plan)) where
  pub record CanFindBoth (request : Request) : Type 0 where
    pub in_use : AreInUse weights_stand gains_stand file.net file.tree H prices members
    pub user : request.user < length members
    pub answered : CanBeAnswered file.net file.tree H request.question
    pub at_home : home file.tree (pairs_asked request.question) ≡ Some request.home

  pub record CanFindEach (request : SpreadRequest) : Type 0 where
    pub weights : weights_stand prices (weights_of file.net file.tree H)
    pub users : CanAskEach gains_stand file H members request

-- ---- shares

-- a quote of a spread that is made anew, of which something holds
pub record HasQuote (network : List Variable) (tree : GivenTree) (H : List Entry) (u : ℕ)
    (spread : SpreadAsked) (P : SpreadQuote → Type 0) : Type 0 where
  pub quote : SpreadQuote
  pub its : IsSpreadQuoteOf network tree H u spread quote
  pub meets : P quote

-- its shares are at the right places
abbrev pub ArePlaced : List ℕ → SpreadQuote → Type 0
ArePlaced Xs quote =
    (impossible_share_in (sides_of quote) Xs ≡ None) × (misses_share_in (sides_of quote) Xs ≡ false)

-- bounds of each value, where the shares are at the right places
pub record ArePlacedBounds (most : ℕ) (network : List Variable) (tree : GivenTree)
    (H : List Entry) (u : ℕ) (spread : SpreadAsked) (Xs : List ℕ) (bounds : SpreadBounds) : Type 0
  where
    pub found : AreEachFound most network H u spread bounds
    pub placed : HasQuote network tree H u spread (ArePlaced Xs)

-- what stops shares before any intervals are asked for
abbrev pub IsStoppedAnew : List Variable → GivenTree → List Entry → ℕ → SpreadAsked → List ℕ
    → Stopped → Type 0
IsStoppedAnew network tree H u spread Xs (stopped.Decided why) =
    IsSpreadDecidedBy network H spread why
IsStoppedAnew network tree H u spread Xs (stopped.ImpossibleShare value) =
    HasQuote network tree H u spread
    (λ quote. impossible_share_in (sides_of quote) Xs ≡ Some value)
IsStoppedAnew network tree H u spread Xs stopped.MissingShare =
    HasQuote network tree H u spread
    (λ quote. (impossible_share_in (sides_of quote) Xs ≡ None)
    × (misses_share_in (sides_of quote) Xs ≡ true))
IsStoppedAnew network tree H u spread Xs (stopped.Outside box) = ⊥

-- ---- what is told of a request: evidence of the bounds that were found, or the refusal of what
-- stopped them
abbrev pub IsTold : {P : Type 0} → (P → Meaning → Type 0) → P → List Variable → List ℕ
    → List PairText → SpreadRequest → Result SpreadBounds Stopped → Result SpreadEvidence Refusal
    → Type 0
IsTold weights_stand prices network v words request (Ok bounds) result =
    result
    ≡ Ok (record { user = request.user; question = request.question; bounds = bounds })
IsTold weights_stand prices network v words request (Err why) result =
    IsErrAnd result (λ refusal. (tree : GivenTree) (H : List Entry)
    → weights_stand prices (weights_of network tree H) → IsOpen network tree H
    → MayStop network H (spread_in request.question) why
    → IsRefusedFor network H v words (spread_in request.question) why refusal)
