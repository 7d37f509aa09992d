-- What an auditor asks of a market: why a command is refused, and enclosures of the exact numbers
-- that its reply has to be near.
use Rattle.std.specs.Prelude.{◌≡◌, ℕ, ◌<◌, ◌≤◌, List, [], ◌∷◌, length, Option, Some, None}
use Rattle.std.specs.Prelude.{IsSomeAnd, Result, Ok, Err}
use Rattle.std.specs.List.{AllZip}
use Rattle.arrayvec.specs.ArrayVec.{ArrayVec}
use Rattle.mk_net.specs.declared.words.PairText.{PairText}
use Rattle.mk_net.specs.declared.words.QuestionText.{QuestionText}
use Rattle.mk_net.specs.Asked.{Asked}
use Rattle.mk_states.specs.Events.{always, with_target}
use Rattle.mk_exact.specs.Factors.{gain}
use Rattle.mk_exact.specs.History.{Entry, users}
use Rattle.mk_exact.specs.Limits.{Side}
use Rattle.mk_exact.specs.Market.{Market}
use Rattle.mk_exact.specs.Sides.{AreSides}
use Rattle.mk_exact.specs.Weight.{possible_states}
use Rattle.mk_spread.specs.Spreads.{SpreadAsked, asked_of}
use Rattle.mk_spread.specs.Markets.{AreValueSides, values_of, values_left}
use Rattle.mk_enclose.specs.declared.enclosure.Enclosure.{Enclosure}
use Rattle.mk_enclose.specs.declared.factor.Factor.{Factor}
use Rattle.mk_quote.specs.declared.bounds.Bounds.{Bounds}
use Rattle.mk_quote.specs.declared.values.SpreadBounds.{SpreadBounds}
use Rattle.mk_quote.specs.Bounds.{hit_side, miss_side}
use Rattle.mk_quote.specs.Questions.{spread_in}
use Rattle.mk_quote.specs.Values.{sides_in}
use Rattle.mk_judge.specs.declared.price.PriceBounds.{PriceBounds}
use Rattle.mk_command.specs.declared.command.Command.{Command}
use Rattle.mk_reply.specs.declared.refusal.Refusal.{Refusal}
use Rattle.mk_rules.specs.Refusals.{question_named, spread_named, user_number, first_refusal}
use Rattle.mk_answers.specs.Evidence.{AreBoundsOfPrice, IsFactorOf, IsLeastFactorOf, IsSureFactor}
use Rattle.mk_answers.specs.Evidence.{AreBoundsOfSide, IsBoundedValue, IsLeastWeight}
use Rattle.mk_evidence.specs.Grades.{evidence_grade}
use Rattle.mk_evidence.specs.declared.evidence_of_edits.EditEvidence.{EditEvidence}
use Rattle.mk_evidence.specs.declared.evidence_of_spreads.SpreadEvidence.{SpreadEvidence}

-- evidence where nothing refuses a command, and else its first refusal
abbrev pub IsAskedFor : {F : Type 0} → Market → List Entry → Command → Result F Refusal
    → (F → Type 0) → Type 0
IsAskedFor market H command (Ok found) evidence =
    (first_refusal market H command ≡ None) × evidence found
IsAskedFor market H command (Err why) evidence = first_refusal market H command ≡ Some why

-- ---- prices

-- of a question's price
abbrev pub IsPriceEvidence : Market → List Entry → QuestionText → PriceBounds → Type 0
IsPriceEvidence market H q bounds =
    let network = market.network in
    IsSomeAnd (question_named network q)
    (λ asked. AreBoundsOfPrice (evidence_grade market H) network H asked bounds)

-- of the price of each value of a variable, in order: there are such bounds of each
abbrev pub ArePricesEvidence :
    Market → List Entry → List ℕ → ArrayVec PairText → ArrayVec (Option PriceBounds) → Type 0
ArePricesEvidence market H v condition bounds =
    let network = market.network in
    IsSomeAnd (spread_named network v condition.items) (λ spread.
    AllZip (λ value price. IsSomeAnd price
    (AreBoundsOfPrice (evidence_grade market H) network H (asked_of spread value)))
    (values_of network spread) bounds.items)

-- ---- factors

-- of what a user is worth at least, whatever comes
abbrev pub IsWorstEvidence : Market → List Entry → List ℕ → Factor → Type 0
IsWorstEvidence market H name factor =
    IsLeastFactorOf (evidence_grade market H) market.network H (user_number H name) always
    factor

-- of what a user is worth at least where each value of a variable comes, in order
abbrev pub IsPositionEvidence :
    Market → List Entry → List ℕ → List ℕ → ArrayVec PairText → ArrayVec (Option Factor) → Type 0
IsPositionEvidence market H name v condition factors =
    let network = market.network in
    IsSomeAnd (spread_named network v condition.items) (λ spread.
    AllZip (λ value factor. IsSureFactor (evidence_grade market H) network H (user_number H name)
    (with_target (asked_of spread value)) factor) (values_of network spread) factors.items)

-- of what a user is worth in the one state that is left
abbrev pub IsPaymentEvidence : Market → List Entry → ℕ → Factor → Type 0
IsPaymentEvidence market H u factor =
    let network = market.network in
    (state : List ℕ) → possible_states network H always ≡ state ∷ []
    → IsFactorOf (evidence_grade market H) network H u (gain H u state) factor

-- of the most that the operator can lose
abbrev pub IsBoundEvidence : Market → List Entry → Enclosure → Type 0
IsBoundEvidence market H least =
    IsLeastWeight (evidence_grade market H) market.network H least

-- ---- sides

-- there are both sides of a question for a user, and these are their bounds
pub record AreEditSides (market : Market) (H : List Entry) (u : ℕ) (asked : Asked)
    (bounds : Bounds) : Type 0 where
  pub hit : Side
  pub miss : Side
  pub exist : AreSides market.network H u asked hit miss
  pub hit_bounds : (hit miss : Side) → AreSides market.network H u asked hit miss
      → AreBoundsOfSide (evidence_grade market H) market.network H u (hit_side bounds) hit
  pub miss_bounds : (hit miss : Side) → AreSides market.network H u asked hit miss
      → AreBoundsOfSide (evidence_grade market H) market.network H u (miss_side bounds) miss

-- of an edit: its user and its question in numbers, with the bounds of both sides
pub record IsEditEvidence (market : Market) (H : List Entry) (name : List ℕ) (q : QuestionText)
    (evidence : EditEvidence) : Type 0 where
  pub user : evidence.user ≡ user_number H name
  pub within : evidence.user < length (users H)
  pub named : question_named market.network q ≡ Some evidence.question
  pub sides : AreEditSides market H evidence.user evidence.question evidence.bounds

-- there are the sides of each value for a user, and these are their bounds
pub record AreSpreadSides (market : Market) (H : List Entry) (u : ℕ) (spread : SpreadAsked)
    (bounds : SpreadBounds) : Type 0 where
  pub sides : List (Option Side)
  pub exist : AreValueSides market.network H u spread sides
  pub bounds_of : (sides : List (Option Side))
      → AreValueSides market.network H u spread sides
      → AllZip (IsBoundedValue (evidence_grade market H) market.network H u)
      (sides_in bounds) sides

-- of a spread: its user and its question in numbers, with the bounds of each value
pub record IsSpreadEvidence (market : Market) (H : List Entry) (name v : List ℕ)
    (condition : ArrayVec PairText) (evidence : SpreadEvidence) : Type 0 where
  pub user : evidence.user ≡ user_number H name
  pub within : evidence.user < length (users H)
  pub named : spread_named market.network v condition.items
      ≡ Some (spread_in evidence.question)
  pub two_left : 2 ≤ length (values_left market.network H (spread_in evidence.question))
  pub sides : AreSpreadSides market H evidence.user (spread_in evidence.question) evidence.bounds
