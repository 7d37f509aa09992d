-- What the judge of one command's replies says.
use Rattle.std.specs.Prelude.{◌≡◌, ℕ, Bool, true, false, List, Option, Some, IsSomeAnd}
use Rattle.std.specs.Prelude.{⊤, [], ◌∷◌, slice_get}
use Rattle.std.specs.List.{AllZip}
use Rattle.mk_net.specs.Bounds.{sharpness}
use Rattle.mk_states.specs.Events.{always, with_target}
use Rattle.mk_exact.specs.History.{Entry}
use Rattle.mk_exact.specs.Market.{Market}
use Rattle.mk_exact.specs.Sound.{IsSound}
use Rattle.mk_exact.specs.Weight.{IsSmall, possible_states}
use Rattle.mk_exact.specs.Factors.{HoldsNoTrade, factor}
use Rattle.mk_exact.specs.Cash.{CoversCash}
use Rattle.mk_spread.specs.Spreads.{SpreadAsked, asked_of}
use Rattle.mk_spread.specs.Markets.{values_of}
use Rattle.mk_enclose.specs.declared.factor.Factor.{Factor}
use Rattle.mk_command.specs.declared.command.Command.{Command}
use Rattle.mk_command.specs.declared.command.Command.TheVariants.{Limits, Edit, Bounds, Spread}
use Rattle.mk_reply.specs.declared.payments.Payment.{Payment}
use Rattle.mk_reply.specs.declared.reply.Reply.{Reply}
use Rattle.mk_rules.specs.Answers.{IsAllowed}
use Rattle.mk_rules.specs.Quotes.{Quotes}
use Rattle.mk_rules.specs.Standings.{Stands}
use Rattle.mk_judge.specs.declared.judged.Judged.{Judged}
use Rattle.mk_judge.specs.declared.judged.Judged.TheVariants.{Allowed, Wrong}
use Rattle.mk_judge.specs.Judged.{Judges}
use Rattle.mk_judge.specs.declared.price.PriceBounds.{PriceBounds}
use Rattle.mk_answers.specs.Evidence.{AreBoundsOfPrice, IsSureFactor}
use Rattle.mk_evidence.specs.Grades.{evidence_grade}
use Rattle.mk_verify.specs.Clear.{IsOpen, IsCashOpen}

-- the judgement of a reply to a command, where users were quoted so
pub record JudgesQuoted (market : Market) (H : List Entry) (quotes : Quotes) (command : Command)
    (reply : Reply) (judged : Judged) : Type 0 where
  pub where_stands : Stands market H → Judges judged (IsAllowed market H quotes command reply)
      (IsOpen market H quotes command reply)

-- whatever they were quoted
pub record JudgesReply (market : Market) (H : List Entry) (command : Command) (reply : Reply)
    (judged : Judged) : Type 0 where
  pub however_quoted : (quotes : Quotes) → JudgesQuoted market H quotes command reply judged

-- a command on whose reply no quote bears
abbrev pub IsUnquoted : Command → Type 0
IsUnquoted (Limits user question) = ⊥
IsUnquoted (Edit user question to at) = ⊥
IsUnquoted (Bounds user variable condition) = ⊥
IsUnquoted (Spread user variable condition to at) = ⊥
IsUnquoted _ = ⊤

-- what is allowed or not, and never left open
abbrev pub by_words : Bool → Judged
by_words true = Allowed
by_words false = Wrong

-- ---- lists of evidence

-- bounds of the price of each value of a variable, in order: there are such bounds of each
abbrev pub AreBoundsOfPrices :
    Market → List Entry → SpreadAsked → List (Option PriceBounds) → Type 0
AreBoundsOfPrices market H spread bounds =
    AllZip (λ value price. IsSomeAnd price
    (AreBoundsOfPrice (evidence_grade market H) market.network H (asked_of spread value)))
    (values_of market.network spread) bounds

-- factors of what a user is sure of where each value comes, in order, and none where it cannot
abbrev pub AreSureFactorsOf :
    Market → List Entry → ℕ → SpreadAsked → List (Option Factor) → Type 0
AreSureFactorsOf market H u spread factors =
    AllZip (λ value factor. IsSureFactor (evidence_grade market H) market.network H u
    (with_target (asked_of spread value)) factor) (values_of market.network spread) factors

-- ---- settlements

-- what is judged by the one state that is left
abbrev pub InOneState : Market → List Entry → (List ℕ → Type 0) → Type 0
InOneState market H judged = (state : List ℕ) → IsSound market.network H
    → possible_states market.network H always ≡ state ∷ [] → judged state

-- a payment to a user covers the cash of its factor in a state, and is the low end
pub record PaysCash (market : Market) (H : List Entry) (state : List ℕ) (u : ℕ)
    (payment : Payment) : Type 0 where
  pub covers : CoversCash (IsSmall market.network H) (HoldsNoTrade H u)
      (sharpness market.max_trades) (factor H u state) market.points_per_bit payment.low
      payment.high
  pub low_end : payment.paid ≡ payment.low

-- each of some payments does so, to the user of its place
abbrev pub PayEach : Market → List Entry → List ℕ → List Payment → Type 0
PayEach market H state payments = (u : ℕ) (payment : Payment)
    → slice_get payments u ≡ Some payment → PaysCash market H state u payment

-- a payment may be left open
abbrev pub IsPaymentLeftOpen : Market → List Entry → List ℕ → ℕ → Payment → Type 0
IsPaymentLeftOpen market H state u payment =
    IsCashOpen market H u (factor H u state) (payment.low, payment.high)
