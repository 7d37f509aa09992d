-- What a judge of trades for a whole distribution leaves open, and what one of intervals says.
use Rattle.std.specs.Prelude.{◌≡◌, ℕ, ◌≤◌, Bool, false, IsTrue, List, All, Option}
use Rattle.arrayvec.specs.ArrayVec.{ArrayVec}
use Rattle.mk_net.specs.Bounds.{max_share}
use Rattle.mk_net.specs.declared.words.PairText.{PairText}
use Rattle.mk_exact.specs.History.{Entry}
use Rattle.mk_exact.specs.Limits.{Side}
use Rattle.mk_exact.specs.Market.{Market}
use Rattle.mk_spread.specs.Spreads.{SpreadAsked}
use Rattle.mk_spread.specs.Bounds.{Intervals, AreRightBounds}
use Rattle.mk_quote.specs.declared.values.SpreadBounds.{SpreadBounds}
use Rattle.mk_quote.specs.Values.{sides_in}
use Rattle.mk_judge.specs.declared.judged.Judged.{Judged}
use Rattle.mk_judge.specs.declared.judged.Judged.TheVariants.{Allowed, Wrong, Unclear}
use Rattle.mk_judge.specs.Distributions.{AreEachSideBounds, AreIntervalsNear}
use Rattle.mk_judge.specs.Distributions.{HaveTradeRange}
use Rattle.mk_judge.specs.Judged.{Judges}
use Rattle.mk_reply.specs.declared.refusal.Refusal.TheVariants.{Outside}
use Rattle.mk_reply.specs.declared.reply.Reply.{Reply}
use Rattle.mk_reply.specs.declared.reply.Reply.TheVariants.{Spreaded, Refused}
use Rattle.mk_reply.specs.Refusals.{given_in}
use Rattle.mk_rules.specs.Refusals.{user_number}
use Rattle.mk_judge_quotes.specs.Clear.{AreFactorsOpen}
use Rattle.mk_judge_quotes.specs.Spreading.{AreEachBounds}

-- a trade may be left open
abbrev pub IsSpreadTradeLeftOpen :
    Market → List Entry → ℕ → SpreadAsked → List ℕ → Reply → Type 0
IsSpreadTradeLeftOpen market H u spread Xs (Spreaded factors at) =
    AreFactorsOpen market H u spread Xs factors.items
IsSpreadTradeLeftOpen market H u spread Xs reply = ⊥

-- a refusal by bounds that give these intervals
abbrev pub IsSameBox : Intervals → Reply → Type 0
IsSameBox intervals told = (box : Option (ArrayVec (ℕ × ℕ))) × (given_in box ≡ intervals)
    × (told ≡ Refused (Outside box))

-- what the judge of intervals says of them
pub record SaysIntervals (j : Judged) (bounds : SpreadBounds) (small : Bool)
    (intervals : Intervals) : Type 0 where
  pub allowed : j ≡ Allowed → (sides : List (Option Side))
      → AreEachSideBounds (sides_in bounds) small sides
      → AreRightBounds (IsTrue small) sides intervals
  pub wrong : j ≡ Wrong → (sides : List (Option Side))
      → AreEachSideBounds (sides_in bounds) small sides
      → AreRightBounds (IsTrue small) sides intervals → ⊥
  pub unclear : j ≡ Unclear → (sides : List (Option Side))
      → AreEachSideBounds (sides_in bounds) small sides
      → AreIntervalsNear (sides_in bounds) sides intervals
  pub clear : j ≡ Unclear → (sides : List (Option Side))
      → AreEachSideBounds (sides_in bounds) small sides → small ≡ false

-- a trade to these millionths can be judged by bounds of each value
pub record CanJudgeSpread (bounds : SpreadBounds) (Xs : List ℕ) : Type 0 where
  pub range : HaveTradeRange (sides_in bounds)
  pub shares : All (λ X. X ≤ max_share) Xs

-- a judgement of what a reply says of a distribution, whatever market these are bounds of
abbrev pub JudgesSpread : Judged → SpreadBounds → Bool → ℕ
    → (Market → List Entry → ℕ → SpreadAsked → Type 0)
    → (Market → List Entry → ℕ → SpreadAsked → Type 0) → Type 0
JudgesSpread judged bounds small now right left =
    (market : Market) (H : List Entry) (name v : List ℕ) (condition : ArrayVec PairText)
    → (its : AreEachBounds market H name v condition bounds small now)
    → Judges judged (right market H (user_number H name) its.spread)
    (left market H (user_number H name) its.spread)
