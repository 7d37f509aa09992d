-- What a judge of spreads is given, and what it leaves open.
use Rattle.std.specs.Prelude.{◌≡◌, ℕ, Bool, List, Option, Some, None}
use Rattle.std.specs.List.{AllZip}
use Rattle.arrayvec.specs.ArrayVec.{ArrayVec}
use Rattle.mk_net.specs.declared.words.PairText.{PairText}
use Rattle.mk_exact.specs.History.{Entry, revision}
use Rattle.mk_exact.specs.Limits.{Side}
use Rattle.mk_exact.specs.Market.{Market}
use Rattle.mk_spread.specs.Spreads.{SpreadAsked}
use Rattle.mk_spread.specs.Bounds.{Intervals}
use Rattle.mk_spread.specs.Markets.{AreValueSides}
use Rattle.mk_quote.specs.declared.values.SpreadBounds.{SpreadBounds}
use Rattle.mk_quote.specs.Values.{sides_in}
use Rattle.mk_reply.specs.declared.refusal.Refusal.TheVariants.{Outside}
use Rattle.mk_reply.specs.declared.reply.Reply.{Reply}
use Rattle.mk_reply.specs.declared.reply.Reply.TheVariants.{Spreaded, Bounded, Refused}
use Rattle.mk_reply.specs.Refusals.{given_in}
use Rattle.mk_rules.specs.Refusals.{spread_named, user_number}
use Rattle.mk_answers.specs.Evidence.{IsBoundedValue}
use Rattle.mk_evidence.specs.Grades.{evidence_grade}
use Rattle.mk_judge_quotes.specs.Clear.{AreFactorsOpen, AreBoundsOpen}
use Rattle.mk_judge_quotes.specs.Small.{TellsSmall}

-- bounds of each value of a variable for a user, at the revision of a history
pub record AreEachBounds (market : Market) (H : List Entry) (name v : List ℕ)
    (condition : ArrayVec PairText) (bounds : SpreadBounds) (small : Bool) (now : ℕ) : Type 0 where
  pub tells : TellsSmall small market H
  pub present : now ≡ revision H
  pub spread : SpreadAsked
  pub named : spread_named market.network v condition.items ≡ Some spread
  pub sides : List (Option Side)
  pub exist : AreValueSides market.network H (user_number H name) spread sides
  pub each : (sides : List (Option Side))
      → AreValueSides market.network H (user_number H name) spread sides
      → AllZip (IsBoundedValue (evidence_grade market H) market.network H
      (user_number H name))
      (sides_in bounds) sides

-- bounds that are told may be left open
abbrev pub AreBoundsLeftOpen : Market → List Entry → ℕ → SpreadAsked → Reply → Type 0
AreBoundsLeftOpen market H u spread (Bounded box at) =
    AreBoundsOpen market H u spread (given_in box)
AreBoundsLeftOpen market H u spread reply = ⊥

-- the reply to a spread may be left open: a trade, or bounds of a refusal where none are current
abbrev pub IsSpreadLeftOpen :
    Market → List Entry → ℕ → SpreadAsked → List ℕ → Option Intervals → Reply → Type 0
IsSpreadLeftOpen market H u spread Xs quoted (Spreaded factors at) =
    AreFactorsOpen market H u spread Xs factors.items
IsSpreadLeftOpen market H u spread Xs quoted (Refused (Outside box)) =
    (quoted ≡ None) × AreBoundsOpen market H u spread (given_in box)
IsSpreadLeftOpen market H u spread Xs quoted reply = ⊥
