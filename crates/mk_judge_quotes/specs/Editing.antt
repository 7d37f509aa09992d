-- What a judge of edits is given, and what it leaves open.
use Rattle.std.specs.Prelude.{◌≡◌, ℕ, Bool, List, Option, Some, None}
use Rattle.mk_net.specs.declared.words.QuestionText.{QuestionText}
use Rattle.mk_net.specs.Asked.{Asked}
use Rattle.mk_exact.specs.History.{Entry, revision}
use Rattle.mk_exact.specs.Limits.{Side}
use Rattle.mk_exact.specs.Market.{Market}
use Rattle.mk_exact.specs.Sides.{AreSides}
use Rattle.mk_quote.specs.declared.bounds.Bounds.{Bounds}
use Rattle.mk_reply.specs.declared.reply.Reply.{Reply}
use Rattle.mk_reply.specs.declared.reply.Reply.TheVariants.{Traded, Limits, Refused}
use Rattle.mk_reply.specs.declared.refusal.Refusal.TheVariants.{Beyond}
use Rattle.mk_rules.specs.Quotes.{Interval}
use Rattle.mk_rules.specs.Refusals.{question_named, user_number}
use Rattle.mk_answers.specs.Evidence.{AreBoundsOfBoth}
use Rattle.mk_evidence.specs.Grades.{evidence_grade}
use Rattle.mk_judge_quotes.specs.Clear.{IsTradeOpen, AreLimitsOpen}
use Rattle.mk_judge_quotes.specs.Small.{TellsSmall}

-- bounds of both sides of a user's question, at the revision of a history
pub record AreEditBounds (market : Market) (H : List Entry) (name : List ℕ) (q : QuestionText)
    (bounds : Bounds) (small : Bool) (now : ℕ) : Type 0 where
  pub tells : TellsSmall small market H
  pub present : now ≡ revision H
  pub asked : Asked
  pub named : question_named market.network q ≡ Some asked
  pub hit : Side
  pub miss : Side
  pub exist : AreSides market.network H (user_number H name) asked hit miss
  pub both : AreBoundsOfBoth (evidence_grade market H) market.network H
      (user_number H name) asked bounds

-- limits that are told may be left open
abbrev pub AreLimitsLeftOpen : Market → List Entry → ℕ → Asked → Reply → Type 0
AreLimitsLeftOpen market H u asked (Limits limits at) = AreLimitsOpen market H u asked limits
AreLimitsLeftOpen market H u asked reply = ⊥

-- the reply to an edit may be left open: a trade, or limits of a refusal where none are current
abbrev pub IsEditLeftOpen :
    Market → List Entry → ℕ → Asked → ℕ → Option Interval → Reply → Type 0
IsEditLeftOpen market H u asked X quoted (Traded hit miss at) =
    IsTradeOpen market H u asked X hit miss
IsEditLeftOpen market H u asked X quoted (Refused (Beyond limits)) =
    (quoted ≡ None) × AreLimitsOpen market H u asked limits
IsEditLeftOpen market H u asked X quoted reply = ⊥
