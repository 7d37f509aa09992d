-- Judgements of the replies to `limits` and `edit`.
use Rattle.std.proofs.Common.{◌≡◌, ℕ, ◌-◌, ◌≤◌, Bool, List, Option, None, MatchOption, sym, ap₂, subst, ◌∙◌}
use Rattle.mk_net.specs.Bounds.{million}
use Rattle.mk_net.specs.declared.words.QuestionText.{QuestionText}
use Rattle.mk_exact.specs.History.{Entry, revision}
use Rattle.mk_exact.specs.Market.{Market}
use Rattle.mk_exact.specs.Sides.{AreSides}
use Rattle.mk_command.specs.declared.command.Command.TheVariants.{Edit, Limits}
use Rattle.mk_reply.specs.declared.refusal.Refusal.TheVariants.{Beyond}
use Rattle.mk_reply.specs.declared.reply.Reply.{Reply}
use Rattle.mk_reply.specs.declared.reply.Reply.TheVariants as reply
use Rattle.mk_rules.specs.Refusals.{user_number, first_refusal, refusals}
use Rattle.mk_rules.specs.Quotes.{Interval, Quotes, last_quote, current_limits}
use Rattle.mk_rules.specs.Answers.{IsLimits, IsJudged, IsJudgedAfresh}
use Rattle.mk_rules.proofs.Unrefused.{none_applies, number_in_range}
use Rattle.mk_judge.specs.declared.judged.Judged.{Judged}
use Rattle.mk_judge.specs.Judged.{Judges}
use Rattle.mk_judge.proofs.Judging.{judges_as}
use Rattle.mk_answers.specs.Evidence.{AreBoundsOfBoth}
use Rattle.mk_evidence.specs.Grades.{evidence_grade}
use Rattle.mk_evidence.specs.Evidence.{IsEditEvidence}
use Rattle.mk_evidence.specs.declared.evidence_of_edits.EditEvidence.{EditEvidence}
use Rattle.mk_verify.specs.Clear.{IsOpen}
use Rattle.mk_verify.specs.inner.Judging.{JudgesQuoted}
use Rattle.mk_judge_quotes.specs.Small.{TellsSmall}
use Rattle.mk_judge_quotes.specs.Editing.{AreEditBounds, AreLimitsLeftOpen, IsEditLeftOpen}
use Rattle.mk_verify.proofs.Verdicts.{quoted_answer}

-- the share of an edit that nothing refuses
pub edit_share : (market : Market) (H : List Entry) (name : List ℕ) (q : QuestionText) (X : ℕ)
    (seen : Option ℕ) → first_refusal market H (Edit name q X seen) ≡ None
    → (1 ≤ X) × (X ≤ 999999)
edit_share market H name q X seen none = number_in_range (million - 1) X
    (none_applies (refusals market H (Edit name q X seen)) none).1.1.1.1.1.1.1.1.0

module _ (market : Market) (H : List Entry) (quotes : Quotes) (name : List ℕ) (q : QuestionText)
    (evidence : EditEvidence) (small : Bool) (now : ℕ) (of : IsEditEvidence market H name q evidence)
    (tells : TellsSmall small market H) (present : now ≡ revision H) where
  abbrev number : ℕ
  number = user_number H name

  -- evidence by the name of its user
  abbrev its : AreEditBounds market H name q evidence.bounds small now
  its = record {
    tells = tells;
    present = present;
    asked = evidence.question;
    named = of.named;
    hit = of.sides.hit;
    miss = of.sides.miss;
    exist = subst (λ (u : ℕ). AreSides market.network H u evidence.question of.sides.hit
        of.sides.miss) of.user of.sides.exist;
    both = subst (λ (u : ℕ). AreBoundsOfBoth (evidence_grade market H)
        market.network H u evidence.question evidence.bounds) of.user
        (record { hit = of.sides.hit_bounds; miss = of.sides.miss_bounds });
  }

  limits_left : (told : Reply) → AreLimitsLeftOpen market H number evidence.question told
      → IsOpen market H quotes (Limits name q) told
  limits_left (reply.Limits limits at) o = rw of.named o
  limits_left told o = absurd o

  pub limits_allowed : (told : Reply) (j : Judged) → first_refusal market H (Limits name q) ≡ None
      → ((its : AreEditBounds market H name q evidence.bounds small now)
      → Judges j (IsLimits market.network H number its.asked told)
      (AreLimitsLeftOpen market H number its.asked told))
      → JudgesQuoted market H quotes (Limits name q) told j
  limits_allowed told j none judged =
      quoted_answer market H quotes (Limits name q) told j none (λ stands.
      judges_as j _ _ _ _ (λ h. rw of.named h) (λ h. rw of.named at h) (limits_left told)
      (judged its))

  edit_left : (X : ℕ) (seen : Option ℕ) (quoted : Option Interval)
      → quoted ≡ current_limits (last_quote quotes number) evidence.question (revision H)
      → (told : Reply) → IsEditLeftOpen market H number evidence.question X quoted told
      → IsOpen market H quotes (Edit name q X seen) told
  edit_left X seen quoted is (reply.Traded hit miss at) o = rw of.named o
  edit_left X seen quoted is (reply.Refused (Beyond limits)) o = rw of.named (sym is ∙ o.0, o.1)
  edit_left X seen quoted is told o = absurd o

  pub edit_allowed : (X : ℕ) (seen : Option ℕ) (quoted : Option Interval) (told : Reply)
      (j : Judged)
      → quoted ≡ current_limits (last_quote quotes evidence.user) evidence.question now
      → first_refusal market H (Edit name q X seen) ≡ None
      → ((its : AreEditBounds market H name q evidence.bounds small now) → Judges j
      (MatchOption quoted (IsJudgedAfresh market.network H number its.asked X told)
      (λ limits. IsJudged market.network H number its.asked X limits told))
      (IsEditLeftOpen market H number its.asked X quoted told))
      → JudgesQuoted market H quotes (Edit name q X seen) told j
  edit_allowed X seen quoted told j found none judged =
      quoted_answer market H quotes (Edit name q X seen) told j none (λ stands.
      judges_as j _ _ _ _ (λ h. rw of.named (subst answers is h))
      (λ h. subst answers (sym is) (rw of.named at h)) (edit_left X seen quoted is told)
      (judged its))
    where
      -- limits that were quoted to this user for this question
      is : quoted ≡ current_limits (last_quote quotes number) evidence.question (revision H)
      is = found ∙ ap₂ (λ (u n : ℕ). current_limits (last_quote quotes u) evidence.question n)
          of.user present

      answers : Option Interval → Type 0
      answers o = MatchOption o (IsJudgedAfresh market.network H number evidence.question X told)
          (λ limits. IsJudged market.network H number evidence.question X limits told)
