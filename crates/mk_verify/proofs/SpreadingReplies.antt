-- Judgements of the replies to `bounds` and `spread`.
use Rattle.std.proofs.Common.{◌≡◌, ℕ, ◌-◌, ◌≤◌, Bool, List, Option, None, All, MatchOption, sym, ap₂, subst, ◌∙◌}
use Rattle.std.specs.List.{AllZip}
use Rattle.std.proofs.lemmas.List.Elements.{All-from_recursion}
use Rattle.arrayvec.specs.ArrayVec.{ArrayVec}
use Rattle.mk_net.specs.Bounds.{million}
use Rattle.mk_net.specs.declared.words.PairText.{PairText}
use Rattle.mk_exact.specs.History.{Entry, revision}
use Rattle.mk_exact.specs.Limits.{Side}
use Rattle.mk_exact.specs.Market.{Market}
use Rattle.mk_states.proofs.Sums.{each_weaker}
use Rattle.mk_spread.specs.Bounds.{Intervals}
use Rattle.mk_spread.specs.Markets.{AreValueSides}
use Rattle.mk_spread.specs.Spreads.{SpreadAsked}
use Rattle.mk_command.specs.declared.command.Command.TheVariants.{Bounds, Spread}
use Rattle.mk_reply.specs.declared.refusal.Refusal.TheVariants.{Outside}
use Rattle.mk_reply.specs.declared.reply.Reply.{Reply}
use Rattle.mk_reply.specs.declared.reply.Reply.TheVariants as reply
use Rattle.mk_quote.specs.Questions.{spread_in}
use Rattle.mk_quote.specs.Values.{sides_in}
use Rattle.mk_rules.specs.Refusals.{user_number, first_refusal, refusals, least_share}
use Rattle.mk_rules.specs.Quotes.{Quotes, last_quote, current_bounds}
use Rattle.mk_rules.specs.Answers.{IsBounds, IsSpreadJudged, IsSpreadJudgedAfresh}
use Rattle.mk_rules.proofs.Unrefused.{none_applies}
use Rattle.mk_rules.proofs.Spreads.{numbers_in_range}
use Rattle.mk_judge.specs.declared.judged.Judged.{Judged}
use Rattle.mk_judge.specs.Judged.{Judges}
use Rattle.mk_judge.specs.Distributions.{HaveTradeRange}
use Rattle.mk_judge.proofs.Judging.{judges_as}
use Rattle.mk_answers.specs.Evidence.{IsBoundedValue}
use Rattle.mk_evidence.specs.Grades.{evidence_grade}
use Rattle.mk_evidence.specs.Evidence.{IsSpreadEvidence}
use Rattle.mk_evidence.specs.declared.evidence_of_spreads.SpreadEvidence.{SpreadEvidence}
use Rattle.mk_verify.specs.Clear.{IsOpen}
use Rattle.mk_verify.specs.inner.Judging.{JudgesQuoted}
use Rattle.mk_judge_quotes.specs.Small.{TellsSmall}
use Rattle.mk_judge_quotes.specs.Spreading.{AreEachBounds, AreBoundsLeftOpen, IsSpreadLeftOpen}
use Rattle.mk_verify.proofs.Verdicts.{quoted_answer}
use Rattle.mk_judge_quotes.proofs.SpreadingNear.{in_range}

-- its factors are in range for one trade more
pub evidence_in_range : (market : Market) (H : List Entry) (name v : List ℕ)
    (condition : ArrayVec PairText) (evidence : SpreadEvidence)
    → IsSpreadEvidence market H name v condition evidence
    → HaveTradeRange (sides_in evidence.bounds)
evidence_in_range market H name v condition evidence of =
    in_range (evidence_grade market H) market.network H evidence.user
    (sides_in evidence.bounds) of.sides.sides (of.sides.bounds_of of.sides.sides of.sides.exist)

-- the shares of a spread that nothing refuses
pub spread_shares : (market : Market) (H : List Entry) (name v : List ℕ)
    (condition : ArrayVec PairText) (to : ArrayVec ℕ) (seen : Option ℕ)
    → first_refusal market H (Spread name v condition to seen) ≡ None
    → All (λ X. X ≤ 999999) to.items
spread_shares market H name v condition to seen none =
    All-from_recursion (λ X. X ≤ 999999) to.items
    (each_weaker (λ X. (least_share market ≤ X) × (X ≤ 999999)) (λ X. X ≤ 999999)
    (λ X inside. inside.1) to.items
    (numbers_in_range (least_share market) (million - 1) to.items
    (none_applies (refusals market H (Spread name v condition to seen)) none).1.1.1.1.1.1.1.1.1.1.0))

module _ (market : Market) (H : List Entry) (quotes : Quotes) (name v : List ℕ)
    (condition : ArrayVec PairText) (evidence : SpreadEvidence) (small : Bool) (now : ℕ)
    (of : IsSpreadEvidence market H name v condition evidence)
    (tells : TellsSmall small market H) (present : now ≡ revision H) where
  abbrev number : ℕ
  number = user_number H name

  abbrev spread : SpreadAsked
  spread = spread_in evidence.question

  -- evidence by the name of its user
  abbrev its : AreEachBounds market H name v condition evidence.bounds small now
  its = record {
    tells = tells;
    present = present;
    spread = spread_in evidence.question;
    named = of.named;
    sides = of.sides.sides;
    exist = subst (λ (u : ℕ). AreValueSides market.network H u spread of.sides.sides) of.user
        of.sides.exist;
    each = subst (λ (u : ℕ). (sides : List (Option Side))
        → AreValueSides market.network H u spread sides
        → AllZip (IsBoundedValue (evidence_grade market H) market.network H u)
        (sides_in evidence.bounds) sides) of.user of.sides.bounds_of;
  }

  bounds_left : (told : Reply) → AreBoundsLeftOpen market H number spread told
      → IsOpen market H quotes (Bounds name v condition) told
  bounds_left (reply.Bounded box at) o = rw of.named o
  bounds_left told o = absurd o

  pub bounds_allowed : (told : Reply) (j : Judged)
      → first_refusal market H (Bounds name v condition) ≡ None
      → ((its : AreEachBounds market H name v condition evidence.bounds small now)
      → Judges j (IsBounds market.network H number its.spread told)
      (AreBoundsLeftOpen market H number its.spread told))
      → JudgesQuoted market H quotes (Bounds name v condition) told j
  bounds_allowed told j none judged =
      quoted_answer market H quotes (Bounds name v condition) told j none (λ stands.
      judges_as j _ _ _ _ (λ h. rw of.named h) (λ h. rw of.named at h) (bounds_left told)
      (judged its))

  spread_left_open : (to : ArrayVec ℕ) (seen : Option ℕ) (quoted : Option Intervals)
      → quoted ≡ current_bounds (last_quote quotes number) spread (revision H)
      → (told : Reply) → IsSpreadLeftOpen market H number spread to.items quoted told
      → IsOpen market H quotes (Spread name v condition to seen) told
  spread_left_open to seen quoted is (reply.Spreaded factors at) o = rw of.named o
  spread_left_open to seen quoted is (reply.Refused (Outside box)) o =
      rw of.named (sym is ∙ o.0, o.1)
  spread_left_open to seen quoted is told o = absurd o

  pub spread_allowed : (to : ArrayVec ℕ) (seen : Option ℕ) (quoted : Option Intervals)
      (told : Reply) (j : Judged)
      → quoted ≡ current_bounds (last_quote quotes evidence.user) spread now
      → first_refusal market H (Spread name v condition to seen) ≡ None
      → ((its : AreEachBounds market H name v condition evidence.bounds small now) → Judges j
      (MatchOption quoted
      (IsSpreadJudgedAfresh market.network H number its.spread to.items told)
      (λ intervals. IsSpreadJudged market.network H number its.spread to.items intervals told))
      (IsSpreadLeftOpen market H number its.spread to.items quoted told))
      → JudgesQuoted market H quotes (Spread name v condition to seen) told j
  spread_allowed to seen quoted told j found none judged =
      quoted_answer market H quotes (Spread name v condition to seen) told j none (λ stands.
      judges_as j _ _ _ _ (λ h. rw of.named (subst answers is h))
      (λ h. subst answers (sym is) (rw of.named at h)) (spread_left_open to seen quoted is told)
      (judged its))
    where
      -- bounds that were quoted to this user for this spread
      is : quoted ≡ current_bounds (last_quote quotes number) spread (revision H)
      is = found ∙ ap₂ (λ (u n : ℕ). current_bounds (last_quote quotes u) spread n) of.user
          present

      answers : Option Intervals → Type 0
      answers o = MatchOption o
          (IsSpreadJudgedAfresh market.network H number spread to.items told)
          (λ intervals. IsSpreadJudged market.network H number spread to.items intervals told)
