use Rattle.std.proofs.Common.{ℕ, Some, arith, sym, ◌∙◌, refl}
use Rattle.std.proofs.lemmas.Bool.{false≢true}
use Rattle.mk_exact.specs.Limits.{Inside}
use Rattle.mk_judge_quotes.proofs.SpreadingLists.{zip_at, zip_from, zip_long}
use Rattle.mk_judge_quotes.proofs.spreads.are_all_inside.Goals as goal

pub returns-then-intervals-to : goal.returns-then-intervals-to
returns-then-intervals-to c = (
  λ no. absurd (false≢true no),
  λ zip. absurd (c.if-intervals-to.true (zip_long (λ (interval : ℕ × ℕ) (X : ℕ). Inside (Some interval) X) c.args.intervals.now c.args.to.now zip)),
)

pub returns-then-not-is_inside : goal.returns-then-not-is_inside
returns-then-not-is_inside c = (
  λ no. absurd (false≢true no),
  λ zip. absurd (false≢true (sym c.if-not-is_inside.true ∙ c.is_inside.ensures.1
      (zip_at (λ (interval : ℕ × ℕ) (X : ℕ). Inside (Some interval) X) c.args.intervals.now c.args.to.now c.loop-index.index (0, 0) 0 zip
      (omega (arith, c.if-intervals-to.false, c.loop-index-test.true))))),
)

pub returns : goal.returns
returns c = (
  λ yes. zip_from (λ (interval : ℕ × ℕ) (X : ℕ). Inside (Some interval) X) c.args.intervals.now c.args.to.now (0, 0) 0 c.if-intervals-to.false
      (λ k p. c.loop-index.invariant k (omega (arith, p, c.if-intervals-to.false, c.loop-index-test.false))),
  λ zip. refl,
)
