use Rattle.std.proofs.Common.{ℕ, ◌≤◌, inl, inr, Option, Some, None, SomeIff, MatchOption, arith}
use Rattle.mk_exact.specs.Limits.{Inside}
use Rattle.mk_quote.specs.declared.side.SideBounds.{SideBounds}
use Rattle.mk_quote.specs.Sides.{Serves, interval_for}
use Rattle.mk_quote.proofs.Reaching.{interval_in_range, interval_serves}
use Rattle.mk_quote.proofs.Rightness.{within}
use Rattle.mk_quote.proofs.side.SideBounds.judge_share.Goals as goal

judged : (bounds : SideBounds) (X F : ℕ) → 1 ≤ X → X ≤ 999999 → (o : Option ℕ) → SomeIff o (Serves bounds X) F
    → MatchOption o (¬ Inside (interval_for bounds) X) (λ units. Inside (interval_for bounds) X)
judged bounds X F p q None none = λ inside. none ((interval_serves bounds X p q).0 inside)
judged bounds X F p q (Some units) serves = (interval_serves bounds X p q).1 serves.0

pub returns-then-x-lt1-clause-inside : goal.returns-then-x-lt1-clause-inside
returns-then-x-lt1-clause-inside c = λ inside.
    let w = within (interval_for c.args.self.now) (interval_in_range c.args.self.now) c.args.x inside in
    elim c.then-x-lt1.either as (λ _. ⊥) [ inl below ↦ omega (arith, w.0, below) | inr above ↦ omega (arith, w.1, above.1) ]

pub returns-clause-inside : goal.returns-clause-inside
returns-clause-inside c = judged c.args.self.now c.args.x _ c.if-x-lt1.false (omega (arith, c.if-x-ge-MILLION.false)) c.judge.result c.judge.ensures
