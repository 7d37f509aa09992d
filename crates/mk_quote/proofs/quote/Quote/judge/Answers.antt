use Rattle.std.proofs.Common.{ℕ, ◌≤◌, Option, Some, None, MatchOption}
use Rattle.mk_exact.specs.Limits.{Inside}
use Rattle.mk_quote.specs.declared.bounds.Bounds.{Bounds}
use Rattle.mk_quote.specs.Bounds.{Allows, limits_for}
use Rattle.mk_quote.proofs.Reaching.{limits_allow}
use Rattle.mk_quote.proofs.quote.Quote.judge.Goals as goal

inside : (bounds : Bounds) (X : ℕ) → 1 ≤ X → X ≤ 999999 → (o : Option (ℕ × ℕ)) → MatchOption o (¬ Allows bounds X) (λ units. Allows bounds X)
    → MatchOption o (¬ Inside (limits_for bounds) X) (λ units. Inside (limits_for bounds) X)
inside bounds X p q None none = λ i. none ((limits_allow bounds X p q).0 i)
inside bounds X p q (Some units) allows = (limits_allow bounds X p q).1 allows

pub returns-clause-inside : goal.returns-clause-inside
returns-clause-inside c = inside c.args.self.now.bounds c.args.x c.requires.positive c.requires.at_most _ c.judge.ensures.allows
