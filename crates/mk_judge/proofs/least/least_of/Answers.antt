use Rattle.std.proofs.Common.{◌≡◌, arith}
use Rattle.mk_exact.specs.Factors.{Fraction}
use Rattle.mk_enclose.specs.declared.factor.Factor.{Factor}
use Rattle.mk_enclose.specs.declared.enclosure.Enclosure.{Enclosure}
use Rattle.mk_enclose.specs.Enclosure.{IsExact}
use Rattle.mk_judge.specs.declared.least.Least.{Least}
use Rattle.mk_judge.specs.declared.least.Least.TheVariants.{Units, TooMany, Unsure}
use Rattle.mk_judge.specs.inner.Solvency.{SaysLeast, SaysLeastOf}
use Rattle.mk_judge.proofs.Solving.{held_beside, idle_held}
use Rattle.mk_judge.proofs.least.least_of.Goals as goal

-- of a gain that was not rounded nothing is left open
exactly : (l : Least) (gain : Enclosure) (factor : Factor) (q : Fraction) → IsExact gain → SaysLeastOf l gain q.num q.den → SaysLeast l factor q
exactly (Units n) gain factor q exact h = h
exactly TooMany gain factor q exact h = λ F fits solvent. let l = h F fits in omega (arith, l, solvent)
exactly Unsure gain factor q exact h = absurd (h.0 exact)

traded : (l : Least) (factor : Factor) (q : Fraction) → (factor.trades ≡ 0 → ⊥) → SaysLeastOf l factor.gain q.num q.den → SaysLeast l factor q
traded (Units n) factor q busy h = h
traded TooMany factor q busy h = λ F fits solvent. let l = h F fits in omega (arith, l, solvent)
traded Unsure factor q busy h = λ n is. record { traded = busy; near = λ g graded. h.1 n is g graded }

pub returns-then-factor-eq0-clause-least : goal.returns-then-factor-eq0-clause-least
returns-then-factor-eq0-clause-least c = λ q held.
    let scale = c.of_trade-scale in
    exactly c.least_between.result c.exact.result c.args.factor.now q c.exact.ensures.exact
    (c.least_between.ensures.least 1 q.num q.den c.exact.ensures.encloses (idle_held c.args.factor.now q scale.result held c.if-factor-eq0.true scale.ensures.gained scale.ensures.owed))

pub returns-else-factor-eq0-clause-least : goal.returns-else-factor-eq0-clause-least
returns-else-factor-eq0-clause-least c = λ q held.
    let scale = c.of_trade-scale in
    traded c.least_between-else-factor-eq0.result c.args.factor.now q c.if-factor-eq0.false
    (c.least_between-else-factor-eq0.ensures.least held.stands.gain q.num q.den held.stands.encloses (held_beside c.args.factor.now q scale.result held.stands scale.ensures.gained scale.ensures.owed))
