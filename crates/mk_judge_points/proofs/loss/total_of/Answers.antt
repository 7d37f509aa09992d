use Rattle.std.proofs.Common.{◌≡◌, ◌+◌, ◌*◌, ◌^◌, arith, le_refl}
use Rattle.mk_cash.proofs.Losses.{million_in_range}
use Rattle.mk_cash.specs.inner.Within.{least_in_range}
use Rattle.mk_judge_points.proofs.loss.total_of.Goals as goal

pub raised-requires-clause-range : goal.raised-requires-clause-range
raised-requires-clause-range c = rw c.exact.ensures.upper (million_in_range c.args.variables c.requires.few)

pub returns-clause-grade : goal.returns-clause-grade
returns-clause-grade c =
    let s : c.args.variables * (0 + 4) ≡ 4 * c.args.variables = omega arith in
    rw (← s) (c.raised.ensures.grade 0 c.exact.ensures.grade)

pub returns-clause-upper : goal.returns-clause-upper
returns-clause-upper c =
    least_in_range c.raised.result (1000000 ^ c.args.variables) c.args.variables
    (record { grade = c.args.variables * (0 + 4); small = omega (arith, c.requires.few); has = c.raised.ensures.grade 0 c.exact.ensures.grade })
    (c.raised.ensures.encloses 1000000 c.exact.ensures.encloses) c.requires.few (le_refl _)
