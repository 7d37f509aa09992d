use Rattle.mk_quote.proofs.Rightness.{allowed_by_both, none_allowed}
use Rattle.mk_quote.proofs.bounds.Bounds.allowed.Goals as goal

pub returns-then-low-high-clause-limit : goal.returns-then-low-high-clause-limit
returns-then-low-high-clause-limit c =
    allowed_by_both c.args.self.now c.hit_side.result c.miss_side.result c.in_ok-low.low c.in_ok-low.high c.in_ok-least.least c.in_ok-least.greatest _ _ c.hit_side.ensures c.miss_side.ensures
    c.in_ok-low.ensures.serves c.in_ok-least.ensures.serves c.in_ok-least.ensures.in_range c.max-low.ensures c.min-high.ensures

pub returns-else-low-high-clause-limit : goal.returns-else-low-high-clause-limit
returns-else-low-high-clause-limit c =
    none_allowed c.args.self.now c.max-low.result c.min-high.result
    (allowed_by_both c.args.self.now c.hit_side.result c.miss_side.result c.in_ok-low.low c.in_ok-low.high c.in_ok-least.least c.in_ok-least.greatest _ _ c.hit_side.ensures c.miss_side.ensures c.in_ok-low.ensures.serves c.in_ok-least.ensures.serves c.in_ok-least.ensures.in_range c.max-low.ensures c.min-high.ensures)
    c.if-low-high.false
