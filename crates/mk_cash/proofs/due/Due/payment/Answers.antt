use Rattle.mk_cash.proofs.Dues.{low_power_in_range, high_power_in_range}
use Rattle.mk_cash.proofs.due.Due.payment.Goals as goal

pub pow_down-requires-clause-range : goal.pow_down-requires-clause-range
pow_down-requires-clause-range c =
    low_power_in_range c.args.points_per_bit _ c.requires.few_points c.self.invariant

pub pow_up-requires-clause-range : goal.pow_up-requires-clause-range
pow_up-requires-clause-range c =
    high_power_in_range c.args.points_per_bit _ c.requires.few_points c.self.invariant
