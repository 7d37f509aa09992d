use Rattle.std.proofs.Common.{ap, ◌∙◌}
use Rattle.mk_cash.specs.Dues.{due_traded}
use Rattle.mk_cash.proofs.Dues.{low_in_range, high_in_range, due_kept, due_is}
use Rattle.mk_cash.proofs.due.Due.trade.Goals as goal

pub mul_down-self-inside-requires : goal.mul_down-self-inside-requires
mul_down-self-inside-requires c =
    rw c.of_whole-ratio.ensures
    (low_in_range c.args.units _ c.requires.some_units c.requires.units_fit
    (rw (← c.self.view_is) at c.requires.room) c.self.invariant)

pub mul_up-self-inside-requires : goal.mul_up-self-inside-requires
mul_up-self-inside-requires c =
    rw c.of_whole-ratio.ensures
    (high_in_range c.args.units _ c.requires.some_units c.requires.units_fit
    (rw (← c.self.view_is) at c.requires.room) c.self.invariant)

pub invariant_of-self : goal.invariant_of-self
invariant_of-self c =
    due_kept c.args.units _ c.requires.some_units c.requires.units_fit
    (rw (← c.self.view_is) at c.requires.room) c.self.invariant _ _
    (rw c.of_whole-ratio.ensures at c.mul_down-self-inside.ensures)
    (rw c.of_whole-ratio.ensures at c.mul_up-self-inside.ensures)

pub returns : goal.returns
returns c =
    due_is c.args.units _ c.requires.some_units c.requires.units_fit
    (rw (← c.self.view_is) at c.requires.room) c.self.invariant _ _
    (rw c.of_whole-ratio.ensures at c.mul_down-self-inside.ensures)
    (rw c.of_whole-ratio.ensures at c.mul_up-self-inside.ensures)
    ∙ ap (due_traded c.args.units) c.self.view_is
