use Rattle.mk_scaled.proofs.Ranges.{near_range, shifted_exactly}
use Rattle.mk_scaled.specs.inner.Closeness.{representable_form}
use Rattle.mk_scaled.proofs.scaled.Scaled.shift.Goals as goal

pub shifted-requires : goal.shifted-requires
shifted-requires c = near_range _ c.requires

pub returns : goal.returns
returns c =
    shifted_exactly _ c.args.self.now c.args.k (rw (← c.self.view_is) (representable_form _ _ c.self.invariant)) (c.round_down.ensures _ c.shifted.ensures.exact)
