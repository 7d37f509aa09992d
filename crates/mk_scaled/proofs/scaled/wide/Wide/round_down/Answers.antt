use Rattle.mk_scaled.proofs.Cut.{rounds_down}
use Rattle.mk_scaled.proofs.scaled.wide.Wide.round_down.Goals as goal

pub returns : goal.returns
returns c = λ x h. rounds_down _ _ x _ c.narrow-narrow.ensures.form (c.narrow-narrow.ensures.same x h)
