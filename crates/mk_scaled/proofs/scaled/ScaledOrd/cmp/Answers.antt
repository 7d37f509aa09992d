use Rattle.std.proofs.Common.{◌∙◌, ap₂, nat_cmp}
use Rattle.mk_scaled.proofs.Order.{cmp-keys}
use Rattle.mk_scaled.proofs.scaled.ScaledOrd.cmp.Goals as goal

pub returns : goal.returns
returns c =
    c.cmp.ensures ∙ ap₂ nat_cmp c.key.ensures.value c.key-2.ensures.value ∙ cmp-keys _ _ c.key.ensures.stored c.key-2.ensures.stored
