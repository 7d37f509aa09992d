use Rattle.std.proofs.Common.{take}
use Rattle.mk_user_engine.specs.Narrow.{HasProduct}
use Rattle.mk_user_engine.specs.GroupProducts.{named_by}
use Rattle.mk_user_engine.proofs.group_product.product_at.Given as goal

abbrev pub invariant-loop-k : goal.invariant-loop-k
invariant-loop-k l = HasProduct l.names (take l.k (named_by l.names l.trades)) l.cell
    l.product.digits l.product.exponent l.met
