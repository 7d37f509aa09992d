use Rattle.mk_user_engine.specs.Narrow.{HaveProducts}
use Rattle.mk_user_engine.specs.GroupProducts.{named_by}
use Rattle.mk_user_engine.proofs.group_product.write_products.Given as goal

abbrev pub invariant-loop-cell : goal.invariant-loop-cell
invariant-loop-cell l = HaveProducts l.names (named_by l.names l.trades) l.asked l.digits
    l.exponents l.met l.cell
