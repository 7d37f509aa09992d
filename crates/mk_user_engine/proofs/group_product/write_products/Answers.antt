use Rattle.std.proofs.Common.{◌||◌, sym, ap, ◌∙◌}
use Rattle.mk_user_engine.specs.GroupProducts.{named_by}
use Rattle.mk_user_engine.proofs.Products.{products_more, written_absent, written_product}
use Rattle.mk_user_engine.proofs.group_product.write_products.Goals as goal
use Rattle.mk_user_engine.proofs.group_product.write_products.Goals.{then-asked-cell+then-met}
use Rattle.mk_user_engine.proofs.group_product.write_products.Goals.{then-asked-cell+else-met}
use Rattle.mk_user_engine.proofs.group_product.write_products.Goals.{else-asked-cell}

pub loop-cell-preserved : goal.loop-cell-preserved
loop-cell-preserved c =
    let names = c.args.names.now in let ts = named_by names c.args.trades.now in
    let asked = c.args.asked.now
    in let k = c.loop-cell.cell in let before = c.loop-cell.met in
    products_more names ts asked c.loop-cell.digits c.loop-cell.exponents before k
    c.if-asked-cell.product.digits c.if-asked-cell.product.exponent c.if-asked-cell.met
    c.loop-cell.invariant c.loop-cell-test.true
    (elim c.if-asked-cell.branch [
      | then-asked-cell+then-met w ↦ rw (w.product-is)
          (written_product names ts asked k _ _ w.product_at-made.result.1 before
          c.if-asked-cell.met w.if-asked-cell.true w.product_at-made.ensures
          (w.met-is ∙ w.if-met.true
          ∙ sym (ap (λ b. b || w.product_at-made.result.1) w.if-met.true)))
      | then-asked-cell+else-met w ↦ rw (w.product-is)
          (written_product names ts asked k _ _ w.product_at-made.result.1 before
          c.if-asked-cell.met w.if-asked-cell.true w.product_at-made.ensures
          (w.met-is ∙ sym (ap (λ b. b || w.product_at-made.result.1) w.if-met.false)))
      | else-asked-cell w ↦ rw (w.product-is, w.met-is) (written_absent names ts asked k before
          w.if-asked-cell.false)
    ])
