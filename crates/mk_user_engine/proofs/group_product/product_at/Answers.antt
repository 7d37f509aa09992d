use Rattle.std.proofs.Common.{true, ◌<◌, List, length, take, sym, subst, ◌∙◌, arith}
use Rattle.std.proofs.lemmas.List.{length-take-le}
use Rattle.mk_cell.specs.inner.Laws.{has_room}
use Rattle.mk_user_engine.specs.declared.narrow.PlacedRatio.{PlacedRatio}
use Rattle.mk_user_engine.specs.Narrow.{HasProduct}
use Rattle.mk_user_engine.specs.GroupProducts.{named_by}
use Rattle.mk_user_engine.proofs.Over.{taken_next}
use Rattle.mk_user_engine.proofs.Products.{product_met, product_left}
use Rattle.mk_user_engine.proofs.GroupProducts.{named_few, product_cell}
use Rattle.mk_user_engine.proofs.group_product.product_at.Goals as goal
use Rattle.mk_user_engine.proofs.group_product.product_at.Goals.{in-Some, in_default}

pub times-product-requires-clause-cell : goal.times-product-requires-clause-cell
times-product-requires-clause-cell c =
    let names = c.args.names.now in let ts = c.args.trades.now in let i = c.loop-k.k in
    let rs = named_by names ts in let places = c.requires.places in
    let few = named_few names ts in
    let taken = length-take-le i rs (omega (arith, c.loop-k-test.true, places.one_each)) in
    product_cell names c.args.cell (take i rs) c.loop-k.product.digits c.loop-k.product.exponent
    c.loop-k.met
    (omega (
      arith,
      few,
      taken,
      c.loop-k-test.true,
      places.one_each,
      c.requires.few_trades,
    )) c.loop-k.invariant

pub times-product-requires-clause-other_cell : goal.times-product-requires-clause-other_cell
times-product-requires-clause-other_cell c = has_room 40 _ _ _ 0 (omega arith)
    (omega arith) c.of_whole.ensures

pub loop-k-preserved : goal.loop-k-preserved
loop-k-preserved c =
    let names = c.args.names.now in let ts = c.args.trades.now in let i = c.loop-k.k in
    let rs = named_by names ts in let places = c.requires.places in
    let t = c.index-trades-places.result in
    let within : i < length rs = omega (arith, c.loop-k-test.true, places.one_each) in
    let next = taken_next rs i t within
    (c.index-trades-places.is ∙ sym (places.each i t c.loop-k-test.true)) in
    let old = c.loop-k.product in
    elim c.match-units_in.branch [
      | in-Some w ↦ rw (w.product-is, w.met-is)
          (subst (λ (ys : List PlacedRatio). HasProduct names ys c.args.cell
          w.times-product.result.digits w.times-product.result.exponent true) next
          (product_met names c.args.cell (take i rs) t old.digits old.exponent c.loop-k.met
          w.in-Some.units w.times-product.result.digits w.times-product.result.exponent
          c.loop-k.invariant w.in-Some.ensures.met w.in-Some.ensures.units
          (λ v n s. w.times-product.ensures.stands _ 40 v w.in-Some.units n 0 s
          w.of_whole.ensures)))
      | in_default w ↦ rw (w.product-is, w.met-is)
          (subst (λ (ys : List PlacedRatio). HasProduct names ys c.args.cell old.digits
          old.exponent c.loop-k.met) next
          (product_left names c.args.cell (take i rs) t old.digits old.exponent
          c.loop-k.met c.loop-k.invariant w.in_default.ensures.left))
    ]
