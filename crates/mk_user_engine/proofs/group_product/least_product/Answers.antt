use Rattle.std.proofs.Common.{arith}
use Rattle.mk_user_engine.specs.GroupProducts.{named_by}
use Rattle.mk_user_engine.proofs.Products.{has_least}
use Rattle.mk_user_engine.proofs.GroupProducts.{are_cells, named_few, listed_named}
use Rattle.mk_user_engine.proofs.group_product.least_product.Goals as goal

pub least-requires : goal.least-requires
least-requires c =
    let w = c.write_products-met in let names = c.args.names.now in
    let few = named_few names c.args.trades.now in
    are_cells names (named_by names c.args.trades.now) c.args.asked.now w.new.digits
    w.new.exponents w.result w.ensures (omega (arith, few, c.requires.few_trades))

pub returns : goal.returns
returns c =
    let w = c.write_products-met in let names = c.args.names.now in
    has_least names (named_by names c.args.trades.now) c.args.asked.now w.new.digits
    w.new.exponents w.result w.ensures c.least.result.digits c.least.result.exponent
    c.least.ensures

pub write_products-met-requires-clause-listed : goal.write_products-met-requires-clause-listed
write_products-met-requires-clause-listed c =
    listed_named c.args.names.now c.args.trades.now c.requires.trades
