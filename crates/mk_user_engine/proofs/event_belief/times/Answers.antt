use Rattle.std.proofs.Common.{◌||◌, refl, sym, ap, ◌∙◌}
use Rattle.mk_user_engine.proofs.GroupCells.{first_cell, other_cell, times_one, times_other}
use Rattle.mk_user_engine.proofs.GroupCells.{absent_product}
use Rattle.mk_user_engine.proofs.event_belief.times.Goals as goal

pub returns-then-is_one : goal.returns-then-is_one
returns-then-is_one c = λ ts ps gs g h k.
    times_one ts ps gs g c.args.product c.args.other h k (c.is_one.ensures.unmet c.if-is_one.true)
    (c.is_one.ensures.one c.if-is_one.true)

pub times-requires-clause-cell : goal.times-requires-clause-cell
times-requires-clause-cell c =
    let r = c.requires.range in
    first_cell r.trades r.pairs r.groups r.group c.args.product c.args.other r.so_far r.has_one
    r.few

pub times-requires-clause-other_cell : goal.times-requires-clause-other_cell
times-requires-clause-other_cell c =
    let r = c.requires.range in
    other_cell r.trades r.pairs r.groups r.group c.args.product c.args.other r.so_far r.has_one
    r.few

pub returns-then-product : goal.returns-then-product
returns-then-product c = λ ts ps gs g h k.
    let a = c.args.product in let b = c.args.other in let made = c.times.result in
    times_other ts ps gs g a b h k made.digits made.exponent a.met
    (c.if-product.true ∙ sym (ap (λ m. m || b.met) c.if-product.true))
    (c.is_one.ensures.other c.if-is_one.false)
    (λ i j v w n p s t. c.times.ensures.stands i j v w n p s t)
    (absent_product a.least.digits b.least.digits _ made.digits made.exponent
    c.times.ensures.rounded)
    (record { least = made; met = a.met }) refl refl refl

pub returns-else-product : goal.returns-else-product
returns-else-product c = λ ts ps gs g h k.
    let a = c.args.product in let b = c.args.other in let made = c.times.result in
    times_other ts ps gs g a b h k made.digits made.exponent b.met
    (sym (ap (λ m. m || b.met) c.if-product.false))
    (c.is_one.ensures.other c.if-is_one.false)
    (λ i j v w n p s t. c.times.ensures.stands i j v w n p s t)
    (absent_product a.least.digits b.least.digits _ made.digits made.exponent
    c.times.ensures.rounded)
    (record { least = made; met = b.met }) refl refl refl
