use Rattle.std.proofs.Common.{get_or-set_same}
use Rattle.mk_passes.proofs.times.times_at.Goals as goal

pub returns-clause-times : goal.returns-clause-times
returns-clause-times c = λ k w p s.
    let d = c.args.digits.now in let e = c.args.exponents.now in let n = c.args.cell in let r = c.times-product.result in
    rw (get_or-set_same d n r.digits 0 c.requires.within, get_or-set_same e n r.exponent 0 c.requires.within_exponents)
    (record { stands = λ j v m h. c.times-product.ensures.stands j k v w m p h s })
