use Rattle.std.proofs.Common.{get_or, arith}
use Rattle.mk_passes.proofs.Making.{can_add}
use Rattle.mk_passes.proofs.again.plus_at_chosen.Goals as goal

pub put_sums-requires : goal.put_sums-requires
put_sums-requires g c = record {
  each = λ i z l. can_add c.args.from.digits.now c.args.from.exponents.now c.args.lists.bases.now c.args.lists.offsets.now c.args.lists.run c.requires.some c.requires.few c.requires.within c.requires.room
      (get_or c.args.chosen.now i z) (c.requires.chosen i z l);
  digits_reach = λ i z l. let p = c.requires.chosen i z l in omega (arith, p, c.requires.digits);
  exponents_reach = λ i z l. let p = c.requires.chosen i z l in omega (arith, p, c.requires.exponents);
}

pub returns : goal.returns
returns g c =
    let h = c.put_sums.ensures in
    record { as_many_digits = h.as_many_digits; as_many_exponents = h.as_many_exponents; stand = h.made; digits_left = h.digits_left; exponents_left = h.exponents_left }
