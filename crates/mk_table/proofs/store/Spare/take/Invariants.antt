use Rattle.std.proofs.Common.{◌≡◌, take, vec_capacity}
use Rattle.mk_table.proofs.store.Spare.take.Given as goal

abbrev pub invariant-loop-cell : goal.invariant-loop-cell
invariant-loop-cell l = record {
  digits : l.self.digits.items ≡ take l.cell l.digits;
  exponents : l.self.exponents.items ≡ take l.cell l.exponents;
  digits_room : vec_capacity l.self.digits ≡ vec_capacity l.initial.self.digits;
  exponents_room : vec_capacity l.self.exponents ≡ vec_capacity l.initial.self.exponents;
}
