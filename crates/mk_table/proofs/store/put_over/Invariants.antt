use Rattle.std.proofs.Common.{◌≡◌, length, take}
use Rattle.mk_table.proofs.store.put_over.Given as goal

abbrev pub invariant-loop-cell : goal.invariant-loop-cell
invariant-loop-cell l = record {
  long : length l.digits ≡ length l.from;
  long_exponents : length l.exponents ≡ length l.from;
  digits : take l.cell l.digits ≡ take l.cell l.from;
  exponents : take l.cell l.exponents ≡ take l.cell l.from_exponents;
}
