use Rattle.std.proofs.Common.{refl}
use Rattle.mk_rules.proofs.examples.example_add_order.Goals as goal

pub returns : goal.returns
returns c = record {
  settled = refl;
  full = refl;
  taken = refl;
  value = refl;
  parent = refl;
  own_parent = refl;
  in_clique = refl;
  parent_twice = refl;
  twice_there = refl;
  link = refl;
  no_clique = refl;
  cover = refl;
  cover_parent = refl;
  running = refl;
  rows = refl;
  width = refl;
  range = refl;
  sums = refl;
  large = refl;
  many = refl;
  fewer = refl;
  after_all = refl;
}
