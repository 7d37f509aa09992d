use Rattle.std.proofs.Common.{refl}
use Rattle.mk_rules.proofs.examples.example_refusals.Goals as goal

pub returns : goal.returns
returns c = record {
  settled = refl;
  no_user = refl;
  exists = refl;
  crowded = refl;
  one_more = refl;
  unknown = refl;
  twice = refl;
  stale = refl;
  resolved = refl;
  impossible = refl;
  wide = refl;
  to_0 = refl;
  to_million = refl;
  many_bits = refl;
  full = refl;
  unresolved = refl;
  no_longer = refl;
  not_stale = refl;
  not_full = refl;
  in_a_clique = refl;
  under_a_condition = refl;
}
