use Rattle.std.proofs.Common.{refl}
use Rattle.mk_rules.proofs.examples.example_spread_refusals.Goals as goal

pub returns : goal.returns
returns c = record {
  settled = refl;
  no_user = refl;
  no_variable = refl;
  unknown = refl;
  twice = refl;
  own_variable = refl;
  stale = refl;
  resolved = refl;
  impossible = refl;
  wide = refl;
  one_more = refl;
  to_0 = refl;
  to_million = refl;
  last_number = refl;
  one_less = refl;
  full = refl;
  not_stale = refl;
  under_a_condition = refl;
  bounds_at_full = refl;
}
