use Rattle.std.proofs.Common.{refl}
use Rattle.mk_rules.proofs.examples.example_spread_order.Goals as goal

pub returns : goal.returns
returns c = record {
  bounds_settled = refl;
  bounds_no_user = refl;
  bounds_no_variable = refl;
  bounds_unknown = refl;
  bounds_twice = refl;
  bounds_resolved = refl;
  bounds_impossible = refl;
  spread_settled = refl;
  spread_no_user = refl;
  spread_no_variable = refl;
  spread_unknown = refl;
  spread_twice = refl;
  spread_stale = refl;
  spread_resolved = refl;
  spread_impossible = refl;
  spread_wide = refl;
  spread_numbers = refl;
  spread_range = refl;
  spread_sum = refl;
}
