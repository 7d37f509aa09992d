use Rattle.std.proofs.Common.{refl}
use Rattle.mk_rules.proofs.examples.example_told_order.Goals as goal

pub returns : goal.returns
returns c = record {
  settled = refl;
  no_variable = refl;
  unknown = refl;
  twice = refl;
  resolved = refl;
  impossible = refl;
  wide = refl;
  cannot_come = refl;
  other_order = refl;
  of_settled = refl;
  of_no_user = refl;
  of_no_variable = refl;
  of_unknown = refl;
  of_twice = refl;
  of_resolved = refl;
  of_impossible = refl;
  of_wide = refl;
  of_no_state = refl;
  status_settled = refl;
  sure = refl;
  of_sure = refl;
  dry_rain = refl;
}
