use Rattle.std.proofs.Common.{refl}
use Rattle.mk_rules.proofs.examples.example_order.Goals as goal

pub returns : goal.returns
returns c = record {
  user_settled = refl;
  user_exists = refl;
  deposit_settled = refl;
  deposit_no_user = refl;
  deposit_range = refl;
  deposit_full = refl;
  withdraw_settled = refl;
  withdraw_no_user = refl;
  withdraw_range = refl;
  withdraw_full = refl;
  price_settled = refl;
  price_unknown = refl;
  price_twice = refl;
  price_resolved = refl;
  price_impossible = refl;
  limits_settled = refl;
  limits_no_user = refl;
  limits_unknown = refl;
  limits_twice = refl;
  limits_resolved = refl;
  limits_impossible = refl;
  edit_settled = refl;
  edit_no_user = refl;
  edit_unknown = refl;
  edit_twice = refl;
  edit_stale = refl;
  edit_resolved = refl;
  edit_impossible = refl;
  edit_wide = refl;
  edit_range = refl;
  worst_settled = refl;
  resolve_settled = refl;
  resolve_unknown = refl;
  settle_settled = refl;
  paid_unsettled = refl;
  paid_no_user = refl;
}
