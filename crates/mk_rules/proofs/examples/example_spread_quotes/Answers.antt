use Rattle.std.proofs.Common.{refl}
use Rattle.mk_rules.proofs.examples.example_spread_quotes.Goals as goal

pub returns : goal.returns
returns c = record {
  current = refl;
  no_quote = refl;
  other_variable = refl;
  other_value = refl;
  fewer_conditions = refl;
  other_order = refl;
  other_revision = refl;
  not_an_edit = refl;
  not_by_limits = refl;
}
