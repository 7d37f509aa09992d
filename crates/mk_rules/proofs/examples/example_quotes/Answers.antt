use Rattle.std.proofs.Common.{refl}
use Rattle.mk_rules.proofs.examples.example_quotes.Goals as goal

pub returns : goal.returns
returns c = record {
  current = refl;
  no_quote = refl;
  other_target = refl;
  fewer_conditions = refl;
  other_order = refl;
  other_revision = refl;
  own_place = refl;
  other_user = refl;
  no_place = refl;
}
