use Rattle.std.proofs.Common.{sym, subst}
use Rattle.std.specs.Prelude.{List, Option}
use Rattle.mk_net.specs.declared.words.Pair.{Pair}
use Rattle.mk_table.specs.inner.Touched.{IsWithin}
use Rattle.mk_table.proofs.touched.put_within.Goals as goal

pub returns-in-Some : goal.returns-in-Some
returns-in-Some c = subst (λ (o : Option (List Pair)). IsWithin c.args.scope.now o c.put_pairs.new.out) (sym c.in-Some.is) c.put_pairs.ensures
