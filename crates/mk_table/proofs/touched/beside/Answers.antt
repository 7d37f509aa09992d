use Rattle.std.proofs.Common.{sym, subst}
use Rattle.std.specs.Prelude.{List, Option, None}
use Rattle.mk_net.specs.declared.words.Pair.{Pair}
use Rattle.mk_table.specs.inner.Touched.{IsBeside}
use Rattle.mk_table.proofs.Untouched.{contradicted}
use Rattle.mk_table.proofs.touched.beside.Goals as goal

pub returns-then-contradicts_pair : goal.returns-then-contradicts_pair
returns-then-contradicts_pair c =
    subst (λ (o : Option (List Pair)). IsBeside c.args.pair o None) (sym c.in-Some.is) (contradicted c.in-Some.event c.args.pair (rw (← c.pairs.ensures.pairs, ← c.contradicts_pair.ensures) c.if-contradicts_pair.true))
