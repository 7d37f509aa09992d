use Rattle.std.proofs.Common.{◌≡◌, true, sym, subst}
use Rattle.std.specs.Prelude.{List, Option, Some}
use Rattle.mk_net.specs.declared.words.Pair.{Pair}
use Rattle.mk_table.specs.Ratios.{has_pair}
use Rattle.mk_table.specs.inner.Touched.{IsPart, IsEither}
use Rattle.mk_table.proofs.Untouched.{shared_pairs}
use Rattle.mk_table.proofs.touched.take_either.Goals as goal

pub returns-in-Some-touched : goal.returns-in-Some-touched
returns-in-Some-touched c =
    subst (λ (o : Option (List Pair)). IsEither o c.args.other.now (Some c.keep_common.new.event)) (sym c.in-Some-touched.is)
    (subst (λ (o : Option (List Pair)). IsEither (Some c.in-Some-touched.kept) o (Some c.keep_common.new.event)) (sym c.in-Some.is)
    (shared_pairs c.in-Some-touched.kept c.in-Some.event c.keep_common.new.event c.keep_common.ensures.first (subst (λ (ps : List Pair). IsPart c.keep_common.new.event ps) c.pairs.ensures.pairs c.keep_common.ensures.second)
    (λ p h k. c.keep_common.ensures.all p h (subst (λ (ps : List Pair). has_pair ps p ≡ true) (sym c.pairs.ensures.pairs) k))))
