use Rattle.std.proofs.Common.{◌≡◌, true, sym, subst}
use Rattle.std.specs.Prelude.{List, Option, Some}
use Rattle.std.proofs.lemmas.Bool.{false≢true}
use Rattle.mk_net.specs.declared.words.Pair.{Pair}
use Rattle.mk_table.specs.Ratios.{has_pair}
use Rattle.mk_table.specs.inner.Touched.{IsPart, IsEitherWithin}
use Rattle.mk_table.proofs.Untouched.{part_holds}
use Rattle.mk_table.proofs.Taken.{common_keeps}
use Rattle.mk_table.proofs.touched.put_with_within.Goals as goal

pub returns-in-Some : goal.returns-in-Some
returns-in-Some c =
    let shared = c.common_within.result in
    subst (λ (o : Option (List Pair)). IsEitherWithin c.args.scope.now (Some c.args.event.now) o (Some shared)) (sym c.in-Some.is)
    (record {
      of_first = λ a h. part_holds shared c.args.event.now a c.common_within.ensures.first h;
      of_second = λ a h. part_holds shared c.in-Some.pairs a (subst (λ (ps : List Pair). IsPart shared ps) c.pairs.ensures.pairs c.common_within.ensures.second) h;
      there = c.common_within.ensures.there;
      kept = common_keeps c.args.scope.now c.args.event.now c.in-Some.pairs shared
          (λ p h k. c.common_within.ensures.all p h (subst (λ (ps : List Pair). has_pair ps p ≡ true) (sym c.pairs.ensures.pairs) k));
    })

pub returns-in-None : goal.returns-in-None
returns-in-None c =
    let after = c.put_pairs.new.out in
    subst (λ (o : Option (List Pair)). IsEitherWithin c.args.scope.now (Some c.args.event.now) o after) (sym c.in-None.is)
    (record {
      of_first = c.put_pairs.ensures.holds;
      of_second = λ a h. absurd (false≢true h);
      there = c.put_pairs.ensures.there;
      kept = c.put_pairs.ensures.kept;
    })
