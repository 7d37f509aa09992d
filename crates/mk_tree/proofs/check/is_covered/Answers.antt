use Rattle.std.proofs.Common.{rules, tests}
use Rattle.std.proofs.lemmas.Iterator.{YieldsList-from_slice}
use Rattle.std.proofs.lemmas.Iterator.Search.{any_from_yields_List}
use Rattle.mk_sets.specs.Sets.{IsSubset}
use Rattle.mk_tree.specs.Tests.{holds_family}
use Rattle.mk_tree.proofs.Families.{same_test}
use Rattle.mk_tree.proofs.check.is_covered.Goals as goal

pub returns : goal.returns
returns c =
    any_from_yields_List (holds_family c.args.net.now c.args.variable) _ _ _ c.any.ensures.ran (YieldsList-from_slice c.args.cliques.now (cc)) (λ x b q k. (
      search (rules, tests),
      same_test {P = IsSubset c.family-family.result x.now} b (holds_family c.args.net.now c.args.variable x.now)
          (search (rules, tests)) (c.family-family.ensures x.now),
    ))
