use Rattle.std.proofs.Common.{◌<◌, sym, ◌∙◌, subst, arith, length, slice_index_or}
use Rattle.std.specs.Prelude.{All}
use Rattle.mk_net.specs.Bounds.{max_variables}
use Rattle.mk_rules.specs.Additions.{numbers_named}
use Rattle.mk_admission.proofs.Numbered.{numbers_below_length}
use Rattle.mk_admission.proofs.adding.shared.Goals as goal

pub clique_set-requires : goal.clique_set-requires
clique_set-requires c =
    let net = c.args.net.now in let names = c.args.add.now.clique.items in
    subst (All (λ v. v < max_variables)) (sym (c.as_slice.ensures.value ∙ c.numbers-named.ensures))
    (λ k d inside.
    let below : slice_index_or (numbers_named net names) k d < length net =
    numbers_below_length net names k d inside in
    omega (arith, below, c.variables.ensures.network.few))
