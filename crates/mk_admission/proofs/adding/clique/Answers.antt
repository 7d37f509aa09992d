use Rattle.std.proofs.Common.{ℕ, ◌∷◌, ◌++◌, [], length, ap, ap₂, ◌∙◌, arith}
use Rattle.mk_admission.proofs.AddedCliques.{members_few, clique_is}
use Rattle.mk_admission.proofs.adding.clique.Goals as goal

pub in_order-clique-requires : goal.in_order-clique-requires
in_order-clique-requires c =
    members_few c.args.net.now c.args.add.now c.shared-others.result c.requires.untaken
    c.requires.covered c.shared-others.ensures
    (omega (arith, c.len.ensures.value, c.len.ensures.fits))

pub push-requires : goal.push-requires
push-requires c =
    let few = members_few c.args.net.now c.args.add.now c.shared-others.result c.requires.untaken
    c.requires.covered c.shared-others.ensures
    (omega (arith, c.len.ensures.value, c.len.ensures.fits)) in
    (omega arith, omega (arith, few, ap length c.in_order-clique.ensures))

pub returns : goal.returns
returns c =
    c.push.ensures.items
    ∙ ap₂ (λ xs (n : ℕ). xs ++ n ∷ []) c.in_order-clique.ensures c.variables.ensures.count
    ∙ clique_is c.args.net.now c.args.add.now c.shared-others.result c.requires.untaken
    c.requires.covered c.shared-others.ensures
