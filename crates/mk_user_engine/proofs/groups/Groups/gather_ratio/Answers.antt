use Rattle.std.proofs.Common.{rules, ◌≡◌, List, All, length, sym, subst}
use Rattle.mk_net.specs.declared.words.Pair.{Pair}
use Rattle.mk_net.specs.Network.{sizes}
use Rattle.mk_scope.specs.Scopes.{HasSized}
use Rattle.mk_user_engine.specs.Names.{IsSize}
use Rattle.mk_user_engine.proofs.groups.Groups.gather_ratio.Goals as goal

pub returns-in-Some-clause-grown : goal.returns-in-Some-clause-grown
returns-in-Some-clause-grown c = λ m has size sized.
    let long : length c.args.ratio.now.factors.items ≡ c.len.result = search rules in
    c.gather_pairs.ensures.grown m (c.place_of.ensures.grown (sizes m) has (subst (λ n. IsSize
    (sizes m) c.args.ratio.now.variable n) long size))
    (subst (λ (ps : List Pair). All (λ (p : Pair). HasSized m c.args.scope.now p.variable) ps)
    (sym c.pairs.ensures.pairs) sized)

pub returns-in-Some-clause-together : goal.returns-in-Some-clause-together
returns-in-Some-clause-together c = λ j.
    let made = c.gather_pairs.ensures in let kept = made.kept in
    let a = c.place_of.ensures.together j in let b = kept.together a.0 in
    (b.0, λ x e. b.1 x (a.1 x e))
