use Rattle.std.proofs.Common.{sym, subst}
use Rattle.mk_user_engine.specs.declared.groups.Groups.{Groups}
use Rattle.mk_user_engine.specs.Grouped.{KeepsTogether}
use Rattle.mk_user_engine.proofs.groups.Groups.place_of.Goals as goal

pub returns-in-Some-clause-together : goal.returns-in-Some-clause-together
returns-in-Some-clause-together c = λ j. (j, λ x e. e)

pub returns-then-not-begin-clause-together : goal.returns-then-not-begin-clause-together
returns-then-not-begin-clause-together c =
    let made = c.begin.ensures in
    subst (λ (gs : Groups). KeepsTogether c.args.self.now.list.items gs.list.items)
    (sym (made.left c.if-not-begin.true)) (λ j. (j, λ x e. e))

pub returns-clause-together : goal.returns-clause-together
returns-clause-together c =
    let made = c.begin.ensures in let is = made.named c.if-not-begin.false in
    λ j. (j, λ x e. is.keeps j x e)
