use Rattle.std.proofs.Common.{◌&&◌, All, List, sym}
use Rattle.std.proofs.Common.{ap, subst, ◌∙◌, arith}
use Rattle.mk_user_engine.specs.declared.names.Named.{Named}
use Rattle.mk_user_engine.specs.declared.kept.KeptLeast.{KeptLeast}
use Rattle.mk_user_engine.specs.Names.{CanDivide, agrees}
use Rattle.mk_user_engine.specs.Narrow.{HasLeast}
use Rattle.mk_user_engine.specs.GroupProducts.{named_by}
use Rattle.mk_user_engine.proofs.Coded.{can_divide}
use Rattle.mk_user_engine.proofs.GroupLeast.{group_least}
use Rattle.mk_user_engine.proofs.kept.least_asked.Goals as goal

pub choose-requires-clause-names : goal.choose-requires-clause-names
choose-requires-clause-names c =
    let g = c.args.group.now in let is = (c.requires.group).1 in
    subst (λ (ns : List Named). All CanDivide ns) (sym c.deref.ensures.0)
    (can_divide g.names.items g.cells is.strided)

pub least_product-met-requires-clause-names : goal.least_product-met-requires-clause-names
least_product-met-requires-clause-names c =
    let g = c.args.group.now in let is = (c.requires.group).1 in
    subst (λ (ns : List Named). All CanDivide ns) (sym c.deref-2.ensures.0)
    (can_divide g.names.items g.cells is.strided)

pub returns : goal.returns
returns c =
    let g = c.args.group.now in let ts = c.args.trades.now in let asked = c.choose.new.asked in
    let found = c.least_product-met in
    let made : KeptLeast = record { least = found.result.0; met = found.result.1 } in
    group_least g ts c.args.known.now c.args.event.now asked
    (c.choose.ensures.long ∙ c.requires.long)
    (λ k l. c.choose.ensures.kept k (omega (arith, l, c.requires.long))
    ∙ ap (λ (ns : List Named). agrees ns c.args.known.now k && agrees ns c.args.event.now k)
    c.deref.ensures.0) made
    (subst (λ (ns : List Named). HasLeast ns (named_by ns ts) asked made.least.digits
    made.least.exponent made.met) c.deref-2.ensures.0 found.ensures)
