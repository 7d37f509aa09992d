use Rattle.std.proofs.Common.{◌&&◌, ap, ◌∙◌, arith}
use Rattle.mk_user_engine.specs.Names.{agrees}
use Rattle.mk_user_engine.proofs.kept.choose.Goals as goal

pub returns-clause-kept : goal.returns-clause-kept
returns-clause-kept c = λ k l.
    let names = c.args.names.now in
    let one = c.keep_pairs.ensures in
    let all = c.ask_all.ensures in
    c.keep_pairs-2.ensures.kept k (omega (arith, l, one.long, all.long))
    ∙ ap (λ b. b && agrees names c.args.event.now k) (one.kept k (omega (arith, l, all.long))
    ∙ ap (λ b. b && agrees names c.args.known.now k) (all.all k l))
