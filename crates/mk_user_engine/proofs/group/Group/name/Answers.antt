use Rattle.std.proofs.Common.{arith}
use Rattle.std.proofs.lemmas.List.Elements.{All-push}
use Rattle.mk_user_engine.specs.Names.{IsSized}
use Rattle.mk_user_engine.proofs.Coded.{strided_push}
use Rattle.mk_user_engine.proofs.group.Group.name.Goals as goal

pub returns-clause-grown : goal.returns-clause-grown
returns-clause-grown c = λ sizes h is.
    let old = c.args.self.now in let pushed = c.push.ensures in record {
      strided = rw pushed.items (strided_push 1 old.names.items old.cells c.args.variable
          c.args.values h.strided is.some);
      sized = rw pushed.items (All-push (IsSized sizes) old.names.items _ h.sized is);
      few_cells = omega (arith, c.if-self-values.false);
    }
