use Rattle.std.proofs.Common.{◌∙◌}
use Rattle.mk_tree.proofs.Tested.{apart_at, none_apart}
use Rattle.mk_tree.proofs.check.first_apart.Goals as goal

pub returns-in_err-variable : goal.returns-in_err-variable
returns-in_err-variable c network inside =
    c.from_residual.ensures ∙ none_apart network (record { cliques = c.args.cliques.now; links = c.args.links.now }) c.with_several_tops.result
    c.with_several_tops.ensures c.in_err-variable.ensures.none

pub returns : goal.returns
returns c network inside =
    apart_at network (record { cliques = c.args.cliques.now; links = c.args.links.now }) c.with_several_tops.result c.in_ok-variable.variable inside
    c.with_several_tops.ensures c.in_ok-variable.ensures.member c.in_ok-variable.ensures.least
