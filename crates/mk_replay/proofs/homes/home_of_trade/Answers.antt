use Rattle.std.proofs.Common.{sym, ap, ◌∙◌}
use Rattle.mk_tree.specs.Given.{home}
use Rattle.mk_replay.proofs.HasHome.{no_home}
use Rattle.mk_replay.proofs.homes.home_of_trade.Goals as goal

pub unreachable-requires : goal.unreachable-requires
unreachable-requires c =
    no_home c.home.result _ c.in_default.is
    (c.home.ensures.home ∙ ap (home c.args.tree.now) c.event.ensures.pairs) c.requires

pub returns : goal.returns
returns c =
    sym (c.home.ensures.home ∙ ap (home c.args.tree.now) c.event.ensures.pairs) ∙ c.in-Some.is
