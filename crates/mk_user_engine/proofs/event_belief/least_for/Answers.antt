use Rattle.std.proofs.Common.{List, sym, ap, ◌∙◌}
use Rattle.std.specs.List.{list_any}
use Rattle.mk_net.specs.declared.words.Pair.{Pair}
use Rattle.mk_user_engine.specs.declared.names.Named.{Named}
use Rattle.mk_user_engine.specs.Names.{is_named}
use Rattle.mk_user_engine.proofs.GroupLeast.{kept_for}
use Rattle.mk_user_engine.proofs.event_belief.least_for.Goals as goal

pub returns : goal.returns
returns c =
    let g = c.args.group.now in let event = c.args.event.now in
    kept_for g c.args.trades.now c.args.known.now event c.args.kept
    (sym (ap (λ (ns : List Named). list_any (λ (p : Pair). is_named ns p.variable) event)
    c.deref.ensures.0) ∙ sym c.names_one.ensures ∙ c.if-names_one.false) c.requires.kept
