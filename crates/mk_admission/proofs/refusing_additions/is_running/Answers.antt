use Rattle.std.proofs.Common.{sym, ap, ◌∙◌}
use Rattle.std.specs.Prelude.{option_map}
use Rattle.mk_reply.specs.declared.refusal.Refusal.TheVariants.{NotRunning}
use Rattle.mk_admission.proofs.Finding.{found, missed}
use Rattle.mk_admission.proofs.AddedCliques.{running_is}
use Rattle.mk_admission.proofs.refusing_additions.is_running.Goals as goal

pub returns-in-Some : goal.returns-in-Some
returns-in-Some c =
    let names = c.as_slice-names.result.now in
    sym (running_is c.args.file.now c.args.add.now names c.clique-linked.result
    c.as_slice-names.ensures.value c.clique-linked.ensures c.requires.first c.requires.last
    ∙ ap (option_map NotRunning) (found _ names c.in-Some.place c.index-names-place.result
    c.in-Some.ensures.within c.in-Some.ensures.first c.index-names-place.is))

pub returns-in-None : goal.returns-in-None
returns-in-None c =
    let names = c.as_slice-names.result.now in
    sym (running_is c.args.file.now c.args.add.now names c.clique-linked.result
    c.as_slice-names.ensures.value c.clique-linked.ensures c.requires.first c.requires.last
    ∙ ap (option_map NotRunning) (missed _ names c.in-None.ensures.first))
