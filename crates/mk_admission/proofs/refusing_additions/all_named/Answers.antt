use Rattle.std.proofs.Common.{sym, ap}
use Rattle.std.specs.Prelude.{option_map}
use Rattle.mk_reply.specs.declared.refusal.Refusal.TheVariants.{NoVariable}
use Rattle.mk_admission.proofs.Finding.{found, missed}
use Rattle.mk_admission.proofs.refusing_additions.all_named.Goals as goal

pub returns-in-Some : goal.returns-in-Some
returns-in-Some c =
    sym (ap (option_map NoVariable) (found _ c.args.names.now c.in-Some.place
    c.index-names-place.result c.in-Some.ensures.within c.in-Some.ensures.first
    c.index-names-place.is))

pub returns-in-None : goal.returns-in-None
returns-in-None c =
    sym (ap (option_map NoVariable) (missed _ c.args.names.now c.in-None.ensures.first))
