use Rattle.std.proofs.Common.{sym, ap, ◌∙◌, arith, take}
use Rattle.mk_rules.specs.Additions.{is_among}
use Rattle.mk_admission.proofs.Finding.{repeats_next}
use Rattle.mk_admission.proofs.refusing_additions.first_repeat.Goals as goal

pub loop-place-preserved : goal.loop-place-preserved
loop-place-preserved c =
    let names = c.args.names.now in let k = c.loop-place.place in
    repeats_next names k c.index-names-place.result (omega arith) c.loop-place.invariant
    (ap (is_among (take k names)) (sym c.index-names-place.is)
    ∙ sym c.is_among.ensures ∙ c.if-is_among.false)
