use Rattle.std.proofs.Common.{ap, length}
use Rattle.mk_admission.proofs.AddedRows.{width_found, width_missed}
use Rattle.mk_admission.proofs.refusing_rows.are_wide.Goals as goal

pub returns-in-Some : goal.returns-in-Some
returns-in-Some c =
    width_found c.args.add.now c.as_slice-rows.result.now c.len.result c.in-Some.place _
    c.index-rows-place.result c.as_slice-rows.ensures.value c.len.ensures.value
    c.in-Some.ensures.within c.in-Some.ensures.first c.index-rows-place.is
    (ap length c.numbers.ensures.numbers)

pub returns-in-None : goal.returns-in-None
returns-in-None c =
    width_missed c.args.add.now c.as_slice-rows.result.now c.len.result
    c.as_slice-rows.ensures.value c.len.ensures.value c.in-None.ensures.first
