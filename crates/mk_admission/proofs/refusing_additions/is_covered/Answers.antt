use Rattle.std.proofs.Common.{Some, None, sym, ◌∙◌}
use Rattle.mk_admission.proofs.Finding.{found, missed}
use Rattle.mk_admission.proofs.AddedCliques.{uncovered_by}
use Rattle.mk_admission.proofs.refusing_additions.is_covered.Goals as goal

pub returns-in-Some : goal.returns-in-Some
returns-in-Some c =
    uncovered_by c.args.add.now _ _ c.as_slice-clique.ensures.value c.as_slice-parents.ensures.value
    (sym c.is_among.ensures ∙ c.if-not-is_among.false) (Some c.index-parents-place.result)
    (found _ c.as_slice-parents.result.now c.in-Some.place c.index-parents-place.result
    c.in-Some.ensures.within c.in-Some.ensures.first c.index-parents-place.is)

pub returns-in-None : goal.returns-in-None
returns-in-None c =
    uncovered_by c.args.add.now _ _ c.as_slice-clique.ensures.value c.as_slice-parents.ensures.value
    (sym c.is_among.ensures ∙ c.if-not-is_among.false) None
    (missed _ c.as_slice-parents.result.now c.in-None.ensures.first)
