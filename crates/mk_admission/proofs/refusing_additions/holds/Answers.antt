use Rattle.std.proofs.Common.{refl, ◌∙◌, Some, None}
use Rattle.mk_admission.proofs.Numbered.{set_holds, set_holds_none}
use Rattle.mk_admission.proofs.refusing_additions.holds.Goals as goal

pub returns-in-Some : goal.returns-in-Some
returns-in-Some c =
    c.has.ensures
    ∙ set_holds c.args.net.now c.args.name.now (Some c.in-Some.number) c.in-Some.ensures.first
    c.args.set.now c.in-Some.number refl c.in-Some.ensures.within

pub returns-in-None : goal.returns-in-None
returns-in-None c =
    set_holds_none c.args.net.now c.args.name.now None c.in-None.ensures.first c.args.set.now refl
