use Rattle.std.proofs.Common.{◌∙◌}
use Rattle.mk_addition.proofs.AddLaws.{read_again}
use Rattle.mk_addition.proofs.laws.read_printed.Goals as goal

pub returns : goal.returns
returns c =
    let printed = c.as_bytes.ensures.value ∙ c.deref.ensures.0 ∙ c.print_add.ensures in
    read_again _ c.args.add.now c.read_add.result c.requires.fits printed c.read_add.ensures.found
    c.read_add.ensures.none
