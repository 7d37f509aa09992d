use Rattle.std.proofs.Common.{ap, ◌∙◌, length}
use Rattle.mk_passes.proofs.Filled.{at_most, filled_length}
use Rattle.mk_passes.proofs.blank.fill.Goals as goal

pub returns-clause-all_digits : goal.returns-clause-all_digits
returns-clause-all_digits c =
    c.append_until.new.values.ok.0 ∙ ap length c.append_until.ensures.items
    ∙ filled_length c.one-one.result.digits c.args.cells c.args.digits.now.items ((at_most c.args.cells c.args.digits.now.items c.args.exponents.now.items c.requires.whole).0)

pub returns-clause-all_exponents : goal.returns-clause-all_exponents
returns-clause-all_exponents c =
    c.append_until-2.new.values.ok.0 ∙ ap length c.append_until-2.ensures.items
    ∙ filled_length c.one-one.result.exponent c.args.cells c.args.exponents.now.items ((at_most c.args.cells c.args.digits.now.items c.args.exponents.now.items c.requires.whole).1)
