use Rattle.std.proofs.Common.{arith}
use Rattle.std.proofs.lemmas.List.{get_or_default}
use Rattle.mk_scope.proofs.Members.{rising_within}
use Rattle.mk_scope.proofs.scope.reach.Goals as goal

pub returns : goal.returns
returns c = λ k d l.
    let xs = c.args.variables.now in
    let within = rising_within xs c.requires k l in
    let same = get_or_default xs k d 0 l in
    (omega (arith, within.0, same), omega (arith, within.0, within.1, same))
