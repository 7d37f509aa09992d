use Rattle.std.proofs.Common.{rules, refl}
use Rattle.mk_names.specs.Name.{IsName}
use Rattle.mk_names.proofs.Kept.{copied_is_padded}
use Rattle.mk_names.proofs.name.Name.read.Goals as goal

pub invariant_of-result : goal.invariant_of-result
invariant_of-result c = let named : IsName c.args.bytes.now = search rules in
    copied_is_padded c.args.bytes.now _ _ c.copy_from_slice.ensures.after refl named
