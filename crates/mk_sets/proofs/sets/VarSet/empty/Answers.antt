use Rattle.std.proofs.Common.{refl, ◌∙◌, arith}
use Rattle.mk_sets.specs.inner.KeptSets.{kept_member, none_where, is_kept}
use Rattle.mk_sets.proofs.Bits.{empty_words}
use Rattle.mk_sets.proofs.sets.VarSet.empty.Goals as goal

pub returns-clause-members : goal.returns-clause-members
returns-clause-members c x = kept_member _ (record { low_fits = omega arith; high_fits = omega arith }) x
    ∙ empty_words (record { low = 0; high = 0 }) refl refl x

pub returns-clause-set : goal.returns-clause-set
returns-clause-set c = none_where (is_kept (record { low = 0; high = 0 })) (empty_words (record { low = 0; high = 0 }) refl refl)
