use Rattle.std.proofs.Common.{◌<◌, sym, ◌∙◌, subst, length}
use Rattle.std.specs.Prelude.{All}
use Rattle.mk_admission.proofs.Numbered.{numbers_below_length}
use Rattle.mk_admission.proofs.refusing_rows.one_row_each.Goals as goal

pub lists-lists-requires-clause-known : goal.lists-lists-requires-clause-known
lists-lists-requires-clause-known c =
    let net = c.args.net.now in
    subst (All (λ v. v < length net)) (sym (c.as_slice.ensures.value ∙ c.numbers-parents.ensures))
    (numbers_below_length net c.args.add.now.parents.items)
