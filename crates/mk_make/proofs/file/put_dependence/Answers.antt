use Rattle.std.proofs.Common.{ap, ◌∙◌, sym, List, ℕ, ◌++◌}
use Rattle.std.proofs.lemmas.Result.{on_ok_weaker}
use Rattle.mk_make.proofs.PartLemmas.{three_pieces, dependence_pieces}
use Rattle.mk_make.proofs.file.put_dependence.Goals as goal

pub returns-in_ok-put_quoted : goal.returns-in_ok-put_quoted
returns-in_ok-put_quoted c = on_ok_weaker c.put_text-else-variable-eq1-2.result
    (λ last. three_pieces c.args.out.now.items _ _ _ _ _ _ c.in_ok-put_text.ensures c.in_ok-put_quoted.ensures last
    ∙ ap (λ (t : List ℕ). c.args.out.now.items ++ t) (sym (dependence_pieces c.args.variable c.if-variable-eq1.false)))
    c.put_text-else-variable-eq1-2.ensures
