use Rattle.std.proofs.Common.{ap, ◌∙◌, sym, List, ℕ, ◌++◌}
use Rattle.std.proofs.lemmas.Result.{on_ok_weaker}
use Rattle.mk_make.proofs.PartLemmas.{four_pieces, part_pieces}
use Rattle.mk_make.proofs.file.put_part.Goals as goal

pub returns : goal.returns
returns c = on_ok_weaker c.put_dependence.result
    (λ last. four_pieces c.args.out.now.items _ _ _ _ _ _ _ _ c.in_ok-put_text.ensures c.in_ok-put_quoted.ensures c.in_ok-put_text-2.ensures last
    ∙ ap (λ (t : List ℕ). c.args.out.now.items ++ t) (sym (part_pieces c.args.variable)))
    c.put_dependence.ensures
