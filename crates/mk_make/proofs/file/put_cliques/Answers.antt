use Rattle.std.proofs.Common.{◌≡◌, ℕ, ◌-◌, List, ◌++◌, map, codes, ap, sym, ◌∙◌, arith}
use Rattle.std.proofs.lemmas.Result.{on_ok_weaker}
use Rattle.mk_make.specs.Lines.{joined, numbers_to}
use Rattle.mk_make.specs.Sample.{clique_of}
use Rattle.mk_make.proofs.PartLemmas.{three_pieces, cliques_pieces}
use Rattle.mk_make.proofs.file.put_cliques.Goals as goal

pub returns : goal.returns
returns c =
    let last : c.loop-variable.variable ≡ c.args.n = omega arith in
    let all : c.loop-variable.out.items ≡ c.put_text.new.out.items ++ joined (codes ", ") (map clique_of (numbers_to (c.args.n - 1))) =
    c.loop-variable.invariant
    ∙ ap (λ (k : ℕ). c.put_text.new.out.items ++ joined (codes ", ") (map clique_of (numbers_to (k - 1)))) last in
    on_ok_weaker c.put_text-2.result
    (λ ends. three_pieces c.args.out.now.items _ _ _ _ _ _ c.in_ok-put_text.ensures all ends
    ∙ ap (λ (t : List ℕ). c.args.out.now.items ++ t) (sym (cliques_pieces c.args.n)))
    c.put_text-2.ensures
