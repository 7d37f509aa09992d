use Rattle.std.proofs.Common.{◌≡◌, ◌+◌, ◌||◌, Bool, ltb, sym, ap, ap₂, ◌∙◌, arith}
use Rattle.std.proofs.lemmas.Bool.{lt-ltb, le-ltb}
use Rattle.mk_net.specs.Bounds.{max_cells, max_clique_cells}
use Rattle.mk_net.specs.Firsts.{fault_if}
use Rattle.mk_reply.specs.declared.refusal.Refusal.TheVariants.{Cells}
use Rattle.mk_admission.proofs.AddedCliques.{total_is}
use Rattle.mk_admission.proofs.refusing_additions.has_few_cells.Goals as goal
use Rattle.mk_admission.proofs.refusing_additions.has_few_cells.Goals.{then-total-gt-MAX_CELLS}
use Rattle.mk_admission.proofs.refusing_additions.has_few_cells.Goals.{else-total-gt-MAX_CELLS}

pub returns : goal.returns
returns c =
    let own = c.own_cells-own.result in let total = c.cells.result + own in
    let tested : c.if-total-gt-MAX_CELLS.refuse_if
    ≡ (ltb max_cells total || ltb max_clique_cells own)
    = elim c.if-total-gt-MAX_CELLS.branch [
      | then-total-gt-MAX_CELLS w ↦
          let many = lt-ltb max_cells total (omega (arith, w.if-total-gt-MAX_CELLS)) in
          w.refuse_if-is ∙ many ∙ sym (ap (λ (b : Bool). b || ltb max_clique_cells own) many)
      | else-total-gt-MAX_CELLS w ↦ w.refuse_if-is
          ∙ sym (ap (λ (b : Bool). b || ltb max_clique_cells own)
          (le-ltb max_cells total (omega (arith, w.if-total-gt-MAX_CELLS))))
    ] in
    c.refuse_if.ensures ∙ ap (λ (b : Bool). fault_if b (Cells total)) tested
    ∙ ap₂ (λ m n. fault_if (ltb max_cells (m + n) || ltb max_clique_cells n) (Cells (m + n)))
    (total_is c.args.file.now c.args.add.now c.cells.result c.cells.ensures.cells)
    c.own_cells-own.ensures.cells
