use Rattle.std.proofs.Common.{ℕ, List, All, refl, subst, arith}
use Rattle.std.proofs.lemmas.List.{take_all}
use Rattle.std.proofs.lemmas.List.Elements.{All-more}
use Rattle.mk_net.specs.Bounds.{max_values}
use Rattle.mk_text.specs.Numbers.{IsShort}
use Rattle.mk_addition.specs.Adds.{AreBetween}
use Rattle.mk_told.proofs.wording.are_rows.Goals as goal

pub loop-row-preserved : goal.loop-row-preserved
loop-row-preserved c =
    All-more (AreBetween 1 max_values IsShort) c.args.rows.now c.loop-row.row-index
    c.row-item.result (omega arith) c.loop-row.invariant
    (subst (λ (row : List ℕ). AreBetween 1 max_values IsShort row) c.row-item.is
    (c.is_row.ensures.0 c.if-not-is_row.false))

pub returns : goal.returns
returns c = (
  λ yes. subst (All (AreBetween 1 max_values IsShort))
      (take_all c.loop-row.row-index c.args.rows.now (omega arith)) c.loop-row.invariant,
  λ all. refl,
)
