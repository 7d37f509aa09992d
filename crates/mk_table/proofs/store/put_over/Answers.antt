use Rattle.std.proofs.Common.{◌++◌, ◌∷◌, [], ℕ, List, slice_index_or, refl, sym, ap, arith, ◌∙◌}
use Rattle.std.proofs.Math.ListN.{length-set}
use Rattle.std.proofs.lemmas.List.{take_more, take_more_set, take_all}
use Rattle.mk_table.proofs.store.put_over.Goals as goal

pub loop-cell-init : goal.loop-cell-init
loop-cell-init c = record {
  long = c.requires.digits;
  long_exponents = c.requires.exponents;
  digits = refl;
  exponents = refl;
}

pub loop-cell-preserved : goal.loop-cell-preserved
loop-cell-preserved c =
    let i = c.loop-cell.cell in let from = c.args.from.now in let others = c.args.from_exponents.now in
    let test = c.loop-cell-test.true in
    record {
      long = length-set c.loop-cell.digits i _ ∙ c.loop-cell.invariant.long;
      long_exponents = length-set c.loop-cell.exponents i _ ∙ c.loop-cell.invariant.long_exponents;
      digits = take_more_set c.loop-cell.digits i (slice_index_or from i 0) (omega (arith, test, c.loop-cell.invariant.long))
          ∙ ap (λ (xs : List ℕ). xs ++ slice_index_or from i 0 ∷ []) c.loop-cell.invariant.digits ∙ sym (take_more from i 0 test);
      exponents = take_more_set c.loop-cell.exponents i (slice_index_or others i 0) (omega (arith, test, c.loop-cell.invariant.long_exponents))
          ∙ ap (λ (xs : List ℕ). xs ++ slice_index_or others i 0 ∷ []) c.loop-cell.invariant.exponents ∙ sym (take_more others i 0 (omega (arith, test, c.requires.as_many)));
    }

pub returns-clause-digits : goal.returns-clause-digits
returns-clause-digits c =
    let i = c.loop-cell.cell in let test = c.loop-cell-test.false in
    sym (take_all i c.loop-cell.digits (omega (arith, test, c.loop-cell.invariant.long))) ∙ c.loop-cell.invariant.digits ∙ take_all i c.args.from.now (omega (arith, test))

pub returns-clause-exponents : goal.returns-clause-exponents
returns-clause-exponents c =
    let i = c.loop-cell.cell in let test = c.loop-cell-test.false in
    sym (take_all i c.loop-cell.exponents (omega (arith, test, c.loop-cell.invariant.long_exponents))) ∙ c.loop-cell.invariant.exponents
    ∙ take_all i c.args.from_exponents.now (omega (arith, test, c.requires.as_many))
