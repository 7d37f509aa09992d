use Rattle.std.proofs.Common.{ℕ, ◌<◌, List, slice_index, arith, subst, ◌∙◌}
use Rattle.std.proofs.Math.ListN.{length-set}
use Rattle.mk_cell.specs.Cell.{StandsAt}
use Rattle.mk_passes.proofs.Blocked.{written_next}
use Rattle.mk_passes.proofs.picked.unit_cells.Goals as goal

pub loop-value-preserved : goal.loop-value-preserved
loop-value-preserved c =
    let v = c.loop-value.value in let cell = c.of_whole-cell.result in let units = c.args.ratio.now.factors.items in
    let l : v < 16 = let t = c.loop-value-test.true in let f = c.len-value-end.ensures.fits in omega (arith, t, f) in
    record {
      long = length-set c.loop-value.digits v cell.digits ∙ c.loop-value.invariant.long;
      long_too = length-set c.loop-value.exponents v cell.exponent ∙ c.loop-value.invariant.long_too;
      stand = written_next (λ i q x. StandsAt 40 q x (slice_index units i) 0) v cell.digits cell.exponent c.loop-value.digits c.loop-value.exponents
          (omega (arith, l, c.loop-value.invariant.long)) (omega (arith, l, c.loop-value.invariant.long_too)) c.loop-value.invariant.stand
          (subst (λ (ys : List ℕ). StandsAt 40 cell.digits cell.exponent (slice_index ys v) 0) c.deref.ensures.0 c.of_whole-cell.ensures);
    }

pub returns : goal.returns
returns c =
    let t = c.loop-value-test.false in let e = c.len-value-end.ensures.value in let f = c.len-value-end.ensures.fits in
    record {
      few = omega (arith, e, f);
      long = c.loop-value.invariant.long;
      long_too = c.loop-value.invariant.long_too;
      stand = λ v l. c.loop-value.invariant.stand v (omega (arith, l, t, e));
    }
