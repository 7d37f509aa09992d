use Rattle.std.proofs.Common.{◌≡◌, ◌<◌, length, slice_index, arith, subst, sym}
use Rattle.mk_passes.specs.inner.Made.{AreMade}
use Rattle.mk_passes.proofs.Making.{made_more}
use Rattle.mk_passes.proofs.made.put_made.Goals as goal

pub make-made-requires-clause-can : goal.make-made-requires-clause-can
make-made-requires-clause-can g c = subst (λ b. g.M.Maker.can c.args.maker b) (sym c.at-cell.ensures) (c.requires.can.each c.loop-place.place 0 (omega arith))

pub bounds-digits-cell : goal.bounds-digits-cell
bounds-digits-cell g c =
    let l : slice_index (g.C.Listed.cells c.args.cells) c.loop-place.place < length c.args.digits.now = c.requires.can.digits_reach c.loop-place.place 0 (omega arith) in
    omega (arith, l, c.at-cell.ensures, c.loop-place.invariant.as_many_digits)

pub bounds-exponents-cell : goal.bounds-exponents-cell
bounds-exponents-cell g c =
    let l : slice_index (g.C.Listed.cells c.args.cells) c.loop-place.place < length c.args.exponents.now = c.requires.can.exponents_reach c.loop-place.place 0 (omega arith) in
    omega (arith, l, c.at-cell.ensures, c.loop-place.invariant.as_many_exponents)

pub loop-place-preserved : goal.loop-place-preserved
loop-place-preserved g c =
    let i = c.loop-place.place in let made = c.make-made.result in
    let l : slice_index (g.C.Listed.cells c.args.cells) i < length c.args.digits.now = c.requires.can.digits_reach i 0 (omega arith) in
    let m : slice_index (g.C.Listed.cells c.args.cells) i < length c.args.exponents.now = c.requires.can.exponents_reach i 0 (omega arith) in
    made_more (g.M.Maker.makes g.R.Semiring.plus_of c.args.maker) (g.C.Listed.cells c.args.cells) c.args.digits.now c.args.exponents.now c.loop-place.digits c.loop-place.exponents
    i c.at-cell.result made.digits made.exponent c.at-cell.ensures (omega (arith, l, c.at-cell.ensures)) (omega (arith, m, c.at-cell.ensures)) c.loop-place.invariant c.make-made.ensures

pub returns : goal.returns
returns g c =
    let e : c.loop-place.place ≡ length (g.C.Listed.cells c.args.cells) = omega (arith, c.loop-place-test.false) in
    subst (λ n. AreMade (g.M.Maker.makes g.R.Semiring.plus_of c.args.maker) (g.C.Listed.cells c.args.cells) n c.args.digits.now c.args.exponents.now c.loop-place.digits c.loop-place.exponents)
    e c.loop-place.invariant
