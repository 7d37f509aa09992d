use Rattle.std.proofs.Common.{◌≡◌, ◌<◌, ◌≤◌, List, length, get_or, Option, sym, ap, ◌∙◌, subst, arith}
use Rattle.std.proofs.lemmas.Slice.Zip.{AllZip-long}
use Rattle.mk_quote.specs.declared.side.SideBounds.{SideBounds}
use Rattle.mk_quote.proofs.Judging.{IsTaken, inside_taken, taken_inside, units_taken, units_are_ratios, units_are_fair, outside_at, all_units}
use Rattle.mk_quote.proofs.spread_quote.SpreadQuote.judge.Goals as goal

pub returns-then-xs-len-clause-inside : goal.returns-then-xs-len-clause-inside
returns-then-xs-len-clause-inside c = λ inside.
    let values = c.args.self.now.sides.items in
    c.if-xs-len.true (AllZip-long IsTaken values c.args.xs.now (inside_taken values c.args.xs.now inside) ∙ sym c.len.ensures.value)

pub returns-in_err-units_of-clause-inside : goal.returns-in_err-units_of-clause-inside
returns-in_err-units_of-clause-inside c =
    let values = c.args.self.now.sides.items in
    let xs = c.args.xs.now in
    let index = c.loop-index.index in
    let value = c.index-deref-index.result in
    let within : index < length values = omega (arith, c.len.ensures.value, c.if-xs-len.false, c.loop-index-test.true) in
    let found : value ≡ get_or values index value = c.index-deref-index.is ∙ ap (λ (vs : List (Option SideBounds)). get_or vs index value) c.deref.ensures.0 in
    rw c.from_residual.ensures (outside_at values xs index value 0 within (subst (λ (v : Option SideBounds). ¬ IsTaken v (get_or xs index 0)) found c.in_err-units_of.ensures.inside))

pub returns-clause-inside : goal.returns-clause-inside
returns-clause-inside c =
    let values = c.args.self.now.sides.items in
    let xs = c.args.xs.now in
    let units = c.loop-index.units.items in
    let past : length values ≤ c.loop-index.index = omega (arith, c.len.ensures.value, c.if-xs-len.false, c.loop-index-test.false) in
    taken_inside values xs (units_taken values xs units (all_units values xs units c.loop-index.index past c.loop-index-test.false c.loop-index.invariant.so_far))

pub returns-clause-fair : goal.returns-clause-fair
returns-clause-fair c =
    let values = c.args.self.now.sides.items in
    let xs = c.args.xs.now in
    let units = c.loop-index.units.items in
    let past : length values ≤ c.loop-index.index = omega (arith, c.len.ensures.value, c.if-xs-len.false, c.loop-index-test.false) in
    units_are_fair values xs units (all_units values xs units c.loop-index.index past c.loop-index-test.false c.loop-index.invariant.so_far)

pub returns-clause-ratios : goal.returns-clause-ratios
returns-clause-ratios c =
    let values = c.args.self.now.sides.items in
    let xs = c.args.xs.now in
    let units = c.loop-index.units.items in
    let past : length values ≤ c.loop-index.index = omega (arith, c.len.ensures.value, c.if-xs-len.false, c.loop-index-test.false) in
    units_are_ratios values xs units (all_units values xs units c.loop-index.index past c.loop-index-test.false c.loop-index.invariant.so_far)
