use Rattle.std.proofs.Common.{◌≡◌, ◌<◌, length, slice_index, arith, ap, sym, subst, ◌∙◌}
use Rattle.std.proofs.lemmas.List.{get_or_default}
use Rattle.mk_scope.specs.Scopes.{ScopeOf, cells_in}
use Rattle.mk_scope.proofs.Kept.{cell_within}
use Rattle.mk_passes.specs.Parts.{IsFull}
use Rattle.mk_table.specs.declared.changes.Change.{Change}
use Rattle.mk_table.specs.inner.Changes.{Fits}
use Rattle.mk_table.proofs.changes.Change.make.Goals as goal

of_case : {x y : Change} → x ≡ y → (P : Change → Type 0) → P x → P y
of_case e P p = subst P e p

pub times_shares-requires-clause-variable : goal.times_shares-requires-clause-variable
times_shares-requires-clause-variable c = (of_case c.in-Shares.is (λ (x : Change). Fits x c.args.scope.now c.args.digits.now c.args.exponents.now) c.requires.fits).variable

pub times_shares-requires-clause-family : goal.times_shares-requires-clause-family
times_shares-requires-clause-family c = (of_case c.in-Shares.is (λ (x : Change). Fits x c.args.scope.now c.args.digits.now c.args.exponents.now) c.requires.fits).family

pub times_shares-requires-clause-parents : goal.times_shares-requires-clause-parents
times_shares-requires-clause-parents c = (of_case c.in-Shares.is (λ (x : Change). Fits x c.args.scope.now c.args.digits.now c.args.exponents.now) c.requires.fits).parents

pub times_shares-requires-clause-room : goal.times_shares-requires-clause-room
times_shares-requires-clause-room c = (of_case c.in-Shares.is (λ (x : Change). Fits x c.args.scope.now c.args.digits.now c.args.exponents.now) c.requires.fits).room

pub times_supports-requires-clause-variable : goal.times_supports-requires-clause-variable
times_supports-requires-clause-variable c = (of_case c.in-Supports.is (λ (x : Change). Fits x c.args.scope.now c.args.digits.now c.args.exponents.now) c.requires.fits).variable

pub times_supports-requires-clause-family : goal.times_supports-requires-clause-family
times_supports-requires-clause-family c = (of_case c.in-Supports.is (λ (x : Change). Fits x c.args.scope.now c.args.digits.now c.args.exponents.now) c.requires.fits).family

pub times_supports-requires-clause-parents : goal.times_supports-requires-clause-parents
times_supports-requires-clause-parents c = (of_case c.in-Supports.is (λ (x : Change). Fits x c.args.scope.now c.args.digits.now c.args.exponents.now) c.requires.fits).parents

pub times_supports-requires-clause-room : goal.times_supports-requires-clause-room
times_supports-requires-clause-room c = (of_case c.in-Supports.is (λ (x : Change). Fits x c.args.scope.now c.args.digits.now c.args.exponents.now) c.requires.fits).room

pub times_units-requires-clause-event : goal.times_units-requires-clause-event
times_units-requires-clause-event c = (of_case c.in-Units.is (λ (x : Change). Fits x c.args.scope.now c.args.digits.now c.args.exponents.now) c.requires.fits).0

pub times_units-requires-clause-one_each : goal.times_units-requires-clause-one_each
times_units-requires-clause-one_each c = (of_case c.in-Units.is (λ (x : Change). Fits x c.args.scope.now c.args.digits.now c.args.exponents.now) c.requires.fits).1

pub times_units-requires-clause-chosen : goal.times_units-requires-clause-chosen
times_units-requires-clause-chosen c = (of_case c.in-Units.is (λ (x : Change). Fits x c.args.scope.now c.args.digits.now c.args.exponents.now) c.requires.fits).2

pub times_units-requires-clause-room : goal.times_units-requires-clause-room
times_units-requires-clause-room c = (of_case c.in-Units.is (λ (x : Change). Fits x c.args.scope.now c.args.digits.now c.args.exponents.now) c.requires.fits).3

pub keep_value-requires-clause-variable : goal.keep_value-requires-clause-variable
keep_value-requires-clause-variable c = (of_case c.in-Kept.is (λ (x : Change). Fits x c.args.scope.now c.args.digits.now c.args.exponents.now) c.requires.fits)

pub times_cells-requires-clause-other_full : goal.times_cells-requires-clause-other_full
times_cells-requires-clause-other_full c = (of_case c.in-Times.is (λ (x : Change). Fits x c.args.scope.now c.args.digits.now c.args.exponents.now) c.requires.fits).1

pub times_cells-requires-clause-other_room : goal.times_cells-requires-clause-other_room
times_cells-requires-clause-other_room c = (of_case c.in-Times.is (λ (x : Change). Fits x c.args.scope.now c.args.digits.now c.args.exponents.now) c.requires.fits).2

pub times_cells-requires-clause-room : goal.times_cells-requires-clause-room
times_cells-requires-clause-room c = (of_case c.in-Times.is (λ (x : Change). Fits x c.args.scope.now c.args.digits.now c.args.exponents.now) c.requires.fits).3

pub times_cells-requires-clause-full : goal.times_cells-requires-clause-full
times_cells-requires-clause-full c =
    let fit = of_case c.in-Times.is (λ (x : Change). Fits x c.args.scope.now c.args.digits.now c.args.exponents.now) c.requires.fits in
    subst (λ (x : ScopeOf). IsFull x c.args.digits.now c.args.exponents.now) (sym fit.0) c.requires.full

pub put_cells-requires : goal.put_cells-requires
put_cells-requires c =
    let fit = of_case c.in-Put.is (λ (x : Change). Fits x c.args.scope.now c.args.digits.now c.args.exponents.now) c.requires.fits in
    let count = ap cells_in fit.0 in let onto = c.onto.ensures in let other = fit.1 in
    record {
      all = omega (arith, c.requires.full.as_many_digits, count, onto.one_each);
      all_exponents = omega (arith, c.requires.full.as_many_exponents, count, onto.one_each);
      within = λ j z l.
          let i : j < cells_in c.in-Put.places.now.whole = omega (arith, l, onto.one_each) in
          let inside = cell_within c.in-Put.places.now.part c.in-Put.places.now.whole fit.2 j i in
          subst (λ y. y < length c.in-Put.message.digits.now) (sym (get_or_default c.onto.result.now j z 0 l ∙ onto.cell j i)) (omega (arith, inside, other.as_many_digits));
      same_length = omega (arith, other.as_many_digits, other.as_many_exponents);
    }

pub returns-in-Shares-clause-made : goal.returns-in-Shares-clause-made
returns-in-Shares-clause-made c = rw c.in-Shares.is c.times_shares.ensures

pub returns-in-Supports-clause-made : goal.returns-in-Supports-clause-made
returns-in-Supports-clause-made c = rw c.in-Supports.is c.times_supports.ensures

pub returns-in-Units-clause-made : goal.returns-in-Units-clause-made
returns-in-Units-clause-made c = rw c.in-Units.is c.times_units.ensures

pub returns-in-Kept-clause-made : goal.returns-in-Kept-clause-made
returns-in-Kept-clause-made c = rw c.in-Kept.is c.keep_value.ensures

pub returns-in-Times-clause-made : goal.returns-in-Times-clause-made
returns-in-Times-clause-made c = rw c.in-Times.is c.times_cells.ensures.changed

pub returns-in-Put-clause-made : goal.returns-in-Put-clause-made
returns-in-Put-clause-made c =
    let onto = c.onto.ensures in
    rw c.in-Put.is (
      (λ j l. c.put_cells.ensures.digits j (omega (arith, l, onto.one_each)) ∙ ap (λ i. slice_index c.in-Put.message.digits.now i) (onto.cell j l)),
      (λ j l. c.put_cells.ensures.exponents j (omega (arith, l, onto.one_each)) ∙ ap (λ i. slice_index c.in-Put.message.exponents.now i) (onto.cell j l)),
    )
