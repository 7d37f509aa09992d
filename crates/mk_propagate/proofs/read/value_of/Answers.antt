use Rattle.std.proofs.Common.{◌≡◌, ℕ, ◌+◌, ◌*◌, ◌^◌, ◌≤◌, IsTrue, sym, arith, ◌∙◌}
use Rattle.std.proofs.Math.Nat.{le_of_mul-le-mul_right, one-le-pow}
use Rattle.std.proofs.lemmas.Bool.{and_parts, and_from}
use Rattle.mk_cell.specs.Cell.{IsOwnAt}
use Rattle.mk_cell.specs.inner.Laws.{stands_with_more}
use Rattle.mk_scope.specs.Scopes.{cells_in}
use Rattle.mk_table.specs.Tables.{is_untouched}
use Rattle.mk_table.specs.Lists.{table_in}
use Rattle.mk_table.proofs.Owned.{own_more}
use Rattle.mk_propagate.specs.inner.Totals.{total_of}
use Rattle.mk_propagate.proofs.read.value_of.Goals as goal

-- what is left under no shift
scaled_at_most : (v own most shift : ℕ) → v ≡ own * 2 ^ shift → v ≤ most * 2 ^ shift → own ≤ most
scaled_at_most v own most shift e l =
    let scaled : own * 2 ^ shift ≤ most * 2 ^ shift = omega (arith, e, l) in le_of_mul-le-mul_right scaled (one-le-pow shift 2 (omega arith))

pub overflow_add-shift : goal.overflow_add-shift
overflow_add-shift g c = omega (arith, c.requires.room.small_shift, c.requires.into_room.small_shift, c.shift.ensures, c.shift-2.ensures)

pub of_cell-requires-clause-stands : goal.of_cell-requires-clause-stands
of_cell-requires-clause-stands g c =
    let table = table_in c.args.tables.now c.args.both.0 in let into = table_in c.args.tables.now c.args.both.1 in
    let h = c.requires.total in let q = c.total_times-total.result.digits in let x = c.total_times-total.result.exponent in
    let v = total_of g.R.Semiring.plus_of table into c.args.event.now h.numbers h.others in (
      v,
      rw c.shift.ensures (rw c.shift-2.ensures
          (stands_with_more (table.shift + into.shift) q x v (h.steps + h.other_steps + 2 * cells_in table.scope + 1) (3 * c.args.grade) h.within
          (c.total_times-total.ensures.stands h.numbers h.others h.steps h.other_steps h.has h.has_others))),
    )

pub of_cell-requires-clause-own : goal.of_cell-requires-clause-own
of_cell-requires-clause-own g c = λ t.
    let table = table_in c.args.tables.now c.args.both.0 in let into = table_in c.args.tables.now c.args.both.1 in
    let h = c.requires.total in let q = c.total_times-total.result.digits in let x = c.total_times-total.result.exponent in
    let v = total_of g.R.Semiring.plus_of table into c.args.event.now h.numbers h.others in
    let none = and_parts (is_untouched table c.args.event.now) (is_untouched into c.args.event.now) (sym c.are_untouched-untouched.ensures ∙ t) in
    let own = own_more (table.shift + into.shift) q x v (h.steps + h.other_steps + 2 * cells_in table.scope + 1) (3 * c.args.grade) h.within
    (c.total_times-total.ensures.own none.0 none.1 h.numbers h.others h.steps h.other_steps h.has h.has_others) in
    (own.own, own.stands)

pub returns : goal.returns
returns g c =
    let table = table_in c.args.tables.now c.args.both.0 in let into = table_in c.args.tables.now c.args.both.1 in let event = c.args.event.now in
    let q = c.total_times-total.result.digits in let x = c.total_times-total.result.exponent in
    record {
      enclosed = λ f h n p has other few.
          let v = total_of g.R.Semiring.plus_of table into event f h in
          let stands = rw (sym c.shift-2.ensures) at (rw (sym c.shift.ensures) at
          (stands_with_more (table.shift + into.shift) q x v (n + p + 2 * cells_in table.scope + 1) (3 * c.args.grade) few (c.total_times-total.ensures.stands f h n p has other))) in
          let own : IsTrue c.are_untouched-untouched.result → IsOwnAt (c.shift.result + c.shift-2.result) q x v (3 * c.args.grade) =
          λ t.
          let none = and_parts (is_untouched table event) (is_untouched into event) (sym c.are_untouched-untouched.ensures ∙ t) in
          rw (sym c.shift-2.ensures) at (rw (sym c.shift.ensures) at
          (own_more (table.shift + into.shift) q x v (n + p + 2 * cells_in table.scope + 1) (3 * c.args.grade) few (c.total_times-total.ensures.own none.0 none.1 f h n p has other))) in
          c.of_cell.ensures.value v stands own;
      has = c.of_cell.ensures.grade;
      exact = λ f h n p has other few small.
          let v = total_of g.R.Semiring.plus_of table into event f h in
          let stands = rw (sym c.shift-2.ensures) at (rw (sym c.shift.ensures) at
          (stands_with_more (table.shift + into.shift) q x v (n + p + 2 * cells_in table.scope + 1) (3 * c.args.grade) few (c.total_times-total.ensures.stands f h n p has other))) in
          c.of_cell.ensures.exact v stands small;
      apart = λ none none_too f h n p has other few own at_most small.
          let v = total_of g.R.Semiring.plus_of table into event f h in
          let has_own = own_more (table.shift + into.shift) q x v (n + p + 2 * cells_in table.scope + 1) (3 * c.args.grade) few (c.total_times-total.ensures.own none none_too f h n p has other) in
          let untouched : IsTrue c.are_untouched-untouched.result = c.are_untouched-untouched.ensures ∙ and_from (is_untouched table event) (is_untouched into event) none none_too in
          let within = scaled_at_most v has_own.own own (table.shift + into.shift) has_own.scaled at_most in
          c.of_cell.ensures.own_exact has_own.own untouched has_own.stands (omega (arith, within, small));
    }
