use Rattle.std.proofs.Common.{◌≡◌, ℕ, ◌+◌, ◌<◌, List, length, arith, ap, sym, subst, ◌∙◌, slice_index, refl}
use Rattle.std.proofs.lemmas.List.{get_or-take, get_or-drop, get_or-replicate, get_or_read}
use Rattle.mk_cell.specs.Cell.{StandsAt}
use Rattle.mk_scope.specs.Scopes.{cells_in}
use Rattle.mk_table.specs.Tables.{TableOf, HasNumbers}
use Rattle.mk_table.specs.Lists.{table_in}
use Rattle.mk_passes.specs.Blank.{one_digits, one_exponent}
use Rattle.mk_table.specs.inner.Store.{scope_in, IsWrittenFrom}
use Rattle.mk_table.proofs.Stored.{cells_written, cells_blank}
use Rattle.mk_table.proofs.Seen.{IsSeen, is_seen}
use Rattle.mk_table.proofs.Lent.{IsRange, is_range}
use Rattle.mk_table.proofs.tables.Tables.get.Given.{Over}
use Rattle.mk_table.proofs.tables.Tables.get.Goals as goal
use Rattle.mk_table.proofs.tables.Tables.get.Goals.{After-place}

seen : (g : Over) (c : After-place g) → IsSeen c.self.inside.scopes.value c.self.inside.store c.args.self.now c.args.k
seen g c = is_seen _ c.self.inside.store _ c.self.invariant.store_is c.self.view_is _ c.requires.table

inside : (g : Over) (c : After-place g) → c.args.cell < cells_in (scope_in c.self.inside.scopes.value c.args.k)
inside g c = let k = seen g c in let count = ap cells_in k.scope in omega (arith, c.requires.cell, count)

range : (g : Over) (c : After-place g) (first : ℕ) → IsWrittenFrom c.self.inside.store.heads.items c.args.k first
    → IsRange c.self.inside.store first (cells_in (scope_in c.self.inside.scopes.value c.args.k))
range g c first place = let k = seen g c in is_range _ c.self.inside.store c.self.invariant.store_is _ k.within first place _ refl

-- a cell that is read as the table has it stands for its number
read_stands : (t : TableOf) (cell d e : ℕ) → cell < cells_in t.scope → length t.digits ≡ cells_in t.scope → slice_index t.digits cell ≡ d
    → slice_index t.exponents cell ≡ e
    → (f : ℕ → ℕ) (n : ℕ) → HasNumbers t f n → StandsAt t.shift d e (f cell) n
read_stands t cell d e l full left right f n h =
    subst (λ y. StandsAt t.shift y e (f cell) n) left (subst (λ y. StandsAt t.shift (slice_index t.digits cell) y (f cell) n) right
    (h.stand.each cell (omega (arith, l, full))))

pub overflow_add-first : goal.overflow_add-first
overflow_add-first g c =
    let at = (goal.at.overflow_add-first g c).After-place in let r = range g at c.in-Written.first (sym c.place.ensures ∙ c.in-Written.is) in
    let s = c.self.inside.store in
    omega (arith, r.digits, r.exponents, inside g at, s.digits.ok.0, s.exponents.ok.0)

pub index-requires : goal.index-requires
index-requires g c =
    let at = (goal.at.index-requires g c).After-place in let r = range g at c.in-Written.first (sym c.place.ensures ∙ c.in-Written.is) in
    let s = c.self.inside.store in
    omega (arith, r.digits, r.exponents, inside g at, s.digits.ok.0, s.exponents.ok.0)

pub overflow_add-first-in-Written : goal.overflow_add-first-in-Written
overflow_add-first-in-Written g c =
    let at = (goal.at.overflow_add-first-in-Written g c).After-place in let r = range g at c.in-Written.first (sym c.place.ensures ∙ c.in-Written.is) in
    let s = c.self.inside.store in
    omega (arith, r.digits, r.exponents, inside g at, s.digits.ok.0, s.exponents.ok.0)

pub index-requires-in-Written : goal.index-requires-in-Written
index-requires-in-Written g c =
    let at = (goal.at.index-requires-in-Written g c).After-place in let r = range g at c.in-Written.first (sym c.place.ensures ∙ c.in-Written.is) in
    let s = c.self.inside.store in
    omega (arith, r.digits, r.exponents, inside g at, s.digits.ok.0, s.exponents.ok.0)

pub returns-in-Written : goal.returns-in-Written
returns-in-Written g c =
    let at = (goal.at.returns-in-Written g c).After-place in let k = seen g at in let first = c.in-Written.first in
    let place = sym c.place.ensures ∙ c.in-Written.is in
    let r = range g at first place in let s = c.self.inside.store in let l = inside g at in
    let cells = cells_written _ s.heads.items s.digits.items s.exponents.items _ _ _ c.self.invariant.store_is c.args.k k.within first place in
    read_stands (table_in c.args.self.now c.args.k) c.args.cell _ _ c.requires.cell k.full.as_many_digits
    (ap (λ (ts : List TableOf). slice_index (table_in ts c.args.k).digits c.args.cell) (sym c.self.view_is)
    ∙ ap (λ (ys : List ℕ). slice_index ys c.args.cell) cells.0
    ∙ get_or-take _ _ c.args.cell 0 l ∙ get_or-drop first s.digits.items c.args.cell 0 ∙ sym
    (get_or_read s.digits.items (first + c.args.cell) c.index.result.now (omega (arith, r.digits, l)) c.index.ensures 0))
    (ap (λ (ts : List TableOf). slice_index (table_in ts c.args.k).exponents c.args.cell) (sym c.self.view_is)
    ∙ ap (λ (ys : List ℕ). slice_index ys c.args.cell) cells.1
    ∙ get_or-take _ _ c.args.cell 0 l ∙ get_or-drop first s.exponents.items c.args.cell 0
    ∙ sym (get_or_read s.exponents.items (first + c.args.cell) c.index-in-Written.result.now (omega (arith, r.exponents, l)) c.index-in-Written.ensures 0))

pub returns-in_default : goal.returns-in_default
returns-in_default g c =
    let at = (goal.at.returns-in_default g c).After-place in let k = seen g at in let s = c.self.inside.store in
    let cells = cells_blank _ s.heads.items s.digits.items s.exponents.items _ _ _ c.self.invariant.store_is c.args.k k.within
    (λ g i. c.in_default.not-Written g (c.place.ensures ∙ i)) in
    read_stands (table_in c.args.self.now c.args.k) c.args.cell _ _ c.requires.cell k.full.as_many_digits
    (ap (λ (ts : List TableOf). slice_index (table_in ts c.args.k).digits c.args.cell) (sym c.self.view_is)
    ∙ ap (λ (ys : List ℕ). slice_index ys c.args.cell) cells.0
    ∙ get_or-replicate _ c.args.cell one_digits 0 (inside g at) ∙ sym c.one.ensures.digits)
    (ap (λ (ts : List TableOf). slice_index (table_in ts c.args.k).exponents c.args.cell) (sym c.self.view_is)
    ∙ ap (λ (ys : List ℕ). slice_index ys c.args.cell) cells.1
    ∙ get_or-replicate _ c.args.cell one_exponent 0 (inside g at) ∙ sym c.one.ensures.exponent)
