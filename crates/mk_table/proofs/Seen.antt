-- A table of a list as a store keeps it, and what becomes of it.
use Rattle.std.proofs.Common.{◌≡◌, ℕ, ◌<◌, ◌≤◌, ◌⊎◌, inl, inr, List, length, set, refl, ap, sym, subst, ◌∙◌, arith}
use Rattle.std.specs.Prelude.{Option, vec_capacity}
use Rattle.std.proofs.lemmas.Bool.{cases_eq}
use Rattle.std.proofs.lemmas.List.{length-set}
use Rattle.mk_net.specs.declared.words.Pair.{Pair}
use Rattle.mk_scope.specs.Scopes.{ScopeOf, PlacesOf, LiesIn, cells_in}
use Rattle.mk_table.specs.Tables.{TableOf, HasNumbers}
use Rattle.mk_table.specs.Lists.{table_in}
use Rattle.mk_table.specs.declared.store.Store.{Store}
use Rattle.mk_table.specs.declared.store.Spare.{Spare}
use Rattle.mk_passes.specs.Parts.{IsFull}
use Rattle.mk_passes.specs.Blank.{one_digits, one_exponent, filled}
use Rattle.mk_table.specs.inner.Numbers.{AreNumbers}
use Rattle.mk_table.specs.inner.Touched.{HasTouched}
use Rattle.mk_table.specs.inner.Store.{AreTables, HasCells, HasRatiosOf, IsSame, IsStoreOf, store_tables, scope_in, head_in, with_cells, with_ratios}
use Rattle.mk_table.proofs.Whole.{AreParts, touched_cells}
use Rattle.mk_table.proofs.Stored.{table_is_full, table_scope}
use Rattle.mk_table.proofs.Ranges.{after_is}
use Rattle.mk_table.proofs.Made.{seen_within, seen_scope, seen_shift, seen_touched, seen_full, seen_there, seen_parts}
use Rattle.mk_table.proofs.Made.{made_table, made_only, made_scope, made_shift, made_touched, made_full, made_numbers, both_steps, at_shift, at_touched, other_table}

pub record IsSeen (scopes : List ScopeOf) (s : Store) (now : List TableOf) (k : ℕ) : Type 0 where
  pub within : k < length scopes
  pub scope : scope_in scopes k ≡ (table_in now k).scope
  pub shift : (head_in s.heads.items k).shift ≡ (table_in now k).shift
  pub touched : (head_in s.heads.items k).touched ≡ (table_in now k).touched
  pub full : IsFull (table_in now k).scope (table_in now k).digits (table_in now k).exponents
  pub there : HasTouched (table_in now k).scope (table_in now k).touched
  pub parts : (scope : ScopeOf) (digits exponents : List ℕ) → scope ≡ scope_in scopes k → digits ≡ (table_in (store_tables scopes s) k).digits
      → exponents ≡ (table_in (store_tables scopes s) k).exponents → AreParts (table_in now k) scope (table_in now k).shift digits exponents

pub is_seen : (scopes : List ScopeOf) (s : Store) (now : List TableOf) → IsStoreOf scopes s → store_tables scopes s ≡ now → (k : ℕ) → k < length now
    → IsSeen scopes s now k
is_seen scopes s now is view k l =
    let hs = s.heads.items in let d = s.digits.items in let e = s.exponents.items in
    let within = seen_within scopes hs d e now view k l in
    record {
      within = within;
      scope = seen_scope scopes hs d e _ _ _ is now view k within;
      shift = seen_shift scopes hs d e _ _ _ is now view k within;
      touched = seen_touched scopes hs d e _ _ _ is now view k within;
      full = seen_full scopes hs d e _ _ _ is now view k within;
      there = seen_there scopes hs d e _ _ _ is now view k within;
      parts = seen_parts scopes hs d e _ _ _ is now view k within;
    }

-- the tables of a store that was opened, whose scopes are lent
pub opened : (scopes lent : List ScopeOf) → lent ≡ scopes → (s o : Store) (now : List TableOf) → store_tables lent o ≡ store_tables lent s
    → store_tables scopes s ≡ now → store_tables lent o ≡ now
opened scopes lent e s o now same view = same ∙ ap (λ (x : List ScopeOf). store_tables x s) e ∙ view

-- the heads of a store have the shifts and the events of a list of tables
pub record HasHeads (now : List TableOf) (s : Store) : Type 0 where
  pub shift : (m : ℕ) → m < length now → (head_in s.heads.items m).shift ≡ (table_in now m).shift
  pub touched : (m : ℕ) → m < length now → (head_in s.heads.items m).touched ≡ (table_in now m).touched

-- so they do after the cells of one table were changed
pub heads_kept : (scopes : List ScopeOf) (now : List TableOf) (o w : Store) → store_tables scopes o ≡ now → (k : ℕ) → k < length now → IsStoreOf scopes w
    → (nd ne : List ℕ)
    → store_tables scopes w ≡ set (store_tables scopes o) k (with_cells (table_in (store_tables scopes o) k) nd ne) → HasHeads now w
heads_kept scopes now o w view k l is nd ne made = record {
  shift = λ m i. (at m i).shift ∙ shift m (cases_eq m k);
  touched = λ m i. (at m i).touched
      ∙ touched m (cases_eq m k);
}
  where
    after : store_tables scopes w ≡ set now k (with_cells (table_in now k) nd ne)
    after = after_is now (store_tables scopes o) (store_tables scopes w) k l view nd ne made

    at : (m : ℕ) → m < length now → IsSeen scopes w (store_tables scopes w) m
    at m i = is_seen scopes w (store_tables scopes w) is refl m (let n = ap (λ (ts : List TableOf). length ts) after in
        let p = length-set now k (with_cells (table_in now k) nd ne) in omega (arith, i, n, p))

    shift : (m : ℕ) → (m ≡ k) ⊎ (m ≡ k → ⊥) → (table_in (store_tables scopes w) m).shift ≡ (table_in now m).shift
    shift m (inl i) = subst (λ j. (table_in (store_tables scopes w) j).shift ≡ (table_in now j).shift) (sym i)
        (ap (λ (ts : List TableOf). (table_in ts k).shift) after ∙ at_shift now k l nd ne)
    shift m (inr n) = ap (λ (u : TableOf). u.shift) (other_table now (store_tables scopes o) (store_tables scopes w) k m n _ view made)

    touched : (m : ℕ) → (m ≡ k) ⊎ (m ≡ k → ⊥) → (table_in (store_tables scopes w) m).touched ≡ (table_in now m).touched
    touched m (inl i) = subst (λ j. (table_in (store_tables scopes w) j).touched ≡ (table_in now j).touched) (sym i)
        (ap (λ (ts : List TableOf). (table_in ts k).touched) after ∙ at_touched now k l nd ne)
    touched m (inr n) = ap (λ (u : TableOf). u.touched) (other_table now (store_tables scopes o) (store_tables scopes w) k m n _ view made)

-- one table of a list has become another, over its scope
pub record HasBecome (now after : List TableOf) (k shift : ℕ) (nd ne : List ℕ) (touched : Option (List Pair)) : Type 0 where
  pub table : table_in after k ≡ with_ratios (with_cells (table_in now k) nd ne) shift touched
  pub only : after ≡ set now k (table_in after k)
  pub scope : (table_in after k).scope ≡ (table_in now k).scope
  pub shift_is : (table_in after k).shift ≡ shift
  pub touched_is : (table_in after k).touched ≡ touched
  pub full : length nd ≡ cells_in (table_in now k).scope → length (table_in after k).digits ≡ cells_in (table_in after k).scope
  pub numbers : (f : ℕ → ℕ) (n : ℕ) → AreNumbers (touched_cells touched (table_in now k).scope) shift nd ne f n → HasNumbers (table_in after k) f n

has_become : (now after : List TableOf) (k : ℕ) → k < length now → (shift : ℕ) (nd ne : List ℕ) (touched : Option (List Pair))
    → after ≡ set now k (with_ratios (with_cells (table_in now k) nd ne) shift touched)
    → HasBecome now after k shift nd ne touched
has_become now after k l shift nd ne touched is = record {
  table = made_table now after k l shift nd ne touched is;
  only = made_only now after k l shift nd ne touched is;
  scope = made_scope now after k l shift nd ne touched is;
  shift_is = made_shift now after k l shift nd ne touched is;
  touched_is = made_touched now after k l shift nd ne touched is;
  full = made_full now after k l shift nd ne touched is;
  numbers = made_numbers now after k l shift nd ne touched is;
}

-- first its cells were changed, then its ratios
pub both_become : (scopes lent : List ScopeOf) → lent ≡ scopes → (now : List TableOf) (o w z : Store) → store_tables lent o ≡ now → (k : ℕ) → k < length now
    → (nd ne : List ℕ) (kept shift : ℕ) → kept ≡ shift
    → (touched : Option (List Pair)) → store_tables lent w ≡ set (store_tables lent o) k (with_cells (table_in (store_tables lent o) k) nd ne)
    → store_tables lent z ≡ set (store_tables lent w) k (with_ratios (table_in (store_tables lent w) k) kept touched)
    → HasBecome now (store_tables scopes z) k shift nd ne touched
both_become scopes lent e now o w z view k l nd ne kept shift same touched cells ratios =
    has_become now (store_tables scopes z) k l shift nd ne touched
    (ap (λ (x : List ScopeOf). store_tables x z) (sym e) ∙ both_steps now (store_tables lent o) (store_tables lent w)
    (store_tables lent z) k l view nd ne kept touched cells ratios
    ∙ ap (λ s. set now k (with_ratios (with_cells (table_in now k) nd ne) s touched)) same)

-- its cells alone were changed
pub cells_become : (scopes lent : List ScopeOf) → lent ≡ scopes → (now : List TableOf) (o w : Store) → store_tables lent o ≡ now → (k : ℕ) → k < length now
    → (nd ne : List ℕ)
    → store_tables lent w ≡ set (store_tables lent o) k (with_cells (table_in (store_tables lent o) k) nd ne)
    → HasBecome now (store_tables scopes w) k (table_in now k).shift nd ne (table_in now k).touched
cells_become scopes lent e now o w view k l nd ne cells =
    has_become now (store_tables scopes w) k l (table_in now k).shift nd ne (table_in now k).touched
    (ap (λ (x : List ScopeOf). store_tables x w) (sym e) ∙ after_is now (store_tables lent o) (store_tables lent w) k l view nd ne cells)

-- as many cells as the store has for a table
pub cells_long : (scopes : List ScopeOf) (w : Store) → IsStoreOf scopes w → (k : ℕ) → k < length scopes → (scope : ScopeOf) → scope_in scopes k ≡ scope
    → length (table_in (store_tables scopes w) k).digits ≡ cells_in scope
cells_long scopes w is k l scope e = (let full = table_is_full scopes w.heads.items w.digits.items w.exponents.items _ _ _ is k l in full.as_many_digits)
    ∙ ap cells_in e

-- places that a whole table and a part have, as the store has their scopes
pub record ArePlaced (scopes : List ScopeOf) (now : List TableOf) (k m : ℕ) (places : PlacesOf) : Type 0 where
  pub whole_now : places.whole ≡ (table_in now k).scope
  pub part_now : places.part ≡ (table_in now m).scope
  pub whole_is : places.whole ≡ scope_in scopes k
  pub part_is : places.part ≡ scope_in scopes m
  pub lies_kept : LiesIn places.part places.whole → LiesIn (scope_in scopes m) (scope_in scopes k)
  pub lies_now : LiesIn places.part places.whole → LiesIn (table_in now m).scope (table_in now k).scope

pub are_placed : (scopes : List ScopeOf) (s : Store) (now : List TableOf) (k m : ℕ) (places : PlacesOf)
    → places ≡ record { whole = (table_in now k).scope; part = (table_in now m).scope }
    → IsSeen scopes s now k → IsSeen scopes s now m → ArePlaced scopes now k m places
are_placed scopes s now k m places e one other = record {
  whole_now = whole;
  part_now = part;
  whole_is = whole ∙ sym one.scope;
  part_is = part ∙ sym other.scope;
  lies_kept = λ lies. subst (λ (x : ScopeOf). LiesIn x (scope_in scopes k)) (part ∙ sym other.scope)
      (subst (λ (x : ScopeOf). LiesIn places.part x) (whole ∙ sym one.scope) lies);
  lies_now = λ lies. subst (λ (x : ScopeOf). LiesIn x (table_in now k).scope) part (subst (λ (x : ScopeOf). LiesIn places.part x) whole lies);
}
  where
    whole : places.whole ≡ (table_in now k).scope
    whole = ap (λ (x : PlacesOf). x.whole) e

    part : places.part ≡ (table_in now m).scope
    part = ap (λ (x : PlacesOf). x.part) e

-- the parts of a table whose cells were read, ones where none are written
pub parts_filled : (scopes : List ScopeOf) (s : Store) (now : List TableOf) (k : ℕ) → IsSeen scopes s now k → (scope : ScopeOf) (d e : List ℕ)
    → scope ≡ scope_in scopes k
    → filled one_digits (cells_in (scope_in scopes k)) d ≡ (table_in (store_tables scopes s) k).digits
    → filled one_exponent (cells_in (scope_in scopes k)) e ≡ (table_in (store_tables scopes s) k).exponents
    → AreParts (table_in now k) scope (table_in now k).shift (filled one_digits (cells_in scope) d) (filled one_exponent (cells_in scope) e)
parts_filled scopes s now k seen scope d e is digits exponents =
    seen.parts scope _ _ is (ap (λ (x : ScopeOf). filled one_digits (cells_in x) d) is ∙ digits)
    (ap (λ (x : ScopeOf). filled one_exponent (cells_in x) e) is ∙ exponents)

-- room for the cells of each scope is there for those that are lent
pub room_lent : (scopes lent : List ScopeOf) → lent ≡ scopes → (room : ℕ) → ((k : ℕ) → k < length scopes → cells_in (scope_in scopes k) ≤ room) → (k : ℕ)
    → k < length lent → cells_in (scope_in lent k) ≤ room
room_lent scopes lent e room fit = subst (λ (x : List ScopeOf). (k : ℕ) → k < length x → cells_in (scope_in x k) ≤ room) (sym e) fit

-- a table of a store that is left, whose scopes are lent
pub seen_lent : (scopes lent : List ScopeOf) → lent ≡ scopes → (s : Store) (now : List TableOf) → IsStoreOf scopes s → store_tables scopes s ≡ now → (k : ℕ)
    → k < length now → IsSeen lent s now k
seen_lent scopes lent e s now is view = is_seen lent s now (subst (λ (x : List ScopeOf). IsStoreOf x s) (sym e) is)
    (ap (λ (x : List ScopeOf). store_tables x s) e ∙ view)

-- the same, where the cells are counted by the code
pub parts_counted : (scopes : List ScopeOf) (s : Store) (now : List TableOf) (k : ℕ) → IsSeen scopes s now k → (scope : ScopeOf) (count : ℕ) (d e : List ℕ)
    → scope ≡ scope_in scopes k → count ≡ cells_in (scope_in scopes k)
    → filled one_digits (cells_in (scope_in scopes k)) d ≡ (table_in (store_tables scopes s) k).digits
    → filled one_exponent (cells_in (scope_in scopes k)) e ≡ (table_in (store_tables scopes s) k).exponents
    → AreParts (table_in now k) scope (table_in now k).shift (filled one_digits count d) (filled one_exponent count e)
parts_counted scopes s now k seen scope count d e is counted digits exponents =
    seen.parts scope _ _ is (ap (λ n. filled one_digits n d) counted ∙ digits) (ap (λ n. filled one_exponent n e) counted ∙ exponents)

-- the tables of a store that was opened, whose scopes are lent
pub record IsOpened (scopes lent : List ScopeOf) (now : List TableOf) (s o : Store) : Type 0 where
  pub lent_is : lent ≡ scopes
  pub view : store_tables scopes s ≡ now
  pub same : IsSame lent s o

-- one of them has become another: first its cells were changed, then its ratios
pub record HasRun (scopes : List ScopeOf) (now : List TableOf) (w z : Store) (k shift : ℕ) (nd ne : List ℕ) : Type 0 where
  pub heads : HasHeads now w
  pub made : HasBecome now (store_tables scopes z) k shift nd ne (head_in z.heads.items k).touched
  pub full : length (table_in (store_tables scopes z) k).digits ≡ cells_in (table_in (store_tables scopes z) k).scope

pub record AreSeen (scopes : List ScopeOf) (s : Store) (now : List TableOf) (k m : ℕ) (places : PlacesOf) : Type 0 where
  pub one : IsSeen scopes s now k
  pub other : IsSeen scopes s now m
  pub placed : ArePlaced scopes now k m places

module _ {scopes lent : List ScopeOf} {now : List TableOf} {s o : Store} (h : IsOpened scopes lent now s o) where
  pub opened_now : store_tables lent o ≡ now
  opened_now = opened scopes lent h.lent_is s o now h.same.tables h.view

  pub seen_in : (k : ℕ) → k < length now → IsSeen lent o now k
  seen_in k l = is_seen lent o now h.same.opened.store opened_now k l

  pub heads_after : (k : ℕ) → k < length now → {w : Store} {nd ne : List ℕ} → HasCells lent o w k nd ne → HasHeads now w
  heads_after k l {w} {nd} {ne} cells = heads_kept lent now o w opened_now k l cells.opened.store nd ne cells.tables

  pub has_run : (k : ℕ) → k < length now → {w z : Store} {nd ne : List ℕ} {kept : ℕ} → HasCells lent o w k nd ne → HasRatiosOf lent w z k kept
      → (shift : ℕ) → (HasHeads now w → kept ≡ shift) → HasRun scopes now w z k shift nd ne
  has_run k l {w} {z} {nd} {ne} {kept} cells ratios shift same = record {
    heads = heads_after k l cells;
    made = both_become scopes lent h.lent_is now o w z opened_now k l nd ne kept shift (same (heads_after k l cells)) (head_in z.heads.items k).touched cells.tables ratios.tables;
    full = subst (λ (x : List ScopeOf). length (table_in (store_tables x z) k).digits ≡ cells_in (table_in (store_tables x z) k).scope) h.lent_is
        (cells_long lent z ratios.store k within (table_in (store_tables lent z) k).scope
        (sym (table_scope lent z.heads.items z.digits.items z.exponents.items _ _ _ ratios.store k within)));
  }
    where
      within : k < length lent
      within = (seen_in k l).within

  -- the cells of each fit into the spare arrays
  pub spare_fits : {spare : Spare} → AreTables scopes s spare → (k : ℕ) → k < length now
      → (cells_in (scope_in lent k) ≤ vec_capacity spare.digits) × (cells_in (scope_in lent k) ≤ vec_capacity spare.exponents)
  spare_fits are k l =
      let within = (seen_in k l).within in
      (room_lent scopes lent h.lent_is _ are.digits_fit k within, room_lent scopes lent h.lent_is _ are.exponents_fit k within)

  -- two of them, with their places
  pub see_both : {k m : ℕ} {places : PlacesOf} → k < length now → m < length now
      → places ≡ record { whole = (table_in now k).scope; part = (table_in now m).scope } → AreSeen lent o now k m places
  see_both {k} {m} {places} l n e = record { one = seen_in k l; other = seen_in m n; placed = are_placed lent o now k m places e (seen_in k l) (seen_in m n) }
