-- The range of a table that is written, lent to a call that writes it over.
use Rattle.std.proofs.Common.{◌≡◌, ℕ, ◌+◌, ◌-◌, ◌<◌, ◌≤◌, List, length, take, drop, set, sym, ap, subst, ◌∙◌, arith}
use borrow.Rule.Slice.PartMut.{put_mid}
use Rattle.std.specs.Vec.{with_items}
use Rattle.mk_scope.specs.Scopes.{ScopeOf, cells_in}
use Rattle.mk_table.specs.Tables.{TableOf}
use Rattle.mk_table.specs.Lists.{table_in}
use Rattle.mk_table.specs.declared.store.Store.{Store}
use Rattle.mk_passes.specs.Parts.{IsFull}
use Rattle.mk_table.specs.inner.Store.{HasCells, IsSame, IsStoreOf, IsWrittenFrom, digits_in, exponents_in, store_tables, tables_of, scope_in, with_cells}
use Rattle.mk_table.proofs.Stored.{cells_there, range_digits, range_exponents, range_full, tables_length}
use Rattle.mk_table.proofs.Ranges.{passed_store, passed_tables, after_digits, after_exponents, after_tables}

-- the range lies within both arrays
pub record IsRange (s : Store) (first count : ℕ) : Type 0 where
  pub digits : first + count ≤ length s.digits.items
  pub exponents : first + count ≤ length s.exponents.items

pub is_range : (scopes : List ScopeOf) (s : Store) → IsStoreOf scopes s → (k : ℕ) → k < length scopes → (first : ℕ) → IsWrittenFrom s.heads.items k first
    → (count : ℕ) → count ≡ cells_in (scope_in scopes k)
    → IsRange s first count
is_range scopes s is k within first place count counted =
    let there = cells_there scopes s.heads.items s.digits.items s.exponents.items _ _ _ is k within first place in
    record { digits = omega (arith, there, counted); exponents = omega (arith, there, counted, is.same_length) }

-- what is lent are the table's cells
pub record IsLent (scope : ScopeOf) (table : TableOf) (ds es : List ℕ) : Type 0 where
  pub full : IsFull scope ds es
  pub digits : ds ≡ table.digits
  pub exponents : es ≡ table.exponents

-- the store with the range written over in both arrays, and the table that this makes
pub record HasPassed (scopes : List ScopeOf) (b n : Store) (k : ℕ) (nd ne : List ℕ) : Type 0 where
  pub cells : HasCells scopes b n k (digits_in scopes n k) (exponents_in scopes n k)
  pub digits : nd ≡ digits_in scopes n k
  pub exponents : ne ≡ exponents_in scopes n k
  pub long : length nd ≡ cells_in (scope_in scopes k)
  pub long_too : length ne ≡ cells_in (scope_in scopes k)

-- a store with a range of both arrays written over
abbrev pub written_over : Store → ℕ → ℕ → List ℕ → List ℕ → List ℕ → List ℕ → Store
written_over s first count xs ys nd ne =
    record s { digits = with_items s.digits (put_mid first (first + count - first) xs nd); exponents = with_items s.exponents (put_mid first (first + count - first) ys ne) }

module _ (scopes : List ScopeOf) (b s : Store) (is : IsStoreOf scopes s) (all : length s.heads.items ≡ length scopes)
    (same : store_tables scopes s ≡ store_tables scopes b) (k : ℕ) (within : k < length scopes)
    (first : ℕ) (place : IsWrittenFrom s.heads.items k first) (count : ℕ) (counted : count ≡ cells_in (scope_in scopes k)) (xs ys : List ℕ)
    (xs_are : xs ≡ s.digits.items) (ys_are : ys ≡ s.exponents.items) where
  lent_range : IsLent (scope_in scopes k) (table_in (store_tables scopes b) k) (take (first + count - first) (drop first xs))
      (take (first + count - first) (drop first ys))
  lent_range =
      let hs = s.heads.items in let d = s.digits.items in let e = s.exponents.items in
      record {
        full = range_full scopes hs d e _ _ _ is k within first place count counted xs ys xs_are ys_are;
        digits = range_digits scopes hs d e _ _ _ is k within first place count counted xs ys xs_are ys_are
            ∙ ap (λ (ts : List TableOf). (table_in ts k).digits) same;
        exponents = range_exponents scopes hs d e _ _ _ is k within first place count counted xs ys xs_are ys_are
            ∙ ap (λ (ts : List TableOf). (table_in ts k).exponents) same;
      }

  passed_range : (nd ne : List ℕ) → length nd ≡ length (take (first + count - first) (drop first xs))
      → length ne ≡ length (take (first + count - first) (drop first ys))
      → HasPassed scopes b (written_over s first count xs ys nd ne) k nd ne
  passed_range nd ne nd_long ne_long = record {
    cells = record {
      opened = record {
        store = passed_store scopes s.heads.items s.digits s.exponents _ _ _ is all k within first place count counted xs ys xs_are ys_are nd ne long long_too
            (omega (arith, s.digits.ok.0)) (omega (arith, s.exponents.ok.0));
        heads = all;
      };
      tables = after_tables (store_tables scopes b) _ _ k there same nd ne made;
    };
    digits = sym (after_digits (store_tables scopes b) _ _ k there same nd ne made);
    exponents = sym (after_exponents (store_tables scopes b) _ _ k there same nd ne made);
    long = long;
    long_too = long_too;
  }
    where
      full : IsFull (scope_in scopes k) (take (first + count - first) (drop first xs)) (take (first + count - first) (drop first ys))
      full = lent_range.full

      long : length nd ≡ cells_in (scope_in scopes k)
      long = nd_long ∙ full.as_many_digits

      long_too : length ne ≡ cells_in (scope_in scopes k)
      long_too = ne_long ∙ full.as_many_exponents

      there : k < length (store_tables scopes b)
      there = let n = tables_length scopes b.heads.items b.digits.items b.exponents.items in omega (arith, n, within)

      made : tables_of scopes s.heads.items (with_items s.digits (put_mid first (first + count - first) xs nd)).items
          (with_items s.exponents (put_mid first (first + count - first) ys ne)).items
          ≡ set (store_tables scopes s) k (with_cells (table_in (store_tables scopes s) k) nd ne)
      made = passed_tables scopes s.heads.items s.digits s.exponents _ _ _ is all k within first place count counted xs ys xs_are ys_are nd ne long long_too
          (omega (arith, s.digits.ok.0)) (omega (arith, s.exponents.ok.0))

-- a store has written a table's range, and lends it
pub record Lends (scopes : List ScopeOf) (b s : Store) (k first count : ℕ) (xs ys : List ℕ) : Type 0 where
  pub same : IsSame scopes b s
  pub within : k < length scopes
  pub place : IsWrittenFrom s.heads.items k first
  pub counted : count ≡ cells_in (scope_in scopes k)
  pub digits : xs ≡ s.digits.items
  pub exponents : ys ≡ s.exponents.items

pub is_lent : {scopes : List ScopeOf} {b s : Store} {k first count : ℕ} {xs ys : List ℕ} → Lends scopes b s k first count xs ys
    → IsLent (scope_in scopes k) (table_in (store_tables scopes b) k) (take (first + count - first) (drop first xs))
    (take (first + count - first) (drop first ys))
is_lent {scopes} {b} {s} {k} {first} {count} {xs} {ys} l =
    lent_range scopes b s l.same.opened.store l.same.opened.heads l.same.tables k l.within first l.place count l.counted xs ys l.digits l.exponents

pub has_passed : {scopes : List ScopeOf} {b s : Store} {k first count : ℕ} {xs ys : List ℕ} → Lends scopes b s k first count xs ys
    → (nd ne : List ℕ) → length nd ≡ length (take (first + count - first) (drop first xs)) → length ne ≡ length (take (first + count - first) (drop first ys))
    → HasPassed scopes b (written_over s first count xs ys nd ne) k nd ne
has_passed {scopes} {b} {s} {k} {first} {count} {xs} {ys} l =
    passed_range scopes b s l.same.opened.store l.same.opened.heads l.same.tables k l.within first l.place count l.counted xs ys l.digits l.exponents

-- what the table's cells allow, those that are lent do
pub fit_lent : (P : ScopeOf → List ℕ → List ℕ → Type 0) (scope given : ScopeOf) → given ≡ scope → (table : TableOf) (ds es : List ℕ) → IsLent scope table ds es
    → P scope table.digits table.exponents → P given ds es
fit_lent P scope given same table ds es lent h =
    subst (λ (x : ScopeOf). P x ds es) (sym same) (subst (λ (xs : List ℕ). P scope xs es) (sym lent.digits) (subst (λ (xs : List ℕ). P scope table.digits xs) (sym lent.exponents) h))

-- what a call made of the cells that it was lent, it made of the table
pub made_passed : (P : ScopeOf → List ℕ → List ℕ → List ℕ → List ℕ → Type 0) (scope given : ScopeOf) → given ≡ scope
    → (table : TableOf) (ds es nd ne d e : List ℕ) → IsLent scope table ds es
    → nd ≡ d → ne ≡ e → P given ds es nd ne → P scope table.digits table.exponents d e
made_passed P scope given same table ds es nd ne d e lent i j h =
    subst (λ (xs : List ℕ). P scope xs table.exponents d e) lent.digits (subst (λ (xs : List ℕ). P scope ds xs d e) lent.exponents
    (subst (λ (xs : List ℕ). P scope ds es xs e) i (subst (λ (xs : List ℕ). P scope ds es nd xs) j (subst (λ (x : ScopeOf). P x ds es nd ne) same h))))
