-- Tables of a list: what their code reads, and what it makes of one.
use Rattle.std.proofs.Common.{inl, ◌≡◌, ℕ, ◌<◌, ◌≤◌, List, length, set, refl, sym, ap, subst, ◌∙◌, arith, slice_index}
use Rattle.std.specs.Prelude.{Option, None, [], replicate}
use Rattle.std.proofs.lemmas.List.{get_or-set_same, get_or-set_other, set-set}
use Rattle.mk_net.specs.declared.words.Pair.{Pair}
use Rattle.mk_scope.specs.Scopes.{ScopeOf, cells_in}
use Rattle.mk_table.specs.Tables.{TableOf, HasNumbers}
use Rattle.mk_table.specs.Lists.{IsOnes, no_table, table_in}
use Rattle.mk_table.specs.declared.store.Head.{Head}
use Rattle.mk_passes.specs.Parts.{IsFull}
use Rattle.mk_table.specs.inner.Numbers.{AreNumbers}
use Rattle.mk_passes.specs.Blank.{one_digits, one_exponent, filled}
use Rattle.mk_table.specs.inner.Touched.{HasTouched}
use Rattle.mk_passes.proofs.Filled.{filled_empty, filled_length, one_at}
use Rattle.mk_table.specs.inner.Store.{AreScopes, IsStore, tables_of, table_of, head_in, scope_in, with_cells, with_ratios}
use Rattle.mk_table.proofs.Stored.{table_at, tables_length, table_is_full, table_scope, table_shift, table_touched}
use Rattle.mk_table.proofs.Whole.{AreParts, touched_cells}
use Rattle.mk_cell.specs.Cell.{StandsAt}
use Rattle.mk_passes.proofs.OnesSum.{one_stands}

-- a table of which nothing is written
pub ones_numbers : (scope : ScopeOf) (d e : List ℕ) → length d ≡ 0 → length e ≡ 0
    → HasNumbers (record { scope = scope; shift = 0; digits = filled one_digits (cells_in scope) d; exponents = filled one_exponent (cells_in scope) e; touched = None }) (λ c. 1) 0
ones_numbers scope d e h t = record {
  stand = record { each = λ c l. at c (omega (arith, l, long)) };
  own = λ c l o. record { own = 1; scaled = omega arith; stands = at c (omega (arith, l, long)) };
}
  where
    long : length (filled one_digits (cells_in scope) d) ≡ cells_in scope
    long = filled_length one_digits (cells_in scope) d (omega (arith, h))

    at : (c : ℕ) → c < cells_in scope → StandsAt 0 (slice_index (filled one_digits (cells_in scope) d) c) (slice_index (filled one_exponent (cells_in scope) e) c) 1 0
    at c l =
        subst (λ y. StandsAt 0 y (slice_index (filled one_exponent (cells_in scope) e) c) 1 0) (sym (one_at one_digits (cells_in scope) c d h l))
        (subst (λ y. StandsAt 0 one_digits y 1 0) (sym (one_at one_exponent (cells_in scope) c e t l)) one_stands)

pub seen_within : (scopes : List ScopeOf) (heads : List Head) (d e : List ℕ) (now : List TableOf) → tables_of scopes heads d e ≡ now → (k : ℕ) → k < length now → k < length scopes
seen_within scopes heads d e now view k l = let i = tables_length scopes heads d e in let j = ap (λ (ts : List TableOf). length ts) view in omega (arith, i, j, l)

-- a table of a list, as it is kept
module _ (scopes : List ScopeOf) (heads : List Head) (d e : List ℕ) (hr dr er : ℕ) (is : IsStore scopes heads d e hr dr er) (now : List TableOf) (view : tables_of scopes heads d e ≡ now) (k : ℕ) (within : k < length scopes) where
  pub seen_scope : scope_in scopes k ≡ (table_in now k).scope
  seen_scope = sym (table_scope scopes heads d e hr dr er is k within) ∙ ap (λ (ts : List TableOf). (table_in ts k).scope) view

  pub seen_shift : (head_in heads k).shift ≡ (table_in now k).shift
  seen_shift = sym (table_shift scopes heads d e hr dr er is k within) ∙ ap (λ (ts : List TableOf). (table_in ts k).shift) view

  pub seen_touched : (head_in heads k).touched ≡ (table_in now k).touched
  seen_touched = sym (table_touched scopes heads d e hr dr er is k within) ∙ ap (λ (ts : List TableOf). (table_in ts k).touched) view

  pub seen_full : IsFull (table_in now k).scope (table_in now k).digits (table_in now k).exponents
  seen_full =
      subst (λ (x : ScopeOf). IsFull x (table_in now k).digits (table_in now k).exponents) seen_scope
      (subst (λ (ts : List TableOf). IsFull (scope_in scopes k) (table_in ts k).digits (table_in ts k).exponents) view (table_is_full scopes heads d e hr dr er is k within))

  pub seen_there : HasTouched (table_in now k).scope (table_in now k).touched
  seen_there =
      subst (λ (x : ScopeOf). HasTouched x (table_in now k).touched) seen_scope (subst (λ (t : Option _). HasTouched (scope_in scopes k) t) seen_touched (is.there k within))

  pub seen_parts : (scope : ScopeOf) (digits exponents : List ℕ) → scope ≡ scope_in scopes k → digits ≡ (table_in (tables_of scopes heads d e) k).digits → exponents ≡ (table_in (tables_of scopes heads d e) k).exponents
      → AreParts (table_in now k) scope (table_in now k).shift digits exponents
  seen_parts scope digits exponents i j l = record {
    scope_is = i ∙ seen_scope;
    shift_is = refl;
    digits_are = j ∙ ap (λ (ts : List TableOf). (table_in ts k).digits) view;
    exponents_are = l ∙ ap (λ (ts : List TableOf). (table_in ts k).exponents) view;
    full = seen_full;
    there = seen_there;
  }

-- one table of a list has become another, over its scope
module _ (now after : List TableOf) (k : ℕ) (within : k < length now) (shift : ℕ) (nd ne : List ℕ) (touched : Option (List Pair))
    (is : after ≡ set now k (with_ratios (with_cells (table_in now k) nd ne) shift touched)) where
  pub made_table : table_in after k ≡ with_ratios (with_cells (table_in now k) nd ne) shift touched
  made_table = ap (λ (ts : List TableOf). table_in ts k) is ∙ get_or-set_same now k (with_ratios (with_cells (table_in now k) nd ne) shift touched) no_table within

  pub made_only : after ≡ set now k (table_in after k)
  made_only = is ∙ ap (set now k) (sym made_table)

  pub made_scope : (table_in after k).scope ≡ (table_in now k).scope
  made_scope = ap (λ (u : TableOf). u.scope) made_table

  pub made_shift : (table_in after k).shift ≡ shift
  made_shift = ap (λ (u : TableOf). u.shift) made_table

  pub made_touched : (table_in after k).touched ≡ touched
  made_touched = ap (λ (u : TableOf). u.touched) made_table

  pub made_full : length nd ≡ cells_in (table_in now k).scope → length (table_in after k).digits ≡ cells_in (table_in after k).scope
  made_full h = ap (λ (u : TableOf). length u.digits) made_table ∙ h ∙ ap cells_in (sym made_scope)

  pub made_numbers : (f : ℕ → ℕ) (n : ℕ) → AreNumbers (touched_cells touched (table_in now k).scope) shift nd ne f n → HasNumbers (table_in after k) f n
  made_numbers f n h = subst (λ (u : TableOf). HasNumbers u f n) (sym made_table) (record { stand = h.stand; own = h.own })

-- first its cells, then its ratios
pub both_steps : (now first second third : List TableOf) (k : ℕ) → k < length now → first ≡ now → (nd ne : List ℕ) (shift : ℕ) (touched : Option (List Pair)) → second ≡ set first k (with_cells (table_in first k) nd ne)
    → third ≡ set second k (with_ratios (table_in second k) shift touched) → third ≡ set now k (with_ratios (with_cells (table_in now k) nd ne) shift touched)
both_steps now first second third k l i nd ne shift touched m n =
    let x = with_cells (table_in now k) nd ne in
    let s : second ≡ set now k x = m ∙ ap (λ (ts : List TableOf). set ts k (with_cells (table_in ts k) nd ne)) i in
    n ∙ ap (λ (ts : List TableOf). set ts k (with_ratios (table_in ts k) shift touched)) s
    ∙ ap (λ (u : TableOf). set (set now k x) k (with_ratios u shift touched)) (get_or-set_same now k x no_table l)
    ∙ set-set now k x (with_ratios x shift touched)

-- what a table keeps beside its cells
pub at_shift : (now : List TableOf) (k : ℕ) → k < length now → (nd ne : List ℕ) → (table_in (set now k (with_cells (table_in now k) nd ne)) k).shift ≡ (table_in now k).shift
at_shift now k l nd ne = ap (λ (u : TableOf). u.shift) (get_or-set_same now k (with_cells (table_in now k) nd ne) no_table l)

pub at_touched : (now : List TableOf) (k : ℕ) → k < length now → (nd ne : List ℕ) → (table_in (set now k (with_cells (table_in now k) nd ne)) k).touched ≡ (table_in now k).touched
at_touched now k l nd ne = ap (λ (u : TableOf). u.touched) (get_or-set_same now k (with_cells (table_in now k) nd ne) no_table l)

-- another table than the one that changed
pub other_table : (now first second : List TableOf) (k m : ℕ) → (m ≡ k → ⊥) → (x : TableOf) → first ≡ now → second ≡ set first k x → table_in second m ≡ table_in now m
other_table now first second k m n x i j = ap (λ (ts : List TableOf). table_in ts m) j ∙ get_or-set_other first k m x no_table n ∙ ap (λ (ts : List TableOf). table_in ts m) i

pub ones_again : (scope : ScopeOf) (n : ℕ) (touched : Option (List Pair)) → n ≡ cells_in scope → touched ≡ None
    → HasNumbers (record { scope = scope; shift = 0; digits = replicate n one_digits; exponents = replicate n one_exponent; touched = touched }) (λ c. 1) 0
ones_again scope n touched i j =
    subst (λ (t : Option (List Pair)). HasNumbers (record { scope = scope; shift = 0; digits = replicate n one_digits; exponents = replicate n one_exponent; touched = t }) (λ c. 1) 0) (sym j)
    (subst (λ m. HasNumbers (record { scope = scope; shift = 0; digits = replicate m one_digits; exponents = replicate m one_exponent; touched = None }) (λ c. 1) 0) (sym i)
    (subst (λ (ys : List ℕ). HasNumbers (record { scope = scope; shift = 0; digits = ys; exponents = replicate (cells_in scope) one_exponent; touched = None }) (λ c. 1) 0) (filled_empty one_digits (cells_in scope))
    (subst (λ (ys : List ℕ). HasNumbers (record { scope = scope; shift = 0; digits = filled one_digits (cells_in scope) []; exponents = ys; touched = None }) (λ c. 1) 0) (filled_empty one_exponent (cells_in scope))
    (ones_numbers scope [] [] refl refl))))

-- tables of which nothing was written
pub fresh_store : (scopes : List ScopeOf) (cells most : ℕ) → AreScopes scopes cells most → (heads : List Head) (d e : List ℕ) (hr dr er : ℕ) → heads ≡ [] → d ≡ [] → e ≡ [] → length scopes ≤ hr → cells ≤ dr → cells ≤ er → IsStore scopes heads d e hr dr er
fresh_store scopes cells most are heads d e hr dr er i j l m n p =
    subst (λ (hs : List Head). IsStore scopes hs d e hr dr er) (sym i) (subst (λ (ys : List ℕ). IsStore scopes [] ys e hr dr er) (sym j) (subst (λ (ys : List ℕ). IsStore scopes [] [] ys hr dr er) (sym l) none))
  where
    none : IsStore scopes [] [] [] hr dr er
    none = record {
      either = inl refl;
      heads_fit = m;
      same_length = refl;
      digits_fit = omega (arith, are.all, n);
      exponents_fit = omega (arith, are.all, p);
      placed = λ k f q s. absurd s;
      apart = λ x y f h q r s t u. absurd t;
      there = λ k q. tt;
    }

pub fresh_ones : (scopes : List ScopeOf) (heads : List Head) (d e : List ℕ) → heads ≡ [] → (k : ℕ) → k < length scopes → IsOnes (scope_in scopes k) (table_in (tables_of scopes heads d e) k)
fresh_ones scopes heads d e i k l =
    let s = scope_in scopes k in
    subst (λ (u : TableOf). IsOnes s u) (sym (table_at scopes heads d e k l ∙ ap (λ (hs : List Head). table_of d e s (head_in hs k)) i))
    (record { scope_is = refl; no_shift = refl; ones = ones_again s (cells_in s) None refl refl; no_ratio = refl })
