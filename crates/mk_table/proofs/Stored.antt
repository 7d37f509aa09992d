-- All tables in two arrays: what a change of one leaves of the others.
use Rattle.std.proofs.Common.{◌≡◌, ◌≢◌, ℕ, zero, suc, ◌+◌, ◌-◌, ◌<◌, ◌≤◌, ◌⊎◌, inl, inr, List, [], ◌∷◌, ◌++◌, map, length, replicate, take, drop, set, get_or, refl, sym, ap, subst, ◌∙◌, arith}
use borrow.Rule.Slice.PartMut.{put_mid}
use Rattle.std.proofs.Math.ListN.{get_or-map}
use Rattle.std.proofs.lemmas.Bool.{cases_eq}
use Rattle.std.proofs.lemmas.List.{length-set, length-take-le, length-drop, length-append, length-replicate, ext_get_or, get_or-take, get_or-drop, get_or_append_left, get_or-append_right, get_or-set_same, get_or-set_other, set-get_or, take_all, drop_at, nil_from_length, get_or_read, length-map, get_or_default, at_drop_more, at_drop_all}
use Rattle.std.proofs.lemmas.List.FromFn.{length-map-range_with_len, get_or-map-range_with_len, fill_by_all}
use Rattle.std.specs.Prelude.{Option, true, false}
use Rattle.mk_net.specs.declared.words.Pair.{Pair}
use Rattle.mk_states.specs.States.{numbers_below}
use Rattle.mk_scope.specs.Scopes.{ScopeOf, cells_in}
use Rattle.mk_table.specs.Tables.{TableOf}
use Rattle.mk_table.specs.Lists.{no_scope, no_table, table_in}
use Rattle.mk_table.specs.declared.store.Place.{Place}
use Rattle.mk_table.specs.declared.store.Place.TheVariants.{Nowhere, Blank, Written}
use Rattle.mk_table.specs.declared.store.Head.{Head}
use Rattle.mk_passes.specs.Blank.{one_digits, one_exponent, filled}
use Rattle.mk_passes.specs.Parts.{IsFull, AreBlankOrFull}
use Rattle.mk_table.specs.inner.Touched.{HasTouched}
use Rattle.mk_table.specs.inner.Store.{IsStore, StandsFrom, LieApart, all_missing, missing, tables_of, table_of, cells_from, head_in, scope_in, no_head, with_cells, with_ratios, is_written}
use Rattle.mk_passes.proofs.Filled.{filled_full}

-- ---- lists that are made by number

module _ (F G : ℕ → TableOf) (n : ℕ) where
  list_same : ((j : ℕ) → j < n → G j ≡ F j) → map G (numbers_below n) ≡ map F (numbers_below n)
  list_same h =
      fill_by_all F (map G (numbers_below n)) n no_table (length-map-range_with_len G 0 n) (λ j l. get_or-map-range_with_len G 0 n j j no_table l (omega arith) ∙ h j l)

  list_but : (k : ℕ) → k < n → ((j : ℕ) → j < n → (j ≡ k → ⊥) → G j ≡ F j) → map G (numbers_below n) ≡ set (map F (numbers_below n)) k (G k)
  list_but k m h = sym (fill_by_all G (set (map F (numbers_below n)) k (G k)) n no_table (length-set (map F (numbers_below n)) k (G k) ∙ length-map-range_with_len F 0 n) (λ j l. at j l (cases_eq j k)))
    where
      at : (j : ℕ) → j < n → (j ≡ k) ⊎ (j ≡ k → ⊥) → get_or (set (map F (numbers_below n)) k (G k)) j no_table ≡ G j
      at j l (inl e) =
          ap (λ i. get_or (set (map F (numbers_below n)) k (G k)) i no_table) e
          ∙ get_or-set_same (map F (numbers_below n)) k (G k) no_table (let i = length-map-range_with_len F 0 n in omega (arith, i, m)) ∙ ap G (sym e)
      at j l (inr e) = get_or-set_other (map F (numbers_below n)) k j (G k) no_table e ∙ get_or-map-range_with_len F 0 n j j no_table l (omega arith) ∙ sym (h j l e)

-- ---- parts of arrays

-- an array that may be longer, in which nothing but so many places from a first on is changed
pub record LeavesOthers (first count : ℕ) (old new : List ℕ) : Type 0 where
  pub long : length old ≤ length new
  pub left : (i : ℕ) → i < length old → ((i < first) ⊎ (first + count ≤ i)) → get_or new i 0 ≡ get_or old i 0

pub nothing_left : (first count : ℕ) (d : List ℕ) → LeavesOthers first count d d
nothing_left first count d = record { long = omega arith; left = λ i l s. refl }

pub range_left : (first count other more : ℕ) (d e : List ℕ) → LeavesOthers first count d e → LieApart first count other more → other + more ≤ length d → take more (drop other e) ≡ take more (drop other d)
range_left first count other more d e h s l =
    ext_get_or 0 (take more (drop other e)) (take more (drop other d)) (long_new ∙ sym long_old)
    (λ i m. let j : i < more = omega (arith, m, long_new) in
    get_or-take more (drop other e) i 0 j ∙ get_or-drop other e i 0 ∙ h.left (other + i) (omega (arith, l, j)) (at i j s) ∙ sym (get_or-drop other d i 0) ∙ sym (get_or-take more (drop other d) i 0 j))
  where
    long_old : length (take more (drop other d)) ≡ more
    long_old = length-take-le more (drop other d) (let i = length-drop other d in omega (arith, i, l))

    long_new : length (take more (drop other e)) ≡ more
    long_new = length-take-le more (drop other e) (let i = length-drop other e in omega (arith, i, l, h.long))

    at : (i : ℕ) → i < more → LieApart first count other more → ((other + i < first) ⊎ (first + count ≤ other + i))
    at i j (inl a) = inr (omega (arith, a))
    at i j (inr b) = inl (omega (arith, b, j))

-- a range that is written over
module _ (first count : ℕ) (d new : List ℕ) (fits : first + count ≤ length d) (long : length new ≡ count) where
  front_long : length (take first d) ≡ first
  front_long = length-take-le first d (omega (arith, fits))

  back_long : length (drop count (drop first d)) ≡ length d - first - count
  back_long = length-drop count (drop first d) ∙ ap (λ k. k - count) (length-drop first d)

  pub mid_length : length (put_mid first count d new) ≡ length d
  mid_length =
      length-append (take first d) (new ++ drop count (drop first d))
      ∙ (let i = length-append new (drop count (drop first d)) in omega (arith, i, front_long, back_long, fits, long))

  mid_back : (i : ℕ) → get_or (put_mid first count d new) (first + i) 0 ≡ get_or (new ++ drop count (drop first d)) i 0
  mid_back i =
      get_or-append_right (take first d) (new ++ drop count (drop first d)) first (first + i) 0 front_long (omega arith)
      ∙ (let e : first + i - first ≡ i = omega arith in ap (λ k. get_or (new ++ drop count (drop first d)) k 0) e)

  mid_after : (i : ℕ) → first + count ≤ i → get_or (put_mid first count d new) i 0 ≡ get_or d i 0
  mid_after i l =
      let j = i - (first + count) in
      let e : i ≡ first + (count + j) = omega (arith, l) in
      let o : count + j - count ≡ j = omega arith in
      ap (λ k. get_or (put_mid first count d new) k 0) e ∙ mid_back (count + j)
      ∙ get_or-append_right new (drop count (drop first d)) count (count + j) 0 long (omega arith) ∙ ap (λ k. get_or (drop count (drop first d)) k 0) o
      ∙ get_or-drop count (drop first d) j 0 ∙ get_or-drop first d (count + j) 0 ∙ ap (λ k. get_or d k 0) (sym e)

  pub mid_leaves : LeavesOthers first count d (put_mid first count d new)
  mid_leaves = record { long = omega (arith, mid_length); left = at }
    where
      at : (i : ℕ) → i < length d → ((i < first) ⊎ (first + count ≤ i)) → get_or (put_mid first count d new) i 0 ≡ get_or d i 0
      at i l (inl a) = get_or_append_left (take first d) (new ++ drop count (drop first d)) 0 i (omega (arith, a, front_long)) ∙ get_or-take first d i 0 a
      at i l (inr b) = mid_after i b

  pub mid_own : take count (drop first (put_mid first count d new)) ≡ new
  mid_own =
      ext_get_or 0 (take count (drop first (put_mid first count d new))) new (long_own ∙ sym long)
      (λ i m. let j : i < count = omega (arith, m, long_own) in
      get_or-take count (drop first (put_mid first count d new)) i 0 j ∙ get_or-drop first (put_mid first count d new) i 0 ∙ mid_back i ∙ get_or_append_left new (drop count (drop first d)) 0 i (omega (arith, j, long)))
    where
      long_own : length (take count (drop first (put_mid first count d new))) ≡ count
      long_own = length-take-le count (drop first (put_mid first count d new)) (let i = length-drop first (put_mid first count d new) in omega (arith, i, mid_length, fits))

-- a range that is appended
pub end_leaves : (d new : List ℕ) (count : ℕ) → LeavesOthers (length d) count d (d ++ new)
end_leaves d new count = record { long = let i = length-append d new in omega (arith, i); left = λ i l s. get_or_append_left d new 0 i l }

pub end_own : (d new : List ℕ) (count : ℕ) → length new ≡ count → take count (drop (length d) (d ++ new)) ≡ new
end_own d new count l = ap (take count) (drop_at d new (length d) refl) ∙ take_all count new (omega (arith, l))

-- ---- the cells of a table

pub cells_left : (p : Place) (one n : ℕ) (d e : List ℕ) → ((g : ℕ) → StandsFrom p g → take n (drop g e) ≡ take n (drop g d)) → cells_from p one n e ≡ cells_from p one n d
cells_left Nowhere one n d e h = refl
cells_left (Blank g) one n d e h = refl
cells_left (Written g) one n d e h = h g refl

pub written_from : (p : Place) (g : ℕ) → p ≡ Written g → StandsFrom p g
written_from p g e = subst (λ q. StandsFrom q g) (sym e) refl

pub written_cells : (p : Place) (g one n : ℕ) (d : List ℕ) → p ≡ Written g → cells_from p one n d ≡ take n (drop g d)
written_cells p g one n d e = ap (λ q. cells_from q one n d) e

-- ---- the cells that have no place yet

pub missing_set : (scopes : List ScopeOf) (heads : List Head) (k : ℕ) (h : Head) → length heads ≡ length scopes → k < length scopes
    → all_missing scopes (set heads k h) + missing (head_in heads k).place (cells_in (scope_in scopes k)) ≡ all_missing scopes heads + missing h.place (cells_in (scope_in scopes k))
unfolding all_missing
missing_set [] heads k h e l = absurd (omega (arith, l))
missing_set (s ∷ scopes) [] k h e l = absurd (omega (arith, e))
missing_set (s ∷ scopes) (x ∷ heads) zero h e l = omega arith
missing_set (s ∷ scopes) (x ∷ heads) (suc k) h e l = let i = missing_set scopes heads k h (omega (arith, e)) (omega (arith, l)) in omega (arith, i)

pub missing_none : (scopes : List ScopeOf) → all_missing scopes (replicate (length scopes) no_head) ≡ all_missing scopes []
unfolding all_missing
missing_none [] = refl
missing_none (s ∷ scopes) = ap (λ k. cells_in s + k) (missing_none scopes)

pub no_heads : (n k : ℕ) → head_in (replicate n no_head) k ≡ no_head
no_heads zero k = refl
no_heads (suc n) zero = refl
no_heads (suc n) (suc k) = no_heads n k

-- ---- all tables

pub table_at : (scopes : List ScopeOf) (heads : List Head) (d e : List ℕ) (k : ℕ) → k < length scopes → table_in (tables_of scopes heads d e) k ≡ table_of d e (scope_in scopes k) (head_in heads k)
unfolding tables_of
table_at scopes heads d e k l = get_or-map-range_with_len (λ j. table_of d e (scope_in scopes j) (head_in heads j)) 0 (length scopes) k k no_table l (omega arith)

pub tables_length : (scopes : List ScopeOf) (heads : List Head) (d e : List ℕ) → length (tables_of scopes heads d e) ≡ length scopes
unfolding tables_of
tables_length scopes heads d e = length-map-range_with_len (λ j. table_of d e (scope_in scopes j) (head_in heads j)) 0 (length scopes)

-- heads that are written for tables that were not changed
pub opened_tables : (scopes : List ScopeOf) (heads : List Head) (d e : List ℕ) → length heads ≡ 0 → tables_of scopes (replicate (length scopes) no_head) d e ≡ tables_of scopes heads d e
unfolding tables_of
opened_tables scopes heads d e h =
    list_same (λ j. table_of d e (scope_in scopes j) (head_in heads j)) (λ j. table_of d e (scope_in scopes j) (head_in (replicate (length scopes) no_head) j)) (length scopes)
    (λ j l. ap (table_of d e (scope_in scopes j)) (no_heads (length scopes) j ∙ ap (λ (hs : List Head). head_in hs j) (sym (nil_from_length heads h))))

pub opened_store : (scopes : List ScopeOf) (heads : List Head) (d e : List ℕ) (hr dr er : ℕ) → length heads ≡ 0 → IsStore scopes heads d e hr dr er → IsStore scopes (replicate (length scopes) no_head) d e hr dr er
opened_store scopes heads d e hr dr er h is =
    let same : (j : ℕ) → head_in (replicate (length scopes) no_head) j ≡ head_in heads j = λ j. no_heads (length scopes) j ∙ ap (λ (hs : List Head). head_in hs j) (sym (nil_from_length heads h)) in
    let none : all_missing scopes (replicate (length scopes) no_head) ≡ all_missing scopes heads = missing_none scopes ∙ ap (all_missing scopes) (sym (nil_from_length heads h)) in
    record {
      either = inr (length-replicate (length scopes) no_head);
      heads_fit = is.heads_fit;
      same_length = is.same_length;
      digits_fit = omega (arith, none, is.digits_fit);
      exponents_fit = omega (arith, none, is.exponents_fit);
      placed = λ j g l s. is.placed j g l (subst (λ (x : Head). StandsFrom x.place g) (same j) s);
      apart = λ i j f g l m n s t. is.apart i j f g l m n (subst (λ (x : Head). StandsFrom x.place f) (same i) s) (subst (λ (x : Head). StandsFrom x.place g) (same j) t);
      there = λ j l. subst (λ (x : Head). HasTouched (scope_in scopes j) x.touched) (sym (same j)) (is.there j l);
    }

swapped : (f n g m : ℕ) → LieApart f n g m → LieApart g m f n
swapped f n g m (inl a) = inr a
swapped f n g m (inr b) = inl b

-- one head is changed, and its range: the one that it has, or one at the end
module _ (scopes : List ScopeOf) (heads : List Head) (d e : List ℕ) (hr dr er : ℕ) (is : IsStore scopes heads d e hr dr er) (all : length heads ≡ length scopes) (k : ℕ) (within : k < length scopes)
    (first : ℕ) (new_d new_e : List ℕ) (h : Head)
    (own : StandsFrom (head_in heads k).place first ⊎ (first ≡ length d))
    (digits : LeavesOthers first (cells_in (scope_in scopes k)) d new_d)
    (exponents : LeavesOthers first (cells_in (scope_in scopes k)) e new_e) where
  zone_apart : (j g : ℕ) → j < length scopes → (j ≡ k → ⊥) → StandsFrom (head_in heads j).place g → LieApart first (cells_in (scope_in scopes k)) g (cells_in (scope_in scopes j))
  zone_apart j g l n s = at own
    where
      at : (StandsFrom (head_in heads k).place first ⊎ (first ≡ length d)) → LieApart first (cells_in (scope_in scopes k)) g (cells_in (scope_in scopes j))
      at (inl a) = is.apart k j first g within l (λ i. n (sym i)) a s
      at (inr b) = inr (let p = is.placed j g l s in omega (arith, p, b))

  head_same : head_in (set heads k h) k ≡ h
  head_same = get_or-set_same heads k h no_head (omega (arith, within, all))

  head_other : (j : ℕ) → (j ≡ k → ⊥) → head_in (set heads k h) j ≡ head_in heads j
  head_other j n = get_or-set_other heads k j h no_head n

  table_left : (j : ℕ) → j < length scopes → (j ≡ k → ⊥) → table_of new_d new_e (scope_in scopes j) (head_in (set heads k h) j) ≡ table_of d e (scope_in scopes j) (head_in heads j)
  table_left j l n =
      let s = scope_in scopes j in let x = head_in heads j in
      let a : cells_from x.place one_digits (cells_in s) new_d ≡ cells_from x.place one_digits (cells_in s) d =
      cells_left x.place one_digits (cells_in s) d new_d (λ g i. range_left first (cells_in (scope_in scopes k)) g (cells_in s) d new_d digits (zone_apart j g l n i) (is.placed j g l i)) in
      let b : cells_from x.place one_exponent (cells_in s) new_e ≡ cells_from x.place one_exponent (cells_in s) e =
      cells_left x.place one_exponent (cells_in s) e new_e (λ g i. range_left first (cells_in (scope_in scopes k)) g (cells_in s) e new_e exponents (zone_apart j g l n i) (let p = is.placed j g l i in omega (arith, p, is.same_length))) in
      ap (table_of new_d new_e s) (head_other j n)
      ∙ ap (λ (ys : List ℕ). record { scope = s; shift = x.shift; digits = ys; exponents = cells_from x.place one_exponent (cells_in s) new_e; touched = x.touched }) a
      ∙ ap (λ (ys : List ℕ). record { scope = s; shift = x.shift; digits = cells_from x.place one_digits (cells_in s) d; exponents = ys; touched = x.touched }) b

  pub changed_tables : tables_of scopes (set heads k h) new_d new_e ≡ set (tables_of scopes heads d e) k (table_of new_d new_e (scope_in scopes k) h)
  unfolding tables_of
  changed_tables =
      list_but (λ j. table_of d e (scope_in scopes j) (head_in heads j)) (λ j. table_of new_d new_e (scope_in scopes j) (head_in (set heads k h) j)) (length scopes) k within table_left
      ∙ ap (λ (x : Head). set (tables_of scopes heads d e) k (table_of new_d new_e (scope_in scopes k) x)) head_same

  pub changed_store : length new_e ≡ length new_d
      → ((g : ℕ) → StandsFrom h.place g → (g ≡ first) × (first + cells_in (scope_in scopes k) ≤ length new_d))
      → length new_d + missing h.place (cells_in (scope_in scopes k)) ≤ length d + missing (head_in heads k).place (cells_in (scope_in scopes k))
      → HasTouched (scope_in scopes k) h.touched → IsStore scopes (set heads k h) new_d new_e hr dr er
  changed_store same place room there = record {
    either = inr (length-set heads k h ∙ all);
    heads_fit = is.heads_fit;
    same_length = same;
    digits_fit = let m = missing_set scopes heads k h all within in omega (arith, m, room, is.digits_fit);
    exponents_fit = let m = missing_set scopes heads k h all within in omega (arith, m, room, is.exponents_fit);
    placed = λ j g l s. placed j g l s (cases_eq j k);
    apart = λ i j f g l m n s t. apart i j f g l m n s t (cases_eq i k) (cases_eq j k);
    there = λ j l. stays j l (cases_eq j k);
  }
    where
      mine : (j g : ℕ) → j ≡ k → StandsFrom (head_in (set heads k h) j).place g → StandsFrom h.place g
      mine j g i s = subst (λ (x : Head). StandsFrom x.place g) (ap (head_in (set heads k h)) i ∙ head_same) s

      theirs : (j g : ℕ) → (j ≡ k → ⊥) → StandsFrom (head_in (set heads k h) j).place g → StandsFrom (head_in heads j).place g
      theirs j g n s = subst (λ (x : Head). StandsFrom x.place g) (head_other j n) s

      placed : (j g : ℕ) → j < length scopes → StandsFrom (head_in (set heads k h) j).place g → (j ≡ k) ⊎ (j ≡ k → ⊥) → g + cells_in (scope_in scopes j) ≤ length new_d
      placed j g l s (inl i) = let p = place g (mine j g i s) in let q = ap (λ m. cells_in (scope_in scopes m)) i in omega (arith, p.0, p.1, q)
      placed j g l s (inr n) = let p = is.placed j g l (theirs j g n s) in omega (arith, p, digits.long)

      apart : (i j f g : ℕ) → i < length scopes → j < length scopes → i ≢ j → StandsFrom (head_in (set heads k h) i).place f → StandsFrom (head_in (set heads k h) j).place g
          → (i ≡ k) ⊎ (i ≡ k → ⊥) → (j ≡ k) ⊎ (j ≡ k → ⊥) → LieApart f (cells_in (scope_in scopes i)) g (cells_in (scope_in scopes j))
      apart i j f g l m n s t (inl a) (inl b) = absurd (n (a ∙ sym b))
      apart i j f g l m n s t (inl a) (inr b) =
          subst (λ q. LieApart f (cells_in (scope_in scopes q)) g (cells_in (scope_in scopes j))) (sym a)
          (subst (λ q. LieApart q (cells_in (scope_in scopes k)) g (cells_in (scope_in scopes j))) (sym (place f (mine i f a s)).0) (zone_apart j g m b (theirs j g b t)))
      apart i j f g l m n s t (inr a) (inl b) =
          subst (λ q. LieApart f (cells_in (scope_in scopes i)) g (cells_in (scope_in scopes q))) (sym b)
          (subst (λ q. LieApart f (cells_in (scope_in scopes i)) q (cells_in (scope_in scopes k))) (sym (place g (mine j g b t)).0)
          (swapped first (cells_in (scope_in scopes k)) f (cells_in (scope_in scopes i)) (zone_apart i f l a (theirs i f a s))))
      apart i j f g l m n s t (inr a) (inr b) = is.apart i j f g l m n (theirs i f a s) (theirs j g b t)

      stays : (j : ℕ) → j < length scopes → (j ≡ k) ⊎ (j ≡ k → ⊥) → HasTouched (scope_in scopes j) (head_in (set heads k h) j).touched
      stays j l (inl i) =
          subst (λ q. HasTouched (scope_in scopes q) (head_in (set heads k h) q).touched) (sym i) (subst (λ (x : Head). HasTouched (scope_in scopes k) x.touched) (sym head_same) there)
      stays j l (inr n) = subst (λ (x : Head). HasTouched (scope_in scopes j) x.touched) (sym (head_other j n)) (is.there j l)

-- ---- heads

any_place : (p : Place) → ((g : ℕ) × StandsFrom p g) ⊎ ((g : ℕ) → StandsFrom p g → ⊥)
any_place Nowhere = inr (λ g s. s)
any_place (Blank g) = inl (g, refl)
any_place (Written g) = inl (g, refl)

pub stands_once : (p : Place) (f g : ℕ) → StandsFrom p f → StandsFrom p g → f ≡ g
stands_once Nowhere f g s t = absurd s
stands_once (Blank h) f g s t = sym s ∙ t
stands_once (Written h) f g s t = sym s ∙ t

-- a head is changed, whose cells stay where they are
module _ (scopes : List ScopeOf) (heads : List Head) (d e : List ℕ) (hr dr er : ℕ) (is : IsStore scopes heads d e hr dr er) (all : length heads ≡ length scopes) (k : ℕ) (within : k < length scopes)
    (h : Head) (stays : (g : ℕ) → StandsFrom h.place g → StandsFrom (head_in heads k).place g) where
  pub head_tables : tables_of scopes (set heads k h) d e ≡ set (tables_of scopes heads d e) k (table_of d e (scope_in scopes k) h)
  head_tables = at (any_place (head_in heads k).place)
    where
      at : ((g : ℕ) × StandsFrom (head_in heads k).place g) ⊎ ((g : ℕ) → StandsFrom (head_in heads k).place g → ⊥) → tables_of scopes (set heads k h) d e ≡ set (tables_of scopes heads d e) k (table_of d e (scope_in scopes k) h)
      at (inl p) = changed_tables scopes heads d e hr dr er is all k within p.0 d e h (inl p.1) (nothing_left _ _ d) (nothing_left _ _ e)
      at (inr n) = changed_tables scopes heads d e hr dr er is all k within (length d) d e h (inr refl) (nothing_left _ _ d) (nothing_left _ _ e)

  pub head_store : missing h.place (cells_in (scope_in scopes k)) ≡ missing (head_in heads k).place (cells_in (scope_in scopes k)) → HasTouched (scope_in scopes k) h.touched → IsStore scopes (set heads k h) d e hr dr er
  head_store m t = at (any_place (head_in heads k).place)
    where
      at : ((g : ℕ) × StandsFrom (head_in heads k).place g) ⊎ ((g : ℕ) → StandsFrom (head_in heads k).place g → ⊥) → IsStore scopes (set heads k h) d e hr dr er
      at (inl p) =
          changed_store scopes heads d e hr dr er is all k within p.0 d e h (inl p.1) (nothing_left _ _ d) (nothing_left _ _ e) is.same_length
          (λ g s. (stands_once (head_in heads k).place g p.0 (stays g s) p.1, is.placed k p.0 within p.1)) (omega (arith, m)) t
      at (inr n) =
          changed_store scopes heads d e hr dr er is all k within (length d) d e h (inr refl) (nothing_left _ _ d) (nothing_left _ _ e) is.same_length
          (λ g s. absurd (n g (stays g s))) (omega (arith, m)) t

-- a head with the same place, as code reads it and writes it
module _ (scopes : List ScopeOf) (heads : List Head) (d e : List ℕ) (hr dr er : ℕ) (is : IsStore scopes heads d e hr dr er) (all : length heads ≡ length scopes) (k : ℕ) (within : k < length scopes)
    (x : Head) (read : x ≡ get_or heads k x) where
  pub head_is : x ≡ head_in heads k
  head_is = get_or_read heads k x (omega (arith, within, all)) read no_head

  pub read_there : HasTouched (scope_in scopes k) x.touched
  read_there = subst (λ (y : Head). HasTouched (scope_in scopes k) y.touched) (sym head_is) (is.there k within)

  pub ratios_store : (shift : ℕ) (touched : Option (List Pair)) → HasTouched (scope_in scopes k) touched → IsStore scopes (set heads k (record { place = x.place; shift = shift; touched = touched })) d e hr dr er
  ratios_store shift touched there =
      head_store scopes heads d e hr dr er is all k within (record { place = x.place; shift = shift; touched = touched })
      (λ g s. subst (λ (y : Head). StandsFrom y.place g) head_is s) (ap (λ (y : Head). missing y.place (cells_in (scope_in scopes k))) head_is) there

  pub ratios_tables : (shift other : ℕ) (touched : Option (List Pair)) → shift ≡ other
      → tables_of scopes (set heads k (record { place = x.place; shift = shift; touched = touched })) d e
      ≡ set (tables_of scopes heads d e) k (with_ratios (table_in (tables_of scopes heads d e) k) other (head_in (set heads k (record { place = x.place; shift = shift; touched = touched })) k).touched)
  ratios_tables shift other touched i =
      let h : Head = record { place = x.place; shift = shift; touched = touched } in let T = tables_of scopes heads d e in let s = scope_in scopes k in
      let same : head_in (set heads k h) k ≡ h = get_or-set_same heads k h no_head (omega (arith, within, all)) in
      let old : table_in T k ≡ table_of d e s x = table_at scopes heads d e k within ∙ ap (table_of d e s) (sym head_is) in
      head_tables scopes heads d e hr dr er is all k within h (λ g t. subst (λ (y : Head). StandsFrom y.place g) head_is t)
      ∙ ap (λ j. set T k (with_ratios (table_of d e s x) j touched)) i
      ∙ ap (λ (u : TableOf). set T k (with_ratios u other touched)) (sym old)
      ∙ ap (λ (y : Head). set T k (with_ratios (table_in T k) other y.touched)) (sym same)

-- a table that is blank again
module _ (scopes : List ScopeOf) (heads : List Head) (d e : List ℕ) (hr dr er : ℕ) (is : IsStore scopes heads d e hr dr er) (all : length heads ≡ length scopes) (k : ℕ) (within : k < length scopes)
    (x : Head) (read : x ≡ get_or heads k x) (first : ℕ) (written : x.place ≡ Written first) where
  blank_stays : (g : ℕ) → first ≡ g → StandsFrom (head_in heads k).place g
  blank_stays g i = subst (λ (y : Head). StandsFrom y.place g) (head_is scopes heads d e hr dr er is all k within x read) (subst (λ p. StandsFrom p g) (sym written) i)

  pub blank_store : IsStore scopes (set heads k (record { place = Blank first; shift = x.shift; touched = x.touched })) d e hr dr er
  blank_store =
      let i = head_is scopes heads d e hr dr er is all k within x read in
      head_store scopes heads d e hr dr er is all k within (record { place = Blank first; shift = x.shift; touched = x.touched }) blank_stays
      (ap (λ p. missing p (cells_in (scope_in scopes k))) (sym written) ∙ ap (λ (y : Head). missing y.place (cells_in (scope_in scopes k))) i)
      (subst (λ (y : Head). HasTouched (scope_in scopes k) y.touched) (sym i) (is.there k within))

  pub blank_tables : tables_of scopes (set heads k (record { place = Blank first; shift = x.shift; touched = x.touched })) d e
      ≡ set (tables_of scopes heads d e) k (with_cells (table_in (tables_of scopes heads d e) k) (replicate (cells_in (scope_in scopes k)) one_digits) (replicate (cells_in (scope_in scopes k)) one_exponent))
  blank_tables =
      let T = tables_of scopes heads d e in let s = scope_in scopes k in
      let old : table_in T k ≡ table_of d e s x = table_at scopes heads d e k within ∙ ap (table_of d e s) (sym (head_is scopes heads d e hr dr er is all k within x read)) in
      head_tables scopes heads d e hr dr er is all k within (record { place = Blank first; shift = x.shift; touched = x.touched }) blank_stays
      ∙ ap (λ (u : TableOf). set T k (with_cells u (replicate (cells_in s) one_digits) (replicate (cells_in s) one_exponent))) (sym old)

-- a table that is blank already
pub no_cells : (p : Place) (one n : ℕ) (d : List ℕ) → ((g : ℕ) → p ≡ Written g → ⊥) → cells_from p one n d ≡ replicate n one
no_cells Nowhere one n d h = refl
no_cells (Blank g) one n d h = refl
no_cells (Written g) one n d h = absurd (h g refl)

pub blank_already : (scopes : List ScopeOf) (heads : List Head) (d e : List ℕ) (k : ℕ) → k < length scopes → ((g : ℕ) → (head_in heads k).place ≡ Written g → ⊥)
    → tables_of scopes heads d e ≡ set (tables_of scopes heads d e) k (with_cells (table_in (tables_of scopes heads d e) k) (replicate (cells_in (scope_in scopes k)) one_digits) (replicate (cells_in (scope_in scopes k)) one_exponent))
blank_already scopes heads d e k l n =
    let T = tables_of scopes heads d e in let s = scope_in scopes k in let h = head_in heads k in
    let at = table_at scopes heads d e k l in
    sym (set-get_or T k no_table)
    ∙ ap (set T k) (at
    ∙ ap (λ (ys : List ℕ). record { scope = s; shift = h.shift; digits = ys; exponents = cells_from h.place one_exponent (cells_in s) e; touched = h.touched }) (no_cells h.place one_digits (cells_in s) d n)
    ∙ ap (λ (ys : List ℕ). record { scope = s; shift = h.shift; digits = replicate (cells_in s) one_digits; exponents = ys; touched = h.touched }) (no_cells h.place one_exponent (cells_in s) e n)
    ∙ sym (ap (λ (u : TableOf). with_cells u (replicate (cells_in s) one_digits) (replicate (cells_in s) one_exponent)) at))

-- a table whose cells are in the arrays, and one whose are not
module _ (scopes : List ScopeOf) (heads : List Head) (d e : List ℕ) (hr dr er : ℕ) (is : IsStore scopes heads d e hr dr er) (k : ℕ) (within : k < length scopes) where
  pub cells_blank : ((g : ℕ) → (head_in heads k).place ≡ Written g → ⊥)
      → ((table_in (tables_of scopes heads d e) k).digits ≡ replicate (cells_in (scope_in scopes k)) one_digits) × ((table_in (tables_of scopes heads d e) k).exponents ≡ replicate (cells_in (scope_in scopes k)) one_exponent)
  cells_blank n =
      let at = table_at scopes heads d e k within in let h = head_in heads k in let s = scope_in scopes k in
      (ap (λ (u : TableOf). u.digits) at ∙ no_cells h.place one_digits (cells_in s) d n, ap (λ (u : TableOf). u.exponents) at ∙ no_cells h.place one_exponent (cells_in s) e n)

  pub cells_there : (first : ℕ) → (head_in heads k).place ≡ Written first → first + cells_in (scope_in scopes k) ≤ length d
  cells_there first w = is.placed k first within (written_from (head_in heads k).place first w)

  pub cells_written : (first : ℕ) → (head_in heads k).place ≡ Written first
      → ((table_in (tables_of scopes heads d e) k).digits ≡ take (cells_in (scope_in scopes k)) (drop first d)) × ((table_in (tables_of scopes heads d e) k).exponents ≡ take (cells_in (scope_in scopes k)) (drop first e))
  cells_written first w =
      let at = table_at scopes heads d e k within in let h = head_in heads k in let s = scope_in scopes k in
      (ap (λ (u : TableOf). u.digits) at ∙ written_cells h.place first one_digits (cells_in s) d w, ap (λ (u : TableOf). u.exponents) at ∙ written_cells h.place first one_exponent (cells_in s) e w)

  pub range_long : (first : ℕ) → (head_in heads k).place ≡ Written first
      → (length (take (cells_in (scope_in scopes k)) (drop first d)) ≡ cells_in (scope_in scopes k)) × (length (take (cells_in (scope_in scopes k)) (drop first e)) ≡ cells_in (scope_in scopes k))
  range_long first w =
      let l = cells_there first w in (
        length-take-le (cells_in (scope_in scopes k)) (drop first d) (let i = length-drop first d in omega (arith, i, l)),
        length-take-le (cells_in (scope_in scopes k)) (drop first e) (let i = length-drop first e in omega (arith, i, l, is.same_length)),
      )

  pub table_is_full : IsFull (scope_in scopes k) (table_in (tables_of scopes heads d e) k).digits (table_in (tables_of scopes heads d e) k).exponents
  table_is_full = at (head_in heads k).place refl
    where
      blank : ((g : ℕ) → (head_in heads k).place ≡ Written g → ⊥) → IsFull (scope_in scopes k) (table_in (tables_of scopes heads d e) k).digits (table_in (tables_of scopes heads d e) k).exponents
      blank n = let c = cells_blank n in record {
        as_many_digits = ap (λ (ys : List ℕ). length ys) c.0 ∙ length-replicate (cells_in (scope_in scopes k)) one_digits;
        as_many_exponents = ap (λ (ys : List ℕ). length ys) c.1 ∙ length-replicate (cells_in (scope_in scopes k)) one_exponent;
      }

      at : (p : Place) → (head_in heads k).place ≡ p → IsFull (scope_in scopes k) (table_in (tables_of scopes heads d e) k).digits (table_in (tables_of scopes heads d e) k).exponents
      at Nowhere i = blank (λ g w. let q : Nowhere ≡ Written g = sym i ∙ w in absurd (cc))
      at (Blank f) i = blank (λ g w. let q : Blank f ≡ Written g = sym i ∙ w in absurd (cc))
      at (Written f) i = let c = cells_written f i in let l = range_long f i in record { as_many_digits = ap (λ (ys : List ℕ). length ys) c.0 ∙ l.0; as_many_exponents = ap (λ (ys : List ℕ). length ys) c.1 ∙ l.1 }

  pub table_scope : (table_in (tables_of scopes heads d e) k).scope ≡ scope_in scopes k
  table_scope = ap (λ (u : TableOf). u.scope) (table_at scopes heads d e k within)

  pub table_shift : (table_in (tables_of scopes heads d e) k).shift ≡ (head_in heads k).shift
  table_shift = ap (λ (u : TableOf). u.shift) (table_at scopes heads d e k within)

  pub table_touched : (table_in (tables_of scopes heads d e) k).touched ≡ (head_in heads k).touched
  table_touched = ap (λ (u : TableOf). u.touched) (table_at scopes heads d e k within)

-- what code reads of a table's range
module _ (scopes : List ScopeOf) (heads : List Head) (d e : List ℕ) (hr dr er : ℕ) (is : IsStore scopes heads d e hr dr er) (k : ℕ) (within : k < length scopes) (first : ℕ) (written : (head_in heads k).place ≡ Written first)
    (count : ℕ) (counted : count ≡ cells_in (scope_in scopes k)) (xs ys : List ℕ) (xs_are : xs ≡ d) (ys_are : ys ≡ e) where
  pub range_digits : take (first + count - first) (drop first xs) ≡ (table_in (tables_of scopes heads d e) k).digits
  range_digits =
      let z : first + count - first ≡ cells_in (scope_in scopes k) = omega (arith, counted) in
      ap (λ m. take m (drop first xs)) z ∙ ap (λ (zs : List ℕ). take (cells_in (scope_in scopes k)) (drop first zs)) xs_are ∙ sym (cells_written scopes heads d e hr dr er is k within first written).0

  pub range_exponents : take (first + count - first) (drop first ys) ≡ (table_in (tables_of scopes heads d e) k).exponents
  range_exponents =
      let z : first + count - first ≡ cells_in (scope_in scopes k) = omega (arith, counted) in
      ap (λ m. take m (drop first ys)) z ∙ ap (λ (zs : List ℕ). take (cells_in (scope_in scopes k)) (drop first zs)) ys_are ∙ sym (cells_written scopes heads d e hr dr er is k within first written).1

  pub range_full : IsFull (scope_in scopes k) (take (first + count - first) (drop first xs)) (take (first + count - first) (drop first ys))
  range_full =
      let full = table_is_full scopes heads d e hr dr er is k within in
      record { as_many_digits = ap (λ (zs : List ℕ). length zs) range_digits ∙ full.as_many_digits; as_many_exponents = ap (λ (zs : List ℕ). length zs) range_exponents ∙ full.as_many_exponents }

  pub range_whole : AreBlankOrFull (cells_in (scope_in scopes k)) (take (first + count - first) (drop first xs)) (take (first + count - first) (drop first ys))
  range_whole = let full = range_full in record { either = inr (full.as_many_digits, full.as_many_exponents) }

  pub range_filled_digits : filled one_digits (cells_in (scope_in scopes k)) (take (first + count - first) (drop first xs)) ≡ (table_in (tables_of scopes heads d e) k).digits
  range_filled_digits = filled_full one_digits (cells_in (scope_in scopes k)) (take (first + count - first) (drop first xs)) (let f = range_full.as_many_digits in omega (arith, f)) ∙ range_digits

  pub range_filled_exponents : filled one_exponent (cells_in (scope_in scopes k)) (take (first + count - first) (drop first ys)) ≡ (table_in (tables_of scopes heads d e) k).exponents
  range_filled_exponents = filled_full one_exponent (cells_in (scope_in scopes k)) (take (first + count - first) (drop first ys)) (let f = range_full.as_many_exponents in omega (arith, f)) ∙ range_exponents

-- ---- scopes

pub missing_step : {X : Type 0} (f : X → ScopeOf) (xs : List X) (i : ℕ) (x : X) → i < length xs → x ≡ get_or xs i x
    → all_missing (map f (drop i xs)) [] ≡ cells_in (f x) + all_missing (map f (drop (i + 1) xs)) []
unfolding all_missing
missing_step f xs i x l e = at_drop_more (λ (ys : List _). all_missing (map f ys) []) xs i x l ∙ ap (λ (y : _). cells_in (f y) + all_missing (map f (drop (i + 1) xs)) []) (sym e)

pub missing_done : {X : Type 0} (f : X → ScopeOf) (xs : List X) (i : ℕ) → length xs ≤ i → all_missing (map f (drop i xs)) [] ≡ 0
unfolding all_missing
missing_done f xs i l = at_drop_all (λ (ys : List _). all_missing (map f ys) []) xs i l

pub scope_read : {X : Type 0} (f : X → ScopeOf) (xs : List X) (k : ℕ) (x : X) → k < length xs → x ≡ get_or xs k x → scope_in (map f xs) k ≡ f x
scope_read f xs k x l e = get_or_default (map f xs) k no_scope (f x) (let i = length-map xs f in omega (arith, i, l)) ∙ get_or-map f xs k x ∙ ap f (sym e)

pub each_step : (scopes : List ScopeOf) (i most more : ℕ) → ((k : ℕ) → k < i → cells_in (scope_in scopes k) ≤ most) → most ≤ more → cells_in (scope_in scopes i) ≤ more → (k : ℕ) → k < i + 1 → cells_in (scope_in scopes k) ≤ more
each_step scopes i most more h l m k j = at (cases_eq k i)
  where
    at : (k ≡ i) ⊎ (k ≡ i → ⊥) → cells_in (scope_in scopes k) ≤ more
    at (inl e) = let q = ap (λ n. cells_in (scope_in scopes n)) e in omega (arith, q, m)
    at (inr n) = let q = h k (omega (arith, j, n)) in omega (arith, q, l)

-- a table that stands nowhere has its cells among those that have no place
pub has_missing : (scopes : List ScopeOf) (heads : List Head) (k : ℕ) → length heads ≡ length scopes → k < length scopes → missing (head_in heads k).place (cells_in (scope_in scopes k)) ≤ all_missing scopes heads
unfolding all_missing
has_missing [] heads k e l = absurd (omega (arith, l))
has_missing (s ∷ scopes) [] k e l = absurd (omega (arith, e))
has_missing (s ∷ scopes) (x ∷ heads) zero e l = omega arith
has_missing (s ∷ scopes) (x ∷ heads) (suc k) e l = let i = has_missing scopes heads k (omega (arith, e)) (omega (arith, l)) in omega (arith, i)

-- there may be more room
pub store_more : (scopes : List ScopeOf) (heads : List Head) (d e : List ℕ) (hr dr er more more_too : ℕ) → dr ≤ more → er ≤ more_too → IsStore scopes heads d e hr dr er → IsStore scopes heads d e hr more more_too
store_more scopes heads d e hr dr er more more_too l m is = record {
  either = is.either;
  heads_fit = is.heads_fit;
  same_length = is.same_length;
  digits_fit = omega (arith, is.digits_fit, l);
  exponents_fit = omega (arith, is.exponents_fit, m);
  placed = is.placed;
  apart = is.apart;
  there = is.there;
}

pub not_written : (p : Place) → is_written p ≡ false → (g : ℕ) → p ≡ Written g → ⊥
not_written p h g i = let q : false ≡ true = sym h ∙ ap is_written i in absurd (cc)

pub some_written : (p : Place) → ((g : ℕ) → p ≡ Written g → ⊥) → is_written p ≡ true → ⊥
some_written Nowhere n h = let q : false ≡ true = h in absurd (cc)
some_written (Blank g) n h = let q : false ≡ true = h in absurd (cc)
some_written (Written g) n h = n g refl
