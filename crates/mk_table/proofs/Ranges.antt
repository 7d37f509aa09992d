-- Cells of a table that are written: over what is there, or at the end of the arrays.
use Rattle.std.proofs.Common.{◌≡◌, ℕ, ◌+◌, ◌-◌, ◌<◌, ◌≤◌, inl, inr, List, ◌++◌, length, replicate, take, drop, set, refl, sym, ap, subst, ◌∙◌, arith}
use borrow.Rule.Slice.PartMut.{put_mid}
use Rattle.std.specs.Prelude.{Vec, Option, vec_capacity, vec_len}
use Rattle.std.specs.Vec.{with_items}
use Rattle.std.proofs.lemmas.List.{with_items_is, length-append, length-take-le, length-drop, get_or-set_same, set-get_or}
use Rattle.mk_scope.specs.Scopes.{ScopeOf, cells_in}
use Rattle.mk_table.specs.Tables.{TableOf}
use Rattle.mk_table.specs.Lists.{no_table, table_in}
use Rattle.mk_table.specs.declared.store.Place.{Place}
use Rattle.mk_table.specs.declared.store.Place.TheVariants.{Nowhere, Blank, Written}
use Rattle.mk_table.specs.declared.store.Head.{Head}
use Rattle.mk_table.specs.declared.store.Store.{Store}
use Rattle.mk_passes.specs.Blank.{one_digits, one_exponent, filled}
use Rattle.mk_passes.specs.Parts.{AreBlankOrFull, IsFull, IsChanged, HaveRoom}
use Rattle.mk_passes.proofs.Filled.{at_most, all_full}
use Rattle.mk_table.specs.inner.Touched.{HasTouched}
use Rattle.mk_table.specs.inner.Store.{IsStore, IsOpen, IsNowhere, StandsFrom, missing, tables_of, table_of, cells_from, head_in, scope_in, no_head, with_cells}
use Rattle.mk_table.proofs.Stored.{LeavesOthers, has_missing, mid_length, mid_leaves, mid_own, end_leaves, end_own, stands_once, table_at, changed_tables, changed_store}

-- a table that another has become, but for its cells
same_but : (scopes : List ScopeOf) (heads : List Head) (d e : List ℕ) (k : ℕ) → k < length scopes → (h : Head) → h.shift ≡ (head_in heads k).shift → h.touched ≡ (head_in heads k).touched
    → (new_d new_e nd ne : List ℕ) → cells_from h.place one_digits (cells_in (scope_in scopes k)) new_d ≡ nd → cells_from h.place one_exponent (cells_in (scope_in scopes k)) new_e ≡ ne
    → table_of new_d new_e (scope_in scopes k) h ≡ with_cells (table_in (tables_of scopes heads d e) k) nd ne
same_but scopes heads d e k l h i j new_d new_e nd ne m n =
    let s = scope_in scopes k in let o = head_in heads k in
    ap (λ x. record { scope = s; shift = x; digits = cells_from h.place one_digits (cells_in s) new_d; exponents = cells_from h.place one_exponent (cells_in s) new_e; touched = h.touched }) i
    ∙ ap (λ (ys : List ℕ). record { scope = s; shift = o.shift; digits = ys; exponents = cells_from h.place one_exponent (cells_in s) new_e; touched = h.touched }) m
    ∙ ap (λ (ys : List ℕ). record { scope = s; shift = o.shift; digits = nd; exponents = ys; touched = h.touched }) n
    ∙ ap (λ (t : Option _). record { scope = s; shift = o.shift; digits = nd; exponents = ne; touched = t }) j
    ∙ sym (ap (λ (u : TableOf). with_cells u nd ne) (table_at scopes heads d e k l))

written_range : (p : Place) (first one n : ℕ) (d : List ℕ) → p ≡ Written first → cells_from p one n d ≡ take n (drop first d)
written_range p first one n d e = ap (λ q. cells_from q one n d) e

not_missing : (p : Place) (first n : ℕ) → StandsFrom p first → missing p n ≡ 0
not_missing Nowhere first n s = absurd s
not_missing (Blank g) first n s = refl
not_missing (Written g) first n s = refl

-- over what is there, as code writes it
module _ {Y Z : Type 0} (scopes : List ScopeOf) (heads : List Head) (v : Vec ℕ Y) (w : Vec ℕ Z) (hr dr er : ℕ) (is : IsStore scopes heads v.items w.items hr dr er) (all : length heads ≡ length scopes) (k : ℕ) (within : k < length scopes)
    (first : ℕ) (stands : StandsFrom (head_in heads k).place first) (h : Head) (place : h.place ≡ Written first) (shift : h.shift ≡ (head_in heads k).shift) (touched : h.touched ≡ (head_in heads k).touched)
    (count : ℕ) (counted : count ≡ cells_in (scope_in scopes k)) (ds es : List ℕ) (ds_are : ds ≡ v.items) (es_are : es ≡ w.items)
    (nd ne : List ℕ) (nd_long : length nd ≡ cells_in (scope_in scopes k)) (ne_long : length ne ≡ cells_in (scope_in scopes k)) (v_long : vec_len v ≡ length v.items) (w_long : vec_len w ≡ length w.items) where
  fits : first + cells_in (scope_in scopes k) ≤ length v.items
  fits = is.placed k first within stands

  fits_too : first + cells_in (scope_in scopes k) ≤ length w.items
  fits_too = omega (arith, fits, is.same_length)

  over_digits : (with_items v (put_mid first (first + count - first) ds nd)).items ≡ put_mid first (cells_in (scope_in scopes k)) v.items nd
  over_digits =
      let z : first + count - first ≡ cells_in (scope_in scopes k) = omega (arith, counted) in
      let same : put_mid first (first + count - first) ds nd ≡ put_mid first (cells_in (scope_in scopes k)) v.items nd = ap (λ m. put_mid first m ds nd) z ∙ ap (λ (ys : List ℕ). put_mid first (cells_in (scope_in scopes k)) ys nd) ds_are in
      with_items_is v (put_mid first (first + count - first) ds nd) (ap (λ (ys : List ℕ). length ys) same ∙ mid_length first (cells_in (scope_in scopes k)) v.items nd fits nd_long ∙ sym v_long) ∙ same

  over_exponents : (with_items w (put_mid first (first + count - first) es ne)).items ≡ put_mid first (cells_in (scope_in scopes k)) w.items ne
  over_exponents =
      let z : first + count - first ≡ cells_in (scope_in scopes k) = omega (arith, counted) in
      let same : put_mid first (first + count - first) es ne ≡ put_mid first (cells_in (scope_in scopes k)) w.items ne = ap (λ m. put_mid first m es ne) z ∙ ap (λ (ys : List ℕ). put_mid first (cells_in (scope_in scopes k)) ys ne) es_are in
      with_items_is w (put_mid first (first + count - first) es ne) (ap (λ (ys : List ℕ). length ys) same ∙ mid_length first (cells_in (scope_in scopes k)) w.items ne fits_too ne_long ∙ sym w_long) ∙ same

  pub over_store : IsStore scopes (set heads k h) (with_items v (put_mid first (first + count - first) ds nd)).items (with_items w (put_mid first (first + count - first) es ne)).items hr dr er
  over_store =
      let C = cells_in (scope_in scopes k) in let D = put_mid first C v.items nd in let E = put_mid first C w.items ne in
      let dl = mid_length first C v.items nd fits nd_long in let el = mid_length first C w.items ne fits_too ne_long in
      let m = ap (λ p. missing p C) place in let o = not_missing (head_in heads k).place first C stands in
      subst (λ (ys : List ℕ). IsStore scopes (set heads k h) ys (with_items w (put_mid first (first + count - first) es ne)).items hr dr er) (sym over_digits)
      (subst (λ (ys : List ℕ). IsStore scopes (set heads k h) D ys hr dr er) (sym over_exponents)
      (changed_store scopes heads v.items w.items hr dr er is all k within first D E h (inl stands) (mid_leaves first C v.items nd fits nd_long) (mid_leaves first C w.items ne fits_too ne_long)
      (omega (arith, dl, el, is.same_length))
      (λ g s. (stands_once h.place g first s (subst (λ p. StandsFrom p first) (sym place) refl), omega (arith, dl, fits)))
      (omega (arith, dl, m, o)) (subst (λ (t : Option _). HasTouched (scope_in scopes k) t) (sym touched) (is.there k within))))

  pub over_tables : tables_of scopes (set heads k h) (with_items v (put_mid first (first + count - first) ds nd)).items (with_items w (put_mid first (first + count - first) es ne)).items
      ≡ set (tables_of scopes heads v.items w.items) k (with_cells (table_in (tables_of scopes heads v.items w.items) k) nd ne)
  over_tables =
      let C = cells_in (scope_in scopes k) in let D = put_mid first C v.items nd in let E = put_mid first C w.items ne in
      ap (λ (ys : List ℕ). tables_of scopes (set heads k h) ys (with_items w (put_mid first (first + count - first) es ne)).items) over_digits
      ∙ ap (λ (ys : List ℕ). tables_of scopes (set heads k h) D ys) over_exponents
      ∙ changed_tables scopes heads v.items w.items hr dr er is all k within first D E h (inl stands) (mid_leaves first C v.items nd fits nd_long) (mid_leaves first C w.items ne fits_too ne_long)
      ∙ ap (set (tables_of scopes heads v.items w.items) k)
      (same_but scopes heads v.items w.items k within h shift touched D E nd ne
      (written_range h.place first one_digits C D place ∙ mid_own first C v.items nd fits nd_long) (written_range h.place first one_exponent C E place ∙ mid_own first C w.items ne fits_too ne_long))

-- at the end there is room for the cells of a table that stands nowhere
pub room_at_end : (scopes : List ScopeOf) (s : Store) → IsOpen scopes s → (k : ℕ) → k < length scopes → IsNowhere s.heads.items k
    → (length s.digits.items + cells_in (scope_in scopes k) ≤ vec_capacity s.digits) × (length s.digits.items + cells_in (scope_in scopes k) ≤ vec_capacity s.exponents)
room_at_end scopes s opens k within nowhere =
    let some = has_missing scopes s.heads.items k opens.heads within in let all = ap (λ p. missing p (cells_in (scope_in scopes k))) nowhere in
    (omega (arith, some, all, opens.store.digits_fit), omega (arith, some, all, opens.store.exponents_fit))

-- at the end
module _ (scopes : List ScopeOf) (heads : List Head) (d e : List ℕ) (hr dr er : ℕ) (is : IsStore scopes heads d e hr dr er) (all : length heads ≡ length scopes) (k : ℕ) (within : k < length scopes)
    (nowhere : (head_in heads k).place ≡ Nowhere) (h : Head) (place : h.place ≡ Written (length d)) (shift : h.shift ≡ (head_in heads k).shift) (touched : h.touched ≡ (head_in heads k).touched)
    (nd ne : List ℕ) (nd_long : length nd ≡ cells_in (scope_in scopes k)) (ne_long : length ne ≡ cells_in (scope_in scopes k)) where
  pub end_store : IsStore scopes (set heads k h) (d ++ nd) (e ++ ne) hr dr er
  end_store =
      let C = cells_in (scope_in scopes k) in
      let dl = length-append d nd in let el = length-append e ne in
      let m = ap (λ p. missing p C) place in let o = ap (λ p. missing p C) nowhere in
      changed_store scopes heads d e hr dr er is all k within (length d) (d ++ nd) (e ++ ne) h (inr refl) (end_leaves d nd C) (subst (λ n. LeavesOthers n C e (e ++ ne)) is.same_length (end_leaves e ne C))
      (omega (arith, dl, el, nd_long, ne_long, is.same_length))
      (λ g s. (stands_once h.place g (length d) s (subst (λ p. StandsFrom p (length d)) (sym place) refl), omega (arith, dl, nd_long)))
      (omega (arith, dl, nd_long, m, o)) (subst (λ (t : Option _). HasTouched (scope_in scopes k) t) (sym touched) (is.there k within))

  pub end_tables : tables_of scopes (set heads k h) (d ++ nd) (e ++ ne) ≡ set (tables_of scopes heads d e) k (with_cells (table_in (tables_of scopes heads d e) k) nd ne)
  end_tables =
      let C = cells_in (scope_in scopes k) in
      changed_tables scopes heads d e hr dr er is all k within (length d) (d ++ nd) (e ++ ne) h (inr refl) (end_leaves d nd C) (subst (λ n. LeavesOthers n C e (e ++ ne)) is.same_length (end_leaves e ne C))
      ∙ ap (set (tables_of scopes heads d e) k)
      (same_but scopes heads d e k within h shift touched (d ++ nd) (e ++ ne) nd ne
      (written_range h.place (length d) one_digits C (d ++ nd) place ∙ end_own d nd C nd_long)
      (written_range h.place (length d) one_exponent C (e ++ ne) place ∙ ap (λ n. take C (drop n (e ++ ne))) (sym is.same_length) ∙ end_own e ne C ne_long))

pub part_long : (first count n : ℕ) (ds d : List ℕ) → count ≡ n → ds ≡ d → first + n ≤ length d → length (take (first + count - first) (drop first ds)) ≡ n
part_long first count n ds d i j l =
    let z : first + count - first ≡ n = omega (arith, i) in
    let m = ap (λ (ys : List ℕ). length ys) j in
    ap (λ k. length (take k (drop first ds))) z ∙ length-take-le n (drop first ds) (let q = length-drop first ds in omega (arith, q, m, l))

pub filled_end : (one n : ℕ) (d : List ℕ) (count : ℕ) → count ≡ length d + n → filled one count d ≡ d ++ replicate n one
unfolding filled
filled_end one n d count e = let z : count - length d ≡ n = omega (arith, e) in ap (λ k. d ++ replicate k one) z

-- where the head is left
module _ {Y Z : Type 0} (scopes : List ScopeOf) (heads : List Head) (v : Vec ℕ Y) (w : Vec ℕ Z) (hr dr er : ℕ) (is : IsStore scopes heads v.items w.items hr dr er) (all : length heads ≡ length scopes) (k : ℕ) (within : k < length scopes)
    (first : ℕ) (written : (head_in heads k).place ≡ Written first) (count : ℕ) (counted : count ≡ cells_in (scope_in scopes k)) (ds es : List ℕ) (ds_are : ds ≡ v.items) (es_are : es ≡ w.items)
    (nd ne : List ℕ) (nd_long : length nd ≡ cells_in (scope_in scopes k)) (ne_long : length ne ≡ cells_in (scope_in scopes k)) (v_long : vec_len v ≡ length v.items) (w_long : vec_len w ≡ length w.items) where
  pub passed_store : IsStore scopes heads (with_items v (put_mid first (first + count - first) ds nd)).items (with_items w (put_mid first (first + count - first) es ne)).items hr dr er
  passed_store =
      subst (λ (hs : List Head). IsStore scopes hs (with_items v (put_mid first (first + count - first) ds nd)).items (with_items w (put_mid first (first + count - first) es ne)).items hr dr er) (set-get_or heads k no_head)
      (over_store scopes heads v w hr dr er is all k within first (subst (λ p. StandsFrom p first) (sym written) refl) (head_in heads k) written refl refl count counted ds es ds_are es_are nd ne nd_long ne_long v_long w_long)

  pub passed_tables : tables_of scopes heads (with_items v (put_mid first (first + count - first) ds nd)).items (with_items w (put_mid first (first + count - first) es ne)).items
      ≡ set (tables_of scopes heads v.items w.items) k (with_cells (table_in (tables_of scopes heads v.items w.items) k) nd ne)
  passed_tables =
      ap (λ (hs : List Head). tables_of scopes hs (with_items v (put_mid first (first + count - first) ds nd)).items (with_items w (put_mid first (first + count - first) es ne)).items) (sym (set-get_or heads k no_head))
      ∙ over_tables scopes heads v w hr dr er is all k within first (subst (λ p. StandsFrom p first) (sym written) refl) (head_in heads k) written refl refl count counted ds es ds_are es_are nd ne nd_long ne_long v_long w_long

-- a list of tables in which one has other cells
module _ (old before after : List TableOf) (k : ℕ) (within : k < length old) (same : before ≡ old) (nd ne : List ℕ) (made : after ≡ set before k (with_cells (table_in before k) nd ne)) where
  pub after_is : after ≡ set old k (with_cells (table_in old k) nd ne)
  after_is = made ∙ ap (λ (ts : List TableOf). set ts k (with_cells (table_in ts k) nd ne)) same

  after_at : table_in after k ≡ with_cells (table_in old k) nd ne
  after_at = ap (λ (ts : List TableOf). table_in ts k) after_is ∙ get_or-set_same old k (with_cells (table_in old k) nd ne) no_table within

  pub after_digits : (table_in after k).digits ≡ nd
  after_digits = ap (λ (u : TableOf). u.digits) after_at

  pub after_exponents : (table_in after k).exponents ≡ ne
  after_exponents = ap (λ (u : TableOf). u.exponents) after_at

  pub after_tables : after ≡ set old k (with_cells (table_in old k) (table_in after k).digits (table_in after k).exponents)
  after_tables =
      after_is ∙ ap (λ (ys : List ℕ). set old k (with_cells (table_in old k) ys ne)) (sym after_digits)
      ∙ ap (λ (ys : List ℕ). set old k (with_cells (table_in old k) (table_in after k).digits ys)) (sym after_exponents)

pub changed_same : (R : ℕ → ℕ → ℕ → ℕ → ℕ → Type 0) (W : ℕ → Type 0) (od oe d e od' oe' d' e' : List ℕ) → od ≡ od' → oe ≡ oe' → d ≡ d' → e ≡ e' → IsChanged R W od oe d e → IsChanged R W od' oe' d' e'
changed_same R W od oe d e od' oe' d' e' i j k l h =
    subst (λ (ys : List ℕ). IsChanged R W ys oe' d' e') i (subst (λ (ys : List ℕ). IsChanged R W od ys d' e') j (subst (λ (ys : List ℕ). IsChanged R W od oe ys e') k (subst (λ (ys : List ℕ). IsChanged R W od oe d ys) l h)))

pub room_same : (more : ℕ) (od oe d e : List ℕ) → od ≡ d → oe ≡ e → ((j : ℕ) × HaveRoom j d e more) → (j : ℕ) × HaveRoom j od oe more
room_same more od oe d e i k r = (r.0, subst (λ (ys : List ℕ). HaveRoom r.0 ys oe more) (sym i) (subst (λ (ys : List ℕ). HaveRoom r.0 d ys more) (sym k) r.1))

-- the columns of a message that is written have all of its cells
pub columns_full : (scope : ScopeOf) (md me d e : List ℕ) → AreBlankOrFull (cells_in scope) md me → cells_in scope ≤ length md → d ≡ md → e ≡ me → IsFull scope d e
columns_full scope md me d e whole all same same_too =
    let few = at_most _ md me whole in let all_too = all_full _ md me whole all in
    record {
      as_many_digits = ap (λ (ys : List ℕ). length ys) same ∙ omega (arith, all, few.0);
      as_many_exponents = ap (λ (ys : List ℕ). length ys) same_too ∙ omega (arith, all_too, few.1);
    }
