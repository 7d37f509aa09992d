-- One variable more of the cells that a scope lists by strides.
use Rattle.std.proofs.Common.{◌≡◌, ℕ, ◌+◌, ◌-◌, ◌*◌, ◌<◌, ◌≤◌, Bool, true, false, cond, List, [], ◌∷◌, length, get_or, take, drop, filter, All, refl, sym, ap, subst, ◌∙◌, arith}
use Rattle.std.specs.List.{list_all}
use Rattle.std.proofs.Math.Nat.{le-mul_of_pos_right}
use Rattle.std.proofs.lemmas.List.{drop_more, get_or_read}
use Rattle.std.proofs.lemmas.List.Elements.{All-nil, All-cons, All-weaker, filter_agree}
use Rattle.std.proofs.lemmas.List.FromFn.{length-range_with_len}
use Rattle.mk_net.specs.declared.words.Pair.{Pair}
use Rattle.mk_states.specs.States.{numbers_below}
use Rattle.mk_sums.specs.Cells.{cells}
use Rattle.mk_sums.specs.There.{holds_there}
use Rattle.mk_scope.specs.Scopes.{ScopeOf, IsScope, HasEvent, size_in, cells_in}
use Rattle.mk_scope.specs.Cells.{values_at, cells_where}
use Rattle.mk_scope.specs.inner.Strides.{MayRepeat, repeated, cells_with, lets, values_let, values_moved, is_moved}
use Rattle.mk_scope.proofs.Members.{size_at, size_pos, rising_apart}
use Rattle.mk_scope.proofs.Values.{cells_pos, cells_split}
use Rattle.mk_scope.proofs.Chosen.{chosen_few, chosen_pass}
use Rattle.mk_scope.proofs.Doubled.{AreValues, cells_with_below, cells_with_few, with_tests, filter_all}
use Rattle.mk_scope.proofs.Pinned.{holds_by_values}

-- what is listed so far may be repeated for one variable more
pub record IsReady (scope : ScopeOf) (values : ℕ → List ℕ) (passed size x stride : ℕ) (items : List ℕ) : Type 0 where
  pub may_repeat : MayRepeat stride size items
  pub size_is : size ≡ size_in scope x
  pub next_within : passed + 1 ≤ length scope.variables
  pub next_stride : stride * size ≡ cells (size_in scope) (drop (length scope.variables - (passed + 1)) scope.variables)
  pub next_items : (new : List ℕ) → new ≡ repeated stride (values x) items → new ≡ cells_with (size_in scope) values (drop (length scope.variables - (passed + 1)) scope.variables)

cells_of_rest : (scope : ScopeOf) → IsScope scope → (i : ℕ) → cells (size_in scope) (drop i scope.variables) ≤ 4096
cells_of_rest scope is i =
    let p : 1 ≤ cells (size_in scope) (take i scope.variables) = cells_pos (size_in scope) (take i scope.variables) (λ x q. size_pos scope is x) in
    let l : cells (size_in scope) (drop i scope.variables) ≤ cells (size_in scope) (drop i scope.variables) * cells (size_in scope) (take i scope.variables) =
    le-mul_of_pos_right (cells (size_in scope) (drop i scope.variables)) p in
    omega (arith, l, cells_split (size_in scope) scope.variables i, is.few_cells)

module _ (scope : ScopeOf) (is : IsScope scope) (values : ℕ → List ℕ) (are : AreValues (size_in scope) values) where
  -- by the place of the variable, where `rest` is what was passed
  at_place : (place stride : ℕ) (items : List ℕ) → place < length scope.variables
      → stride ≡ cells (size_in scope) (drop (place + 1) scope.variables) → items ≡ cells_with (size_in scope) values (drop (place + 1) scope.variables)
      → (passed : ℕ) → passed < length scope.variables
      → length scope.variables - (passed + 1) ≡ place
      → IsReady scope values passed (get_or scope.sizes place 0)
      (get_or scope.variables place 0) stride items
  at_place place stride items l e f passed within g =
      let x = get_or scope.variables place 0 in
      let rest = drop (place + 1) scope.variables in
      let size : get_or scope.sizes place 0 ≡ size_in scope x = sym (size_at scope is place l) in
      let more : drop place scope.variables ≡ x ∷ rest = drop_more scope.variables place 0 l in
      let here : cells (size_in scope) (drop place scope.variables) ≡ size_in scope x * cells (size_in scope) rest = ap (cells (size_in scope)) more in
      let to_place : drop (length scope.variables - (passed + 1)) scope.variables ≡ drop place scope.variables = ap (λ n. drop n scope.variables) g in
      record {
        may_repeat = record {
          below = rw (e, f) (cells_with_below (size_in scope) values are rest);
          few = rw (e, f) (cells_with_few (size_in scope) values are rest);
          fits = let s : get_or scope.sizes place 0 * stride ≡ size_in scope x * cells
              (size_in scope) rest = rw (size, e) refl in omega
              (arith, s, here, cells_of_rest scope is place);
          some = let p = size_pos scope is x in omega (arith, p, size);
        };
        size_is = size;
        next_within = omega (arith, within);
        next_stride =
            let s : stride * get_or scope.sizes place 0 ≡ cells (size_in scope) rest * size_in scope x = rw (size, e) refl in
            let t : cells (size_in scope) rest * size_in scope x ≡ size_in scope x * cells (size_in scope) rest = omega arith in
            s ∙ t ∙ sym here ∙ sym (ap (cells (size_in scope)) to_place);
        next_items = λ new made.
            made ∙ ap (λ n. repeated n (values x) items) e ∙ ap (repeated (cells (size_in scope) rest) (values x)) f
            ∙ sym (ap (cells_with (size_in scope) values) more) ∙ sym (ap (cells_with (size_in scope) values) to_place);
      }

  pub ready : (passed place size x stride : ℕ) (items : List ℕ) → passed < length scope.variables → place + 1 + passed ≡ length scope.variables
      → size ≡ get_or scope.sizes place 0 → x ≡ get_or scope.variables place 0
      → stride ≡ cells (size_in scope) (drop (length scope.variables - passed) scope.variables) → items ≡ cells_with (size_in scope) values (drop (length scope.variables - passed) scope.variables)
      → IsReady scope values passed size x stride items
  ready passed place size x stride items l p q r e f =
      let n : length scope.variables - passed ≡ place + 1 = omega (arith, p) in
      let m : length scope.variables - (passed + 1) ≡ place = omega (arith, p) in
      let h = at_place place stride items (omega (arith, p)) (e
      ∙ ap (λ k. cells (size_in scope) (drop k scope.variables)) n) (f
      ∙ ap (λ k. cells_with (size_in scope) values (drop k scope.variables)) n) passed l m in
      subst (λ s. IsReady scope values passed s x stride items) (sym q) (subst (λ y. IsReady scope values passed (get_or scope.sizes place 0) y stride items) (sym r) h)

-- of a scope as it is kept, by what a loop over its variables read
pub ready_kept : (kept scope : ScopeOf) → IsScope kept → kept ≡ scope → (values : ℕ → List ℕ)
    → AreValues (size_in scope) values → (count passed size x stride : ℕ) (items : List ℕ)
    → count ≡ length kept.variables → passed < count
    → size ≡ get_or kept.sizes (count - 1 - passed) size
    → x ≡ get_or kept.variables (count - 1 - passed) x
    → stride ≡ cells (size_in scope) (drop (length scope.variables - passed) scope.variables) → items ≡ cells_with (size_in scope) values (drop (length scope.variables - passed) scope.variables)
    → IsReady scope values passed size x stride items
ready_kept kept scope is same values are count passed size x stride items n l q r =
    let place = count - 1 - passed in
    let p : place + 1 + passed ≡ length kept.variables = omega (arith, n, l) in
    subst (λ (s : ScopeOf). AreValues (size_in s) values → stride ≡ cells (size_in s) (drop (length s.variables - passed) s.variables) → items ≡ cells_with (size_in s) values (drop (length s.variables - passed) s.variables)
    → IsReady s values passed size x stride items) same
    (λ a e f. ready kept is values a passed place size x stride items (omega (arith, n, l)) p
    (get_or_read kept.sizes place size (omega (arith, p, is.one_size_each)) q 0)
    (get_or_read kept.variables place x (omega (arith, p)) r 0) e f) are

-- ---- the values of an event, and of what moves

pub values_of_event : (scope : ScopeOf) (pairs : List Pair) → AreValues (size_in scope) (values_let scope pairs)
values_of_event scope pairs = record {
  few = λ x. chosen_few (lets pairs x) (size_in scope x);
  within = λ x. All-weaker (λ v. (lets pairs x v ≡ true) × (v < size_in scope x)) (λ v. v < size_in scope x) (λ v h. h.1) (values_let scope pairs x) (chosen_pass (lets pairs x) (size_in scope x));
}

all_below : (n : ℕ) → All (λ v. v < n) (numbers_below n)
all_below n =
    subst (λ (vs : List ℕ). All (λ v. v < n) vs) (filter_all (numbers_below n))
    (All-weaker (λ v. (true ≡ true) × (v < n)) (λ v. v < n) (λ v h. h.1) (filter (λ v. true) (numbers_below n)) (chosen_pass (λ v. true) n))

pub values_of_moved : (whole part : ScopeOf) → IsScope whole → (inside : Bool) → AreValues (size_in whole) (values_moved whole part inside)
values_of_moved whole part is inside = record {
  few = λ x. few_at x (is_moved part inside x);
  within = λ x. within_at x (is_moved part inside x);
}
  where
    few_at : (x : ℕ) (b : Bool) → length (cond b (numbers_below (size_in whole x)) (0 ∷ [])) ≤ size_in whole x
    few_at x true = let e = length-range_with_len 0 (size_in whole x) in omega (arith, e)
    few_at x false = size_pos whole is x

    within_at : (x : ℕ) (b : Bool) → All (λ v. v < size_in whole x) (cond b (numbers_below (size_in whole x)) (0 ∷ []))
    within_at x true = all_below (size_in whole x)
    within_at x false = All-cons (λ v. v < size_in whole x) 0 [] (size_pos whole is x) (All-nil (λ v. v < size_in whole x))

-- the cells where an event holds
pub cells_of_event : (scope : ScopeOf) → IsScope scope → (event : List Pair) → HasEvent scope event → cells_with (size_in scope) (values_let scope event) scope.variables ≡ cells_where scope event
cells_of_event scope is event has =
    sym (with_tests (size_in scope) (lets event) scope.variables (rising_apart scope.variables is.rising) (λ x. 0))
    ∙ sym (filter_agree (λ c. holds_there event (values_at scope c)) (λ c. list_all (λ x. lets event x (values_at scope c x)) scope.variables)
    (λ c. holds_by_values event scope.variables (values_at scope c) has) (numbers_below (cells_in scope)))

pub cells_of_event_few : (scope : ScopeOf) (event : List Pair) → length (cells_where scope event) ≤ cells_in scope
cells_of_event_few scope event = chosen_few (λ c. holds_there event (values_at scope c)) (cells_in scope)
