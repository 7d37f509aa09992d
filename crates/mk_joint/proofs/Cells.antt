-- The cells of a table over all variables are the states of the network.
use Rattle.std.proofs.Common.{◌≡◌, ℕ, suc, zero, ◌+◌, ◌<◌, Bool, true, cond, ◌||◌, ◌⊎◌, inl, inr, eqb, List, ◌∷◌, map, length, slice_index, slice_index_or, refl, sym, ap, ◌∙◌, arith, eq-eqb}
use Rattle.std.proofs.Math.Path.{fun_ext}
use Rattle.std.specs.List.{range_with_len, position_or_len}
use Rattle.std.proofs.lemmas.Bool.{cases_eq, or_left, or_right, or_cases, eqb-true}
use Rattle.std.proofs.lemmas.List.{length-map, ext_get_or}
use Rattle.std.proofs.lemmas.List.FromFn.{get_or-map-range_with_len, length-map-range_with_len}
use Rattle.mk_sets.specs.Sets.{VarSet, is_member}
use Rattle.mk_net.specs.Network.{Variable, sizes}
use Rattle.mk_states.specs.States.{states, plus_over}
use Rattle.mk_states.specs.InitialWeight.{value_at}
use Rattle.mk_states.specs.Lawful.{Lawful}
use Rattle.mk_sums.specs.Sums.{plus_below, listed}
use Rattle.mk_sums.specs.Cells.{keep, cells, place}
use Rattle.mk_sums.specs.Joint.{variables}
use Rattle.mk_sums.proofs.States.{states_nest}
use Rattle.mk_sums.proofs.Tables.{cells_nest}
use Rattle.mk_scope.specs.Scopes.{ScopeOf, size_in, cells_in, scope_of, has_variable, HasSized}
use Rattle.mk_scope.specs.Cells.{values_at}
use Rattle.mk_scope.proofs.Members.{size_of_map}
use Rattle.mk_scope.proofs.Onto.{listed_range}
use Rattle.mk_scope.proofs.Values.{cells_same, place_same}
use Rattle.mk_joint.specs.inner.Joints.{whole_scope, joint_states}

-- a set that has each number of a range keeps them all
keep_range : (set : ℕ → Bool) (a n : ℕ) → ((x : ℕ) → x < a + n → set x ≡ true) → keep set (range_with_len a n) ≡ range_with_len a n
keep_range set a zero h = refl
keep_range set a (suc n) h =
    ap (λ b. cond b (a ∷ keep set (range_with_len (a + 1) n)) (keep set (range_with_len (a + 1) n))) (h a (omega arith))
    ∙ ap (λ (xs : List ℕ). a ∷ xs) (keep_range set (a + 1) n (λ x p. h x (omega arith)))

-- a set with one number more
pub member_more : (new old : VarSet) (n : ℕ) → ((x : ℕ) → is_member new x ≡ (eqb x n || is_member old x)) → ((x : ℕ) → x < n → is_member old x ≡ true)
    → (x : ℕ) → x < n + 1 → is_member new x ≡ true
member_more new old n made h x l = made x ∙ at (cases_eq x n)
  where
    at : ((x ≡ n) ⊎ (x ≡ n → ⊥)) → (eqb x n || is_member old x) ≡ true
    at (inl e) = or_left (eqb x n) (is_member old x) (eq-eqb x n e)
    at (inr d) = or_right (eqb x n) (is_member old x) (h x (omega (arith, d)))

pub no_other_more : (new old : VarSet) (n : ℕ) → ((x : ℕ) → is_member new x ≡ (eqb x n || is_member old x)) → ((x : ℕ) → is_member old x ≡ true → x < n)
    → (x : ℕ) → is_member new x ≡ true → x < n + 1
no_other_more new old n made h x p = at (or_cases (eqb x n) (is_member old x) (sym (made x) ∙ p))
  where
    at : ((eqb x n ≡ true) ⊎ (is_member old x ≡ true)) → x < n + 1
    at (inl e) = let k : x ≡ n = eqb-true x n e in omega (arith, k)
    at (inr q) = let l : x < n = h x q in omega (arith, l)

module _ (network : List Variable) where
  sizes_read : map (slice_index (sizes network)) (variables (sizes network)) ≡ sizes network
  sizes_read =
      let long : length (map (slice_index (sizes network)) (variables (sizes network))) ≡ length (sizes network) = length-map-range_with_len (slice_index (sizes network)) 0 (length (sizes network)) in
      ext_get_or 0 (map (slice_index (sizes network)) (variables (sizes network))) (sizes network) long
      (λ i p. get_or-map-range_with_len (slice_index (sizes network)) 0 (length (sizes network)) i i 0 (omega (arith, long)) (omega arith))

  size_is : (x : ℕ) → listed (variables (sizes network)) x ≡ true → size_in (whole_scope network) x ≡ slice_index (sizes network) x
  size_is x p =
      ap (λ (ns : List ℕ). slice_index_or ns (position_or_len (λ y. eqb y x) (variables (sizes network))) 1) (sym sizes_read)
      ∙ size_of_map (slice_index (sizes network)) (variables (sizes network)) x p

  pub states_counted : cells_in (whole_scope network) ≡ joint_states network
  states_counted = cells_same (size_in (whole_scope network)) (slice_index (sizes network)) (variables (sizes network)) size_is

  pub has_all : (x : ℕ) → x < length network → has_variable (whole_scope network) x ≡ true
  has_all x h =
      let many : length (sizes network) ≡ length network = length-map network (λ (v : Variable). length v.values) in
      listed_range 0 (length (sizes network)) x (omega arith) (omega (arith, many))

  pub has_sized : (x : ℕ) → x < length network → HasSized network (whole_scope network) x
  has_sized x h = record { there = has_all x h; sized = size_is x (has_all x h) }

  -- the scope of a set of all variables
  pub scope_of_all : (set : VarSet) → ((x : ℕ) → x < length network → is_member set x ≡ true) → scope_of network set ≡ whole_scope network
  scope_of_all set h =
      let many : length (sizes network) ≡ length network = length-map network (λ (v : Variable). length v.values) in
      let scope : List ℕ → ScopeOf = λ vs. record { variables = vs; sizes = map (slice_index (sizes network)) vs } in
      let sized : List ℕ → ScopeOf = λ ns. record { variables = variables (sizes network); sizes = ns } in
      ap scope (keep_range (is_member set) 0 (length (sizes network)) (λ x p. h x (omega (arith, many)))) ∙ ap sized sizes_read

  values_are : (c : ℕ) → place (slice_index (sizes network)) (variables (sizes network)) c (λ x. 0) ≡ values_at (whole_scope network) c
  values_are c = fun_ext (λ x. sym (place_same (size_in (whole_scope network)) (slice_index (sizes network)) (variables (sizes network)) size_is c (λ y. 0) x))

  pub states_are_cells : (plus : ℕ → ℕ → ℕ) → Lawful plus → (f : (ℕ → ℕ) → ℕ)
      → plus_over plus 0 (λ s. f (value_at s)) (states (sizes network)) ≡ plus_below plus (cells_in (whole_scope network)) (λ c. f (values_at (whole_scope network) c))
  states_are_cells plus law f =
      let size : ℕ → ℕ = slice_index (sizes network) in
      states_nest plus law (sizes network) f
      ∙ cells_nest plus law size (λ x. true) (variables (sizes network)) f (λ x. 0)
      ∙ ap (λ (xs : List ℕ). plus_below plus (cells size xs) (λ c. f (place size xs c (λ x. 0)))) (keep_range (λ x. true) 0 (length (sizes network)) (λ x p. refl))
      ∙ ap (λ n. plus_below plus n (λ c. f (place size (variables (sizes network)) c (λ x. 0)))) (sym states_counted)
      ∙ ap (λ (g : ℕ → ℕ). plus_below plus (cells_in (whole_scope network)) g) (fun_ext (λ c. ap f (values_are c)))
