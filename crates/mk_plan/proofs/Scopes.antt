-- The scopes of cliques and separators.
use Rattle.std.proofs.Common.{◌≡◌, ℕ, suc, zero, ◌+◌, ◌*◌, ◌<◌, ◌≤◌, Bool, true, false, cond, ◌&&◌, ◌⊎◌, inl, inr, eqb, ◌-◌, List, [], ◌∷◌, filter, length, slice_index, refl, sym, ap, subst, ◌∙◌, arith, eq-eqb}
use Rattle.std.proofs.Math.Path.{fun_ext}
use Rattle.std.proofs.Math.Nat.{mul-le-mul}
use Rattle.std.proofs.lemmas.Bool.{cases_Bool, both_ways, or_left, or_right, or_cases, and_parts, eqb-true, cond-true, cond-false}
use Rattle.std.proofs.lemmas.List.{length-map}
use Rattle.std.specs.List.{range_with_len}
use Rattle.mk_net.specs.Bounds.{max_clique_cells}
use Rattle.mk_sets.specs.Sets.{VarSet, is_member, no_variables}
use Rattle.mk_net.specs.Network.{Variable, IsNetwork, sizes, choices}
use Rattle.mk_net.specs.Named.{nobody}
use Rattle.mk_states.specs.States.{numbers_below}
use Rattle.mk_states.proofs.Shares.{size_at}
use Rattle.mk_sums.specs.Sums.{listed}
use Rattle.mk_sums.specs.Cells.{keep, cells, place, InRange}
use Rattle.mk_sums.specs.Joint.{variables}
use Rattle.mk_scope.specs.Scopes.{size_in, cells_in, has_variable, scope_of, LiesIn, HasSized}
use Rattle.mk_scope.specs.Cells.{values_at}
use Rattle.mk_scope.proofs.Members.{size_of_map}
use Rattle.mk_scope.proofs.Onto.{listed_keep, listed_range}
use Rattle.mk_scope.proofs.Values.{cells_same, place_same, place_below, place_other}
use Rattle.mk_tree.specs.Given.{GivenTree, clique_at, holds, link_of}
use Rattle.mk_tree.specs.Tests.{cells_of, members}
use Rattle.mk_tree.specs.Checked.{IsTreeOf}
use Rattle.mk_plan.specs.Shapes.{IsClique, scope_within, shares, clique_cells}

-- ---- what a list keeps

keeps : (set : ℕ → Bool) (xs : List ℕ) (x : ℕ) → listed xs x ≡ true → set x ≡ true → listed (keep set xs) x ≡ true
keeps set [] x l s = l
keeps set (y ∷ ys) x l s = at (set y) (or_cases (eqb x y) (listed ys x) l) (λ e. ap set (sym e) ∙ s) (λ p. keeps set ys x p s)
  where
    at : (b : Bool) → ((eqb x y ≡ true) ⊎ (listed ys x ≡ true)) → (x ≡ y → b ≡ true) → (listed ys x ≡ true → listed (keep set ys) x ≡ true)
        → listed (cond b (y ∷ keep set ys) (keep set ys)) x ≡ true
    at true (inl e) h ih = or_left (eqb x y) (listed (keep set ys) x) e
    at true (inr p) h ih = or_right (eqb x y) (listed (keep set ys) x) (ih p)
    at false (inl e) h ih = absurd (both_ways false refl (h (eqb-true x y e)))
    at false (inr p) h ih = ih p

kept_in : (set : ℕ → Bool) (xs : List ℕ) (x : ℕ) → listed (keep set xs) x ≡ true → set x ≡ true
kept_in set [] x l = absurd (both_ways false refl l)
kept_in set (y ∷ ys) x l = at (cases_Bool (set y)) (kept_in set ys x)
  where
    at : ((set y ≡ true) ⊎ (set y ≡ false)) → (listed (keep set ys) x ≡ true → set x ≡ true) → set x ≡ true
    at (inl s) ih = first (or_cases (eqb x y) (listed (keep set ys) x) (ap (λ ts. listed ts x) (sym (cond-true (set y) (y ∷ keep set ys) (keep set ys) s)) ∙ l))
      where
        first : ((eqb x y ≡ true) ⊎ (listed (keep set ys) x ≡ true)) → set x ≡ true
        first (inl e) = ap set (eqb-true x y e) ∙ s
        first (inr p) = ih p
    at (inr s) ih = ih (ap (λ ts. listed ts x) (sym (cond-false (set y) (y ∷ keep set ys) (keep set ys) s)) ∙ l)

-- the variables of a range
in_range : (a n x : ℕ) → listed (range_with_len a n) x ≡ true → (a ≤ x) × (x < a + n)
in_range a zero x h = absurd (both_ways false refl h)
in_range a (suc n) x h = at (or_cases (eqb x a) (listed (range_with_len (a + 1) n) x) h) (in_range (a + 1) n x)
  where
    at : ((eqb x a ≡ true) ⊎ (listed (range_with_len (a + 1) n) x ≡ true)) → (listed (range_with_len (a + 1) n) x ≡ true → (a + 1 ≤ x) × (x < a + 1 + n)) → (a ≤ x) × (x < a + suc n)
    at (inl e) ih = let q : x ≡ a = eqb-true x a e in (omega arith, omega arith)
    at (inr p) ih = let q = ih p in (omega (arith, q.0), omega (arith, q.1))

-- ---- the scope of a set

module _ (network : List Variable) where
  as_many : length (sizes network) ≡ length network
  as_many = length-map network (λ (v : Variable). length v.values)

  pub variable_of_network : (x : ℕ) → listed (variables (sizes network)) x ≡ true → x < length network
  variable_of_network x h = let q = in_range 0 (length (sizes network)) x h in omega (arith, q.1, as_many)

  pub listed_variable : (x : ℕ) → x < length network → listed (variables (sizes network)) x ≡ true
  listed_variable x h = listed_range 0 (length (sizes network)) x (omega arith) (omega (arith, as_many))

  module _ (set : ℕ → Bool) where
    -- it has a variable exactly where the network and the set do
    pub has_within : (x : ℕ) → x < length network → set x ≡ true → has_variable (scope_within network set) x ≡ true
    has_within x h s = keeps set (variables (sizes network)) x (listed_variable x h) s

    pub within_network : (x : ℕ) → has_variable (scope_within network set) x ≡ true → x < length network
    within_network x h = variable_of_network x (listed_keep set (variables (sizes network)) x h)

    pub within_set : (x : ℕ) → has_variable (scope_within network set) x ≡ true → set x ≡ true
    within_set x h = kept_in set (variables (sizes network)) x h

    -- with as many values as there
    pub size_within : (x : ℕ) → has_variable (scope_within network set) x ≡ true → size_in (scope_within network set) x ≡ slice_index (sizes network) x
    size_within x h = size_of_map (slice_index (sizes network)) (keep set (variables (sizes network))) x h

    pub sized_within : (x : ℕ) → x < length network → set x ≡ true → HasSized network (scope_within network set) x
    sized_within x h s = let t = has_within x h s in record { there = t; sized = size_within x t }

    pub cells_within : cells_in (scope_within network set) ≡ cells (slice_index (sizes network)) (keep set (variables (sizes network)))
    cells_within = cells_same (size_in (scope_within network set)) (slice_index (sizes network)) (keep set (variables (sizes network))) size_within

    -- the values of a cell
    pub values_within : (c : ℕ) → values_at (scope_within network set) c ≡ place (slice_index (sizes network)) (keep set (variables (sizes network))) c (λ x. 0)
    values_within c = fun_ext (λ x. place_same (size_in (scope_within network set)) (slice_index (sizes network)) (keep set (variables (sizes network))) size_within c (λ y. 0) x)

    -- are in range
    pub values_below : IsNetwork network → (c : ℕ) → c < cells_in (scope_within network set)
        → InRange (slice_index (sizes network)) (variables (sizes network)) (values_at (scope_within network set) c)
    values_below legal c l x p = at (cases_Bool (has_variable (scope_within network set) x))
      where
        at : ((has_variable (scope_within network set) x ≡ true) ⊎ (has_variable (scope_within network set) x ≡ false)) → values_at (scope_within network set) c x < slice_index (sizes network) x
        at (inl h) =
            let v = place_below (size_in (scope_within network set)) (scope_within network set).variables c (λ y. 0) l x h in
            omega (arith, v, size_within x h)
        at (inr h) =
            let v : values_at (scope_within network set) c x ≡ 0 = place_other (size_in (scope_within network set)) (scope_within network set).variables c (λ y. 0) x h in
            let n = variable_of_network x p in
            let s = size_at network legal x n in
            let two = (legal.each x nobody n).two_values in
            omega (arith, v, s, two)

  -- the scope of a part lies in that of the whole
  pub part_lies_in : (part whole : ℕ → Bool) → ((x : ℕ) → part x ≡ true → whole x ≡ true) → LiesIn (scope_within network part) (scope_within network whole)
  part_lies_in part whole h x l =
      let t = has_within whole x (within_network part x l) (h x (within_set part x l)) in
      (t, size_within part x l ∙ sym (size_within whole x t))

-- ---- cells

kept_is : (set : ℕ → Bool) (xs : List ℕ) → filter set xs ≡ keep set xs
kept_is set [] = refl
kept_is set (x ∷ xs) = ap (λ ys. cond (set x) (x ∷ ys) ys) (kept_is set xs)

choices_are_cells : (ns xs : List ℕ) → choices ns xs ≡ cells (slice_index ns) xs
choices_are_cells ns [] = refl
choices_are_cells ns (x ∷ xs) = ap (λ n. slice_index ns x * n) (choices_are_cells ns xs)

-- the cells of a set's scope are those that the check of a tree counts
pub cells_counted : (network : List Variable) (set : VarSet) → cells_in (scope_within network (is_member set)) ≡ cells_of network set
cells_counted network set =
    cells_within network (is_member set)
    ∙ ap (λ n. cells (slice_index (sizes network)) (keep (is_member set) (numbers_below n))) (as_many network)
    ∙ ap (cells (slice_index (sizes network))) (sym (kept_is (is_member set) (numbers_below (length network))))
    ∙ sym (choices_are_cells (sizes network) (members network set))

pub clique_counted : (network : List Variable) (tree : GivenTree) (k : ℕ) → clique_cells network tree k ≡ cells_of network (clique_at tree k)
clique_counted network tree k = cells_counted network (clique_at tree k)

-- a part has no more cells than the whole
fewer_cells : (size : ℕ → ℕ) (part whole : ℕ → Bool) (xs : List ℕ) → ((x : ℕ) → listed xs x ≡ true → 1 ≤ size x) → ((x : ℕ) → part x ≡ true → whole x ≡ true)
    → cells size (keep part xs) ≤ cells size (keep whole xs)
fewer_cells size part whole [] some h = omega arith
fewer_cells size part whole (x ∷ xs) some h = at (part x) (whole x) (h x) (some x (or_left (eqb x x) (listed xs x) (eq-eqb x x refl)))
    (fewer_cells size part whole xs (λ y l. some y (or_right (eqb y x) (listed xs y) l)) h)
  where
    at : (p w : Bool) → (p ≡ true → w ≡ true) → 1 ≤ size x → cells size (keep part xs) ≤ cells size (keep whole xs)
        → cells size (cond p (x ∷ keep part xs) (keep part xs)) ≤ cells size (cond w (x ∷ keep whole xs) (keep whole xs))
    at true true q s ih = mul-le-mul (omega arith) ih
    at true false q s ih = absurd (both_ways false refl (q refl))
    at false true q s ih = let m : 1 * cells size (keep part xs) ≤ size x * cells size (keep whole xs) = mul-le-mul s ih in omega (arith, m)
    at false false q s ih = ih

pub part_has_fewer : (network : List Variable) → IsNetwork network → (part whole : ℕ → Bool) → ((x : ℕ) → part x ≡ true → whole x ≡ true)
    → cells_in (scope_within network part) ≤ cells_in (scope_within network whole)
part_has_fewer network legal part whole h =
    let l = fewer_cells (slice_index (sizes network)) part whole (variables (sizes network)) some h in
    omega (arith, l, cells_within network part, cells_within network whole)
  where
    some : (x : ℕ) → listed (variables (sizes network)) x ≡ true → 1 ≤ slice_index (sizes network) x
    some x p = let n = variable_of_network network x p in let two = (legal.each x nobody n).two_values in omega (arith, size_at network legal x n, two)

-- ---- the scopes of a tree of the network

pub clique_small : (network : List Variable) (tree : GivenTree) → IsTreeOf network tree → (k : ℕ) → 1 ≤ k → k ≤ length tree.cliques → clique_cells network tree k ≤ max_clique_cells
clique_small network tree h k p q =
    let l = h.small_cliques (k - 1) no_variables (omega arith) in
    omega (arith, l, clique_counted network tree k)

-- no clique has too many cells, and no separator
pub clique_fits : (network : List Variable) (tree : GivenTree) → IsTreeOf network tree → (k : ℕ) → IsClique tree k → (set : VarSet) → set ≡ clique_at tree k
    → cells_in (scope_of network set) ≤ max_clique_cells
clique_fits network tree h k is set e =
    subst (λ (s : VarSet). cells_in (scope_of network s) ≤ max_clique_cells) (sym e) (clique_small network tree h k is.first is.last)

-- the scope of what two cliques have in common, of which the one is the other's link
pub shared_scope : (network : List Variable) (tree : GivenTree) (k link : ℕ) (a b set : VarSet) → a ≡ clique_at tree k → b ≡ clique_at tree link → link ≡ link_of tree k
    → ((x : ℕ) → is_member set x ≡ (is_member a x && is_member b x)) → scope_of network set ≡ scope_within network (shares tree k)
shared_scope network tree k link a b set e f g made =
    ap (scope_within network) (fun_ext (λ x. made x ∙ ap (λ (s : VarSet). is_member s x && is_member b x) e
    ∙ ap (λ (s : VarSet). is_member (clique_at tree k) x && is_member s x) (f ∙ ap (clique_at tree) g)))

pub shared_fits : (network : List Variable) (tree : GivenTree) → IsNetwork network → IsTreeOf network tree → (k : ℕ) → IsClique tree k → (set : VarSet)
    → scope_of network set ≡ scope_within network (shares tree k)
    → cells_in (scope_of network set) ≤ max_clique_cells
shared_fits network tree legal h k is set e =
    let l = part_has_fewer network legal (shares tree k) (holds tree k) (λ x p. (and_parts (holds tree k x) (holds tree (link_of tree k) x) p).0) in
    omega (arith, l, clique_small network tree h k is.first is.last, ap cells_in e)
