-- What the tables of cliques need to take a factor or a known pair.
use Rattle.std.proofs.Common.{◌≡◌, ℕ, suc, ◌+◌, ◌-◌, ◌<◌, ◌≤◌, Bool, true, false, ◌⊎◌, inl, inr, List, [], ◌∷◌, ◌++◌, length, All, slice_index, get_or, refl, sym, ap, subst, ◌∙◌, arith}
use Rattle.std.specs.List.{list_all, list_any}
use Rattle.std.proofs.lemmas.Bool.{or_cases, and_parts, both_ways, cases_lt}
use Rattle.std.proofs.lemmas.List.{ext_get_or}
use Rattle.std.proofs.lemmas.List.Elements.{All-nil, All-cons, All-push, All-from_recursion}
use Rattle.mk_net.specs.declared.words.Pair.{Pair}
use Rattle.mk_sets.specs.Sets.{is_member, no_variables}
use Rattle.mk_net.specs.Network.{Variable, IsNetwork, sizes}
use Rattle.mk_net.specs.Named.{variable_at, nobody}
use Rattle.mk_net.specs.Asked.{TradeRatio, ratio_pairs}
use Rattle.mk_states.specs.OfNetwork.{IsPairOf, IsRatioOf}
use Rattle.mk_states.proofs.Listed.{as_many}
use Rattle.mk_states.proofs.Shares.{size_at, parents_within}
use Rattle.mk_scope.specs.Scopes.{ScopeOf, size_in, has_variable, HasEvent, HasOneEach, HasSized}
use Rattle.mk_tree.specs.Given.{GivenTree, clique_at, holds, holds_event}
use Rattle.mk_tree.specs.Tests.{holds_family}
use Rattle.mk_plan.specs.Shapes.{ShapeOf, IsShapeFor, IsClique, scope_within}
use Rattle.mk_plan.proofs.Scopes.{has_within, size_within, sized_within}

-- ---- lists that pass a test

pub all_pass : {X : Type 0} (p : X → Bool) (xs : List X) → list_all p xs ≡ true → All (λ x. p x ≡ true) xs
all_pass p [] h = All-nil (λ x. p x ≡ true)
all_pass p (x ∷ xs) h = let q = and_parts (p x) (list_all p xs) h in All-cons (λ y. p y ≡ true) x xs q.0 (all_pass p xs q.1)

found_in : {X : Type 0} (p : X → Bool) (xs : List X) → list_any p xs ≡ true → (k : ℕ) × (k < length xs) × ((d : X) → p (get_or xs k d) ≡ true)
found_in p [] h = absurd (both_ways false refl h)
found_in {X} p (x ∷ xs) h = at (or_cases (p x) (list_any p xs) h) (found_in p xs)
  where
    at : ((p x ≡ true) ⊎ (list_any p xs ≡ true)) → (list_any p xs ≡ true → (k : ℕ) × (k < length xs) × ((d : X) → p (get_or xs k d) ≡ true))
        → (k : ℕ) × (k < length (x ∷ xs)) × ((d : X) → p (get_or (x ∷ xs) k d) ≡ true)
    at (inl e) ih = (0, omega arith, λ d. e)
    at (inr e) ih = let q = ih e in (suc q.0, omega (arith, q.1), q.2)

-- ---- the networks of a shape have the same sizes

module _ (shape : ShapeOf) (a b : List Variable) (of_a : IsShapeFor shape a) (of_b : IsShapeFor shape b) where
  -- a variable of the one network lies in a clique
  in_clique : (x : ℕ) → x < length a → (k : ℕ) × IsClique shape.tree k × (holds shape.tree k x ≡ true)
  in_clique x l =
      let q = found_in (holds_family a x) shape.tree.cliques (of_a.tree_is.covers x l) in
      let e : q.0 + 1 - 1 ≡ q.0 = omega arith in
      let m : is_member (get_or shape.tree.cliques q.0 no_variables) x ≡ true = (and_parts (is_member (get_or shape.tree.cliques q.0 no_variables) x)
      (list_all (is_member (get_or shape.tree.cliques q.0 no_variables)) (variable_at a x).parents) (q.2 no_variables)).0 in (
        q.0 + 1,
        record { first = omega arith; last = omega (arith, q.1) },
        ap (λ (i : ℕ). is_member (get_or shape.tree.cliques i no_variables) x) e ∙ m,
      )

  pub in_other : (x : ℕ) → x < length a → x < length b
  in_other x l =
      let q = in_clique x l in
      of_b.tree_is.of_network (q.0 - 1) no_variables (omega (arith, q.1.first, q.1.last)) x q.2

  -- with as many values
  pub same_size : (x : ℕ) → x < length a → slice_index (sizes a) x ≡ slice_index (sizes b) x
  same_size x l =
      let q = in_clique x l in
      let e : scope_within a (holds shape.tree q.0) ≡ scope_within b (holds shape.tree q.0) = sym (of_a.clique_scopes q.0 q.1) ∙ of_b.clique_scopes q.0 q.1 in
      sym (size_within a (holds shape.tree q.0) x (has_within a (holds shape.tree q.0) x l q.2))
      ∙ ap (λ (s : ScopeOf). size_in s x) e
      ∙ size_within b (holds shape.tree q.0) x (has_within b (holds shape.tree q.0) x (in_other x l) q.2)

pub same_sizes : (shape : ShapeOf) (a b : List Variable) → IsShapeFor shape a → IsShapeFor shape b → sizes a ≡ sizes b
same_sizes shape a b of_a of_b =
    ext_get_or 0 (sizes a) (sizes b) (as_many a ∙ long (cases_lt (length a) (length b)) (cases_lt (length b) (length a)) ∙ sym (as_many b))
    (λ i l. same_size shape a b of_a of_b i (omega (arith, l, as_many a)))
  where
    long : ((length a < length b) ⊎ (length b ≤ length a)) → ((length b < length a) ⊎ (length a ≤ length b)) → length a ≡ length b
    long (inl l) _ = let m = in_other shape b a of_b of_a (length a) l in absurd (omega (arith, m))
    long (inr l) (inl m) = let n = in_other shape a b of_a of_b (length b) m in absurd (omega (arith, n))
    long (inr l) (inr m) = omega (arith, l, m)

-- ---- a clique that holds the variables of a factor has them in its scope

module _ (network : List Variable) (tree : GivenTree) (clique : ℕ) (scope : ScopeOf) (scope_is : scope ≡ scope_within network (holds tree clique)) where
  sized : (x : ℕ) → x < length network → holds tree clique x ≡ true → HasSized network scope x
  sized x l h = subst (λ (s : ScopeOf). HasSized network s x) (sym scope_is) (sized_within network (holds tree clique) x l h)

  pub has_family : (x : ℕ) → x < length network → holds_family network x (clique_at tree clique) ≡ true → HasSized network scope x
  has_family x l h = sized x l (and_parts (holds tree clique x) (list_all (holds tree clique) (variable_at network x).parents) h).0

  pub has_parents : IsNetwork network → (x : ℕ) → x < length network → holds_family network x (clique_at tree clique) ≡ true → All (HasSized network scope) (variable_at network x).parents
  has_parents legal x l h =
      let held = all_pass (holds tree clique) (variable_at network x).parents (and_parts (holds tree clique x) (list_all (holds tree clique) (variable_at network x).parents) h).1 in
      let below = All-from_recursion (λ y. y < length network) (variable_at network x).parents (parents_within network legal x l) in
      λ k d m. sized (get_or (variable_at network x).parents k d) (below k d m) (held k d m)

  pub has_pair : (p : Pair) → IsPairOf network p → holds tree clique p.variable ≡ true → has_variable scope p.variable ≡ true
  has_pair p is h = (sized p.variable is.variable h).there

  pairs_of : IsNetwork network → (ratio : TradeRatio) → IsRatioOf network ratio → All (IsPairOf network) (ratio_pairs ratio)
  pairs_of legal ratio h =
      All-push (IsPairOf network) ratio.condition (record { variable = ratio.variable; value = 0 }) (All-from_recursion (IsPairOf network) ratio.condition h.condition)
      (record { variable = h.variable; value = omega (arith, size_at network legal ratio.variable h.variable, (legal.each ratio.variable nobody h.variable).two_values) })

  pub has_ratio : IsNetwork network → (ratio : TradeRatio) → IsRatioOf network ratio → holds_event (ratio_pairs ratio) (clique_at tree clique) ≡ true → HasEvent scope (ratio_pairs ratio)
  has_ratio legal ratio is h =
      let held = all_pass (λ (p : Pair). holds tree clique p.variable) (ratio_pairs ratio) h in
      let pairs = pairs_of legal ratio is in
      λ k d m. has_pair (get_or (ratio_pairs ratio) k d) (pairs k d m) (held k d m)

  pub has_one_each : (ratio : TradeRatio) → IsRatioOf network ratio → has_variable scope ratio.variable ≡ true → HasOneEach scope ratio
  has_one_each ratio is h =
      is.one_each ∙ sym (size_within network (holds tree clique) ratio.variable (subst (λ (s : ScopeOf). has_variable s ratio.variable ≡ true) scope_is h))
      ∙ ap (λ (s : ScopeOf). size_in s ratio.variable) (sym scope_is)

  -- the variable of a ratio is that of its last pair
  pub has_target : (ratio : TradeRatio) → HasEvent scope (ratio_pairs ratio) → has_variable scope ratio.variable ≡ true
  has_target ratio h = last_of (λ (p : Pair). has_variable scope p.variable ≡ true) ratio.condition (record { variable = ratio.variable; value = 0 }) h
    where
      last_of : {X : Type 0} (P : X → Type 0) (xs : List X) (x : X) → All P (xs ++ x ∷ []) → P x
      last_of P [] x h = h 0 x (omega arith)
      last_of P (y ∷ ys) x h = last_of P ys x (λ k d m. h (suc k) d (omega (arith, m)))
