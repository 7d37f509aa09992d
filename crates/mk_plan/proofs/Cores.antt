-- The core of a clique has what it shares with each of its neighbours.
use Rattle.std.proofs.Common.{◌≡◌, ℕ, suc, zero, ◌+◌, ◌-◌, ◌<◌, ◌≤◌, Bool, true, false, cond, ◌||◌, ◌⊎◌, inl, inr, List, [], ◌∷◌, ◌++◌, filter, length, take, get_or, refl, sym, subst, ap, ◌∙◌, arith}
use Rattle.std.proofs.Math.Path.{fun_ext}
use Rattle.std.specs.List.{range_with_len, list_any}
use Rattle.std.proofs.lemmas.Bool.{cases_eq, both_ways, or_left, or_right, and_from, and_parts}
use Rattle.std.proofs.lemmas.List.{take_more}
use Rattle.mk_net.specs.Bounds.{max_clique_cells}
use Rattle.mk_sets.specs.Sets.{VarSet, is_member, no_variables}
use Rattle.mk_net.specs.Network.{Variable, IsNetwork}
use Rattle.mk_sums.specs.Trees.{linked, linked_to}
use Rattle.mk_sums.proofs.Hops.{AreLinked, are_linked, linked_back, linked_from, ends}
use Rattle.mk_scope.specs.Scopes.{cells_in, scope_of, LiesIn}
use Rattle.mk_tree.specs.Given.{GivenTree, holds, link_of}
use Rattle.mk_tree.specs.Given as given
use Rattle.mk_tree.specs.Checked.{IsTreeOf}
use Rattle.mk_plan.specs.Shapes.{IsClique, scope_within, shares, in_core, neighbours}
use Rattle.mk_plan.proofs.Scopes.{part_lies_in, part_has_fewer, clique_small}

-- one of the numbers of a range that pass
any_in : (f p : ℕ → Bool) (a n j : ℕ) → a ≤ j → j < a + n → p j ≡ true → f j ≡ true → list_any f (filter p (range_with_len a n)) ≡ true
any_in f p a zero j q r h e = absurd (omega (arith, q, r))
any_in f p a (suc n) j q r h e = at (cases_eq j a) (p a) refl (λ s. any_in f p (a + 1) n j s (omega (arith, r)) h e)
  where
    at : ((j ≡ a) ⊎ (j ≡ a → ⊥)) → (b : Bool) → p a ≡ b → (a + 1 ≤ j → list_any f (filter p (range_with_len (a + 1) n)) ≡ true)
        → list_any f (cond b (a ∷ filter p (range_with_len (a + 1) n)) (filter p (range_with_len (a + 1) n))) ≡ true
    at (inl s) true t ih = or_left (f a) (list_any f (filter p (range_with_len (a + 1) n))) (ap f (sym s) ∙ e)
    at (inl s) false t ih = absurd (both_ways (p a) t (ap p (sym s) ∙ h))
    at (inr d) true t ih = or_right (f a) (list_any f (filter p (range_with_len (a + 1) n))) (ih (omega (arith, d, q)))
    at (inr d) false t ih = ih (omega (arith, d, q))

-- what a clique shares with a neighbour lies in its core
pub core_has : (tree : GivenTree) → given.AreLinked tree → (k i x : ℕ) → linked_to (link_of tree) (length tree.cliques) k i ≡ true → holds tree k x ≡ true → holds tree i x ≡ true → in_core tree k x ≡ true
core_has tree are k i x h p q =
    let e = ends (link_of tree) (length tree.cliques) i k are.earlier (are_linked (link_of tree) (length tree.cliques) i k h) in
    and_from (holds tree k x) (list_any (λ j. holds tree j x) (neighbours tree k)) p
    (any_in (λ j. holds tree j x) (linked_to (link_of tree) (length tree.cliques) k) 1 (length tree.cliques) i e.0 (omega (arith, e.1)) h q)

-- a core is a part of its clique
pub core_part : (tree : GivenTree) (k x : ℕ) → in_core tree k x ≡ true → holds tree k x ≡ true
core_part tree k x h = (and_parts (holds tree k x) (list_any (λ j. holds tree j x) (neighbours tree k)) h).0

pub core_lies_in : (network : List Variable) (tree : GivenTree) (k : ℕ) → LiesIn (scope_within network (in_core tree k)) (scope_within network (holds tree k))
core_lies_in network tree k = part_lies_in network (in_core tree k) (holds tree k) (core_part tree k)

module _ (network : List Variable) (tree : GivenTree) (are : given.AreLinked tree) (k : ℕ) (clique : IsClique tree k) (more : 1 < k) where
  near : AreLinked (link_of tree) (length tree.cliques) k (link_of tree k)
  near = inl (record { later = more; within = clique.last; link_is = refl })

  -- what a clique shares with its link is a part of both cores
  pub shared_lies_in_core : LiesIn (scope_within network (shares tree k)) (scope_within network (in_core tree k))
  shared_lies_in_core =
      part_lies_in network (shares tree k) (in_core tree k)
      (λ x h.
      let both = and_parts (holds tree k x) (holds tree (link_of tree k) x) h in
      core_has tree are k (link_of tree k) x (linked_from (link_of tree) (length tree.cliques) (link_of tree k) k (linked_back (link_of tree) (length tree.cliques) k (link_of tree k) near)) both.0 both.1)

  pub shared_lies_in_link_core : LiesIn (scope_within network (shares tree k)) (scope_within network (in_core tree (link_of tree k)))
  shared_lies_in_link_core =
      part_lies_in network (shares tree k) (in_core tree (link_of tree k))
      (λ x h.
      let both = and_parts (holds tree k x) (holds tree (link_of tree k) x) h in
      core_has tree are (link_of tree k) k x (linked_from (link_of tree) (length tree.cliques) k (link_of tree k) near) both.1 both.0)

-- ---- the set that is made of it

-- the elements of a filtered list pass
passes : (test : ℕ → Bool) (xs : List ℕ) (j : ℕ) → j < length (filter test xs) → test (get_or (filter test xs) j 0) ≡ true
passes test [] j h = absurd (omega arith)
passes test (x ∷ xs) j h = at (test x) refl j h (passes test xs)
  where
    at : (b : Bool) → test x ≡ b → (j : ℕ) → j < length (cond b (x ∷ filter test xs) (filter test xs)) → ((i : ℕ) → i < length (filter test xs) → test (get_or (filter test xs) i 0) ≡ true)
        → test (get_or (cond b (x ∷ filter test xs) (filter test xs)) j 0) ≡ true
    at true e zero l ih = e
    at true e (suc j) l ih = ih j (omega arith)
    at false e j l ih = ih j l

pub neighbour_linked : (tree : GivenTree) (k j i : ℕ) → j < length (neighbours tree k) → i ≡ get_or (neighbours tree k) j 0 → linked (link_of tree) (length tree.cliques) i k ≡ true
neighbour_linked tree k j i l e = ap (linked_to (link_of tree) (length tree.cliques) k) e ∙ passes (linked_to (link_of tree) (length tree.cliques) k) (range_with_len 1 (length tree.cliques)) j l

-- a neighbour is a clique
pub neighbour_is : (tree : GivenTree) → given.AreLinked tree → (k j i : ℕ) → j < length (neighbours tree k) → i ≡ get_or (neighbours tree k) j 0 → IsClique tree i
neighbour_is tree are k j i l e =
    let at = ends (link_of tree) (length tree.cliques) i k are.earlier (are_linked (link_of tree) (length tree.cliques) i k (neighbour_linked tree k j i l e)) in
    record { first = at.0; last = at.1 }

-- and so is what stands at its place in the list that was read
pub listed_is : (tree : GivenTree) → given.AreLinked tree → (k j : ℕ) (items : List ℕ) → items ≡ neighbours tree k → j < length items → IsClique tree (get_or items j 0)
listed_is tree are k j items same l =
    neighbour_is tree are k j _ (subst (λ (xs : List ℕ). j < length xs) same l) (ap (λ (xs : List ℕ). get_or xs j 0) same)

-- one neighbour more
pub around_more : (tree : GivenTree) (listed : List ℕ) (j x : ℕ) → j < length listed → list_any (λ i. holds tree i x) (take (j + 1) listed) ≡ (list_any (λ i. holds tree i x) (take j listed) || holds tree (get_or listed j 0) x)
around_more tree listed j x l = ap (list_any (λ i. holds tree i x)) (take_more listed j 0 l) ∙ any_push (take j listed)
  where
    joined : (b c d : Bool) → (b || (c || d)) ≡ ((b || c) || d)
    joined true c d = refl
    joined false c d = refl

    alone : (b : Bool) → (b || false) ≡ b
    alone true = refl
    alone false = refl

    any_push : (xs : List ℕ) → list_any (λ i. holds tree i x) (xs ++ get_or listed j 0 ∷ []) ≡ (list_any (λ i. holds tree i x) xs || holds tree (get_or listed j 0) x)
    any_push [] = alone (holds tree (get_or listed j 0) x)
    any_push (y ∷ ys) = ap (λ b. holds tree y x || b) (any_push ys) ∙ joined (holds tree y x) (list_any (λ i. holds tree i x) ys) (holds tree (get_or listed j 0) x)

-- its scope, which has no more cells than the clique's
pub core_scope_of : (network : List Variable) (tree : GivenTree) (k : ℕ) (set : VarSet) → ((x : ℕ) → is_member set x ≡ in_core tree k x) → scope_of network set ≡ scope_within network (in_core tree k)
core_scope_of network tree k set made = ap (scope_within network) (fun_ext made)

pub core_fits : (network : List Variable) (tree : GivenTree) → IsNetwork network → IsTreeOf network tree → (k : ℕ) → IsClique tree k → (set : VarSet) → ((x : ℕ) → is_member set x ≡ in_core tree k x)
    → cells_in (scope_of network set) ≤ max_clique_cells
core_fits network tree legal is k clique set made =
    let l = part_has_fewer network legal (in_core tree k) (holds tree k) (core_part tree k) in
    omega (arith, l, clique_small network tree is k clique.first clique.last, ap cells_in (core_scope_of network tree k set made))

pub core_of_network : (network : List Variable) (tree : GivenTree) → IsTreeOf network tree → (k : ℕ) → IsClique tree k → (set : VarSet) → ((x : ℕ) → is_member set x ≡ in_core tree k x)
    → (x : ℕ) → is_member set x ≡ true → x < length network
core_of_network network tree is k clique set made x h = is.of_network (k - 1) no_variables (omega (arith, clique.first, clique.last)) x (core_part tree k x (sym (made x) ∙ h))
