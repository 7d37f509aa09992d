-- A tree of a network with one variable more: a clique of it stands behind the others.
use Rattle.std.proofs.Common.{◌≡◌, ℕ, ◌+◌, ◌-◌, ◌*◌, ◌<◌, ◌≤◌, ◌⊎◌, inl, inr, Bool, true, false}
use Rattle.std.proofs.Common.{cond, not, ◌&&◌, ◌||◌, ◌==◌, List, [], ◌∷◌, ◌++◌, filter, length}
use Rattle.std.proofs.Common.{slice_index, refl, sym, ap, ap₂, ◌∙◌, subst, arith, mul_assoc}
use Rattle.std.specs.List.{AllByRecursion, list_any, list_all}
use Rattle.std.proofs.lemmas.Bool.{cases_lt, and_from, ne_eqb}
use Rattle.std.proofs.lemmas.List.{map-id, get_or_append_left, get_or_push, length_push}
use Rattle.std.proofs.lemmas.List.FromFn.{map-range_with_len_more}
use Rattle.std.proofs.lemmas.List.Elements.{All-from_recursion, recursion_from_All, All-push}
use Rattle.std.proofs.lemmas.List.Elements.{All-weaker, All-get_or, filter-append}
use Rattle.std.proofs.lemmas.List.Folds.{list_any-append}
use Rattle.std.proofs.lemmas.List.Sums.{sum_by_push}
use Rattle.mk_sets.specs.Sets.{VarSet, is_member, no_variables}
use Rattle.mk_net.specs.Network.{Variable, sizes, choices}
use Rattle.mk_states.specs.States.{numbers_below}
use Rattle.mk_states.proofs.Sums.{each_filtered, each_number, each_weaker, sum_by_each}
use Rattle.mk_sums.specs.Trees.{Links, Running}
use Rattle.mk_tree.specs.Given.{GivenTree, AreLinked, AreOfNetwork, clique_at, holds, link_of}
use Rattle.mk_tree.specs.Tests.{holds_family, is_covered, members, cells_of}
use Rattle.mk_tree.specs.Checked.{IsTreeOf}
use Rattle.mk_net.proofs.Behind.{choices_same, filter_below, size_before, size_last}
use Rattle.mk_net.proofs.Behind.{variable_before, variable_last}
use Rattle.mk_tree.specs.Grown.{with_clique, FitsBehind, IsBehind}
use Rattle.mk_tree.proofs.Leaf.{IsLonger, links_more, running_more}

numbers_more : (n : ℕ) → numbers_below (n + 1) ≡ numbers_below n ++ n ∷ []
numbers_more n = sym (map-id (numbers_below (n + 1)))
    ∙ map-range_with_len_more (λ k. k) 0 n n (omega arith)
    ∙ ap (λ ks. ks ++ n ∷ []) (map-id (numbers_below n))

any_left : {X : Type 0} (test : X → Bool) (xs more : List X) → list_any test xs ≡ true
    → list_any test (xs ++ more) ≡ true
any_left test xs more h = list_any-append test xs more ∙ ap (λ b. b || list_any test more) h

any_last : {X : Type 0} (test : X → Bool) (xs : List X) (y : X) → test y ≡ true
    → list_any test (xs ++ y ∷ []) ≡ true
any_last test [] y h = rw h refl
any_last test (x ∷ xs) y h = at (test x) (any_last test xs y h)
  where
    at : (b : Bool) → list_any test (xs ++ y ∷ []) ≡ true → (b || list_any test (xs ++ y ∷ []))
        ≡ true
    at true later = refl
    at false later = later

all_true : (test : ℕ → Bool) (xs : List ℕ) → AllByRecursion (λ x. test x ≡ true) xs
    → list_all test xs ≡ true
all_true test [] h = refl
all_true test (x ∷ xs) h = and_from (test x) (list_all test xs) h.0 (all_true test xs h.1)

module _ (network : List Variable) (v : Variable) where
  -- an earlier set has the cells that it had
  cells_same : (set : VarSet) → ((x : ℕ) → is_member set x ≡ true → x < length network)
      → cells_of (network ++ v ∷ []) set ≡ cells_of network set
  cells_same set within =
      ap (choices (sizes (network ++ v ∷ []))) same
      ∙ choices_same (sizes network) (sizes (network ++ v ∷ [])) (length network)
      (size_before network v) (members network set)
      (each_filtered (λ x. x < length network) (is_member set) (numbers_below (length network))
      (each_number (λ x. x < length network) (length network) 0 (λ x p q. omega arith)))
    where
      left_out : (b : Bool) → (b ≡ true → length network < length network)
          → cond b (length network ∷ []) [] ≡ []
      left_out true h = absurd (let l = h refl in omega arith)
      left_out false h = refl

      nil : (xs : List ℕ) → xs ++ [] ≡ xs
      nil [] = refl
      nil (x ∷ xs) = ap (λ ys. x ∷ ys) (nil xs)

      same : members (network ++ v ∷ []) set ≡ members network set
      same =
          ap (λ k. filter (is_member set) (numbers_below k)) (length_push network v)
          ∙ ap (filter (is_member set)) (numbers_more (length network))
          ∙ filter-append (is_member set) (numbers_below (length network)) (length network ∷ [])
          ∙ ap (λ ys. members network set ++ ys)
          (left_out (is_member set (length network)) (within (length network)))
          ∙ nil (members network set)

  -- the added variable's values times the cells of the others
  pub cells_behind : (set rest : VarSet) → is_member set (length network) ≡ true
      → ((x : ℕ) → is_member rest x ≡ (is_member set x && not (x == length network)))
      → cells_of (network ++ v ∷ []) set ≡ cells_of network rest * length v.values
  cells_behind set rest own others =
      ap (choices (sizes (network ++ v ∷ []))) same
      ∙ choices_push (members network rest)
      ∙ ap₂ ◌*◌ (choices_same (sizes network) (sizes (network ++ v ∷ [])) (length network)
      (size_before network v) (members network rest)
      (each_filtered (λ x. x < length network) (is_member rest) (numbers_below (length network))
      (each_number (λ x. x < length network) (length network) 0 (λ x p q. omega arith))))
      (size_last network v)
    where
      choices_push : (xs : List ℕ) → choices (sizes (network ++ v ∷ [])) (xs ++ length network ∷ [])
          ≡ choices (sizes (network ++ v ∷ [])) xs
          * slice_index (sizes (network ++ v ∷ [])) (length network)
      choices_push [] = omega arith
      choices_push (x ∷ xs) =
          ap (λ n. slice_index (sizes (network ++ v ∷ [])) x * n) (choices_push xs)
          ∙ sym (mul_assoc (slice_index (sizes (network ++ v ∷ [])) x)
          (choices (sizes (network ++ v ∷ [])) xs)
          (slice_index (sizes (network ++ v ∷ [])) (length network)))

      and_true : (b : Bool) → (b && true) ≡ b
      and_true true = refl
      and_true false = refl

      before : (x : ℕ) → 0 ≤ x → x < 0 + length network → is_member set x ≡ is_member rest x
      before x p q = sym (others x ∙ ap (λ (b : Bool). is_member set x && not b)
          (ne_eqb x (length network) (λ e. omega (arith, e, q))) ∙ and_true (is_member set x))

      same : members (network ++ v ∷ []) set ≡ members network rest ++ length network ∷ []
      same =
          ap (λ k. filter (is_member set) (numbers_below k)) (length_push network v)
          ∙ ap (filter (is_member set)) (numbers_more (length network))
          ∙ filter-append (is_member set) (numbers_below (length network)) (length network ∷ [])
          ∙ ap₂ ◌++◌ (filter_below (is_member set) (is_member rest) (length network) 0 before)
          (ap (λ b. cond b (length network ∷ []) []) own)

  module _ (t : GivenTree) (c : VarSet) (k : ℕ) (tree : IsTreeOf network t)
      (fits : FitsBehind network v t c k) where
    clique_before : (j : ℕ) → 1 ≤ j → j ≤ length t.cliques → clique_at (with_clique t c k) j
        ≡ clique_at t j
    clique_before j p q = get_or_append_left t.cliques (c ∷ []) no_variables (j - 1)
        (omega (arith, p, q))

    clique_last : clique_at (with_clique t c k) (length t.cliques + 1) ≡ c
    clique_last = get_or_push t.cliques c no_variables (length t.cliques + 1 - 1) (omega arith)

    link_before : (j : ℕ) → 1 < j → j ≤ length t.cliques → link_of (with_clique t c k) j
        ≡ link_of t j
    link_before j p q = get_or_append_left t.links (k ∷ []) 0 (j - 2)
        (omega (arith, p, q, tree.linked.one_link_each))

    link_last : link_of (with_clique t c k) (length t.cliques + 1) ≡ k
    link_last = get_or_push t.links k 0 (length t.cliques + 1 - 2)
        (omega (arith, tree.linked.one_link_each, tree.linked.some))

    within : (j x : ℕ) → 1 ≤ j → j ≤ length t.cliques → holds t j x ≡ true → x < length network
    within j x p q h = All-get_or (λ (set : VarSet). (y : ℕ) → is_member set y ≡ true
        → y < length network) t.cliques (j - 1) no_variables (omega (arith, p, q))
        tree.of_network x h

    longer : IsLonger (link_of t) (link_of (with_clique t c k)) (length t.cliques) (holds t)
        (holds (with_clique t c k)) (length network)
    longer = record {
      same_links = link_before;
      same_cliques = λ j x p q. ap (λ (set : VarSet). is_member set x) (clique_before j p q);
      first = omega (arith, link_last, fits.first);
      earlier = omega (arith, link_last, fits.last);
      shared = λ x h d. ap (λ j. holds t j x) link_last
          ∙ fits.shared x (sym (ap (λ (set : VarSet). is_member set x) clique_last) ∙ h) d;
      fresh = λ j p q. none (holds t j (length network)) (within j (length network) p q);
    }
      where
        none : (b : Bool) → (b ≡ true → length network < length network) → b ≡ false
        none true h = absurd (let l = h refl in omega arith)
        none false h = refl

    counted : length (with_clique t c k).cliques ≡ length t.cliques + 1
    counted = length_push t.cliques c

    linked : AreLinked (with_clique t c k)
    linked = record {
      some = omega (arith, counted);
      few = omega (arith, counted, fits.few);
      one_link_each = omega (arith, counted, length_push t.links k, tree.linked.one_link_each);
      earlier = subst (Links (link_of (with_clique t c k))) (sym counted)
          (links_more (link_of t) (link_of (with_clique t c k)) (length t.cliques) (holds t)
          (holds (with_clique t c k)) (length network) tree.linked.earlier longer);
    }

    of_network : AreOfNetwork (network ++ v ∷ []) (t.cliques ++ c ∷ [])
    of_network = All-push (λ (set : VarSet). (x : ℕ) → is_member set x ≡ true → x < length
        (network ++ v ∷ [])) t.cliques c
        (All-weaker (λ (set : VarSet). (x : ℕ) → is_member set x ≡ true → x < length network)
        (λ (set : VarSet). (x : ℕ) → is_member set x ≡ true → x < length (network ++ v ∷ []))
        (λ set h x m. omega (arith, h x m, length_push network v)) t.cliques tree.of_network)
        (λ x m. at x m (cases_lt x (length network)))
      where
        at : (x : ℕ) → is_member c x ≡ true → (x < length network) ⊎ (length network ≤ x)
            → x < length (network ++ v ∷ [])
        at x m (inl l) = omega (arith, l, length_push network v)
        at x m (inr l) = below (cases_lt (length network) x)
          where
            below : (length network < x) ⊎ (x ≤ length network) → x < length (network ++ v ∷ [])
            below (inl r) = let inside = within k x fits.first fits.last
                (fits.shared x m (λ e. absurd (omega (arith, e, r)))) in omega (arith, inside, r)
            below (inr r) = omega (arith, r, length_push network v)

    covers : (x : ℕ) → x < length (network ++ v ∷ [])
        → is_covered (network ++ v ∷ []) (t.cliques ++ c ∷ []) x ≡ true
    covers x h = at (cases_lt x (length network))
      where
        at : (x < length network) ⊎ (length network ≤ x)
            → is_covered (network ++ v ∷ []) (t.cliques ++ c ∷ []) x ≡ true
        at (inl l) = subst (λ (w : Variable). list_any
            (λ (set : VarSet). is_member set x && list_all (is_member set) w.parents)
            (t.cliques ++ c ∷ []) ≡ true) (sym (variable_before network v x l))
            (any_left (holds_family network x) t.cliques (c ∷ []) (tree.covers x l))
        at (inr l) =
            let e : length network ≡ x = omega (arith, l, h, length_push network v) in
            subst (λ y. is_covered (network ++ v ∷ []) (t.cliques ++ c ∷ []) y ≡ true) e
            (any_last (holds_family (network ++ v ∷ []) (length network)) t.cliques c
            (subst (λ (w : Variable). (is_member c (length network) && list_all (is_member c)
            w.parents) ≡ true) (sym (variable_last network v))
            (and_from (is_member c (length network)) (list_all (is_member c) v.parents) fits.own
            (all_true (is_member c) v.parents
            (recursion_from_All (λ p. is_member c p ≡ true) v.parents fits.parents)))))

    cells_each : AllByRecursion (λ (set : VarSet). cells_of (network ++ v ∷ []) set
        ≡ cells_of network set) t.cliques
    cells_each = each_weaker (λ (set : VarSet). (x : ℕ) → is_member set x ≡ true
        → x < length network) (λ (set : VarSet). cells_of (network ++ v ∷ []) set
        ≡ cells_of network set) cells_same t.cliques
        (recursion_from_All (λ (set : VarSet). (x : ℕ) → is_member set x ≡ true
        → x < length network) t.cliques tree.of_network)

    pub tree_grows : IsTreeOf (network ++ v ∷ []) (with_clique t c k)
    tree_grows = record {
      linked = linked;
      of_network = of_network;
      covers = covers;
      running = subst (λ m. Running (link_of (with_clique t c k)) m (holds (with_clique t c k)))
          (sym counted)
          (running_more (link_of t) (link_of (with_clique t c k)) (length t.cliques) (holds t)
          (holds (with_clique t c k)) (length network) tree.linked.earlier longer tree.running);
      small_cliques = All-push (λ (set : VarSet). cells_of (network ++ v ∷ []) set ≤ 4096)
          t.cliques c
          (All-from_recursion (λ (set : VarSet). cells_of (network ++ v ∷ []) set ≤ 4096) t.cliques
          (small t.cliques cells_each (recursion_from_All
          (λ (set : VarSet). cells_of network set ≤ 4096) t.cliques tree.small_cliques)))
          fits.small;
      few_cells = omega (
        arith,
        sum_by_push (cells_of (network ++ v ∷ [])) t.cliques c,
        sum_by_each (cells_of (network ++ v ∷ [])) (cells_of network) t.cliques cells_each,
        fits.room,
      );
    }
      where
        small : (sets : List VarSet) → AllByRecursion
            (λ (set : VarSet). cells_of (network ++ v ∷ []) set ≡ cells_of network set) sets
            → AllByRecursion (λ (set : VarSet). cells_of network set ≤ 4096) sets
            → AllByRecursion (λ (set : VarSet). cells_of (network ++ v ∷ []) set ≤ 4096) sets
        small [] e h = tt
        small (s ∷ sets) e h = (omega (arith, e.0, h.0), small sets e.1 h.1)

-- the same, where the longer network is given
pub grown_is_tree : (net : List Variable) (t : GivenTree) (c : VarSet) (k : ℕ) → IsBehind net t c k
    → IsTreeOf net (with_clique t c k)
grown_is_tree net t c k behind = rw (behind.longer)
    (tree_grows behind.earlier behind.added t c k behind.tree behind.fits)
