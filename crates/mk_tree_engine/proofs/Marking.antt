-- What leads away from a clique is marked.
use Rattle.std.proofs.Common.{◌≡◌, ◌≢◌, ℕ, ◌+◌, ◌-◌, ◌<◌, ◌≤◌, Bool, true, false, cond, not, ◌&&◌, ◌||◌, ◌⊎◌, inl, inr, eqb, ltb, Option, Some, None, List, length, get_or, set, refl, sym, ap, subst, ◌∙◌, arith, eq-eqb, ne_eqb, length-set, get_or-set_other}
use Rattle.std.specs.Option.{ForSome}
use Rattle.std.proofs.Math.Bool.{or-true, or-false}
use Rattle.std.proofs.lemmas.Bool.{cases_eq, cases_lt, lt-ltb, le-ltb, and_right, and_parts, eqb-true, not-true, both_ways}
use Rattle.std.proofs.lemmas.Grind.{get_or-set_at}
use Rattle.mk_sums.proofs.Hops as hops
use Rattle.mk_sums.proofs.Stale as stale
use Rattle.mk_tree.specs.Given as given
use Rattle.mk_tree.specs.Given.{GivenTree, link_of}
use Rattle.mk_plan.specs.Shapes.{IsClique, are_linked, is_behind, next_on_way}
use Rattle.mk_tree_engine.specs.Engines.{leads_towards}
use Rattle.mk_tree_engine.specs.inner.Marks.{marked_stale, AreMarks, AreMarkedUp, AreMarkedDown, AreMarkedFrom, AreCurrentTowards, kept_in}
use Rattle.mk_tree_engine.proofs.Making.{read_up, read_down}

-- the tests of the places before one more
one_later : (i passed : ℕ) → (i ≡ passed → ⊥) → ltb i (passed + 1) ≡ ltb i passed
one_later i passed d = at (cases_lt i passed)
  where
    at : ((i < passed) ⊎ (passed ≤ i)) → ltb i (passed + 1) ≡ ltb i passed
    at (inl l) = lt-ltb i (passed + 1) (omega arith) ∙ sym (lt-ltb i passed l)
    at (inr l) = le-ltb i (passed + 1) (omega (arith, d)) ∙ sym (le-ltb i passed l)

module _ (f : ℕ → Bool) (old now : List Bool) (passed : ℕ) (long : length now ≡ length old)
    (each : (i : ℕ) → i < length old → get_or now i true ≡ (get_or old i true || (ltb i passed && f i))) where
  others : (i : ℕ) → i < length old → (i ≡ passed → ⊥) → get_or now i true ≡ (get_or old i true || (ltb i (passed + 1) && f i))
  others i l d = each i l ∙ ap (λ b. get_or old i true || (b && f i)) (sym (one_later i passed d))

  more_marked : passed < length old → f passed ≡ true → (i : ℕ) → i < length old → get_or (set now passed true) i true ≡ (get_or old i true || (ltb i (passed + 1) && f i))
  more_marked within h i l = at (cases_eq i passed)
    where
      at : ((i ≡ passed) ⊎ (i ≡ passed → ⊥)) → get_or (set now passed true) i true ≡ (get_or old i true || (ltb i (passed + 1) && f i))
      at (inl e) =
          let w : passed < length now = omega (arith, long) in
          get_or-set_at now passed i true true e w
          ∙ sym (ap (λ b. get_or old i true || (b && f i)) (lt-ltb i (passed + 1) (omega arith)) ∙ ap (λ b. get_or old i true || b) (ap f e ∙ h) ∙ or-true (get_or old i true))
      at (inr d) = get_or-set_other now passed i true true d ∙ others i l d

  none_marked : f passed ≡ false → (i : ℕ) → i < length old → get_or now i true ≡ (get_or old i true || (ltb i (passed + 1) && f i))
  none_marked h i l = at (cases_eq i passed)
    where
      at : ((i ≡ passed) ⊎ (i ≡ passed → ⊥)) → get_or now i true ≡ (get_or old i true || (ltb i (passed + 1) && f i))
      at (inl e) =
          each i l ∙ ap (λ b. get_or old i true || b) (and_right (ltb i passed) (f i) (ap f e ∙ h) ∙ sym (and_right (ltb i (passed + 1)) (f i) (ap f e ∙ h)))
      at (inr d) = others i l d

-- of the two messages between a clique and its link one leads away
module _ (tree : GivenTree) (links : given.AreLinked tree) (clique : ℕ) (at_c : IsClique tree clique) (k : ℕ) (later : 1 < k) (within : k ≤ length tree.cliques) where
  child : hops.IsChild (link_of tree) (length tree.cliques) k (link_of tree k)
  child = record { later = later; within = within; link_is = refl }

  other_side : is_behind tree k (link_of tree k) clique ≡ not (is_behind tree (link_of tree k) k clique)
  other_side = hops.side (link_of tree) (length tree.cliques) k (link_of tree k) clique links.earlier (inl child) at_c.first at_c.last

  pub links_away : (k ≡ clique → ⊥) → next_on_way tree k clique < k → (is_behind tree (link_of tree k) k clique ≡ true) × (is_behind tree k (link_of tree k) clique ≡ false)
  links_away d l =
      let e = at (hops.hop_linked (link_of tree) (length tree.cliques) k clique links.earlier (omega arith) within at_c.first at_c.last (λ f. d (sym f))) in
      let b = hops.behind_from (link_of tree) (length tree.cliques) (link_of tree k) k clique (λ f. d (sym f)) e in
      (b, other_side ∙ ap not b)
    where
      at : hops.AreLinked (link_of tree) (length tree.cliques) (next_on_way tree k clique) k → next_on_way tree k clique ≡ link_of tree k
      at (inl p) = let q = links.earlier (next_on_way tree k clique) p.later p.within in absurd (omega (arith, q.1, p.link_is, l))
      at (inr p) = sym p.link_is

  pub own_away : ((k ≡ clique → ⊥) → k ≤ next_on_way tree k clique) → (is_behind tree (link_of tree k) k clique ≡ false) × (is_behind tree k (link_of tree k) clique ≡ true)
  own_away h = let b = at (cases_eq k clique) in (b, other_side ∙ ap not b)
    where
      at : ((k ≡ clique) ⊎ (k ≡ clique → ⊥)) → is_behind tree (link_of tree k) k clique ≡ false
      at (inl e) = hops.behind_itself (link_of tree) (length tree.cliques) (link_of tree k) k clique (sym e)
      at (inr d) =
          let q = links.earlier k later within in let l = h d in
          hops.behind_other (link_of tree) (length tree.cliques) (link_of tree k) k clique (λ e. omega (arith, q.1, l, e))

-- one turn
module _ (tree : GivenTree) (links : given.AreLinked tree) (clique : ℕ) (at_c : IsClique tree clique) (passed : ℕ) (fits : passed < length tree.cliques - 1)
    (up down ups downs : List Bool) (marks : AreMarks (length tree.cliques) up down) (marked_up : AreMarkedUp tree clique passed up ups) (marked_down : AreMarkedDown tree clique passed down downs) where
  pub turn_up : (next : ℕ) → (passed + 2 ≢ clique → next ≡ next_on_way tree (passed + 2) clique) → (passed + 2 ≡ clique → ⊥) → next < passed + 2
      → AreMarkedUp tree clique (passed + 1) up ups × AreMarkedDown tree clique (passed + 1) down (set downs passed true)
  turn_up next is d l =
      let e = is d in
      let b = links_away tree links clique at_c (passed + 2) (omega arith) (omega arith) d (omega (arith, e)) in (
        record { long = marked_up.long; each = none_marked (λ i. is_behind tree (i + 2) (link_of tree (i + 2)) clique) up ups passed marked_up.long marked_up.each b.1 },
        record {
          long = length-set downs passed true ∙ marked_down.long;
          each = more_marked (λ i. is_behind tree (link_of tree (i + 2)) (i + 2) clique) down downs passed marked_down.long marked_down.each (omega (arith, marks.one_less_down)) b.0;
        },
      )

  pub turn_down : (next : ℕ) → (passed + 2 ≢ clique → next ≡ next_on_way tree (passed + 2) clique) → ((passed + 2 ≡ clique → ⊥) → passed + 2 ≤ next)
      → AreMarkedUp tree clique (passed + 1) up (set ups passed true) × AreMarkedDown tree clique (passed + 1) down downs
  turn_down next is h =
      let b = own_away tree links clique at_c (passed + 2) (omega arith) (omega arith) (λ d. let e = is d in let l = h d in omega (arith, e, l)) in (
        record {
          long = length-set ups passed true ∙ marked_up.long;
          each = more_marked (λ i. is_behind tree (i + 2) (link_of tree (i + 2)) clique) up ups passed marked_up.long marked_up.each (omega (arith, marks.one_less_up)) b.1;
        },
        record { long = marked_down.long; each = none_marked (λ i. is_behind tree (link_of tree (i + 2)) (i + 2) clique) down downs passed marked_down.long marked_down.each b.0 },
      )

-- a turn by the number of the clique
module _ (tree : GivenTree) (links : given.AreLinked tree) (clique : ℕ) (at_c : IsClique tree clique) (k : ℕ) (from : 2 ≤ k) (earlier : k < clique) (next : ℕ) (next_is : k ≢ clique → next ≡ next_on_way tree k clique)
    (up down ups downs : List Bool) (marks : AreMarks (length tree.cliques) up down) (marked_up : AreMarkedUp tree clique (k - 2) up ups) (marked_down : AreMarkedDown tree clique (k - 2) down downs) where
  same : k - 2 + 2 ≡ k
  same = omega (arith, from)

  one_on : k - 2 + 1 ≡ k + 1 - 2
  one_on = omega (arith, from)

  is : k - 2 + 2 ≢ clique → next ≡ next_on_way tree (k - 2 + 2) clique
  is d = next_is (λ e. d (same ∙ e)) ∙ ap (λ n. next_on_way tree n clique) (sym same)

  pub earlier_up : next < k → AreMarkedUp tree clique (k + 1 - 2) up ups × AreMarkedDown tree clique (k + 1 - 2) down (set downs (k - 2) true)
  earlier_up l =
      let t = turn_up tree links clique at_c (k - 2) (omega (arith, from, earlier, at_c.last)) up down ups downs marks marked_up marked_down next is (λ e. omega (arith, same, e, earlier)) (omega (arith, same, l)) in
      (subst (λ m. AreMarkedUp tree clique m up ups) one_on t.0, subst (λ m. AreMarkedDown tree clique m down (set downs (k - 2) true)) one_on t.1)

  pub earlier_down : k ≤ next → AreMarkedUp tree clique (k + 1 - 2) up (set ups (k - 2) true) × AreMarkedDown tree clique (k + 1 - 2) down downs
  earlier_down l =
      let t = turn_down tree links clique at_c (k - 2) (omega (arith, from, earlier, at_c.last)) up down ups downs marks marked_up marked_down next is (λ d. omega (arith, same, l)) in
      (subst (λ m. AreMarkedUp tree clique m up (set ups (k - 2) true)) one_on t.0, subst (λ m. AreMarkedDown tree clique m down downs) one_on t.1)

-- one place more is set
pub set_more : (marks old : List Bool) (first place : ℕ) → first ≤ place → place < length old → AreMarkedFrom first place old marks → AreMarkedFrom first (place + 1) old (set marks place true)
set_more marks old first place p q h = record {
  long = length-set marks place true ∙ h.long;
  each = more_marked (λ i. not (ltb i first)) old marks place h.long h.each q (ap not (le-ltb place first p));
}

-- none is yet
pub set_none : (old : List Bool) (first : ℕ) → AreMarkedFrom first first old old
set_none old first = record { long = refl; each = λ i l. sym (ap (λ b. get_or old i true || b) (neither (ltb i first)) ∙ or-false (get_or old i true)) }
  where
    neither : (b : Bool) → (b && not b) ≡ false
    neither true = refl
    neither false = refl

-- from the clique on: its own message leads away, and of the later cliques those of the links
module _ (tree : GivenTree) (links : given.AreLinked tree) (clique : ℕ) (at_c : IsClique tree clique) (up down ups downs : List Bool) (marks : AreMarks (length tree.cliques) up down)
    (marked_up : AreMarkedUp tree clique (clique - 2) up ups) (marked_down : AreMarkedDown tree clique (clique - 2) down downs) where
  pub turn_own : 1 < clique → AreMarkedUp tree clique (clique - 1) up (set ups (clique - 2) true) × AreMarkedDown tree clique (clique - 1) down downs
  turn_own later =
      let e : clique - 2 + 2 ≡ clique = omega (arith, later) in let n : clique - 2 + 1 ≡ clique - 1 = omega (arith, later) in
      let t = turn_down tree links clique at_c (clique - 2) (omega (arith, later, at_c.last)) up down ups downs marks marked_up marked_down (next_on_way tree (clique - 2 + 2) clique) (λ _. refl) (λ d. absurd (d e)) in
      (subst (λ m. AreMarkedUp tree clique m up (set ups (clique - 2) true)) n t.0, subst (λ m. AreMarkedDown tree clique m down downs) n t.1)

  pub turn_root : clique ≤ 1 → AreMarkedUp tree clique (clique - 1) up ups × AreMarkedDown tree clique (clique - 1) down downs
  turn_root root =
      let n : clique - 2 ≡ clique - 1 = omega (arith, root) in
      (subst (λ m. AreMarkedUp tree clique m up ups) n marked_up, subst (λ m. AreMarkedDown tree clique m down downs) n marked_down)

  pub own_down : AreMarkedDown tree clique (clique - 1) down downs
  own_down = at (cases_lt 1 clique)
    where
      at : ((1 < clique) ⊎ (clique ≤ 1)) → AreMarkedDown tree clique (clique - 1) down downs
      at (inl l) = (turn_own l).1
      at (inr l) = (turn_root l).1

module _ (tree : GivenTree) (links : given.AreLinked tree) (clique : ℕ) (at_c : IsClique tree clique) (up down : List Bool) (marks : AreMarks (length tree.cliques) up down) where
  beyond : (i : ℕ) → clique - 1 ≤ i → i < length tree.cliques - 1 → (is_behind tree (link_of tree (i + 2)) (i + 2) clique ≡ true) × (is_behind tree (i + 2) (link_of tree (i + 2)) clique ≡ false)
  beyond i p q =
      let e = links.earlier (i + 2) (omega arith) (omega arith) in
      let up_is = hops.hop_up (link_of tree) (length tree.cliques) (i + 2) clique (omega (arith, p)) (omega (arith, q)) in
      links_away tree links clique at_c (i + 2) (omega arith) (omega (arith, q)) (λ f. omega (arith, p, f)) (omega (arith, e.1, up_is))

  pub all_up : (ups : List Bool) → AreMarkedUp tree clique (clique - 1) up ups → AreMarkedUp tree clique (length tree.cliques - 1) up ups
  all_up ups marked = record { long = marked.long; each = λ i l. marked.each i l ∙ ap (λ b. get_or up i true || b) (at i l (cases_lt i (clique - 1))) }
    where
      f : ℕ → Bool
      f i = is_behind tree (i + 2) (link_of tree (i + 2)) clique

      at : (i : ℕ) → i < length up → ((i < clique - 1) ⊎ (clique - 1 ≤ i)) → (ltb i (clique - 1) && f i) ≡ (ltb i (length tree.cliques - 1) && f i)
      at i l (inl p) = ap (λ b. b && f i) (lt-ltb i (clique - 1) p ∙ sym (lt-ltb i (length tree.cliques - 1) (omega (arith, l, marks.one_less_up))))
      at i l (inr p) =
          let b = (beyond i p (omega (arith, l, marks.one_less_up))).1 in
          and_right (ltb i (clique - 1)) (f i) b ∙ sym (and_right (ltb i (length tree.cliques - 1)) (f i) b)

  pub all_down : (downs news : List Bool) → AreMarkedDown tree clique (clique - 1) down downs → AreMarkedFrom (clique - 1) (length downs) downs news → AreMarkedDown tree clique (length tree.cliques - 1) down news
  all_down downs news marked later = record { long = later.long ∙ marked.long; each = λ i l. each i l (cases_lt i (clique - 1)) }
    where
      f : ℕ → Bool
      f i = is_behind tree (link_of tree (i + 2)) (i + 2) clique

      each : (i : ℕ) → i < length down → ((i < clique - 1) ⊎ (clique - 1 ≤ i)) → get_or news i true ≡ (get_or down i true || (ltb i (length tree.cliques - 1) && f i))
      each i l (inl p) =
          later.each i (omega (arith, l, marked.long)) ∙ ap (λ b. get_or downs i true || (ltb i (length downs) && not b)) (lt-ltb i (clique - 1) p)
          ∙ ap (λ b. get_or downs i true || b) (and_right (ltb i (length downs)) false refl) ∙ or-false (get_or downs i true)
          ∙ marked.each i l
          ∙ ap (λ b. get_or down i true || (b && f i)) (lt-ltb i (clique - 1) p ∙ sym (lt-ltb i (length tree.cliques - 1) (omega (arith, l, marks.one_less_down))))
      each i l (inr p) =
          later.each i (omega (arith, l, marked.long)) ∙ ap (λ b. get_or downs i true || (b && not (ltb i (clique - 1)))) (lt-ltb i (length downs) (omega (arith, l, marked.long)))
          ∙ ap (λ b. get_or downs i true || not b) (le-ltb i (clique - 1) p) ∙ or-true (get_or downs i true)
          ∙ sym (ap (λ b. get_or down i true || (b && f i)) (lt-ltb i (length tree.cliques - 1) (omega (arith, l, marks.one_less_down)))
          ∙ ap (λ b. get_or down i true || b) (beyond i p (omega (arith, l, marks.one_less_down))).0 ∙ or-true (get_or down i true))

-- both ways: exactly what leads away is marked as well
module _ (tree : GivenTree) (links : given.AreLinked tree) (clique : ℕ) (up down ups downs : List Bool) (marks : AreMarks (length tree.cliques) up down)
    (marked_up : AreMarkedUp tree clique (length tree.cliques - 1) up ups) (marked_down : AreMarkedDown tree clique (length tree.cliques - 1) down downs) where
  pub marks_away : (a b : ℕ) → are_linked tree a b ≡ true → marked_stale ups downs a b ≡ (marked_stale up down a b || is_behind tree a b clique)
  marks_away a b l = at (hops.are_linked (link_of tree) (length tree.cliques) a b l)
    where
      later : (x y : ℕ) → hops.IsChild (link_of tree) (length tree.cliques) x y → y < x
      later x y p = let q = links.earlier x p.later p.within in omega (arith, q.1, p.link_is)

      at : hops.AreLinked (link_of tree) (length tree.cliques) a b → marked_stale ups downs a b ≡ (marked_stale up down a b || is_behind tree a b clique)
      at (inl p) =
          let e : a - 2 + 2 ≡ a = let q = p.later in omega arith in
          let w : a - 2 < length tree.cliques - 1 = let q = p.later in let r = p.within in omega arith in
          let v : a - 2 < length up = let one = marks.one_less_up in omega (arith, w) in
          read_up ups downs a b (later a b p) ∙ marked_up.each (a - 2) v
          ∙ ap (λ t. get_or up (a - 2) true || (t && is_behind tree (a - 2 + 2) (link_of tree (a - 2 + 2)) clique)) (lt-ltb (a - 2) (length tree.cliques - 1) w)
          ∙ ap (λ n. get_or up (a - 2) true || is_behind tree n (link_of tree n) clique) e
          ∙ ap (λ n. get_or up (a - 2) true || is_behind tree a n clique) p.link_is
          ∙ ap (λ t. t || is_behind tree a b clique) (sym (read_up up down a b (later a b p)))
      at (inr p) =
          let e : b - 2 + 2 ≡ b = let q = p.later in omega arith in
          let w : b - 2 < length tree.cliques - 1 = let q = p.later in let r = p.within in omega arith in
          let v : b - 2 < length down = let one = marks.one_less_down in omega (arith, w) in
          read_down ups downs a b (later b a p) ∙ marked_down.each (b - 2) v
          ∙ ap (λ t. get_or down (b - 2) true || (t && is_behind tree (link_of tree (b - 2 + 2)) (b - 2 + 2) clique)) (lt-ltb (b - 2) (length tree.cliques - 1) w)
          ∙ ap (λ n. get_or down (b - 2) true || is_behind tree (link_of tree n) n clique) e
          ∙ ap (λ n. get_or down (b - 2) true || is_behind tree n b clique) p.link_is
          ∙ ap (λ t. t || is_behind tree a b clique) (sym (read_down up down a b (later b a p)))

  pub marks_kept : AreMarks (length tree.cliques) ups downs
  marks_kept = record { one_less_up = omega (arith, marked_up.long, marks.one_less_up); one_less_down = omega (arith, marked_down.long, marks.one_less_down) }

-- what leads towards the clique stays current
module _ (tree : GivenTree) (links : given.AreLinked tree) (clique : ℕ) (up down ups downs : List Bool)
    (away : (a b : ℕ) → are_linked tree a b ≡ true → marked_stale ups downs a b ≡ (marked_stale up down a b || is_behind tree a b clique)) where
  still_current : AreCurrentTowards tree up down clique → AreCurrentTowards tree ups downs clique
  still_current h = record { clique_is = h.clique_is; current = λ a b l t. away a b l ∙ ap (λ x. x || is_behind tree a b clique) (h.current a b l t) ∙ ahead a b l t }
    where
      ahead : (a b : ℕ) → are_linked tree a b ≡ true → leads_towards tree clique a b ≡ true → is_behind tree a b clique ≡ false
      ahead a b l t =
          let p = and_parts (not (eqb a clique)) (eqb (next_on_way tree a clique) b) t in
          let n = hops.ends (link_of tree) (length tree.cliques) a b links.earlier (hops.are_linked (link_of tree) (length tree.cliques) a b l) in
          ap (λ x. is_behind tree a x clique) (sym (eqb-true (next_on_way tree a clique) b p.1))
          ∙ (stale.leads_towards (link_of tree) (length tree.cliques) links.earlier clique a h.clique_is.first h.clique_is.last n.0 n.1
          (λ e. both_ways (eqb a clique) (not-true (eqb a clique) p.0) (eq-eqb a clique e))).1

  pub kept_current : (collected : Option ℕ) → ForSome collected (AreCurrentTowards tree up down) → (x : ℕ) → kept_in collected clique ≡ Some x → AreCurrentTowards tree ups downs x
  kept_current None h x e = absurd cc
  kept_current (Some c) h x e = at (cases_eq c clique)
    where
      at : ((c ≡ clique) ⊎ (c ≡ clique → ⊥)) → AreCurrentTowards tree ups downs x
      at (inl f) =
          let g : Some c ≡ Some x = sym (ap (λ t. cond t (Some c) None) (eq-eqb c clique f)) ∙ e in
          let i : clique ≡ x = cc in
          subst (AreCurrentTowards tree ups downs) i (still_current (subst (AreCurrentTowards tree up down) f (h c refl)))
      at (inr d) =
          let g : None ≡ Some x = sym (ap (λ t. cond t (Some c) None) (ne_eqb c clique d)) ∙ e in
          absurd cc
