-- The order in which messages are made: what each message needs is made before it.
use Rattle.std.proofs.Common.{◌≡◌, ◌≢◌, ℕ, suc, zero, ◌+◌, ◌-◌, ◌<◌, ◌≤◌, Bool, true, false, cond, not, ◌&&◌, ◌⊎◌, inl, inr, eqb, ltb, leb, length, refl, sym, ap, subst, ◌∙◌, arith, eq-eqb, ne_eqb}
use Rattle.std.proofs.lemmas.Bool.{cases_eq, cases_lt, cases_Bool, both_ways, and_parts, and_from, lt-ltb, ltb-true, le-leb, lt-leb, not_from_false}
use Rattle.mk_sums.specs.Trees.{Links, linked, linked_but, behind}
use Rattle.mk_sums.proofs.Hops.{AreLinked, are_linked, linked_from, linked_back, ends, hop_linked, hop_near, behind_from, behind_parts}
use Rattle.mk_sums.proofs.Stale.{leads_towards, collects_in_order}
use Rattle.mk_tree.specs.Given.{GivenTree, link_of}
use Rattle.mk_tree.specs.Given as given
use Rattle.mk_plan.specs.Shapes.{IsClique, next_on_way}
use Rattle.mk_plan.specs.Shapes as shapes
use Rattle.mk_propagate.specs.inner.Passes.{leads_up, leads_down, count_of}

-- of two linked cliques the earlier is the later's link
lower : (link : ℕ → ℕ) (m a b : ℕ) → Links link m → AreLinked link m a b → a < b → link b ≡ a
lower link m a b links (inl p) l = let q = links a p.later p.within in absurd (omega (arith, q.1, p.link_is))
lower link m a b links (inr p) l = p.link_is

different : (i j : ℕ) → not (eqb i j) ≡ true → i ≡ j → ⊥
different i j h e = both_ways (not (eqb i j)) (ap not (eq-eqb i j e)) h

not_both_true : (b : Bool) → (b ≡ true → ⊥) → b ≡ false
not_both_true true f = absurd (f refl)
not_both_true false f = refl

module _ (tree : GivenTree) (tied : given.AreLinked tree) (root : ℕ) (at_root : IsClique tree root) where
  abbrev pub next : ℕ → ℕ
  next k = next_on_way tree k root

  module _ (k : ℕ) (is : IsClique tree k) (d : k ≢ root) where
    tied_to : AreLinked (link_of tree) (length tree.cliques) (next k) k
    tied_to = hop_linked (link_of tree) (length tree.cliques) k root tied.earlier is.first is.last at_root.first at_root.last (λ e. d (sym e))

    pub next_is : IsClique tree (next k)
    next_is = let n = ends (link_of tree) (length tree.cliques) (next k) k tied.earlier tied_to in record { first = n.0; last = n.1 }

    pub next_apart : next k ≢ k
    next_apart = let n = ends (link_of tree) (length tree.cliques) (next k) k tied.earlier tied_to in n.4

    pub towards_linked : shapes.are_linked tree k (next k) ≡ true
    towards_linked = linked_from (link_of tree) (length tree.cliques) k (next k) (linked_back (link_of tree) (length tree.cliques) (next k) k tied_to)

    pub away_linked : shapes.are_linked tree (next k) k ≡ true
    away_linked = linked_from (link_of tree) (length tree.cliques) (next k) k tied_to

    -- the way does not turn back
    pub no_return : next k ≢ root → next (next k) ≢ k
    no_return f e =
        let l = leads_towards (link_of tree) (length tree.cliques) tied.earlier root k at_root.first at_root.last is.first is.last d in
        both_ways (behind (link_of tree) (length tree.cliques) k (next k) root) l.1 (behind_from (link_of tree) (length tree.cliques) k (next k) root (λ g. f (sym g)) e)

    pub up_from : next k < k → leads_up tree root k ≡ true
    up_from l = and_from (not (eqb k root)) (ltb (next k) k) (not_from_false (eqb k root) (ne_eqb k root d)) (lt-ltb (next k) k l)

    pub down_from : k < next k → leads_down tree root k ≡ true
    down_from l = and_from (not (eqb k root)) (ltb k (next k)) (not_from_false (eqb k root) (ne_eqb k root d)) (lt-ltb k (next k) l)

    pub up_or_down : (leads_up tree root k ≡ true) ⊎ (leads_down tree root k ≡ true)
    up_or_down = at (cases_lt (next k) k)
      where
        at : ((next k < k) ⊎ (k ≤ next k)) → (leads_up tree root k ≡ true) ⊎ (leads_down tree root k ≡ true)
        at (inl l) = inl (up_from l)
        at (inr l) = let n = next_apart in inr (down_from (omega (arith, l, n)))

  pub up_parts : (k : ℕ) → leads_up tree root k ≡ true → (k ≢ root) × (next k < k)
  up_parts k h = let p = and_parts (not (eqb k root)) (ltb (next k) k) h in (different k root p.0, ltb-true (next k) k p.1)

  pub down_parts : (k : ℕ) → leads_down tree root k ≡ true → (k ≢ root) × (k < next k)
  down_parts k h = let p = and_parts (not (eqb k root)) (ltb k (next k)) h in (different k root p.0, ltb-true k (next k) p.1)

  -- what a message towards the root is made of
  pub record IsInput (k i : ℕ) : Type 0 where
    pub clique_is : IsClique tree i
    pub below : i ≢ root
    pub leads : next i ≡ k
    pub other : i ≢ next k
    pub joined : AreLinked (link_of tree) (length tree.cliques) i k

  pub input : (k : ℕ) → IsClique tree k → k ≢ root → (i : ℕ) → linked_but (link_of tree) (length tree.cliques) k (next k) i ≡ true → IsInput k i
  input k is d i h =
      let o = collects_in_order (link_of tree) (length tree.cliques) tied.earlier root k i at_root.first at_root.last is.first is.last d h in
      let p = and_parts (linked (link_of tree) (length tree.cliques) i k) (not (eqb i (next k))) h in
      let l = are_linked (link_of tree) (length tree.cliques) i k p.0 in
      let n = ends (link_of tree) (length tree.cliques) i k tied.earlier l in
      record { clique_is = record { first = n.0; last = n.1 }; below = o.0; leads = o.1; other = different i (next k) p.1; joined = l }

  -- a message upward is made of those of later cliques
  pub input_up : (k i : ℕ) → IsClique tree k → leads_up tree root k ≡ true → IsInput k i → (k < i) × (leads_up tree root i ≡ true)
  input_up k i is up h = at (cases_lt i k)
    where
      at : ((i < k) ⊎ (k ≤ i)) → (k < i) × (leads_up tree root i ≡ true)
      at (inl l) =
          let u = up_parts k up in
          let e = lower (link_of tree) (length tree.cliques) i k tied.earlier h.joined l in
          let f = lower (link_of tree) (length tree.cliques) (next k) k tied.earlier (tied_to k is u.0) u.1 in
          absurd (h.other (sym e ∙ f))
      at (inr l) =
          let n = next_apart i h.clique_is h.below in
          let m : k < i = omega (arith, l, n, h.leads) in
          (m, up_from i h.clique_is h.below (omega (arith, m, h.leads)))

  -- a message downward is made of those upward, and of those of earlier cliques
  pub input_down : (k i : ℕ) → IsInput k i → (leads_up tree root i ≡ true) ⊎ ((i < k) × (leads_down tree root i ≡ true))
  input_down k i h = at (cases_lt k i)
    where
      at : ((k < i) ⊎ (i ≤ k)) → (leads_up tree root i ≡ true) ⊎ ((i < k) × (leads_down tree root i ≡ true))
      at (inl l) = inl (up_from i h.clique_is h.below (omega (arith, l, h.leads)))
      at (inr l) =
          let n = next_apart i h.clique_is h.below in
          let m : i < k = omega (arith, l, n, h.leads) in
          inr (m, down_from i h.clique_is h.below (omega (arith, m, h.leads)))

  -- a message away from the root is made of messages towards it, and of the one away from it to its sender
  pub away_input : (k : ℕ) → IsClique tree k → k ≢ root → (i : ℕ) → linked_but (link_of tree) (length tree.cliques) (next k) k i ≡ true
      → (IsClique tree i × (i ≢ root) × (next i ≡ next k)) ⊎ ((next k ≢ root) × (i ≡ next (next k)))
  away_input k is d i h = at (cases_eq (next k) root) (cases_eq i (next (next k)))
    where
      l : AreLinked (link_of tree) (length tree.cliques) i (next k)
      l = are_linked (link_of tree) (length tree.cliques) i (next k) (and_parts (linked (link_of tree) (length tree.cliques) i (next k)) (not (eqb i k)) h).0

      clique_is : IsClique tree i
      clique_is = let n = ends (link_of tree) (length tree.cliques) i (next k) tied.earlier l in record { first = n.0; last = n.1 }

      at : ((next k ≡ root) ⊎ (next k ≡ root → ⊥)) → ((i ≡ next (next k)) ⊎ (i ≡ next (next k) → ⊥))
          → (IsClique tree i × (i ≢ root) × (next i ≡ next k)) ⊎ ((next k ≢ root) × (i ≡ next (next k)))
      at (inl e) _ =
          let n = ends (link_of tree) (length tree.cliques) i (next k) tied.earlier l in
          let back = linked_back (link_of tree) (length tree.cliques) i (next k) l in
          let near = hop_near (link_of tree) (length tree.cliques) root i tied.earlier (subst (λ (r : ℕ). AreLinked (link_of tree) (length tree.cliques) r i) e back) in
          inl (clique_is, λ f. n.4 (f ∙ sym e), near ∙ sym e)
      at (inr f) (inl e) = inr (f, e)
      at (inr f) (inr g) =
          let but = and_from (linked (link_of tree) (length tree.cliques) i (next k)) (not (eqb i (next (next k)))) (linked_from (link_of tree)
          (length tree.cliques) i (next k) l) (not_from_false (eqb i (next (next k))) (ne_eqb i (next (next k)) g)) in
          let o = input (next k) (next_is k is d) f i but in
          inl (o.clique_is, o.below, o.leads)

  -- away and upward comes after what is away and upward to a later clique
  pub away_down : (k : ℕ) → IsClique tree k → leads_down tree root k ≡ true → next k ≢ root → (k < next k) × (leads_down tree root (next k) ≡ true)
  away_down k is down f = at (up_or_down (next k) (next_is k is p.0) f)
    where
      p : (k ≢ root) × (k < next k)
      p = down_parts k down

      at : ((leads_up tree root (next k) ≡ true) ⊎ (leads_down tree root (next k) ≡ true)) → (k < next k) × (leads_down tree root (next k) ≡ true)
      at (inl u) =
          let q = up_parts (next k) u in
          let e = lower (link_of tree) (length tree.cliques) k (next k) tied.earlier (linked_back (link_of tree) (length tree.cliques) (next k) k (tied_to k is p.0)) p.1 in
          let g = lower (link_of tree) (length tree.cliques) (next (next k)) (next k) tied.earlier (tied_to (next k) (next_is k is p.0) f) q.1 in
          absurd (no_return k is p.0 f (sym g ∙ e))
      at (inr v) = (p.1, v)

  -- away and downward comes after all upward, and what is downward to an earlier clique
  pub away_up : (k : ℕ) → IsClique tree k → leads_up tree root k ≡ true → next k ≢ root → (leads_down tree root (next k) ≡ true) ⊎ ((next k < k) × (leads_up tree root (next k) ≡ true))
  away_up k is up f = at (up_or_down (next k) (next_is k is p.0) f)
    where
      p : (k ≢ root) × (next k < k)
      p = up_parts k up

      at : ((leads_up tree root (next k) ≡ true) ⊎ (leads_down tree root (next k) ≡ true)) → (leads_down tree root (next k) ≡ true) ⊎ ((next k < k) × (leads_up tree root (next k) ≡ true))
      at (inl u) = inr (p.1, u)
      at (inr v) = inl v

  -- each link leads one way or the other: but for the root, each clique sends one message
  one_each : (n : ℕ) → n ≤ length tree.cliques → count_of (leads_up tree root) n + count_of (leads_down tree root) n + cond (leb root n) 1 0 ≡ n
  one_each zero h =
      let l = at_root.first in
      let w : cond {A = ℕ} (leb root 0) 1 0 ≡ 0 = ap (λ (b : Bool). cond {A = ℕ} b 1 0) (lt-leb root 0 l) in
      omega (arith, w)
  one_each (suc n) h = at (cases_eq (suc n) root) (one_each n (omega arith))
    where
      up : Bool
      up = leads_up tree root (suc n)

      down : Bool
      down = leads_down tree root (suc n)

      at : ((suc n ≡ root) ⊎ (suc n ≡ root → ⊥)) → count_of (leads_up tree root) n + count_of (leads_down tree root) n + cond (leb root n) 1 0 ≡ n
          → count_of (leads_up tree root) n + cond up 1 0 + (count_of (leads_down tree root) n + cond down 1 0) + cond (leb root (suc n)) 1 0 ≡ suc n
      at (inl e) ih =
          let u : cond {A = ℕ} up 1 0 ≡ 0 = ap (λ (b : Bool). cond {A = ℕ} (not b && ltb (next (suc n)) (suc n)) 1 0) (eq-eqb (suc n) root e) in
          let v : cond {A = ℕ} down 1 0 ≡ 0 = ap (λ (b : Bool). cond {A = ℕ} (not b && ltb (suc n) (next (suc n))) 1 0) (eq-eqb (suc n) root e) in
          let w : cond {A = ℕ} (leb root (suc n)) 1 0 ≡ 1 = ap (λ (b : Bool). cond {A = ℕ} b 1 0) (le-leb root (suc n) (omega (arith, e))) in
          let x : cond {A = ℕ} (leb root n) 1 0 ≡ 0 = ap (λ (b : Bool). cond {A = ℕ} b 1 0) (lt-leb root n (omega (arith, e))) in
          omega (arith, ih, u, v, w, x)
      at (inr d) ih = from (cases_lt root (suc n)) (up_or_down (suc n) (record { first = omega arith; last = h }) d)
        where
          same : ((root < suc n) ⊎ (suc n ≤ root)) → cond {A = ℕ} (leb root (suc n)) 1 0 ≡ cond {A = ℕ} (leb root n) 1 0
          same (inl l) = ap (λ (b : Bool). cond {A = ℕ} b 1 0) (le-leb root (suc n) (omega arith) ∙ sym (le-leb root n (omega arith)))
          same (inr l) = ap (λ (b : Bool). cond {A = ℕ} b 1 0) (lt-leb root (suc n) (omega (arith, d)) ∙ sym (lt-leb root n (omega (arith, d))))

          from : ((root < suc n) ⊎ (suc n ≤ root)) → ((up ≡ true) ⊎ (down ≡ true))
              → count_of (leads_up tree root) n + cond up 1 0 + (count_of (leads_down tree root) n + cond down 1 0) + cond (leb root (suc n)) 1 0 ≡ suc n
          from c (inl u) =
              let not_down : down ≡ false = not_both_true down (λ v. let a = up_parts (suc n) u in let b = down_parts (suc n) v in omega (arith, a.1, b.1)) in
              let x : cond {A = ℕ} up 1 0 ≡ 1 = ap (λ (b : Bool). cond {A = ℕ} b 1 0) u in
              let y : cond {A = ℕ} down 1 0 ≡ 0 = ap (λ (b : Bool). cond {A = ℕ} b 1 0) not_down in
              omega (arith, ih, x, y, same c)
          from c (inr v) =
              let not_up : up ≡ false = not_both_true up (λ u. let a = up_parts (suc n) u in let b = down_parts (suc n) v in omega (arith, a.1, b.1)) in
              let x : cond {A = ℕ} up 1 0 ≡ 0 = ap (λ (b : Bool). cond {A = ℕ} b 1 0) not_up in
              let y : cond {A = ℕ} down 1 0 ≡ 1 = ap (λ (b : Bool). cond {A = ℕ} b 1 0) v in
              omega (arith, ih, x, y, same c)

  pub one_less : count_of (leads_up tree root) (length tree.cliques) + count_of (leads_down tree root) (length tree.cliques) ≡ length tree.cliques - 1
  one_less =
      let same : length tree.cliques ≤ length tree.cliques = omega arith in
      let e = one_each (length tree.cliques) same in
      let w : cond {A = ℕ} (leb root (length tree.cliques)) 1 0 ≡ 1 = ap (λ (b : Bool). cond {A = ℕ} b 1 0) (le-leb root (length tree.cliques) at_root.last) in
      omega (arith, e, w)

-- one clique more of a count
pub count_more : (set : ℕ → Bool) (k : ℕ) → set (k + 1) ≡ true → count_of set (k + 1) ≡ count_of set k + 1
count_more set k h = let e : k + 1 ≡ suc k = omega arith in ap (count_of set) e ∙ ap (λ (b : Bool). count_of set k + cond b 1 0) (ap set (sym e) ∙ h)

pub count_same : (set : ℕ → Bool) (k : ℕ) → set (k + 1) ≡ false → count_of set (k + 1) ≡ count_of set k
count_same set k h =
    let e : k + 1 ≡ suc k = omega arith in
    let z : count_of set k + 0 ≡ count_of set k = omega arith in
    ap (count_of set) e ∙ ap (λ (b : Bool). count_of set k + cond b 1 0) (ap set (sym e) ∙ h) ∙ z

-- each message leads towards the root, or away from it
module _ (tree : GivenTree) (tied : given.AreLinked tree) (root : ℕ) (at_root : IsClique tree root) where
  pub one_way : (a b : ℕ) → shapes.are_linked tree a b ≡ true
      → (IsClique tree a × (a ≢ root) × (b ≡ next_on_way tree a root)) ⊎ (IsClique tree b × (b ≢ root) × (a ≡ next_on_way tree b root))
  one_way a b h = at (cases_eq a root) (cases_Bool (behind (link_of tree) (length tree.cliques) a b root))
    where
      l : AreLinked (link_of tree) (length tree.cliques) a b
      l = are_linked (link_of tree) (length tree.cliques) a b h

      of_a : IsClique tree a
      of_a = let n = ends (link_of tree) (length tree.cliques) a b tied.earlier l in record { first = n.0; last = n.1 }

      of_b : IsClique tree b
      of_b = let n = ends (link_of tree) (length tree.cliques) a b tied.earlier l in record { first = n.2; last = n.3 }

      apart : a ≢ b
      apart = let n = ends (link_of tree) (length tree.cliques) a b tied.earlier l in n.4

      at : ((a ≡ root) ⊎ (a ≡ root → ⊥)) → ((behind (link_of tree) (length tree.cliques) a b root ≡ true) ⊎ (behind (link_of tree) (length tree.cliques) a b root ≡ false))
          → (IsClique tree a × (a ≢ root) × (b ≡ next_on_way tree a root)) ⊎ (IsClique tree b × (b ≢ root) × (a ≡ next_on_way tree b root))
      at (inl e) _ =
          let near = hop_near (link_of tree) (length tree.cliques) root b tied.earlier (subst (λ (r : ℕ). AreLinked (link_of tree) (length tree.cliques) r b) e l) in
          inr (of_b, λ f. apart (e ∙ sym f), e ∙ sym near)
      at (inr d) (inl t) = let q = behind_parts (link_of tree) (length tree.cliques) a b root t in inr (of_b, λ f. q.0 (sym f), sym q.1)
      at (inr d) (inr f) =
          let q = leads_towards (link_of tree) (length tree.cliques) tied.earlier root a at_root.first at_root.last of_a.first of_a.last d in
          inl (of_a, d, q.2 b h f)
