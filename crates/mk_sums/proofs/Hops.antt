-- Ways through a tree: the first clique on a way, and the sides of a link. Each induction takes the last clique away, which is a leaf.
use Rattle.std.proofs.Common.{◌≡◌, ℕ, suc, zero, ◌<◌, ◌≤◌, Bool, true, false, not, ◌&&◌, ◌⊎◌, inl, inr, eqb, ltb, leb, refl, sym, ap, ◌∙◌, arith, eq-eqb, ne_eqb}
use Rattle.std.proofs.lemmas.Bool.{cases_eq, both_ways, eqb-true, ltb-true, leb-true, lt-ltb, le-leb, and_parts, and_from, or_cases, or_left, or_right}
use Rattle.mk_sums.specs.Trees.{Links, linked, hop, behind}

-- a clique after the first, with the earlier one that it is linked to
pub record IsChild (link : ℕ → ℕ) (m a b : ℕ) : Type 0 where
  pub later : 1 < a
  pub within : a ≤ m
  pub link_is : link a ≡ b

abbrev pub AreLinked : (ℕ → ℕ) → ℕ → ℕ → ℕ → Type 0
AreLinked link m a b = IsChild link m a b ⊎ IsChild link m b a

child_test : (link : ℕ → ℕ) (m a b : ℕ) → (ltb 1 a && leb a m && eqb (link a) b) ≡ true → IsChild link m a b
child_test link m a b h =
    let p = and_parts (ltb 1 a && leb a m) (eqb (link a) b) h in let q = and_parts (ltb 1 a) (leb a m) p.0 in
    record { later = ltb-true 1 a q.0; within = leb-true a m q.1; link_is = eqb-true (link a) b p.1 }

test_child : (link : ℕ → ℕ) (m a b : ℕ) → IsChild link m a b → (ltb 1 a && leb a m && eqb (link a) b) ≡ true
test_child link m a b h = and_from (ltb 1 a && leb a m) (eqb (link a) b) (and_from (ltb 1 a) (leb a m) (lt-ltb 1 a h.later) (le-leb a m h.within)) (eq-eqb (link a) b h.link_is)

pub are_linked : (link : ℕ → ℕ) (m a b : ℕ) → linked link m a b ≡ true → AreLinked link m a b
are_linked link m a b h = at (or_cases _ _ h)
  where
    at : (((ltb 1 a && leb a m && eqb (link a) b) ≡ true) ⊎ ((ltb 1 b && leb b m && eqb (link b) a) ≡ true)) → AreLinked link m a b
    at (inl p) = inl (child_test link m a b p)
    at (inr p) = inr (child_test link m b a p)

pub linked_from : (link : ℕ → ℕ) (m a b : ℕ) → AreLinked link m a b → linked link m a b ≡ true
linked_from link m a b (inl p) = or_left _ _ (test_child link m a b p)
linked_from link m a b (inr p) = or_right _ _ (test_child link m b a p)

pub linked_back : (link : ℕ → ℕ) (m a b : ℕ) → AreLinked link m a b → AreLinked link m b a
linked_back link m a b (inl p) = inr p
linked_back link m a b (inr p) = inl p

-- a link of the tree with one clique more
data Kinds (link : ℕ → ℕ) (k a b : ℕ) : Type 0 where
  leaf : a ≡ suc k → b ≡ link (suc k) → Kinds link k a b
  to_leaf : b ≡ suc k → a ≡ link (suc k) → Kinds link k a b
  inner : a ≤ k → b ≤ k → AreLinked link k a b → Kinds link k a b

Links-less : (link : ℕ → ℕ) (k : ℕ) → Links link (suc k) → Links link k
Links-less link k h i p q = h i p (omega arith)

kinds : (link : ℕ → ℕ) (k a b : ℕ) → Links link (suc k) → AreLinked link (suc k) a b → Kinds link k a b
kinds link k a b links (inl p) = at (cases_eq a (suc k))
  where
    at : ((a ≡ suc k) ⊎ (a ≡ suc k → ⊥)) → Kinds link k a b
    at (inl e) = leaf e (sym p.link_is ∙ ap link e)
    at (inr d) = let l = links a p.later p.within in let q : b ≤ k = omega (arith, l.1, p.link_is, p.within, d) in inner (omega (arith, p.within, d)) q (inl (record { later = p.later; within = omega (arith, p.within, d); link_is = p.link_is }))
kinds link k a b links (inr p) = at (cases_eq b (suc k))
  where
    at : ((b ≡ suc k) ⊎ (b ≡ suc k → ⊥)) → Kinds link k a b
    at (inl e) = to_leaf e (sym p.link_is ∙ ap link e)
    at (inr d) = let l = links b p.later p.within in let q : a ≤ k = omega (arith, l.1, p.link_is, p.within, d) in inner q (omega (arith, p.within, d)) (inr (record { later = p.later; within = omega (arith, p.within, d); link_is = p.link_is }))

linked_more : (link : ℕ → ℕ) (k a b : ℕ) → AreLinked link k a b → AreLinked link (suc k) a b
linked_more link k a b (inl p) = inl (record { later = p.later; within = omega (arith, p.within); link_is = p.link_is })
linked_more link k a b (inr p) = inr (record { later = p.later; within = omega (arith, p.within); link_is = p.link_is })

abbrev pub AreEnds : ℕ → ℕ → ℕ → Type 0
AreEnds m a b = (1 ≤ a) × (a ≤ m) × (1 ≤ b) × (b ≤ m) × (a ≡ b → ⊥)

-- both ends are cliques of the tree
pub ends : (link : ℕ → ℕ) (m a b : ℕ) → Links link m → AreLinked link m a b → AreEnds m a b
ends link m a b links (inl p) = let l = links a p.later p.within in (omega (arith, p.later), p.within, omega (arith, l.0, p.link_is), omega (arith, l.1, p.link_is, p.within), λ e. omega (arith, l.1, p.link_is))
ends link m a b links (inr p) = let l = links b p.later p.within in (omega (arith, l.0, p.link_is), omega (arith, l.1, p.link_is, p.within), omega (arith, p.later), p.within, λ e. omega (arith, l.1, p.link_is))

-- hop, case by case
hop_leaf_near : (link : ℕ → ℕ) (k a j : ℕ) → j ≡ suc k → a ≡ link (suc k) → hop link (suc k) a j ≡ suc k
hop_leaf_near link k a j e f = rw (eq-eqb j (suc k) e, eq-eqb a (link (suc k)) f)

hop_leaf_far : (link : ℕ → ℕ) (k a j : ℕ) → j ≡ suc k → (a ≡ link (suc k) → ⊥) → hop link (suc k) a j ≡ hop link k a (link (suc k))
hop_leaf_far link k a j e f = rw (eq-eqb j (suc k) e, ne_eqb a (link (suc k)) f)

hop_from_leaf : (link : ℕ → ℕ) (k a j : ℕ) → j ≤ k → a ≡ suc k → hop link (suc k) a j ≡ link (suc k)
hop_from_leaf link k a j e f = let d : j ≡ suc k → ⊥ = λ q. omega arith in rw (ne_eqb j (suc k) d, eq-eqb a (suc k) f)

hop_inner : (link : ℕ → ℕ) (k a j : ℕ) → j ≤ k → a ≤ k → hop link (suc k) a j ≡ hop link k a j
hop_inner link k a j e f = let d : j ≡ suc k → ⊥ = λ q. omega arith in let g : a ≡ suc k → ⊥ = λ q. omega arith in rw (ne_eqb j (suc k) d, ne_eqb a (suc k) g)

-- a clique on the way is linked to where the way begins
pub hop_linked : (link : ℕ → ℕ) (m a j : ℕ) → Links link m → 1 ≤ a → a ≤ m → 1 ≤ j → j ≤ m → (j ≡ a → ⊥) → AreLinked link m (hop link m a j) a
hop_linked link zero a j links p q r s d = absurd (omega arith)
hop_linked link (suc k) a j links p q r s d = at (cases_eq j (suc k)) (cases_eq a (link (suc k))) (cases_eq a (suc k)) (hop_linked link k a (link (suc k)) (Links-less link k links) p) (hop_linked link k a j (Links-less link k links) p)
  where
    at : ((j ≡ suc k) ⊎ (j ≡ suc k → ⊥)) → ((a ≡ link (suc k)) ⊎ (a ≡ link (suc k) → ⊥)) → ((a ≡ suc k) ⊎ (a ≡ suc k → ⊥))
        → (a ≤ k → 1 ≤ link (suc k) → link (suc k) ≤ k → (link (suc k) ≡ a → ⊥) → AreLinked link k (hop link k a (link (suc k))) a)
        → (a ≤ k → 1 ≤ j → j ≤ k → (j ≡ a → ⊥) → AreLinked link k (hop link k a j) a)
        → AreLinked link (suc k) (hop link (suc k) a j) a
    at (inl e) (inl f) _ far near =
        rw (hop_leaf_near link k a j e f) (inl (record { later = omega arith; within = omega arith; link_is = sym f }))
    at (inl e) (inr f) _ far near =
        let u : a ≤ k = omega arith in
        let l = links (suc k) (omega arith) (omega arith) in
        let t : 1 ≤ link (suc k) = l.0 in
        let v : link (suc k) ≤ k = omega (arith, l.1) in
        rw (hop_leaf_far link k a j e f) (linked_more link k (hop link k a (link (suc k))) a (far u t v (λ g. f (sym g))))
    at (inr e) _ (inl f) far near =
        let u : j ≤ k = omega arith in
        let w : 1 < a = omega arith in
        rw (hop_from_leaf link k a j u f) (inr (record { later = w; within = omega arith; link_is = ap link f }))
    at (inr e) _ (inr f) far near =
        let u : j ≤ k = omega arith in
        let v : a ≤ k = omega arith in
        rw (hop_inner link k a j u v) (linked_more link k (hop link k a j) a (near v r u d))

pub behind_parts : (link : ℕ → ℕ) (m a b j : ℕ) → behind link m a b j ≡ true → (j ≡ b → ⊥) × (hop link m b j ≡ a)
behind_parts link m a b j h =
    let p = and_parts (not (eqb j b)) (eqb (hop link m b j) a) h in
    (λ e. both_ways (not (eqb j b)) (rw (eq-eqb j b e)) p.0, eqb-true (hop link m b j) a p.1)

pub behind_from : (link : ℕ → ℕ) (m a b j : ℕ) → (j ≡ b → ⊥) → hop link m b j ≡ a → behind link m a b j ≡ true
behind_from link m a b j d e = rw (ne_eqb j b d, eq-eqb (hop link m b j) a e)

pub behind_itself : (link : ℕ → ℕ) (m a b j : ℕ) → j ≡ b → behind link m a b j ≡ false
behind_itself link m a b j e = rw (eq-eqb j b e)

pub behind_other : (link : ℕ → ℕ) (m a b j : ℕ) → (hop link m b j ≡ a → ⊥) → behind link m a b j ≡ false
behind_other link m a b j d = rw (ne_eqb (hop link m b j) a d) (none (not (eqb j b)))
  where
    none : (b : Bool) → (b && false) ≡ false
    none true = refl
    none false = refl

behind_inner : (link : ℕ → ℕ) (k a b j : ℕ) → j ≤ k → b ≤ k → behind link (suc k) a b j ≡ behind link k a b j
behind_inner link k a b j p q = ap (λ h. not (eqb j b) && eqb h a) (hop_inner link k b j p q)

-- a leaf lies where its link lies
behind_leaf : (link : ℕ → ℕ) (k a b j : ℕ) → a ≤ k → b ≤ k → j ≡ suc k → behind link (suc k) a b j ≡ behind link k a b (link (suc k))
behind_leaf link k a b j p q e = at (cases_eq b (link (suc k)))
  where
    at : ((b ≡ link (suc k)) ⊎ (b ≡ link (suc k) → ⊥)) → behind link (suc k) a b j ≡ behind link k a b (link (suc k))
    at (inl f) =
        let d : suc k ≡ a → ⊥ = λ g. omega arith in
        behind_other link (suc k) a b j (λ g. d (sym (hop_leaf_near link k b j e f) ∙ g)) ∙ sym (behind_itself link k a b (link (suc k)) (sym f))
    at (inr f) =
        let d : j ≡ b → ⊥ = λ g. omega arith in
        ap (λ t. not t && eqb (hop link (suc k) b j) a) (ne_eqb j b d)
        ∙ ap (λ h. eqb h a) (hop_leaf_far link k b j e f)
        ∙ ap (λ t. not t && eqb (hop link k b (link (suc k))) a) (sym (ne_eqb (link (suc k)) b (λ g. f (sym g))))

leaf_side : (link : ℕ → ℕ) (k a b j : ℕ) → Links link (suc k) → a ≡ suc k → b ≡ link (suc k) → 1 < suc k → 1 ≤ j → j ≤ suc k → behind link (suc k) a b j ≡ not (behind link (suc k) b a j)
leaf_side link k a b j links e f more p q = at (cases_eq j (suc k)) (cases_eq j b)
  where
    at : ((j ≡ suc k) ⊎ (j ≡ suc k → ⊥)) → ((j ≡ b) ⊎ (j ≡ b → ⊥)) → behind link (suc k) a b j ≡ not (behind link (suc k) b a j)
    at (inl g) _ =
        let l = links (suc k) more (omega arith) in
        let d : j ≡ b → ⊥ = λ h. omega (arith, l.1, f) in
        behind_from link (suc k) a b j d (hop_leaf_near link k b j g f ∙ sym e) ∙ sym (ap not (behind_itself link (suc k) b a j (g ∙ sym e)))
    at (inr g) (inl i) =
        let u : j ≤ k = omega arith in
        let d : j ≡ a → ⊥ = λ h. omega arith in
        behind_itself link (suc k) a b j i ∙ sym (ap not (behind_from link (suc k) b a j d (hop_from_leaf link k a j u e ∙ sym f)))
    at (inr g) (inr i) =
        let l = links (suc k) more (omega arith) in
        let u : j ≤ k = omega arith in
        let v : b ≤ k = omega (arith, l.1, f) in
        let w : 1 ≤ b = omega (arith, l.0, f) in
        let n = ends link k (hop link k b j) b (Links-less link k links) (hop_linked link k b j (Links-less link k links) w v p u i) in
        let x : hop link k b j ≤ k = n.1 in
        let y : hop link k b j ≡ a → ⊥ = λ h. omega arith in
        let d : j ≡ a → ⊥ = λ h. omega arith in
        behind_other link (suc k) a b j (λ h. y (sym (hop_inner link k b j u v) ∙ h)) ∙ sym (ap not (behind_from link (suc k) b a j d (hop_from_leaf link k a j u e ∙ sym f)))

not-not : (b : Bool) → not (not b) ≡ b
not-not true = refl
not-not false = refl

-- a clique lies on exactly one side of a link
pub side : (link : ℕ → ℕ) (m a b j : ℕ) → Links link m → AreLinked link m a b → 1 ≤ j → j ≤ m → behind link m a b j ≡ not (behind link m b a j)
side link zero a b j links h p q = absurd (omega arith)
side link (suc k) a b j links h p q = at (kinds link k a b links h) (cases_eq j (suc k)) (λ i g. side link k a b i (Links-less link k links) g)
  where
    many : 1 < suc k
    many = let n = ends link (suc k) a b links h in let d = n.4 in omega (arith, n.0, n.1, n.2, n.3, d)

    at : Kinds link k a b → ((j ≡ suc k) ⊎ (j ≡ suc k → ⊥)) → ((i : ℕ) → AreLinked link k a b → 1 ≤ i → i ≤ k → behind link k a b i ≡ not (behind link k b a i)) → behind link (suc k) a b j ≡ not (behind link (suc k) b a j)
    at (leaf e f) _ ih = leaf_side link k a b j links e f many p q
    at (to_leaf e f) _ ih = sym (not-not (behind link (suc k) a b j)) ∙ ap not (sym (leaf_side link k b a j links e f many p q))
    at (inner x y g) (inl e) ih =
        let l = links (suc k) many (omega arith) in
        behind_leaf link k a b j x y e ∙ ih (link (suc k)) g l.0 (omega (arith, l.1)) ∙ sym (ap not (behind_leaf link k b a j y x e))
    at (inner x y g) (inr e) ih =
        let u : j ≤ k = omega arith in
        behind_inner link k a b j u y ∙ ih j g p u ∙ sym (ap not (behind_inner link k b a j u x))

-- two linked cliques are reached the same way from elsewhere
pub hop_step : (link : ℕ → ℕ) (m a i j : ℕ) → Links link m → AreLinked link m i j → 1 ≤ a → a ≤ m → (a ≡ i → ⊥) → (a ≡ j → ⊥) → hop link m a i ≡ hop link m a j
hop_step link zero a i j links h p q d f = absurd (omega arith)
hop_step link (suc k) a i j links h p q d f = at (kinds link k i j links h) (cases_eq a (suc k)) (λ g u. hop_step link k a i j (Links-less link k links) g p u d f)
  where
    n : AreEnds (suc k) i j
    n = ends link (suc k) i j links h

    at : Kinds link k i j → ((a ≡ suc k) ⊎ (a ≡ suc k → ⊥)) → (AreLinked link k i j → a ≤ k → hop link k a i ≡ hop link k a j) → hop link (suc k) a i ≡ hop link (suc k) a j
    at (leaf e g) _ ih =
        let u : a ≤ k = omega arith in
        let v : j ≤ k = omega (arith, n.3, n.4) in
        hop_leaf_far link k a i e (λ t. f (t ∙ sym g)) ∙ ap (hop link k a) (sym g) ∙ sym (hop_inner link k a j v u)
    at (to_leaf e g) _ ih =
        let u : a ≤ k = omega arith in
        let v : i ≤ k = omega (arith, n.1, n.4) in
        hop_inner link k a i v u ∙ ap (hop link k a) g ∙ sym (hop_leaf_far link k a j e (λ t. d (t ∙ sym g)))
    at (inner x y g) (inl e) ih = hop_from_leaf link k a i x e ∙ sym (hop_from_leaf link k a j y e)
    at (inner x y g) (inr e) ih =
        let u : a ≤ k = omega arith in
        hop_inner link k a i x u ∙ ih g u ∙ sym (hop_inner link k a j y u)

-- a neighbour is reached at once
pub hop_near : (link : ℕ → ℕ) (m c a : ℕ) → Links link m → AreLinked link m c a → hop link m a c ≡ c
hop_near link zero c a links h = let n = ends link zero c a links h in absurd (omega (arith, n.0, n.1))
hop_near link (suc k) c a links h = at (kinds link k c a links h) (λ g. hop_near link k c a (Links-less link k links) g)
  where
    n : AreEnds (suc k) c a
    n = ends link (suc k) c a links h

    at : Kinds link k c a → (AreLinked link k c a → hop link k a c ≡ c) → hop link (suc k) a c ≡ c
    at (leaf e f) ih = hop_leaf_near link k a c e f ∙ sym e
    at (to_leaf e f) ih = let u : c ≤ k = omega (arith, n.1, n.4) in hop_from_leaf link k a c u e ∙ sym f
    at (inner x y g) ih = hop_inner link k a c x y ∙ ih g

-- to an earlier clique the way goes up
pub hop_up : (link : ℕ → ℕ) (m k j : ℕ) → j < k → k ≤ m → hop link m k j ≡ link k
hop_up link zero k j p q = absurd (omega arith)
hop_up link (suc i) k j p q = at (cases_eq k (suc i)) (hop_up link i k j p)
  where
    at : ((k ≡ suc i) ⊎ (k ≡ suc i → ⊥)) → (k ≤ i → hop link i k j ≡ link k) → hop link (suc i) k j ≡ link k
    at (inl e) ih = let u : j ≤ i = omega arith in hop_from_leaf link i k j u e ∙ sym (ap link e)
    at (inr d) ih = let u : j ≤ i = omega arith in let v : k ≤ i = omega arith in hop_inner link i k j u v ∙ ih v
