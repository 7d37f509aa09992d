-- The law of messages: the cliques behind the neighbours of a clique are apart, and share with it alone.
use Rattle.std.proofs.Common.{◌≡◌, ℕ, suc, zero, ◌*◌, ◌<◌, ◌≤◌, Bool, true, false, cond, not, ◌&&◌, ◌||◌, ◌⊎◌, inl, inr, eqb, leb, List, refl, sym, ap, ◌∙◌, arith, mul-one, mul_assoc, eq-eqb, ne_eqb}
use Rattle.std.proofs.Math.Path.{fun_ext}
use Rattle.std.proofs.lemmas.Bool.{cases_eq, cases_Bool, both_ways, and_parts, leb-true, le-leb, lt-leb, eqb-true, false_from_ne_true}
use Rattle.mk_states.specs.Lawful.{Lawful}
use Rattle.mk_sums.specs.Sums.{over, Within}
use Rattle.mk_sums.specs.Trees.{times_of, held, linked, hop, behind, IsTree, right_message, linked_to, linked_but, joint_at, Covers}
use Rattle.mk_sums.proofs.Sums.{over-times, over-union, side_split, over_agree, over_nothing, Blind_within}
use Rattle.mk_sums.proofs.Sets.{held_agree, held_none, held_union, held_one, times_agree, times_none, times_union, times_one, times_within}
use Rattle.mk_sums.proofs.Hops.{AreLinked, are_linked, linked_from, ends, hop_linked, behind_itself, side}
use Rattle.mk_sums.proofs.Sides.{holder, held_across}

-- the cliques other than a whose ways from a begin with a clique of the set
abbrev pub away : (ℕ → ℕ) → ℕ → ℕ → (ℕ → Bool) → ℕ → Bool
away link m a P j = not (eqb j a) && P (hop link m a j)

-- the numbers of a set that are at most k
abbrev pub up_to : (ℕ → Bool) → ℕ → ℕ → Bool
up_to P k h = P h && leb h k

up_to_none : (P : ℕ → Bool) (h : ℕ) → (P h ≡ true → 1 ≤ h) → up_to P 0 h ≡ false
up_to_none P h k = at (cases_Bool (P h))
  where
    at : ((P h ≡ true) ⊎ (P h ≡ false)) → up_to P 0 h ≡ false
    at (inl e) = let p : 0 < h = omega (arith, k e) in rw (e, lt-leb h 0 p)
    at (inr e) = rw e

leb_more : (h k : ℕ) → (h ≡ suc k → ⊥) → leb h (suc k) ≡ leb h k
leb_more h k d = at (cases_Bool (leb h k))
  where
    at : ((leb h k ≡ true) ⊎ (leb h k ≡ false)) → leb h (suc k) ≡ leb h k
    at (inl e) = let p : h ≤ suc k = omega (arith, leb-true h k e) in le-leb h (suc k) p ∙ sym e
    at (inr e) = false_from_ne_true (leb h (suc k)) (λ p. let q : h ≤ k = omega (arith, leb-true h (suc k) p, d) in both_ways (leb h k) e (le-leb h k q)) ∙ sym e

up_to_same : (P : ℕ → Bool) (k h : ℕ) → P (suc k) ≡ false → up_to P (suc k) h ≡ up_to P k h
up_to_same P k h e = at (cases_eq h (suc k))
  where
    at : ((h ≡ suc k) ⊎ (h ≡ suc k → ⊥)) → up_to P (suc k) h ≡ up_to P k h
    at (inl f) = let g : P h ≡ false = ap P f ∙ e in rw g
    at (inr d) = ap (λ b. P h && b) (leb_more h k d)

up_to_more : (P : ℕ → Bool) (k h : ℕ) → P (suc k) ≡ true → up_to P (suc k) h ≡ (up_to P k h || eqb h (suc k))
up_to_more P k h e = at (cases_eq h (suc k))
  where
    or_true : (b : Bool) → true ≡ (b || true)
    or_true true = refl
    or_true false = refl

    or_false : (b : Bool) → b ≡ (b || false)
    or_false true = refl
    or_false false = refl

    at : ((h ≡ suc k) ⊎ (h ≡ suc k → ⊥)) → up_to P (suc k) h ≡ (up_to P k h || eqb h (suc k))
    at (inl f) = let g : P h ≡ true = ap P f ∙ e in let p : h ≤ suc k = omega arith in ap (λ b. b && leb h (suc k)) g ∙ le-leb h (suc k) p ∙ or_true (up_to P k h) ∙ ap (λ b. up_to P k h || b) (sym (eq-eqb h (suc k) f))
    at (inr d) = ap (λ b. P h && b) (leb_more h k d) ∙ or_false (up_to P k h) ∙ ap (λ b. up_to P k h || b) (sym (ne_eqb h (suc k) d))

up_to_apart : (P : ℕ → Bool) (k h : ℕ) → up_to P k h ≡ true → eqb h (suc k) ≡ false
up_to_apart P k h e = let p = and_parts (P h) (leb h k) e in let q : h ≡ suc k → ⊥ = λ f. omega (arith, leb-true h k p.1, f) in ne_eqb h (suc k) q

and_or : (a b c : Bool) → (a && (b || c)) ≡ ((a && b) || (a && c))
and_or true b c = refl
and_or false b c = refl

and_false : (a b : Bool) → b ≡ false → (a && b) ≡ false
and_false true b e = e
and_false false b e = refl

-- u, v: held behind earlier neighbours, and behind the next one c; p, q: held by c and by the clique itself
parted : (u v p q : Bool) → (v ≡ true → q ≡ true → p ≡ true) → ((u && not q) || (v && not (p && q))) ≡ ((u || v) && not q)
parted true true true true h = refl
parted true true false true h = absurd (both_ways false refl (h refl refl))
parted true true p false h = refl
parted true false p true h = refl
parted true false p false h = refl
parted false true true true h = refl
parted false true true false h = refl
parted false true false true h = absurd (both_ways false refl (h refl refl))
parted false true false false h = refl
parted false false p true h = refl
parted false false p false h = refl

together : (q w k : Bool) → ((q && not k) || (w && not q)) ≡ ((q || w) && not (q && k))
together true true true = refl
together true true false = refl
together true false true = refl
together true false false = refl
together false true k = refl
together false false k = refl

module _ (plus : ℕ → ℕ → ℕ) (size : ℕ → ℕ) (vars : List ℕ) (clique : ℕ → ℕ → Bool) (placed : ℕ → (ℕ → ℕ) → ℕ) (link : ℕ → ℕ) (m : ℕ)
    (law : Lawful plus) (tree : IsTree link m clique placed) (a : ℕ) where
  -- one neighbour more
  next_neighbour : (P : ℕ → Bool) (k : ℕ) (s : ℕ → ℕ) → AreLinked link m (suc k) a → P (suc k) ≡ true
      → over plus size (λ x. held (away link m a (up_to P k)) m clique x && not (clique a x)) vars (times_of (away link m a (up_to P k)) m placed) s * right_message plus size vars clique placed link m (suc k) a s
      ≡ over plus size (λ x. held (away link m a (up_to P (suc k))) m clique x && not (clique a x)) vars (times_of (away link m a (up_to P (suc k))) m placed) s
  next_neighbour P k s l e =
      sym (side_split plus law size A B vars (times_of U m placed) (times_of V m placed) s apart
      (Blind_within B (held U m clique) (times_of U m placed) (times_within placed clique U m tree.fits) not_before)
      (Blind_within A (held V m clique) (times_of V m placed) (times_within placed clique V m tree.fits) not_behind))
      ∙ ap (λ (f : (ℕ → ℕ) → ℕ). over plus size (λ x. A x || B x) vars f s) (fun_ext (λ t. sym (times_union placed U V m t U_not_V)))
      ∙ ap (λ (g : ℕ → Bool). over plus size g vars (times_of (λ j. U j || V j) m placed) s) (fun_ext sets)
      ∙ ap (λ (g : ℕ → Bool). over plus size (λ x. held g m clique x && not (clique a x)) vars (times_of g m placed) s) (fun_ext more)
    where
      c : ℕ
      c = suc k

      U : ℕ → Bool
      U = away link m a (up_to P k)

      V : ℕ → Bool
      V = behind link m (suc k) a

      A : ℕ → Bool
      A x = held U m clique x && not (clique a x)

      B : ℕ → Bool
      B x = held V m clique x && not (clique (suc k) x && clique a x)

      U_not_V : (j : ℕ) → U j ≡ true → V j ≡ false
      U_not_V j h = let p = and_parts (not (eqb j a)) (up_to P k (hop link m a j)) h in and_false (not (eqb j a)) _ (up_to_apart P k (hop link m a j) p.1)

      more : (j : ℕ) → (U j || V j) ≡ away link m a (up_to P (suc k)) j
      more j = sym (and_or (not (eqb j a)) (up_to P k (hop link m a j)) (eqb (hop link m a j) (suc k))) ∙ ap (λ b. not (eqb j a) && b) (sym (up_to_more P k (hop link m a j) e))

      shared : (x : ℕ) → held U m clique x ≡ true → held V m clique x ≡ true → (clique (suc k) x ≡ true) × (clique a x ≡ true)
      shared x p q =
          let o = holder U m clique x p in
          held_across link m clique tree.links tree.running (suc k) a x o.at l q o.first o.last (U_not_V o.at o.inside) o.holds

      at_end : (x : ℕ) → held V m clique x ≡ true → clique a x ≡ true → clique (suc k) x ≡ true
      at_end x p q =
          let n = ends link m (suc k) a tree.links l in
          (held_across link m clique tree.links tree.running (suc k) a x a l p n.2 n.3 (behind_itself link m (suc k) a a refl) q).0

      not_behind : (x : ℕ) → A x ≡ true → held V m clique x ≡ false
      not_behind x h =
          let p = and_parts (held U m clique x) (not (clique a x)) h in
          false_from_ne_true (held V m clique x) (λ q. both_ways (not (clique a x)) (ap not (shared x p.0 q).1) p.1)

      not_before : (x : ℕ) → B x ≡ true → held U m clique x ≡ false
      not_before x h =
          let p = and_parts (held V m clique x) (not (clique (suc k) x && clique a x)) h in
          false_from_ne_true (held U m clique x) (λ q. let r = shared x q p.0 in both_ways (not (clique (suc k) x && clique a x)) (rw (r.0, r.1)) p.1)

      apart : (x : ℕ) → A x ≡ true → B x ≡ false
      apart x h = rw (not_behind x h)

      sets : (x : ℕ) → (A x || B x) ≡ (held (λ j. U j || V j) m clique x && not (clique a x))
      sets x =
          parted (held U m clique x) (held V m clique x) (clique (suc k) x) (clique a x) (at_end x)
          ∙ ap (λ b. b && not (clique a x)) (sym (held_union clique U V m x))

  -- the product of the messages from some neighbours
  pub group_product : (P : ℕ → Bool) → ((h : ℕ) → P h ≡ true → AreLinked link m h a) → (k : ℕ) (s : ℕ → ℕ)
      → times_of P k (λ i. right_message plus size vars clique placed link m i a) s
      ≡ over plus size (λ x. held (away link m a (up_to P k)) m clique x && not (clique a x)) vars (times_of (away link m a (up_to P k)) m placed) s
  group_product P near zero s =
      sym (over_nothing plus law size (λ x. held (away link m a (up_to P 0)) m clique x && not (clique a x)) vars (times_of (away link m a (up_to P 0)) m placed) s
      (λ x. ap (λ b. b && not (clique a x)) (held_none clique (away link m a (up_to P 0)) m x none))
      ∙ times_none placed (away link m a (up_to P 0)) m s none)
    where
      none : (j : ℕ) → away link m a (up_to P 0) j ≡ false
      none j = and_false (not (eqb j a)) _ (up_to_none P (hop link m a j) (λ e. (ends link m (hop link m a j) a tree.links (near (hop link m a j) e)).0))
  group_product P near (suc k) s = at (P (suc k)) refl (group_product P near k s)
    where
      at : (b : Bool) → P (suc k) ≡ b
          → times_of P k (λ i. right_message plus size vars clique placed link m i a) s
          ≡ over plus size (λ x. held (away link m a (up_to P k)) m clique x && not (clique a x)) vars (times_of (away link m a (up_to P k)) m placed) s
          → times_of P k (λ i. right_message plus size vars clique placed link m i a) s * cond (P (suc k)) (right_message plus size vars clique placed link m (suc k) a s) 1
          ≡ over plus size (λ x. held (away link m a (up_to P (suc k))) m clique x && not (clique a x)) vars (times_of (away link m a (up_to P (suc k))) m placed) s
      at true e ih =
          ap (λ b. times_of P k (λ i. right_message plus size vars clique placed link m i a) s * cond b (right_message plus size vars clique placed link m (suc k) a s) 1) e
          ∙ ap (λ n. n * right_message plus size vars clique placed link m (suc k) a s) ih
          ∙ next_neighbour P k s (near (suc k) e) e
      at false e ih =
          ap (λ b. times_of P k (λ i. right_message plus size vars clique placed link m i a) s * cond b (right_message plus size vars clique placed link m (suc k) a s) 1) e
          ∙ mul-one _
          ∙ ih
          ∙ ap (λ (g : ℕ → Bool). over plus size (λ x. held (away link m a g) m clique x && not (clique a x)) vars (times_of (away link m a g) m placed) s) (fun_ext (λ h. sym (up_to_same P k h e)))

  -- what a clique makes of the messages from some neighbours
  pub gathered : (P : ℕ → Bool) → ((h : ℕ) → P h ≡ true → AreLinked link m h a) → (keep : ℕ → Bool) (f : (ℕ → ℕ) → ℕ) → Within (clique a) f → (s : ℕ → ℕ)
      → over plus size (λ x. clique a x && not (keep x)) vars (λ t. f t * times_of P m (λ i. right_message plus size vars clique placed link m i a) t) s
      ≡ over plus size (λ x. (clique a x || held (away link m a (up_to P m)) m clique x) && not (clique a x && keep x)) vars (λ t. f t * times_of (away link m a (up_to P m)) m placed t) s
  gathered P near keep f fits s =
      ap (λ (g : (ℕ → ℕ) → ℕ). over plus size (λ x. clique a x && not (keep x)) vars g s)
      (fun_ext (λ t. ap (λ n. f t * n) (group_product P near m t) ∙ sym (over-times plus law size R vars f (times_of W m placed) t (Blind_within R (clique a) f fits outside))))
      ∙ sym (over-union plus law size (λ x. clique a x && not (keep x)) R vars (λ t. f t * times_of W m placed t) s inside)
      ∙ ap (λ (g : ℕ → Bool). over plus size g vars (λ t. f t * times_of W m placed t) s) (fun_ext (λ x. together (clique a x) (held W m clique x) (keep x)))
    where
      W : ℕ → Bool
      W = away link m a (up_to P m)

      R : ℕ → Bool
      R x = held W m clique x && not (clique a x)

      outside : (x : ℕ) → R x ≡ true → clique a x ≡ false
      outside x h = let p = and_parts (held W m clique x) (not (clique a x)) h in false_from_ne_true (clique a x) (λ q. both_ways (not (clique a x)) (ap not q) p.1)

      inside : (x : ℕ) → (clique a x && not (keep x)) ≡ true → R x ≡ false
      inside x h = let p = and_parts (clique a x) (not (keep x)) h in and_false (held W m clique x) _ (ap not p.0)

  module _ (S W : ℕ → Bool) (first : 1 ≤ a) (last : a ≤ m) (itself : W a ≡ false) (parts : (j : ℕ) → 1 ≤ j → j ≤ m → S j ≡ (eqb j a || W j)) where
    pub held_parts : (x : ℕ) → held S m clique x ≡ (clique a x || held W m clique x)
    held_parts x = held_agree clique S (λ j. eqb j a || W j) m x parts ∙ held_union clique (λ j. eqb j a) W m x ∙ ap (λ b. b || held W m clique x) (held_one clique a m x first last)

    pub times_parts : (t : ℕ → ℕ) → times_of S m placed t ≡ placed a t * times_of W m placed t
    times_parts t =
        times_agree placed S (λ j. eqb j a || W j) m t parts
        ∙ times_union placed (λ j. eqb j a) W m t (λ j e. ap W (eqb-true j a e) ∙ itself)
        ∙ ap (λ n. n * times_of W m placed t) (times_one placed a m t first last)

  away_itself : (P : ℕ → Bool) → away link m a P a ≡ false
  away_itself P = rw (eq-eqb a a refl)

  pub message_law : (b : ℕ) → linked link m a b ≡ true → (s : ℕ → ℕ)
      → right_message plus size vars clique placed link m a b s
      ≡ over plus size (λ x. clique a x && not (clique b x)) vars (λ t. placed a t * times_of (linked_but link m a b) m (λ i. right_message plus size vars clique placed link m i a) t) s
  message_law b h s =
      ap (λ (g : ℕ → Bool). over plus size g vars (times_of (behind link m a b) m placed) s)
      (fun_ext (λ x. ap (λ p. p && not (clique a x && clique b x)) (held_parts (behind link m a b) W n.0 n.1 (away_itself (up_to P m)) parts x)))
      ∙ ap (λ (g : (ℕ → ℕ) → ℕ). over plus size (λ x. (clique a x || held W m clique x) && not (clique a x && clique b x)) vars g s)
      (fun_ext (times_parts (behind link m a b) W n.0 n.1 (away_itself (up_to P m)) parts))
      ∙ sym (gathered P (λ i p. are_linked link m i a (and_parts (linked link m i a) (not (eqb i b)) p).0) (clique b) (placed a) (tree.fits a n.0 n.1) s)
    where
      P : ℕ → Bool
      P = linked_but link m a b

      W : ℕ → Bool
      W = away link m a (up_to P m)

      l : AreLinked link m a b
      l = are_linked link m a b h

      n : (1 ≤ a) × (a ≤ m) × (1 ≤ b) × (b ≤ m) × (a ≡ b → ⊥)
      n = ends link m a b tree.links l

      parts : (j : ℕ) → 1 ≤ j → j ≤ m → behind link m a b j ≡ (eqb j a || W j)
      parts j p q = side link m a b j tree.links l p q ∙ at (cases_eq j a)
        where
          and_true : (b : Bool) → ((b && true) ≡ b)
          and_true true = refl
          and_true false = refl

          at : ((j ≡ a) ⊎ (j ≡ a → ⊥)) → not (behind link m b a j) ≡ (eqb j a || W j)
          at (inl e) = rw (eq-eqb j a e)
          at (inr d) =
              let k = hop_linked link m a j tree.links n.0 n.1 p q d in
              let u = ends link m (hop link m a j) a tree.links k in
              ap (λ z. not (not z && eqb (hop link m a j) b)) (ne_eqb j a d)
              ∙ sym (and_true (not (eqb (hop link m a j) b)))
              ∙ ap (λ z. not (eqb (hop link m a j) b) && z) (sym (le-leb (hop link m a j) m u.1))
              ∙ ap (λ z. (z && not (eqb (hop link m a j) b)) && leb (hop link m a j) m) (sym (linked_from link m (hop link m a j) a k))
              ∙ ap (λ z. z || (not z && ((linked link m (hop link m a j) a && not (eqb (hop link m a j) b)) && leb (hop link m a j) m))) (sym (ne_eqb j a d))

  pub read_law : Covers m clique vars → 1 ≤ a → a ≤ m → (event : (ℕ → ℕ) → ℕ) → Within (clique a) event → (s : ℕ → ℕ)
      → joint_at plus size vars placed m event s
      ≡ over plus size (clique a) vars (λ t. event t * (placed a t * times_of (linked_to link m a) m (λ i. right_message plus size vars clique placed link m i a) t)) s
  read_law covers first last event fits s =
      ap (λ (g : (ℕ → ℕ) → ℕ). over plus size (λ x. true) vars g s)
      (fun_ext (λ t. ap (λ n. event t * n) (times_parts (λ j. true) W first last (away_itself (up_to P m)) parts t) ∙ sym (mul_assoc (event t) (placed a t) (times_of W m placed t))))
      ∙ over_agree plus law size (λ x. true) (λ x. (clique a x || held W m clique x) && not (clique a x && false)) vars (λ t. (event t * placed a t) * times_of W m placed t) s
      (λ x h. sym (and_not (clique a x) (clique a x || held W m clique x) (sym (held_parts (λ j. true) W first last (away_itself (up_to P m)) parts x) ∙ covers x h)))
      ∙ sym (gathered P (λ i p. are_linked link m i a p) (λ x. false) (λ t. event t * placed a t) both s)
      ∙ ap (λ (g : ℕ → Bool). over plus size g vars (λ t. (event t * placed a t) * times_of P m (λ i. right_message plus size vars clique placed link m i a) t) s) (fun_ext (λ x. and_true (clique a x)))
      ∙ ap (λ (g : (ℕ → ℕ) → ℕ). over plus size (clique a) vars g s) (fun_ext (λ t. mul_assoc (event t) (placed a t) (times_of P m (λ i. right_message plus size vars clique placed link m i a) t)))
    where
      P : ℕ → Bool
      P = linked_to link m a

      W : ℕ → Bool
      W = away link m a (up_to P m)

      and_true : (b : Bool) → ((b && true) ≡ b)
      and_true true = refl
      and_true false = refl

      and_not : (q b : Bool) → b ≡ true → (b && not (q && false)) ≡ true
      and_not true b e = rw e
      and_not false b e = rw e

      both : Within (clique a) (λ t. event t * placed a t)
      both t u h = ap (λ n. n * placed a t) (fits t u h) ∙ ap (λ n. event u * n) (tree.fits a first last t u h)

      parts : (j : ℕ) → 1 ≤ j → j ≤ m → true ≡ (eqb j a || W j)
      parts j p q = at (cases_eq j a)
        where
          at : ((j ≡ a) ⊎ (j ≡ a → ⊥)) → true ≡ (eqb j a || W j)
          at (inl e) = rw (eq-eqb j a e)
          at (inr d) =
              let k = hop_linked link m a j tree.links first last p q d in
              let u = ends link m (hop link m a j) a tree.links k in
              sym (le-leb (hop link m a j) m u.1)
              ∙ ap (λ z. z && leb (hop link m a j) m) (sym (linked_from link m (hop link m a j) a k))
              ∙ ap (λ z. z || (not z && (linked link m (hop link m a j) a && leb (hop link m a j) m))) (sym (ne_eqb j a d))
