-- A clique behind a tree, which shares all but a new variable with the clique that it is linked to:
-- one top for each variable
-- stays one top, and so running intersection stays.
use Rattle.std.proofs.Common.{◌≡◌, ◌≢◌, ℕ, ◌+◌, ◌<◌, ◌≤◌, ◌⊎◌, inl, inr, Bool, true, false, sym, ap}
use Rattle.std.proofs.Common.{◌∙◌, subst, arith}
use Rattle.std.proofs.lemmas.Bool.{cases_lt, cases_eq}
use Rattle.mk_sums.specs.Trees.{Links, Running, IsTop, OneTop}
use Rattle.mk_sums.proofs.Sides.{tops_from_running, running_from_tops}

-- the first m cliques and their links are the same; the next one is linked to one of them, which
-- holds all of its variables but
-- one, and none of the first m holds that one
pub record IsLonger (link later : ℕ → ℕ) (m : ℕ) (clique with_leaf : ℕ → ℕ → Bool) (v : ℕ)
    : Type 0 where
  pub same_links : (j : ℕ) → 1 < j → j ≤ m → later j ≡ link j
  pub same_cliques : (j x : ℕ) → 1 ≤ j → j ≤ m → with_leaf j x ≡ clique j x
  pub first : 1 ≤ later (m + 1)
  pub earlier : later (m + 1) ≤ m
  pub shared : (x : ℕ) → with_leaf (m + 1) x ≡ true → x ≢ v → clique (later (m + 1)) x ≡ true
  pub fresh : (j : ℕ) → 1 ≤ j → j ≤ m → clique j v ≡ false

module _ (link later : ℕ → ℕ) (m : ℕ) (clique with_leaf : ℕ → ℕ → Bool) (v : ℕ)
    (links : Links link m) (longer : IsLonger link later m clique with_leaf v) where
  pub links_more : Links later (m + 1)
  links_more k p q = at (cases_lt m k)
    where
      at : (m < k) ⊎ (k ≤ m) → (1 ≤ later k) × (later k < k)
      at (inl l) = let e : m + 1 ≡ k = omega arith in let i =
          ap later e in (omega (arith, longer.first, i), omega (arith, longer.earlier, i))
      at (inr l) = let o = links k p l in let i =
          longer.same_links k p l in (omega (arith, o.0, i), omega (arith, o.1, i))

  earlier_top : (x k : ℕ) → k ≤ m → IsTop later (m + 1) with_leaf x k → IsTop link m clique x k
  earlier_top x k l top = record {
    first = top.first;
    last = l;
    holds = sym (longer.same_cliques k x top.first l) ∙ top.holds;
    above = λ p.
        let o = links k p l in
        sym (longer.same_cliques (link k) x o.0 (omega (arith, o.1, l)))
        ∙ sym (ap (λ j. with_leaf j x) (longer.same_links k p l)) ∙ top.above p;
  }

  -- the added clique is a top of the new variable alone
  last_top : (x : ℕ) → IsTop later (m + 1) with_leaf x (m + 1) → x ≡ v
  last_top x top = at (cases_eq x v)
    where
      at : (x ≡ v) ⊎ (x ≡ v → ⊥) → x ≡ v
      at (inl e) = e
      at (inr d) =
          let held : clique (later (m + 1)) x ≡ true = longer.shared x top.holds d in
          let not_held : clique (later (m + 1)) x ≡ false =
          sym (longer.same_cliques (later (m + 1)) x longer.first longer.earlier)
          ∙ top.above (omega (arith, longer.first, longer.earlier)) in
          absurd (cc)

  no_other : (x k : ℕ) → k ≤ m → IsTop later (m + 1) with_leaf x k → x ≡ v → ⊥
  no_other x k l top e =
      let held : clique k v ≡ true = ap (clique k) (sym e) ∙ (earlier_top x k l top).holds in
      let none = longer.fresh k top.first l in
      absurd (cc)

  one_top : OneTop link m clique → OneTop later (m + 1) with_leaf
  one_top one x j k a b = at (cases_lt m j) (cases_lt m k)
    where
      is_last : (j : ℕ) → m < j → j ≤ m + 1 → j ≡ m + 1
      is_last j p q = omega arith

      of_last : (j : ℕ) → m < j → IsTop later (m + 1) with_leaf x j → x ≡ v
      of_last j p top = last_top x (subst (IsTop later (m + 1) with_leaf x) (is_last j p top.last)
          top)

      at : (m < j) ⊎ (j ≤ m) → (m < k) ⊎ (k ≤ m) → j ≡ k
      at (inl p) (inl q) = is_last j p a.last ∙ sym (is_last k q b.last)
      at (inl p) (inr q) = absurd (no_other x k q b (of_last j p a))
      at (inr p) (inl q) = absurd (no_other x j p a (of_last k q b))
      at (inr p) (inr q) = one x j k (earlier_top x j p a) (earlier_top x k q b)

  pub running_more : Running link m clique → Running later (m + 1) with_leaf
  running_more running = running_from_tops later (m + 1) with_leaf links_more
      (one_top (tops_from_running link m clique links running))
