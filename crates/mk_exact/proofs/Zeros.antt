-- A network has no share of nothing exactly where no variable has one.
use Rattle.std.proofs.Common.{◌≡◌, ℕ, zero, suc, ◌<◌, ◌≤◌, Bool, true, false, cond, ◌||◌, eqb, List, [], ◌∷◌, length, filter, All, refl, ◌∙◌, subst, arith, ne_eqb}
use Rattle.std.specs.List.{list_any, range_with_len, AllByRecursion}
use Rattle.std.proofs.lemmas.List.Folds.{list_any_none}
use Rattle.std.proofs.lemmas.List.FromFn.{get_or-range_with_len, length-range_with_len}
use Rattle.std.proofs.lemmas.List.Elements.{All-from_recursion, recursion_from_All}
use Rattle.mk_net.specs.Network.{Variable}
use Rattle.mk_net.specs.Named.{variable_at}
use Rattle.mk_net.specs.Zeros.{has_zero, with_zeros, HasNoZeros}
use Rattle.mk_states.proofs.Sums.{each_number, each_weaker}

-- ---- lists of which nothing passes a test

none_kept : {X : Type 0} (p : X → Bool) (xs : List X) → filter p xs ≡ [] → AllByRecursion (λ x. p x ≡ false) xs
none_kept p [] e = tt
none_kept {X} p (x ∷ xs) e = at (p x) refl e (none_kept p xs)
  where
    at : (b : Bool) → p x ≡ b → cond b (x ∷ filter p xs) (filter p xs) ≡ [] → (filter p xs ≡ [] → AllByRecursion (λ y. p y ≡ false) xs) → AllByRecursion (λ y. p y ≡ false) (x ∷ xs)
    at true is h rest = absurd (cc)
    at false is h rest = (is, rest h)

kept_none : {X : Type 0} (p : X → Bool) (xs : List X) → AllByRecursion (λ x. p x ≡ false) xs → filter p xs ≡ []
kept_none p [] h = refl
kept_none p (x ∷ xs) h = rw (h.0) (kept_none p xs h.1)

none_any : {X : Type 0} (p : X → Bool) (xs : List X) → list_any p xs ≡ false → AllByRecursion (λ x. p x ≡ false) xs
none_any p [] e = tt
none_any {X} p (x ∷ xs) e = at (p x) refl e (none_any p xs)
  where
    at : (b : Bool) → p x ≡ b → (b || list_any p xs) ≡ false → (list_any p xs ≡ false → AllByRecursion (λ y. p y ≡ false) xs) → AllByRecursion (λ y. p y ≡ false) (x ∷ xs)
    at true is h rest = absurd (cc)
    at false is h rest = (is, rest h)

any_none : {X : Type 0} (p : X → Bool) (xs : List X) → AllByRecursion (λ x. p x ≡ false) xs → list_any p xs ≡ false
any_none p xs h = list_any_none p xs (All-from_recursion (λ x. p x ≡ false) xs h)

-- ---- shares

share_some : (n : ℕ) → eqb n 0 ≡ false → 1 ≤ n
share_some zero e = absurd (cc)
share_some (suc n) e = omega arith

some_share : (n : ℕ) → 1 ≤ n → eqb n 0 ≡ false
some_share n h = ne_eqb n 0 (λ e. omega arith)

abbrev empty : ℕ → Bool
empty share = eqb share 0

row_some : (row : List ℕ) → list_any empty row ≡ false → All (λ share. 1 ≤ share) row
row_some row e = All-from_recursion (λ share. 1 ≤ share) row (each_weaker (λ share. empty share ≡ false) (λ share. 1 ≤ share) share_some row (none_any empty row e))

some_row : (row : List ℕ) → All (λ share. 1 ≤ share) row → list_any empty row ≡ false
some_row row h = any_none empty row (each_weaker (λ share. 1 ≤ share) (λ share. empty share ≡ false) some_share row (recursion_from_All (λ share. 1 ≤ share) row h))

rows_some : (rows : List (List ℕ)) → list_any (list_any empty) rows ≡ false → All (All (λ share. 1 ≤ share)) rows
rows_some rows e = All-from_recursion (All (λ share. 1 ≤ share)) rows (each_weaker (λ row. list_any empty row ≡ false) (All (λ share. 1 ≤ share)) row_some rows (none_any (list_any empty) rows e))

some_rows : (rows : List (List ℕ)) → All (All (λ share. 1 ≤ share)) rows → list_any (list_any empty) rows ≡ false
some_rows rows h = any_none (list_any empty) rows (each_weaker (All (λ share. 1 ≤ share)) (λ row. list_any empty row ≡ false) some_row rows (recursion_from_All (All (λ share. 1 ≤ share)) rows h))

module _ (network : List Variable) where
  -- where no variable has a share of nothing, each share is at least one
  pub no_zeros : with_zeros network ≡ [] → HasNoZeros network
  no_zeros e = λ k within. rows_some (variable_at network k).rows (at k within)
    where
      at : (k : ℕ) → k < length network → has_zero network k ≡ false
      at k within = subst (λ (n : ℕ). has_zero network n ≡ false) (get_or-range_with_len 0 (length network) k 0 within ∙ omega arith)
          (All-from_recursion (λ n. has_zero network n ≡ false) (range_with_len 0 (length network)) (none_kept (has_zero network) (range_with_len 0 (length network)) e) k 0 (omega (arith, length-range_with_len 0 (length network))))

  -- and where each is, none has
  pub zeros_none : HasNoZeros network → with_zeros network ≡ []
  zeros_none none = kept_none (has_zero network) (range_with_len 0 (length network))
      (each_number (λ k. has_zero network k ≡ false) (length network) 0 (λ k p q. some_rows (variable_at network k).rows (none k (omega arith))))
