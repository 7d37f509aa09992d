-- Numbers that pass a test, and the cells of some variables that others hold.
use Rattle.std.proofs.Common.{◌≡◌, ℕ, zero, suc, ◌+◌, ◌*◌, ◌<◌, ◌≤◌, ◌⊎◌, inl, inr, Bool}
use Rattle.std.proofs.Common.{true, false, cond, not, ◌&&◌, ◌||◌, List, [], ◌∷◌, slice_index}
use Rattle.std.proofs.Common.{slice_index_or, refl, sym, ap, ap₂, ◌∙◌, subst, arith, filter}
use Rattle.std.proofs.Common.{map}
use Rattle.std.proofs.Common.{mul_assoc, mul_comm}
use Rattle.std.specs.Prelude.{◌==◌, sum_by}
use Rattle.std.specs.List.{AllByRecursion, list_any, range_with_len}
use Rattle.std.proofs.Math.Nat.{mul-le-mul}
use Rattle.std.proofs.lemmas.Bool.{cases_lt, eqb-true, eq-eqb, ne_eqb, or_right, or_cases}
use Rattle.std.proofs.lemmas.Bool.{and_parts, false_from_ne_true}
use Rattle.std.proofs.lemmas.List.Elements.{All-from_recursion, recursion_from_All, All-filter}
use Rattle.std.proofs.lemmas.List.Sums.{sum_by-cons}
use Rattle.mk_net.specs.Network.{choices}
use Rattle.mk_net.proofs.Behind.{filter_below}
use Rattle.mk_states.specs.States.{numbers_below}
use Rattle.mk_states.proofs.Sums.{each_number}

-- a number is in a list
abbrev pub is_in : List ℕ → ℕ → Bool
is_in numbers x = list_any (λ v. v == x) numbers

-- a number that is kept passes
pub kept_passes : (test : ℕ → Bool) (xs : List ℕ) (x : ℕ) → is_in (filter test xs) x ≡ true
    → test x ≡ true
kept_passes test [] x h = absurd (cc)
kept_passes test (y ∷ ys) x h = at (test y) refl h (kept_passes test ys x)
  where
    own : test y ≡ true → (b : Bool) → (y == x) ≡ b → (b || is_in (filter test ys) x) ≡ true
        → (is_in (filter test ys) x ≡ true → test x ≡ true) → test x ≡ true
    own e true s h later = subst (λ z. test z ≡ true) (eqb-true y x s) e
    own e false s h later = later h

    at : (b : Bool) → test y ≡ b → is_in (cond b (y ∷ filter test ys) (filter test ys)) x ≡ true
        → (is_in (filter test ys) x ≡ true → test x ≡ true) → test x ≡ true
    at true e h later = own e (y == x) refl h later
    at false e h later = later h

behind : (a x : ℕ) → a ≤ x → (a == x) ≡ false → a + 1 ≤ x
behind a x low other = at (cases_lt a x)
  where
    at : ((a < x) ⊎ (x ≤ a)) → a + 1 ≤ x
    at (inl l) = omega (arith, l)
    at (inr l) =
        let same : a ≡ x = omega (arith, l, low) in absurd (let e = eq-eqb a x same in cc)

-- and one in range that passes is kept
pub passing_kept : (test : ℕ → Bool) (n a x : ℕ) → a ≤ x → x < a + n → test x ≡ true
    → is_in (filter test (range_with_len a n)) x ≡ true
passing_kept test zero a x low high e = absurd (omega (arith, low, high))
passing_kept test (suc n) a x low high e =
    at (test a) refl (a == x) refl
    (λ later. passing_kept test n (a + 1) x later (omega (arith, high)) e)
  where
    at : (b : Bool) → test a ≡ b → (c : Bool) → (a == x) ≡ c
        → (a + 1 ≤ x → is_in (filter test (range_with_len (a + 1) n)) x ≡ true)
        → is_in (cond b (a ∷ filter test (range_with_len (a + 1) n))
        (filter test (range_with_len (a + 1) n))) x ≡ true
    at true t true s later = rw s refl
    at true t false s later =
        or_right (a == x) (is_in (filter test (range_with_len (a + 1) n)) x)
        (later (behind a x low s))
    at false t true s later =
        absurd (let same = subst (λ z. test z ≡ false) (eqb-true a x s) t in cc)
    at false t false s later = later (behind a x low s)

-- numbers in range that pass a test, and those of them that are not a given one
abbrev passing : (ℕ → Bool) → ℕ → ℕ → List ℕ
passing p n a = filter p (range_with_len a n)

abbrev others : (ℕ → Bool) → ℕ → ℕ → ℕ → List ℕ
others p z n a = filter (λ x. p x && not (x == z)) (range_with_len a n)

-- the cells of the first are at most those of the others, times its own values
drop_one : (ns : List ℕ) (p : ℕ → Bool) (z n a : ℕ) → 1 ≤ slice_index ns z
    → choices ns (passing p n a) ≤ slice_index ns z * choices ns (others p z n a)
drop_one ns p z zero a some = omega (arith, some)
drop_one ns p z (suc n) a some =
    at (p a) (a == z) refl (drop_one ns p z n (a + 1) some)
  where
    and_true : (b : Bool) → b ≡ (b && true)
    and_true true = refl
    and_true false = refl

    agree : a ≡ z → (k : ℕ) → a + 1 ≤ k → k < a + 1 + n → p k ≡ (p k && not (k == z))
    agree same k low high = rw (ne_eqb k z (λ e. omega (arith, e, same, low))) (and_true (p k))

    at : (b c : Bool) → (a == z) ≡ c → choices ns (passing p n (a + 1))
        ≤ slice_index ns z * choices ns (others p z n (a + 1))
        → choices ns (cond b (a ∷ passing p n (a + 1)) (passing p n (a + 1)))
        ≤ slice_index ns z
        * choices ns (cond (b && not c) (a ∷ others p z n (a + 1)) (others p z n (a + 1)))
    at false c s ih = ih
    at true false s ih =
        let first : slice_index ns a ≤ slice_index ns a = omega arith in
        subst (λ m. slice_index ns a * choices ns (passing p n (a + 1)) ≤ m)
        (sym (mul_assoc (slice_index ns a) (slice_index ns z) (choices ns (others p z n (a + 1))))
        ∙ ap (λ m. m * choices ns (others p z n (a + 1)))
        (mul_comm (slice_index ns a) (slice_index ns z))
        ∙ mul_assoc (slice_index ns z) (slice_index ns a) (choices ns (others p z n (a + 1))))
        (mul-le-mul first ih)
    at true true s ih =
        let same : a ≡ z = eqb-true a z s in
        let alike : passing p n (a + 1) ≡ others p z n (a + 1) =
        filter_below p (λ x. p x && not (x == z)) n (a + 1) (agree same) in
        let equal : slice_index ns a * choices ns (passing p n (a + 1))
        ≡ slice_index ns z * choices ns (others p z n (a + 1)) =
        ap₂ (λ k xs. slice_index ns k * choices ns xs) same alike in
        omega (arith, equal)

none_kept : (p : ℕ → Bool) → ((x : ℕ) → p x ≡ false) → (xs : List ℕ) → filter p xs ≡ []
none_kept p none [] = refl
none_kept p none (x ∷ xs) = rw (none x) (none_kept p none xs)

-- numbers in range that others hold have no more cells than these
pub choices_within : (ns zs : List ℕ) (p : ℕ → Bool) (n a : ℕ)
    → AllByRecursion (λ z. 1 ≤ slice_index ns z) zs
    → ((x : ℕ) → p x ≡ true → is_in zs x ≡ true)
    → choices ns (filter p (range_with_len a n)) ≤ choices ns zs
choices_within ns [] p n a some within =
    let none = none_kept p (λ x. false_from_ne_true (p x) (λ e. let i = within x e in absurd (cc)))
    (range_with_len a n) in
    let one : choices ns (filter p (range_with_len a n)) ≡ 1 = ap (choices ns) none in
    omega (arith, one)
choices_within ns (z ∷ zs) p n a some within =
    let fewer = choices_within ns zs (λ x. p x && not (x == z)) n a some.1 held in
    let own : slice_index ns z ≤ slice_index ns z = omega arith in
    omega (arith, drop_one ns p z n a some.0, mul-le-mul own fewer)
  where
    behind_it : (x : ℕ) → not (x == z) ≡ true → ((z == x) ≡ true) ⊎ (is_in zs x ≡ true)
        → is_in zs x ≡ true
    behind_it x other (inl same) =
        absurd (let e = eq-eqb x z (sym (eqb-true z x same)) in cc)
    behind_it x other (inr there) = there

    held : (x : ℕ) → (p x && not (x == z)) ≡ true → is_in zs x ≡ true
    held x e =
        let parts = and_parts (p x) (not (x == z)) e in
        behind_it x parts.1 (or_cases (z == x) (is_in zs x) (within x parts.0))

-- an item of a list of lists, or nothing
pub item_has : (P : ℕ → Type 0) (xs : List (List ℕ)) (k : ℕ)
    → AllByRecursion (AllByRecursion P) xs → AllByRecursion P (slice_index_or xs k [])
item_has P [] k h = tt
item_has P (x ∷ xs) zero h = h.0
item_has P (x ∷ xs) (suc k) h = item_has P xs k h.1

pub item_in_sum : (f : List ℕ → ℕ) (xs : List (List ℕ)) (k : ℕ)
    → f (slice_index_or xs k []) ≤ sum_by f xs + f []
item_in_sum f [] k = omega arith
item_in_sum f (x ∷ xs) zero = omega (arith, sum_by-cons f x xs)
item_in_sum f (x ∷ xs) (suc k) = omega (arith, sum_by-cons f x xs, item_in_sum f xs k)

-- what is kept of the numbers below another is below it
pub kept_below : (test : ℕ → Bool) (n : ℕ)
    → AllByRecursion (λ x. x < n) (filter test (numbers_below n))
kept_below test n =
    recursion_from_All (λ x. x < n) (filter test (numbers_below n))
    (All-filter test (λ x. x < n) (numbers_below n)
    (All-from_recursion (λ x. x < n) (numbers_below n)
    (each_number (λ x. x < n) n 0 (λ x low high. omega (arith, high)))))

-- lists that sets keep of the numbers below another are below it, and have the cells of the sets
pub lists_known : {X : Type 0} (is_member : X → ℕ → Bool) (n : ℕ) (sets : List X)
    → AllByRecursion (AllByRecursion (λ x. x < n))
    (map (λ set. filter (is_member set) (numbers_below n)) sets)
lists_known is_member n [] = tt
lists_known is_member n (set ∷ sets) =
    (kept_below (is_member set) n, lists_known is_member n sets)

pub lists_cells : {X : Type 0} (list : X → List ℕ) (ns : List ℕ) (sets : List X)
    → sum_by (choices ns) (map list sets) ≡ sum_by (λ set. choices ns (list set)) sets
lists_cells list ns [] = refl
lists_cells list ns (set ∷ sets) =
    sum_by-cons (choices ns) (list set) (map list sets)
    ∙ ap (λ n. choices ns (list set) + n) (lists_cells list ns sets)
    ∙ sym (sum_by-cons (λ x. choices ns (list x)) set sets)
