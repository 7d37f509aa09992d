-- The first of a network's variables for which a test fails.
use Rattle.std.specs.Prelude.{◌≡◌, ℕ, zero, suc, ◌+◌, ◌<◌, ◌≤◌, List, length, Bool, true, false, not, cond, ◌⊎◌, Option, Some, None, option_map, find}
use Rattle.std.specs.List.{range_with_len}
use Rattle.std.proofs.Common.{refl, sym, ap, ◌∙◌, arith, inl, inr}
use Rattle.std.proofs.lemmas.Bool.{cases_eq, cases_Bool, not_from_true, not_from_false, not-false, cond-true, cond-false}
use Rattle.mk_net.specs.Network.{Variable}
use Rattle.mk_tree.specs.Tests.{first_failing}

found_at : (p : ℕ → Bool) (a n k : ℕ) → a ≤ k → k < a + n → p k ≡ true → ((y : ℕ) → a ≤ y → y < k → p y ≡ false)
    → find p (range_with_len a n) ≡ Some k
found_at p a zero k low high e before = absurd (omega (arith, low, high))
found_at p a (suc n) k low high e before =
    at (cases_eq k a) (λ later. found_at p (a + 1) n k later (omega (arith, high)) e (λ y past below. before y (omega (arith, past)) below))
  where
    at : ((k ≡ a) ⊎ (k ≡ a → ⊥)) → (a + 1 ≤ k → find p (range_with_len (a + 1) n) ≡ Some k) → cond (p a) (Some a) (find p (range_with_len (a + 1) n)) ≡ Some k
    at (inl here) ih = cond-true (p a) (Some a) (find p (range_with_len (a + 1) n)) (ap p (sym here) ∙ e) ∙ ap (λ (i : ℕ). Some i) (sym here)
    at (inr other) ih =
        cond-false (p a) (Some a) (find p (range_with_len (a + 1) n)) (before a (omega arith) (omega (arith, low, other))) ∙ ih (omega (arith, low, other))

none_found : (p : ℕ → Bool) (a n : ℕ) → ((y : ℕ) → a ≤ y → y < a + n → p y ≡ false) → find p (range_with_len a n) ≡ None
none_found p a zero none = refl
none_found p a (suc n) none =
    cond-false (p a) (Some a) (find p (range_with_len (a + 1) n)) (none a (omega arith) (omega arith))
    ∙ none_found p (a + 1) n (λ y low high. none y (omega (arith, low)) (omega (arith, high)))

fails_where_none : (p : ℕ → Bool) (a n : ℕ) → find p (range_with_len a n) ≡ None → (y : ℕ) → a ≤ y → y < a + n → p y ≡ false
fails_where_none p a zero e y low high = absurd (omega (arith, low, high))
fails_where_none p a (suc n) e y low high =
    at (cases_Bool (p a)) (cases_eq y a) (λ rest later. fails_where_none p (a + 1) n rest y later (omega (arith, high)))
  where
    at : ((p a ≡ true) ⊎ (p a ≡ false)) → ((y ≡ a) ⊎ (y ≡ a → ⊥)) → (find p (range_with_len (a + 1) n) ≡ None → a + 1 ≤ y → p y ≡ false) → p y ≡ false
    at (inl t) c ih = absurd (let some : Some a ≡ None = sym (cond-true (p a) (Some a) (find p (range_with_len (a + 1) n)) t) ∙ e in cc)
    at (inr f) (inl here) ih = ap p here ∙ f
    at (inr f) (inr other) ih = ih (sym (cond-false (p a) (Some a) (find p (range_with_len (a + 1) n)) f) ∙ e) (omega (arith, low, other))

-- an image is none where its source is
pub none_before_map : {X Y : Type 0} (f : X → Y) (o : Option X) → option_map f o ≡ None → o ≡ None
none_before_map f None e = refl
none_before_map f (Some x) e = absurd (cc)

pub failing_at : (network : List Variable) (test : ℕ → Bool) (x : ℕ) → x < length network → test x ≡ false
    → ((y : ℕ) → y < x → test y ≡ true) → Some (x + 1) ≡ first_failing network test
failing_at network test x within fails before =
    sym (ap (λ (o : Option ℕ). option_map (λ (y : ℕ). y + 1) o)
    (found_at (λ (y : ℕ). not (test y)) 0 (length network) x (omega arith) (omega (arith, within)) (not_from_false (test x) fails)
    (λ y low below. not_from_true (test y) (before y below))))

pub none_failing : (network : List Variable) (test : ℕ → Bool) → ((y : ℕ) → y < length network → test y ≡ true) → None ≡ first_failing network test
none_failing network test passes =
    sym (ap (λ (o : Option ℕ). option_map (λ (y : ℕ). y + 1) o)
    (none_found (λ (y : ℕ). not (test y)) 0 (length network) (λ y low high. not_from_true (test y) (passes y (omega (arith, high))))))

pub passes_where_none : (network : List Variable) (test : ℕ → Bool) → first_failing network test ≡ None → (x : ℕ) → x < length network → test x ≡ true
passes_where_none network test e x within =
    not-false (test x) (fails_where_none (λ (y : ℕ). not (test y)) 0 (length network)
    (none_before_map (λ (y : ℕ). y + 1) (find (λ (y : ℕ). not (test y)) (range_with_len 0 (length network))) e) x (omega arith) (omega (arith, within)))
