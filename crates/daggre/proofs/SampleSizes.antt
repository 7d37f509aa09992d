-- The size of a sample among those that it may have.
use Rattle.std.proofs.Common.{◌≡◌, ℕ, decimal, zero, suc, ◌+◌, ◌<◌, ◌≤◌, Bool, true, false, List}
use Rattle.std.proofs.Common.{Some, None, cond, ◌⊎◌, inl, inr, refl, ap, subst, arith}
use Rattle.std.specs.List.{find, range_with_len}
use Rattle.std.proofs.lemmas.Bool.{cases_lt}
use Rattle.mk_names.specs.Texts.{same_text}
use Rattle.daggre.specs.Words.{size_of}

pub none_found : (test : ℕ → Bool) (first count : ℕ) → ((k : ℕ) → first ≤ k → k < first + count
    → test k ≡ false) → find test (range_with_len first count) ≡ None
none_found test first zero none = refl
none_found test first (suc count) none =
    let here : test first ≡ false = none first (omega arith) (omega arith) in
    rw here (none_found test (first + 1) count (λ k from below. none k (omega arith) (omega arith)))

pub one_found : (test : ℕ → Bool) (first count n : ℕ) → first ≤ n → n < first + count
    → test n ≡ true → ((k : ℕ) → first ≤ k → k < n → test k ≡ false)
    → find test (range_with_len first count) ≡ Some n
one_found test first zero n from below is none = absurd (omega arith)
one_found test first (suc count) n from below is none = found_at (test first) (cases_lt first n)
    (λ later. none first (omega arith) later)
    (λ same. let first_one : n ≡ first = omega arith in subst (λ (k : ℕ). test k ≡ true) first_one
    is)
    (λ later. one_found test (first + 1) count n (omega arith) (omega arith) is
    (λ k from below. none k (omega arith) below))
  where
    found_at : (here : Bool) → ((first < n) ⊎ (n ≤ first)) → (first < n → here ≡ false)
        → (n ≤ first → here ≡ true)
        → (first < n → find test (range_with_len (first + 1) count) ≡ Some n)
        → cond here (Some first) (find test (range_with_len (first + 1) count)) ≡ Some n
    found_at here (inl later) passed one rest = rw (passed later) (rest later)
    found_at here (inr same) passed one rest = let is : first ≡ n = omega arith in
        rw (one same) (ap Some is)

-- a word that is the decimals of none of the numbers names no size
pub no_size : (word : List ℕ) → ((k : ℕ) → 2 ≤ k → k < 257 → same_text (decimal k) word ≡ false)
    → size_of word ≡ None
unfolding size_of
no_size word none = none_found (λ n. same_text (decimal n) word) 2 255 none

-- the first whose decimals it is is the size that it names
pub size_is : (word : List ℕ) (n : ℕ) → 2 ≤ n → n < 257 → same_text (decimal n) word ≡ true
    → ((k : ℕ) → 2 ≤ k → k < n → same_text (decimal k) word ≡ false)
    → size_of word ≡ Some n
unfolding size_of
size_is word n from below is none = one_found (λ k. same_text (decimal k) word) 2 255 n from below
    is none
