-- Judgements of lists, place by place.
use Rattle.std.proofs.Common.{◌≡◌, ℕ, zero, suc, ◌+◌, ◌<◌, ◌⊎◌, inl, inr, List, [], ◌∷◌, length, map, Some, slice_get, get_or, refl, sym, ap, ap₂, add-zero, ◌∙◌, subst, arith}
use Rattle.std.specs.List.{AllZip, All, range_with_len, enumerate_from}
use Rattle.std.proofs.lemmas.Bool.{cases_lt}
use Rattle.std.proofs.lemmas.Option.{slice_get-get_or, slice_get_within}
use Rattle.mk_states.specs.States.{numbers_below}
use Rattle.mk_judge.specs.declared.judged.Judged.{Judged}
use Rattle.mk_judge.specs.declared.judged.Judged.TheVariants.{Allowed}
use Rattle.mk_judge.specs.Judged.{Judges, both}
use Rattle.mk_judge.proofs.Judging.{judges_as, judges_both}
use Rattle.mk_verify.specs.Clear.{IsPlaceOpen}

pub some_is : {X : Type 0} (x y : X) → Some x ≡ Some y → x ≡ y
some_is x y e = cc

-- ---- lists with numbers before them

module _ {X : Type 0} (R : ℕ → X → Type 0) where
  pub ranged_at : (a n : ℕ) (xs : List X) → AllZip R (range_with_len a n) xs → (k : ℕ) (x : X)
      → slice_get xs k ≡ Some x → R (a + k) x
  ranged_at a zero [] h k x at = cc
  ranged_at a zero (y ∷ ys) h k x at = absurd h
  ranged_at a (suc n) [] h k x at = absurd h
  ranged_at a (suc n) (y ∷ ys) h zero x at =
      let same : y ≡ x = some_is y x at in
      let here : a ≡ a + 0 = sym (add-zero a) in
      subst (λ (z : X). R (a + 0) z) same (subst (λ (b : ℕ). R b y) here (h.0))
  ranged_at a (suc n) (y ∷ ys) h (suc k) x at =
      let on : a + 1 + k ≡ a + suc k = omega arith in
      subst (λ (b : ℕ). R b x) on (ranged_at (a + 1) n ys (h.1) k x at)

  pub ranged_of : (a n : ℕ) (xs : List X) → length xs ≡ n
      → ((k : ℕ) (x : X) → slice_get xs k ≡ Some x → R (a + k) x)
      → AllZip R (range_with_len a n) xs
  ranged_of a zero [] long each = tt
  ranged_of a zero (y ∷ ys) long each = absurd (omega (arith, long))
  ranged_of a (suc n) [] long each = absurd (omega (arith, long))
  ranged_of a (suc n) (y ∷ ys) long each = (
    (let here : a + 0 ≡ a = add-zero a in subst (λ (b : ℕ). R b y) here (each 0 y refl)),
    ranged_of (a + 1) n ys (omega (arith, long)) (λ k x at.
        let on : a + suc k ≡ a + 1 + k = omega arith in
        subst (λ (b : ℕ). R b x) on (each (suc k) x at)),
  )

  pub ranged_long : (a n : ℕ) (xs : List X) → AllZip R (range_with_len a n) xs → length xs ≡ n
  ranged_long a zero [] h = refl
  ranged_long a zero (x ∷ xs) h = absurd h
  ranged_long a (suc n) [] h = absurd h
  ranged_long a (suc n) (x ∷ xs) h = ap suc (ranged_long (a + 1) n xs h.1)

  -- from the first number on
  pub first_at : (n : ℕ) (xs : List X) → AllZip R (range_with_len 0 n) xs → (k : ℕ) (x : X)
      → slice_get xs k ≡ Some x → R k x
  first_at n xs h k x at =
      let here : 0 + k ≡ k = omega arith in
      subst (λ (b : ℕ). R b x) here (ranged_at 0 n xs h k x at)

  pub each_ranged : (P : X → Type 0) (a n : ℕ) (xs : List X) → AllZip R (range_with_len a n) xs
      → ((k : ℕ) (x : X) → R k x → P x) → All P xs
  each_ranged P a n xs h holds k d within =
      holds (a + k) _ (ranged_at a n xs h k (get_or xs k d) (slice_get-get_or xs k d within))

-- ---- lists with numbered others before them

module _ {X Y : Type 0} (R : ℕ × Y → X → Type 0) (f : X → Y) where
  pub numbered_of : (a : ℕ) (xs : List X)
      → ((k : ℕ) (x : X) → slice_get xs k ≡ Some x → R (a + k, f x) x)
      → AllZip R (enumerate_from a (map f xs)) xs
  numbered_of a [] each = tt
  numbered_of a (y ∷ ys) each = (
    (let here : a + 0 ≡ a = add-zero a in
        subst (λ (b : ℕ). R (b, f y) y) here (each 0 y refl)),
    numbered_of (a + 1) ys (λ k x at.
        let on : a + suc k ≡ a + 1 + k = omega arith in
        subst (λ (b : ℕ). R (b, f x) x) on (each (suc k) x at)),
  )

  pub numbered_at : (a : ℕ) (ys : List Y) (xs : List X) → AllZip R (enumerate_from a ys) xs
      → (k : ℕ) (x : X) → slice_get xs k ≡ Some x → (y : Y) × R (a + k, y) x
  numbered_at a [] [] h k x at = cc
  numbered_at a [] (z ∷ xs) h k x at = absurd h
  numbered_at a (y ∷ ys) [] h k x at = absurd h
  numbered_at a (y ∷ ys) (z ∷ xs) h zero x at =
      let same : z ≡ x = some_is z x at in
      let here : a ≡ a + 0 = sym (add-zero a) in
      (y, subst (λ (w : X). R (a + 0, y) w) same (subst (λ (b : ℕ). R (b, y) z) here (h.0)))
  numbered_at a (y ∷ ys) (z ∷ xs) h (suc k) x at =
      let on : a + 1 + k ≡ a + suc k = omega arith in
      let found = numbered_at (a + 1) ys xs (h.1) k x at in
      (found.0, subst (λ (b : ℕ). R (b, found.0) x) on (found.1))

  pub numbered_names : ((k : ℕ) (y : Y) (x : X) → R (k, y) x → f x ≡ y) → (a : ℕ) (ys : List Y)
      (xs : List X) → AllZip R (enumerate_from a ys) xs → map f xs ≡ ys
  numbered_names names a [] [] h = refl
  numbered_names names a [] (z ∷ xs) h = absurd h
  numbered_names names a (y ∷ ys) [] h = absurd h
  numbered_names names a (y ∷ ys) (z ∷ xs) h =
      ap₂ (λ (b : Y) (bs : List Y). b ∷ bs) (names a y z (h.0))
      (numbered_names names (a + 1) ys xs (h.1))

-- ---- judgements

module _ {T : Type 0} (xs : List T) (S O : ℕ → T → Type 0) where
  abbrev pub HoldBelow : ℕ → Type 0
  HoldBelow n = (k : ℕ) (x : T) → k < n → slice_get xs k ≡ Some x → S k x

  pub record IsOpenBelow (n : ℕ) : Type 0 where
    pub value : ℕ
    pub interval : T
    pub below : value < n
    pub stands : slice_get xs value ≡ Some interval
    pub is_open : O value interval

  -- of the places before one
  abbrev pub JudgesBelow : Judged → ℕ → Type 0
  JudgesBelow j n = Judges j (HoldBelow n) (IsOpenBelow n)

  pub none_below : JudgesBelow Allowed 0
  none_below k x below at = absurd (omega (arith, below))

  pub one_more : (j i : Judged) (n : ℕ) (x : T) → slice_get xs n ≡ Some x → JudgesBelow j n
      → Judges i (S n x) (O n x) → JudgesBelow (both j i) (n + 1)
  one_more j i n x at below judged =
      judges_as (both j i) (HoldBelow n × S n x) (HoldBelow (n + 1)) (IsOpenBelow n ⊎ O n x)
      (IsOpenBelow (n + 1)) to from known
      (judges_both j i (HoldBelow n) (S n x) (IsOpenBelow n) (O n x) below judged)
    where
      last : (k : ℕ) (y : T) → k ≡ n → slice_get xs k ≡ Some y → S n x → S k y
      last k y is here holds =
          let same : x ≡ y = some_is x y (sym at ∙ ap (λ (m : ℕ). slice_get xs m) (sym is) ∙ here) in
          subst (λ (m : ℕ). S m y) (sym is) (subst (λ (z : T). S n z) same holds)

      to : HoldBelow n × S n x → HoldBelow (n + 1)
      to holds k y less here = elim (cases_lt k n) [
        | inl before ↦ holds.0 k y before here
        | inr past ↦ last k y (omega (arith, less, past)) here (holds.1)
      ]

      from : HoldBelow (n + 1) → HoldBelow n × S n x
      from holds = (λ k y less here. holds k y (omega (arith, less)) here, holds n x (omega arith) at)

      known : IsOpenBelow n ⊎ O n x → IsOpenBelow (n + 1)
      known (inl open_below) = record {
        value = open_below.value;
        interval = open_below.interval;
        below = omega (arith, open_below.below);
        stands = open_below.stands;
        is_open = open_below.is_open;
      }
      known (inr here) =
          record { value = n; interval = x; below = omega arith; stands = at; is_open = here }

  judged_of : (j : Judged) (n : ℕ) → length xs ≡ n → JudgesBelow j n
      → Judges j (AllZip S (numbers_below n) xs) (IsPlaceOpen xs O)
  judged_of j n long below =
      judges_as j (HoldBelow n) (AllZip S (range_with_len 0 n) xs) (IsOpenBelow n)
      (IsPlaceOpen xs O) to from known below
    where
      here : (k : ℕ) → 0 + k ≡ k
      here k = omega arith

      to : HoldBelow n → AllZip S (range_with_len 0 n) xs
      to holds = ranged_of S 0 n xs long (λ k x at. subst (λ (b : ℕ). S b x) (sym (here k))
          (holds k x (let within = slice_get_within xs k x at in omega (arith, long, within)) at))

      from : AllZip S (range_with_len 0 n) xs → HoldBelow n
      from all k x less at = subst (λ (b : ℕ). S b x) (here k) (ranged_at S 0 n xs all k x at)

      known : IsOpenBelow n → IsPlaceOpen xs O
      known h =
          record { value = h.value; interval = h.interval; stands = h.stands; is_open = h.is_open }

  -- of all places, as many as there are numbers
  pub all_judged : (j : Judged) (m n : ℕ) → length xs ≡ n → m ≡ n → JudgesBelow j m
      → Judges j (AllZip S (numbers_below n) xs) (IsPlaceOpen xs O)
  all_judged j m n long all below =
      judged_of j n long (subst (λ (k : ℕ). JudgesBelow j k) all below)
