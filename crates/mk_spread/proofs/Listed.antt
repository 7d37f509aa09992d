-- Lists of sides, shares and units, place by place.
use Rattle.std.proofs.Common.{◌≡◌, ℕ, zero, suc, ◌+◌, ◌<◌, ◌≤◌, List, [], ◌∷◌, length, slice_index, slice_index_or, Option, Any, refl, sym, ap, ◌∙◌, subst, arith}
use Rattle.std.specs.List.{AllZip, AllByRecursion, range_with_len}
use Rattle.mk_exact.specs.Limits.{Side}
use Rattle.mk_spread.specs.Bounds.{IsFairFor, AreFairUnits}

-- a list for each number of a range is as long
pub ranged_length : {X : Type 0} (P : ℕ → X → Type 0) (n a : ℕ) (xs : List X) → AllZip P (range_with_len a n) xs → length xs ≡ n
ranged_length P zero a [] h = refl
ranged_length P zero a (x ∷ xs) h = absurd h
ranged_length P (suc n) a [] h = absurd h
ranged_length P (suc n) a (x ∷ xs) h = ap suc (ranged_length P n (a + 1) xs h.1)

-- there are as many shares and units as sides
pub fair_lengths : (small : Type 0) (sides : List (Option Side)) (Xs Fs : List ℕ) → AreFairUnits small sides Xs Fs → (length Xs ≡ length sides) × (length Fs ≡ length sides)
fair_lengths small [] [] [] h = (refl, refl)
fair_lengths small [] [] (F ∷ Fs) h = absurd h
fair_lengths small [] (X ∷ Xs) Fs h = absurd h
fair_lengths small (side ∷ sides) [] Fs h = absurd h
fair_lengths small (side ∷ sides) (X ∷ Xs) [] h = absurd h
fair_lengths small (side ∷ sides) (X ∷ Xs) (F ∷ Fs) h =
    let rest = fair_lengths small sides Xs Fs h.1 in
    (ap suc rest.0, ap suc rest.1)

-- the side, the share and the units of one value
pub fair_at : (P : ℕ → Option Side → Type 0) (small : Type 0) (n a : ℕ) (sides : List (Option Side)) (Xs Fs : List ℕ) → AllZip P (range_with_len a n) sides → AreFairUnits small sides Xs Fs
    → (k : ℕ) → k < n → (side : Option Side) × P (a + k) side × IsFairFor small side (slice_index Xs k) (slice_index Fs k)
fair_at P small zero a sides Xs Fs h f k p = absurd (omega arith)
fair_at P small (suc n) a [] Xs Fs h f k p = absurd h
fair_at P small (suc n) a (side ∷ sides) [] Fs h f k p = absurd f
fair_at P small (suc n) a (side ∷ sides) (X ∷ Xs) [] h f k p = absurd f
fair_at P small (suc n) a (side ∷ sides) (X ∷ Xs) (F ∷ Fs) h f zero p = (side, subst (λ i. P i side) here h.0, f.0)
  where
    here : a ≡ a + 0
    here = omega arith
fair_at P small (suc n) a (side ∷ sides) (X ∷ Xs) (F ∷ Fs) h f (suc k) p = later (fair_at P small n (a + 1) sides Xs Fs h.1 f.1 k (omega arith))
  where
    there : a + 1 + k ≡ a + suc k
    there = omega arith

    later : (other : Option Side) × P (a + 1 + k) other × IsFairFor small other (slice_index Xs k) (slice_index Fs k)
        → (other : Option Side) × P (a + suc k) other × IsFairFor small other (slice_index Xs k) (slice_index Fs k)
    later r = (r.0, subst (λ i. P i (r.0)) there (r.1), r.2)

-- what holds of the units of each value holds of each number
pub each_units : (P : ℕ → Type 0) (small : Type 0) → ((side : Option Side) (X F : ℕ) → IsFairFor small side X F → P F) → (sides : List (Option Side)) (Xs Fs : List ℕ)
    → AreFairUnits small sides Xs Fs → AllByRecursion P Fs
each_units P small f [] [] [] h = tt
each_units P small f [] [] (F ∷ Fs) h = absurd h
each_units P small f [] (X ∷ Xs) Fs h = absurd h
each_units P small f (side ∷ sides) [] Fs h = absurd h
each_units P small f (side ∷ sides) (X ∷ Xs) [] h = absurd h
each_units P small f (side ∷ sides) (X ∷ Xs) (F ∷ Fs) h = (f side X F h.0, each_units P small f sides Xs Fs h.1)

-- one element for each number of a range, found one by one
pub range_of : {X : Type 0} (P : ℕ → X → Type 0) (Q : X → Type 0) (n a : ℕ) → ((k : ℕ) → a ≤ k → k < a + n → (x : X) × P k x × Q x)
    → (xs : List X) × AllZip P (range_with_len a n) xs × AllByRecursion Q xs
range_of P Q zero a f = ([], tt, tt)
range_of {X} P Q (suc n) a f = joined (f a (omega arith) (omega arith)) (range_of P Q n (a + 1) (λ k p q. f k (omega arith) (omega arith)))
  where
    joined : (x : X) × P a x × Q x → (xs : List X) × AllZip P (range_with_len (a + 1) n) xs × AllByRecursion Q xs
        → (xs : List X) × AllZip P (range_with_len a (suc n)) xs × AllByRecursion Q xs
    joined x xs = (x.0 ∷ xs.0, (x.1, xs.1), (x.2, xs.2))

-- a list that its relation to another determines
pub same_listed : {K X : Type 0} (P : K → X → Type 0) → ((k : K) (x y : X) → P k x → P k y → x ≡ y) → (ks : List K) (xs ys : List X) → AllZip P ks xs → AllZip P ks ys → xs ≡ ys
same_listed P one [] [] [] h g = refl
same_listed P one [] [] (y ∷ ys) h g = absurd g
same_listed P one [] (x ∷ xs) ys h g = absurd h
same_listed P one (k ∷ ks) [] ys h g = absurd h
same_listed P one (k ∷ ks) (x ∷ xs) [] h g = absurd g
same_listed {K} {X} P one (k ∷ ks) (x ∷ xs) (y ∷ ys) h g =
    ap (λ (z : X). z ∷ xs) (one k x y h.0 g.0) ∙ ap (λ (zs : List X). y ∷ zs) (same_listed P one ks xs ys h.1 g.1)

-- some element of a list
pub any_here : {X : Type 0} (P : X → Type 0) (x : X) (xs : List X) → P x → Any P (x ∷ xs)
any_here P x xs h = (0, x, omega arith, refl, h)

pub any_later : {X : Type 0} (P : X → Type 0) (x : X) (xs : List X) → Any P xs → Any P (x ∷ xs)
any_later P x xs h = (suc (h.0), h.1, omega (arith, h.2), h.3, h.4)

-- some element, with its partner in another list
pub any_paired : {X Y : Type 0} (P : X → Type 0) (Q : X → Y → Type 0) (xs : List X) (ys : List Y) → AllZip Q xs ys → Any P xs → (x : X) × (y : Y) × P x × Q x y
any_paired {X} {Y} P Q xs ys h a = at xs ys h (a.0) (a.1) (a.2) (a.3) (a.4)
  where
    at : (xs : List X) (ys : List Y) → AllZip Q xs ys → (k : ℕ) (z : X) → k < length xs → slice_index_or xs k z ≡ z → P z → (x : X) × (y : Y) × P x × Q x y
    at [] ys h k z p e holds = absurd (omega arith)
    at (x ∷ xs) [] h k z p e holds = absurd h
    at (x ∷ xs) (y ∷ ys) h zero z p e holds = (x, y, subst P (sym e) holds, h.0)
    at (x ∷ xs) (y ∷ ys) h (suc k) z p e holds = at xs ys h.1 k z (omega arith) e holds
