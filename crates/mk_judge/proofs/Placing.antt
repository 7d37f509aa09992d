-- What is judged of values, place by place.
use Rattle.std.proofs.Common.{◌≡◌, ℕ, ◌-◌, ◌≤◌, ◌⊎◌, Bool, true, false, List, [], ◌∷◌, length}
use Rattle.std.proofs.Common.{take, drop, get_or, Any, Option, None, refl, sym, ap, ◌∙◌, inl, inr}
use Rattle.std.proofs.Common.{arith}
use Rattle.std.specs.Bool.{IsTrue}
use Rattle.std.specs.List.{AllZip}
use Rattle.std.proofs.Math.Seq.{take-length}
use Rattle.mk_exact.specs.Limits.{Side, IsWanted, IsFloorSolvent}
use Rattle.mk_spread.specs.Bounds.{IsFairFor, AreFairUnits, IsRightFor, NoShare, AreRightBounds}
use Rattle.mk_spread.proofs.Listed.{any_here, any_later, any_paired}
use Rattle.mk_quote.specs.declared.side.SideBounds.{SideBounds}
use Rattle.mk_judge.specs.declared.judged.Judged.{Judged}
use Rattle.mk_judge.specs.declared.judged.Judged.TheVariants.{Allowed, Wrong, Unclear}
use Rattle.mk_judge.specs.Judged.{Judges, both, one_of}
use Rattle.mk_judge.specs.Units.{AreUnitsNear}
use Rattle.mk_judge.specs.Questions.{IsSideNear}
use Rattle.mk_judge.specs.Distributions.{
  IsSideFor,
  AreEachSideBounds,
  IsOf,
  IsSomeIntervalNear,
  AreSomeUnitsNear,
}
use Rattle.mk_judge.specs.inner.Absent.{HasNoShare, HasShare, SaysAbsent, SaysSomeAbsent}
use Rattle.mk_judge.proofs.Judging.{judges_both, judges_as}

-- the first of a list and what is behind it
pub split_first : {X : Type 0} (xs : List X) (d : X) → 1 ≤ length xs → xs ≡ get_or xs 0 d ∷ take
    (length xs - 1) (drop 1 xs)
split_first [] d some = absurd (omega (arith, some))
split_first (x ∷ xs) d some =
    let less : length (x ∷ xs) - 1 ≡ length xs = omega arith in
    rw less (ap (λ ys. x ∷ ys) (sym (take-length xs)))

pub split_item : {X : Type 0} (xs : List X) (x : X) → x ≡ get_or xs 0 x → 1 ≤ length xs
    → xs ≡ x ∷ take (length xs - 1) (drop 1 xs)
split_item xs x is some = split_first xs x some ∙ ap (λ y. y ∷ take (length xs - 1) (drop 1 xs))
    (sym is)

module _ (small : Bool) (value : Option SideBounds) (values : List (Option SideBounds))
    (j k : Judged) where
  -- what both leave open, where the first of two lists is judged apart
  more_open : (P Q M N : Type 0) → Judges j P ((small ≡ false) × M)
      → Judges k Q ((small ≡ false) × N) → Judges (both j k) (P × Q) ((small ≡ false) × (M ⊎ N))
  more_open P Q M N one rest =
      judges_as (both j k) (P × Q) (P × Q) (((small ≡ false) × M) ⊎ ((small ≡ false) × N)) _
      (λ h. h) (λ h. h) known
      (judges_both j k P Q ((small ≡ false) × M) ((small ≡ false) × N) one rest)
    where
      known : ((small ≡ false) × M) ⊎ ((small ≡ false) × N) → (small ≡ false) × (M ⊎ N)
      known (inl near) = (near.0, inl (near.1))
      known (inr near) = (near.0, inr (near.1))

  -- one interval more
  pub one_interval_more : (low high : ℕ) (intervals : List (ℕ × ℕ))
      → ((side : Option Side) → IsSideFor small value side
      → Judges j (IsRightFor (IsTrue small) side (low, high)) ((small ≡ false)
      × IsOf (λ bounds of_bounds. IsSideNear bounds of_bounds low high) value side))
      → ((sides : List (Option Side)) → AreEachSideBounds values small sides
      → Judges k (AllZip (IsRightFor (IsTrue small)) sides intervals) ((small ≡ false)
      × IsSomeIntervalNear values sides intervals))
      → (sides : List (Option Side)) → AreEachSideBounds (value ∷ values) small sides
      → Judges (both j k) (AllZip (IsRightFor (IsTrue small)) sides ((low, high) ∷ intervals))
      ((small ≡ false) × IsSomeIntervalNear (value ∷ values) sides ((low, high) ∷ intervals))
  one_interval_more low high intervals one rest [] are = absurd are
  one_interval_more low high intervals one rest (side ∷ sides) are =
      more_open (IsRightFor (IsTrue small) side (low, high))
      (AllZip (IsRightFor (IsTrue small)) sides intervals)
      (IsOf (λ bounds of_bounds. IsSideNear bounds of_bounds low high) value side)
      (IsSomeIntervalNear values sides intervals) (one side (are.0)) (rest sides (are.1))

  -- one number of units more
  pub one_ratio_more : (X F : ℕ) (Xs Fs : List ℕ)
      → ((side : Option Side) → IsSideFor small value side
      → Judges j (IsFairFor (IsTrue small) side X F) ((small ≡ false)
      × IsOf (λ bounds of_bounds. AreUnitsNear bounds small of_bounds F X) value side))
      → ((sides : List (Option Side)) → AreEachSideBounds values small sides
      → Judges k (AreFairUnits (IsTrue small) sides Xs Fs) ((small ≡ false)
      × AreSomeUnitsNear small values sides Xs Fs))
      → (sides : List (Option Side)) → AreEachSideBounds (value ∷ values) small sides
      → Judges (both j k) (AreFairUnits (IsTrue small) sides (X ∷ Xs) (F ∷ Fs)) ((small ≡ false)
      × AreSomeUnitsNear small (value ∷ values) sides (X ∷ Xs) (F ∷ Fs))
  one_ratio_more X F Xs Fs one rest [] are = absurd are
  one_ratio_more X F Xs Fs one rest (side ∷ sides) are =
      more_open (IsFairFor (IsTrue small) side X F) (AreFairUnits (IsTrue small) sides Xs Fs)
      (IsOf (λ bounds of_bounds. AreUnitsNear bounds small of_bounds F X) value side)
      (AreSomeUnitsNear small values sides Xs Fs) (one side (are.0)) (rest sides (are.1))

-- one value more of which some share may be wanted
absent_more : (j k : Judged) (small : Bool) (value : Option SideBounds)
    (values : List (Option SideBounds)) (side : Option Side) (sides : List (Option Side))
    → SaysAbsent j small value side
    → SaysSomeAbsent k small values sides → SaysSomeAbsent (one_of j k) small (value ∷ values)
    (side ∷ sides)
absent_more Allowed k small value values side sides one rest = any_here (HasNoShare small) side
    sides one
absent_more Wrong Allowed small value values side sides one rest = any_later (HasNoShare small) side
    sides rest
absent_more Wrong Wrong small value values side sides one rest = (one, rest)
absent_more Wrong Unclear small value values side sides one rest = (rest.0, inr (rest.1))
absent_more Unclear Allowed small value values side sides one rest = any_later (HasNoShare small)
    side sides rest
absent_more Unclear Wrong small value values side sides one rest = (one.0, inl (one.1))
absent_more Unclear Unclear small value values side sides one rest = (one.0, inl (one.1))

pub one_absent_more : (j k : Judged) (small : Bool) (value : Option SideBounds)
    (values : List (Option SideBounds)) → ((side : Option Side) → IsSideFor small value side
    → SaysAbsent j small value side)
    → ((sides : List (Option Side)) → AreEachSideBounds values small sides
    → SaysSomeAbsent k small values sides)
    → (sides : List (Option Side)) → AreEachSideBounds (value ∷ values) small sides
    → SaysSomeAbsent (one_of j k) small (value ∷ values) sides
one_absent_more j k small value values one rest [] are = absurd are
one_absent_more j k small value values one rest (side ∷ sides) are = absent_more j k small value
    values side sides (one side (are.0)) (rest sides (are.1))

-- ---- none given

some_of : {X : Type 0} (P Q : X → Type 0) (xs : List X) → ((x : X) → P x → Q x) → Any P xs
    → Any Q xs
some_of P Q xs to any = (any.0, any.1, any.2, any.3, to (any.1) (any.4))

pub absent_right : (small : Bool) (sides : List (Option Side)) → Any (HasNoShare small) sides
    → AreRightBounds (IsTrue small) sides None
absent_right small sides any = record {
  given = tt;
  none = λ e. some_of (HasNoShare small) (NoShare IsWanted) sides (λ side h. h.0) any;
  exactly_none = λ said. (
    λ e. some_of (HasNoShare small) (NoShare IsFloorSolvent) sides
        (λ side h. h.1 said) any,
    λ e. refl,
  );
}

pub not_absent : (small : Bool) (sides : List (Option Side)) (values : List (Option SideBounds))
    → AllZip (λ (side : Option Side) (value : Option SideBounds). HasShare small side) sides values
    → AreRightBounds (IsTrue small) sides None → ⊥
not_absent true sides values all right =
    let at = any_paired (NoShare IsFloorSolvent)
    (λ (side : Option Side) (value : Option SideBounds). HasShare true side) sides values all
    ((right.exactly_none refl).0 refl) in
    at.3.0 refl (at.2)
not_absent false sides values all right =
    let at = any_paired (NoShare IsWanted) (λ (side : Option Side) (value : Option SideBounds).
    HasShare false side) sides values all (right.none refl) in
    at.3.1 refl (at.2)
