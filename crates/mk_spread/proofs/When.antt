-- What holds where nothing was rounded holds in each case in which nothing was.
use Rattle.std.proofs.Common.{ℕ, List, [], ◌∷◌, Option, Some, None, IfSome}
use Rattle.std.specs.List.{AllZip}
use Rattle.mk_exact.specs.Limits.{Side, IsFairAndSolvent}
use Rattle.mk_spread.specs.Bounds.{IsFairFor, AreFairUnits, Intervals, IsRightInterval, IsRightFor, AreRightBounds}

module _ (small exact : Type 0) (then : small → exact) where
  fair_when : (side : Side) (X F : ℕ) → IsFairAndSolvent exact side X F → IsFairAndSolvent small side X F
  fair_when side X F f = record {
    fair = record { positive = f.fair.positive; fits = f.fair.fits; not_above = f.fair.not_above; close = f.fair.close; floor = λ s. f.fair.floor (then s) };
    solvent = f.solvent;
  }

  fair_for_when : (side : Option Side) (X F : ℕ) → IsFairFor exact side X F → IsFairFor small side X F
  fair_for_when None X F f = f
  fair_for_when (Some side) X F f = fair_when side X F f

  pub units_when : (sides : List (Option Side)) (Xs Fs : List ℕ) → AreFairUnits exact sides Xs Fs → AreFairUnits small sides Xs Fs
  units_when [] [] [] h = tt
  units_when [] [] (F ∷ Fs) h = absurd h
  units_when [] (X ∷ Xs) Fs h = absurd h
  units_when (side ∷ sides) [] Fs h = absurd h
  units_when (side ∷ sides) (X ∷ Xs) [] h = absurd h
  units_when (side ∷ sides) (X ∷ Xs) (F ∷ Fs) h = (fair_for_when side X F h.0, units_when sides Xs Fs h.1)

  interval_when : (side : Side) (interval : ℕ × ℕ) → IsRightInterval exact side interval → IsRightInterval small side interval
  interval_when side interval h = record {
    in_range = h.in_range;
    sound = λ X i. found X (h.sound X i);
    near_complete = h.near_complete;
    exact = λ s. h.exact (then s);
  }
    where
      found : (X : ℕ) → (F : ℕ) × IsFairAndSolvent exact side X F → (F : ℕ) × IsFairAndSolvent small side X F
      found X f = (f.0, fair_when side X (f.0) (f.1))

  right_for_when : (side : Option Side) (interval : ℕ × ℕ) → IsRightFor exact side interval → IsRightFor small side interval
  right_for_when None interval h = h
  right_for_when (Some side) interval h = interval_when side interval h

  each_when : (sides : List (Option Side)) (given : List (ℕ × ℕ)) → AllZip (IsRightFor exact) sides given → AllZip (IsRightFor small) sides given
  each_when [] [] h = tt
  each_when [] (i ∷ given) h = absurd h
  each_when (side ∷ sides) [] h = absurd h
  each_when (side ∷ sides) (i ∷ given) h = (right_for_when side i h.0, each_when sides given h.1)

  pub bounds_when : (sides : List (Option Side)) (intervals : Intervals) → AreRightBounds exact sides intervals → AreRightBounds small sides intervals
  bounds_when sides intervals h = record { given = given_when intervals h.given; none = h.none; exactly_none = λ s. h.exactly_none (then s) }
    where
      given_when : (intervals : Intervals) → IfSome intervals (AllZip (IsRightFor exact) sides) → IfSome intervals (AllZip (IsRightFor small) sides)
      given_when None h = tt
      given_when (Some given) h = each_when sides given h
