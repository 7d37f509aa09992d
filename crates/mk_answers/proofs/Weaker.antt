-- What holds where nothing was rounded holds in each case in which nothing was.
use Rattle.std.proofs.Common.{ℕ, ◌-◌, List, Option}
use Rattle.mk_net.specs.Bounds.{million}
use Rattle.mk_net.specs.Network.{Variable}
use Rattle.mk_net.specs.Asked.{Asked}
use Rattle.mk_exact.specs.Factors.{Fraction}
use Rattle.mk_exact.specs.History.{Entry}
use Rattle.mk_exact.specs.Weight.{IsSmall}
use Rattle.mk_exact.specs.Prices.{IsFair, CoversPrice}
use Rattle.mk_exact.specs.Limits.{Side, IsFairAndSolvent, AreRight}
use Rattle.mk_exact.specs.Sides.{AreSides, AreRightLimits, IsFairPair}
use Rattle.mk_quote.specs.declared.bounds.Bounds.{Bounds}
use Rattle.mk_quote.specs.Bounds.{AreFairAndSolvent, AreRightFor, AreAllExact}
use Rattle.mk_exact.proofs.ExistNumbers.{covers_for}
use Rattle.mk_answers.specs.Open.{AreBoundsFor}

module _ (small exact : Type 0) (then : small → exact) where
  pub covers_when : (near : ℕ) (price : Fraction) (low high : ℕ)
      → CoversPrice exact near price low high
      → CoversPrice small near price low high
  covers_when near price low high = covers_for exact small near price low high then

  fair_when : (F X : ℕ) (price : Fraction) → IsFair exact F X price → IsFair small F X price
  fair_when F X price fair = record {
    positive = fair.positive;
    fits = fair.fits;
    not_above = fair.not_above;
    close = fair.close;
    floor = λ s. fair.floor (then s);
  }

  serves_when : (side : Side) (X F : ℕ) → IsFairAndSolvent exact side X F → IsFairAndSolvent small side X F
  serves_when side X F serves = record { fair = fair_when F X side.price serves.fair; solvent = serves.solvent }

  right_when : (hit miss : Side) (limits : Option (ℕ × ℕ)) → AreRight exact hit miss limits → AreRight small hit miss limits
  right_when hit miss limits right = record {
    in_range = right.in_range;
    sound = λ X inside.
        let pair = right.sound X inside in
        (pair.0, pair.1, serves_when hit X (pair.0) (pair.2), serves_when miss (million - X) (pair.1) (pair.3));
    near_complete = right.near_complete;
    exact = λ s. right.exact (then s);
  }

module _ (network : List Variable) (H : List Entry) (u : ℕ) (asked : Asked) (bounds : Bounds) (hit miss : Side)
    (sides : AreSides network H u asked hit miss) (for : AreBoundsFor bounds (IsSmall network H) hit miss) where
  pub fair_by_bounds : (X F_t F_n : ℕ) → AreFairAndSolvent bounds X F_t F_n → IsFairPair network H u asked X F_t F_n
  fair_by_bounds X F_t F_n fair =
      let both = fair hit miss for.sides for.graded in
      record {
        hit = hit;
        miss = miss;
        sides = sides;
        hit_units = serves_when (IsSmall network H) (AreAllExact bounds) for.exact hit X F_t (both.0);
        miss_units = serves_when (IsSmall network H) (AreAllExact bounds) for.exact miss (million - X) F_n (both.1);
      }

  pub right_by_bounds : (limits : Option (ℕ × ℕ)) → AreRightFor bounds limits → AreRightLimits network H u asked limits
  right_by_bounds limits right = record {
    hit = hit;
    miss = miss;
    sides = sides;
    right = right_when (IsSmall network H) (AreAllExact bounds) for.exact hit miss limits (right hit miss for.sides for.graded);
  }
