-- In the small case one pair of limits alone is right.
use Rattle.std.proofs.Common.{◌≡◌, ℕ, Option, arith}
use Rattle.std.specs.Bool.{⊤}
use Rattle.mk_scaled.specs.Near.{near_same}
use Rattle.mk_exact.specs.Limits.{Side, IsFairAndSolvent, AreRight}
use Rattle.mk_enclose.specs.declared.enclosure.Enclosure.{Enclosure}
use Rattle.mk_enclose.specs.Enclosure.{IsExact, IsGradedWithin, widest_grade}
use Rattle.mk_quote.specs.declared.side.SideBounds.{SideBounds}
use Rattle.mk_quote.specs.declared.bounds.Bounds.{Bounds}
use Rattle.mk_quote.specs.Sides.{AreGraded, AreExact}
use Rattle.mk_quote.specs.Bounds.{EncloseSides, AreAllGraded, AreAllExact, AreRightFor}
use Rattle.mk_quote.proofs.Spanning.{same_interval}
use Rattle.mk_judge.proofs.Fairness.{fair_for}

graded : (e : Enclosure) → IsExact e → IsGradedWithin e widest_grade
graded e exact = record { grade = 0; small = omega arith; has = record { near = rw exact.same (near_same e.hi) } }

pub side_graded : (bounds : SideBounds) → AreExact bounds → AreGraded bounds
side_graded bounds exact = record { part = graded bounds.part exact.part; whole = graded bounds.whole exact.whole; gain = graded bounds.factor.gain exact.gain }

all_graded : (bounds : Bounds) → AreAllExact bounds → AreAllGraded bounds
all_graded bounds exact = record { hit = side_graded _ exact.hit; miss = side_graded _ exact.miss }

exactly_fair : (exact : Type 0) (side : Side) (X F : ℕ) → exact → IsFairAndSolvent exact side X F → IsFairAndSolvent ⊤ side X F
exactly_fair exact side X F is h = record { fair = fair_for exact ⊤ F X side.price (λ _. is) h.fair; solvent = h.solvent }

-- limits that are right for exact bounds are right in the small case
pub exactly_right : (bounds : Bounds) (limits : Option (ℕ × ℕ)) → AreRightFor bounds limits → (hit miss : Side) → EncloseSides bounds hit miss → AreAllExact bounds → AreRight ⊤ hit miss limits
exactly_right bounds limits right hit miss holds exact =
    let it = right hit miss holds (all_graded bounds exact) in
    record {
      in_range = it.in_range;
      sound = λ X inside. let both = it.sound X inside in (both.0, both.1, exactly_fair _ hit X (both.0) exact (both.2), exactly_fair _ miss _ (both.1) exact (both.3));
      near_complete = it.near_complete;
      exact = λ _. it.exact exact;
    }

-- one pair of limits alone is right
pub one_pair : (hit miss : Side) (own limits : Option (ℕ × ℕ)) → AreRight ⊤ hit miss own
    → AreRight ⊤ hit miss limits → own ≡ limits
one_pair hit miss own limits right right' =
    same_interval own limits right.in_range right'.in_range
    (λ X from to.
    let is = right.exact tt X from to in
    let is' = right'.exact tt X from to in
    (λ inside. is'.1 (is.0 inside), λ inside. is.1 (is'.0 inside)))
