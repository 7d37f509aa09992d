-- Right limits by what is judged of them.
use Rattle.std.proofs.Common.{◌≡◌, ℕ, ◌-◌, ◌⊎◌, Option, Some, None, inl, inr, arith, subst}
use Rattle.std.proofs.Common.{Bool, false}
use Rattle.std.specs.Bool.{IsTrue}
use Rattle.std.proofs.lemmas.Bool.{false≢true}
use Rattle.mk_net.specs.Bounds.{million}
use Rattle.mk_exact.specs.Limits.{Side, IsFairAndSolvent, IsWanted, IsWithinRange, AreRight}
use Rattle.mk_quote.specs.declared.bounds.Bounds.{Bounds}
use Rattle.mk_quote.specs.Bounds.{hit_side, miss_side}
use Rattle.mk_judge.specs.declared.judged.Judged.{Judged}
use Rattle.mk_judge.specs.Judged.{Judges, both}
use Rattle.mk_judge.specs.Limits.{CanBeTraded, IsIntervalNear}
use Rattle.mk_judge.specs.Wanted.{IsWantedNear, LieInside}
use Rattle.mk_judge.specs.Questions.{AreLimitsNear}
use Rattle.mk_judge.proofs.Judging.{judges_both, judges_as}
use Rattle.mk_judge.proofs.Fairness.{fair_for}

pub not_small : (small : Bool) → small ≡ false → IsTrue small → ⊥
not_small small large said = false≢true (rw large at said)

-- the small case is the same as another where both hold or neither does
pub traded_for : (small other : Type 0) (side : Side) (X F : ℕ) → (other → small)
    → IsFairAndSolvent small side X F → IsFairAndSolvent other side X F
traded_for small other side X F to h = record {
  fair = fair_for small other F X side.price to
      h.fair;
  solvent = h.solvent;
}

pub right_for : (small other : Type 0) (hit miss : Side) (limits : Option (ℕ × ℕ)) → (other → small)
    → AreRight small hit miss limits → AreRight other hit miss limits
right_for small other hit miss limits to right = record {
  in_range = right.in_range;
  sound = λ X inside. let at = right.sound X inside in (
    at.0,
    at.1,
    traded_for small other hit X
        (at.0) to (at.2),
    traded_for small other miss (million - X) (at.1) to (at.3),
  );
  near_complete = right.near_complete;
  exact = λ is. right.exact (to is);
}

-- what is wanted of both sides
abbrev pub IsBothWanted : Side → Side → ℕ → Type 0
IsBothWanted hit miss X = IsWanted hit X × IsWanted miss (million - X)

-- ---- outside of the small case

pub none_right : (hit miss : Side) → LieInside (IsBothWanted hit miss) None
    → AreRight ⊥ hit miss None
none_right hit miss lie = record {
  in_range = tt;
  sound = λ X inside. absurd inside;
  near_complete = λ X from to h m. lie X from to (h, m);
  exact = λ no. absurd no;
}

pub right_lies : (hit miss : Side) (limits : Option (ℕ × ℕ)) → AreRight ⊥ hit miss limits
    → LieInside (IsBothWanted hit miss) limits
right_lies hit miss limits right = λ X from to is. right.near_complete X from to (is.0) (is.1)

pub given_right : (hit miss : Side) (low high : ℕ) → IsWithinRange (Some (low, high))
    → CanBeTraded hit low high → CanBeTraded miss (million - high) (million - low)
    → LieInside (IsBothWanted hit miss) (Some (low, high)) → AreRight ⊥ hit miss (Some (low, high))
given_right hit miss low high range of_hit of_miss lie = record {
  in_range = range;
  sound = λ X inside.
      let l = inside.0 in
      let h = inside.1 in
      let t = of_hit X l h in
      let n = of_miss (million - X) (omega (arith, h)) (omega (arith, l)) in
      (t.0, n.0, t.1, n.1);
  near_complete = λ X from to h m. lie X from to (h, m);
  exact = λ no. absurd no;
}

pub right_traded : (hit miss : Side) (low high : ℕ) → AreRight ⊥ hit miss (Some (low, high))
    → CanBeTraded hit low high
right_traded hit miss low high right X from to = let at = right.sound X (from, to) in (at.0, at.2)

pub right_traded_miss : (hit miss : Side) (low high : ℕ) → AreRight ⊥ hit miss (Some (low, high))
    → CanBeTraded miss (million - high) (million - low)
right_traded_miss hit miss low high right Y from to =
    let range = right.in_range in
    let r0 = range.0 in
    let r1 = range.1 in
    let r2 = range.2 in
    let at = right.sound (million - Y) (omega (arith, to, r0, r1, r2), omega (arith, from, r2)) in
    let back : million - (million - Y) ≡ Y = omega (arith, to) in
    (at.1, subst (λ X. IsFairAndSolvent ⊥ miss X (at.1)) back (at.3))

-- ---- judgements of both parts together

module _ (bounds : Bounds) (hit miss : Side) where
  abbrev hit_near : Type 0
  hit_near = IsWantedNear (hit_side bounds) hit

  abbrev miss_near : Type 0
  miss_near = IsWantedNear (miss_side bounds) miss

  pub none_judges : (k : Judged) → Judges k (LieInside (IsBothWanted hit miss) None) (hit_near
      ⊎ miss_near) → Judges k (AreRight ⊥ hit miss None) (AreLimitsNear bounds hit miss None)
  none_judges k lie = judges_as k _ _ (hit_near ⊎ miss_near) _ (none_right hit miss)
      (right_lies hit miss None) (λ near. near) lie

  module _ (low high : ℕ) where
    abbrev may_trade : Type 0
    may_trade = IsWithinRange (Some (low, high)) × CanBeTraded hit low high × CanBeTraded miss
        (million - high) (million - low)

    abbrev hit_open : Type 0
    hit_open = IsIntervalNear (hit_side bounds) hit low high

    abbrev miss_open : Type 0
    miss_open = IsIntervalNear (miss_side bounds) miss (million - high) (million - low)

    known : (hit_open ⊎ miss_open) ⊎ (hit_near ⊎ miss_near) → AreLimitsNear bounds hit miss
        (Some (low, high))
    known (inl (inl near)) = inl (inl near)
    known (inl (inr near)) = inr (inl near)
    known (inr (inl near)) = inl (inr near)
    known (inr (inr near)) = inr (inr near)

    pub given_judges : (j k : Judged) → Judges j may_trade (hit_open ⊎ miss_open)
        → Judges k (LieInside (IsBothWanted hit miss) (Some (low, high))) (hit_near ⊎ miss_near)
        → Judges (both j k) (AreRight ⊥ hit miss (Some (low, high))) (AreLimitsNear bounds hit miss
        (Some (low, high)))
    given_judges j k trade lie =
        judges_as (both j k) (may_trade × LieInside (IsBothWanted hit miss) (Some (low, high))) _
        ((hit_open ⊎ miss_open) ⊎ (hit_near ⊎ miss_near)) _
        (λ h. given_right hit miss low high (h.0.0) (h.0.1) (h.0.2) (h.1))
        (λ right. (
          (
            right.in_range,
            right_traded hit miss low high right,
            right_traded_miss hit miss
                low high right,
          ),
          right_lies hit miss (Some (low, high)) right,
        ))
        known (judges_both j k may_trade _ (hit_open ⊎ miss_open) (hit_near ⊎ miss_near) trade lie)
