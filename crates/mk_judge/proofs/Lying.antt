-- What ends of the shares that are meant say of limits.
use Rattle.std.proofs.Common.{◌≡◌, ℕ, ◌-◌, ◌<◌, ◌≤◌, ◌⊎◌, min, max, Option, Some, None, inl, inr}
use Rattle.std.proofs.Common.{arith, le_refl, le_trans}
use Rattle.std.proofs.lemmas.Bool.{cases_lt}
use Rattle.mk_net.specs.Bounds.{million}
use Rattle.mk_judge.specs.declared.judged.Judged.{Judged}
use Rattle.mk_judge.specs.declared.judged.Judged.TheVariants.{Allowed, Wrong, Unclear}
use Rattle.mk_judge.specs.declared.wanted.Wanted.{Wanted}
use Rattle.mk_judge.specs.Judged.{Judges}
use Rattle.mk_judge.specs.Wanted.{HasEnds, LieInside}
use Rattle.mk_judge.specs.inner.Within.{AllInside, SomeOutside, SaysInside}

-- a share within the inner ends is meant
pub meant_within : (wanted : Wanted) (IsMeant : ℕ → Type 0) (otherwise : Type 0)
    → HasEnds wanted IsMeant otherwise → (X : ℕ) → wanted.inner_low ≤ X → X ≤ wanted.inner_high
    → (1 ≤ X) × (X ≤ 999999) × IsMeant X
meant_within wanted IsMeant otherwise ends X from to =
    let p = wanted.positive in
    let o = wanted.low in
    let h = wanted.high in
    let m = wanted.high_at_most in
    (omega (arith, p, o, from), omega (arith, to, h, m), ends.inner X from to)

-- a judgement of the ends is one of the shares
pub inside_judges : (j : Judged) (wanted : Wanted) (limits : Option (ℕ × ℕ)) (IsMeant : ℕ → Type 0)
    (otherwise : Type 0) → HasEnds wanted IsMeant otherwise → SaysInside j wanted limits
    → Judges j (LieInside IsMeant limits) otherwise
inside_judges Allowed wanted limits IsMeant otherwise ends says = λ X from to is. let at =
    ends.outer X from to is in says X (at.0) (at.1)
inside_judges Wrong wanted limits IsMeant otherwise ends says = λ lie.
    let at = meant_within wanted IsMeant otherwise ends (says.0) (says.1) (says.2) in
    says.3 (lie (says.0) (at.0) (at.1) (at.2))
inside_judges Unclear wanted limits IsMeant otherwise ends says = elim says
    [ inl apart ↦ ends.low apart | inr apart ↦ ends.high apart ]

-- ends that lie together leave nothing open
pub ends_apart : (wanted : Wanted) (limits : Option (ℕ × ℕ)) → SomeOutside wanted.outer_low
    wanted.outer_high limits → AllInside wanted.inner_low wanted.inner_high limits
    → (wanted.outer_low < wanted.inner_low) ⊎ (wanted.inner_high < wanted.outer_high)
ends_apart wanted limits outside inside = elim (cases_lt wanted.outer_low wanted.inner_low) [
  | inl less ↦ inl less
  | inr same ↦ elim (cases_lt wanted.inner_high wanted.outer_high) [
    | inl less ↦ inr less
    | inr same' ↦ absurd (let X = outside.0 in outside.3 (inside X (le_trans same (outside.1))
        (le_trans (outside.2) same')))
  ]
]

-- ---- one interval against limits

pub all_inside : (from to low high : ℕ) → low ≤ from → to ≤ high → AllInside from to
    (Some (low, high))
all_inside from to low high l h X f t = (le_trans l f, le_trans t h)

pub none_between : (from to : ℕ) (limits : Option (ℕ × ℕ)) → to < from → AllInside from to limits
none_between from to limits past X f t = absurd (omega (arith, past, f, t))

pub one_outside : (from to : ℕ) → from ≤ to → SomeOutside from to None
one_outside from to order = (from, le_refl from, order, λ i. i)

pub low_outside : (from to low high : ℕ) → from ≤ to → from < low → SomeOutside from to
    (Some (low, high))
low_outside from to low high order past = (
  from,
  le_refl from,
  order,
  λ i. let l = i.0
      in omega (arith, l, past),
)

pub high_outside : (from to low high : ℕ) → from ≤ to → high < to → SomeOutside from to
    (Some (low, high))
high_outside from to low high order past = (
  to,
  order,
  le_refl to,
  λ i. let l = i.1 in omega (
    arith,
    l,
    past,
  ),
)

-- ---- the shares of both sides

pub both_ends : (wanted hit miss : Wanted) (IsHit IsMiss : ℕ → Type 0) (of_hit of_miss : Type 0)
    → HasEnds hit IsHit of_hit → HasEnds miss IsMiss of_miss
    → wanted.outer_low ≡ max hit.outer_low (1000000 - miss.outer_high)
    → wanted.inner_low ≡ max hit.inner_low (1000000 - miss.inner_high)
    → wanted.inner_high ≡ min hit.inner_high (1000000 - miss.inner_low)
    → wanted.outer_high ≡ min hit.outer_high (1000000 - miss.outer_low)
    → HasEnds wanted (λ X. IsHit X × IsMiss (million - X)) (of_hit ⊎ of_miss)
both_ends wanted hit miss IsHit IsMiss of_hit of_miss hits misses a b d e = record {
  outer = λ X from to is.
      let h = hits.outer X from to (is.0) in
      let h0 = h.0 in
      let h1 = h.1 in
      let m = misses.outer (million - X) (omega (arith, to)) (omega (arith, from)) (is.1) in
      let m0 = m.0 in
      let m1 = m.1 in
      (omega (arith, a, h0, m1), omega (arith, e, h1, m0, from, to));
  inner = λ X from to.
      let m0 = miss.positive in
      let m1 = miss.low in
      let m2 = miss.high in
      let m3 = miss.high_at_most in (
        hits.inner X (omega (arith, b, from)) (omega (arith, d, to)),
        misses.inner (million - X) (omega (arith, d, to, m0, m1)) (omega (arith, b, from, m2, m3)),
      );
  low = λ apart. elim (cases_lt hit.outer_low hit.inner_low) [
    | inl less ↦ inl (hits.low less)
    | inr same ↦ inr (misses.high (omega (arith, a, b, apart, same)))
  ];
  high = λ apart. elim (cases_lt hit.inner_high hit.outer_high) [
    | inl less ↦ inl (hits.high less)
    | inr same ↦ inr (misses.low (omega (arith, d, e, apart, same)))
  ];
}
