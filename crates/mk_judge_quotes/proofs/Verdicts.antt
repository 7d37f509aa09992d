-- Judgements by what a judge says.
use Rattle.std.proofs.Common.{◌≡◌, ◌⊎◌, inl, inr, refl}
use Rattle.mk_judge.specs.declared.judged.Judged.{Judged}
use Rattle.mk_judge.specs.declared.judged.Judged.TheVariants.{Allowed, Wrong, Unclear}
use Rattle.mk_judge.specs.Judged.{Judges}
use Rattle.mk_judge.proofs.Judging.{judges_as}

-- by the three clauses of a judge
pub judges_by : (j : Judged) (S O : Type 0) → (j ≡ Allowed → S) → (j ≡ Wrong → S → ⊥)
    → (j ≡ Unclear → O) → Judges j S O
judges_by Allowed S O allowed wrong unclear = allowed refl
judges_by Wrong S O allowed wrong unclear = wrong refl
judges_by Unclear S O allowed wrong unclear = unclear refl

-- what is left of what is inside, or beyond it
inside_of : (I T B : Type 0) → (B → I → ⊥) → I → (I × T) ⊎ B → T
inside_of I T B apart inside (inl trade) = trade.1
inside_of I T B apart inside (inr beyond) = absurd (apart beyond inside)

beyond_of : (I T B : Type 0) → (I → ⊥) → (I × T) ⊎ B → B
beyond_of I T B outside (inl trade) = absurd (outside trade.0)
beyond_of I T B outside (inr beyond) = beyond

left_of : (T R : Type 0) → (R → ⊥) → T ⊎ R → T
left_of T R never (inl trade) = trade
left_of T R never (inr refused) = absurd (never refused)

-- inside of what was quoted a reply is judged as a trade
pub judges_inside : (j : Judged) (I T B O : Type 0) → (B → I → ⊥) → I → Judges j T O
    → Judges j ((I × T) ⊎ B) O
judges_inside j I T B O apart inside = judges_as j T ((I × T) ⊎ B) O O
    (λ trade. inl (inside, trade)) (inside_of I T B apart inside) (λ o. o)

-- outside of it as a refusal, of which nothing is left open
pub judges_beyond : (j : Judged) (I T B E O : Type 0) → (I → ⊥) → (E → B) → (B → E) → Judges j E ⊥
    → Judges j ((I × T) ⊎ B) O
judges_beyond j I T B E O outside to from =
    judges_as j E ((I × T) ⊎ B) ⊥ O (λ e. inr (to e)) (λ h. from (beyond_of I T B outside h))
    (λ never. absurd never)

-- and where nothing was quoted as a trade, if it is no refusal
pub judges_alone : (j : Judged) (T R O : Type 0) → (R → ⊥) → Judges j T O → Judges j (T ⊎ R) O
judges_alone j T R O never = judges_as j T (T ⊎ R) O O (λ trade. inl trade) (left_of T R never)
    (λ o. o)
