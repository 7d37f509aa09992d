-- Judgements of single comparisons, and of several together.
use Rattle.std.proofs.Common.{◌≡◌, ℕ, ◌<◌, ◌≤◌, ◌⊎◌, refl, inl, inr, arith}
use Rattle.std.proofs.Common.{Bool, true, false, Decides}
use Rattle.std.proofs.lemmas.Bool.{false≢true}
use Rattle.mk_judge.specs.declared.comparing.Compared.{Compared}
use Rattle.mk_judge.specs.declared.comparing.Compared.TheVariants.{AtMost, Above, Unsure}
use Rattle.mk_judge.specs.declared.judged.Judged.{Judged}
use Rattle.mk_judge.specs.declared.judged.Judged.TheVariants.{Allowed, Wrong, Unclear}
use Rattle.mk_judge.specs.Compared.{Says, where_at_most, where_above}
use Rattle.mk_judge.specs.Judged.{Judges, both, where_true}

pub judges_at_most : (c : Compared) (a b : ℕ) (otherwise : Type 0) → Says c a b otherwise → Judges (where_at_most c) (a ≤ b) otherwise
judges_at_most AtMost a b otherwise says = says
judges_at_most Above a b otherwise says = λ le. omega (arith, says, le)
judges_at_most Unsure a b otherwise says = says

pub judges_above : (c : Compared) (a b : ℕ) (otherwise : Type 0) → Says c a b otherwise → Judges (where_above c) (b < a) otherwise
judges_above AtMost a b otherwise says = λ less. omega (arith, says, less)
judges_above Above a b otherwise says = says
judges_above Unsure a b otherwise says = says

pub judges_both : (j k : Judged) (P Q M N : Type 0) → Judges j P M → Judges k Q N → Judges (both j k) (P × Q) (M ⊎ N)
judges_both Allowed Allowed P Q M N p q = (p, q)
judges_both Allowed Wrong P Q M N p q = λ all. q (all.1)
judges_both Allowed Unclear P Q M N p q = inr q
judges_both Wrong k P Q M N p q = λ all. p (all.0)
judges_both Unclear Allowed P Q M N p q = inl p
judges_both Unclear Wrong P Q M N p q = λ all. q (all.1)
judges_both Unclear Unclear P Q M N p q = inl p

-- of a statement that is the same, with something else known
pub judges_as : (j : Judged) (P Q M N : Type 0) → (P → Q) → (Q → P) → (M → N) → Judges j P M → Judges j Q N
judges_as Allowed P Q M N to from known p = to p
judges_as Wrong P Q M N to from known p = λ q. p (from q)
judges_as Unclear P Q M N to from known p = known p

-- of four statements
pub judges_four : (j k l m : Judged) (P Q R S M N O T : Type 0) → Judges j P M → Judges k Q N → Judges l R O → Judges m S T
    → Judges (both (both (both j k) l) m) (P × Q × R × S) (M ⊎ (N ⊎ (O ⊎ T)))
judges_four j k l m P Q R S M N O T p q r s =
    judges_as (both (both (both j k) l) m) (((P × Q) × R) × S) (P × Q × R × S) (((M ⊎ N) ⊎ O) ⊎ T) (M ⊎ (N ⊎ (O ⊎ T)))
    (λ all. (all.0.0.0, all.0.0.1, all.0.1, all.1)) (λ all. (((all.0, all.1), all.2), all.3)) known
    (judges_both (both (both j k) l) m ((P × Q) × R) S ((M ⊎ N) ⊎ O) T
    (judges_both (both j k) l (P × Q) R (M ⊎ N) O (judges_both j k P Q M N p q) r) s)
  where
    known : ((M ⊎ N) ⊎ O) ⊎ T → M ⊎ (N ⊎ (O ⊎ T))
    known (inl (inl (inl a))) = inl a
    known (inl (inl (inr a))) = inr (inl a)
    known (inl (inr a)) = inr (inr (inl a))
    known (inr a) = inr (inr (inr a))

-- what a comparison says of numbers that are equal to others, with something else known
pub says_as : (c : Compared) (a b a' b' : ℕ) (M N : Type 0) → a ≡ a' → b ≡ b' → (M → N) → Says c a b M → Says c a' b' N
says_as AtMost a b a' b' M N same same' known says = omega (arith, same, same', says)
says_as Above a b a' b' M N same same' known says = omega (arith, same, same', says)
says_as Unsure a b a' b' M N same same' known says = known says

-- by the three clauses of a judge
pub judges_of : (j : Judged) (P N : Type 0) → (j ≡ Allowed → P) → (j ≡ Wrong → P → ⊥)
    → (j ≡ Unclear → N) → Judges j P N
judges_of Allowed P N allowed wrong unclear = allowed refl
judges_of Wrong P N allowed wrong unclear = wrong refl
judges_of Unclear P N allowed wrong unclear = unclear refl

-- by a test that decides the statement
pub judges_test : (test : Bool) (P : Type 0) → Decides test P → Judges (where_true test) P ⊥
judges_test true P decides = decides.0 refl
judges_test false P decides = λ p. false≢true (decides.1 p)
