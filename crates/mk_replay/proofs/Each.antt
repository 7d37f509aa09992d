-- The assets of all users take one entry: those of its own user.
use Rattle.std.proofs.Common.{◌≡◌, ◌⊎◌, inl, inr, ℕ, zero, suc, ◌<◌, ◌≤◌, List, [], ◌∷◌}
use Rattle.std.proofs.Common.{◌++◌, Option, cond, eqb, ne_eqb, length, refl, sym, ap, subst}
use Rattle.std.proofs.Common.{◌∙◌, arith}
use Rattle.std.specs.Prelude.{Some, None, slice_get, slice_set, slice_index_or}
use Rattle.std.proofs.lemmas.Option.{slice_get-get_or, slice_get_within}
use Rattle.mk_exact.specs.History.{Entry, Join, Deposit, Withdraw, Trade, Resolve, Settle, Add}
use Rattle.mk_engine.specs.Meaning.{Meaning}
use Rattle.mk_assets.specs.declared.assets.Assets.{Assets}
use Rattle.mk_assets.specs.Holdings.{Holding, Holds, with_trade, with_deposit, with_withdrawal}
use Rattle.mk_assets.proofs.Learning.{held_further}
use Rattle.mk_replay.specs.Each.{HoldAll}
use Rattle.mk_replay.specs.inner.Taking.{grown_holding, user_of}

-- what is read at a place in range
pub read_at : {X : Type 0} (xs : List X) (i : ℕ) (x : X) → i < length xs
    → x ≡ slice_index_or xs i x → slice_get xs i ≡ Some x
read_at {X} xs i x within e = slice_get-get_or xs i x within ∙ ap (λ (y : X). Some y) (sym e)

-- what stands at a place after a write
pub set_cases : {X : Type 0} (xs : List X) (i k : ℕ) (y x : X)
    → slice_get (slice_set xs i y) k ≡ Some x
    → ((k ≡ i) × (y ≡ x)) ⊎ ((k ≡ i → ⊥) × (slice_get xs k ≡ Some x))
set_cases [] i k y x e = cc
set_cases (a ∷ xs) zero zero y x e = inl (refl, cc)
set_cases (a ∷ xs) zero (suc k) y x e = inr (λ same. absurd (omega (arith, same)), e)
set_cases (a ∷ xs) (suc i) zero y x e = inr (λ same. absurd (omega (arith, same)), e)
set_cases (a ∷ xs) (suc i) (suc k) y x e = later (set_cases xs i k y x e)
  where
    later : ((k ≡ i) × (y ≡ x)) ⊎ ((k ≡ i → ⊥) × (slice_get xs k ≡ Some x))
        → ((suc k ≡ suc i) × (y ≡ x)) ⊎ ((suc k ≡ suc i → ⊥) × (slice_get xs k ≡ Some x))
    later (inl h) = inl (ap suc (h.0), h.1)
    later (inr h) = inr (λ same. h.0 (omega (arith, same)), h.1)

-- and after a push
pub push_cases : {X : Type 0} (xs : List X) (k : ℕ) (y x : X) → slice_get (xs ++ y ∷ []) k ≡ Some x
    → ((k ≡ length xs) × (y ≡ x)) ⊎ (slice_get xs k ≡ Some x)
push_cases [] zero y x e = inl (refl, cc)
push_cases [] (suc k) y x e = cc
push_cases (a ∷ xs) zero y x e = inr e
push_cases (a ∷ xs) (suc k) y x e = later (push_cases xs k y x e)
  where
    later : ((k ≡ length xs) × (y ≡ x)) ⊎ (slice_get xs k ≡ Some x)
        → ((suc k ≡ length (a ∷ xs)) × (y ≡ x)) ⊎ (slice_get xs k ≡ Some x)
    later (inl h) = inl (omega (arith, h.0), h.1)
    later (inr h) = inr h

module _ {E P : Type 0} (stands_for : E → Meaning → Type 0) (assets : Assets E P) (u : ℕ)
    (h : Holding) where
  unless_own : (user : ℕ) (grown : Holding) → (Some user ≡ Some u → ⊥) → Holds stands_for assets h
      → Holds stands_for assets (cond (eqb user u) grown h)
  unless_own user grown other held =
      rw (ne_eqb user u (λ same. other (ap (λ (n : ℕ). Some n) same))) held

  -- an entry leaves what others than its own user hold
  others_keep : (e : Entry) → (user_of e ≡ Some u → ⊥) → Holds stands_for assets h
      → Holds stands_for assets (grown_holding u e h)
  others_keep (Join name) other held = held
  others_keep (Deposit user bits) other held = unless_own user (with_deposit bits h) other held
  others_keep (Withdraw user bits) other held =
      unless_own user (with_withdrawal bits h) other held
  others_keep (Trade user ratio) other held = unless_own user (with_trade ratio h) other held
  others_keep (Resolve pair) other held = held_further stands_for assets h pair held
  others_keep (Settle payments) other held = held
  others_keep (Add addition) other held = held

same_user : {found : Option ℕ} (u k : ℕ) → found ≡ Some u → found ≡ Some k → u ≡ k
same_user u k its own = cc

-- no user is nobody
pub no_user : (found : Option ℕ) → None ≡ found → (u : ℕ) → found ≡ Some u → ⊥
no_user found none u its = absurd (cc)

-- a user past the end is nobody in the list
pub past_end : (k n : ℕ) (found : Option ℕ) → n ≤ k → Some k ≡ found → (u : ℕ) → u < n
    → found ≡ Some u → ⊥
past_end k n found past own u within its =
    let same : k ≡ u = cc in absurd (omega (arith, past, within, same))

module _ {E P : Type 0} (stands_for : E → Meaning → Type 0) (holding : ℕ → Holding) where
  -- one user more
  pub one_more : (all : List (Assets E P)) (user : ℕ) (own : Assets E P) → length all ≡ user
      → HoldAll stands_for holding all → Holds stands_for own (holding user)
      → HoldAll stands_for holding (all ++ own ∷ [])
  one_more all user own count held new u assets at = each (push_cases all u own assets at)
    where
      each : ((u ≡ length all) × (own ≡ assets)) ⊎ (slice_get all u ≡ Some assets)
          → Holds stands_for assets (holding u)
      each (inl h) =
          subst (λ (n : ℕ). Holds stands_for assets (holding n)) (sym (h.0 ∙ count))
          (subst (λ (x : Assets E P). Holds stands_for x (holding user)) h.1 new)
      each (inr e) = held u assets e

  module _ (e : Entry) where
    -- the assets of its own user have taken an entry
    pub own_taken : (k : ℕ) (all : List (Assets E P)) (new : Assets E P) → user_of e ≡ Some k
        → HoldAll stands_for holding all → Holds stands_for new (grown_holding k e (holding k))
        → HoldAll stands_for (λ u. grown_holding u e (holding u)) (slice_set all k new)
    own_taken k all new is_own held own u assets at = each (set_cases all k u new assets at)
      where
        each : ((u ≡ k) × (new ≡ assets)) ⊎ ((u ≡ k → ⊥) × (slice_get all u ≡ Some assets))
            → Holds stands_for assets (grown_holding u e (holding u))
        each (inl h) =
            subst (λ (n : ℕ). Holds stands_for assets (grown_holding n e (holding n))) (sym h.0)
            (subst (λ (x : Assets E P). Holds stands_for x (grown_holding k e (holding k))) h.1
            own)
        each (inr h) =
            let other : user_of e ≡ Some u → ⊥ = λ its. h.0 (same_user u k its is_own) in
            others_keep stands_for assets u (holding u) e other (held u assets h.1)

    -- none of them is its user
    pub none_taken : (all : List (Assets E P))
        → ((u : ℕ) → u < length all → user_of e ≡ Some u → ⊥) → HoldAll stands_for holding all
        → HoldAll stands_for (λ u. grown_holding u e (holding u)) all
    none_taken all nobody held u assets at =
        others_keep stands_for assets u (holding u) e
        (nobody u (slice_get_within all u assets at)) (held u assets at)
