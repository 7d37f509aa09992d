-- Each ratio is in one group alone.
use Rattle.std.proofs.Common.{◌≡◌, ℕ, suc, zero, ◌*◌, Bool, true, false, cond, ◌⊎◌, inl, inr}
use Rattle.std.proofs.Common.{List, [], ◌∷◌, refl, ap, ◌∙◌, arith}
use Rattle.std.specs.List.{AllByRecursion}
use Rattle.std.proofs.lemmas.Bool.{cases_Bool}
use Rattle.std.proofs.lemmas.List.Elements.{recursion_from_All}
use Rattle.mk_states.specs.States.{product_by}
use Rattle.mk_sums.specs.There.{ratio_there}
use Rattle.mk_user_engine.specs.declared.group.Group.{Group}
use Rattle.mk_user_engine.specs.declared.narrow.PlacedRatio.{PlacedRatio}
use Rattle.mk_user_engine.specs.Names.{is_named}
use Rattle.mk_user_engine.specs.Narrow.{ratio_in, product_of}
use Rattle.mk_user_engine.specs.Grouped.{AreDisjoint, names_of, names, IsGathered}
use Rattle.mk_user_engine.specs.Shared.{ratios_of, RatiosAreShared}

-- a number in the groups that name a variable, 1 in the others
abbrev once : ℕ → ℕ → Group → ℕ
once r x g = cond (is_named g.names.items x) r 1

once_none : (gs : List Group) (r x : ℕ) → ((k : ℕ) → names gs k x ≡ false)
    → product_by (once r x) gs ≡ 1
once_none [] r x none = refl
once_none (g ∷ gs) r x none =
    ap (λ b. cond b r 1 * product_by (once r x) gs) (none 0)
    ∙ ap (λ n. 1 * n) (once_none gs r x (λ k. none (suc k)))

once_there : (gs : List Group) (r x k : ℕ) → AreDisjoint (names_of gs) → names gs k x ≡ true
    → product_by (once r x) gs ≡ r
once_there [] r x k apart e = absurd (cc)
once_there (g ∷ gs) r x zero apart e =
    let rest = once_none gs r x (λ k. others k (cases_Bool (names gs k x))) in
    ap (λ b. cond b r 1 * product_by (once r x) gs) e ∙ ap (λ n. r * n) rest ∙ omega arith
  where
    others : (k : ℕ) → ((names gs k x ≡ true) ⊎ (names gs k x ≡ false)) → names gs k x ≡ false
    others k (inl h) = let i = apart x 0 (suc k) e h in absurd (omega (arith, i))
    others k (inr h) = h
once_there (g ∷ gs) r x (suc k) apart e =
    let rest = once_there gs r x k (λ y i j a b. let s = apart y (suc i) (suc j) a b in omega (
      arith,
      s,
    )) e in
    ap (λ b. cond b r 1 * product_by (once r x) gs) (first (cases_Bool (is_named g.names.items x)))
    ∙ ap (λ n. 1 * n) rest ∙ omega arith
  where
    first : ((is_named g.names.items x ≡ true) ⊎ (is_named g.names.items x ≡ false))
        → is_named g.names.items x ≡ false
    first (inl h) = let i = apart x 0 (suc k) h e in absurd (omega (arith, i))
    first (inr h) = h

-- one ratio more, in one group
one_more : (t : PlacedRatio) (ts : List PlacedRatio) (a : ℕ → ℕ) (b : Bool)
    → product_of (cond b (t ∷ ts) ts) a ≡ cond b (ratio_there (ratio_in t) a) 1 * product_of ts a
one_more t ts a true = refl
one_more t ts a false = omega arith

of_groups : (gs : List Group) (t : PlacedRatio) (ts : List PlacedRatio) (a : ℕ → ℕ)
    → product_by (λ (g : Group). product_of (ratios_of (t ∷ ts) g) a) gs
    ≡ product_by (once (ratio_there (ratio_in t) a) (ratio_in t).variable) gs
    * product_by (λ (g : Group). product_of (ratios_of ts g) a) gs
of_groups [] t ts a = refl
of_groups (g ∷ gs) t ts a =
    let here = one_more t (ratios_of ts g) a (is_named g.names.items (ratio_in t).variable) in
    let rest = of_groups gs t ts a in
    ap (λ n. n * product_by (λ (h : Group). product_of (ratios_of (t ∷ ts) h) a) gs) here
    ∙ ap (λ n. once (ratio_there (ratio_in t) a) (ratio_in t).variable g
    * product_of (ratios_of ts g) a * n) rest
    ∙ crossed (once (ratio_there (ratio_in t) a) (ratio_in t).variable g)
    (product_of (ratios_of ts g) a)
    (product_by (once (ratio_there (ratio_in t) a) (ratio_in t).variable) gs)
    (product_by (λ (h : Group). product_of (ratios_of ts h) a) gs)
  where
    crossed : (p q r s : ℕ) → p * q * (r * s) ≡ p * r * (q * s)
    crossed p q r s = omega arith

ones : (gs : List Group) (a : ℕ → ℕ)
    → product_by (λ (g : Group). product_of (ratios_of [] g) a) gs ≡ 1
ones [] a = refl
ones (g ∷ gs) a = ap (λ n. 1 * n) (ones gs a)

shared_each : (gs : List Group) (ts : List PlacedRatio) (a : ℕ → ℕ) → AreDisjoint (names_of gs)
    → AllByRecursion (λ (t : PlacedRatio). IsGathered gs (ratio_in t)) ts
    → product_by (λ (g : Group). product_of (ratios_of ts g) a) gs ≡ product_of ts a
shared_each gs [] a apart h = ones gs a
shared_each gs (t ∷ ts) a apart h =
    let is = h.0 in let r = ratio_there (ratio_in t) a in
    of_groups gs t ts a
    ∙ ap (λ n. n * product_by (λ (g : Group). product_of (ratios_of ts g) a) gs)
    (once_there gs r (ratio_in t).variable is.place apart is.variable)
    ∙ ap (λ n. r * n) (shared_each gs ts a apart h.1)

pub shared : RatiosAreShared
shared gs ts a apart h =
    shared_each gs ts a apart
    (recursion_from_All (λ (t : PlacedRatio). IsGathered gs (ratio_in t)) ts h)
