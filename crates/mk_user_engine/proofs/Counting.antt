-- Each ratio counts in one group alone.
use Rattle.std.proofs.Common.{◌≡◌, ℕ, suc, zero, ◌+◌, Bool, true, false, cond, ◌⊎◌, inl, inr}
use Rattle.std.proofs.Common.{List, [], ◌∷◌, All, length, sum_by, refl, ap, arith}
use Rattle.std.specs.List.{AllByRecursion}
use Rattle.std.proofs.lemmas.Bool.{cases_Bool}
use Rattle.std.proofs.lemmas.List.Sums.{sum_by-cons}
use Rattle.std.proofs.lemmas.List.Elements.{recursion_from_All}
use Rattle.mk_user_engine.specs.declared.group.Group.{Group}
use Rattle.mk_user_engine.specs.declared.narrow.PlacedRatio.{PlacedRatio}
use Rattle.mk_user_engine.specs.Names.{is_named}
use Rattle.mk_user_engine.specs.Narrow.{ratio_in}
use Rattle.mk_user_engine.specs.Grouped.{AreDisjoint, names_of, names, IsGathered}
use Rattle.mk_user_engine.specs.Shared.{ratios_of}
use Rattle.mk_user_engine.specs.Kept.{trades_in}
use Rattle.mk_user_engine.specs.GroupBelief.{trades_of}

-- 1 for the groups that name a variable
abbrev one_if : ℕ → Group → ℕ
one_if x g = cond (is_named g.names.items x) 1 0

none_names : (gs : List Group) (x : ℕ) → ((k : ℕ) → names gs k x ≡ false)
    → sum_by (one_if x) gs ≡ 0
none_names [] x none = refl
none_names (g ∷ gs) x none =
    let s = sum_by-cons (one_if x) g gs in
    let here : one_if x g ≡ 0 = ap (λ b. cond b 1 0) (none 0) in
    let rest = none_names gs x (λ k. none (suc k)) in
    omega (arith, s, here, rest)

one_names : (gs : List Group) (x k : ℕ) → AreDisjoint (names_of gs) → names gs k x ≡ true
    → sum_by (one_if x) gs ≡ 1
one_names [] x k apart e = absurd (cc)
one_names (g ∷ gs) x zero apart e =
    let s = sum_by-cons (one_if x) g gs in
    let here : one_if x g ≡ 1 = ap (λ b. cond b 1 0) e in
    let rest = none_names gs x (λ k. others k (cases_Bool (names gs k x))) in
    omega (arith, s, here, rest)
  where
    others : (k : ℕ) → ((names gs k x ≡ true) ⊎ (names gs k x ≡ false)) → names gs k x ≡ false
    others k (inl h) = let i = apart x 0 (suc k) e h in absurd (omega (arith, i))
    others k (inr h) = h
one_names (g ∷ gs) x (suc k) apart e =
    let s = sum_by-cons (one_if x) g gs in
    let here : one_if x g ≡ 0 =
    ap (λ b. cond b 1 0) (first (cases_Bool (is_named g.names.items x))) in
    let rest = one_names gs x k (λ y i j a b. let s = apart y (suc i) (suc j) a b in omega (
      arith,
      s,
    )) e in
    omega (arith, s, here, rest)
  where
    first : ((is_named g.names.items x ≡ true) ⊎ (is_named g.names.items x ≡ false))
        → is_named g.names.items x ≡ false
    first (inl h) = let i = apart x 0 (suc k) h e in absurd (omega (arith, i))
    first (inr h) = h

longer : (t : PlacedRatio) (ts : List PlacedRatio) (b : Bool)
    → length (cond b (t ∷ ts) ts) ≡ cond b 1 0 + length ts
longer t ts true = omega arith
longer t ts false = omega arith

one_more : (gs : List Group) (t : PlacedRatio) (ts : List PlacedRatio)
    → trades_of (t ∷ ts) gs ≡ sum_by (one_if (ratio_in t).variable) gs + trades_of ts gs
one_more [] t ts = refl
one_more (g ∷ gs) t ts =
    let all = sum_by-cons (trades_in (t ∷ ts)) g gs in
    let ones = sum_by-cons (one_if (ratio_in t).variable) g gs in
    let rest = sum_by-cons (trades_in ts) g gs in
    let here : trades_in (t ∷ ts) g ≡ one_if (ratio_in t).variable g + trades_in ts g =
    longer t (ratios_of ts g) (is_named g.names.items (ratio_in t).variable) in
    let later = one_more gs t ts in
    omega (arith, all, ones, rest, here, later)

none_yet : (gs : List Group) → trades_of [] gs ≡ 0
none_yet [] = refl
none_yet (g ∷ gs) =
    let s = sum_by-cons (trades_in []) g gs in let r = none_yet gs in omega (arith, s, r)

each_counts : (gs : List Group) (ts : List PlacedRatio) → AreDisjoint (names_of gs)
    → AllByRecursion (λ (t : PlacedRatio). IsGathered gs (ratio_in t)) ts
    → trades_of ts gs ≡ length ts
each_counts gs [] apart h = none_yet gs
each_counts gs (t ∷ ts) apart h =
    let is = h.0 in
    let more = one_more gs t ts in
    let one = one_names gs (ratio_in t).variable is.place apart is.variable in
    let rest = each_counts gs ts apart h.1 in
    omega (arith, more, one, rest)

pub counts : (gs : List Group) (ts : List PlacedRatio) → AreDisjoint (names_of gs)
    → All (λ (t : PlacedRatio). IsGathered gs (ratio_in t)) ts → trades_of ts gs ≡ length ts
counts gs ts apart h =
    each_counts gs ts apart
    (recursion_from_All (λ (t : PlacedRatio). IsGathered gs (ratio_in t)) ts h)
