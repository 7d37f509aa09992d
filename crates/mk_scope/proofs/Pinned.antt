-- The values that the pairs of an event let the variables have.
use Rattle.std.proofs.Common.{◌≡◌, ℕ, zero, suc, ◌+◌, ◌<◌, Bool, true, false, cond, not, ◌&&◌, ◌||◌, ◌⊎◌, inl, inr, eqb, List, [], ◌∷◌, ◌++◌, length, get_or, take, drop, All, refl, sym, ap, subst, ◌∙◌, eq-eqb, ne_eqb}
use Rattle.std.specs.List.{list_all, list_any}
use Rattle.std.proofs.lemmas.Bool.{cases_eq, or_parts}
use Rattle.std.proofs.lemmas.List.{take-append-drop, drop_more}
use Rattle.std.proofs.lemmas.List.Elements.{All-head, All-tail}
use Rattle.std.proofs.lemmas.List.Folds.{list_all-append}
use Rattle.mk_net.specs.declared.words.Pair.{Pair}
use Rattle.mk_net.specs.Events.{speaks_of, AreApart}
use Rattle.mk_sums.specs.Sums.{listed}
use Rattle.mk_scope.specs.inner.Strides.{lets}

eqb_turned : (a b : ℕ) → eqb a b ≡ eqb b a
eqb_turned a b = at (cases_eq a b)
  where
    at : ((a ≡ b) ⊎ (a ≡ b → ⊥)) → eqb a b ≡ eqb b a
    at (inl e) = eq-eqb a b e ∙ sym (eq-eqb b a (sym e))
    at (inr d) = ne_eqb a b d ∙ sym (ne_eqb b a (λ e. d (sym e)))

-- one pair
abbrev pub lets_pair : Pair → ℕ → ℕ → Bool
lets_pair p x v = not (eqb p.variable x) || eqb v p.value

-- pairs that do not speak of a variable let it have each value
pub lets_rest : (ps : List Pair) (x v : ℕ) → speaks_of ps x ≡ false → lets ps x v ≡ true
lets_rest [] x v h = refl
lets_rest (p ∷ ps) x v h =
    let q = or_parts (eqb x p.variable) (speaks_of ps x) h in
    ap (λ b. (not b || eqb v p.value) && lets ps x v) (eqb_turned p.variable x ∙ q.0) ∙ lets_rest ps x v q.1

apart_drop : (ps : List Pair) → AreApart ps → (i : ℕ) → AreApart (drop i ps)
apart_drop ps h zero = h
apart_drop [] h (suc i) = h
apart_drop (p ∷ ps) h (suc i) = apart_drop ps h.1 i

pub lets_found : (ps : List Pair) → AreApart ps → (x i : ℕ) (d : Pair) → i < length ps → (get_or ps i d).variable ≡ x → ((v : ℕ) → lets (take i ps) x v ≡ true) → (v : ℕ) → lets ps x v ≡ eqb v (get_or ps i d).value
lets_found ps apart x i d l here h v =
    ap (λ (qs : List Pair). lets qs x v) (sym (take-append-drop i ps) ∙ ap (λ (qs : List Pair). take i ps ++ qs) (drop_more ps i d l))
    ∙ list_all-append (λ (p : Pair). lets_pair p x v) (take i ps) (get_or ps i d ∷ drop (i + 1) ps)
    ∙ ap (λ b. b && (lets_pair (get_or ps i d) x v && lets (drop (i + 1) ps) x v)) (h v)
    ∙ ap (λ b. (not b || eqb v (get_or ps i d).value) && lets (drop (i + 1) ps) x v) (eq-eqb (get_or ps i d).variable x here)
    ∙ ap (λ b. eqb v (get_or ps i d).value && b) (lets_rest (drop (i + 1) ps) x v rest) ∙ and_true (eqb v (get_or ps i d).value)
  where
    and_true : (b : Bool) → (b && true) ≡ b
    and_true true = refl
    and_true false = refl

    rest : speaks_of (drop (i + 1) ps) x ≡ false
    rest =
        let a : AreApart (get_or ps i d ∷ drop (i + 1) ps) = subst (λ (qs : List Pair). AreApart qs) (drop_more ps i d l) (apart_drop ps apart i) in
        ap (λ y. speaks_of (drop (i + 1) ps) y) (sym here) ∙ a.0

-- ---- an event holds where each variable has a value that it lets it have

list_all-both : (f g : ℕ → Bool) (xs : List ℕ) → list_all (λ x. f x && g x) xs ≡ (list_all f xs && list_all g xs)
list_all-both f g [] = refl
list_all-both f g (x ∷ xs) = ap (λ b. (f x && g x) && b) (list_all-both f g xs) ∙ crossed (f x) (g x) (list_all f xs) (list_all g xs)
  where
    crossed : (a b c d : Bool) → ((a && b) && (c && d)) ≡ ((a && c) && (b && d))
    crossed false b c d = refl
    crossed true false true d = refl
    crossed true false false d = refl
    crossed true true c d = refl

list_all-true : (xs : List ℕ) → list_all (λ x. true) xs ≡ true
list_all-true [] = refl
list_all-true (x ∷ xs) = list_all-true xs

-- a test of one variable's value, over all variables
one_variable : (y w : ℕ) (b : ℕ → ℕ) (xs : List ℕ) → list_all (λ x. not (eqb y x) || eqb (b x) w) xs ≡ cond (listed xs y) (eqb (b y) w) true
one_variable y w b [] = refl
one_variable y w b (x ∷ xs) = ap (λ t. (not (eqb y x) || eqb (b x) w) && t) (one_variable y w b xs) ∙ at (cases_eq y x)
  where
    twice : (l t : Bool) → (t && cond l t true) ≡ t
    twice true true = refl
    twice true false = refl
    twice false true = refl
    twice false false = refl

    at : ((y ≡ x) ⊎ (y ≡ x → ⊥)) → ((not (eqb y x) || eqb (b x) w) && cond (listed xs y) (eqb (b y) w) true) ≡ cond (eqb y x || listed xs y) (eqb (b y) w) true
    at (inl e) =
        ap (λ t. (not t || eqb (b x) w) && cond (listed xs y) (eqb (b y) w) true) (eq-eqb y x e)
        ∙ ap (λ z. eqb (b z) w && cond (listed xs y) (eqb (b y) w) true) (sym e)
        ∙ twice (listed xs y) (eqb (b y) w)
        ∙ ap (λ t. cond (t || listed xs y) (eqb (b y) w) true) (sym (eq-eqb y x e))
    at (inr d) =
        ap (λ t. (not t || eqb (b x) w) && cond (listed xs y) (eqb (b y) w) true) (ne_eqb y x d)
        ∙ ap (λ t. cond (t || listed xs y) (eqb (b y) w) true) (sym (ne_eqb y x d))

pub holds_by_values : (event : List Pair) (xs : List ℕ) (b : ℕ → ℕ) → All (λ (p : Pair). listed xs p.variable ≡ true) event
    → list_all (λ (p : Pair). eqb (b p.variable) p.value) event ≡ list_all (λ x. lets event x (b x)) xs
holds_by_values [] xs b h = sym (list_all-true xs)
holds_by_values (p ∷ ps) xs b h =
    ap (λ t. t && list_all (λ (q : Pair). eqb (b q.variable) q.value) ps)
    (sym (one_variable p.variable p.value b xs ∙ ap (λ t. cond t (eqb (b p.variable) p.value) true) (All-head (λ (q : Pair). listed xs q.variable ≡ true) p ps h)))
    ∙ ap (λ t. list_all (λ x. not (eqb p.variable x) || eqb (b x) p.value) xs && t) (holds_by_values ps xs b (All-tail (λ (q : Pair). listed xs q.variable ≡ true) p ps h))
    ∙ sym (list_all-both (λ x. not (eqb p.variable x) || eqb (b x) p.value) (λ x. lets ps x (b x)) xs)

pub listed_by_any : (xs : List ℕ) (x : ℕ) → list_any (λ y. eqb y x) xs ≡ listed xs x
listed_by_any [] x = refl
listed_by_any (y ∷ ys) x = ap (λ b. b || list_any (λ z. eqb z x) ys) (eqb_turned y x) ∙ ap (λ b. eqb x y || b) (listed_by_any ys x)
