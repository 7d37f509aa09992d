-- Two lists of names as one: the cells of the second are told apart by what the first one's leave.
use Rattle.std.proofs.Common.{◌≡◌, ℕ, suc, zero, ◌+◌, ◌*◌, ◌/◌, ◌%◌, ◌<◌, ◌≤◌, Bool, true, false}
use Rattle.std.proofs.Common.{cond}
use Rattle.std.proofs.Common.{not, ◌&&◌, ◌||◌, ◌==◌, ◌⊎◌, inl, inr}
use Rattle.std.proofs.Common.{List, [], ◌∷◌, ◌++◌, refl, sym, ap, subst, ◌∙◌, arith}
use Rattle.std.specs.List.{AllByRecursion}
use Rattle.std.proofs.Math.Nat.{div-div-eq-div-mul, div-add-mod, add-mul-mod_self_left}
use Rattle.std.proofs.Math.Nat.{add-mul-div_left}
use Rattle.std.proofs.Math.Nat.{mul-zero, one-le-mul, mul_comm}
use Rattle.std.proofs.lemmas.Nat.{div-mul-add, mod-mul-add}
use Rattle.std.proofs.lemmas.Bool.{cases_Bool, false_from_ne_true}
use Rattle.mk_net.specs.declared.words.Pair.{Pair}
use Rattle.mk_sums.specs.Sums.{Within}
use Rattle.mk_cell.specs.Least.{least, least-at_zero}
use Rattle.mk_cell.specs.Passes.{plus_below}
use Rattle.mk_semiring.specs.Least.{least_lawful}
use Rattle.mk_user_engine.specs.declared.names.Named.{Named}
use Rattle.mk_user_engine.specs.Names.{is_named, value_in, agrees, AreStrided, IsSized}
use Rattle.mk_user_engine.specs.Grouped.{widened}
use Rattle.mk_user_engine.proofs.Least.{below-times, below_each}

-- ---- which variables are named

is_named_widened : (a : ℕ) (ns : List Named) (x : ℕ) → is_named (widened a ns) x ≡ is_named ns x
is_named_widened a [] x = refl
is_named_widened a (n ∷ ns) x = ap (λ b. (n.variable == x) || b) (is_named_widened a ns x)

or_assoc : (a b c : Bool) → (a || (b || c)) ≡ ((a || b) || c)
or_assoc true b c = refl
or_assoc false b c = refl

pub is_named_joined : (ms ns : List Named) (a x : ℕ)
    → is_named (ms ++ widened a ns) x ≡ (is_named ms x || is_named ns x)
is_named_joined [] ns a x = is_named_widened a ns x
is_named_joined (m ∷ ms) ns a x =
    ap (λ b. (m.variable == x) || b) (is_named_joined ms ns a x)
    ∙ or_assoc (m.variable == x) (is_named ms x) (is_named ns x)

-- ---- which values they have

value_widened : (a : ℕ) (ns : List Named) (c x : ℕ)
    → value_in (widened a ns) c x ≡ value_in ns (c / a) x
value_widened a [] c x = refl
value_widened a (n ∷ ns) c x =
    ap (λ k. cond (n.variable == x) (k % n.values) (value_in (widened a ns) c x))
    (sym (div-div-eq-div-mul c a n.stride))
    ∙ ap (λ k. cond (n.variable == x) (c / a / n.stride % n.values) k) (value_widened a ns c x)

chooses : (e b : Bool) (u v w : ℕ) → cond e u (cond b v w) ≡ cond (e || b) (cond e u v) w
chooses true b u v w = refl
chooses false b u v w = refl

value_joined : (ms ns : List Named) (a c x : ℕ)
    → value_in (ms ++ widened a ns) c x
    ≡ cond (is_named ms x) (value_in ms c x) (value_in ns (c / a) x)
value_joined [] ns a c x = value_widened a ns c x
value_joined (m ∷ ms) ns a c x =
    ap (λ k. cond (m.variable == x) (c / m.stride % m.values) k) (value_joined ms ns a c x)
    ∙ chooses (m.variable == x) (is_named ms x) (c / m.stride % m.values) (value_in ms c x)
    (value_in ns (c / a) x)

-- each stride divides the number of cells
stride_divides : (s : ℕ) (ns : List Named) (a : ℕ) → AreStrided s ns a → (k : ℕ) × (a ≡ s * k)
stride_divides s [] a are = (1, omega (arith, are))
stride_divides s (n ∷ ns) a are =
    let h = stride_divides (s * n.values) ns a are.2 in
    let e = h.1 in (n.values * h.0, omega (arith, e))

-- a value is that of the cell, less whole turns
wrapped : (c s v k : ℕ) → 1 ≤ s → c % (s * v * k) / s % v ≡ c / s % v
wrapped c s v k p =
    let a : ℕ = s * v * k in
    let q : ℕ = c / a in
    let d = div-add-mod c a in
    let e : c ≡ c % a + s * (v * (k * q)) = omega (arith, d) in
    sym (ap (λ m. m / s % v) e ∙ ap (λ m. m % v) (add-mul-div_left (c % a) (v * (k * q)) p)
    ∙ add-mul-mod_self_left (c % a / s) v (k * q))

value_wrapped : (s : ℕ) (ns : List Named) (a c x : ℕ) → 1 ≤ s → AreStrided s ns a
    → value_in ns (c % a) x ≡ value_in ns c x
value_wrapped s [] a c x p are = refl
value_wrapped s (n ∷ ns) a c x p are =
    let h = stride_divides (s * n.values) ns a are.2 in
    let e : c % a / n.stride % n.values ≡ c / n.stride % n.values =
    ap (λ k. c % k / n.stride % n.values) h.1
    ∙ subst (λ t. c % (s * n.values * h.0) / t % n.values ≡ c / t % n.values) (sym are.0)
    (wrapped c s n.values h.0 p) in
    ap (λ k. cond (n.variable == x) k (value_in ns (c % a) x)) e
    ∙ ap (λ k. cond (n.variable == x) (c / n.stride % n.values) k)
    (value_wrapped (s * n.values) ns a c x (one-le-mul p are.1) are.2)

-- ---- strides

strided_widened : (s a : ℕ) (ns : List Named) (b : ℕ) → AreStrided s ns b
    → AreStrided (a * s) (widened a ns) (a * b)
strided_widened s a [] b are = ap (λ k. a * k) are
strided_widened s a (n ∷ ns) b are = (
  ap (λ k. a * k) are.0,
  are.1,
  let e : a * (s * n.values) ≡ a * s * n.values = omega arith in
      subst (λ k. AreStrided k (widened a ns) (a * b)) e
      (strided_widened (s * n.values) a ns b are.2),
)

strided_append : (s : ℕ) (ms ns : List Named) (a b : ℕ) → AreStrided s ms a → AreStrided a ns b
    → AreStrided s (ms ++ ns) b
strided_append s [] ns a b first next = subst (λ k. AreStrided k ns b) first next
strided_append s (m ∷ ms) ns a b first next =
    (first.0, first.1, strided_append (s * m.values) ms ns a b first.2 next)

pub strided_joined : (ms ns : List Named) (a b : ℕ) → AreStrided 1 ms a → AreStrided 1 ns b
    → AreStrided 1 (ms ++ widened a ns) (a * b)
strided_joined ms ns a b first next =
    let e : a * 1 ≡ a = omega arith in
    strided_append 1 ms (widened a ns) a (a * b) first
    (subst (λ k. AreStrided k (widened a ns) (a * b)) e (strided_widened 1 a ns b next))

sized_widened : (sizes : List ℕ) (a : ℕ) (ns : List Named) → AllByRecursion (IsSized sizes) ns
    → AllByRecursion (IsSized sizes) (widened a ns)
sized_widened sizes a [] h = tt
sized_widened sizes a (n ∷ ns) h = (h.0, sized_widened sizes a ns h.1)

pub sized_joined : (sizes : List ℕ) (ms ns : List Named) (a : ℕ)
    → AllByRecursion (IsSized sizes) ms → AllByRecursion (IsSized sizes) ns
    → AllByRecursion (IsSized sizes) (ms ++ widened a ns)
sized_joined sizes [] ns a first next = sized_widened sizes a ns next
sized_joined sizes (m ∷ ms) ns a first next = (first.0, sized_joined sizes ms ns a first.1 next)

-- ---- least values over pairs of cells

below_sum : (m n : ℕ) (f : ℕ → ℕ) → plus_below least (m + n) f
    ≡ least (plus_below least m f) (plus_below least n (λ i. f (m + i)))
below_sum m zero f =
    let e : m + zero ≡ m = omega arith in
    ap (λ k. plus_below least k f) e ∙ sym (least-at_zero (plus_below least m f))
below_sum m (suc n) f =
    let e : m + suc n ≡ suc (m + n) = omega arith in
    ap (λ k. plus_below least k f) e ∙ ap (λ k. least k (f (m + n))) (below_sum m n f)
    ∙ least_lawful.associates (plus_below least m f) (plus_below least n (λ i. f (m + i)))
    (f (m + n))

pub below_product : (a b : ℕ) (f g : ℕ → ℕ) → plus_below least (a * b) (λ c. f (c % a) * g (c / a))
    ≡ plus_below least a f * plus_below least b g
below_product a zero f g =
    let e : a * zero ≡ 0 = omega arith in
    let z : plus_below least a f * 0 ≡ 0 = mul-zero (plus_below least a f) in
    ap (λ k. plus_below least k (λ c. f (c % a) * g (c / a))) e ∙ sym z
below_product a (suc b) f g =
    let all : ℕ = plus_below least a f in
    let e : a * suc b ≡ a * b + a = omega arith in
    let row : (i : ℕ) → i < a → f ((a * b + i) % a) * g ((a * b + i) / a) ≡ g b * f i =
    λ i l.
    let t : a * b + i ≡ b * a + i = omega arith in
    let d : (a * b + i) / a ≡ b = ap (λ k. k / a) t ∙ div-mul-add b a i l in
    let m : (a * b + i) % a ≡ i = ap (λ k. k % a) t ∙ mod-mul-add b a i l in
    ap (λ k. f k * g ((a * b + i) / a)) m ∙ ap (λ k. f i * g k) d ∙ mul_comm (f i) (g b) in
    ap (λ k. plus_below least k (λ c. f (c % a) * g (c / a))) e
    ∙ below_sum (a * b) a (λ c. f (c % a) * g (c / a))
    ∙ ap (λ k. least k (plus_below least a (λ i. f ((a * b + i) % a) * g ((a * b + i) / a))))
    (below_product a b f g)
    ∙ ap (λ k. least (all * plus_below least b g) k)
    (below_each a (λ i. f ((a * b + i) % a) * g ((a * b + i) / a)) (λ i. g b * f i) row
    ∙ below-times (g b) a f ∙ mul_comm (g b) all)
    ∙ sym (least_lawful.distributes all (plus_below least b g) (g b))

-- ---- two groups as one

module _ (ms ns : List Named) (a b : ℕ) (pairs : List Pair) (f g : (ℕ → ℕ) → ℕ)
    (strided : AreStrided 1 ms a) (reads : Within (is_named ms) f)
    (reads_next : Within (is_named ns) g)
    (apart : (x : ℕ) → is_named ms x ≡ true → is_named ns x ≡ true → ⊥)
  where
    abbrev both : List Named
    both = ms ++ widened a ns

    value_first : (c x : ℕ) → is_named ms x ≡ true → value_in both c x ≡ value_in ms (c % a) x
    value_first c x e =
        value_joined ms ns a c x
        ∙ ap (λ t. cond t (value_in ms c x) (value_in ns (c / a) x)) e
        ∙ sym (value_wrapped 1 ms a c x (omega arith) strided)

    value_next : (c x : ℕ) → is_named ms x ≡ false → value_in both c x ≡ value_in ns (c / a) x
    value_next c x e =
        value_joined ms ns a c x
        ∙ ap (λ t. cond t (value_in ms c x) (value_in ns (c / a) x)) e

    not_first : (x : ℕ) → is_named ns x ≡ true → is_named ms x ≡ false
    not_first x e = false_from_ne_true (is_named ms x) (λ h. apart x h e)

    not_next : (x : ℕ) → is_named ms x ≡ true → is_named ns x ≡ false
    not_next x e = false_from_ne_true (is_named ns x) (λ h. apart x e h)

    abbrev passes : List Named → ℕ → ℕ → ℕ → Bool
    passes names c x v = not (is_named names x) || (value_in names c x == v)

    kept : (t : Bool) → t ≡ (t && true)
    kept true = refl
    kept false = refl

    pair_joined : (c x v : ℕ) → passes both c x v ≡ (passes ms (c % a) x v && passes ns (c / a) x v)
    pair_joined c x v =
        ap (λ t. not t || (value_in both c x == v)) (is_named_joined ms ns a x)
        ∙ at (cases_Bool (is_named ms x))
      where
        at : ((is_named ms x ≡ true) ⊎ (is_named ms x ≡ false))
            → (not (is_named ms x || is_named ns x) || (value_in both c x == v))
            ≡ (passes ms (c % a) x v && passes ns (c / a) x v)
        at (inl e) =
            ap (λ t. not (t || is_named ns x) || (value_in both c x == v)) e
            ∙ ap (λ k. k == v) (value_first c x e)
            ∙ kept (value_in ms (c % a) x == v)
            ∙ sym (ap (λ t. (not t || (value_in ms (c % a) x == v)) && passes ns (c / a) x v) e
            ∙ ap (λ t. (value_in ms (c % a) x == v) && (not t || (value_in ns (c / a) x == v)))
            (not_next x e))
        at (inr e) =
            ap (λ t. not (t || is_named ns x) || (value_in both c x == v)) e
            ∙ ap (λ k. not (is_named ns x) || (k == v)) (value_next c x e)
            ∙ sym (ap (λ t. (not t || (value_in ms (c % a) x == v)) && passes ns (c / a) x v) e)

    agrees_joined : (c : ℕ) (ps : List Pair)
        → agrees both ps c ≡ (agrees ms ps (c % a) && agrees ns ps (c / a))
    agrees_joined c [] = refl
    agrees_joined c (p ∷ ps) =
        ap (λ t. t && agrees both ps c) (pair_joined c p.variable p.value)
        ∙ ap (λ t. (passes ms (c % a) p.variable p.value
        && passes ns (c / a) p.variable p.value) && t) (agrees_joined c ps)
        ∙ crossed (passes ms (c % a) p.variable p.value)
        (passes ns (c / a) p.variable p.value) (agrees ms ps (c % a))
        (agrees ns ps (c / a))
      where
        crossed : (p q r s : Bool) → ((p && q) && (r && s)) ≡ ((p && r) && (q && s))
        crossed true true r s = refl
        crossed true false true s = refl
        crossed true false false s = refl
        crossed false q r s = refl

    abbrev first_of_cell : ℕ → ℕ
    first_of_cell c = cond (agrees ms pairs c) (f (value_in ms c)) 0

    abbrev next_of_cell : ℕ → ℕ
    next_of_cell c = cond (agrees ns pairs c) (g (value_in ns c)) 0

    abbrev of_both : ℕ → ℕ
    of_both c = cond (agrees both pairs c) (f (value_in both c) * g (value_in both c)) 0

    splits : (p q : Bool) (u v : ℕ) → cond (p && q) (u * v) 0 ≡ cond p u 0 * cond q v 0
    splits true true u v = refl
    splits true false u v = sym (mul-zero u)
    splits false q u v = omega arith

    of_cells : (c : ℕ) → of_both c ≡ first_of_cell (c % a) * next_of_cell (c / a)
    of_cells c =
        ap (λ t. cond t (f (value_in both c) * g (value_in both c)) 0) (agrees_joined c pairs)
        ∙ ap (λ k. cond (agrees ms pairs (c % a) && agrees ns pairs (c / a))
        (k * g (value_in both c)) 0) (reads (value_in both c) (value_in ms (c % a)) (value_first c))
        ∙ ap (λ k. cond (agrees ms pairs (c % a) && agrees ns pairs (c / a))
        (f (value_in ms (c % a)) * k) 0) (reads_next (value_in both c) (value_in ns (c / a))
        (λ x e. value_next c x (not_first x e)))
        ∙ splits (agrees ms pairs (c % a)) (agrees ns pairs (c / a)) (f (value_in ms (c % a)))
        (g (value_in ns (c / a)))

    -- the least product is the product of the least values
    pub joins : plus_below least (a * b) of_both
        ≡ plus_below least a first_of_cell * plus_below least b next_of_cell
    joins = below_each (a * b) of_both (λ c. first_of_cell (c % a) * next_of_cell (c / a))
        (λ c l. of_cells c) ∙ below_product a b first_of_cell next_of_cell
