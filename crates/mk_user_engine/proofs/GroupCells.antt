-- The product of what some groups have by what one more has.
use Rattle.std.proofs.Common.{◌≡◌, ℕ, suc, zero, ◌+◌, ◌*◌, ◌^◌, ◌<◌, ◌≤◌, Bool, true, false, cond}
use Rattle.std.proofs.Common.{◌||◌, ◌⊎◌, inl, inr}
use Rattle.std.proofs.Common.{List, [], ◌∷◌, ◌++◌, length, refl, sym, ap}
use Rattle.std.proofs.Common.{subst, ◌∙◌, arith, zero-mul, lt_of_lt_of_le, le_trans}
use Rattle.std.proofs.Math.Nat.{eq_of_mul-eq-mul_right, mul-le-mul_left}
use Rattle.std.proofs.Math.Nat.{mul-le-mul_right, pow-le-pow_right}
use Rattle.std.proofs.Math.Nat.{mul_assoc}
use Rattle.std.proofs.lemmas.Nat.{pow-add, pow_pos, shl_below}
use Rattle.std.proofs.lemmas.Bool.{cases_lt}
use Rattle.std.proofs.lemmas.List.Elements.{Contains-append_left, Contains-append_right}
use Rattle.std.proofs.lemmas.List.Sums.{sum_by-append}
use Rattle.mk_net.specs.declared.words.Pair.{Pair}
use Rattle.mk_states.specs.States.{product_by}
use Rattle.mk_states.proofs.Sums.{product_by_push}
use Rattle.mk_cell.specs.Cell.{bias, StandsAt, IsOwnAt, IsCell, IsRounded}
use Rattle.mk_cell.specs.Least.{least}
use Rattle.mk_cell.specs.Passes.{plus_below}
use Rattle.mk_cell.specs.inner.Laws.{stands_with_more, untouched_stands, has_room}
use Rattle.mk_cell.proofs.Standing.{absent_stands}
use Rattle.mk_semiring.specs.Least.{absent_or_present}
use Rattle.mk_table.proofs.Owned.{own_more, scaled_times}
use Rattle.mk_user_engine.specs.declared.group.Group.{Group}
use Rattle.mk_user_engine.specs.declared.kept.KeptLeast.{KeptLeast}
use Rattle.mk_user_engine.specs.declared.narrow.PlacedRatio.{PlacedRatio}
use Rattle.mk_user_engine.specs.Names.{value_in, agrees}
use Rattle.mk_user_engine.specs.Narrow.{product_of, is_met}
use Rattle.mk_user_engine.specs.Shared.{ratios_of}
use Rattle.mk_user_engine.specs.LeastShared.{least_in}
use Rattle.mk_user_engine.specs.Kept.{HasGroupLeast, trades_in}
use Rattle.mk_user_engine.specs.GroupBelief.{HasLeastOver, MeetsOne, trades_of}
use Rattle.mk_user_engine.proofs.Least.{below_attained}

-- ---- the cell of 1

whole_pos : 0 < 2 ^ bias
whole_pos = pow_pos bias

-- a cell that stands for 1 in no step has it exactly
exact_one : (d e v n : ℕ) → v ≡ 1 → StandsAt 0 d e v n → n ≡ 0 → d * 2 ^ (e + 0) ≡ 1 * 2 ^ bias
exact_one d e v n is s none =
    let l = s.lower in let w = whole_pos in
    let b = subst (λ x. d * 2 ^ (e + 0) ≤ x * 2 ^ bias) is l.below in
    l.same (omega (arith, b, w)) ∙ ap (λ x. x * 2 ^ bias) is

some_digits : (d e : ℕ) → 0 < d * 2 ^ (e + 0) → 0 < d
some_digits zero e l = absurd (omega (arith, l, zero-mul (2 ^ (e + 0))))
some_digits (suc d) e l = omega arith

-- full digits of a lesser exponent make less
less_of : (d e q x : ℕ) → d < 2 ^ 64 → 2 ^ 63 ≤ q → e < x → d * 2 ^ (e + 0) < q * 2 ^ (x + 0)
less_of d e q x fits full l =
    let up : d * 2 ^ (e + 0) < 2 ^ (64 + (e + 0)) = shl_below d 64 (e + 0) fits in
    let raised : 2 ^ (64 + (e + 0)) ≤ 2 ^ (63 + (x + 0)) =
    pow-le-pow_right (omega arith) (omega (arith, l)) in
    let parts : 2 ^ (63 + (x + 0)) ≡ 2 ^ 63 * 2 ^ (x + 0) = pow-add 2 63 (x + 0) in
    let most : 2 ^ 63 * 2 ^ (x + 0) ≤ q * 2 ^ (x + 0) = mul-le-mul_right (2 ^ (x + 0)) full in
    lt_of_lt_of_le up (le_trans (subst (λ y. 2 ^ (64 + (e + 0)) ≤ y) parts raised) most)

pub one_alone : (d e q x : ℕ) → StandsAt 0 d e 1 0 → StandsAt 0 q x 1 0 → (d ≡ q) × (e ≡ x)
one_alone d e q x s r = at (cases_lt e x) (cases_lt x e)
  where
    same : d * 2 ^ (e + 0) ≡ q * 2 ^ (x + 0)
    same = exact_one d e 1 0 refl s refl ∙ sym (exact_one q x 1 0 refl r refl)

    full : (d e : ℕ) → StandsAt 0 d e 1 0 → 2 ^ 63 ≤ d
    full d e s =
        let f = s.form in let h = exact_one d e 1 0 refl s refl in let w = whole_pos in
        f.full (some_digits d e (omega (arith, h, w)))

    fits : (d e : ℕ) → StandsAt 0 d e 1 0 → d < 2 ^ 64
    fits d e s = let f = s.form in f.fits

    at : ((e < x) ⊎ (x ≤ e)) → ((x < e) ⊎ (e ≤ x)) → (d ≡ q) × (e ≡ x)
    at (inl l) o = let i = less_of d e q x (fits d e s) (full q x r) l in
        absurd (omega (arith, i, same))
    at (inr a) (inl l) = let i = less_of q x d e (fits q x r) (full d e s) l in
        absurd (omega (arith, i, same))
    at (inr a) (inr b) =
        let i : e ≡ x = omega (arith, a, b) in (
          eq_of_mul-eq-mul_right (2 ^ (e + 0)) (pow_pos (e + 0)) d q
              (same ∙ ap (λ y. q * 2 ^ (y + 0)) (sym i)),
          i,
        )

-- what the cell of 1 stands for under no shift is 1
pub own_of_one : (d e own n : ℕ) → StandsAt 0 d e 1 0 → StandsAt 0 d e own n → own ≡ 1
own_of_one d e own n s r =
    let h = exact_one d e 1 0 refl s refl in
    let w = whole_pos in let l = r.lower in
    let same : d * 2 ^ (e + 0) ≡ own * 2 ^ bias = l.same (omega (arith, h, w)) in
    eq_of_mul-eq-mul_right (2 ^ bias) (pow_pos bias) own 1 (sym same ∙ h)

-- a cell that stands for 0 in no step has no digits
pub none_of_zero : (d e : ℕ) → StandsAt 0 d e 0 0 → d ≡ 0
none_of_zero d e s =
    let l = s.lower in let z = zero-mul (2 ^ bias) in
    let b : d * 2 ^ (e + 0) ≤ 0 = omega (arith, l.below, z) in
    let m : d * 1 ≤ d * 2 ^ (e + 0) = mul-le-mul_left d (pow_pos (e + 0)) in
    omega (arith, b, m)

-- no digits make none
pub absent_product : (a b e d x : ℕ) → IsRounded d x (a * b * 2 ^ e) → b ≡ 0 → (d ≡ 0) × (x ≡ 0)
absent_product a b e d x r z =
    let i : a * b ≡ 0 = ap (λ y. a * y) z ∙ omega arith in
    let n = r.none (ap (λ y. y * 2 ^ e) i ∙ zero-mul (2 ^ e)) in
    let f = r.form in (n, f.absent n)

-- ---- a shift of some units

pub units_stand : (t shift d e v n : ℕ) → StandsAt shift d e v n
    → StandsAt (shift + 40 * t) d e (v * 2 ^ (40 * t)) (n + t)
units_stand zero shift d e v n s =
    let i : shift ≡ shift + 40 * 0 = omega arith in
    let j : v ≡ v * 2 ^ (40 * 0) = omega arith in
    let k : n ≡ n + 0 = omega arith in
    subst (λ x. StandsAt x d e (v * 2 ^ (40 * 0)) (n + 0)) i
    (subst (λ x. StandsAt shift d e x (n + 0)) j (subst (λ x. StandsAt shift d e v x) k s))
units_stand (suc t) shift d e v n s =
    let i : shift + 40 * t + 40 ≡ shift + 40 * suc t = omega arith in
    let k : n + t + 1 ≡ n + suc t = omega arith in
    let j : v * 2 ^ (40 * t) * 2 ^ 40 ≡ v * 2 ^ (40 * suc t) =
    mul_assoc v (2 ^ (40 * t)) (2 ^ 40) ∙ ap (λ y. v * y) (sym (pow-add 2 (40 * t) 40))
    ∙ ap (λ y. v * 2 ^ y) (omega arith) in
    subst (λ x. StandsAt x d e (v * 2 ^ (40 * suc t)) (n + suc t)) i
    (subst (λ x. StandsAt (shift + 40 * t + 40) d e x (n + suc t)) j
    (subst (λ x. StandsAt (shift + 40 * t + 40) d e (v * 2 ^ (40 * t) * 2 ^ 40) x) k
    (untouched_stands (shift + 40 * t) 40 d e (v * 2 ^ (40 * t)) (n + t) (omega arith)
    (units_stand t shift d e v n s))))

pub units_own : (t shift d e v n : ℕ) → IsOwnAt shift d e v n
    → IsOwnAt (shift + 40 * t) d e (v * 2 ^ (40 * t)) (n + t)
units_own t shift d e v n h = record {
  own = h.own;
  scaled = ap (λ y. y * 2 ^ (40 * t)) h.scaled ∙ mul_assoc h.own (2 ^ shift) (2 ^ (40 * t))
      ∙ ap (λ y. h.own * y) (sym (pow-add 2 shift (40 * t)));
  stands = stands_with_more 0 d e h.own n (n + t) (omega arith) h.stands;
}

-- ---- a group without trades

abbrev as_bit : Bool → ℕ
as_bit b = cond b 1 0

bit : (b : Bool) → (as_bit b ≡ 0) ⊎ (as_bit b ≡ 1)
bit true = inr refl
bit false = inl refl

module _ (pairs : List Pair) (g : Group) where
  abbrev with_ratios : List PlacedRatio → ℕ → ℕ
  with_ratios rs c = cond (agrees g.names.items pairs c)
      (product_of rs (value_in g.names.items c)) 0

  abbrev IsBit : ℕ → Type 0
  IsBit n = (n ≡ 0) ⊎ (n ≡ 1)

  which : (b : Bool) (n : ℕ) → as_bit b ≡ n → IsBit (as_bit b) → IsBit n
  which b n e (inl z) = inl (sym e ∙ z)
  which b n e (inr o) = inr (sym e ∙ o)

  of_none : ((plus_below least g.cells (with_ratios []) ≡ 0) ⊎ ((c : ℕ) × (c < g.cells)
      × (with_ratios [] c ≡ plus_below least g.cells (with_ratios []))))
      → IsBit (plus_below least g.cells (with_ratios []))
  of_none (inl z) = inl z
  of_none (inr h) = which (agrees g.names.items pairs h.0)
      (plus_below least g.cells (with_ratios [])) h.2 (bit (agrees g.names.items pairs h.0))

  of_ratios : (rs : List PlacedRatio) → length rs ≡ 0
      → IsBit (plus_below least g.cells (with_ratios rs))
  of_ratios (r ∷ rs) e = absurd (omega (arith, e))
  of_ratios [] e = of_none (below_attained g.cells (with_ratios []))

  -- has 1, or nothing
  pub no_trades : (ts : List PlacedRatio) → trades_in ts g ≡ 0 → IsBit (least_in ts pairs g)
  no_trades ts none = of_ratios (ratios_of ts g) none

pub met_has_trades : (rs : List PlacedRatio) (a : ℕ → ℕ) → is_met rs a ≡ true → 1 ≤ length rs
met_has_trades [] a e = absurd (cc)
met_has_trades (r ∷ rs) a e = omega arith

-- ---- the product of some groups by one more

module _ (ts : List PlacedRatio) (ps : List Pair) (gs : List Group) (g : Group) where
  abbrev done : ℕ
  done = trades_of ts gs

  abbrev more : ℕ
  more = trades_in ts g

  abbrev all : ℕ
  all = trades_of ts (gs ++ g ∷ [])

  abbrev value : ℕ
  value = product_by (least_in ts ps) gs

  abbrev other : ℕ
  other = least_in ts ps g

  all_is : all ≡ done + more
  all_is = let e = sum_by-append (trades_in ts) gs (g ∷ []) in omega (arith, e)

  value_is : product_by (least_in ts ps) (gs ++ g ∷ []) ≡ value * other
  value_is = product_by_push (least_in ts ps) gs g

  -- what is so of both with more factors, where these may be more, is so of all groups
  of_all : (P : ℕ → ℕ → ℕ → Type 0) → ((s v n p : ℕ) → n ≤ p → P s v n → P s v p)
      → (n : ℕ) → n ≤ 2 * (done + more) → P (40 * done + 40 * more) (value * other) n
      → P (40 * all) (product_by (least_in ts ps) (gs ++ g ∷ [])) (2 * all)
  of_all P grows n l h =
      let i : 40 * done + 40 * more ≡ 40 * all = omega (arith, all_is) in
      subst (λ v. P (40 * all) v (2 * all)) (sym value_is)
      (subst (λ k. P k (value * other) (2 * all)) i
      (grows (40 * done + 40 * more) (value * other) n (2 * all) (omega (arith, l, all_is)) h))

  stands_all : (d e n : ℕ) → n ≤ 2 * (done + more)
      → StandsAt (40 * done + 40 * more) d e (value * other) n
      → StandsAt (40 * all) d e (product_by (least_in ts ps) (gs ++ g ∷ [])) (2 * all)
  stands_all d e =
      of_all (λ s v n. StandsAt s d e v n) (λ s v n p. stands_with_more s d e v n p)

  own_all : (d e n : ℕ) → n ≤ 2 * (done + more)
      → IsOwnAt (40 * done + 40 * more) d e (value * other) n
      → IsOwnAt (40 * all) d e (product_by (least_in ts ps) (gs ++ g ∷ [])) (2 * all)
  own_all d e = of_all (λ s v n. IsOwnAt s d e v n) (λ s v n p. own_more s d e v n p)

  met_left : MeetsOne ts ps gs → MeetsOne ts ps (gs ++ g ∷ [])
  met_left h = (h.0, Contains-append_left gs (g ∷ []) h.0 h.1, h.2, h.3, h.4)

  met_right : (c : ℕ) → (agrees g.names.items ps c ≡ true)
      → (is_met (ratios_of ts g) (value_in g.names.items c) ≡ true)
      → MeetsOne ts ps (gs ++ g ∷ [])
  met_right c a m = (g, Contains-append_right gs (g ∷ []) g (0, omega arith, refl), c, a, m)

  module _ (product one : KeptLeast) (h : HasLeastOver ts ps gs product)
      (k : HasGroupLeast ts ps g one)
    where
      -- both leave room for a product
      pub first_cell : done + more ≤ 128 → IsCell product.least.digits product.least.exponent
      first_cell few = has_room (40 * done) product.least.digits product.least.exponent value
          (2 * done) (omega (arith, few)) (omega (arith, few)) h.stands

      pub other_cell : done + more ≤ 128 → IsCell one.least.digits one.least.exponent
      other_cell few = has_room (40 * more) one.least.digits one.least.exponent other
          more (omega (arith, few)) (omega (arith, few)) k.stands

      -- where the other is 1 the product is the first
      pub times_one : one.met ≡ false → StandsAt 0 one.least.digits one.least.exponent 1 0
          → HasLeastOver ts ps (gs ++ g ∷ []) product
      times_one unmet is =
          let o = k.own unmet in
          let i : o.own ≡ 1 = own_of_one one.least.digits one.least.exponent o.own more is o.stands
          in
          let v : 2 ^ (40 * more) ≡ other =
          sym (o.scaled ∙ ap (λ y. y * 2 ^ (40 * more)) i ∙ omega arith) in
          record {
            stands = stands_all product.least.digits product.least.exponent (2 * done + more)
                (omega arith)
                (subst (λ w. StandsAt (40 * done + 40 * more) product.least.digits
                product.least.exponent (value * w) (2 * done + more)) v
                (units_stand more (40 * done) product.least.digits product.least.exponent value
                (2 * done) h.stands));
            own = λ n. own_all product.least.digits product.least.exponent (2 * done + more)
                (omega arith)
                (subst (λ w. IsOwnAt (40 * done + 40 * more) product.least.digits
                product.least.exponent (value * w) (2 * done + more)) v
                (units_own more (40 * done) product.least.digits product.least.exponent value
                (2 * done) (h.own n)));
            met_is = λ n. met_left (h.met_is n);
          }

      -- where it is not, and has a trade
      some_trades : (d e : ℕ) (met : Bool) → met ≡ (product.met || one.met) → 1 ≤ more
          → ((i j v w n p : ℕ)
          → StandsAt i product.least.digits product.least.exponent v n
          → StandsAt j one.least.digits one.least.exponent w p
          → StandsAt (i + j) d e (v * w) (n + p + 1))
          → StandsAt (40 * all) d e (product_by (least_in ts ps) (gs ++ g ∷ [])) (2 * all)
          × (met ≡ false → IsOwnAt (40 * all) d e
          (product_by (least_in ts ps) (gs ++ g ∷ [])) (2 * all))
      some_trades d e met is some made = (
        stands_all d e (2 * done + more + 1) (omega (arith, some))
            (made (40 * done) (40 * more) value other (2 * done) more h.stands k.stands),
        λ f.
            let parts = none product.met one.met (sym is ∙ f) in
            let a = h.own parts.0 in let b = k.own parts.1 in
            own_all d e (2 * done + more + 1) (omega (arith, some)) (record {
              own = a.own * b.own;
              scaled = scaled_times (40 * done) (40 * more) value other a.own b.own a.scaled
                  b.scaled;
              stands = made 0 0 a.own b.own (2 * done) more a.stands b.stands;
            }),
      )
        where
          none : (a b : Bool) → (a || b) ≡ false → (a ≡ false) × (b ≡ false)
          none true b e = absurd (cc)
          none false b e = (refl, e)

      -- where it is nothing
      nothing : (d e : ℕ) → d ≡ 0 → e ≡ 0 → other ≡ 0
          → StandsAt (40 * all) d e (product_by (least_in ts ps) (gs ++ g ∷ [])) (2 * all)
          × IsOwnAt (40 * all) d e (product_by (least_in ts ps) (gs ++ g ∷ [])) (2 * all)
      nothing d e i j z =
          let v : product_by (least_in ts ps) (gs ++ g ∷ []) ≡ 0 =
          value_is ∙ ap (λ w. value * w) z ∙ omega arith in (
            rw (i, j) (absent_stands (40 * all) _ (2 * all) v),
            record {
              own = 0;
              scaled = v ∙ sym (zero-mul (2 ^ (40 * all)));
              stands = rw (i, j) (absent_stands 0 0 (2 * all) refl);
            },
          )

      -- where it is not 1
      pub times_other : (d e : ℕ) (met : Bool) → met ≡ (product.met || one.met)
          → ((one.met ≡ true) ⊎ (StandsAt 0 one.least.digits one.least.exponent 1 0 → ⊥))
          → ((i j v w n p : ℕ)
          → StandsAt i product.least.digits product.least.exponent v n
          → StandsAt j one.least.digits one.least.exponent w p
          → StandsAt (i + j) d e (v * w) (n + p + 1))
          → (one.least.digits ≡ 0 → (d ≡ 0) × (e ≡ 0))
          → (made : KeptLeast) → made.least.digits ≡ d → made.least.exponent ≡ e → made.met ≡ met
          → HasLeastOver ts ps (gs ++ g ∷ []) made
      times_other d e met is differs made absent kept kd ke km =
          with_parts (by (absent_or_present more))
        where
          Parts : Type 0
          Parts = StandsAt (40 * all) d e (product_by (least_in ts ps) (gs ++ g ∷ [])) (2 * all)
              × (met ≡ false → IsOwnAt (40 * all) d e
              (product_by (least_in ts ps) (gs ++ g ∷ [])) (2 * all))

          not_met : more ≡ 0 → one.met ≡ true → ⊥
          not_met z m =
              let c = k.met_is m in
              let l = met_has_trades (ratios_of ts g) (value_in g.names.items c.0) c.3 in
              absurd (omega (arith, z, l))

          none : more ≡ 0 → ((other ≡ 0) ⊎ (other ≡ 1))
              → ((one.met ≡ true) ⊎ (StandsAt 0 one.least.digits one.least.exponent 1 0 → ⊥))
              → StandsAt 0 one.least.digits one.least.exponent other 0 → Parts
          none z v (inl m) s = absurd (not_met z m)
          none z (inr i) (inr out) s = absurd (out (subst (λ w. StandsAt 0 one.least.digits
              one.least.exponent w 0) i s))
          none z (inl i) (inr out) s =
              let empty = absent (none_of_zero one.least.digits one.least.exponent (subst
              (λ w. StandsAt 0 one.least.digits one.least.exponent w 0) i s)) in
              let n = nothing d e empty.0 empty.1 i in (n.0, λ f. n.1)

          by : ((more ≡ 0) ⊎ (0 < more)) → Parts
          by (inl z) = none z (no_trades ps g ts z) differs
              (subst (λ n. StandsAt (40 * n) one.least.digits one.least.exponent other n) z
              k.stands)
          by (inr some) = some_trades d e met is some made

          either : (a b : Bool) → (a || b) ≡ true → (a ≡ true) ⊎ (b ≡ true)
          either true b e = inl refl
          either false b e = inr e

          met_one : ((product.met ≡ true) ⊎ (one.met ≡ true)) → MeetsOne ts ps (gs ++ g ∷ [])
          met_one (inl m) = met_left (h.met_is m)
          met_one (inr m) = let c = k.met_is m in met_right c.0 c.2 c.3

          with_parts : Parts → HasLeastOver ts ps (gs ++ g ∷ []) kept
          with_parts p = record {
            stands = rw (kd, ke) p.0;
            own = λ n. rw (kd, ke) (p.1 (sym km ∙ n));
            met_is = λ m. met_one (either product.met one.met (sym is ∙ sym km ∙ m));
          }
