-- The product in a cell, ratio by ratio, and the products of all cells, cell by cell.
use Rattle.std.proofs.Common.{◌≡◌, ℕ, ◌+◌, ◌*◌, ◌^◌, ◌<◌, ◌≤◌, Bool, true, false, cond, ◌||◌, ◌⊎◌}
use Rattle.std.proofs.Common.{inl, inr}
use Rattle.std.proofs.Common.{List, [], ◌∷◌, ◌++◌, length, slice_index, slice_index_or, refl, sym}
use Rattle.std.proofs.Common.{ap, subst, ◌∙◌, arith, zero-mul, length-append, slice_set, ◌/◌}
use Rattle.std.proofs.Common.{get_or-set_same, get_or-set_other}
use Rattle.std.proofs.Math.Nat.{mul_assoc, mul_comm}
use Rattle.std.proofs.Math.ListN.{length-set}
use Rattle.std.proofs.lemmas.Nat.{pow-add}
use Rattle.std.proofs.lemmas.Bool.{cases_Bool, cases_eq}
use Rattle.std.proofs.lemmas.List.Folds.{list_any-append}
use Rattle.mk_states.specs.Ratios.{unit, units_of}
use Rattle.mk_states.proofs.Sums.{product_by_push}
use Rattle.mk_sums.specs.There.{holds_there, ratio_there}
use Rattle.mk_cell.specs.Cell.{StandsAt, IsOwnAt, IsCell, AllStand, AreCells}
use Rattle.mk_cell.specs.Least.{least}
use Rattle.mk_cell.specs.Passes.{plus_below}
use Rattle.mk_table.proofs.Owned.{own_is, own_stands}
use Rattle.mk_user_engine.proofs.Least.{below_each, below-times}
use Rattle.mk_cell.specs.inner.Laws.{stands_with_more, untouched_stands, has_room, all_have_room}
use Rattle.mk_cell.proofs.Standing.{absent_stands}
use Rattle.mk_user_engine.specs.declared.names.Named.{Named}
use Rattle.mk_user_engine.specs.declared.narrow.PlacedRatio.{PlacedRatio}
use Rattle.mk_user_engine.specs.Names.{value_in}
use Rattle.mk_user_engine.specs.Narrow.{ratio_in, product_of, is_met, number_in, HasProduct}
use Rattle.mk_user_engine.specs.Narrow.{HaveProducts, HasLeast}

or_true : (b : Bool) → (b || true) ≡ true
or_true true = refl
or_true false = refl

or_none : (b : Bool) → (b || false) ≡ b
or_none true = refl
or_none false = refl

-- ---- one cell

module _ (names : List Named) (c : ℕ) where
  abbrev there : ℕ → ℕ
  there x = value_in names c x

  pub none_yet : (d e : ℕ) → StandsAt 0 d e 1 0 → HasProduct names [] c d e false
  none_yet d e s = record {
    stands = s;
    met_is = refl;
    own = λ u. record {
      own = 1;
      scaled = refl;
      stands = s;
    };
  }

  module _ (ts : List PlacedRatio) (t : PlacedRatio) where
    long : length (ts ++ t ∷ []) ≡ length ts + 1
    long = length-append ts (t ∷ [])

    shifted : 40 * length (ts ++ t ∷ []) ≡ 40 * length ts + 40
    shifted = omega (arith, long)

    number : (u : ℕ) → ratio_there (ratio_in t) there ≡ u → product_of ts there * u ≡ product_of
        (ts ++ t ∷ []) there
    number u e = sym (product_by_push (λ (s : PlacedRatio). ratio_there (ratio_in s) there) ts t
        ∙ ap (λ n. product_of ts there * n) e)

    met_more : (b : Bool) → holds_there (ratio_in t).condition there ≡ b
        → is_met (ts ++ t ∷ []) there ≡ (is_met ts there || b)
    met_more b e =
        list_any-append (λ (s : PlacedRatio). holds_there (ratio_in s).condition there) ts (t ∷ [])
        ∙ ap (λ z. is_met ts there || z) (or_none (holds_there (ratio_in t).condition there) ∙ e)

    stands_more : (d e v : ℕ) → v ≡ product_of (ts ++ t ∷ []) there
        → StandsAt (40 * length ts + 40) d e v (length ts + 1)
        → StandsAt (40 * length (ts ++ t ∷ [])) d e (product_of (ts ++ t ∷ []) there) (length
        (ts ++ t ∷ []))
    stands_more d e v i s =
        subst (λ w. StandsAt (40 * length (ts ++ t ∷ [])) d e w (length (ts ++ t ∷ []))) i
        (subst (λ k. StandsAt (40 * k) d e v k) (sym long) (subst (λ k. StandsAt k d e v
        (length ts + 1)) (sym shifted ∙ ap (λ k. 40 * k) long) s))

    -- the condition holds
    pub product_met : (d e : ℕ) (met : Bool) (u nd ne : ℕ) → HasProduct names ts c d e met
        → holds_there (ratio_in t).condition there ≡ true
        → u ≡ units_of (ratio_in t) (there (ratio_in t).variable)
        → ((v n : ℕ) → StandsAt (40 * length ts) d e v n → StandsAt (40 * length ts + 40) nd ne
        (v * u) (n + 0 + 1))
        → HasProduct names (ts ++ t ∷ []) c nd ne true
    product_met d e met u nd ne h holds is times = let one : length ts + 0 + 1 ≡ length ts + 1 =
        omega arith in record {
          stands =
              stands_more nd ne (product_of ts there * u)
              (number u
              (ap (λ b. cond b (units_of (ratio_in t) (there (ratio_in t).variable)) unit)
              holds ∙ sym is))
              (subst (λ k. StandsAt (40 * length ts + 40) nd ne (product_of ts there * u) k) one
              (times (product_of ts there) (length ts) h.stands));
          met_is = sym (met_more true holds ∙ or_true (is_met ts there));
          own = λ f. absurd (cc);
        }

    -- it does not
    pub product_left : (d e : ℕ) (met : Bool) → HasProduct names ts c d e met
        → holds_there (ratio_in t).condition there ≡ false
        → HasProduct names (ts ++ t ∷ []) c d e met
    product_left d e met h none =
        let is : product_of ts there * 2 ^ 40 ≡ product_of (ts ++ t ∷ []) there =
        number (2 ^ 40) (ap (λ b. cond b (units_of (ratio_in t) (there (ratio_in t).variable))
        unit) none) in
        record {
          stands = stands_more d e (product_of ts there * 2 ^ 40) is (untouched_stands
              (40 * length ts) 40 d e (product_of ts there) (length ts) (omega arith) h.stands);
          met_is = h.met_is ∙ sym (met_more false none ∙ or_none (is_met ts there));
          own = λ f.
              let o = h.own f in
              record {
                own = o.own;
                scaled = sym is ∙ ap (λ y. y * 2 ^ 40) o.scaled
                    ∙ mul_assoc o.own (2 ^ (40 * length ts)) (2 ^ 40)
                    ∙ ap (λ y. o.own * y) (sym (pow-add 2 (40 * length ts) 40))
                    ∙ ap (λ k. o.own * 2 ^ k) (sym shifted);
                stands = stands_with_more 0 d e o.own (length ts) (length (ts ++ t ∷ [])) (omega
                    (arith, long)) o.stands;
              };
        }

  -- a cell leaves room for a product
  pub product_cell : (ts : List PlacedRatio) (d e : ℕ) (met : Bool) → length ts ≤ 128
      → HasProduct names ts c d e met → IsCell d e
  product_cell ts d e met few h = has_room (40 * length ts) d e (product_of ts there) (length ts)
      (omega (arith, few)) (omega (arith, few)) h.stands

-- ---- all cells

module _ (names : List Named) (ts : List PlacedRatio) (asked : List Bool) where
  -- what is written of the next cell
  pub record IsWritten (c d e : ℕ) (met before : Bool) : Type 0 where
    pub stands : StandsAt (40 * length ts) d e (number_in names ts asked c) (length ts)
    pub kept : before ≡ true → met ≡ true
    pub own : met ≡ false → IsOwnAt (40 * length ts) d e (number_in names ts asked c) (length ts)
    pub met_is : before ≡ false → met ≡ true → (slice_index_or asked c false ≡ true) × (is_met ts
        (value_in names c) ≡ true)

  -- a cell that is not asked for
  pub written_absent : (c : ℕ) (before : Bool) → slice_index_or asked c false ≡ false
      → IsWritten c 0 0 before before
  written_absent c before none =
      let z : number_in names ts asked c ≡ 0 = ap (λ b. cond b (product_of ts (value_in names c))
      0) none in
      record {
        stands = rw z (absent_stands (40 * length ts) 0 (length ts) refl);
        kept = λ e. e;
        own = λ e. record {
          own = 0;
          scaled = z ∙ sym (zero-mul (2 ^ (40 * length ts)));
          stands =
              absent_stands 0 0 (length ts) refl;
        };
        met_is = λ e f. absurd (cc);
      }

  -- a cell that is
  pub written_product : (c d e : ℕ) (made before met : Bool) → slice_index_or asked c false ≡ true
      → HasProduct names ts c d e made → met ≡ (before || made) → IsWritten c d e met before
  written_product c d e made before met there h is =
      let z : number_in names ts asked c ≡ product_of ts (value_in names c) =
      ap (λ b. cond b (product_of ts (value_in names c)) 0) there in
      record {
        stands = rw z h.stands;
        kept = λ e. is ∙ ap (λ b. b || made) e;
        own = λ f. rw z (h.own (none before made (sym is ∙ f)));
        met_is = λ f g. (there, sym h.met_is ∙ one before made f (sym is ∙ g));
      }
    where
      none : (a b : Bool) → (a || b) ≡ false → b ≡ false
      none true b e = absurd (cc)
      none false b e = e

      one : (a b : Bool) → a ≡ false → (a || b) ≡ true → b ≡ true
      one true b e g = absurd (cc)
      one false b e g = g

  -- one cell more
  pub products_more : (digits exponents : List ℕ) (before : Bool) (c d e : ℕ) (met : Bool)
      → HaveProducts names ts asked digits exponents before c → c < length asked
      → IsWritten c d e met before → HaveProducts names ts asked (slice_set digits c d)
      (slice_set exponents c e) met (c + 1)
  products_more digits exponents before c d e met h l w = record {
    as_many_digits = length-set digits c d ∙ h.as_many_digits;
    as_many_exponents = length-set exponents c e ∙ h.as_many_exponents;
    stand = λ k b. at_each (λ x y j. StandsAt (40 * length ts) x y (number_in names ts asked j)
        (length ts)) k b (h.stand k) w.stands;
    own = λ f k b. at_each (λ x y j. IsOwnAt (40 * length ts) x y (number_in names ts asked j)
        (length ts)) k b (h.own (unmet f) k) (w.own f);
    met_is = λ f. first f;
  }
    where
      unmet : met ≡ false → before ≡ false
      unmet f = by (cases_Bool before)
        where
          by : ((before ≡ true) ⊎ (before ≡ false)) → before ≡ false
          by (inl t) = let m = w.kept t in absurd (cc)
          by (inr g) = g

      at_each : (P : ℕ → ℕ → ℕ → Type 0) (k : ℕ) → k < c + 1 → (k < c
          → P (slice_index digits k) (slice_index exponents k) k) → P d e c
          → P (slice_index (slice_set digits c d) k) (slice_index (slice_set exponents c e) k) k
      at_each P k b old new = by (cases_eq k c)
        where
          by : ((k ≡ c) ⊎ (k ≡ c → ⊥)) → P (slice_index (slice_set digits c d) k) (slice_index
              (slice_set exponents c e) k) k
          by (inl i) =
              subst (λ j. P (slice_index (slice_set digits c d) j) (slice_index
              (slice_set exponents c e) j) j) (sym i)
              (subst (λ x. P x (slice_index (slice_set exponents c e) c) c) (sym
              (get_or-set_same digits c d 0 (omega (arith, l, h.as_many_digits))))
              (subst (λ y. P d y c) (sym (get_or-set_same exponents c e 0 (omega (
                arith,
                l,
                h.as_many_exponents,
              )))) new))
          by (inr i) =
              subst (λ x. P x (slice_index (slice_set exponents c e) k) k) (sym
              (get_or-set_other digits c k d 0 i))
              (subst (λ y. P (slice_index digits k) y k) (sym (get_or-set_other exponents c k e 0
              i)) (old (omega (arith, b, i))))

      first : met ≡ true → (k : ℕ) × (k < c + 1) × (slice_index_or asked k false ≡ true) ×
          (is_met ts (value_in names k) ≡ true)
      first f = by (cases_Bool before)
        where
          by : ((before ≡ true) ⊎ (before ≡ false))
              → (k : ℕ) × (k < c + 1) × (slice_index_or asked k false ≡ true) × (is_met ts
              (value_in names k) ≡ true)
          by (inl t) = let m = h.met_is t in (m.0, omega (arith, m.1), m.2, m.3)
          by (inr g) = let m = w.met_is g f in (c, omega arith, m.0, m.1)

  -- ---- the least of them

  module _ (digits exponents : List ℕ) (met : Bool) (h : HaveProducts names ts asked digits
      exponents met (length asked)) where
    pub all_stand : AllStand (40 * length ts) digits exponents (number_in names ts asked)
        (length ts)
    all_stand = record { each = λ c l. h.stand c (omega (arith, l, h.as_many_digits)) }

    pub are_cells : length ts ≤ 128 → AreCells digits exponents
    are_cells few = all_have_room (40 * length ts) digits exponents (number_in names ts asked)
        (length ts) (omega (arith, few)) (omega (arith, few)) (omega (
          arith,
          h.as_many_digits,
          h.as_many_exponents,
        )) all_stand

    pub has_least : (d e : ℕ) → ((k : ℕ) (f : ℕ → ℕ) (n : ℕ) → AllStand k digits exponents f n
        → StandsAt k d e (plus_below least (length digits) f) n)
        → HasLeast names ts asked d e met
    has_least d e made = record {
      stands = subst (λ k. StandsAt (40 * length ts) d e (plus_below least k (number_in names ts
          asked)) (length ts)) h.as_many_digits (made (40 * length ts) (number_in names ts asked)
          (length ts) all_stand);
      own = λ f.
          let s = 40 * length ts in
          let g : ℕ → ℕ = number_in names ts asked in
          let o : ℕ → ℕ = λ c. g c / 2 ^ s in
          record {
            own = plus_below least (length asked) o;
            scaled =
                below_each (length asked) g (λ c. 2 ^ s * o c) (λ c l. sym (own_is s
                (slice_index digits c) (slice_index exponents c) (g c) (length ts)
                (h.own f c l)) ∙ mul_comm (g c / 2 ^ s) (2 ^ s))
                ∙ below-times (2 ^ s) (length asked) o ∙ mul_comm (2 ^ s) (plus_below least
                (length asked) o);
            stands =
                subst (λ k. StandsAt 0 d e (plus_below least k o) (length ts)) h.as_many_digits
                (made 0 o (length ts) (record {
                  each = λ c l. own_stands s (slice_index digits c)
                      (slice_index exponents c) (g c) (length ts) (h.own f c (omega (
                        arith,
                        l,
                        h.as_many_digits,
                      )));
                }));
          };
      met_is = h.met_is;
    }
