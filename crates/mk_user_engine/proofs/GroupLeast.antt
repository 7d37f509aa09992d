-- The least product of a group's trades, from that of the cells that are asked for.
use Rattle.std.proofs.Common.{◌≡◌, ℕ, ◌*◌, ◌<◌, Bool, true, false, not, cond, ◌&&◌, ◌||◌, eqb}
use Rattle.std.proofs.Common.{◌⊎◌, inl, inr, length-append}
use Rattle.std.proofs.lemmas.Bool.{cases_eq}
use Rattle.std.specs.List.{list_any}
use Rattle.std.proofs.Common.{List, [], ◌∷◌, ◌++◌, length, slice_index_or, refl, sym, ap, subst}
use Rattle.std.proofs.Common.{◌∙◌, arith}
use Rattle.mk_net.specs.declared.words.Pair.{Pair}
use Rattle.mk_states.proofs.Sums.{list_all-append}
use Rattle.mk_cell.specs.Cell.{StandsAt, IsOwnAt}
use Rattle.mk_cell.specs.Least.{least}
use Rattle.mk_cell.specs.Passes.{plus_below}
use Rattle.mk_user_engine.specs.declared.group.Group.{Group}
use Rattle.mk_user_engine.specs.declared.kept.KeptLeast.{KeptLeast}
use Rattle.mk_user_engine.specs.declared.names.Named.{Named}
use Rattle.mk_user_engine.specs.declared.narrow.PlacedRatio.{PlacedRatio}
use Rattle.mk_user_engine.specs.Names.{is_named, value_in, agrees}
use Rattle.mk_user_engine.specs.Narrow.{product_of, number_in, HasLeast}
use Rattle.mk_user_engine.specs.Shared.{ratios_of}
use Rattle.mk_user_engine.specs.LeastShared.{least_in}
use Rattle.mk_user_engine.specs.Kept.{HasGroupLeast, AreKept, trades_in}
use Rattle.mk_user_engine.proofs.GroupProducts.{first_of, last_of}
use Rattle.mk_user_engine.proofs.Least.{below_each}

pub agrees_both : (names : List Named) (known event : List Pair) (c : ℕ)
    → agrees names (known ++ event) c ≡ (agrees names known c && agrees names event c)
agrees_both names known event c =
    list_all-append (λ (p : Pair). not (is_named names p.variable)
    || eqb (value_in names c p.variable) p.value) known event

module _ (g : Group) (ts : List PlacedRatio) (known event : List Pair) (asked : List Bool)
    (long : length asked ≡ g.cells)
    (asked_are : (c : ℕ) → c < g.cells → slice_index_or asked c false
    ≡ (agrees g.names.items known c && agrees g.names.items event c))
  where
    abbrev found : ℕ
    found = plus_below least (length asked) (number_in g.names.items (ratios_of ts g) asked)

    abbrev in_cell : ℕ → ℕ
    in_cell c = cond (agrees g.names.items (known ++ event) c)
        (product_of (ratios_of ts g) (value_in g.names.items c)) 0

    found_is : found ≡ least_in ts (known ++ event) g
    found_is =
        below_each (length asked) (number_in g.names.items (ratios_of ts g) asked) in_cell
        (λ c l. ap (λ b. cond b (product_of (ratios_of ts g) (value_in g.names.items c)) 0)
        (asked_are c (omega (arith, l, long)) ∙ sym (agrees_both g.names.items known event c)))
        ∙ ap (λ n. plus_below least n in_cell) long

    pub group_least : (kept : KeptLeast)
        → HasLeast g.names.items (ratios_of ts g) asked kept.least.digits kept.least.exponent
        kept.met → HasGroupLeast ts (known ++ event) g kept
    group_least kept h = record {
      stands = subst (λ v. StandsAt (40 * trades_in ts g) kept.least.digits kept.least.exponent v
          (trades_in ts g)) found_is h.stands;
      own = λ n. subst (λ v. IsOwnAt (40 * trades_in ts g) kept.least.digits kept.least.exponent v
          (trades_in ts g)) found_is (h.own n);
      met_is = λ n. let is = h.met_is n in (
        is.0,
        omega (arith, is.1, long),
        agrees_both g.names.items known event is.0
            ∙ sym (asked_are is.0 (omega (arith, is.1, long))) ∙ is.2,
        is.3,
      );
    }

-- ---- an event that names no variable of the group

and_true : (b : Bool) → (b && true) ≡ b
and_true true = refl
and_true false = refl

none_named : (names : List Named) (event : List Pair) (c : ℕ)
    → list_any (λ (p : Pair). is_named names p.variable) event ≡ false
    → agrees names event c ≡ true
none_named names [] c none = refl
none_named names (p ∷ ps) c none = at (is_named names p.variable) none (none_named names ps c)
  where
    at : (b : Bool) → (b || list_any (λ (q : Pair). is_named names q.variable) ps) ≡ false
        → (list_any (λ (q : Pair). is_named names q.variable) ps ≡ false
        → agrees names ps c ≡ true)
        → ((not b || eqb (value_in names c p.variable) p.value) && agrees names ps c) ≡ true
    at true e rest = absurd (cc)
    at false e rest = rest e

pub kept_for : (g : Group) (ts : List PlacedRatio) (known event : List Pair) (kept : KeptLeast)
    → list_any (λ (p : Pair). is_named g.names.items p.variable) event ≡ false
    → HasGroupLeast ts known g kept → HasGroupLeast ts (known ++ event) g kept
kept_for g ts known event kept none h = record {
  stands = subst (λ v. StandsAt (40 * trades_in ts g) kept.least.digits kept.least.exponent v
      (trades_in ts g)) same h.stands;
  own = λ n. subst (λ v. IsOwnAt (40 * trades_in ts g) kept.least.digits kept.least.exponent v
      (trades_in ts g)) same (h.own n);
  met_is = λ n. let is = h.met_is n in (is.0, is.1, sym (alike is.0) ∙ is.2, is.3);
}
  where
    names : List Named
    names = g.names.items

    alike : (c : ℕ) → agrees names known c ≡ agrees names (known ++ event) c
    alike c = sym (agrees_both names known event c
        ∙ ap (λ b. agrees names known c && b) (none_named names event c none)
        ∙ and_true (agrees names known c))

    same : least_in ts known g ≡ least_in ts (known ++ event) g
    same = below_each g.cells
        (λ c. cond (agrees names known c) (product_of (ratios_of ts g) (value_in names c)) 0)
        (λ c. cond (agrees names (known ++ event) c) (product_of (ratios_of ts g)
        (value_in names c)) 0)
        (λ c l. ap (λ b. cond b (product_of (ratios_of ts g) (value_in names c)) 0) (alike c))

-- ---- one group more is kept

pub kept_more : (gs : List Group) (ts : List PlacedRatio) (ks : List Pair) (ls : List KeptLeast)
    (g : Group) (l : KeptLeast) → AreKept gs ts ks ls → HasGroupLeast ts ks g l
    → AreKept (gs ++ g ∷ []) ts ks (ls ++ l ∷ [])
kept_more gs ts ks ls g l are has = record {
  one_each = omega (arith, length-append ls (l ∷ []), length-append gs (g ∷ []), are.one_each);
  each = λ k h m b. at k h m b (cases_eq k (length gs));
}
  where
    P : Group → KeptLeast → Type 0
    P h m = HasGroupLeast ts ks h m

    at : (k : ℕ) (h : Group) (m : KeptLeast) → k < length (gs ++ g ∷ [])
        → ((k ≡ length gs) ⊎ (k ≡ length gs → ⊥))
        → P (slice_index_or (gs ++ g ∷ []) k h) (slice_index_or (ls ++ l ∷ []) k m)
    at k h m b (inl i) =
        subst (λ x. P x (slice_index_or (ls ++ l ∷ []) k m)) (sym (last_of gs g k h i))
        (subst (λ y. P g y) (sym (last_of ls l k m (i ∙ sym are.one_each))) has)
    at k h m b (inr d) =
        let e = length-append gs (g ∷ []) in
        let within : k < length gs = omega (arith, d, b, e) in
        subst (λ x. P x (slice_index_or (ls ++ l ∷ []) k m)) (sym (first_of gs (g ∷ []) k h within))
        (subst (λ y. P (slice_index_or gs k h) y) (sym (first_of ls (l ∷ []) k m (omega (
          arith,
          within,
          are.one_each,
        )))) (are.each k h m within))
