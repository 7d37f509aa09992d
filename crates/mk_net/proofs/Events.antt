-- A kept event with one pair more.
use Rattle.std.specs.Prelude.{◌≡◌, ℕ, suc, ◌<◌, List, [], ◌∷◌, ◌++◌, length, take, slice_set, Bool}
use Rattle.std.specs.Prelude.{true, false, ◌||◌, ◌==◌}
use Rattle.std.proofs.Common.{refl, sym, ◌∙◌, arith, length-append, length-take}
use Rattle.std.proofs.lemmas.Bool.{eqb-true, eq-eqb}
use Rattle.mk_net.specs.declared.words.Pair.{Pair}
use Rattle.mk_net.specs.Bounds.{max_pairs}
use Rattle.mk_net.specs.Events.{speaks_of, AreApart, IsEvent}
use Rattle.mk_net.specs.inner.KeptEvents.{IsKeptEvent, blank}
use Rattle.mk_net.proofs.Blanks.{set_behind, set_length, blanks_longer}

pub same_place : (x y : ℕ) → (x == y) ≡ false → (y == x) ≡ false
same_place x y h = choose (y == x) refl
  where
    choose : (b : Bool) → (y == x) ≡ b → (y == x) ≡ false
    choose true e = absurd (let t : (x == y) ≡ true = eq-eqb x y (sym (eqb-true y x e)) in cc)
    choose false e = e

pub neither : (p q : Bool) → p || q ≡ false → (p ≡ false) × (q ≡ false)
neither true q h = cc
neither false q h = (refl, h)

speaks_longer : (pairs : List Pair) (pair : Pair) (x : ℕ) → speaks_of pairs x ≡ false → (x == pair.variable) ≡ false → speaks_of (pairs ++ pair ∷ []) x ≡ false
speaks_longer [] pair x none other = rw other refl
speaks_longer (p ∷ ps) pair x none other =
    let parts = neither (x == p.variable) (speaks_of ps x) none in
    rw (parts.0, speaks_longer ps pair x (parts.1) other) refl

-- pairs that are apart stay so with one more of which they do not speak
pub apart_longer : (pairs : List Pair) (pair : Pair) → AreApart pairs → speaks_of pairs pair.variable ≡ false → AreApart (pairs ++ pair ∷ [])
apart_longer [] pair apart none = (refl, tt)
apart_longer (p ∷ ps) pair apart none =
    let parts = neither (pair.variable == p.variable) (speaks_of ps pair.variable) none in
    (speaks_longer ps pair p.variable (apart.0) (same_place pair.variable p.variable (parts.0)), apart_longer ps pair (apart.1) (parts.1))

pub event_longer : (pairs : List Pair) (n : ℕ) (pair : Pair) → IsKeptEvent pairs n → n < max_pairs → speaks_of (take n pairs) pair.variable ≡ false
    → IsEvent (take (suc n) (slice_set pairs n pair))
event_longer pairs n pair kept more none =
    let inside : n < length pairs = omega (arith, kept.whole, more) in
    let size : length (take n pairs) ≡ n = grind (arith, length-take {A = Pair}, kept.whole, kept.fits) in
    let longer : IsEvent (take n pairs ++ pair ∷ []) = record {
      few = omega (arith, length-append (take n pairs) (pair ∷ []), size, more);
      apart = apart_longer (take n pairs) pair kept.event.apart none;
    } in
    rw (set_behind pairs n pair inside) longer

pub kept_longer : (pairs : List Pair) (n : ℕ) (pair : Pair) → IsKeptEvent pairs n → n < max_pairs →
    speaks_of (take n pairs) pair.variable ≡ false → IsKeptEvent (slice_set pairs n pair) (suc n)
kept_longer pairs n pair kept more none = record {
  whole = set_length pairs n pair ∙ kept.whole;
  fits = omega (arith, more);
  event = event_longer pairs n pair kept more none;
  blanks = blanks_longer blank max_pairs pairs n pair kept.whole more kept.blanks;
}
