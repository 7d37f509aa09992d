-- Which cells are asked for, pair by pair.
use Rattle.std.proofs.Common.{◌≡◌, ℕ, ◌<◌, ◌≤◌, Bool, true, false, not, ◌&&◌, ◌||◌, eqb}
use Rattle.std.proofs.Common.{List, [], ◌∷◌, ◌++◌, length, slice_index_or, refl, sym, ap, ◌∙◌}
use Rattle.std.proofs.Common.{arith}
use Rattle.mk_net.specs.declared.words.Pair.{Pair}
use Rattle.mk_states.proofs.Sums.{list_all-append}
use Rattle.mk_user_engine.specs.declared.names.Named.{Named}
use Rattle.mk_user_engine.specs.Names.{is_named, value_in, agrees}

-- each cell is asked for that was before and passes a test
pub record IsKept (passes : ℕ → Bool) (old new : List Bool) : Type 0 where
  pub long : length new ≡ length old
  pub kept : (c : ℕ) → c < length old → slice_index_or new c false ≡ (slice_index_or old c false &&
      passes c)

-- so for the first cells, and the others are as they were
pub record IsKeptBelow (passes : ℕ → Bool) (count : ℕ) (old new : List Bool) : Type 0 where
  pub long : length new ≡ length old
  pub kept : (c : ℕ) → c < count → slice_index_or new c false ≡ (slice_index_or old c false &&
      passes c)
  pub left : (c : ℕ) → count ≤ c → slice_index_or new c false ≡ slice_index_or old c false

and_true : (b : Bool) → (b && true) ≡ b
and_true true = refl
and_true false = refl

and_assoc : (a b c : Bool) → ((a && b) && c) ≡ (a && (b && c))
and_assoc true b c = refl
and_assoc false b c = refl

module _ (names : List Named) (ps : List Pair) (p : Pair) where
  -- with one pair more
  agrees_push : (c : ℕ) → agrees names (ps ++ p ∷ []) c ≡ (agrees names ps c && (not
      (is_named names p.variable) || eqb (value_in names c p.variable) p.value))
  agrees_push c =
      list_all-append (λ (q : Pair). not (is_named names q.variable) || eqb
      (value_in names c q.variable) q.value) ps (p ∷ [])
      ∙ ap (λ b. agrees names ps c && b) (and_true (not (is_named names p.variable) || eqb
      (value_in names c p.variable) p.value))

  -- whose variable is named
  pub kept_more : (old now new : List Bool) → IsKept (agrees names ps) old now
      → is_named names p.variable ≡ true → length new ≡ length now
      → ((c : ℕ) → c < length now → slice_index_or new c false ≡ (slice_index_or now c false && eqb
      (value_in names c p.variable) p.value))
      → IsKept (agrees names (ps ++ p ∷ [])) old new
  kept_more old now new h named long more = record {
    long = long ∙ h.long;
    kept = λ c l.
        more c (omega (arith, l, h.long))
        ∙ ap (λ b. b && eqb (value_in names c p.variable) p.value) (h.kept c l)
        ∙ and_assoc (slice_index_or old c false) (agrees names ps c) (eqb
        (value_in names c p.variable) p.value)
        ∙ ap (λ b. slice_index_or old c false && b) (ap (λ b. agrees names ps c && (not b || eqb
        (value_in names c p.variable) p.value)) (sym named) ∙ sym (agrees_push c));
  }

  -- whose variable is not
  pub kept_beside : (old now : List Bool) → IsKept (agrees names ps) old now
      → is_named names p.variable ≡ false → IsKept (agrees names (ps ++ p ∷ [])) old now
  kept_beside old now h other = record {
    long = h.long;
    kept = λ c l.
        h.kept c l
        ∙ ap (λ b. slice_index_or old c false && b) (sym (and_true (agrees names ps c))
        ∙ ap (λ b. agrees names ps c && (not b || eqb (value_in names c p.variable) p.value))
        (sym other) ∙ sym (agrees_push c));
  }
