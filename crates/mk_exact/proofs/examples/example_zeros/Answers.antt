use Rattle.std.proofs.Common.{◌≢◌, ℕ, zero, suc, ◌<◌, List, [], ◌∷◌, codes, length, slice_index_or}
use Rattle.std.proofs.Common.{refl, arith}
use Rattle.std.proofs.lemmas.List.Elements.{All-from_recursion}
use Rattle.std.proofs.lemmas.List.Kept.{AllPairs-cons}
use Rattle.mk_names.specs.Name.{IsName}
use Rattle.mk_net.specs.Network.{Variable, IsRow, IsVariable, IsNetwork, AreDistinct, sizes, names}
use Rattle.mk_net.specs.Named.{variable_at}
use Rattle.mk_net.proofs.Checked.{name_of}
use Rattle.mk_net.proofs.Distinct.{distinct_texts}
use Rattle.mk_exact.specs.Examples.{cup, even_row, variable}
use Rattle.mk_exact.proofs.examples.example_zeros.Goals as goal

none_apart : AreDistinct {X = ℕ} []
none_apart i j d p q = absurd (omega arith)

parents_apart : AreDistinct {X = ℕ} (0 ∷ 1 ∷ [])
parents_apart = AllPairs-cons (λ (x y : ℕ). x ≢ y) 0 (1 ∷ []) (All-from_recursion (λ (y : ℕ). 0 ≢ y) (1 ∷ []) (λ e. omega arith, tt))
    (AllPairs-cons (λ (x y : ℕ). x ≢ y) 1 [] (All-from_recursion (λ (y : ℕ). 1 ≢ y) [] tt) none_apart)

-- a semi-final of two names that are apart
semi : (k : ℕ) (name a b : List ℕ) → IsName name → IsName a → IsName b → AreDistinct (a ∷ b ∷ [])
    → IsVariable (sizes cup) k (variable name (a ∷ b ∷ []) [] (even_row ∷ []))
semi k name a b is is_a is_b apart = record {
  name = is;
  two_values = omega arith;
  few_values = omega arith;
  values_named = All-from_recursion IsName (a ∷ b ∷ []) (is_a, (is_b, tt));
  values_distinct = apart;
  few_parents = omega arith;
  parents_earlier = All-from_recursion (λ p. p < k) [] tt;
  parents_distinct = none_apart;
  one_row_each = refl;
  rows_fit = All-from_recursion (IsRow 2) (even_row ∷ [])
      (record { one_each = refl; whole = refl }, tt);
}

first : IsVariable (sizes cup) 0 (variable_at cup 0)
first = semi 0 _ _ _ (name_of (codes "s1") refl) (name_of (codes "a") refl)
    (name_of (codes "b") refl) (distinct_texts (codes "a" ∷ codes "b" ∷ []) refl)

second : IsVariable (sizes cup) 1 (variable_at cup 1)
second = semi 1 _ _ _ (name_of (codes "s2") refl) (name_of (codes "c") refl)
    (name_of (codes "d") refl) (distinct_texts (codes "c" ∷ codes "d" ∷ []) refl)

winner : IsVariable (sizes cup) 2 (variable_at cup 2)
winner = record {
  name = name_of (codes "w") refl;
  two_values = omega arith;
  few_values = omega arith;
  values_named = All-from_recursion IsName (variable_at cup 2).values
      (name_of (codes "a") refl, (name_of (codes "b") refl, (name_of (codes "c") refl, (name_of (codes "d") refl, tt))));
  values_distinct = distinct_texts (variable_at cup 2).values refl;
  few_parents = omega arith;
  parents_earlier = All-from_recursion (λ p. p < 2) (0 ∷ 1 ∷ []) (omega arith, (omega arith, tt));
  parents_distinct = parents_apart;
  one_row_each = refl;
  rows_fit = All-from_recursion (IsRow 4) (variable_at cup 2).rows
      (record { one_each = refl; whole = refl }, (record { one_each = refl; whole = refl }, (record { one_each = refl; whole = refl }, (record { one_each = refl; whole = refl }, tt))));
}

each : (k : ℕ) (d : Variable) → k < length cup → IsVariable (sizes cup) k (slice_index_or cup k d)
each zero d h = first
each (suc zero) d h = second
each (suc (suc zero)) d h = winner
each (suc (suc (suc k))) d h = absurd (omega arith)

cup_is : IsNetwork cup
cup_is = record {
  some = omega arith;
  few = omega arith;
  names_distinct = distinct_texts (names cup) refl;
  each = each;
}

pub returns : goal.returns
returns c = record {
  cup_is = cup_is;
  winner_has = refl;
  cup_total = refl;
  states = refl;
  never = refl;
  sure = refl;
  lost = refl;
  open_still = refl;
  least = refl;
  three_bits = record { cash = 300; is_cash = record { covered = omega arith; greatest = omega arith }; above = omega arith; below = omega arith; low_near = omega arith; high_near = omega arith };
  not_four = λ h. omega (arith, h.high_near);
}
