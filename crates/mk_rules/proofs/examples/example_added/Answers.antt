use Rattle.std.proofs.Common.{ℕ, ◌<◌, ◌≤◌, inl, inr, List, [], ◌∷◌, codes, refl, arith}
use Rattle.std.specs.Prelude.{length}
use Rattle.std.specs.List.{AllByRecursion}
use Rattle.std.proofs.lemmas.List.Elements.{All-from_recursion}
use Rattle.mk_names.specs.Name.{IsName}
use Rattle.mk_text.specs.Numbers.{IsShort}
use Rattle.mk_addition.specs.Adds.{AreBetween, IsAddText}
use Rattle.mk_addition.specs.declared.add.AddText.{AddText}
use Rattle.mk_rules.specs.AddExamples.{umbrella, yes_no, the_rain}
use Rattle.mk_rules.proofs.examples.example_added.Goals as goal

between : {X : Type 0} (least most : ℕ) (Fits : X → Type 0) (xs : List X) → least ≤ length xs
    → length xs ≤ most → AllByRecursion Fits xs → AreBetween least most Fits xs
between least most Fits xs enough few each =
    record { enough = enough; few = few; each = All-from_recursion Fits xs each }

is_umbrella : IsName umbrella
is_umbrella = record { short = omega arith; first = refl; each = refl }

is_rain : IsName the_rain
is_rain = record { short = omega arith; first = refl; each = refl }

is_yes : IsName (codes "yes")
is_yes = record { short = omega arith; first = refl; each = refl }

is_no : IsName (codes "no")
is_no = record { short = omega arith; first = refl; each = refl }

row : (a b : ℕ) → a < 1000000000 → b < 1000000000 → AreBetween 1 16 IsShort (a ∷ b ∷ [])
row a b p q = between 1 16 IsShort (a ∷ b ∷ []) (omega arith) (omega arith)
    (omega (arith, p), (omega (arith, q), tt))

abbrev added : AddText
added = record {
  variable = umbrella;
  values = record { items = yes_no };
  parents = record { items = the_rain ∷ [] };
  rows = record { items = (900000 ∷ 100000 ∷ []) ∷ (200000 ∷ 800000 ∷ []) ∷ [] };
  clique = record { items = the_rain ∷ umbrella ∷ [] };
  link = 1;
}

text : IsAddText added
text = record {
  variable = is_umbrella;
  values = between 2 16 IsName yes_no (omega arith) (omega arith) (is_yes, (is_no, tt));
  parents = between 0 8 IsName (the_rain ∷ []) (omega arith) (omega arith) (is_rain, tt);
  rows = between 1 64 (AreBetween 1 16 IsShort)
      ((900000 ∷ 100000 ∷ []) ∷ (200000 ∷ 800000 ∷ []) ∷ []) (omega arith) (omega arith) (
        row 900000 100000 (omega arith) (omega arith),
        (row 200000 800000 (omega arith) (omega arith), tt),
      );
  clique = between 1 13 IsName (the_rain ∷ umbrella ∷ []) (omega arith) (omega arith)
      (is_rain, (is_umbrella, tt));
  link = omega arith;
}

pub returns : goal.returns
returns c = record {
  allowed = inl (text, refl);
  no_memory = inr refl;
  not_at_once = λ h. elim h [ inl (both) ↦ (let e = both.1 in absurd (cc)) | inr e ↦ absurd (cc) ];
  not_another = λ h. elim h [ inl (both) ↦ (let e = both.1 in absurd (cc)) | inr e ↦ absurd (cc) ];
  appended = refl;
  again = refl;
  priced = refl;
  apart = refl;
  not_running = refl;
  linked_to_it = refl;
}
