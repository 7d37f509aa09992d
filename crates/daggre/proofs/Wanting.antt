-- The chance that some words ask for, by the place of the word `given`.
use Rattle.std.proofs.Common.{◌≡◌, ℕ, ◌+◌, ◌-◌, ◌≤◌, List, [], map, take, drop, codes, refl, sym}
use Rattle.std.proofs.Common.{ap, ap₂, ◌∙◌, Option, Some, None, option_map, option_and_then}
use Rattle.std.proofs.Common.{position, length, arith, length-drop}
use Rattle.std.proofs.lemmas.List.{take-map, drop-map, take_all}
use Rattle.mk_net.proofs.Mapped.{position_of_map}
use Rattle.mk_names.specs.Texts.{same_text}
use Rattle.mk_net.specs.declared.words.PairText.{PairText}
use Rattle.daggre.specs.declared.ask.Ask.TheVariants.{Chance}
use Rattle.daggre.specs.Words.{listed, chance_in, chance_around}

none_listed : listed 0 [] ≡ Some []
unfolding listed
none_listed = refl

pub none_given : {X : Type 0} (text : X → List ℕ) (words : List X)
    → None ≡ position (λ w. same_text (codes "given") (text w)) words
    → option_and_then (λ (want : List PairText). option_map (Chance want) (listed 0 []))
    (listed 1 (map text words)) ≡ chance_in (map text words)
unfolding chance_in
none_given text words e = ap (λ (o : Option (List PairText)).
    option_and_then (λ (want : List PairText). option_map (Chance want) o)
    (listed 1 (map text words)))
    none_listed ∙ at (listed 1 (map text words))
    ∙ ap (chance_around (map text words))
    (e ∙ sym (position_of_map text (same_text (codes "given")) words))
  where
    at : (o : Option (List PairText))
        → option_and_then (λ (want : List PairText). Some (Chance want [])) o
        ≡ option_map (λ want. Chance want []) o
    at None = refl
    at (Some want) = refl

pub some_given : {X : Type 0} (text : X → List ℕ) (words : List X) (k : ℕ)
    → Some k ≡ position (λ w. same_text (codes "given") (text w)) words
    → option_and_then (λ (want : List PairText). option_map (Chance want)
    (listed 1 (map text (take (length words - (k + 1)) (drop (k + 1) words)))))
    (listed 1 (map text (take k words)))
    ≡ chance_in (map text words)
unfolding chance_in
some_given {X} text words k e =
    ap₂ (λ (front : List (List ℕ)) (rest : List (List ℕ)).
    option_and_then (λ (want : List PairText). option_map (Chance want) (listed 1 rest))
    (listed 1 front)) (sym (take-map text k words))
    (ap (λ (xs : List X). map text xs)
    (take_all (length words - (k + 1)) (drop (k + 1) words) short)
    ∙ sym (drop-map text (k + 1) words))
    ∙ ap (chance_around (map text words))
    (e ∙ sym (position_of_map text (same_text (codes "given")) words))
  where
    short : length (drop (k + 1) words) ≤ length words - (k + 1)
    short = omega (arith, length-drop (k + 1) words)
