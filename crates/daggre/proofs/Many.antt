-- More words than any form has ask for nothing.
use Rattle.std.proofs.Common.{◌≡◌, ℕ, ◌+◌, ◌<◌, ◌≤◌, List, [], ◌∷◌, length, take, drop, codes}
use Rattle.std.proofs.Common.{Option, Some, None, option_map, option_and_then, position, cond, Bool}
use Rattle.std.proofs.Common.{true, false, refl, ap, ◌⊎◌, inl, inr, arith, length-drop}
use Rattle.std.proofs.lemmas.List.{length-take}
use Rattle.std.proofs.lemmas.Bool.{cases_lt}
use Rattle.std.proofs.lemmas.Bool.Decides.{nat_tests}
use Rattle.mk_names.specs.Texts.{same_text}
use Rattle.mk_net.specs.declared.words.PairText.{PairText}
use Rattle.daggre.specs.declared.ask.Ask.{Ask}
use Rattle.daggre.specs.declared.ask.Ask.TheVariants.{Chance, Best}
use Rattle.daggre.specs.Words.{listed, chance_in, chance_around, best_in, expect_in, ask_of}
use Rattle.daggre.specs.Words.{RunThen, asked_of, kept_in, audited_in}

listed_long : (least : ℕ) (words : List (List ℕ)) → 64 < length words → listed least words ≡ None
unfolding listed
listed_long least words h = grind (arith, nat_tests)

around_long : (words : List (List ℕ)) → 129 < length words → (o : Option ℕ)
    → chance_around words o ≡ None
around_long words h None =
    ap (λ (l : Option (List PairText)). option_map (λ want. Chance want []) l)
    (listed_long 1 words (omega arith))
around_long words h (Some k) = at (cases_lt 64 (length (take k words)))
  where
    none_behind : (o : Option (List PairText)) (given : Option (List PairText)) → given ≡ None
        → option_and_then (λ (want : List PairText). option_map (Chance want) given) o ≡ None
    none_behind None given e = refl
    none_behind (Some want) given e =
        ap (λ (g : Option (List PairText)). option_map (Chance want) g) e

    at : (64 < length (take k words)) ⊎ (length (take k words) ≤ 64)
        → chance_around words (Some k) ≡ None
    at (inl long) = ap (λ (l : Option (List PairText)). option_and_then (λ (want : List PairText).
        option_map (Chance want) (listed 1 (drop (k + 1) words))) l)
        (listed_long 1 (take k words) long)
    at (inr short) = none_behind (listed 1 (take k words)) (listed 1 (drop (k + 1) words))
        (listed_long 1 (drop (k + 1) words)
        (omega (arith, length-drop (k + 1) words, length-take k words)))

expect_long : (words : List (List ℕ)) → 129 < length words → expect_in words ≡ None
unfolding expect_in
expect_long [] h = absurd (omega (arith, h))
expect_long (word ∷ []) h = absurd (omega (arith, h))
expect_long (word ∷ more ∷ rest) h = refl

ask_long : (word : List ℕ) (words : List (List ℕ)) → 129 < length words → ask_of word words ≡ None
unfolding ask_of chance_in best_in
ask_long word words h = at (same_text word (codes "chance")) (same_text word (codes "best"))
    (same_text word (codes "expect"))
  where
    chance_none : chance_around words (position (same_text (codes "given")) words) ≡ None
    chance_none = around_long words h (position (same_text (codes "given")) words)

    best_none : option_map Best (listed 0 words) ≡ None
    best_none = ap (λ (l : Option (List PairText)). option_map Best l)
        (listed_long 0 words (omega arith))

    at : (chance best expect : Bool)
        → cond chance (chance_around words (position (same_text (codes "given")) words))
        (cond best (option_map Best (listed 0 words)) (cond expect (expect_in words) None)) ≡ None
    at true best expect = chance_none
    at false true expect = best_none
    at false false true = expect_long words h
    at false false false = refl

pub too_many : (words : List (List ℕ)) → 131 < length words → asked_of words ≡ None
too_many [] h = absurd (omega arith)
too_many (word ∷ []) h = absurd (omega arith)
too_many (word ∷ name ∷ []) h = absurd (omega arith)
too_many (word ∷ name ∷ more ∷ []) h = absurd (omega arith)
too_many (word ∷ name ∷ more ∷ other ∷ rest) h =
    at (same_text word (codes "keep")) (same_text word (codes "audit"))
  where
    at : (keeps audits : Bool) → cond keeps (kept_in name (more ∷ other ∷ rest))
        (cond audits (audited_in name (more ∷ other ∷ rest))
        (option_map (RunThen name) (ask_of word (more ∷ other ∷ rest)))) ≡ None
    at true audits = refl
    at false true = refl
    at false false = ap (λ (o : Option Ask). option_map (RunThen name) o)
        (ask_long word (more ∷ other ∷ rest) (omega arith))
