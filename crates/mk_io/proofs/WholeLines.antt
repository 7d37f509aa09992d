-- The lines of bytes that hold whole lines alone, and of what stands behind them.
use Rattle.std.proofs.Common.{◌≡◌, ℕ, ◌<◌, List, [], ◌∷◌, ◌++◌, length, map, Bool, true, false, cond, eqb, inl, inr, refl, sym, ap, ◌∙◌, arith}
use Rattle.std.proofs.lemmas.List.{map-append}
use Rattle.mk_io.specs.Stream.{onto_first, parts, line_of, stream_lines, AreWholeLines}

onto_first-append : (b : ℕ) (some more : List (List ℕ)) → 0 < length some → onto_first b (some ++ more) ≡ onto_first b some ++ more
onto_first-append b [] more h = absurd (omega arith)
onto_first-append b (part ∷ some) more h = refl

pub some_part : (ends : Bool) (b : ℕ) (rest : List (List ℕ)) → 0 < length (cond ends ([] ∷ rest) (onto_first b rest))
some_part true b rest = omega arith
some_part false b [] = omega arith
some_part false b (part ∷ rest) = omega arith

some_parts : (front more : List ℕ) → 0 < length (parts (front ++ 10 ∷ more))
some_parts [] more = omega arith
some_parts (b ∷ front) more = some_part (eqb b 10) b (parts (front ++ 10 ∷ more))

parts-append : (front rest : List ℕ) → parts ((front ++ 10 ∷ []) ++ rest) ≡ parts (front ++ 10 ∷ []) ++ parts rest
parts-append [] rest = refl
parts-append (b ∷ front) rest = at (eqb b 10) (parts-append front rest)
  where
    at : (ends : Bool) → parts ((front ++ 10 ∷ []) ++ rest) ≡ parts (front ++ 10 ∷ []) ++ parts rest
        → cond ends ([] ∷ parts ((front ++ 10 ∷ []) ++ rest)) (onto_first b (parts ((front ++ 10 ∷ []) ++ rest)))
        ≡ cond ends ([] ∷ parts (front ++ 10 ∷ [])) (onto_first b (parts (front ++ 10 ∷ []))) ++ parts rest
    at true same = ap (λ xs. [] ∷ xs) same
    at false same = ap (onto_first b) same ∙ onto_first-append b (parts (front ++ 10 ∷ [])) (parts rest) (some_parts front [])

pub whole_lines-append : (whole rest : List ℕ) → AreWholeLines whole → stream_lines (whole ++ rest) ≡ stream_lines whole ++ stream_lines rest
whole_lines-append whole rest (inl none) = ap (λ (xs : List ℕ). stream_lines (xs ++ rest)) none ∙ ap (λ (xs : List ℕ). stream_lines xs ++ stream_lines rest) (sym none)
whole_lines-append whole rest (inr lf) =
    let lines = λ (xs : List ℕ). stream_lines (xs ++ rest) in
    ap lines lf.ended ∙ ap (map line_of) (parts-append lf.front rest) ∙ map-append line_of (parts (lf.front ++ 10 ∷ [])) (parts rest)
    ∙ ap (λ (xs : List ℕ). stream_lines xs ++ stream_lines rest) (sym lf.ended)
