-- What the front of a file says of it.
use Rattle.std.proofs.Common.{◌≡◌, ◌≢◌, ◌⊎◌, ◌↔◌, inl, inr, ℕ, zero, suc, ◌+◌, ◌-◌, ◌<◌, ◌≤◌, Bool, true, IsTrue, List, [], ◌∷◌, ◌++◌, length, get_or, take, drop, eqb, Some, refl, sym, ◌∙◌, ap, arith, add-one, length-take, length-drop, take-append-drop}
use Rattle.std.proofs.lemmas.Bool.{cases_Bool, cond-true, cond-false}
use Rattle.std.proofs.lemmas.List.{take_at, take-take}
use Rattle.mk_journal.specs.Store.{header, begun, foreign_from, IsCleared, IsUnstarted, IsForeign}
use Rattle.mk_journal.specs.inner.Reading.{HasHeader, IsOwn}
use Rattle.mk_journal.proofs.Spelling.{length-header}
use Rattle.mk_journal.proofs.Heads.{length-begun, one_byte, length-headed}

-- a header is compared with as many bytes and one more
pub foreign_front : (at n : ℕ) (head bytes : List ℕ) → length head < n → foreign_from at head (take n bytes) ≡ foreign_from at head bytes
foreign_front at zero head bytes more = absurd (omega arith)
foreign_front at (suc n) [] [] more = refl
foreign_front at (suc n) [] (b ∷ bytes) more = refl
foreign_front at (suc n) (h ∷ head) [] more = refl
foreign_front at (suc n) (h ∷ head) (b ∷ bytes) more = elim (cases_Bool (eqb h b)) [
  | inl same ↦ cond-true (eqb h b) _ _ same ∙ foreign_front (at + 1) n head bytes (omega arith) ∙ sym (cond-true (eqb h b) _ _ same)
  | inr other ↦ cond-false (eqb h b) _ _ other ∙ sym (cond-false (eqb h b) _ _ other)
]

-- the first byte of a file, and the others
pub record IsSplit (file : List ℕ) (gate : ℕ) (behind : List ℕ) (n : ℕ) : Type 0 where
  pub rest : List ℕ
  pub file_is : file ≡ gate ∷ rest
  pub behind_is : behind ≡ take n rest

pub split : (file front behind : List ℕ) (gate n : ℕ) → front ≡ take (n + 1) file → front ≡ gate ∷ behind → IsSplit file gate behind n
split [] front behind gate n front_is parts = let nothing : List ℕ = [] in absurd (omega (arith, ap length (sym front_is ∙ parts), length-take (n + 1) nothing))
split (g ∷ rest) front behind gate n front_is parts =
    let both : g ∷ take n rest ≡ gate ∷ behind = rw add-one at (sym front_is ∙ parts) in
    record { rest = rest; file_is = (let same : g ≡ gate = cc in ap (λ (b : ℕ). b ∷ rest) same); behind_is = cc }

pub header_in : (market body head : List ℕ) → body ≡ begun market → head ≡ take (length body - 1) body → head ≡ header market
header_in market body head is head_is =
    head_is ∙ ap (λ (l : List ℕ). take (length l - 1) l) is ∙ take_at (header market) (0 ∷ []) (length (begun market) - 1) (omega (arith, length-begun market, length-header market))

module _ (market rest : List ℕ) (gate : ℕ) (closed : gate ≢ 1) where
  abbrev file : List ℕ
  file = gate ∷ rest

  pub alien_unless : (IsUnstarted market file → ⊥) → IsForeign market file 0
  alien_unless not_new = inl (record { gate = gate; rest = rest; closed = closed; file_is = refl; not_new = not_new }, refl)

  -- a file that is longer than a header between two gates
  pub too_long : length market + 18 < length file → IsUnstarted market file → ⊥
  too_long long (inl short) = omega arith
  too_long long (inr (inl cleared)) = omega (arith, ap length cleared.file_is, cleared.short)
  too_long long (inr (inr written)) = omega (arith, ap length written.file_is, length-headed market written.gate (written.last ∷ []))

  -- behind another gate than 0 the header has to stand, with one byte behind it
  pub not_written : 1 < length file → gate ≢ 0 → (take (length (header market)) rest ≡ header market → length file ≡ length market + 18 → ⊥) → IsUnstarted market file → ⊥
  not_written long some other (inl short) = omega arith
  not_written long some other (inr (inl cleared)) = some (let is = cleared.file_is in cc)
  not_written long some other (inr (inr written)) =
      let behind : rest ≡ header market ++ written.last ∷ [] = let is = written.file_is in cc in
      other (ap (take (length (header market))) behind ∙ take_at (header market) (written.last ∷ []) (length (header market)) refl)
      (omega (arith, ap length written.file_is, length-headed market written.gate (written.last ∷ [])))

  pub cleared_as : gate ≡ 0 → length file ≤ length market + 18 → IsCleared market file
  cleared_as none short = record { rest = rest; file_is = ap (λ (b : ℕ). b ∷ rest) none; short = omega arith }

  module _ (stands : take (length (header market)) rest ≡ header market) where
    abbrev tail : List ℕ
    tail = drop (length (header market)) rest

    has_header : rest ≡ header market ++ tail
    has_header = sym (take-append-drop (length (header market)) rest) ∙ ap (λ (l : List ℕ). l ++ tail) stands

    pub header_there : HasHeader market file
    header_there = record { gate = gate; tail = tail; file_is = ap (λ (l : List ℕ). gate ∷ l) has_header }

    pub written_new : length file ≤ length market + 18 → (gate ≡ 0) ⊎ (length file ≡ length market + 18) → IsUnstarted market file
    written_new short (inl none) = inr (inl (cleared_as none short))
    written_new short (inr whole) =
        let one : length tail ≡ 1 = omega (arith, length-drop (length (header market)) rest, length-header market) in
        inr (inr (record { gate = gate; last = get_or tail 0 0; closed = closed; file_is = ap (λ (l : List ℕ). gate ∷ l) (has_header ∙ ap (λ (l : List ℕ). header market ++ l) (one_byte tail one)) }))

-- an open gate, behind which the header ends or differs, or stands
pub another_at : (market file behind head : List ℕ) (n at : ℕ) → 1 < length file → head ≡ header market → n ≡ length market + 17 → IsSplit file 1 behind n → foreign_from 1 head behind ≡ Some at → IsForeign market file at
another_at market file behind head n at long head_is size s differs = inr (record {
  rest = s.rest;
  some = omega (arith, ap length s.file_is);
  file_is = s.file_is;
  differs = sym (foreign_front 1 n (header market) s.rest (omega (arith, size, length-header market)))
      ∙ ap (foreign_from 1 (header market)) (sym s.behind_is)
      ∙ ap (λ (l : List ℕ). foreign_from 1 l behind) (sym head_is)
      ∙ differs;
})

pub own_at : (market file behind head : List ℕ) (n : ℕ) → head ≡ header market → n ≡ length market + 17 → IsSplit file 1 behind n → take (length head) behind ≡ head → length head < length behind → IsOwn market file
own_at market file behind head n head_is size s same longer =
    let long : length behind ≤ length s.rest = omega (arith, ap length s.behind_is, length-take n s.rest) in
    let front : take (length (header market)) s.rest ≡ header market =
    sym (take-take (length (header market)) n s.rest (omega (arith, size, length-header market))) ∙ ap (take (length (header market))) (sym s.behind_is) ∙ ap (λ (l : List ℕ). take (length l) behind) (sym head_is) ∙ same ∙ head_is in
    record {
      rest = drop (length (header market)) s.rest;
      some = omega (arith, length-drop (length (header market)) s.rest, ap length head_is);
      file_is = s.file_is ∙ ap (λ (l : List ℕ). 1 ∷ l) (sym (take-append-drop (length (header market)) s.rest) ∙ ap (λ (l : List ℕ). l ++ drop (length (header market)) s.rest) front);
    }

-- whether the header stands, by the bytes behind the gate
pub stands_if : (market behind head rest : List ℕ) (n : ℕ) (r : Bool) → head ≡ header market → n ≡ length market + 17 → behind ≡ take n rest
    → (r ≡ true → behind ≡ head ++ drop (length head) behind) × ((more : List ℕ) → behind ≡ head ++ more → r ≡ true)
    → IsTrue r ↔ (take (length (header market)) rest ≡ header market)
stands_if market behind head rest n r head_is size behind_is starts =
    let fits : length (header market) ≤ n = omega (arith, size, length-header market) in
    let same : take (length (header market)) behind ≡ take (length (header market)) rest = ap (take (length (header market))) behind_is ∙ take-take (length (header market)) n rest fits in
    let spelled : (r ≡ true) → behind ≡ header market ++ drop (length (header market)) behind = λ yes. starts.0 yes ∙ ap (λ (l : List ℕ). l ++ drop (length l) behind) head_is in (
      λ yes. sym same ∙ ap (take (length (header market))) (spelled yes) ∙ take_at (header market) _ (length (header market)) refl,
      λ stands. starts.1 (drop (length (header market)) behind)
          (sym (take-append-drop (length (header market)) behind) ∙ ap (λ (l : List ℕ). l ++ drop (length (header market)) behind) (same ∙ stands ∙ sym head_is)),
    )
