-- How records and headers are read.
use Rattle.std.proofs.Common.{◌≡◌, ◌≢◌, inl, inr, ℕ, ◌+◌, ◌*◌, ◌<◌, ◌≤◌, ◌^◌, List, [], ◌∷◌, ◌++◌, length, get_or, take, drop, eqb, Some, None, refl, sym, ◌∙◌, ap, subst, arith, length-append, length-drop, length-take, take-append-drop, append_assoc}
use Rattle.std.specs.Int.{w32, to_be_bytes, from_be_bytes}
use Rattle.std.proofs.lemmas.Bool.{cases_lt, cases_Bool, eqb-true, ne_eqb, cond-false, cond-true}
use Rattle.std.proofs.lemmas.Nat.{be_bytes_4, from_be_bytes-to_be_bytes_4}
use Rattle.std.proofs.lemmas.List.{take_at, drop_more, drop_all, length-take-le, get_or-take, get_or_past}
use Rattle.std.proofs.lemmas.List.Elements.{All-push}
use Rattle.mk_journal.specs.Store.{IsLength, AreRecords, NoRecord, framed, opened, foreign_from}
use Rattle.mk_journal.proofs.Spelling.{opened-push}

-- the bytes before a place are those of the header, and the next is missing
pub missing : (at i : ℕ) (head bytes : List ℕ) → i < length head → length bytes ≤ i → foreign_from at (drop i head) (drop i bytes) ≡ Some at
missing at i head bytes within ended =
    ap (λ (l : List ℕ). foreign_from at l (drop i bytes)) (drop_more head i 0 within)
    ∙ ap (λ (l : List ℕ). foreign_from at (get_or head i 0 ∷ drop (i + 1) head) l) (drop_all i bytes ended)

-- or it differs
pub differs : (at i : ℕ) (head bytes : List ℕ) → i < length head → i < length bytes → (get_or head i 0 ≢ get_or bytes i 0) → foreign_from at (drop i head) (drop i bytes) ≡ Some at
differs at i head bytes within there other =
    ap (λ (l : List ℕ). foreign_from at l (drop i bytes)) (drop_more head i 0 within)
    ∙ ap (λ (l : List ℕ). foreign_from at (get_or head i 0 ∷ drop (i + 1) head) l) (drop_more bytes i 0 there)
    ∙ cond-false _ _ _ (ne_eqb (get_or head i 0) (get_or bytes i 0) other)

-- or the header ended, and something stands behind it
pub ended : (at i : ℕ) (head bytes : List ℕ) → length head ≤ i → i < length bytes → foreign_from at (drop i head) (drop i bytes) ≡ None
ended at i head bytes past there =
    ap (λ (l : List ℕ). foreign_from at l (drop i bytes)) (drop_all i head past)
    ∙ ap (λ (l : List ℕ). foreign_from at [] l) (drop_more bytes i 0 there)

first_four : (bytes : List ℕ) → 4 ≤ length bytes → from_be_bytes w32 (take 4 bytes) ≡ from_be_bytes w32 bytes
first_four (a ∷ b ∷ c ∷ d ∷ rest) long = refl
first_four (a ∷ b ∷ c ∷ []) long = absurd (omega arith)
first_four (a ∷ b ∷ []) long = absurd (omega arith)
first_four (a ∷ []) long = absurd (omega arith)
first_four [] long = absurd (omega arith)

fit_front : (bytes : List ℕ) → ((i : ℕ) → get_or bytes i 0 < 256) → (i : ℕ) → get_or (take 4 bytes) i 0 < 256
fit_front bytes fit i = elim (cases_lt i 4) [
  | inl first ↦ subst (λ x. x < 256) (sym (get_or-take 4 bytes i 0 first)) (fit i)
  | inr past ↦ subst (λ x. x < 256) (sym (get_or_past (take 4 bytes) i 0 (omega (arith, length-take 4 bytes)))) (omega arith)
]

-- a length of four bytes, and what it says of the record behind it
record_at : (bytes : List ℕ) (len : ℕ) → 4 ≤ length bytes → ((i : ℕ) → get_or bytes i 0 < 256) → len ≡ from_be_bytes w32 bytes → len < length (drop 4 bytes) → bytes ≡ framed (take len (drop 4 bytes)) ++ drop len (drop 4 bytes)
unfolding framed
record_at bytes len long fit is within =
    let front : to_be_bytes w32 len ≡ take 4 bytes = be_bytes_4 (take 4 bytes) len (length-take-le 4 bytes long) (fit_front bytes fit) (is ∙ sym (first_four bytes long)) in
    let size : length (take len (drop 4 bytes)) ≡ len = length-take-le len (drop 4 bytes) (omega arith) in
    sym (ap (λ (l : List ℕ). l ++ take len (drop 4 bytes) ++ drop len (drop 4 bytes)) (ap (to_be_bytes w32) size ∙ front)
    ∙ append_assoc (take 4 bytes) (take len (drop 4 bytes)) (drop len (drop 4 bytes))
    ∙ ap (λ (l : List ℕ). take 4 bytes ++ l) (take-append-drop len (drop 4 bytes))
    ∙ take-append-drop 4 bytes)

pub found_at : (bytes rest after : List ℕ) (len : ℕ) → rest ≡ drop 4 bytes → after ≡ drop len rest → 4 ≤ length bytes → ((i : ℕ) → get_or bytes i 0 < 256) → len ≡ from_be_bytes w32 bytes → 1 ≤ len → len ≤ 34000 → len < length rest → IsLength (length (take len rest)) × (0 < length after) × (bytes ≡ framed (take len rest) ++ after)
found_at bytes rest after len rest_is after_is long fit is least most within =
    let size : length (take len rest) ≡ len = length-take-le len rest (omega arith) in
    let left : len < length (drop 4 bytes) = subst (λ (l : List ℕ). len < length l) rest_is within in (
      record { least = omega arith; most = omega arith },
      omega (arith, ap length after_is, length-drop len rest),
      record_at bytes len long fit is left ∙ ap (λ (l : List ℕ). framed (take len l) ++ drop len l) (sym rest_is) ∙ ap (λ (l : List ℕ). framed (take len rest) ++ l) (sym after_is),
    )

-- a record that stands there has this length
pub length_at : (bytes r rest : List ℕ) → length r < 2 ^ 32 → bytes ≡ framed r ++ rest → from_be_bytes w32 (take 4 bytes) ≡ length r
unfolding framed
length_at bytes r rest fits is =
    ap (λ (l : List ℕ). from_be_bytes w32 (take 4 l)) (is ∙ append_assoc (to_be_bytes w32 (length r)) r rest)
    ∙ ap (from_be_bytes w32) (take_at (to_be_bytes w32 (length r)) (r ++ rest) 4 refl)
    ∙ from_be_bytes-to_be_bytes_4 (length r) fits

pub length_there : (bytes r rest : List ℕ) → bytes ≡ framed r ++ rest → length bytes ≡ 4 + length r + length rest
unfolding framed
length_there bytes r rest is =
    omega (arith, ap length is, length-append (framed r) rest, length-append (to_be_bytes w32 (length r)) r)

-- no record stands where its length is out of range, or reaches past the end
pub no_record : (bytes rest' : List ℕ) (len : ℕ) → rest' ≡ drop 4 bytes → 4 ≤ length bytes → len ≡ from_be_bytes w32 bytes → (1 ≤ len → len ≤ 34000 → length rest' ≤ len) → NoRecord bytes
no_record bytes rest' len rest_is long is past r rest is_length some spelled =
    let same : len ≡ length r = is ∙ sym (first_four bytes long) ∙ length_at bytes r rest (omega (arith, is_length.most)) spelled in
    let size = length_there bytes r rest spelled in
    let left : length rest' ≤ len = past (omega (arith, is_length.least)) (omega (arith, is_length.most)) in
    omega (arith, ap length rest_is, length-drop 4 bytes)

pub too_short : (bytes : List ℕ) → length bytes < 4 → NoRecord bytes
too_short bytes short r rest is_length some spelled = omega (arith, length_there bytes r rest spelled)

-- a header that is there, with something behind it
pub not_foreign : (at : ℕ) (head bytes : List ℕ) → foreign_from at head bytes ≡ None → (take (length head) bytes ≡ head) × (length head < length bytes)
not_foreign at [] [] none = absurd (cc)
not_foreign at [] (b ∷ bytes) none = (refl, omega arith)
not_foreign at (h ∷ head) [] none = absurd (cc)
not_foreign at (h ∷ head) (b ∷ bytes) none = elim (cases_Bool (eqb h b)) [
  | inl same ↦
      let more = not_foreign (at + 1) head bytes (sym (cond-true (eqb h b) (foreign_from (at + 1) head bytes) (Some at) same) ∙ none) in
      ((λ i. sym (eqb-true h b same) i ∷ more.0 i), omega (arith, more.1))
  | inr other ↦ let some : Some at ≡ foreign_from at (h ∷ head) (b ∷ bytes) = sym (cond-false (eqb h b) (foreign_from (at + 1) head bytes) (Some at) other) in absurd (cc (some, none))
]

-- one record more was read
pub pushed : (bytes rest after r next : List ℕ) (records records' : List (List ℕ)) → bytes ≡ opened records ++ rest → rest ≡ 1 ∷ after → after ≡ framed r ++ next → records' ≡ records ++ r ∷ [] → bytes ≡ opened records' ++ next
pushed bytes rest after r next records records' so_far gate record_is more =
    so_far
    ∙ ap (λ (l : List ℕ). opened records ++ l) (gate ∙ ap (λ (l : List ℕ). 1 ∷ l) record_is)
    ∙ sym (append_assoc (opened records) (1 ∷ framed r) next)
    ∙ ap (λ (l : List ℕ). l ++ next) (sym (opened-push records r) ∙ ap opened (sym more))

pub are_more : (records records' : List (List ℕ)) (r : List ℕ) → AreRecords records → IsLength (length r) → records' ≡ records ++ r ∷ [] → AreRecords records'
are_more records records' r are is_length more =
    subst AreRecords (sym more) (All-push (λ (x : List ℕ). IsLength (length x)) records r are is_length)

-- how far the records so far reach
pub farther : (all : ℕ) (rest after r next : List ℕ) (count : ℕ) {count' : ℕ} → all ≤ length rest + 34005 * count → rest ≡ 1 ∷ after → after ≡ framed r ++ next → IsLength (length r) → count' ≡ count + 1 → all ≤ length next + 34005 * count'
farther all rest after r next count far gate record_is is_length more = omega (arith, far, ap length gate, length_there after r next record_is, is_length.most, more)
