-- The records of a file, which it has in one way.
use Rattle.std.proofs.Common.{◌≡◌, inl, inr, ℕ, List, [], ◌∷◌, ◌++◌, length, take, drop}
use Rattle.std.proofs.Common.{refl, sym, ◌∙◌, ap, arith, length-append, append_assoc}
use Rattle.std.specs.Int.{w32, to_be_bytes}
use Rattle.std.proofs.lemmas.List.{take_at, drop_at, append_cancel_left}
use Rattle.std.proofs.lemmas.List.Elements.{All-head, All-tail}
use Rattle.mk_journal.specs.Store.{IsLength, AreRecords, NoRecord, framed, opened, header}
use Rattle.mk_journal.specs.Store.{IsUnstarted, IsStarted, StandsFor, IsBroken}
use Rattle.mk_journal.proofs.Meanings.{same_records}
use Rattle.mk_journal.proofs.Parsing.{length_at}

tails : (a b : ℕ) (x y : List ℕ) → a ∷ x ≡ b ∷ y → (a ≡ b) × (x ≡ y)
tails a b x y same = (cc, cc)

-- a file that has no header yet holds no records behind one
not_started : (bytes file : List ℕ) (records : List (List ℕ))
    → IsUnstarted bytes file → IsStarted bytes records file → ⊥
not_started bytes file records (inl short) s =
    omega (
      arith,
      ap length s.file_is,
      length-append (header bytes) s.rest,
      ap length s.holds.bytes_are,
      length-append (opened records) (s.holds.gate ∷ s.holds.rest),
    )
not_started bytes file records (inr (inl cleared)) s =
    let both = sym cleared.file_is ∙ s.file_is in cc
not_started bytes file records (inr (inr written)) s =
    written.closed (tails _ _ _ _ (sym written.file_is ∙ s.file_is)).0

-- so a file stands for one list of records
pub stands_for_one : (bytes file : List ℕ) (records others : List (List ℕ))
    → StandsFor bytes records file → StandsFor bytes others file → records ≡ others
stands_for_one bytes file records others (inl a) (inl b) = a.1 ∙ sym b.1
stands_for_one bytes file records others (inl a) (inr t) =
    absurd (not_started bytes file others a.0 t)
stands_for_one bytes file records others (inr s) (inl b) =
    absurd (not_started bytes file records b.0 s)
stands_for_one bytes file records others (inr s) (inr t) =
    let rests : s.rest ≡ t.rest = append_cancel_left (header bytes) s.rest t.rest
    (tails _ _ _ _ (sym s.file_is ∙ t.file_is)).1 in
    same_records records others s.holds.gate t.holds.gate s.holds.rest t.holds.rest
    s.holds.closed t.holds.closed s.holds.are t.holds.are
    (sym s.holds.bytes_are ∙ rests ∙ t.holds.bytes_are)

same_record : (r t x y : List ℕ) → IsLength (length r) → IsLength (length t)
    → framed r ++ x ≡ framed t ++ y → (r ≡ t) × (x ≡ y)
unfolding framed
same_record r t x y is_length_r is_length_t same =
    let size : length r ≡ length t =
    sym (length_at (framed r ++ x) r x (omega (arith, is_length_r.most)) refl)
    ∙ length_at (framed r ++ x) t y (omega (arith, is_length_t.most)) same in
    let parts : to_be_bytes w32 (length r) ++ (r ++ x) ≡ to_be_bytes w32 (length t) ++ (t ++ y) =
    sym (append_assoc (to_be_bytes w32 (length r)) r x) ∙ same
    ∙ append_assoc (to_be_bytes w32 (length t)) t y in
    let rests : r ++ x ≡ t ++ y =
    sym (drop_at (to_be_bytes w32 (length r)) (r ++ x) 4 refl) ∙ ap (drop 4) parts
    ∙ drop_at (to_be_bytes w32 (length t)) (t ++ y) 4 refl in (
      sym (take_at r x (length r) refl) ∙ ap (take (length r)) rests
          ∙ take_at t y (length r) (sym size),
      sym (drop_at r x (length r) refl) ∙ ap (drop (length r)) rests
          ∙ drop_at t y (length r) (sym size),
    )

-- the bytes behind records, up to the next gate
behind_first : (r : List ℕ) (records : List (List ℕ)) (rest left : List ℕ)
    → 1 ∷ left ≡ opened (r ∷ records) ++ 1 ∷ rest → left ≡ framed r ++ (opened records ++ 1 ∷ rest)
behind_first r records rest left same =
    (tails _ _ _ _ same).1 ∙ append_assoc (framed r) (opened records) (1 ∷ rest)

-- a malformed record has one list of records before it
same_before : (records others : List (List ℕ)) (rest behind : List ℕ)
    → AreRecords records → AreRecords others → NoRecord rest → NoRecord behind
    → opened records ++ 1 ∷ rest ≡ opened others ++ 1 ∷ behind → records ≡ others
same_before [] [] rest behind are there none nothing same = refl
same_before [] (t ∷ others) rest behind are there none nothing same =
    absurd (none t (opened others ++ 1 ∷ behind)
    (All-head (λ (x : List ℕ). IsLength (length x)) t others there)
    (omega (arith, length-append (opened others) (1 ∷ behind)))
    (behind_first t others behind rest same))
same_before (r ∷ records) [] rest behind are there none nothing same =
    absurd (nothing r (opened records ++ 1 ∷ rest)
    (All-head (λ (x : List ℕ). IsLength (length x)) r records are)
    (omega (arith, length-append (opened records) (1 ∷ rest)))
    (behind_first r records rest behind (sym same)))
same_before (r ∷ records) (t ∷ others) rest behind are there none nothing same =
    let is_length = λ (x : List ℕ). IsLength (length x) in
    let inner = sym (append_assoc (framed r) (opened records) (1 ∷ rest))
    ∙ (tails _ _ _ _ same).1 ∙ append_assoc (framed t) (opened others) (1 ∷ behind) in
    let both = same_record r t _ _ (All-head is_length r records are)
    (All-head is_length t others there) inner in
    let more = same_before records others rest behind (All-tail is_length r records are)
    (All-tail is_length t others there) none nothing both.1 in
    λ i. both.0 i ∷ more i

pub broken_behind_one : (bytes file : List ℕ) (records others : List (List ℕ))
    → IsBroken bytes records file → IsBroken bytes others file → records ≡ others
broken_behind_one bytes file records others s t =
    let rests : s.rest ≡ t.rest = append_cancel_left (header bytes) s.rest t.rest
    (tails _ _ _ _ (sym s.file_is ∙ t.file_is)).1 in
    same_before records others s.breaks.rest t.breaks.rest s.breaks.are t.breaks.are
    s.breaks.none t.breaks.none (sym s.breaks.bytes_are ∙ rests ∙ t.breaks.bytes_are)
