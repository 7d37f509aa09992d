-- How a store file is spelled at a gate.
use Rattle.std.proofs.Common.{◌≡◌, ◌≢◌, inl, inr, ℕ, ◌+◌, List, [], ◌∷◌, ◌++◌, length, refl, sym, ◌∙◌, ap, arith, length-append, append_assoc}
use Rattle.std.specs.Int.{w32, w64, to_be_bytes}
use Rattle.std.proofs.lemmas.Bool.{cases_eq}
use Rattle.std.proofs.lemmas.List.{append-nil}
use Rattle.std.proofs.lemmas.List.Elements.{All-append}
use Rattle.mk_journal.specs.Store.{IsLength, AreRecords, framed, opened, header, magic, IsStarted, chained, before_gate, IsWithOrWithout}

pub length-framed : (r : List ℕ) → length (framed r) ≡ length r + 4
unfolding framed
length-framed r = omega (arith, length-append (to_be_bytes w32 (length r)) r)

pub length-header : (market : List ℕ) → length (header market) ≡ length market + 16
unfolding header
length-header market = omega (arith, length-append magic (to_be_bytes w64 (length market) ++ market), length-append (to_be_bytes w64 (length market)) market)

pub length-before_gate : (market : List ℕ) (records : List (List ℕ)) → length (before_gate market records) ≡ length market + 17 + length (opened records)
length-before_gate market records = omega (arith, length-append (header market) (opened records), length-header market)

pub opened-append : (records group : List (List ℕ)) → opened (records ++ group) ≡ opened records ++ opened group
opened-append [] group = refl
opened-append (x ∷ records) group =
    ap (λ (l : List ℕ). 1 ∷ (framed x ++ l)) (opened-append records group) ∙ ap (λ (l : List ℕ). 1 ∷ l) (sym (append_assoc (framed x) (opened records) (opened group)))

pub opened-push : (records : List (List ℕ)) (r : List ℕ) → opened (records ++ r ∷ []) ≡ opened records ++ 1 ∷ framed r
opened-push records r = opened-append records (r ∷ []) ∙ ap (λ (l : List ℕ). opened records ++ 1 ∷ l) (append-nil (framed r))

pub next_place : (market : List ℕ) (records : List (List ℕ)) (r : List ℕ) (group : List (List ℕ)) (gate : ℕ) → gate ≡ length market + 17 + length (opened records) → gate + length (chained r group) ≡ length market + 17 + length (opened (records ++ r ∷ group))
next_place market records r group gate place =
    omega (arith, place, length-append (framed r) (opened group ++ 0 ∷ []), length-append (opened group) (0 ∷ []), length-append (framed r) (opened group), ap length (opened-append records (r ∷ group)), length-append (opened records) (opened (r ∷ group)))

pub started_split : {market : List ℕ} {records : List (List ℕ)} {file : List ℕ} (s : IsStarted market records file) → file ≡ before_gate market records ++ s.holds.gate ∷ s.holds.rest
started_split {market} {records} s =
    s.file_is
    ∙ ap (λ (l : List ℕ). 1 ∷ (header market ++ l)) s.holds.bytes_are
    ∙ ap (λ (l : List ℕ). 1 ∷ l) (sym (append_assoc (header market) (opened records) (s.holds.gate ∷ s.holds.rest)))

pub is_started : (market : List ℕ) (records : List (List ℕ)) (g : ℕ) (rest file : List ℕ) → g ≢ 1 → AreRecords records → file ≡ before_gate market records ++ g ∷ rest → IsStarted market records file
is_started market records g rest file closed are is = record {
  rest = opened records ++ g ∷ rest;
  file_is = is ∙ ap (λ (l : List ℕ). 1 ∷ l) (append_assoc (header market) (opened records) (g ∷ rest));
  holds = record { gate = g; rest = rest; closed = closed; are = are; bytes_are = refl };
}

before_next : (market : List ℕ) (records : List (List ℕ)) (r : List ℕ) (group : List (List ℕ)) (more : List ℕ) → before_gate market records ++ 1 ∷ (chained r group ++ more) ≡ before_gate market (records ++ r ∷ group) ++ 0 ∷ more
before_next market records r group more =
    ap (λ (l : List ℕ). before_gate market records ++ 1 ∷ l) (append_assoc (framed r) (opened group ++ 0 ∷ []) more
    ∙ ap (λ (l : List ℕ). framed r ++ l) (append_assoc (opened group) (0 ∷ []) more) ∙ sym (append_assoc (framed r) (opened group) (0 ∷ more)))
    ∙ sym (append_assoc (before_gate market records) (opened (r ∷ group)) (0 ∷ more))
    ∙ ap (λ (l : List ℕ). l ++ 0 ∷ more) (ap (λ (l : List ℕ). 1 ∷ l) (append_assoc (header market) (opened records) (opened (r ∷ group)) ∙ ap (λ (l : List ℕ). header market ++ l) (sym (opened-append records (r ∷ group)))))

pub one_more : (market : List ℕ) (records : List (List ℕ)) (r : List ℕ) (group : List (List ℕ)) (more file : List ℕ) → AreRecords records → AreRecords (r ∷ group) → file ≡ before_gate market records ++ 1 ∷ (chained r group ++ more) → IsStarted market (records ++ r ∷ group) file
one_more market records r group more file are are_too is =
    is_started market (records ++ r ∷ group) 0 more file (λ (e : 0 ≡ 1). omega arith) (All-append (λ (x : List ℕ). IsLength (length x)) records (r ∷ group) are are_too) (is ∙ before_next market records r group more)

pub with_or_without : (market : List ℕ) (records : List (List ℕ)) (r : List ℕ) (group : List (List ℕ)) (more file : List ℕ) (h : ℕ) → AreRecords records → AreRecords (r ∷ group) → file ≡ before_gate market records ++ h ∷ (chained r group ++ more) → IsWithOrWithout market records (r ∷ group) file
with_or_without market records r group more file h are are_too is = elim (cases_eq h 1) [
  | inl open_gate ↦ inr (one_more market records r group more file are are_too (is ∙ ap (λ (b : ℕ). before_gate market records ++ b ∷ (chained r group ++ more)) open_gate))
  | inr closed ↦ inl (is_started market records h (chained r group ++ more) file closed are is)
]
