-- The three steps of a header, on the file's bytes.
use Rattle.std.proofs.Common.{◌≡◌, ◌≢◌, ◌⊎◌, inl, inr, ℕ, ◌+◌, ◌≤◌, List, [], ◌∷◌, ◌++◌, length, get_or, take, drop, Option, Some, IfSome, refl, sym, ◌∙◌, ap, subst, arith, length-append, length-drop, take-append-drop}
use Rattle.std.proofs.lemmas.Bool.{cases_eq}
use Rattle.std.proofs.lemmas.List.{append-nil, drop_all, take_at}
use Rattle.mk_disk.specs.Disk.{Torn, overwritten}
use Rattle.mk_journal.specs.Store.{header, begun, IsCleared, IsUnstarted, IsStarted, StandsFor}
use Rattle.mk_journal.specs.Kept.{IsKept, IsDurably, IsHeaded, IsSettled}
use Rattle.mk_journal.specs.inner.Reading.{HasHeader}
use Rattle.mk_journal.proofs.Writes.{torn_behind, torn_at, written_behind, written_at}
use Rattle.mk_journal.proofs.Spelling.{length-header}

-- what is said of a file where it is told
pub told_of : (file : List ℕ → Option (List ℕ)) (n m f : List ℕ) (P : List ℕ → Type 0) → n ≡ m → file n ≡ Some f → IfSome (file m) P → P f
told_of file n m f P named told said =
    let here = subst (λ x. IfSome (file x) P) (sym named) said in
    subst (λ o. IfSome o P) told here

pub length-begun : (market : List ℕ) → length (begun market) ≡ length market + 17
length-begun market = omega (arith, length-append (header market) (0 ∷ []), length-header market)

-- the first step
pub torn_close : (market f : List ℕ) → length f ≤ 1 → (c : List ℕ) → Torn 0 1 f c → IsUnstarted market c
torn_close market f short c torn = inl (omega (arith, torn.no_longer))

pub cleared_then : (market f : List ℕ) → length f ≤ 1 → {file : Option (List ℕ)} {may_leave : List ℕ → Type 0} → IsKept file may_leave (overwritten 0 (0 ∷ []) f) → IsDurably file may_leave (IsCleared market)
cleared_then market f short kept = record {
  bytes = overwritten 0 (0 ∷ []) f;
  kept = kept;
  is = record { rest = drop 1 f; file_is = refl; short = omega (arith, length-drop 1 f) };
}

-- the second step, behind the gate 0
module _ {file : Option (List ℕ)} {may_leave : List ℕ → Type 0} {market : List ℕ} where
  -- the file, split behind its gate
  pub cleared_kept : (s : IsDurably file may_leave (IsCleared market)) → IsKept file may_leave (0 ∷ s.is.rest)
  cleared_kept s = subst (IsKept file may_leave) s.is.file_is s.kept

  pub torn_header : (s : IsDurably file may_leave (IsCleared market)) (body : List ℕ) → body ≡ begun market → (c : List ℕ) → Torn 1 (length body) (0 ∷ s.is.rest) c → IsUnstarted market c
  torn_header s body is c torn = inr (inl (record {
    rest = drop 1 c;
    file_is = torn_behind [] 0 s.is.rest 0 refl (length body) c torn;
    short = omega (arith, length-drop 1 c, torn.no_longer, s.is.short, ap length is, length-begun market);
  }))

  pub headed_then : (s : IsDurably file may_leave (IsCleared market)) (body : List ℕ) → body ≡ begun market → {file' : Option (List ℕ)} {may_leave' : List ℕ → Type 0} → IsKept file' may_leave' (overwritten 1 body (0 ∷ s.is.rest)) → IsDurably file' may_leave' (IsHeaded market)
  headed_then s body is {file'} {may_leave'} kept =
      let none : drop (length body) s.is.rest ≡ [] = drop_all (length body) s.is.rest (omega (arith, s.is.short, ap length is, length-begun market)) in
      let all : overwritten 1 body (0 ∷ s.is.rest) ≡ 0 ∷ begun market =
      written_behind [] 0 s.is.rest 0 refl body ∙ ap (λ (l : List ℕ). 0 ∷ (body ++ l)) none ∙ ap (λ (l : List ℕ). 0 ∷ l) (append-nil body ∙ is) in
      record {
        bytes = overwritten 1 body (0 ∷ s.is.rest);
        kept = kept;
        is = record { gate = 0; closed = λ (e : 0 ≡ 1). omega arith; file_is = all };
      }

-- the second step, behind a header that stands
pub one_byte : (l : List ℕ) → length l ≡ 1 → l ≡ get_or l 0 0 ∷ []
one_byte [] one = absurd (omega arith)
one_byte (b ∷ []) one = refl
one_byte (b ∷ second ∷ rest) one = absurd (omega arith)

-- what stands behind such a header
record IsStanding (market : List ℕ) (gate : ℕ) (tail : List ℕ) : Type 0 where
  closed : gate ≢ 1
  short : length tail ≤ 1
  full_or_cleared : (length tail ≡ 1) ⊎ (gate ≡ 0)

pub length-headed : (market : List ℕ) (gate : ℕ) (tail : List ℕ) → length (gate ∷ (header market ++ tail)) ≡ length market + 17 + length tail
length-headed market gate tail = omega (arith, length-append (header market) tail, length-header market)

standing : (market f : List ℕ) (h : HasHeader market f) → IsUnstarted market f → IsStanding market h.gate h.tail
standing market f h (inl short) = absurd (omega (arith, ap length h.file_is, length-headed market h.gate h.tail))
standing market f h (inr (inl cleared)) =
    let gate : h.gate ≡ 0 = let both = sym h.file_is ∙ cleared.file_is in cc in
    record {
      closed = λ (e : h.gate ≡ 1). omega arith;
      short = omega (arith, ap length h.file_is, length-headed market h.gate h.tail, ap length cleared.file_is, cleared.short);
      full_or_cleared = inr gate;
    }
standing market f h (inr (inr written)) =
    let gate : h.gate ≡ written.gate = let both = sym h.file_is ∙ written.file_is in cc in
    let one : length h.tail ≡ 1 = omega (arith, ap length h.file_is, length-headed market h.gate h.tail, ap length written.file_is, length-headed market written.gate (written.last ∷ [])) in
    record {
      closed = λ (e : h.gate ≡ 1). written.closed (sym gate ∙ e);
      short = omega arith;
      full_or_cleared = inl one;
    }

module _ (market : List ℕ) (gate : ℕ) (tail : List ℕ) (s : IsStanding market gate tail) where
  abbrev at : ℕ
  at = length (begun market)

  abbrev whole : List ℕ
  whole = gate ∷ (header market ++ tail)

  length-front : length (gate ∷ header market) ≡ at
  length-front = omega (arith, length-header market, length-begun market)

  front_of : take at whole ≡ gate ∷ header market
  front_of = take_at (gate ∷ header market) tail at length-front

  torn_last : (c : List ℕ) → Torn at 1 whole c → IsUnstarted market c
  torn_last c torn =
      let is : c ≡ gate ∷ (header market ++ drop at c) = sym (take-append-drop at c) ∙ ap (λ (l : List ℕ). l ++ drop at c) (torn.before ∙ front_of) in
      let size = ap length is ∙ length-headed market gate (drop at c) in
      let bound : length c ≤ at + 1 = omega (arith, torn.no_longer, length-headed market gate tail, s.short, length-begun market) in
      elim s.full_or_cleared [
        | inl full ↦ inr (inr (record {
          gate = gate;
          last = get_or (drop at c) 0 0;
          closed = s.closed;
          file_is = is ∙ ap (λ (l : List ℕ). gate ∷ (header market ++ l)) (one_byte (drop at c) (omega (arith, size, bound, torn.no_shorter, length-headed market gate tail, full, length-begun market)));
        }))
        | inr cleared ↦ inr (inl (record {
          rest = header market ++ drop at c;
          file_is = is ∙ ap (λ (b : ℕ). b ∷ (header market ++ drop at c)) cleared;
          short = omega (arith, ap length is, bound, length-begun market);
        }))
      ]

  written_last : overwritten at (0 ∷ []) whole ≡ gate ∷ begun market
  written_last =
      ap (λ (l : List ℕ). l ++ (0 ∷ []) ++ drop (at + 1) whole) front_of
      ∙ ap (λ (l : List ℕ). (gate ∷ header market) ++ (0 ∷ []) ++ l) (drop_all (at + 1) whole (omega (arith, length-headed market gate tail, s.short, length-begun market)))
      ∙ append-nil ((gate ∷ header market) ++ (0 ∷ []))

pub torn_first_gate : (market f : List ℕ) (at : ℕ) (h : HasHeader market f) → IsUnstarted market f → at ≡ length (begun market) → (c : List ℕ) → Torn at 1 f c → IsUnstarted market c
torn_first_gate market f at h unstarted place c torn =
    torn_last market h.gate h.tail (standing market f h unstarted) c (subst (λ k. Torn k 1 (h.gate ∷ (header market ++ h.tail)) c) place (subst (λ l. Torn at 1 l c) h.file_is torn))

pub gate_closed_then : (market f : List ℕ) (at : ℕ) (h : HasHeader market f) → IsUnstarted market f → at ≡ length (begun market) → {file : Option (List ℕ)} {may_leave : List ℕ → Type 0} → IsKept file may_leave (overwritten at (0 ∷ []) f)
    → IsDurably file may_leave (IsHeaded market)
gate_closed_then market f at h unstarted place kept =
    let s = standing market f h unstarted in
    let there : overwritten at (0 ∷ []) f ≡ overwritten (length (begun market)) (0 ∷ []) (h.gate ∷ (header market ++ h.tail)) =
    ap (λ (k : ℕ). overwritten k (0 ∷ []) f) place ∙ ap (overwritten (length (begun market)) (0 ∷ [])) h.file_is in
    record {
      bytes = overwritten at (0 ∷ []) f;
      kept = kept;
      is = record { gate = h.gate; closed = s.closed; file_is = there ∙ written_last market h.gate h.tail s };
    }

-- the third step
started_empty : (market c : List ℕ) → c ≡ 1 ∷ begun market → IsStarted market [] c
started_empty market c is = record {
  rest = 0 ∷ [];
  file_is = is;
  holds = record { gate = 0; rest = []; closed = λ (e : 0 ≡ 1). omega arith; are = λ k d within. absurd (omega arith); bytes_are = refl };
}

module _ {file : Option (List ℕ)} {may_leave : List ℕ → Type 0} {market : List ℕ} where
  pub headed_kept : (s : IsDurably file may_leave (IsHeaded market)) → IsKept file may_leave (s.is.gate ∷ begun market)
  headed_kept s = subst (IsKept file may_leave) s.is.file_is s.kept

  pub torn_open : (s : IsDurably file may_leave (IsHeaded market)) (c : List ℕ) → Torn 0 1 (s.is.gate ∷ begun market) c → StandsFor market [] c
  torn_open s c torn =
      let is = torn_at [] s.is.gate (begun market) 0 refl c torn in
      elim (cases_eq (get_or c 0 0) 1) [
        | inl open_gate ↦ inr (started_empty market c (is ∙ ap (λ (b : ℕ). b ∷ begun market) open_gate))
        | inr closed ↦ inl (inr (inr (record { gate = get_or c 0 0; last = 0; closed = closed; file_is = is })), refl)
      ]

  pub begun_then : (s : IsDurably file may_leave (IsHeaded market)) {file' : Option (List ℕ)} {may_leave' : List ℕ → Type 0} → IsKept file' may_leave' (overwritten 0 (1 ∷ []) (s.is.gate ∷ begun market)) → IsSettled file' may_leave' market [] (length (begun market))
  begun_then s kept = record {
    bytes = overwritten 0 (1 ∷ []) (s.is.gate ∷ begun market);
    kept = kept;
    started = started_empty market (overwritten 0 (1 ∷ []) (s.is.gate ∷ begun market)) (written_at [] s.is.gate (begun market) 0 refl 1);
    place = omega (arith, length-begun market);
  }
