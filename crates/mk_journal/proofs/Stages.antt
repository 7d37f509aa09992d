-- The two steps of an append, on the file's bytes.
use Rattle.std.proofs.Common.{◌≡◌, ℕ, ◌+◌, ◌<◌, arith, Some, None, IfSome, option_map, List, [], ◌∷◌, ◌++◌, length, get_or, drop, Option, Result, Ok, Err, OnOk, sym, ◌∙◌, subst}
use Rattle.mk_disk.specs.Disk.{Torn, overwritten}
use Rattle.mk_disk.specs.inner.MemoryLaws.{length-overwritten}
use Rattle.mk_journal.specs.Store.{AreRecords, opened, IsStarted, chained, before_gate, IsWithOrWithout}
use Rattle.mk_journal.specs.Kept.{IsKept, IsSettled, IsStaged}
use Rattle.mk_journal.proofs.Writes.{torn_behind, torn_at, written_behind, written_at}
use Rattle.mk_journal.proofs.Spelling.{length-before_gate, next_place, started_split, is_started, one_more, with_or_without}

pub ok_map : {T E P Q : Type 0} (r : Result T E) → (P → Q) → OnOk r P → OnOk r Q
ok_map (Ok value) f p = f p
ok_map (Err error) f p = tt

-- the file is longer than a write behind the byte at the gate
pub reached : (o : Option (List ℕ)) (gate : ℕ) (body : List ℕ) → IfSome o (λ f. gate < length f)
    → IfSome (option_map (overwritten (gate + 1) body) o) (λ f. gate + length body < length f)
reached (Some f) gate body long = omega
    (arith, long, length-overwritten (gate + 1) body f (omega (arith, long)))
reached None gate body long = tt

at_gate : (market : List ℕ) (records : List (List ℕ)) (gate : ℕ) → gate ≡ length market + 17 + length (opened records) → length (before_gate market records) ≡ gate
at_gate market records gate place = length-before_gate market records ∙ sym place

module _ {file : Option (List ℕ)} {may_leave : List ℕ → Type 0} {market : List ℕ} {records : List (List ℕ)} {gate : ℕ} where
  -- the settled file, split at its closed gate
  abbrev pub split : IsSettled file may_leave market records gate → List ℕ
  split s = before_gate market records ++ s.started.holds.gate ∷ s.started.holds.rest

  pub settled_kept : (s : IsSettled file may_leave market records gate) → IsKept file may_leave (split s)
  settled_kept s = subst (IsKept file may_leave) (started_split s.started) s.kept

  pub torn_started : (s : IsSettled file may_leave market records gate) (n : ℕ) (c : List ℕ) → Torn (gate + 1) n (split s) c → IsStarted market records c
  torn_started s n c torn =
      is_started market records s.started.holds.gate (drop (gate + 1) c) c s.started.holds.closed s.started.holds.are
      (torn_behind (before_gate market records) s.started.holds.gate s.started.holds.rest gate (at_gate market records gate s.place) n c torn)

  pub staged_then : (s : IsSettled file may_leave market records gate) (body : List ℕ) {file' : Option (List ℕ)} {may_leave' : List ℕ → Type 0} → IsKept file' may_leave' (overwritten (gate + 1) body (split s)) → IsStaged file' may_leave' market records gate body
  staged_then s body {file'} {may_leave'} kept = record {
    gate_byte = s.started.holds.gate;
    rest = drop (length body) s.started.holds.rest;
    closed = s.started.holds.closed;
    are = s.started.holds.are;
    kept = subst (IsKept file' may_leave') (written_behind (before_gate market records) s.started.holds.gate s.started.holds.rest gate (at_gate market records gate s.place) body) kept;
    place = s.place;
  }

  -- the file with a group behind its closed gate
  abbrev pub behind : (r : List ℕ) (group : List (List ℕ)) → IsStaged file may_leave market records gate (chained r group) → List ℕ
  behind r group s = before_gate market records ++ s.gate_byte ∷ (chained r group ++ s.rest)

  pub torn_gate : (r : List ℕ) (group : List (List ℕ)) (s : IsStaged file may_leave market records gate (chained r group)) → AreRecords (r ∷ group) → (c : List ℕ) → Torn gate 1 (behind r group s) c → IsWithOrWithout market records (r ∷ group) c
  torn_gate r group s are c torn =
      with_or_without market records r group s.rest c (get_or c gate 0) s.are are
      (torn_at (before_gate market records) s.gate_byte (chained r group ++ s.rest) gate (at_gate market records gate s.place) c torn)

  pub settled_then : (r : List ℕ) (group : List (List ℕ)) (s : IsStaged file may_leave market records gate (chained r group)) → AreRecords (r ∷ group) → {file' : Option (List ℕ)} {may_leave' : List ℕ → Type 0} → IsKept file' may_leave' (overwritten gate (1 ∷ []) (behind r group s)) → IsSettled file' may_leave' market (records ++ r ∷ group) (gate + length (chained r group))
  settled_then r group s are {file'} {may_leave'} kept =
      let is = written_at (before_gate market records) s.gate_byte (chained r group ++ s.rest) gate (at_gate market records gate s.place) 1 in
      record {
        bytes = overwritten gate (1 ∷ []) (behind r group s);
        kept = kept;
        started = one_more market records r group s.rest (overwritten gate (1 ∷ []) (behind r group s)) s.are are is;
        place = next_place market records r group gate s.place;
      }
