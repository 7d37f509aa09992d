-- What the calls of a disk in memory tell by the trait.
use Rattle.std.proofs.Common.{◌≡◌, ◌≢◌, ◌⊎◌, inl, inr, ℕ, ◌≤◌, Some, is_some, unwrap_or, List, [], length, sym, ap, ◌∙◌, subst, arith, Result, Ok, Err, OnOk, OnErr, IsTrue}
use Rattle.mk_disk.specs.declared.event.Event.{Event}
use Rattle.mk_disk.specs.Disk.{HasCause, overwritten, Torn, Only, Follows, NoMore, Elapses}
use Rattle.mk_disk.specs.Memory.{FileState, MemoryState, opened_name, Called, IsCalled, IsFailing, counted, failed, starved, wrote, faulted_in, synced, file_after, IsImage, WasImage, Happened}
use Rattle.mk_disk.specs.inner.MemoryLaws.{torn_same, chosen_image}
use Rattle.mk_disk.specs.declared.event.Choice.TheVariants.{New}
use Rattle.mk_disk.proofs.Events.{elapses_same, elapses_then, written_then, torn_then, wrote_other, torn_fault, faulted_other, same_images, seen_then, only_then, no_more_then}

pub caused : {T E : Type 0} (old new : Called) (result : Result T E) → IsCalled old new result → HasCause old.faults new.faults result
caused old new (Ok value) called =
    let same : new.faults ≡ old.faults = ap (λ (c : Called). c.faults) called.ok in
    record { later = omega arith; ok = same; failed = tt }
caused old new (Err error) called = elim called.failed [
  | inl both ↦
      let rose = ap (λ (c : Called). c.faults) both.1 in
      record { later = called.later; ok = tt; failed = omega (arith, rose) }
  | inr starved ↦
      let rose = ap (λ (c : Called). c.faults) starved in
      record { later = called.later; ok = tt; failed = omega (arith, rose) }
]

-- a call that was to fail
pub called_failing : {T E : Type 0} (A B : Type 0) (old seen mid new : Called) (error : E) → seen ≡ old → mid ≡ counted seen → IsFailing seen → mid.faults ≤ new.faults
    → (A × (new ≡ failed mid)) ⊎ (B × (new ≡ starved mid)) → IsCalled {T = T} old new (Err error)
called_failing {T} A B old seen mid new error is begun failing later (inl noted) = subst (λ calls. IsCalled {T = T} calls new (Err error)) is (record {
  later = omega (arith, later, ap (λ (c : Called). c.faults) begun);
  ok = tt;
  failing = λ _. tt;
  failed = inl (failing, noted.1 ∙ ap failed begun);
})
called_failing {T} A B old seen mid new error is begun failing later (inr none) = subst (λ calls. IsCalled {T = T} calls new (Err error)) is (record {
  later = omega (arith, later, ap (λ (c : Called). c.faults) begun);
  ok = tt;
  failing = λ _. tt;
  failed = inr (none.1 ∙ ap starved begun);
})

-- where nothing happened
pub same_seen : (old new : List Event) (name : List ℕ) → new ≡ old → Some (file_after name new).seen ≡ Some (file_after name old).seen
same_seen old new name same = ap (λ es. Some (file_after name es).seen) same

pub same_left : (old new : List Event) (name : List ℕ) → new ≡ old → NoMore (IsImage old name) (IsImage new name)
same_left old new name same = same_images name old new (ap (file_after name) same)

pub same_time : (old new : List Event) (name : List ℕ) → new ≡ old → Elapses (length old) (length new) (WasImage old name) (WasImage new name) (IsImage new name)
same_time old new name same =
    subst (λ es. Elapses (length old) (length es) (WasImage old name) (WasImage es name) (IsImage es name)) (sym same) (elapses_same old name)

-- an opening
pub opened_of : {T E : Type 0} (new : MemoryState) (name : List ℕ) (result : Result T E) → OnOk result (new.opened ≡ Some name) → OnOk result (IsTrue (is_some new.opened))
opened_of new name (Ok value) opened = ap is_some opened
opened_of new name (Err error) opened = tt

pub named_of : {T E : Type 0} (new : MemoryState) (name : List ℕ) (result : Result T E) → OnOk result (new.opened ≡ Some name) → OnOk result (opened_name new ≡ name)
named_of new name (Ok value) opened = ap (λ o. unwrap_or o []) opened
named_of new name (Err error) opened = tt

pub still_open : {T E : Type 0} (old new : MemoryState) (result : Result T E) → OnErr result (new.opened ≡ old.opened) → OnErr result (is_some new.opened ≡ is_some old.opened)
still_open old new (Ok value) opened = tt
still_open old new (Err error) opened = ap is_some opened

pub still_named : {T E : Type 0} (old new : MemoryState) (result : Result T E) → OnErr result (new.opened ≡ old.opened) → OnErr result (opened_name new ≡ opened_name old)
still_named old new (Ok value) opened = tt
still_named old new (Err error) opened = ap (λ o. unwrap_or o []) opened

module _ (name : List ℕ) (old new : List Event) where
  -- a sync
  pub durable_of : {T E : Type 0} (result : Result T E) → OnOk result (Happened old new (synced name)) → OnOk result (Only (file_after name old).seen (IsImage new name))
  durable_of (Ok value) happened = only_then name happened
  durable_of (Err error) happened = tt

  pub synced_seen : {T E : Type 0} (result : Result T E) → OnOk result (Happened old new (synced name)) → OnErr result (new ≡ old) → (n : List ℕ) → Some (file_after n new).seen ≡ Some (file_after n old).seen
  synced_seen (Ok value) happened same n = ap Some (seen_then name n happened)
  synced_seen (Err error) happened same n = same_seen old new n same

  pub synced_left : {T E : Type 0} (result : Result T E) → OnOk result (Happened old new (synced name)) → OnErr result (new ≡ old) → (n : List ℕ) → NoMore (IsImage old n) (IsImage new n)
  synced_left (Ok value) happened same n =
      no_more_then name n (λ b is. subst (λ x. IsImage old n x) (sym is) (chosen_image n old New)) happened
  synced_left (Err error) happened same n = same_left old new n same

  pub synced_time : {T E : Type 0} (result : Result T E) → OnOk result (Happened old new (synced name)) → OnErr result (new ≡ old) → (n : List ℕ) → Elapses (length old) (length new) (WasImage old n) (WasImage new n) (IsImage new n)
  synced_time (Ok value) happened same n = elapses_then happened n
  synced_time (Err error) happened same n = same_time old new n same

  -- a write, or one that failed and is an event, or one of which nothing is noted
  module _ (at : ℕ) (bytes : List ℕ) (within : at ≤ length (file_after name old).seen) where
    pub written_of : {T E : Type 0} (result : Result T E) → OnOk result (Happened old new (wrote name at bytes)) → OnOk result (Some (file_after name new).seen ≡ Some (overwritten at bytes (file_after name old).seen))
    written_of (Ok value) happened = ap (λ (s : FileState). Some s.seen) (written_then name bytes at happened within)
    written_of (Err error) happened = tt

    pub wrote_torn : {T E : Type 0} (N : Type 0) (result : Result T E) → OnOk result (Happened old new (wrote name at bytes)) → OnErr result (Happened old new (faulted_in name at (length bytes)) ⊎ ((new ≡ old) × N))
        → Follows (Torn at (length bytes)) (IsImage old name) (IsImage new name)
    wrote_torn N (Ok value) happened failed = torn_then name bytes at happened within
    wrote_torn N (Err error) happened (inl noted) = torn_fault name at (length bytes) noted within
    wrote_torn N (Err error) happened (inr none) = λ c image. (c, same_left old new name none.0 c image, torn_same at (length bytes) c)

  module _ (at : ℕ) (bytes : List ℕ) where
    wrote_same : {T E : Type 0} (N : Type 0) (result : Result T E) → OnOk result (Happened old new (wrote name at bytes)) → OnErr result (Happened old new (faulted_in name at (length bytes)) ⊎ ((new ≡ old) × N))
        → (n : List ℕ) → n ≢ name → file_after n new ≡ file_after n old
    wrote_same N (Ok value) happened failed n other = wrote_other name n bytes at happened other
    wrote_same N (Err error) happened (inl noted) n other = faulted_other name n at (length bytes) noted other
    wrote_same N (Err error) happened (inr none) n other = ap (file_after n) none.0

    pub others_seen : {T E : Type 0} (N : Type 0) (result : Result T E) → OnOk result (Happened old new (wrote name at bytes)) → OnErr result (Happened old new (faulted_in name at (length bytes)) ⊎ ((new ≡ old) × N))
        → (n : List ℕ) → n ≢ name → Some (file_after n new).seen ≡ Some (file_after n old).seen
    others_seen N result happened failed n other = ap (λ (s : FileState). Some s.seen) (wrote_same N result happened failed n other)

    pub others_left : {T E : Type 0} (N : Type 0) (result : Result T E) → OnOk result (Happened old new (wrote name at bytes)) → OnErr result (Happened old new (faulted_in name at (length bytes)) ⊎ ((new ≡ old) × N))
        → (n : List ℕ) → n ≢ name → NoMore (IsImage old n) (IsImage new n)
    others_left N result happened failed n other = same_images n old new (wrote_same N result happened failed n other)

    pub wrote_time : {T E : Type 0} (N : Type 0) (result : Result T E) → OnOk result (Happened old new (wrote name at bytes)) → OnErr result (Happened old new (faulted_in name at (length bytes)) ⊎ ((new ≡ old) × N))
        → (n : List ℕ) → Elapses (length old) (length new) (WasImage old n) (WasImage new n) (IsImage new n)
    wrote_time N (Ok value) happened failed n = elapses_then happened n
    wrote_time N (Err error) happened (inl noted) n = elapses_then noted n
    wrote_time N (Err error) happened (inr none) n = same_time old new n none.0
