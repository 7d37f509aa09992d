-- What one event more does to the files, their images and the moments.
use Rattle.std.proofs.Common.{◌≡◌, ◌≢◌, ◌⊎◌, inl, inr, ℕ, ◌+◌, ◌≤◌, min, true, false, List, [], ◌∷◌, ◌++◌, length, take, refl, sym, ◌∙◌, ap, subst, arith, bytes_eq, length-append, Result, Ok, Err, OnOk, OnErr}
use Rattle.std.proofs.lemmas.Bool.{cases_lt, cases_Bool, cond-true, cond-false, false_from_ne_true}
use Rattle.std.proofs.lemmas.List.{take_all, take-append-le}
use Rattle.std.proofs.lemmas.Slice.Eq.{bytes_eq-Decides}
use Rattle.mk_disk.specs.declared.event.Event.{Event}
use Rattle.mk_disk.specs.Disk.{overwritten, Torn, Only, Follows, NoMore, Elapses}
use Rattle.mk_disk.specs.Image.{IsImageOf}
use Rattle.mk_disk.specs.Memory.{FileState, rested, faulted, written, wrote, faulted_in, synced, after_event, after_events, file_after, IsImage, WasImage, Happened}

after_push : (name : List ℕ) (s : FileState) (events : List Event) (event : Event) → after_events name s (events ++ event ∷ []) ≡ after_event name event (after_events name s events)
after_push name s [] event = refl
after_push name s (first ∷ events) event = after_push name (after_event name first s) events event

pub file_push : (name : List ℕ) (old new : List Event) (event : Event) → new ≡ old ++ event ∷ [] → file_after name new ≡ after_event name event (file_after name old)
file_push name old new event is = ap (file_after name) is ∙ after_push name (rested []) old event

pub file_then : {old new : List Event} {step : List ℕ → FileState → FileState} → Happened old new step → (name : List ℕ) → file_after name new ≡ step name (file_after name old)
file_then {old} {new} happened name = file_push name old new happened.event happened.added ∙ happened.after name (file_after name old)

pub elapses_same : (events : List Event) (name : List ℕ) → Elapses (length events) (length events) (WasImage events name) (WasImage events name) (IsImage events name)
elapses_same events name = record { later = omega arith; nothing_else = λ t c since was. inl was; keeps = λ t c since was. was }

pub elapses_push : (old new : List Event) (event : Event) (name : List ℕ) → new ≡ old ++ event ∷ [] → Elapses (length old) (length new) (WasImage old name) (WasImage new name) (IsImage new name)
elapses_push old new event name is =
    let longer : length new ≡ length old + 1 = ap length is ∙ length-append old (event ∷ []) in
    record {
      later = omega arith;
      nothing_else = λ t c since was. elim (cases_lt (length old) was.count) [
        | inl last ↦ inr (subst (λ es. IsImage es name c) (take_all was.count new (omega (arith, longer))) was.image)
        | inr earlier ↦ inl (record {
          count = was.count;
          since = was.since;
          within = earlier;
          image = subst (λ es. IsImage es name c) (ap (take was.count) is ∙ take-append-le was.count old (event ∷ []) earlier) was.image;
        })
      ];
      keeps = λ t c since was. record {
        count = was.count;
        since = was.since;
        within = omega (arith, was.within, longer);
        image = subst (λ es. IsImage es name c) (sym (ap (take was.count) is ∙ take-append-le was.count old (event ∷ []) was.within)) was.image;
      };
    }

pub elapses_then : {old new : List Event} {step : List ℕ → FileState → FileState} → Happened old new step → (name : List ℕ) → Elapses (length old) (length new) (WasImage old name) (WasImage new name) (IsImage new name)
elapses_then {old} {new} happened name = elapses_push old new happened.event name happened.added

same_name : (name : List ℕ) → bytes_eq name name ≡ true
same_name name = (bytes_eq-Decides name name).1 refl

other_name : (of name : List ℕ) → name ≢ of → bytes_eq of name ≡ false
other_name of name other = false_from_ne_true (bytes_eq of name) (λ same. other (sym ((bytes_eq-Decides of name).0 same)))

abbrev image_of : FileState → List ℕ → Type 0
image_of s c = IsImageOf s.durable s.ranges c

-- a write within the open file
pub written_then : (name bytes : List ℕ) (at : ℕ) {old new : List Event} → Happened old new (wrote name at bytes) → at ≤ length (file_after name old).seen → file_after name new ≡ written at bytes (file_after name old)
written_then name bytes at {old} {new} happened within =
    let place : min at (length (file_after name old).seen) ≡ at = omega arith in
    file_then happened name ∙ cond-true _ _ _ (same_name name) ∙ ap (λ (k : ℕ). written k bytes (file_after name old)) place

pub torn_then : (name bytes : List ℕ) (at : ℕ) {old new : List Event} → Happened old new (wrote name at bytes) → at ≤ length (file_after name old).seen → Follows (Torn at (length bytes)) (IsImage old name) (IsImage new name)
torn_then name bytes at happened within c image = subst (λ s. image_of s c) (written_then name bytes at happened within) image

pub wrote_other : (name other bytes : List ℕ) (at : ℕ) {old new : List Event} → Happened old new (wrote name at bytes) → other ≢ name → file_after other new ≡ file_after other old
wrote_other name other bytes at happened differs = file_then happened other ∙ cond-false _ _ _ (other_name name other differs)

-- a write that failed
pub faulted_then : (name : List ℕ) (at len : ℕ) {old new : List Event} → Happened old new (faulted_in name at len) → at ≤ length (file_after name old).seen → file_after name new ≡ faulted at len (file_after name old)
faulted_then name at len {old} {new} happened within =
    let place : min at (length (file_after name old).seen) ≡ at = omega arith in
    file_then happened name ∙ cond-true _ _ _ (same_name name) ∙ ap (λ (k : ℕ). faulted k len (file_after name old)) place

pub torn_fault : (name : List ℕ) (at len : ℕ) {old new : List Event} → Happened old new (faulted_in name at len) → at ≤ length (file_after name old).seen → Follows (Torn at len) (IsImage old name) (IsImage new name)
torn_fault name at len happened within c image = subst (λ s. image_of s c) (faulted_then name at len happened within) image

pub faulted_other : (name other : List ℕ) (at len : ℕ) {old new : List Event} → Happened old new (faulted_in name at len) → other ≢ name → file_after other new ≡ file_after other old
faulted_other name other at len happened differs = file_then happened other ∙ cond-false _ _ _ (other_name name other differs)

-- the same file has the same images
pub same_images : (name : List ℕ) (old new : List Event) → file_after name new ≡ file_after name old → NoMore (IsImage old name) (IsImage new name)
same_images name old new same c image = subst (λ s. image_of s c) same image

-- a sync
synced_cases : (of name : List ℕ) (s : FileState) → (synced of name s ≡ rested s.seen) ⊎ (synced of name s ≡ s)
synced_cases of name s = elim (cases_Bool (bytes_eq of name)) [
  | inl same ↦ inl (cond-true _ _ _ same)
  | inr other ↦ inr (cond-false _ _ _ other)
]

pub seen_then : (of name : List ℕ) {old new : List Event} → Happened old new (synced of) → (file_after name new).seen ≡ (file_after name old).seen
seen_then of name {old} {new} happened = elim (synced_cases of name (file_after name old)) [
  | inl rest ↦ ap (λ (s : FileState). s.seen) (file_then happened name ∙ rest)
  | inr same ↦ ap (λ (s : FileState). s.seen) (file_then happened name ∙ same)
]

pub only_then : (name : List ℕ) {old new : List Event} → Happened old new (synced name) → Only (file_after name old).seen (IsImage new name)
only_then name happened c image = subst (λ s. image_of s c) (file_then happened name ∙ cond-true _ _ _ (same_name name)) image

pub no_more_then : (of name : List ℕ) {old new : List Event} → ((c : List ℕ) → c ≡ (file_after name old).seen → IsImage old name c) → Happened old new (synced of) → NoMore (IsImage old name) (IsImage new name)
no_more_then of name {old} {new} seen happened c image = elim (synced_cases of name (file_after name old)) [
  | inl rest ↦ seen c (subst (λ s. image_of s c) (file_then happened name ∙ rest) image)
  | inr same ↦ subst (λ s. image_of s c) (file_then happened name ∙ same) image
]

-- a call succeeded or failed, and tells something in each case
pub ok_or_err : {T E P Q : Type 0} (r : Result T E) → OnOk r P → OnErr r Q → P ⊎ Q
ok_or_err (Ok value) ok err = inl ok
ok_or_err (Err error) ok err = inr err

-- what happened, seen from equal values
pub happened_at : {events events' new : List Event} {name name' : List ℕ} (step : List ℕ → List ℕ → FileState → FileState) → events' ≡ events → name' ≡ name → Happened events' new (step name') → Happened events new (step name)
happened_at {events = events} {new = new} {name' = name'} step same named happened =
    subst (λ n. Happened events new (step n)) named (subst (λ es. Happened es new (step name')) same happened)

pub elapses_at : {old old' new new' : List Event} (name : List ℕ) → old' ≡ old → new' ≡ new → Elapses (length old') (length new') (WasImage old' name) (WasImage new' name) (IsImage new' name) → Elapses (length old) (length new) (WasImage old name) (WasImage new name) (IsImage new name)
elapses_at {old = old} {old' = old'} {new' = new'} name first second time =
    subst (λ es. Elapses (length old) (length es) (WasImage old name) (WasImage es name) (IsImage es name)) second
    (subst (λ es. Elapses (length es) (length new') (WasImage es name) (WasImage new' name) (IsImage new' name)) first time)

-- what a read gives after one event more: a write of the file, or what a read of it does not show
pub seen_kept : (name : List ℕ) (old new : List Event) (event : Event) (seen : List ℕ)
    → new ≡ old ++ event ∷ []
    → ((s : FileState) → (after_event name event s).seen ≡ s.seen)
    → seen ≡ (file_after name old).seen → seen ≡ (file_after name new).seen
seen_kept name old new event seen is keeps was =
    was ∙ sym (ap (λ (s : FileState). s.seen) (file_push name old new event is) ∙ keeps
    (file_after name old))

pub fault_keeps : (of name : List ℕ) (at len : ℕ) (s : FileState)
    → (faulted_in of at len name s).seen ≡ s.seen
fault_keeps of name at len s = elim (cases_Bool (bytes_eq of name)) [
  | inl same ↦ ap (λ (t : FileState). t.seen)
      (cond-true _ (faulted (min at (length s.seen)) len s) s same)
  | inr other ↦ ap (λ (t : FileState). t.seen)
      (cond-false _ (faulted (min at (length s.seen)) len s) s other)
]

pub sync_keeps : (of name : List ℕ) (s : FileState) → (synced of name s).seen ≡ s.seen
sync_keeps of name s = elim (synced_cases of name s) [
  | inl rest ↦ ap (λ (t : FileState). t.seen) rest
  | inr same ↦ ap (λ (t : FileState). t.seen) same
]

pub write_shows : (of name bytes : List ℕ) (at : ℕ) (s : FileState) → of ≡ name
    → (wrote of at bytes name s).seen ≡ overwritten (min at (length s.seen)) bytes s.seen
write_shows of name bytes at s same =
    ap (λ (t : FileState). t.seen) (cond-true _ (written (min at (length s.seen)) bytes s) s
    (subst (λ n. bytes_eq n name ≡ true) (sym same) (same_name name)))

pub seen_written : (of name bytes given : List ℕ) (at : ℕ) (s : FileState) (left seen : List ℕ)
    → of ≡ name → bytes ≡ given
    → left ≡ s.seen → seen ≡ overwritten (min at (length left)) given left
    → seen ≡ (wrote of at bytes name s).seen
seen_written of name bytes given at s left seen same is was shown =
    shown
    ∙ ap (λ (g : List ℕ). overwritten (min at (length left)) g left) (sym is)
    ∙ ap (λ (l : List ℕ). overwritten (min at (length l)) bytes l) was
    ∙ sym (write_shows of name bytes at s same)
