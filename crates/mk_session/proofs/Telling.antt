-- What a call leaves that tells what waits, or puts a line behind it.
use Rattle.std.proofs.Common.{◌≡◌, ℕ, ◌^◌, ◌<◌, ◌≤◌, List, [], ◌++◌, length, Option}
use Rattle.std.proofs.Common.{Result, Ok, Err, OnOk, inl, inr, refl, sym, ap, ◌∙◌}
use Rattle.std.proofs.lemmas.List.{append-nil}
use Rattle.mk_io.specs.Outside.{append_known, AddsFront, CountsFault}
use Rattle.mk_io.proofs.Told.{append_known_none}
use Rattle.mk_session.specs.declared.waiting.TellFault.{TellFault}
use Rattle.mk_session.specs.declared.waiting.TellFault.TheVariants.{Disk, Sink}
use Rattle.mk_session.specs.inner.Keeping.{HoldsSince, IsTold}
use Rattle.mk_session.proofs.Gathering.{gathers_none, gathers_line}
use Rattle.mk_session.proofs.Keeping.{passes_on, kept_since, left_since, fails_alike}
use Rattle.mk_session.proofs.Spoken.{left_as_held}

-- what a call of a keeper leaves
module _ {D K : Type 0}
    (holds : K → D → List ℕ → List ℕ → List (List ℕ) → List (List ℕ) → Type 0)
    {passes : D → D → List ℕ → List ℕ → List (List ℕ) → ℕ → Type 0} {keeper : K} {disk disk' : D}
    (then : (before mid now : D) (name market : List ℕ) (all : List (List ℕ)) (least : ℕ)
    → passes before mid name market all least → passes mid now name market all least
    → passes before now name market all least)
    (fewer_pass : (before now : D) (name market : List ℕ) (all more : List (List ℕ))
    (least fewer : ℕ) → fewer ≤ least → passes before now name market all least
    → passes before now name market (all ++ more) fewer)
    (moved : (name market : List ℕ) (kept waiting : List (List ℕ))
    → holds keeper disk name market kept waiting
    → passes disk disk' name market (kept ++ waiting) (length kept)) where
  module _ (begun : D) (name market : List ℕ) (first least : ℕ) (all more : List (List ℕ))
      (since : HoldsSince (holds keeper disk name market) (passes begun disk name market) first
      least all) where
    pub passed : passes begun disk' name market (all ++ more) first
    passed = passes_on (passes begun disk name market) (passes disk disk' name market)
        (passes begun disk' name market) (then begun disk disk' name market)
        (fewer_pass begun disk name market) (fewer_pass disk disk' name market)
        (holds keeper disk name market) first least all more since
        (moved name market since.held.kept since.held.waiting since.held.held)

  all_kept : {keeper' : K} → ((name market : List ℕ) (kept waiting : List (List ℕ))
      → holds keeper disk name market kept waiting
      → holds keeper' disk' name market (kept ++ waiting) [])
      → (begun : D) (name market : List ℕ) (first least : ℕ) (all : List (List ℕ))
      → HoldsSince (holds keeper disk name market) (passes begun disk name market) first least all
      → HoldsSince (holds keeper' disk' name market) (passes begun disk' name market) first
      (length all) all
  all_kept {keeper'} kept begun name market first least all since =
      let held = since.held in
      kept_since (holds keeper disk name market) (holds keeper' disk' name market)
      (passes begun disk name market) (passes begun disk' name market) first least all since
      (kept name market held.kept held.waiting held.held)
      (passed begun name market first least all [] since)

  module _ {S : Type 0} {is_ready : K → D → ℕ → Type 0} {disk_faults : D → ℕ}
      {leaves : D → List ℕ → List ℕ → List (List ℕ) → ℕ → Type 0}
      {written : S → Option (List ℕ)} {sink_faults : S → ℕ} {keeper' : K} {out out' : S}
      {waited : List ℕ}
      (kept : (name market : List ℕ) (kept waiting : List (List ℕ))
      → holds keeper disk name market kept waiting
      → holds keeper' disk' name market (kept ++ waiting) []) where
    -- all changes are kept, and all lines are written
    pub told_all : {waits : List ℕ}
        → ((n : ℕ) → n < 2 ^ 40 → is_ready keeper disk n → is_ready keeper' disk' n)
        → disk_faults disk' ≡ disk_faults disk → sink_faults out' ≡ sink_faults out
        → written out' ≡ append_known (written out) waited → waits ≡ []
        → IsTold {T = Unit {0}} is_ready disk_faults holds leaves passes written sink_faults
        (Ok tt) keeper keeper' disk disk' out out' waited [] waits
    told_all ready no_fault no_sink_fault whole none = record {
      ready = ready;
      cause = (no_fault, no_sink_fault);
      gathers = record {
        gone = waited;
        added = whole;
        parts = ap (λ (bytes : List ℕ). waited ++ bytes) (sym none);
      };
      front = tt;
      tells = λ begun name market first least all since.
          inr (whole, none, all_kept kept begun name market first least all since);
    }

    -- all changes are kept, and a front of the lines is written
    pub told_front : ((disk : D) (name market : List ℕ) (all more : List (List ℕ))
        (least fewer : ℕ) → fewer ≤ least → leaves disk name market all least
        → leaves disk name market (all ++ more) fewer)
        → ((keeper : K) (disk : D) (name market : List ℕ)
        (kept waiting : List (List ℕ)) → holds keeper disk name market kept waiting
        → leaves disk name market (kept ++ waiting) (length kept))
        → disk_faults disk' ≡ disk_faults disk → CountsFault (sink_faults out) (sink_faults out')
        → AddsFront (written out) (written out') waited
        → IsTold {T = Unit {0}} is_ready disk_faults holds leaves passes written sink_faults
        (Err Sink) keeper keeper' disk disk' out out' waited [] waited
    told_front fewer_left left no_fault fault cut = record {
      ready = λ n few is. tt;
      cause = (no_fault, fault);
      gathers = tt;
      front = cut;
      tells = λ begun name market first least all since. (
        cut,
        left_as_held (holds keeper' disk' name market) (leaves disk' name market)
            (passes begun disk' name market) (fewer_left disk' name market)
            (left keeper' disk' name market) first (length all) all
            (all_kept kept begun name market first least all since),
      );
    }

  -- the changes could not be kept, and no line is written
  pub told_none : {S : Type 0} {is_ready : K → D → ℕ → Type 0} {disk_faults : D → ℕ}
      {leaves : D → List ℕ → List ℕ → List (List ℕ) → ℕ → Type 0}
      {written : S → Option (List ℕ)} {sink_faults : S → ℕ} {keeper' : K} {out : S}
      {waited : List ℕ}
      → ((disk : D) (name market : List ℕ) (all more : List (List ℕ))
      (least fewer : ℕ) → fewer ≤ least → leaves disk name market all least
      → leaves disk name market (all ++ more) fewer)
      → ((before now : D) (name market : List ℕ) (all : List (List ℕ)) (least : ℕ)
      → passes before now name market all least → leaves now name market all least)
      → CountsFault (disk_faults disk) (disk_faults disk')
      → IsTold {T = Unit {0}} is_ready disk_faults holds leaves passes written sink_faults
      (Err Disk) keeper keeper' disk disk' out out waited [] waited
  told_none {S} {is_ready} {disk_faults} {leaves} {written} {sink_faults} {keeper'} {out} {waited}
      fewer_left last fault = record {
        ready = λ n few is. tt;
        cause = (fault, refl);
        gathers = tt;
        front = record {
          front = [];
          rest = waited;
          parts = refl;
          added = append_known_none (written out);
        };
        tells = λ begun name market first least all since.
            let held = since.held in (
              refl,
              left_since (holds keeper disk name market) (passes begun disk name market)
                  (passes begun disk' name market) (leaves disk' name market) first least all
                  (fewer_left disk' name market) since
                  (last disk disk' name market (held.kept ++ held.waiting) (length held.kept)
                  (moved name market held.kept held.waiting held.held))
                  (passed begun name market first least all [] since),
            );
      }

module _ {D K S : Type 0} {is_ready : K → D → ℕ → Type 0} {disk_faults : D → ℕ}
    {holds : K → D → List ℕ → List ℕ → List (List ℕ) → List (List ℕ) → Type 0}
    {leaves : D → List ℕ → List ℕ → List (List ℕ) → ℕ → Type 0}
    {passes : D → D → List ℕ → List ℕ → List (List ℕ) → ℕ → Type 0}
    {written : S → Option (List ℕ)} {sink_faults : S → ℕ} {keeper : K} {disk : D} {out : S}
    {waited : List ℕ} where
  -- what waits may wait on
  pub told_nothing : IsTold {T = Unit {0}} is_ready disk_faults holds leaves passes written
      sink_faults (Ok tt) keeper keeper disk disk out out waited [] waited
  told_nothing = record {
    ready = λ n few is. is;
    cause = (refl, refl);
    gathers = gathers_none (written out) waited;
    front = tt;
    tells = λ begun name market first least all since.
        inl (refl, sym (append-nil waited), since);
  }

  module _ {keeper' : K} {disk' : D} {out' : S} {waits : List ℕ} (mid line : List ℕ) where
    -- a line is put behind what waits then, or none is
    pub told_more : (said : Result (Unit {0}) TellFault) → OnOk said (waits ≡ mid ++ line)
        → IsTold is_ready disk_faults holds leaves passes written sink_faults said keeper keeper'
        disk disk' out out' waited [] mid
        → IsTold is_ready disk_faults holds leaves passes written sink_faults said keeper keeper'
        disk disk' out out' waited line waits
    told_more (Ok v) put told = record {
      ready = told.ready;
      cause = told.cause;
      gathers = gathers_line (written out) (written out') waited mid line waits told.gathers put;
      front = tt;
      tells = λ begun name market first least all since.
          elim (told.tells begun name market first least all since) [
            | inl stays ↦ inl (
              stays.0,
              put ∙ ap (λ (bytes : List ℕ). bytes ++ line) (stays.1 ∙ append-nil waited),
              stays.2,
            )
            | inr goes ↦ inr (
              goes.0,
              put ∙ ap (λ (bytes : List ℕ). bytes ++ line) goes.1,
              goes.2,
            )
          ];
    }
    told_more (Err fault) put told = record {
      ready = told.ready;
      cause = told.cause;
      gathers = tt;
      front = told.front;
      tells = λ begun name market first least all since.
          fails_alike (Unit {0}) (Unit {0}) fault _ _ _ _ _ _ _ _ _ _ _ _
          (told.tells begun name market first least all since);
    }
