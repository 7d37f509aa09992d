-- Bytes that are told or not: one piece after another.
use Rattle.std.proofs.Common.{◌≡◌, ℕ, ◌+◌, ◌-◌, ◌<◌, ◌≤◌, List, [], ◌++◌, length, take, drop}
use Rattle.std.proofs.Common.{Option, Some, None, Ok, refl, sym, ap, ◌∙◌, append_assoc}
use Rattle.std.proofs.Common.{take-append-drop, length-drop, length-take, arith}
use Rattle.std.proofs.Math.Seq.{take-add}
use Rattle.std.proofs.lemmas.List.{append-nil, take_rest, take_all}
use Rattle.mk_io.specs.Outside.{Writes, AddsFront, AddsPart, append_known, prepend_known}

pub append_known_twice : (told : Option (List ℕ)) (a b : List ℕ) → append_known (append_known told a) b ≡ append_known told (a ++ b)
append_known_twice None a b = refl
append_known_twice (Some front) a b = ap Some (append_assoc front a b)

pub append_known_none : (told : Option (List ℕ)) → told ≡ append_known told []
append_known_none None = refl
append_known_none (Some front) = ap Some (simp append-nil)

pub prepend_known_twice : (a b : List ℕ) (told : Option (List ℕ)) → prepend_known a (prepend_known b told) ≡ prepend_known (a ++ b) told
prepend_known_twice a b None = refl
prepend_known_twice a b (Some rest) = ap Some (sym (append_assoc a b rest))

pub prepend_known_none : (told : Option (List ℕ)) → prepend_known [] told ≡ told
prepend_known_none None = refl
prepend_known_none (Some rest) = refl

-- what a loop of writes has done: the first bytes are written, and no fault was counted
pub record Wrote (old now : Option (List ℕ)) (before after : ℕ) (bytes : List ℕ) (done : ℕ) : Type 0 where
  pub within : done ≤ length bytes
  pub kept : after ≡ before
  pub added : now ≡ append_known old (take done bytes)

pub wrote_none : (old : Option (List ℕ)) (before : ℕ) (bytes : List ℕ) → Wrote old old before before bytes 0
wrote_none old before bytes = record { within = omega arith; kept = refl; added = append_known_none old }

pub take_next : (done n : ℕ) (bytes : List ℕ) → take done bytes ++ take n (take (length bytes - done) (drop done bytes)) ≡ take (done + n) bytes
take_next done n bytes = rw (take_rest bytes done) (sym (take-add done n bytes))

pub wrote_more : {E : Type 0} (old now next : Option (List ℕ)) (before after later : ℕ) (bytes : List ℕ) (done n : ℕ) → Wrote old now before after bytes done → Writes {E = E} now next (Ok n) (take (length bytes - done) (drop done bytes)) → later ≡ after → Wrote old next before later bytes (done + n)
wrote_more old now next before after later bytes done n wrote writes kept =
    record {
      within = omega (arith, writes.bound, simp (length-take, length-drop) at writes.bound);
      kept = kept ∙ wrote.kept;
      added = writes.added ∙ ap (λ told. append_known told (take n (take (length bytes - done) (drop done bytes)))) wrote.added ∙ append_known_twice old (take done bytes) _ ∙ ap (append_known old) (take_next done n bytes);
    }

pub wrote_all : (old now : Option (List ℕ)) (before after : ℕ) (bytes : List ℕ) (done : ℕ) → Wrote old now before after bytes done → length bytes ≤ done → now ≡ append_known old bytes
wrote_all old now before after bytes done wrote end = wrote.added ∙ ap (append_known old) (take_all done bytes end)

pub wrote_front : (old now next : Option (List ℕ)) (before after : ℕ) (bytes : List ℕ) (done : ℕ) → Wrote old now before after bytes done → next ≡ now → AddsFront old next bytes
wrote_front old now next before after bytes done wrote same =
    record {
      front = take done bytes;
      rest = drop done bytes;
      parts = sym (take-append-drop done bytes);
      added = same ∙ wrote.added;
    }

pub wrote_part : (old now next : Option (List ℕ)) (before after : ℕ) (bytes : List ℕ) (done : ℕ)
    → Wrote old now before after bytes done → done < length bytes → next ≡ now
    → AddsPart old next bytes
wrote_part old now next before after bytes done wrote more same =
    record {
      front = take done bytes;
      rest = drop done bytes;
      parts = sym (take-append-drop done bytes);
      left = omega (arith, length-drop done bytes);
      added = same ∙ wrote.added;
    }
