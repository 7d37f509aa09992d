-- The loop that cuts one line.
use Rattle.std.proofs.Common.{◌≡◌, ℕ, ◌+◌, ◌<◌, ◌≤◌, List, [], ◌∷◌, ◌++◌, length, Option, Contains, refl, sym, ap, subst, ◌∙◌, arith}
use Rattle.std.specs.Prelude.{◌≢◌, All}
use Rattle.std.proofs.lemmas.List.{length_push}
use Rattle.std.proofs.lemmas.List.Elements.{All-nil, All-push}
use Rattle.std.proofs.lemmas.Map.Made.{Contains-tail}
use Rattle.mk_io.specs.declared.cut.Cut.TheVariants.{Whole, Last, Fault, Full}
use Rattle.mk_io.specs.Outside.{prepend_known, IsAtEnd, LeavesRest}
use Rattle.mk_io.specs.inner.Cut.{front, CutsLine}
use Rattle.mk_io.proofs.Told.{prepend_known_twice, prepend_known_none}
use Rattle.mk_io.proofs.Front.{front_push, front_none}

-- the bytes of the line that were taken so far hold no LF
pub record CutSoFar (limit : ℕ) (text : List ℕ) (size room : ℕ) (before after : Option (List ℕ)) : Type 0 where
  pub part : List ℕ
  pub no_lf : All (λ b. b ≢ 10) part
  pub kept : text ≡ front limit part
  pub counted : size ≡ length part
  pub fits : size ≤ room
  pub taken : before ≡ prepend_known part after

-- the market, the files and the count of faults are as they were
pub record Elsewhere (old_market new_market : Option (List ℕ)) (old_file new_file : List ℕ → Option (List ℕ)) (before after : ℕ) : Type 0 where
  pub rest : LeavesRest old_market new_market old_file new_file
  pub kept : after ≡ before

-- and after a read too
pub rest_since : {old mid new : Option (List ℕ)} {f g h : List ℕ → Option (List ℕ)} {before after : ℕ} → Elsewhere old mid f g before after → LeavesRest mid new g h → LeavesRest old new f h
rest_since elsewhere rest =
    record {
      stream = rest.stream ∙ elsewhere.rest.stream;
      files = λ name. rest.files name ∙ elsewhere.rest.files name;
    }

-- a line was read whole before its cutting began: nothing more is read for it
pub record Held {I : Type 0} (initial left : List ℕ) (inputs_then inputs : I) (size : ℕ) : Type 0 where
  pub unread : inputs ≡ inputs_then
  pub whole : Contains left 10
  pub counted : size + length left ≡ length initial

pub some_left : (left : List ℕ) → Contains left 10 → 0 < length left
some_left [] none = let below : none.0 < 0 = none.1 in absurd (omega arith)
some_left (b ∷ left) some = omega arith

-- a byte of it was taken
taken_held : {I : Type 0} (initial old mid new : List ℕ) (inputs_then inputs next : I) (size b : ℕ) → Held initial old inputs_then inputs size
    → (0 < length old → mid ≡ old) → (0 < length old → next ≡ inputs) → mid ≡ b ∷ new → b ≢ 10 → Held initial new inputs_then next (size + 1)
taken_held initial old mid new inputs_then inputs next size b held kept unread byte other =
    let some : 0 < length old = some_left old held.whole in
    let parts : old ≡ b ∷ new = sym (kept some) ∙ byte in
    record {
      unread = unread some ∙ held.unread;
      whole = Contains-tail b new 10 other (subst (λ (bytes : List ℕ). Contains bytes 10) parts held.whole);
      counted = omega (arith, held.counted, ap length parts);
    }

pub still_held : {I : Type 0} (initial old mid new : List ℕ) (inputs_then inputs next : I) (size b : ℕ) → (Contains initial 10 → Held initial old inputs_then inputs size)
    → (0 < length old → mid ≡ old) → (0 < length old → next ≡ inputs) → mid ≡ b ∷ new → b ≢ 10
    → Contains initial 10 → Held initial new inputs_then next (size + 1)
still_held initial old mid new inputs_then inputs next size b held kept unread byte other whole =
    taken_held initial old mid new inputs_then inputs next size b (held whole) kept unread byte other

pub unread_if_held : {I : Type 0} (initial old : List ℕ) (inputs_then inputs next : I) (size : ℕ) → (Contains initial 10 → Held initial old inputs_then inputs size)
    → (0 < length old → next ≡ inputs) → Contains initial 10 → next ≡ inputs_then
unread_if_held initial old inputs_then inputs next size held unread whole =
    let h = held whole in unread (some_left old h.whole) ∙ h.unread

-- there is room for what was read with it
pub room_if_held : {I : Type 0} (initial old : List ℕ) (inputs_then inputs : I) (size room : ℕ) → (Contains initial 10 → Held initial old inputs_then inputs size)
    → Contains initial 10 → length initial ≤ room → size ≡ room → ⊥
room_if_held initial old inputs_then inputs size room held whole fits full =
    let h = held whole in omega (arith, some_left old h.whole, h.counted)

pub so_far_none : (limit room : ℕ) (text : List ℕ) (before : Option (List ℕ)) → text ≡ [] → CutSoFar limit text 0 room before before
so_far_none limit room text before empty =
    record {
      part = [];
      no_lf = All-nil (λ b. b ≢ 10);
      kept = empty ∙ front_none limit;
      counted = refl;
      fits = omega arith;
      taken = sym (prepend_known_none before);
    }

-- one byte more was taken
pub taken_more : (part old mid new : List ℕ) (before source rest : Option (List ℕ)) (b : ℕ) → before ≡ prepend_known part (prepend_known old source) → prepend_known old source ≡ prepend_known mid rest → mid ≡ b ∷ new → before ≡ prepend_known (part ++ b ∷ []) (prepend_known new rest)
taken_more part old mid new before source rest b taken stream byte =
    taken ∙ ap (prepend_known part) (stream ∙ ap (λ bytes. prepend_known bytes rest) byte ∙ sym (prepend_known_twice (b ∷ []) new rest)) ∙ prepend_known_twice part (b ∷ []) (prepend_known new rest)

pub so_far_more : (limit size room b : ℕ) (text next old mid new : List ℕ) (before source rest : Option (List ℕ)) → CutSoFar limit text size room before (prepend_known old source) → prepend_known old source ≡ prepend_known mid rest → mid ≡ b ∷ new → (size ≡ room → ⊥) → b ≢ 10 → next ≡ front limit (text ++ b ∷ []) → CutSoFar limit next (size + 1) room before (prepend_known new rest)
so_far_more limit size room b text next old mid new before source rest far stream byte room_left other pushed =
    record {
      part = far.part ++ b ∷ [];
      no_lf = All-push (λ x. x ≢ 10) far.part b far.no_lf other;
      kept = pushed ∙ ap (λ bytes. front limit (bytes ++ b ∷ [])) far.kept ∙ front_push limit far.part b;
      counted = omega (arith, length_push far.part b, far.counted);
      fits = let fits : size ≤ room = far.fits in omega arith;
      taken = taken_more far.part old mid new before source rest b far.taken stream byte;
    }

pub cuts_whole : (limit size room b : ℕ) (text old mid new : List ℕ) (before source rest : Option (List ℕ)) → CutSoFar limit text size room before (prepend_known old source) → prepend_known old source ≡ prepend_known mid rest → mid ≡ b ∷ new → (size ≡ room → ⊥) → b ≡ 10 → CutsLine (Whole (size + 1)) limit text room before new rest
cuts_whole limit size room b text old mid new before source rest far stream byte room_left lf =
    record {
      part = far.part;
      no_lf = far.no_lf;
      kept = far.kept;
      ends = record {
        size = let counted : size ≡ length far.part = far.counted in omega arith;
        fits = let fits : size ≤ room = far.fits in omega arith;
        taken = taken_more far.part old mid new before source rest 10 far.taken stream (byte ∙ ap (λ x. x ∷ new) lf);
      };
    }

pub cuts_full : (limit size room b : ℕ) (text old mid new : List ℕ) (before source rest : Option (List ℕ)) → CutSoFar limit text size room before (prepend_known old source) → prepend_known old source ≡ prepend_known mid rest → mid ≡ b ∷ new → size ≡ room → CutsLine Full limit text room before new rest
cuts_full limit size room b text old mid new before source rest far stream byte full =
    record {
      part = far.part;
      no_lf = far.no_lf;
      kept = far.kept;
      ends = record {
        byte = b;
        size = sym far.counted ∙ full;
        taken = taken_more far.part old mid new before source rest b far.taken stream byte;
      };
    }

pub cuts_last : (limit size room : ℕ) (text old new : List ℕ) (before source rest : Option (List ℕ)) → CutSoFar limit text size room before (prepend_known old source) → prepend_known old source ≡ prepend_known new rest → IsAtEnd (prepend_known new rest) → CutsLine (Last size) limit text room before new rest
cuts_last limit size room text old new before source rest far stream end =
    record {
      part = far.part;
      no_lf = far.no_lf;
      kept = far.kept;
      ends = record {
        size = far.counted;
        fits = far.fits;
        taken = far.taken ∙ ap (prepend_known far.part) stream;
        at_end = end;
      };
    }

pub cuts_fault : (limit size room : ℕ) (text old new : List ℕ) (before source rest : Option (List ℕ)) → CutSoFar limit text size room before (prepend_known old source) → prepend_known old source ≡ prepend_known new rest → new ≡ [] → CutsLine Fault limit text room before new rest
cuts_fault limit size room text old new before source rest far stream empty =
    record {
      part = far.part;
      no_lf = far.no_lf;
      kept = far.kept;
      ends = far.taken ∙ ap (prepend_known far.part) (stream ∙ ap (λ bytes. prepend_known bytes rest) empty ∙ prepend_known_none rest);
    }
