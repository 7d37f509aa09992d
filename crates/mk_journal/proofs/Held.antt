-- What a commit leaves of what is held.
use Rattle.std.proofs.Common.{◌≡◌, inl, inr, ℕ, ◌+◌, ◌<◌, Bool, IfSome, List, [], ◌∷◌, ◌++◌, length, Option, sym, ap, ◌∙◌, subst, arith, length-append, append_assoc}
use Rattle.std.proofs.lemmas.List.{take_all, append-nil}
use Rattle.std.proofs.lemmas.List.Elements.{All-push}
use Rattle.mk_journal.specs.Store.{IsLength, framed, IsStarted, IsWithOrWithout}
use Rattle.mk_journal.specs.Kept.{IsSettled}
use Rattle.mk_journal.specs.Market.{IsFront}
use Rattle.mk_journal.specs.Keepers.{StoreOf, Holds, IsHeld, IsReady}
use Rattle.mk_journal.specs.inner.HeldLaws.{front_kept}
use Rattle.mk_journal.proofs.Spelling.{opened-push, length-framed}

pub either_front : (market : List ℕ) (kept waiting : List (List ℕ)) (c : List ℕ) → IsWithOrWithout market kept waiting c → IsFront market (kept ++ waiting) (length kept) c
either_front market kept waiting c (inl old) = front_kept market kept waiting c old
either_front market kept waiting c (inr new) = record {
  count = length (kept ++ waiting);
  enough = omega (arith, length-append kept waiting);
  within = omega arith;
  started = subst (λ (l : List (List ℕ)). IsStarted market l c) (sym (take_all (length (kept ++ waiting)) (kept ++ waiting) (omega arith))) new;
}

-- equal values settle at the same place
pub settled_at_gate : {file : Option (List ℕ)} {may_leave : List ℕ → Type 0} {market : List ℕ} {kept : List (List ℕ)} (a b : StoreOf) → a ≡ b → IsSettled file may_leave market kept b.gate → IsSettled file may_leave market kept a.gate
settled_at_gate {file} {may_leave} {market} {kept} a b same settled = subst (λ (s : StoreOf). IsSettled file may_leave market kept s.gate) (sym same) settled

pub all_kept : (holds : List (List ℕ) → List (List ℕ) → Type 0) (kept waiting : List (List ℕ)) → holds (kept ++ waiting) [] → Holds holds (length kept) (kept ++ waiting)
all_kept holds kept waiting held = record {
  kept = kept ++ waiting;
  waiting = [];
  no_fewer = omega (arith, length-append kept waiting);
  parts = sym (append-nil (kept ++ waiting));
  held = held;
}

-- one change more waits
pub one_waits : {file : Option (List ℕ)} {may_leave : List ℕ → Type 0} {market : List ℕ} {kept waiting : List (List ℕ)} (old new : StoreOf) (r : List ℕ) → IsLength (length r) → new.gate ≡ old.gate
    → new.waiting ≡ old.waiting ++ 1 ∷ framed r → IsHeld file may_leave old market kept waiting → IsHeld file may_leave new market kept (waiting ++ r ∷ [])
one_waits {file} {may_leave} {market} {kept} {waiting} old new r is_length gate bytes held = record {
  settled = subst (λ k. IsSettled file may_leave market kept k) (sym gate) held.settled;
  bytes = bytes ∙ ap (λ (l : List ℕ). l ++ 1 ∷ framed r) held.bytes ∙ sym (opened-push waiting r);
  are = All-push (λ (x : List ℕ). IsLength (length x)) waiting r held.are is_length;
}

pub taken_more : (holds holds' : List (List ℕ) → List (List ℕ) → Type 0) (least : ℕ) (kept waiting : List (List ℕ)) (r : List ℕ)
    → ((k w : List (List ℕ)) → holds k w → holds' k (w ++ r ∷ [])) → Holds holds least (kept ++ waiting) → Holds holds' least (kept ++ (waiting ++ r ∷ []))
taken_more holds holds' least kept waiting r more held = record {
  kept = held.kept;
  waiting = held.waiting ++ r ∷ [];
  no_fewer = held.no_fewer;
  parts = sym (append_assoc kept waiting (r ∷ [])) ∙ ap (λ l. l ++ r ∷ []) held.parts ∙ append_assoc held.kept held.waiting (r ∷ []);
  held = more held.kept held.waiting held.held;
}

-- after a change more is taken
pub ready_more : (is_open : Bool) (file : List ℕ → Option (List ℕ)) (name name' : List ℕ) (old new : StoreOf) (r : List ℕ) (n : ℕ) → IsLength (length r) → name' ≡ name → new.gate ≡ old.gate
    → new.waiting ≡ old.waiting ++ 1 ∷ framed r → IsReady is_open (file name) old n → IsReady is_open (file name') new (n + 1)
ready_more is_open file name name' old new r n is_length same gate bytes ready = record {
  open_file = ready.open_file;
  place = subst (λ m. IfSome (file m) (λ f. new.gate < length f)) (sym same) (subst (λ k. IfSome (file name) (λ f. k < length f)) (sym gate) ready.place);
  near = omega (arith, ready.near, gate, ap length bytes, length-append old.waiting (1 ∷ framed r), length-framed r, is_length.most);
}
