-- What is held, a crash leaves.
use Rattle.std.specs.Prelude.{ℕ, ◌+◌, ◌≤◌, Bool, List, ◌++◌, length, Option}
use Rattle.std.proofs.Common.{sym, subst, arith, length-append, refl}
use Rattle.std.proofs.lemmas.List.{take_at, take-append-le}
use Rattle.mk_journal.specs.Store.{IsStarted}
use Rattle.mk_journal.specs.Market.{IsFront}
use Rattle.mk_journal.specs.Keepers.{StoreOf, IsHeld, IsReady}

pub front_kept : (market : List ℕ) (kept waiting : List (List ℕ)) (c : List ℕ) → IsStarted market kept c → IsFront market (kept ++ waiting) (length kept) c
front_kept market kept waiting c started = record {
  count = length kept;
  enough = omega arith;
  within = omega (arith, length-append kept waiting);
  started = subst (λ (l : List (List ℕ)). IsStarted market l c) (sym (take_at kept waiting (length kept) refl)) started;
}

pub held_left : {file : Option (List ℕ)} {may_leave : List ℕ → Type 0} {store : StoreOf} {market : List ℕ} {kept waiting : List (List ℕ)} → IsHeld file may_leave store market kept waiting
    → (c : List ℕ) → may_leave c → IsFront market (kept ++ waiting) (length kept) c
held_left {file} {may_leave} {store} {market} {kept} {waiting} held c left =
    front_kept market kept waiting c (subst (IsStarted market kept) (sym (held.settled.kept.only c left)) held.settled.started)

pub front_fewer : {market : List ℕ} {all : List (List ℕ)} {least fewer : ℕ} {c : List ℕ} (more : List (List ℕ)) → fewer ≤ least → IsFront market all least c → IsFront market (all ++ more) fewer c
front_fewer {market} {all} {least} {fewer} {c} more less front = record {
  count = front.count;
  enough = omega (arith, front.enough, less);
  within = omega (arith, front.within, length-append all more);
  started = subst (λ (l : List (List ℕ)). IsStarted market l c) (sym (take-append-le front.count all more front.within)) front.started;
}

pub ready_later : {is_open : Bool} {file : Option (List ℕ)} {store : StoreOf} {n : ℕ} → IsReady is_open file store n → IsReady is_open file store (n + 1)
ready_later ready = record { open_file = ready.open_file; place = ready.place; near = omega (arith, ready.near) }
