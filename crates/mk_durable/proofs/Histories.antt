-- The changes of records, and the history that they give: one of each.
use Rattle.std.proofs.Common.{◌≡◌, ℕ, zero, suc, List, [], ◌∷◌, ◌++◌, length, take}
use Rattle.std.proofs.Common.{refl, sym, ap, subst}
use Rattle.mk_exact.specs.History.{Entry}
use Rattle.mk_exact.specs.Market.{Market, present}
use Rattle.mk_command.specs.declared.command.Command.{Command}
use Rattle.mk_reply.specs.declared.reply.Reply.{Reply}
use Rattle.mk_restore.specs.Restoring.{Changes, IsRecord, IsFit, Restores}
use Rattle.mk_restore.proofs.Records.{record_holds_one}
use Rattle.mk_restore.proofs.Joined.{restores_one, front_is_restored}
use Rattle.mk_durable.specs.Recovery.{AreRecordsOf, AreTakenBack, IsFirstUnfit}

-- there are as many
pub one_each : (records : List (List ℕ)) (changes : Changes) → AreRecordsOf records changes
    → length records ≡ length changes
one_each [] [] are = refl
one_each [] (c ∷ changes) are = absurd are
one_each (r ∷ records) [] are = absurd are
one_each (r ∷ records) (c ∷ changes) are = ap suc (one_each records changes are.1)

-- records behind others, and the first of some
pub records_behind : (first second : List (List ℕ)) (changes more : Changes)
    → AreRecordsOf first changes → AreRecordsOf second more
    → AreRecordsOf (first ++ second) (changes ++ more)
records_behind [] second [] more are there = there
records_behind [] second (c ∷ changes) more are there = absurd are
records_behind (r ∷ first) second [] more are there = absurd are
records_behind (r ∷ first) second (c ∷ changes) more are there =
    (are.0, records_behind first second changes more are.1 there)

pub first_records : (n : ℕ) (records : List (List ℕ)) (changes : Changes)
    → AreRecordsOf records changes → AreRecordsOf (take n records) (take n changes)
first_records zero records changes are = tt
first_records (suc n) [] [] are = tt
first_records (suc n) [] (c ∷ changes) are = absurd are
first_records (suc n) (r ∷ records) [] are = absurd are
first_records (suc n) (r ∷ records) (c ∷ changes) are =
    (are.0, first_records n records changes are.1)

-- records are those of one list of changes
one_list : (records : List (List ℕ)) (changes others : Changes)
    → AreRecordsOf records changes → AreRecordsOf records others → changes ≡ others
one_list [] [] [] are there = refl
one_list [] [] (d ∷ others) are there = absurd there
one_list [] (c ∷ changes) others are there = absurd are
one_list (r ∷ records) [] others are there = absurd are
one_list (r ∷ records) (c ∷ changes) [] are there = absurd there
one_list (r ∷ records) (c ∷ changes) (d ∷ others) are there =
    let same = record_holds_one r (c.0) (d.0) (c.1) (d.1) are.0 there.0 in
    let more = one_list records changes others are.1 there.1 in
    λ i. (same.0 i, same.1 i) ∷ more i

-- so they give one history
pub one_history : (market : Market) (old new other : List Entry) (records : List (List ℕ))
    → AreTakenBack market old records new → AreTakenBack market old records other → new ≡ other
one_history market old new other records taken back =
    let same = one_list records taken.changes back.changes taken.are back.are in
    restores_one market old new other taken.changes taken.restores
    (subst (λ (cs : Changes). Restores market old cs other) (sym same) back.restores)

-- the change of a record that stands behind others
record HasNext (before : List (List ℕ)) (next : List ℕ) (changes : Changes) : Type 0 where
  first : Changes
  change : Command × Reply
  later : Changes
  parts : changes ≡ first ++ change ∷ later
  are : AreRecordsOf before first
  is : IsRecord next (change.0) (change.1)

next_of : (before : List (List ℕ)) (next : List ℕ) (others : List (List ℕ)) (changes : Changes)
    → AreRecordsOf (before ++ next ∷ others) changes → HasNext before next changes
next_of [] next others [] are = absurd are
next_of [] next others (c ∷ changes) are =
    record { first = []; change = c; later = changes; parts = refl; are = tt; is = are.0 }
next_of (r ∷ before) next others [] are = absurd are
next_of (r ∷ before) next others (c ∷ changes) are =
    let more = next_of before next others changes are.1 in
    record {
      first = c ∷ more.first;
      change = more.change;
      later = more.later;
      parts = ap (λ (cs : Changes). c ∷ cs) more.parts;
      are = (are.0, more.are);
      is = more.is;
    }

-- where all records are taken back, none of them is unfit
pub none_unfit : (market : Market) (old new : List Entry) (records : List (List ℕ)) (number : ℕ)
    → AreTakenBack market old records new → IsFirstUnfit market old records number → ⊥
none_unfit market old new records number taken bad =
    let all = subst (λ (rs : List (List ℕ)). AreRecordsOf rs taken.changes) bad.parts taken.are in
    let next = next_of bad.before bad.next bad.others taken.changes all in
    let restores = subst (λ (cs : Changes). Restores market old cs new) next.parts
    taken.restores in
    let middle = front_is_restored market old new next.first (next.change ∷ next.later) restores in
    let before : AreTakenBack market old bad.before middle.0 = record {
      changes = next.first;
      are = next.are;
      restores = middle.1;
    } in
    let same = one_history market old middle.0 bad.history bad.before before bad.taken in
    bad.unfit (next.change.0) (next.change.1) next.is
    (subst (λ (H : List Entry). IsFit (present market H) H (next.change.0) (next.change.1)) same
    middle.2.0)
