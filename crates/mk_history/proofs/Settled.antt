-- The settlement comes to changes of which none is one.
use Rattle.std.specs.Prelude.{◌≡◌, ℕ, List, [], ◌∷◌, false}
use Rattle.std.specs.List.{AllByRecursion}
use Rattle.std.proofs.Common.{refl, ap, ◌∙◌, arith}
use Rattle.std.proofs.lemmas.List.Elements.{All-from_recursion, recursion_from_All}
use Rattle.mk_exact.specs.History as history
use Rattle.mk_exact.specs.History.{Entry, is_settled}
use Rattle.mk_history.specs.declared.change.Change.{Change}
use Rattle.mk_history.specs.declared.change.Change.TheVariants.{Join, Deposit, Withdraw, Trade}
use Rattle.mk_history.specs.declared.change.Change.TheVariants.{Resolve}
use Rattle.mk_history.specs.declared.change.Change.TheVariants.{Settle, Add}
use Rattle.mk_history.specs.declared.history.Limits.{Limits}
use Rattle.mk_history.specs.inner.Kept.{Lists, entry_kept, IsKept}
use Rattle.mk_history.specs.inner.Counted.{entries_kept, AreKept}
use Rattle.mk_history.proofs.Added.{IsAdded, short_added}

module _ (lists : Lists) (payments : List (ℕ × ℕ)) where
  abbrev paid : Lists
  paid = record lists { payments = payments }

  same_entries : (changes : List Change) → is_settled (entries_kept lists changes) ≡ false
      → entries_kept paid changes ≡ entries_kept lists changes
  same_entries [] unsettled = refl
  same_entries (Join name ∷ cs) unsettled = ap (λ H. entry_kept lists (Join name) ∷ H) (same_entries cs unsettled)
  same_entries (Deposit user bits ∷ cs) unsettled = ap (λ H. entry_kept lists (Deposit user bits) ∷ H) (same_entries cs unsettled)
  same_entries (Withdraw user bits ∷ cs) unsettled = ap (λ H. entry_kept lists (Withdraw user bits) ∷ H) (same_entries cs unsettled)
  same_entries (Trade trade ∷ cs) unsettled = ap (λ H. entry_kept lists (Trade trade) ∷ H) (same_entries cs unsettled)
  same_entries (Resolve pair ∷ cs) unsettled = ap (λ H. entry_kept lists (Resolve pair) ∷ H) (same_entries cs unsettled)
  same_entries (Settle ∷ cs) unsettled = cc
  same_entries (Add question ∷ cs) unsettled = ap (λ H. entry_kept lists (Add question) ∷ H) (same_entries cs unsettled)

  still_kept : (change : Change) → IsKept lists change → IsKept paid change
  still_kept (Join name) kept = kept
  still_kept (Deposit user bits) kept = kept
  still_kept (Withdraw user bits) kept = kept
  still_kept (Trade trade) kept = kept
  still_kept (Resolve pair) kept = kept
  still_kept Settle kept = kept
  still_kept (Add question) kept = kept

  all_still : (changes : List Change) → AllByRecursion (IsKept lists) changes → AllByRecursion (IsKept paid) changes
  all_still [] kept = tt
  all_still (c ∷ cs) kept = (still_kept c kept.0, all_still cs kept.1)

  pub settlement_added : (changes : List Change) (limits : Limits) → AreKept lists changes limits
      → is_settled (entries_kept lists changes) ≡ false
      → IsAdded lists paid changes limits Settle (history.Settle payments)
  settlement_added changes limits kept unsettled =
      let same : entries_kept paid changes ≡ entries_kept lists changes = same_entries changes unsettled in
      let now : AreKept paid changes limits = record {
        kept = All-from_recursion (IsKept paid) changes (all_still changes (recursion_from_All (IsKept lists) changes kept.kept));
        within = rw same kept.within;
        measured = rw same (record {
          names = kept.measured.names;
          pairs = kept.measured.pairs;
          factors = kept.measured.factors;
          additions = kept.measured.additions;
        });
      } in
      let added : IsAdded paid paid changes limits Settle (history.Settle payments) =
      short_added paid changes limits now Settle (history.Settle payments) (rw same unsettled)
      (record { its_names = refl; its_pairs = omega arith; its_factors = omega arith; its_additions = refl }) refl tt in
      record { kept = added.kept; same = added.same ∙ rw same refl }
