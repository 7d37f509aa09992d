-- The counts of a journal when an entry comes to it.
use Rattle.std.specs.Prelude.{◌≡◌, ℕ, ◌+◌, List, [], ◌∷◌, ◌++◌, Bool, cond, ◌||◌, Option, Some, None, is_some, length}
use Rattle.std.proofs.Common.{refl, sym, ◌∙◌}
use Rattle.mk_net.specs.declared.words.Pair.{Pair}
use Rattle.mk_exact.specs.History.{Entry, join_in, trade_in, resolution_in, addition_in}
use Rattle.mk_exact.specs.History.{is_settlement, is_transfer, resolutions}
use Rattle.mk_history.specs.Histories.{HistoryOf}
use Rattle.mk_history.specs.declared.history.Limits.{Limits}
use Rattle.mk_record.specs.inner.Counted.{IsCounted, AreFew, HasLimits}
use Rattle.mk_record.proofs.Appends.{not_found, found, length_more, count_more, any_more}

-- a list with what was found behind it, if anything was
abbrev pub with_found : {Y : Type 0} → Option Y → List Y → List Y
with_found None ys = ys
with_found (Some y) ys = ys ++ y ∷ []

known_more : (H : List Entry) (e : Entry) → with_found (resolution_in e) (resolutions H) ≡ resolutions (H ++ e ∷ [])
known_more H e = choose (resolution_in e) refl
  where
    choose : (o : Option Pair) → resolution_in e ≡ o → with_found o (resolutions H) ≡ resolutions (H ++ e ∷ [])
    choose None is = sym (not_found H e resolution_in is)
    choose (Some pair) is = sym (found H e resolution_in pair is)

-- each count grows by what the entry is
pub after : (H : List Entry) (e : Entry) (most : Limits) (known : List Pair) (joined traded moved added : ℕ) (settled : Bool)
    → IsCounted H most known joined traded moved added settled
    → AreFew most (length (with_found (resolution_in e) known)) (cond (is_some (join_in e)) (joined + 1) joined)
    (cond (is_some (trade_in e)) (traded + 1) traded) (cond (is_transfer e) (moved + 1) moved) (cond (is_some (addition_in e)) (added + 1) added)
    → IsCounted (H ++ e ∷ []) most (with_found (resolution_in e) known) (cond (is_some (join_in e)) (joined + 1) joined)
    (cond (is_some (trade_in e)) (traded + 1) traded) (cond (is_transfer e) (moved + 1) moved) (cond (is_some (addition_in e)) (added + 1) added)
    (is_settlement e || settled)
after H e most known joined traded moved added settled old few = record {
  known_pairs = rw old.known_pairs (known_more H e);
  users_joined = rw old.users_joined (length_more H e join_in);
  trades_made = rw old.trades_made (length_more H e trade_in);
  transfers_made = rw old.transfers_made (count_more H e is_transfer);
  additions_made = rw old.additions_made (length_more H e addition_in);
  settlement = rw old.settlement (any_more H e is_settlement);
  few = few;
  within = old.within;
}

-- a journal keeps its limits
pub still_limited : (before later : HistoryOf) (limits : Limits) → later.max_trades ≡ before.max_trades → later.max_users ≡ before.max_users
    → later.max_transfers ≡ before.max_transfers → HasLimits before limits → HasLimits later limits
still_limited before later limits trades users transfers old = record {
  same_trades = trades ∙ old.same_trades;
  same_users = users ∙ old.same_users;
  same_transfers = transfers ∙ old.same_transfers;
}
