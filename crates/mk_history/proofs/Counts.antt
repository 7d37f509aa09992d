-- How many changes of each kind there are, with one change more.
use Rattle.std.specs.Prelude.{◌≡◌, ℕ, ◌+◌, ◌<◌, ◌≤◌, List, [], ◌∷◌, ◌++◌, Bool, true, false, cond}
use Rattle.std.specs.Prelude.{◌||◌, length}
use Rattle.std.specs.List.{count_by}
use Rattle.std.proofs.Common.{refl, ap, ◌∙◌, arith, length-append}
use Rattle.std.proofs.lemmas.List.Elements.{filter_map-append}
use Rattle.std.proofs.lemmas.List.Sums.{sum_by-append}
use Rattle.mk_net.specs.Bounds.{max_variables}
use Rattle.mk_exact.specs.History.{Entry, Join, Deposit, Withdraw, Trade, Resolve, Settle, Add}
use Rattle.mk_exact.specs.History.{join_in, trade_in, resolution_in, addition_in}
use Rattle.mk_exact.specs.History.{is_settlement, is_transfer}
use Rattle.mk_exact.specs.History.{users, trades, resolutions, additions, is_settled}
use Rattle.mk_history.specs.Histories.{max_additions}
use Rattle.mk_history.specs.declared.history.Limits.{Limits}
use Rattle.mk_history.specs.inner.Counted.{IsWithin}

-- what a change adds to each count
pub record IsOneMore (H : List Entry) (e : Entry) : Type 0 where
  pub users : length (users (H ++ e ∷ [])) ≡ length (users H) + length (users (e ∷ []))
  pub trades : length (trades (H ++ e ∷ [])) ≡ length (trades H) + length (trades (e ∷ []))
  pub transfers : count_by is_transfer (H ++ e ∷ []) ≡ count_by is_transfer H + count_by is_transfer (e ∷ [])
  pub additions : length (additions (H ++ e ∷ [])) ≡ length (additions H) + length (additions (e ∷ []))
  pub resolutions : length (resolutions (H ++ e ∷ [])) ≡ length (resolutions H) + length (resolutions (e ∷ []))
  pub settlements : count_by is_settlement (H ++ e ∷ []) ≡ count_by is_settlement H + count_by is_settlement (e ∷ [])

pub one_more : (H : List Entry) (e : Entry) → IsOneMore H e
one_more H e = record {
  users = ap length (filter_map-append join_in H (e ∷ [])) ∙ length-append (users H) (users (e ∷ []));
  trades = ap length (filter_map-append trade_in H (e ∷ [])) ∙ length-append (trades H) (trades (e ∷ []));
  transfers = sum_by-append (λ (y : Entry). cond (is_transfer y) 1 0) H (e ∷ []);
  additions = ap length (filter_map-append addition_in H (e ∷ [])) ∙ length-append (additions H) (additions (e ∷ []));
  resolutions = ap length (filter_map-append resolution_in H (e ∷ [])) ∙ length-append (resolutions H) (resolutions (e ∷ []));
  settlements = sum_by-append (λ (y : Entry). cond (is_settlement y) 1 0) H (e ∷ []);
}

-- the changes of each kind, together
abbrev counted : List Entry → ℕ
counted H = length (users H) + length (trades H) + count_by is_transfer H + length (additions H) + length (resolutions H)
    + count_by is_settlement H

-- a change is counted once
counted_one : (e : Entry) → counted (e ∷ []) ≡ 1
counted_one (Join name) = refl
counted_one (Deposit user bits) = refl
counted_one (Withdraw user bits) = refl
counted_one (Trade user ratio) = refl
counted_one (Resolve pair) = refl
counted_one (Settle payments) = refl
counted_one (Add addition) = refl

counted_more : (H : List Entry) (e : Entry) → counted (e ∷ H) ≡ counted (e ∷ []) + counted H
counted_more H e = omega (
  arith,
  ap length (filter_map-append join_in (e ∷ []) H),
  length-append (users (e ∷ [])) (users H),
  ap length (filter_map-append trade_in (e ∷ []) H),
  length-append (trades (e ∷ [])) (trades H),
  ap length (filter_map-append addition_in (e ∷ []) H),
  length-append (additions (e ∷ [])) (additions H),
  ap length (filter_map-append resolution_in (e ∷ []) H),
  length-append (resolutions (e ∷ [])) (resolutions H),
  sum_by-append (λ (y : Entry). cond (is_transfer y) 1 0) (e ∷ []) H,
  sum_by-append (λ (y : Entry). cond (is_settlement y) 1 0) (e ∷ []) H,
)

-- each change is counted once
pub all_counted : (H : List Entry) → length H ≡ counted H
all_counted [] = refl
all_counted (e ∷ H) = omega (arith, all_counted H, counted_more H e, counted_one e)

neither : (p q : Bool) → p || q ≡ false → (p ≡ false) × (q ≡ false)
neither true q h = cc
neither false q h = (refl, h)

-- where nothing is settled there is no settlement
pub no_settlement : (H : List Entry) → is_settled H ≡ false → count_by is_settlement H ≡ 0
no_settlement [] unsettled = refl
no_settlement (e ∷ H) unsettled =
    let parts : (is_settlement e ≡ false) × (is_settled H ≡ false) = neither (is_settlement e) (is_settled H) unsettled in
    rw (parts.0, no_settlement H parts.1) refl

-- there may be one change more of this kind
abbrev pub HasPlace : List Entry → Limits → Entry → Type 0
HasPlace H limits (Join name) = length (users H) < limits.users
HasPlace H limits (Deposit user bits) = count_by is_transfer H < limits.transfers
HasPlace H limits (Withdraw user bits) = count_by is_transfer H < limits.transfers
HasPlace H limits (Trade user ratio) = length (trades H) < limits.trades
HasPlace H limits (Resolve pair) = length (resolutions H) < max_variables
HasPlace H limits (Settle payments) = is_settled H ≡ false
HasPlace H limits (Add addition) = length (additions H) < max_additions

-- what each count comes to with the change is within its limit
record IsPlaced (H : List Entry) (limits : Limits) (e : Entry) : Type 0 where
  users : length (users H) + length (users (e ∷ [])) ≤ limits.users
  trades : length (trades H) + length (trades (e ∷ [])) ≤ limits.trades
  transfers : count_by is_transfer H + count_by is_transfer (e ∷ []) ≤ limits.transfers
  additions : length (additions H) + length (additions (e ∷ [])) ≤ max_additions
  resolutions : length (resolutions H) + length (resolutions (e ∷ [])) ≤ max_variables
  settlements : count_by is_settlement H + count_by is_settlement (e ∷ []) ≤ 1

placed : (H : List Entry) (limits : Limits) (e : Entry) → IsWithin H limits → HasPlace H limits e → IsPlaced H limits e
placed H limits (Join name) old room = omega (arith, old, room)
placed H limits (Deposit user bits) old room = omega (arith, old, room)
placed H limits (Withdraw user bits) old room = omega (arith, old, room)
placed H limits (Trade user ratio) old room = omega (arith, old, room)
placed H limits (Resolve pair) old room = omega (arith, old, room)
placed H limits (Settle payments) old unsettled = omega (arith, old, no_settlement H unsettled)
placed H limits (Add addition) old room = omega (arith, old, room)

pub within_more : (H : List Entry) (limits : Limits) (e : Entry) → IsWithin H limits → HasPlace H limits e → IsWithin (H ++ e ∷ []) limits
within_more H limits e old room =
    let more : IsOneMore H e = one_more H e in
    let place : IsPlaced H limits e = placed H limits e old room in
    record {
      few_users = omega (arith, more.users, place.users);
      few_trades = omega (arith, more.trades, place.trades);
      few_transfers = omega (arith, more.transfers, place.transfers);
      few_additions = omega (arith, more.additions, place.additions);
      few_resolutions = omega (arith, more.resolutions, place.resolutions);
      one_settlement = omega (arith, more.settlements, place.settlements);
      trades_at_most = old.trades_at_most;
      users_at_most = old.users_at_most;
      transfers_at_most = old.transfers_at_most;
    }

-- with one change more there are no more changes than there is room for
pub few_changes : (H : List Entry) (limits : Limits) (e : Entry) → IsWithin H limits → HasPlace H limits e
    → length H < limits.trades + limits.transfers + limits.users + max_variables + max_additions + 1
few_changes H limits e old room =
    let now : IsWithin (H ++ e ∷ []) limits = within_more H limits e old room in
    omega (
      arith,
      all_counted (H ++ e ∷ []),
      length-append H (e ∷ []),
      now.few_users,
      now.few_trades,
      now.few_transfers,
      now.few_additions,
      now.few_resolutions,
      now.one_settlement,
    )

-- a history's length is a number of 32 bits
pub few_at_all : (H : List Entry) (limits : Limits) → IsWithin H limits → length H < 4294967296
few_at_all H limits h = omega (
  arith,
  all_counted H,
  h.few_users,
  h.few_trades,
  h.few_transfers,
  h.few_additions,
  h.few_resolutions,
  h.one_settlement,
  h.trades_at_most,
  h.users_at_most,
  h.transfers_at_most,
)
