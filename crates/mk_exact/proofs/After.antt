-- What one more entry changes in a history.
use Rattle.std.proofs.Common.{◌≡◌, ℕ, ◌+◌, ◌*◌, ◌^◌, true, false, ◌||◌, cond, ◌&&◌, eqb, List, [], ◌∷◌, ◌++◌, Option, Some, None, length, filter, filter_map, refl, sym, ap, ◌∙◌, append-nil, add-zero, mul_assoc, length-append, ne_eqb, eq-eqb}
use Rattle.std.proofs.lemmas.List.Elements.{filter_map-append, filter-append}
use Rattle.std.proofs.lemmas.List.Concat.{flat_map-append}
use Rattle.std.proofs.lemmas.List.Sums.{sum_by_push}
use Rattle.mk_net.specs.declared.words.Pair.{Pair}
use Rattle.mk_net.specs.Network.{Variable}
use Rattle.mk_net.specs.Asked.{TradeRatio}
use Rattle.mk_states.specs.States.{product_by}
use Rattle.mk_states.specs.InitialWeight.{initial_weight}
use Rattle.mk_states.specs.Events.{holds, has}
use Rattle.mk_states.specs.Ratios.{unit, ratio_at}
use Rattle.mk_exact.specs.History.{Entry, UserTrade, Join, Trade, Resolve, Settle, Deposit, Withdraw, Add, join_in, trade_in, resolution_in, payments_in, is_settlement, bits_in, bits_out, users, trades, trades_of, resolutions, is_settled, payments, deposited, withdrawn}
use Rattle.mk_exact.specs.Weight.{weight, is_possible}
use Rattle.mk_exact.specs.Factors.{Fraction, gain, trade_count, factor}
use Rattle.mk_states.proofs.Sums.{product_by_push, list_all-append}

-- a list read off a history by parts
pub kept_where : {Y : Type 0} (h : Entry → Option Y) (H : List Entry) (e : Entry) → h e ≡ None → filter_map h (H ++ e ∷ []) ≡ filter_map h H
kept_where h H e q = filter_map-append h H (e ∷ []) ∙ none (h e) q
  where
    none : (o : Option _) → o ≡ None → filter_map h H ++ Rattle.std.specs.List.cons_option o [] ≡ filter_map h H
    none None q = append-nil (filter_map h H)
    none (Some y) q = absurd (cc)

pub trades_kept : (H : List Entry) (e : Entry) → trade_in e ≡ None → trades (H ++ e ∷ []) ≡ trades H
trades_kept H e q = kept_where trade_in H e q

pub resolutions_kept : (H : List Entry) (e : Entry) → resolution_in e ≡ None → resolutions (H ++ e ∷ []) ≡ resolutions H
resolutions_kept H e q = kept_where resolution_in H e q

pub users_kept : (H : List Entry) (e : Entry) → join_in e ≡ None → users (H ++ e ∷ []) ≡ users H
users_kept H e q = kept_where join_in H e q

pub trades_more : (H : List Entry) (u : ℕ) (r : TradeRatio) → trades (H ++ Trade u r ∷ []) ≡ trades H ++ record { user = u; ratio = r } ∷ []
trades_more H u r = filter_map-append trade_in H (Trade u r ∷ [])

pub resolutions_more : (H : List Entry) (p : Pair) → resolutions (H ++ Resolve p ∷ []) ≡ resolutions H ++ p ∷ []
resolutions_more H p = filter_map-append resolution_in H (Resolve p ∷ [])

pub users_more : (H : List Entry) (name : List ℕ) → users (H ++ Join name ∷ []) ≡ users H ++ name ∷ []
users_more H name = filter_map-append join_in H (Join name ∷ [])

pub deposited_kept : (H : List Entry) (e : Entry) (u : ℕ) → bits_in u e ≡ 0 → deposited (H ++ e ∷ []) u ≡ deposited H u
deposited_kept H e u q = sum_by_push (bits_in u) H e ∙ ap (λ n. deposited H u + n) q ∙ add-zero (deposited H u)

pub withdrawn_kept : (H : List Entry) (e : Entry) (u : ℕ) → bits_out u e ≡ 0 → withdrawn (H ++ e ∷ []) u ≡ withdrawn H u
withdrawn_kept H e u q = sum_by_push (bits_out u) H e ∙ ap (λ n. withdrawn H u + n) q ∙ add-zero (withdrawn H u)

pub deposited_more : (H : List Entry) (e : Entry) (u : ℕ) → deposited (H ++ e ∷ []) u ≡ deposited H u + bits_in u e
deposited_more H e u = sum_by_push (bits_in u) H e

pub withdrawn_more : (H : List Entry) (e : Entry) (u : ℕ) → withdrawn (H ++ e ∷ []) u ≡ withdrawn H u + bits_out u e
withdrawn_more H e u = sum_by_push (bits_out u) H e

-- the weight of a state
weight_of : List Variable → List ℕ → List UserTrade → ℕ
weight_of network s ts = initial_weight network s * product_by (λ (t : UserTrade). ratio_at t.ratio s) ts

pub weight_kept : (network : List Variable) (H : List Entry) (e : Entry) (s : List ℕ) → trade_in e ≡ None → weight network (H ++ e ∷ []) s ≡ weight network H s
unfolding weight_of
weight_kept network H e s q = ap (weight_of network s) (trades_kept H e q)

pub weight_traded : (network : List Variable) (H : List Entry) (u : ℕ) (r : TradeRatio) (s : List ℕ) → weight network (H ++ Trade u r ∷ []) s ≡ weight network H s * ratio_at r s
unfolding weight_of
weight_traded network H u r s =
    ap (weight_of network s) (trades_more H u r)
    ∙ ap (λ n. initial_weight network s * n) (product_by_push (λ (t : UserTrade). ratio_at t.ratio s) (trades H) (record { user = u; ratio = r }))
    ∙ sym (mul_assoc (initial_weight network s) (product_by (λ (t : UserTrade). ratio_at t.ratio s) (trades H)) (ratio_at r s))

-- the states that are still possible
pub possible_kept : (H : List Entry) (e : Entry) (s : List ℕ) → resolution_in e ≡ None → is_possible (H ++ e ∷ []) s ≡ is_possible H s
possible_kept H e s q = ap (λ (ps : List Pair). holds ps s) (resolutions_kept H e q)

pub possible_resolved : (H : List Entry) (p : Pair) (s : List ℕ) → is_possible (H ++ Resolve p ∷ []) s ≡ (is_possible H s && (has p s && true))
possible_resolved H p s = ap (λ (ps : List Pair). holds ps s) (resolutions_more H p) ∙ list_all-append (λ q. has q s) (resolutions H) (p ∷ [])

-- the trades of one user
pub trades_of_kept : (H : List Entry) (e : Entry) (u : ℕ) → trade_in e ≡ None → trades_of (H ++ e ∷ []) u ≡ trades_of H u
trades_of_kept H e u q = ap (filter (λ (t : UserTrade). eqb t.user u)) (trades_kept H e q)

trades_of_split : (H : List Entry) (v : ℕ) (r : TradeRatio) (u : ℕ) → trades_of (H ++ Trade v r ∷ []) u ≡ trades_of H u ++ cond (eqb v u) (record { user = v; ratio = r } ∷ []) []
trades_of_split H v r u =
    ap (filter (λ (t : UserTrade). eqb t.user u)) (trades_more H v r)
    ∙ filter-append (λ (t : UserTrade). eqb t.user u) (trades H) (record { user = v; ratio = r } ∷ [])

pub trades_of_other : (H : List Entry) (v : ℕ) (r : TradeRatio) (u : ℕ) → (v ≡ u → ⊥) → trades_of (H ++ Trade v r ∷ []) u ≡ trades_of H u
trades_of_other H v r u d = trades_of_split H v r u ∙ rw (ne_eqb v u d) (append-nil (trades_of H u))

pub trades_of_more : (H : List Entry) (v : ℕ) (r : TradeRatio) (u : ℕ) → v ≡ u → trades_of (H ++ Trade v r ∷ []) u ≡ trades_of H u ++ record { user = v; ratio = r } ∷ []
trades_of_more H v r u e = trades_of_split H v r u ∙ rw (eq-eqb v u e) refl

-- gain and factor
gain_of : List ℕ → List UserTrade → ℕ
gain_of s ts = product_by (λ (t : UserTrade). ratio_at t.ratio s) ts

fraction_of : List ℕ → ℕ → ℕ → List UserTrade → Fraction
unfolding gain_of
fraction_of s ins outs ts = record { num = 2 ^ ins * gain_of s ts; den = 2 ^ outs * unit ^ length ts }

pub gain_traded : (H : List Entry) (v : ℕ) (r : TradeRatio) (u : ℕ) (s : List ℕ) → v ≡ u → gain (H ++ Trade v r ∷ []) u s ≡ gain H u s * ratio_at r s
unfolding gain_of
gain_traded H v r u s e = ap (gain_of s) (trades_of_more H v r u e) ∙ product_by_push (λ (t : UserTrade). ratio_at t.ratio s) (trades_of H u) (record { user = v; ratio = r })

pub trade_count_traded : (H : List Entry) (v : ℕ) (r : TradeRatio) (u : ℕ) → v ≡ u → trade_count (H ++ Trade v r ∷ []) u ≡ trade_count H u + 1
trade_count_traded H v r u e = ap length (trades_of_more H v r u e) ∙ length-append (trades_of H u) (record { user = v; ratio = r } ∷ [])

-- an entry that is no trade of the user, and moves no bits of the user's, leaves the user's factor
pub factor_kept : (H : List Entry) (e : Entry) (u : ℕ) (s : List ℕ) → trades_of (H ++ e ∷ []) u ≡ trades_of H u → bits_in u e ≡ 0 → bits_out u e ≡ 0
    → factor (H ++ e ∷ []) u s ≡ factor H u s
unfolding fraction_of
factor_kept H e u s t i o =
    ap (λ n. fraction_of s n (withdrawn (H ++ e ∷ []) u) (trades_of (H ++ e ∷ []) u)) (deposited_kept H e u i)
    ∙ ap (λ n. fraction_of s (deposited H u) n (trades_of (H ++ e ∷ []) u)) (withdrawn_kept H e u o)
    ∙ ap (fraction_of s (deposited H u) (withdrawn H u)) t

-- the factor after bits were moved
pub factor_moved : (H : List Entry) (e : Entry) (u : ℕ) (s : List ℕ) → trade_in e ≡ None
    → factor (H ++ e ∷ []) u s ≡ record { num = 2 ^ (deposited H u + bits_in u e) * gain H u s; den = 2 ^ (withdrawn H u + bits_out u e) * unit ^ trade_count H u }
unfolding fraction_of
factor_moved H e u s q =
    ap (λ n. fraction_of s n (withdrawn (H ++ e ∷ []) u) (trades_of (H ++ e ∷ []) u)) (deposited_more H e u)
    ∙ ap (λ n. fraction_of s (deposited H u + bits_in u e) n (trades_of (H ++ e ∷ []) u)) (withdrawn_more H e u)
    ∙ ap (fraction_of s (deposited H u + bits_in u e) (withdrawn H u + bits_out u e)) (trades_of_kept H e u q)

-- ---- payments

-- an entry puts its payments behind those before
pub payments_more : (H : List Entry) (e : Entry) → payments (H ++ e ∷ []) ≡ payments H ++ payments_in e
payments_more H e = flat_map-append payments_in H (e ∷ []) ∙ ap (λ (ps : List (ℕ × ℕ)). payments H ++ ps) (append-nil (payments_in e))

-- one that pays nothing leaves them
pub payments_kept : (H : List Entry) (e : Entry) → payments_in e ≡ [] → payments (H ++ e ∷ []) ≡ payments H
payments_kept H e none = payments_more H e ∙ ap (λ (ps : List (ℕ × ℕ)). payments H ++ ps) none ∙ append-nil (payments H)

unpaid_first : (e : Entry) (H : List Entry) → (is_settlement e || is_settled H) ≡ false → payments H ≡ [] → payments (e ∷ H) ≡ []
unpaid_first (Join name) H h none = none
unpaid_first (Deposit u bits) H h none = none
unpaid_first (Withdraw u bits) H h none = none
unpaid_first (Trade u r) H h none = none
unpaid_first (Resolve p) H h none = none
unpaid_first (Settle paid) H h none = absurd (cc)
unpaid_first (Add a) H h none = none

behind_unsettled : (e : Entry) (H : List Entry) → (is_settlement e || is_settled H) ≡ false → is_settled H ≡ false
behind_unsettled (Join name) H h = h
behind_unsettled (Deposit u bits) H h = h
behind_unsettled (Withdraw u bits) H h = h
behind_unsettled (Trade u r) H h = h
behind_unsettled (Resolve p) H h = h
behind_unsettled (Settle paid) H h = absurd (cc)
behind_unsettled (Add a) H h = h

-- before the settlement there are none
pub payments_before : (H : List Entry) → is_settled H ≡ false → payments H ≡ []
payments_before [] h = refl
payments_before (e ∷ H) h = unpaid_first e H h (payments_before H (behind_unsettled e H h))

-- and after one its own
pub payments_settled : (H : List Entry) (paid : List (ℕ × ℕ)) → is_settled H ≡ false → payments (H ++ Settle paid ∷ []) ≡ paid
payments_settled H paid before = payments_more H (Settle paid) ∙ ap (λ (ps : List (ℕ × ℕ)). ps ++ paid) (payments_before H before)
