-- A settlement lists its payments, or these are those by rule; what each user is paid then.
use Rattle.std.proofs.Common.{◌≡◌, ℕ, zero, suc, ◌+◌, ◌<◌, ◌≤◌, ◌⊎◌, inl, inr, Bool, true, false, ◌||◌, ◌&&◌, filter, List, [], ◌∷◌, ◌++◌, Some, option_map, map, length, refl, sym, ap, ◌∙◌, subst, arith}
use Rattle.std.specs.Prelude.{slice_get}
use Rattle.std.specs.List.{AllZip, enumerate_from}
use Rattle.std.proofs.lemmas.Bool.{cases_lt}
use Rattle.std.proofs.lemmas.List.FromFn.{get_or-range_with_len, length-range_with_len}
use Rattle.std.proofs.lemmas.Option.{slice_get-map, slice_get-get_or}
use Rattle.mk_net.specs.Bounds.{max_payments}
use Rattle.mk_net.specs.declared.words.Pair.{Pair}
use Rattle.mk_net.specs.Network.{Variable}
use Rattle.mk_states.specs.States.{numbers_below}
use Rattle.mk_states.specs.InitialWeight.{all_states}
use Rattle.mk_states.specs.Events.{always, holds}
use Rattle.mk_exact.specs.History.{Entry, Settle as Settles, users, is_settlement, is_settled, or_nothing}
use Rattle.mk_exact.specs.Weight.{possible_states}
use Rattle.mk_exact.specs.Factors.{Fraction, factor}
use Rattle.mk_exact.specs.Cash.{IsCashBetween}
use Rattle.mk_exact.specs.ByRule.{payment_by_rule, first_state, payments_by_rule}
use Rattle.mk_exact.specs.Market.{Market}
use Rattle.mk_exact.proofs.After.{users_kept, resolutions_kept, trades_of_kept, factor_kept, payments_settled}
use Rattle.mk_cash.proofs.Payments.{payment_by_rule_is_between}
use Rattle.mk_reply.specs.declared.payments.Payment.{Payment}
use Rattle.mk_reply.specs.declared.reply.Reply.{Reply}
use Rattle.mk_rules.specs.Answers.{IsPayment, IsSettlement, IsSettling, settled_by_rule, ends_of}
use Rattle.mk_rules.specs.Standings.{ArePaidOff, Stands}

-- either way of a settlement
abbrev pub SettlingIs : Market → List Entry → Reply → Type 0
SettlingIs market H reply =
    ((length (users H) ≤ max_payments)
    × IsSettlement market.network H market.max_trades market.points_per_bit reply)
    ⊎ ((max_payments < length (users H)) × (reply ≡ settled_by_rule market H))

pub settling_is : (market : Market) (H : List Entry) (reply : Reply) → IsSettling market H reply → SettlingIs market H reply
settling_is market H reply h = at (cases_lt max_payments (length (users H)))
  where
    at : (max_payments < length (users H)) ⊎ (length (users H) ≤ max_payments) → SettlingIs market H reply
    at (inl many) = inr (many, h.summed many)
    at (inr few) = inl (few, h.listed few)

-- ---- the payment to one user among some

-- in a list of payments to users who are counted from n on
listed_to : (network : List Variable) (H : List Entry) (m b : ℕ) (s : List ℕ) (n : ℕ)
    (names : List (List ℕ)) (listed : List Payment)
    → AllZip (IsPayment network H m b s) (enumerate_from n names) listed
    → (k u : ℕ) → n + k ≡ u → k < length names
    → IsCashBetween (factor H u s) b (or_nothing (slice_get (map ends_of listed) k)).0 (or_nothing (slice_get (map ends_of listed) k)).1
listed_to network H m b s n [] listed h k u e inside = absurd (omega arith)
listed_to network H m b s n (name ∷ names) [] h k u e inside = absurd h
listed_to network H m b s n (name ∷ names) (payment ∷ listed) h zero u e inside =
    let same : n ≡ u = omega arith in
    subst (λ (v : ℕ). IsCashBetween (factor H v s) b payment.low payment.high) same
    (record { cash = h.0.covers.cash; is_cash = h.0.covers.is_cash; above = h.0.covers.above; below = h.0.covers.below })
listed_to network H m b s n (name ∷ names) (payment ∷ listed) h (suc k) u e inside =
    listed_to network H m b s (n + 1) names listed h.1 k u (omega arith) (omega arith)

-- among the payments by rule
by_rule_to : (H : List Entry) (b : ℕ) (s : List ℕ) (n u : ℕ) → u < n
    → or_nothing (slice_get (map (payment_by_rule H b s) (numbers_below n)) u) ≡ payment_by_rule H b s u
by_rule_to H b s n u inside =
    ap or_nothing (slice_get-map (payment_by_rule H b s) (numbers_below n) u
    ∙ ap (option_map (payment_by_rule H b s))
    (slice_get-get_or (numbers_below n) u 0 (omega (arith, length-range_with_len 0 n)) ∙ ap Some (get_or-range_with_len 0 n u 0 inside ∙ omega arith)))

-- ---- what stands behind a settlement

pub settled_behind : (H : List Entry) (paid : List (ℕ × ℕ)) → is_settled (H ++ Settles paid ∷ []) ≡ true
settled_behind [] paid = refl
settled_behind (e ∷ H) paid = at (is_settlement e) (settled_behind H paid)
  where
    at : (b : Bool) → is_settled (H ++ Settles paid ∷ []) ≡ true → (b || is_settled (H ++ Settles paid ∷ [])) ≡ true
    at true h = refl
    at false h = h

-- payments to all users, behind a history without any
abbrev Between : Market → List Entry → List ℕ → List (ℕ × ℕ) → Type 0
Between market H s paid = (u : ℕ) → u < length (users H)
    → IsCashBetween (factor H u s) market.points_per_bit (or_nothing (slice_get paid u)).0 (or_nothing (slice_get paid u)).1

paid_off_behind : (market : Market) (H : List Entry) (s : List ℕ) (paid : List (ℕ × ℕ)) → is_settled H ≡ false
    → possible_states market.network H always ≡ s ∷ [] → Between market H s paid → ArePaidOff market (H ++ Settles paid ∷ [])
paid_off_behind market H s paid before one between =
    let e = Settles paid in
    record {
      state = s;
      one_state = ap (λ (ps : List Pair). filter (λ t. holds ps t && always t) (all_states market.network)) (resolutions_kept H e refl) ∙ one;
      each = λ u inside.
          let joined : u < length (users H) = subst (λ (names : List (List ℕ)). u < length names) (users_kept H e refl) inside in
          subst (λ (ends : ℕ × ℕ). IsCashBetween (factor (H ++ e ∷ []) u s) market.points_per_bit ends.0 ends.1)
          (sym (ap (λ (ps : List (ℕ × ℕ)). or_nothing (slice_get ps u)) (payments_settled H paid before)))
          (subst (λ (q : Fraction). IsCashBetween q market.points_per_bit (or_nothing (slice_get paid u)).0 (or_nothing (slice_get paid u)).1)
          (sym (factor_kept H e u s (trades_of_kept H e u refl) refl refl)) (between u joined));
    }

-- the payments that a settlement lists
pub listed_pays_off : (market : Market) (H : List Entry) (reply : Reply)
    (listed : IsSettlement market.network H market.max_trades market.points_per_bit reply)
    → is_settled H ≡ false → ArePaidOff market (H ++ Settles (map ends_of listed.payments) ∷ [])
listed_pays_off market H reply listed before =
    paid_off_behind market H listed.state (map ends_of listed.payments) before listed.one_state
    (λ u inside. listed_to market.network H market.max_trades market.points_per_bit listed.state 0
    (users H) listed.payments listed.paid u u (omega arith) inside)

-- the payments by rule, where one state is left
pub rule_pays_off : (market : Market) (H : List Entry) (s : List ℕ) → Stands market H → is_settled H ≡ false
    → possible_states market.network H always ≡ s ∷ []
    → ArePaidOff market (H ++ Settles (payments_by_rule market.network H market.points_per_bit) ∷ [])
rule_pays_off market H s stands before one =
    paid_off_behind market H s (payments_by_rule market.network H market.points_per_bit) before one
    (λ u inside.
    subst (λ (ends : ℕ × ℕ). IsCashBetween (factor H u s) market.points_per_bit ends.0 ends.1)
    (sym (ap (λ (t : List ℕ). or_nothing (slice_get (map (payment_by_rule H market.points_per_bit t) (numbers_below (length (users H)))) u)) (ap first_state one)
    ∙ by_rule_to H market.points_per_bit s (length (users H)) u inside))
    (payment_by_rule_is_between market.network H market.points_per_bit s u stands.proper stands.sound stands.legal.some_points one))
