-- What all users are due follows a history entry by entry.
use Rattle.std.proofs.Common.{◌≡◌, ◌≢◌, ℕ, ◌+◌, ◌*◌, ◌<◌, ◌≤◌, Bool, true, false, cond}
use Rattle.std.proofs.Common.{◌⊎◌, inl, inr, eqb, List, [], ◌∷◌, ◌++◌, map, length, get_or, set}
use Rattle.std.proofs.Common.{refl, sym, ap, subst, ◌∙◌, arith, eq-eqb, ne_eqb, length-append}
use Rattle.std.proofs.Common.{sum_by}
use Rattle.std.specs.List.{AllByRecursion, count_by}
use Rattle.std.proofs.Math.Path.{fun_ext}
use Rattle.std.proofs.Math.Nat.{mul-le-mul_left}
use Rattle.std.proofs.lemmas.Bool.{cases_eq}
use Rattle.std.proofs.lemmas.List.{ext_get_or, get_or-set_same, get_or-set_other, length-set}
use Rattle.std.proofs.lemmas.List.Elements.{filter_map-append}
use Rattle.std.proofs.lemmas.List.FromFn.{length-map-range_with_len, get_or-map-range_with_len}
use Rattle.std.proofs.lemmas.List.Sums.{sum_by-cons}
use Rattle.mk_net.specs.Bounds.{max_transfers, number_limit}
use Rattle.mk_states.specs.States.{numbers_below}
use Rattle.mk_states.specs.Ratios.{ratio_at}
use Rattle.mk_exact.specs.History.{Entry, UserTrade, Join, Deposit, Withdraw, Trade, Resolve}
use Rattle.mk_exact.specs.History.{Settle, Add, bits_in, bits_out, is_transfer, trade_in, users}
use Rattle.mk_exact.specs.History.{trades, deposited, withdrawn}
use Rattle.mk_exact.specs.Factors.{trade_count}
use Rattle.mk_exact.specs.Proper.{IsTradeOf}
use Rattle.mk_exact.proofs.Positive.{ratio_pos}
use Rattle.mk_cash.specs.Dues.{DueOf, no_due, due_of, due_after, due_traded, due_deposited}
use Rattle.mk_cash.specs.Dues.{due_withdrawn}
use Rattle.mk_cash.proofs.Dues.{dues_grow}
use Rattle.mk_cash.proofs.Payments.{kept_length, ratio_below, bits_at_most}
use Rattle.mk_rules.specs.Bounded.{FitsTransfer}
use Rattle.mk_replay.specs.ByRule.{CanBePaid}
use Rattle.mk_replay.proofs.Replayed.{all_back, sum_through}
use Rattle.mk_replay.specs.inner.Dues.{dues_of, due_at, dues_after, CanMove, CanTakeDue}

-- ---- one user's place in a list

module _ (joined : ℕ) (s : List ℕ) (H : List Entry) where
  pub dues_count : length (dues_of joined s H) ≡ joined
  dues_count = length-map-range_with_len (λ u. due_of H u s) 0 joined

  pub due_there : (u : ℕ) → u < joined → due_at (dues_of joined s H) u ≡ due_of H u s
  due_there u within =
      get_or-map-range_with_len (λ u. due_of H u s) 0 joined u u no_due within (omega arith)

-- one place is written
set_place : (f g : ℕ → DueOf) (n u : ℕ) (x : DueOf) → u < n
    → ((v : ℕ) → u ≢ v → g v ≡ f v) → g u ≡ x
    → set (map f (numbers_below n)) u x ≡ map g (numbers_below n)
set_place f g n u x within others here =
    ext_get_or no_due (set (map f (numbers_below n)) u x) (map g (numbers_below n))
    (length-set (map f (numbers_below n)) u x ∙ count f ∙ sym (count g))
    (λ i inside. at i (omega (arith, inside, length-set (map f (numbers_below n)) u x, count f))
    (cases_eq u i))
  where
    count : (h : ℕ → DueOf) → length (map h (numbers_below n)) ≡ n
    count h = length-map-range_with_len h 0 n

    value : (h : ℕ → DueOf) (i : ℕ) → i < n → get_or (map h (numbers_below n)) i no_due ≡ h i
    value h i inside = get_or-map-range_with_len h 0 n i i no_due inside (omega arith)

    at : (i : ℕ) → i < n → ((u ≡ i) ⊎ (u ≢ i))
        → get_or (set (map f (numbers_below n)) u x) i no_due
        ≡ get_or (map g (numbers_below n)) i no_due
    at i inside (inl e) =
        ap (λ k. get_or (set (map f (numbers_below n)) u x) k no_due) (sym e)
        ∙ get_or-set_same (map f (numbers_below n)) u x no_due (omega (arith, count f))
        ∙ sym here ∙ ap g e ∙ sym (value g i inside)
    at i inside (inr d) =
        get_or-set_other (map f (numbers_below n)) u i x no_due (λ e. d (sym e))
        ∙ value f i inside ∙ sym (others i d) ∙ sym (value g i inside)

-- ---- one more entry

module _ (joined : ℕ) (s : List ℕ) (H : List Entry) where
  abbrev here : ℕ → DueOf
  here v = due_of H v s

  -- an entry of a user
  own : (e : Entry) (u : ℕ) (change : DueOf → DueOf) → u < joined
      → ((v : ℕ) → due_after v s e (here v) ≡ cond (eqb u v) (change (here v)) (here v))
      → set (dues_of joined s H) u (change (due_at (dues_of joined s H) u))
      ≡ dues_of joined s (H ++ e ∷ [])
  own e u change within is =
      set_place here (λ v. due_of (H ++ e ∷ []) v s) joined u
      (change (due_at (dues_of joined s H) u)) within
      (λ v other. grown v ∙ ap (λ (b : Bool). cond b (change (here v)) (here v)) (ne_eqb u v other))
      (grown u ∙ ap (λ (b : Bool). cond b (change (here u)) (here u)) (eq-eqb u u refl)
      ∙ ap change (sym (due_there joined s H u within)))
    where
      grown : (v : ℕ) → due_of (H ++ e ∷ []) v s ≡ cond (eqb u v) (change (here v)) (here v)
      grown v = dues_grow H v s e ∙ is v

  -- an entry of nobody
  none : (e : Entry) → ((v : ℕ) → due_after v s e (here v) ≡ here v)
      → dues_of joined s H ≡ dues_of joined s (H ++ e ∷ [])
  none e is =
      ap (λ (f : ℕ → DueOf). map f (numbers_below joined))
      (fun_ext (λ v. sym (dues_grow H v s e ∙ is v)))

  pub dues_more : (e : Entry) → CanTakeDue s e (dues_of joined s H)
      → dues_after s e (dues_of joined s H) ≡ dues_of joined s (H ++ e ∷ [])
  dues_more (Join name) can = none (Join name) (λ v. refl)
  dues_more (Deposit u bits) can =
      own (Deposit u bits) u (due_deposited bits)
      (omega (arith, can.user, dues_count joined s H)) (λ v. refl)
  dues_more (Withdraw u bits) can =
      own (Withdraw u bits) u (due_withdrawn bits)
      (omega (arith, can.user, dues_count joined s H)) (λ v. refl)
  dues_more (Trade u ratio) can =
      own (Trade u ratio) u (due_traded (ratio_at ratio s))
      (omega (arith, can.user, dues_count joined s H)) (λ v. refl)
  dues_more (Resolve pair) can = none (Resolve pair) (λ v. refl)
  dues_more (Settle payments) can = none (Settle payments) (λ v. refl)
  dues_more (Add addition) can = none (Add addition) (λ v. refl)

-- ---- there is room for it

-- the bits that a user takes out
bits_out_at_most : (joined u : ℕ) (H : List Entry) → AllByRecursion (FitsTransfer joined) H
    → withdrawn H u ≤ 1000 * count_by is_transfer H
bits_out_at_most joined u [] h = omega arith
bits_out_at_most joined u (e ∷ H) h = omega (
  arith,
  at e h.0,
  bits_out_at_most joined u H h.1,
  sum_by-cons (bits_out u) e H,
  sum_by-cons (λ x. cond (is_transfer x) 1 0) e H,
)
  where
    own_bits : (b : Bool) (bits : ℕ) → bits ≤ 1000 → cond b bits 0 ≤ 1000 * 1
    own_bits true bits few = omega arith
    own_bits false bits few = omega arith

    at : (e : Entry) → FitsTransfer joined e → bits_out u e ≤ 1000 * cond (is_transfer e) 1 0
    at (Join name) fits = omega arith
    at (Deposit v bits) fits = omega arith
    at (Withdraw v bits) fits = own_bits (eqb v u) bits fits.few
    at (Trade v r) fits = omega arith
    at (Resolve p) fits = omega arith
    at (Settle payments) fits = omega arith
    at (Add a) fits = omega arith

module _ (front rest : List Entry) (s : List ℕ) where
  abbrev whole : Entry → List Entry
  whole e = front ++ e ∷ rest

  abbrev count : Entry → ℕ
  count e = length (users (whole e))

  -- the entry itself can be a transfer
  fits_here : (e : Entry) → CanBePaid (whole e) s → FitsTransfer (count e) e
  fits_here e can =
      (all_back (FitsTransfer (count e)) front (e ∷ rest) can.transfers_fit).0

  -- what an entry moves, with what was moved before, is within what all transfers can
  moved_here : (f : Entry → ℕ) (e : Entry) → CanBePaid (whole e) s
      → sum_by f (whole e) ≤ 1000 * count_by is_transfer (whole e)
      → sum_by f front + f e ≤ 1000 * max_transfers
  moved_here f e can most =
      let few : 1000 * count_by is_transfer (whole e) ≤ 1000 * max_transfers =
      mul-le-mul_left 1000 can.within.few_transfers in
      omega (arith, sum_through f front rest e (1000 * count_by is_transfer (whole e)) most, few)

  paid_in : (e : Entry) (u : ℕ) → CanBePaid (whole e) s
      → deposited front u + bits_in u e ≤ 1000 * max_transfers
  paid_in e u can = moved_here (bits_in u) e can (bits_at_most u (whole e) can.within.few_bits)

  taken_out : (e : Entry) (u : ℕ) → CanBePaid (whole e) s
      → withdrawn front u + bits_out u e ≤ 1000 * max_transfers
  taken_out e u can =
      moved_here (bits_out u) e can (bits_out_at_most (count e) u (whole e) can.transfers_fit)

  -- so its user can move them
  can_move : (n u bits own before due : ℕ) → u < n → own ≡ bits → due ≡ before
      → before + own ≤ 1000 * max_transfers → CanMove bits (length (dues_of n s front)) u due
  can_move n u bits own before due within same there room = record {
    user = omega (arith, within, dues_count n s front);
    room = omega (arith, room, same, there);
  }

  pub can_take_here : (e : Entry) → CanBePaid (whole e) s
      → CanTakeDue s e (dues_of (count e) s front)
  can_take_here (Join name) can = tt
  can_take_here (Deposit u bits) can =
      let e = Deposit u bits in let within = (fits_here (Deposit u bits) can).user in
      can_move (count e) u bits (bits_in u e) (deposited front u) _ within
      (rw (eq-eqb u u refl) refl)
      (ap (λ (d : DueOf). d.deposited) (due_there (count e) s front u within)) (paid_in e u can)
  can_take_here (Withdraw u bits) can =
      let e = Withdraw u bits in let within = (fits_here (Withdraw u bits) can).user in
      can_move (count e) u bits (bits_out u e) (withdrawn front u) _ within
      (rw (eq-eqb u u refl) refl)
      (ap (λ (d : DueOf). d.withdrawn) (due_there (count e) s front u within)) (taken_out e u can)
  can_take_here (Trade u ratio) can =
      let e = Trade u ratio in
      let n = count e in
      let t : UserTrade = record { user = u; ratio = ratio } in
      let made : trades (whole e) ≡ trades front ++ t ∷ trades rest =
      filter_map-append trade_in front (e ∷ rest) in
      let fit = all_back (IsTradeOf can.network n) (trades front) (t ∷ trades rest)
      (subst (λ (ts : List UserTrade). AllByRecursion (IsTradeOf can.network n) ts) made
      can.proper.trades_fit) in
      let small = all_back (λ (t : UserTrade). AllByRecursion (λ n. n < number_limit) t.ratio.factors)
      (trades front) (t ∷ trades rest)
      (subst (λ (ts : List UserTrade). AllByRecursion
      (λ (t : UserTrade). AllByRecursion (λ n. n < number_limit) t.ratio.factors) ts) made
      can.within.units_fit) in
      let own : trade_count front u ≤ length (trades front) =
      kept_length (λ (t : UserTrade). eqb t.user u) (trades front) in
      let all : length (trades (whole e)) ≡ length (trades front) + length (t ∷ trades rest) =
      ap length made ∙ length-append (trades front) (t ∷ trades rest) in
      let there = ap (λ (d : DueOf). d.trades) (due_there n s front u fit.0.user) in
      record {
        user = omega (arith, fit.0.user, dues_count n s front);
        some = ratio_pos can.network n s can.is_state t fit.0;
        fits = ratio_below ratio s small.0;
        room = omega (arith, own, all, there, can.within.few_trades);
      }
  can_take_here (Resolve pair) can = tt
  can_take_here (Settle payments) can = tt
  can_take_here (Add addition) can = tt
