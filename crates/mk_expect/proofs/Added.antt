-- What one entry of a user adds, and what many do.
use Rattle.std.proofs.Common.{◌≡◌, ℕ, ◌+◌, ◌*◌, ◌^◌, cond, eqb, List, [], ◌∷◌, ◌++◌}
use Rattle.std.proofs.Common.{length, refl, sym, subst, arith, eq-eqb}
use Rattle.std.proofs.Common.{ne_eqb}
use Rattle.std.proofs.lemmas.List.Sums.{sum_by_push}
use Rattle.mk_net.specs.Asked.{TradeRatio}
use Rattle.mk_net.specs.Network.{Variable}
use Rattle.mk_states.specs.Events.{always}
use Rattle.mk_exact.specs.History.{Entry, Deposit, Withdraw, Trade, bits_in}
use Rattle.mk_exact.specs.History.{bits_out}
use Rattle.mk_exact.specs.Weight.{total}
use Rattle.mk_history.specs.declared.entry.Entry.{Entry as Read}
use Rattle.mk_history.specs.Entries.{change_of}
use Rattle.mk_expect.specs.declared.tally.Tally.{Tally}
use Rattle.mk_expect.specs.inner.Parts.{values_gained, values_owed, entry_gained, entry_owed}
use Rattle.mk_expect.specs.inner.Parts.{own_trade}
use Rattle.mk_expect.specs.inner.Added.{AddsEntry, AddsEntries}
use Rattle.mk_expect.specs.inner.Tallies.{IsTally, IsWithin, IsNarrow, AddsUp, tally_sum}
use Rattle.mk_expect.specs.inner.Tallies.{no_tally}
use Rattle.mk_expect.proofs.Tallied.{tallies_add, withins_add, narrows_add, none_tallied}
use Rattle.mk_expect.proofs.Tallied.{none_within}

-- the same numbers by other names
tally_same : (t : Tally) (whole g g' r r' o o' : ℕ) → g ≡ g' → r ≡ r' → o ≡ o'
    → IsTally t whole g r o → IsTally t whole g' r' o'
tally_same t whole g g' r r' o o' a b c h = record {
  least_gained = let x = h.least_gained in omega (arith, x, a);
  most_gained = let x = h.most_gained in omega (arith, x, a, b);
  least_owed = let x = h.least_owed in omega (arith, x, c);
  most_owed = let x = h.most_owed in omega (arith, x, c);
}

within_same : (t : Tally) (g g' o o' : ℕ) → g ≡ g' → o ≡ o' → IsWithin t g o → IsWithin t g' o'
within_same t g g' o o' a b h = record {
  gained_in_order = h.gained_in_order;
  owed_in_order = h.owed_in_order;
  few_gained = omega (arith, h.few_gained, a);
  few_owed = omega (arith, h.few_owed, b);
}

adds_same : (t : Tally) (whole g g' o o' i w : ℕ) → g ≡ g' → o ≡ o' → AddsUp t whole g o i w 0
    → AddsUp t whole g' o' i w 0
adds_same t whole g g' o o' i w a b h =
    record {
      tally = tally_same t whole g g' _ _ o o' a refl b h.tally;
      within = h.within;
      narrow = h.narrow;
    }

module _ (network : List Variable) (H : List Entry) (bits : ℕ → ℕ) (u : ℕ) (t : Tally) where
  abbrev whole : ℕ
  whole = total network H always

  plus_none : (n : ℕ) → n ≡ n + 0
  plus_none n = omega arith

  none_plus : (z n : ℕ) → n ≡ z * (0 * 2 ^ 20) + n
  none_plus z n = omega arith

  -- what is read of a history adds what the change that it is adds
  pub adds_as : {given e : Read} → given ≡ e → AddsEntry network H bits u (change_of e) t
      → AddsEntry network H bits u (change_of given) t
  adds_as is adds = subst (λ (x : Read). AddsEntry network H bits u (change_of x) t) (sym is) adds

  -- a transfer, by the bits of it that are the user's
  pub deposit_adds : (v n : ℕ) {own : ℕ} → own ≡ cond (eqb v u) n 0
      → AddsUp t whole (whole * (own * 2 ^ 20)) (whole * (0 * 2 ^ 20)) own 0 0
      → AddsEntry network H bits u (Deposit v n) t
  deposit_adds v n is h =
      adds_same t whole _ _ _ _ _ _ (plus_none _) (plus_none _)
      (subst (λ (k : ℕ). AddsUp t whole (whole * (k * 2 ^ 20)) (whole * (0 * 2 ^ 20)) k 0 0) is h)

  pub withdrawal_adds : (v n : ℕ) {own : ℕ} → own ≡ cond (eqb v u) n 0
      → AddsUp t whole (whole * (0 * 2 ^ 20)) (whole * (own * 2 ^ 20)) 0 own 0
      → AddsEntry network H bits u (Withdraw v n) t
  withdrawal_adds v n is h =
      adds_same t whole _ _ _ _ _ _ (plus_none _) (plus_none _)
      (subst (λ (k : ℕ). AddsUp t whole (whole * (0 * 2 ^ 20)) (whole * (k * 2 ^ 20)) 0 k 0) is h)

  -- an entry that moves nothing of the user's
  abbrev AddsNothing : Type 0
  AddsNothing = AddsUp t whole (whole * (0 * 2 ^ 20)) (whole * (0 * 2 ^ 20)) 0 0 0

  pub other_adds : (v : ℕ) (r : TradeRatio) → (v ≡ u → ⊥) → AddsNothing
      → AddsEntry network H bits u (Trade v r) t
  other_adds v r other h =
      let e = ne_eqb v u other in
      rw e (adds_same t whole _ _ _ _ _ _ (plus_none _) (plus_none _) h)

  pub nothing_adds : AddsNothing → AddsUp t whole (whole * (0 * 2 ^ 20) + 0)
      (whole * (0 * 2 ^ 20) + 0) 0 0 0
  nothing_adds = adds_same t whole _ _ _ _ _ _ (plus_none _) (plus_none _)

  -- a trade of the user's own
  pub own_adds : (v : ℕ) (r : TradeRatio) → v ≡ u
      → IsTally t whole (values_gained network H bits r (length r.factors)) whole
      (values_owed network H r (length r.factors))
      → IsWithin t (2 ^ 65) (2 ^ 65) → IsNarrow t (2 ^ 36)
      → AddsEntry network H bits u (Trade v r) t
  own_adds v r own tally within narrow =
      let e = eq-eqb v u own in
      rw e (record {
        tally = tally_same t whole _ _ whole (1 * whole) _ _ (none_plus whole _) (omega arith)
            (none_plus whole _) tally;
        within = within_same t (2 ^ 65) _ (2 ^ 65) _ (omega arith) (omega arith) within;
        narrow = narrow;
      })

-- ---- many

-- one entry more
pub adds_more : (network : List Variable) (H : List Entry) (bits : ℕ → ℕ) (u : ℕ)
    (es : List Entry) (e : Entry) (a b : Tally) → AddsEntries network H bits u es a
    → AddsEntry network H bits u e b → AddsEntries network H bits u (es ++ e ∷ []) (tally_sum a b)
adds_more network H bits u es e a b h k =
    let g = sum_by_push (entry_gained network H bits u) es e in
    let o = sum_by_push (entry_owed network H u) es e in
    let i = sum_by_push (bits_in u) es e in
    let w = sum_by_push (bits_out u) es e in
    let n = sum_by_push (own_trade u) es e in
    record {
      tally = tally_same (tally_sum a b) (total network H always) _ _ _ _ _ _ (sym g)
          (times (total network H always) _ _ _ n) (sym o)
          (tallies_add a b _ _ _ _ _ _ _ h.tally k.tally);
      within = within_same (tally_sum a b) _ _ _ _ (weighed _ _ _ _ _ _ i n)
          (weighed _ _ _ _ _ _ w n) (withins_add a b _ _ _ _ h.within k.within);
      narrow = record {
        narrow = (let x = (narrows_add a b _ _ h.narrow k.narrow).narrow in
            omega (arith, x, n));
      };
    }
  where
    times : (z n m k : ℕ) → k ≡ n + m → n * z + m * z ≡ k * z
    times z n m k e = rw e (omega arith)

    weighed : (i j k n m l : ℕ) → k ≡ i + j → l ≡ n + m
        → 2 ^ 54 * i + 2 ^ 65 * n + (2 ^ 54 * j + 2 ^ 65 * m) ≡ 2 ^ 54 * k + 2 ^ 65 * l
    weighed i j k n m l e f = omega (arith, e, f)

pub none_add : (network : List Variable) (H : List Entry) (bits : ℕ → ℕ) (u : ℕ)
    → AddsEntries network H bits u [] no_tally
none_add network H bits u = record {
  tally = tally_same no_tally (total network H always) 0 0 0 (0 * total network H always) 0 0 refl
      (omega arith) refl (none_tallied (total network H always));
  within = none_within;
  narrow = record { narrow = omega arith };
}
