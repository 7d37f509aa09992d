-- The tally of the values of a trade's variable.
use Rattle.std.proofs.Common.{◌≡◌, ℕ, zero, suc, ◌+◌, ◌*◌, ◌^◌, ◌≤◌, List, [], ◌∷◌, ◌++◌, sym, ap}
use Rattle.std.proofs.Common.{subst, ◌∙◌, arith, add-one, add-zero}
use Rattle.std.proofs.Math.Nat.{mul-le-mul, mul-le-mul_right, le_of_mul-le-mul_right}
use Rattle.std.specs.List.{range_with_len}
use Rattle.mk_net.specs.Asked.{TradeRatio}
use Rattle.mk_net.specs.Network.{Variable}
use Rattle.mk_exact.specs.History.{Entry}
use Rattle.mk_states.specs.States.{numbers_below, plus_over}
use Rattle.mk_states.proofs.Sums.{sums_are_plus, plus_over-append}
use Rattle.mk_expect.specs.declared.tally.Tally.{Tally}
use Rattle.mk_expect.specs.inner.Parts.{unit_bits, value_gained, value_owed, values_gained}
use Rattle.mk_expect.specs.inner.Parts.{values_owed}
use Rattle.mk_expect.specs.inner.Shares.{IsShare}
use Rattle.mk_expect.specs.inner.Tallies.{IsTally, IsWithin, IsThin, IsNarrow, no_tally, tally_sum}

-- a share at so many bits
pub share_times : (low high least most part whole l : ℕ) → IsShare (low, high) part whole
    → least ≤ l → l ≤ most
    → IsTally (record {
      least_gained = low * least;
      most_gained = high * most;
      least_owed = low * unit_bits;
      most_owed = high * unit_bits;
    }) whole (part * l) 0
    (part * unit_bits)
share_times low high least most part whole l s below above =
    let a : low * whole * least ≤ 2 ^ 34 * part * l = mul-le-mul s.below below in
    let b : 2 ^ 34 * part * l ≤ high * whole * most = mul-le-mul s.above above in
    let c : low * whole * unit_bits ≤ 2 ^ 34 * part * unit_bits = mul-le-mul_right unit_bits
    s.below in
    let d : 2 ^ 34 * part * unit_bits ≤ high * whole * unit_bits = mul-le-mul_right unit_bits
    s.above in
    record {
      least_gained = omega (arith, a);
      most_gained = omega (arith, b);
      least_owed = omega (arith, c);
      most_owed = omega (arith, d);
    }

-- ---- the values of a trade's variable

numbers_more : (a n j : ℕ) → a + n ≡ j → range_with_len a (suc n) ≡ range_with_len a n ++ j ∷ []
numbers_more a zero j e = let f : a ≡ j = omega arith in ap (λ x. x ∷ []) f
numbers_more a (suc n) j e = ap (λ xs. a ∷ xs) (numbers_more (a + 1) n j (omega arith))

-- one number more
over_more : (f : ℕ → ℕ) (n : ℕ) → plus_over ◌+◌ 0 f (numbers_below (n + 1))
    ≡ plus_over ◌+◌ 0 f (numbers_below n) + f n
over_more f n =
    ap (λ k. plus_over ◌+◌ 0 f (numbers_below k)) (add-one n)
    ∙ ap (plus_over ◌+◌ 0 f) (numbers_more 0 n n (omega arith))
    ∙ plus_over-append ◌+◌ 0 sums_are_plus f (numbers_below n) (n ∷ [])
    ∙ ap (λ k. plus_over ◌+◌ 0 f (numbers_below n) + k) (add-zero (f n))

-- two tallies together
pub tallies_add : (a b : Tally) (whole gained more rounding rest owed lost : ℕ)
    → IsTally a whole gained rounding owed → IsTally b whole more rest lost
    → IsTally (tally_sum a b) whole (gained + more) (rounding + rest) (owed + lost)
tallies_add a b whole gained more rounding rest owed lost h k = record {
  least_gained = let x = h.least_gained in let y = k.least_gained in omega (arith, x, y);
  most_gained = let x = h.most_gained in let y = k.most_gained in omega (arith, x, y);
  least_owed = let x = h.least_owed in let y = k.least_owed in omega (arith, x, y);
  most_owed = let x = h.most_owed in let y = k.most_owed in omega (arith, x, y);
}

pub withins_add : (a b : Tally) (gained more owed lost : ℕ) → IsWithin a gained owed
    → IsWithin b more lost → IsWithin (tally_sum a b) (gained + more) (owed + lost)
withins_add a b gained more owed lost h k = record {
  gained_in_order = omega (arith, h.gained_in_order, k.gained_in_order);
  owed_in_order = omega (arith, h.owed_in_order, k.owed_in_order);
  few_gained = omega (arith, h.few_gained, k.few_gained);
  few_owed = omega (arith, h.few_owed, k.few_owed);
}

pub thins_add : (a b : Tally) (n m : ℕ) → IsThin a n → IsThin b m → IsThin (tally_sum a b) (n + m)
thins_add a b n m h k = let x = h.thin in let y = k.thin in record { thin = omega (arith, x, y) }

pub narrows_add : (a b : Tally) (n m : ℕ) → IsNarrow a n → IsNarrow b m
    → IsNarrow (tally_sum a b) (n + m)
narrows_add a b n m h k = record { narrow = omega (arith, h.narrow, k.narrow) }

pub none_tallied : (whole : ℕ) → IsTally no_tally whole 0 0 0
none_tallied whole = record {
  least_gained = omega arith;
  most_gained = omega arith;
  least_owed = omega arith;
  most_owed = omega arith;
}

pub none_within : IsWithin no_tally 0 0
none_within = record {
  gained_in_order = omega arith;
  owed_in_order = omega arith;
  few_gained = omega arith;
  few_owed = omega arith;
}

pub none_thin : IsThin no_tally 0
none_thin = record { thin = omega arith }

pub within_same : (t : Tally) (gained owed more lost : ℕ) → IsWithin t gained owed
    → gained ≡ more → owed ≡ lost → IsWithin t more lost
within_same t gained owed more lost h e f = record {
  gained_in_order = h.gained_in_order;
  owed_in_order = h.owed_in_order;
  few_gained = omega (arith, h.few_gained, e);
  few_owed = omega (arith, h.few_owed, f);
}

-- the tally of one value more
pub value_more : (network : List Variable) (H : List Entry) (bits : ℕ → ℕ) (r : TradeRatio) (n : ℕ)
    (a b : Tally) (whole : ℕ)
    → IsTally a whole (values_gained network H bits r n) 0 (values_owed network H r n)
    → IsTally b whole (value_gained network H bits r n) 0 (value_owed network H r n)
    → IsTally (tally_sum a b) whole (values_gained network H bits r (n + 1)) 0
    (values_owed network H r (n + 1))
value_more network H bits r n a b whole h k =
    subst (λ m. IsTally (tally_sum a b) whole m 0 (values_owed network H r (n + 1)))
    (sym (over_more (value_gained network H bits r) n))
    (subst (λ m. IsTally (tally_sum a b) whole
    (values_gained network H bits r n + value_gained network H bits r n) 0 m)
    (sym (over_more (value_owed network H r) n))
    (tallies_add a b whole (values_gained network H bits r n) (value_gained network H bits r n) 0 0
    (values_owed network H r n) (value_owed network H r n) h k))

-- ---- a trade

-- a part more for what is not whole
abbrev pub rounded : Tally → Tally
rounded t = record {
  least_gained = t.least_gained;
  most_gained = t.most_gained + 2 ^ 34;
  least_owed = t.least_owed;
  most_owed = t.most_owed;
}

pub rounded_tally : (t : Tally) (whole gained owed : ℕ) → IsTally t whole gained 0 owed
    → IsTally (rounded t) whole gained whole owed
rounded_tally t whole gained owed h = record {
  least_gained = h.least_gained;
  most_gained = let x = h.most_gained in omega (arith, x);
  least_owed = h.least_owed;
  most_owed = h.most_owed;
}

pub rounded_narrow : (t : Tally) (whole gained owed : ℕ) → 1 ≤ whole
    → IsTally t whole gained 0 owed → owed ≤ unit_bits * whole → IsThin t 16
    → IsNarrow (rounded t) (2 ^ 36)
rounded_narrow t whole gained owed some h few thin =
    let x = h.least_owed in let y = thin.thin in
    let scaled : t.least_owed * whole ≤ 2 ^ 34 * unit_bits * whole = omega (arith, x, few) in
    let least : t.least_owed ≤ 2 ^ 34 * unit_bits =
    le_of_mul-le-mul_right {k = whole} scaled some in
    record { narrow = omega (arith, y, least) }
