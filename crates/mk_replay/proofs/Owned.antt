-- One user's assets take a history entry by entry.
use Rattle.std.proofs.Common.{◌≡◌, ℕ, ◌+◌, ◌≤◌, Bool, true, false, cond, eqb, List, []}
use Rattle.std.proofs.Common.{◌∷◌, ◌++◌, take, drop, refl, sym, ap, ap₂, subst, ◌∙◌}
use Rattle.std.proofs.Common.{arith, add-zero, eq-eqb}
use Rattle.mk_net.specs.Network.{Variable}
use Rattle.mk_exact.specs.History as history
use Rattle.mk_exact.specs.History.{bits_in, bits_out, deposited, withdrawn}
use Rattle.mk_exact.proofs.After.{deposited_more, withdrawn_more}
use Rattle.mk_tree.specs.Given.{GivenTree}
use Rattle.mk_engine.specs.Meaning.{Meaning, RatioOf, with_factor, with_known}
use Rattle.mk_beliefs.specs.Meanings.{gains_of, grown_for}
use Rattle.mk_beliefs.proofs.Grown.{gains_grow, opening_is_rows}
use Rattle.mk_assets.specs.declared.assets.Assets.{Assets}
use Rattle.mk_assets.specs.Holdings.{Holding, Holds, max_bits, opening_holding}
use Rattle.mk_answers.specs.Open.{holding_of}
use Rattle.mk_replay.specs.inner.Taking.{HasRoomFor, grown_holding}
use Rattle.mk_replay.proofs.Replayed.{around, sum_through}

abbrev holding : Meaning → ℕ → ℕ → Holding
holding m ins outs = record { meaning = m; deposited = ins; withdrawn = outs }

module _ (u : ℕ) (m : Meaning) (ins outs : ℕ) where
  nothing_moved : (n : Meaning) → holding n (ins + 0) (outs + 0) ≡ holding n ins outs
  nothing_moved n = ap₂ (holding n) (add-zero ins) (add-zero outs)

  -- what an entry adds to each part of a holding
  parts_grow : (e : history.Entry)
      → holding (grown_for u e m) (ins + bits_in u e) (outs + bits_out u e)
      ≡ grown_holding u e (holding m ins outs)
  parts_grow (history.Join name) = nothing_moved m
  parts_grow (history.Deposit user bits) = at (eqb user u)
    where
      at : (b : Bool) → holding m (ins + cond b bits 0) (outs + 0)
          ≡ cond b (holding m (ins + bits) outs) (holding m ins outs)
      at true = ap (holding m (ins + bits)) (add-zero outs)
      at false = nothing_moved m
  parts_grow (history.Withdraw user bits) = at (eqb user u)
    where
      at : (b : Bool) → holding m (ins + 0) (outs + cond b bits 0)
          ≡ cond b (holding m ins (outs + bits)) (holding m ins outs)
      at true = ap (λ (n : ℕ). holding m n (outs + bits)) (add-zero ins)
      at false = nothing_moved m
  parts_grow (history.Trade user ratio) = at (eqb user u)
    where
      at : (b : Bool) → holding (cond b (with_factor (RatioOf ratio) m) m) (ins + 0) (outs + 0)
          ≡ cond b (holding (with_factor (RatioOf ratio) m) ins outs) (holding m ins outs)
      at true = nothing_moved (with_factor (RatioOf ratio) m)
      at false = nothing_moved m
  parts_grow (history.Resolve pair) = nothing_moved (with_known pair m)
  parts_grow (history.Settle payments) = nothing_moved m
  parts_grow (history.Add addition) = nothing_moved m

module _ (network : List Variable) (tree : GivenTree) (u : ℕ) where
  holding_grows : (H : List history.Entry) (e : history.Entry)
      → holding_of network tree (H ++ e ∷ []) u ≡ grown_holding u e (holding_of network tree H u)
  holding_grows H e =
      ap₂ (holding (gains_of network tree (H ++ e ∷ []) u)) (deposited_more H e u)
      (withdrawn_more H e u)
      ∙ ap (λ (m : Meaning). holding m (deposited H u + bits_in u e) (withdrawn H u + bits_out u e))
      (gains_grow network tree H u e)
      ∙ parts_grow u (gains_of network tree H u) (deposited H u) (withdrawn H u) e

  -- what a whole history moves leaves room for each entry of it
  room_here : (front rest : List history.Entry) (e : history.Entry)
      → deposited (front ++ e ∷ rest) u ≤ max_bits → withdrawn (front ++ e ∷ rest) u ≤ max_bits
      → HasRoomFor u e (holding_of network tree front u)
  room_here front rest (history.Join name) few_in few_out = tt
  room_here front rest (history.Deposit user bits) few_in few_out = λ same.
      let e = history.Deposit user bits in
      let own : bits_in u e ≡ bits = rw (eq-eqb user u same) refl in
      omega (arith, own, sum_through (bits_in u) front rest e max_bits few_in)
  room_here front rest (history.Withdraw user bits) few_in few_out = λ same.
      let e = history.Withdraw user bits in
      let own : bits_out u e ≡ bits = rw (eq-eqb user u same) refl in
      omega (arith, own, sum_through (bits_out u) front rest e max_bits few_out)
  room_here front rest (history.Trade user ratio) few_in few_out = tt
  room_here front rest (history.Resolve pair) few_in few_out = tt
  room_here front rest (history.Settle payments) few_in few_out = tt
  room_here front rest (history.Add addition) few_in few_out = tt

  module _ (H : List history.Entry) (e : history.Entry) (i : ℕ)
      (next : take (i + 1) H ≡ take i H ++ e ∷ []) where
    pub has_room : deposited H u ≤ max_bits → withdrawn H u ≤ max_bits
        → HasRoomFor u e (holding_of network tree (take i H) u)
    has_room few_in few_out =
        let whole = around H e i next in
        room_here (take i H) (drop (i + 1) H) e
        (subst (λ (H : List history.Entry). deposited H u ≤ max_bits) whole few_in)
        (subst (λ (H : List history.Entry). withdrawn H u ≤ max_bits) whole few_out)

    -- one more entry is taken
    pub held_one : {E P : Type 0} (stands_for : E → Meaning → Type 0) (assets : Assets E P)
        → Holds stands_for assets (grown_holding u e (holding_of network tree (take i H) u))
        → Holds stands_for assets (holding_of network tree (take (i + 1) H) u)
    held_one stands_for assets h =
        subst (Holds stands_for assets)
        (sym (holding_grows (take i H) e)
        ∙ ap (λ (H : List history.Entry). holding_of network tree H u) (sym next)) h

-- before any entry a user holds the support of each variable, and no bits
pub held_none : (network : List Variable) (tree : GivenTree) (u : ℕ)
    → opening_holding network tree [] ≡ holding_of network tree [] u
held_none network tree u = ap (λ (m : Meaning). holding m 0 0)
    (sym ((opening_is_rows network tree u).1))
