-- Two networks of one list of sizes have the same pairs and ratios.
use Rattle.std.proofs.Common.{◌≡◌, ℕ, ◌<◌, List, length, slice_index, ap, subst, ◌∙◌, arith}
use Rattle.mk_net.specs.declared.words.Pair.{Pair}
use Rattle.mk_net.specs.Network.{Variable, sizes}
use Rattle.mk_net.specs.Asked.{TradeRatio}
use Rattle.mk_states.specs.OfNetwork.{IsPairOf, IsRatioOf}
use Rattle.mk_states.proofs.Sums.{each_weaker}
use Rattle.mk_states.proofs.Listed.{as_many}

module _ (a b : List Variable) (same : sizes a ≡ sizes b) where
  pub pair_same : (p : Pair) → IsPairOf a p → IsPairOf b p
  pair_same p h = record {
    variable = let l = ap (λ (ns : List ℕ). length ns) same in omega
        (arith, h.variable, l, as_many a, as_many b);
    value = subst (λ (ns : List ℕ). p.value < slice_index ns p.variable) same h.value;
  }

  pub ratio_same : (ratio : TradeRatio) → IsRatioOf a ratio → IsRatioOf b ratio
  ratio_same ratio h = record {
    variable = let l = ap (λ (ns : List ℕ). length ns) same in omega
        (arith, h.variable, l, as_many a, as_many b);
    condition = each_weaker (IsPairOf a) (IsPairOf b) pair_same ratio.condition h.condition;
    one_each = h.one_each ∙ ap (λ (ns : List ℕ). slice_index ns ratio.variable) same;
    positive = h.positive;
  }
