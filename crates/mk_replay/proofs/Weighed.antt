-- The rows of a network's variables, one after another, and pairs that are known of them.
use Rattle.std.proofs.Common.{◌≡◌, ℕ, ◌+◌, ◌<◌, List, [], ◌∷◌, ◌++◌, map, length, take, get_or}
use Rattle.std.proofs.Common.{sym, ap, ◌∙◌, arith, append-nil, append_assoc}
use Rattle.std.proofs.lemmas.List.{take_more}
use Rattle.std.proofs.lemmas.List.FromFn.{map-range_with_len_more, length-map-range_with_len}
use Rattle.mk_net.specs.declared.words.Pair.{Pair}
use Rattle.mk_net.specs.Network.{Variable}
use Rattle.mk_states.specs.States.{numbers_below}
use Rattle.mk_exact.specs.History.{Entry, resolutions}
use Rattle.mk_tree.specs.Given.{GivenTree}
use Rattle.mk_engine.specs.Meaning.{Meaning, Factor, RowsOf, with_factor, with_known}
use Rattle.mk_beliefs.specs.Meanings.{weights_of, rows_of}
use Rattle.mk_beliefs.proofs.Grown.{opening_is_rows}
use Rattle.mk_replay.specs.Known.{with_all_known}

-- a meaning with these factors, of which nothing is known
abbrev of_factors : List Variable → GivenTree → List Factor → Meaning
of_factors network tree factors =
    record { network = network; tree = tree; factors = factors; known = [] }

-- the rows of as many variables, the first ones
abbrev pub rows_below : List Variable → GivenTree → ℕ → Meaning
rows_below network tree count = of_factors network tree (map RowsOf (numbers_below count))

module _ (network : List Variable) (tree : GivenTree) where
  pub rows_more : (k : ℕ) → with_factor (RowsOf k) (rows_below network tree k)
      ≡ rows_below network tree (k + 1)
  rows_more k = sym (ap (of_factors network tree)
      (map-range_with_len_more RowsOf 0 k k (omega arith)))

  pub rows_counted : (k : ℕ) → length (rows_below network tree k).factors ≡ k
  rows_counted k = length-map-range_with_len RowsOf 0 k

  -- those of all variables are the weights before any entry
  pub rows_are_weights : rows_of network tree [] ≡ weights_of network tree []
  rows_are_weights = sym ((opening_is_rows network tree 0).0)

  -- and with known pairs the initial weights after a history that resolved these
  pub rows_known : (H : List Entry) (known : List Pair) → resolutions H ≡ known
      → with_all_known known (rows_of network tree []) ≡ rows_of network tree H
  rows_known H known same = ap (λ (pairs : List Pair). record {
    network = network;
    tree = tree;
    factors = map RowsOf (numbers_below (length network));
    known = pairs;
  }) (sym same)

module _ (m : Meaning) where
  known_with : List Pair → Meaning
  known_with pairs =
      record { network = m.network; tree = m.tree; factors = m.factors; known = pairs }

  pub none_known : with_all_known [] m ≡ m
  unfolding known_with
  none_known = ap known_with (append-nil m.known)

  pub known_more : (pairs : List Pair) (d : Pair) (i : ℕ) → i < length pairs
      → with_known (get_or pairs i d) (with_all_known (take i pairs) m)
      ≡ with_all_known (take (i + 1) pairs) m
  unfolding known_with
  known_more pairs d i l =
      ap known_with (append_assoc m.known (take i pairs) (get_or pairs i d ∷ [])
      ∙ ap (λ (ps : List Pair). m.known ++ ps) (sym (take_more pairs i d l)))
