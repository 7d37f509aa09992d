-- The grades of what a market's engines stand for, by the market's own sizes.
use Rattle.std.proofs.Common.{◌≡◌, ℕ, zero, suc, ◌+◌, ◌-◌, ◌*◌, ◌<◌, ◌≤◌, max, Bool, true, false}
use Rattle.std.proofs.Common.{◌&&◌, ◌||◌, cond, eqb, List, [], ◌∷◌, map, length, filter}
use Rattle.std.proofs.Common.{slice_index, sum_by, refl, sym, ap, ◌∙◌, arith, length-append}
use Rattle.std.specs.List.{list_all, list_any, range_with_len}
use Rattle.std.proofs.Math.Nat.{mul-le-mul_right}
use Rattle.std.proofs.lemmas.Bool.{cond-true}
use Rattle.std.proofs.lemmas.List.{length-map}
use Rattle.std.proofs.lemmas.List.Sums.{sum_by-cons}
use Rattle.std.proofs.lemmas.List.FromFn.{length-map-range_with_len, length-range_with_len}
use Rattle.mk_net.specs.Bounds.{max_values}
use Rattle.mk_net.specs.Named.{variable_at}
use Rattle.mk_net.specs.Network.{Variable, IsNetwork, sizes, choices}
use Rattle.mk_sets.specs.Sets.{VarSet, is_member}
use Rattle.mk_net.specs.Zeros.{has_zero, with_zeros}
use Rattle.mk_net.proofs.Networks.{two_values}
use Rattle.mk_exact.specs.History.{Entry, UserTrade, trades, trades_of}
use Rattle.mk_states.specs.States.{numbers_below, plus_over}
use Rattle.mk_states.proofs.Sums.{plus_over-map}
use Rattle.mk_tree.specs.Checked.{IsTreeOf}
use Rattle.mk_tree.specs.Given.{GivenTree}
use Rattle.mk_tree.specs.Tests.{holds_family, members, cells_of}
use Rattle.mk_engine.specs.Meaning.{Factor, RowsOf, SupportOf, RatioOf, tree_grade}
use Rattle.mk_beliefs.specs.Meanings.{weights_of, gains_of, rows_of}
use Rattle.mk_file.specs.declared.market_file.MarketFile.{MarketFile}
use Rattle.mk_file.specs.MarketOf.{market_of}
use Rattle.mk_answers.specs.Evidence.{grade_together}
use Rattle.mk_evidence.specs.Grades.{evidence_grade, all_cells, largest_cells}

-- ---- sums over the cliques of a tree

summed : (f : List ℕ → ℕ) (g : VarSet → List ℕ) (sets : List VarSet)
    → sum_by f (map g sets) ≡ sum_by (λ (s : VarSet). f (g s)) sets
summed f g [] = refl
summed f g (s ∷ sets) =
    sum_by-cons f (g s) (map g sets) ∙ ap (λ (n : ℕ). f (g s) + n) (summed f g sets)
    ∙ sym (sum_by-cons (λ (s : VarSet). f (g s)) s sets)

sum_less : (f g : VarSet → ℕ) → ((s : VarSet) → f s ≤ g s) → (sets : List VarSet)
    → sum_by f sets ≤ sum_by g sets
sum_less f g less [] = omega arith
sum_less f g less (s ∷ sets) = omega (
  arith,
  less s,
  sum_less f g less sets,
  sum_by-cons f s sets,
  sum_by-cons g s sets,
)

-- ---- how many pass a test

some_pass : {X : Type 0} (p : X → Bool) (xs : List X) → length (filter p xs) ≤ length xs
some_pass p [] = omega arith
some_pass {X} p (x ∷ xs) = at (p x) (some_pass p xs)
  where
    at : (b : Bool) → length (filter p xs) ≤ length xs
        → length (cond b (x ∷ filter p xs) (filter p xs)) ≤ length (x ∷ xs)
    at true l = omega (arith, l)
    at false l = omega (arith, l)

none_pass : (xs : List ℕ) → length (filter (λ (x : ℕ). false) xs) ≤ 0
none_pass [] = omega arith
none_pass (x ∷ xs) = none_pass xs

all_pass : (p : ℕ → Bool) (a n : ℕ) → ((x : ℕ) → x < a + n → p x ≡ true)
    → filter p (range_with_len a n) ≡ range_with_len a n
all_pass p a zero h = refl
all_pass p a (suc n) h =
    cond-true (p a) (a ∷ filter p (range_with_len (a + 1) n)) (filter p (range_with_len (a + 1) n))
    (h a (omega arith))
    ∙ ap (λ (xs : List ℕ). a ∷ xs) (all_pass p (a + 1) n (λ x q. h x (omega (arith, q))))

either_passes : (p q : ℕ → Bool) (xs : List ℕ)
    → length (filter (λ (x : ℕ). p x || q x) xs) ≤ length (filter p xs) + length (filter q xs)
either_passes p q [] = omega arith
either_passes p q (x ∷ xs) = at (p x) (q x) (either_passes p q xs)
  where
    at : (a b : Bool)
        → length (filter (λ (x : ℕ). p x || q x) xs) ≤ length (filter p xs) + length (filter q xs)
        → length (cond (a || b) (x ∷ filter (λ (x : ℕ). p x || q x) xs)
        (filter (λ (x : ℕ). p x || q x) xs))
        ≤ length (cond a (x ∷ filter p xs) (filter p xs))
        + length (cond b (x ∷ filter q xs) (filter q xs))
    at true true l = omega (arith, l)
    at true false l = omega (arith, l)
    at false true l = omega (arith, l)
    at false false l = l

-- ---- a market has no fewer cells than variables

-- what is in some set is in one of them
held_by : (xs : List ℕ) (sets : List VarSet)
    → length (filter (λ (x : ℕ). list_any (λ (s : VarSet). is_member s x) sets) xs)
    ≤ sum_by (λ (s : VarSet). length (filter (is_member s) xs)) sets
held_by xs [] = none_pass xs
held_by xs (s ∷ sets) =
    let held : ℕ → Bool = λ (x : ℕ). list_any (λ (s : VarSet). is_member s x) sets in
    let one : length (filter (λ (x : ℕ). list_any (λ (s : VarSet). is_member s x) (s ∷ sets)) xs)
    ≤ length (filter (is_member s) xs) + length (filter held xs) =
    either_passes (is_member s) held xs in
    omega (
      arith,
      held_by xs sets,
      one,
      sum_by-cons (λ (s : VarSet). length (filter (is_member s) xs)) s sets,
    )

family_held : (network : List Variable) (x : ℕ) (sets : List VarSet)
    → list_any (holds_family network x) sets ≡ true
    → list_any (λ (s : VarSet). is_member s x) sets ≡ true
family_held network x [] e = e
family_held network x (s ∷ sets) e =
    at (is_member s x) (list_all (is_member s) (variable_at network x).parents)
    (family_held network x sets) e
  where
    at : (a b : Bool)
        → (list_any (holds_family network x) sets ≡ true
        → list_any (λ (s : VarSet). is_member s x) sets ≡ true)
        → ((a && b) || list_any (holds_family network x) sets) ≡ true
        → (a || list_any (λ (s : VarSet). is_member s x) sets) ≡ true
    at true b later e = refl
    at false b later e = later e

-- variables of two values or more
two_each : (p : ℕ → Bool) (ns : List ℕ) (a n : ℕ) → ((x : ℕ) → x < a + n → 2 ≤ slice_index ns x)
    → length (filter p (range_with_len a n)) + 1 ≤ choices ns (filter p (range_with_len a n))
two_each p ns a zero h = omega arith
two_each p ns a (suc n) h = at (p a) (two_each p ns (a + 1) n (λ x q. h x (omega (arith, q))))
  where
    at : (b : Bool)
        → length (filter p (range_with_len (a + 1) n)) + 1
        ≤ choices ns (filter p (range_with_len (a + 1) n))
        → length (cond b (a ∷ filter p (range_with_len (a + 1) n))
        (filter p (range_with_len (a + 1) n))) + 1
        ≤ choices ns (cond b (a ∷ filter p (range_with_len (a + 1) n))
        (filter p (range_with_len (a + 1) n)))
    at true l =
        let c = choices ns (filter p (range_with_len (a + 1) n)) in
        let twice : 2 * c ≤ slice_index ns a * c = mul-le-mul_right c (h a (omega arith)) in
        omega (arith, twice, l)
    at false l = l

cells_for : (network : List Variable) → IsNetwork network → (set : VarSet)
    → length (members network set) ≤ cells_of network set
cells_for network legal set =
    let more = two_each (is_member set) (sizes network) 0 (length network)
    (λ x l. two_values network x legal (omega (arith, l))) in
    omega (arith, more)

tree_cells : (network : List Variable) (tree : GivenTree) → IsNetwork network
    → IsTreeOf network tree → length network ≤ sum_by (cells_of network) tree.cliques
tree_cells network tree legal is =
    let held : ℕ → Bool = λ (x : ℕ). list_any (λ (s : VarSet). is_member s x) tree.cliques in
    let all : filter held (numbers_below (length network)) ≡ numbers_below (length network) =
    all_pass held 0 (length network)
    (λ x l. family_held network x tree.cliques (is.covers x (omega (arith, l)))) in
    let many : length (filter held (numbers_below (length network))) ≡ length network =
    ap (λ (xs : List ℕ). length xs) all ∙ length-range_with_len 0 (length network) in
    omega (
      arith,
      many,
      held_by (numbers_below (length network)) tree.cliques,
      sum_less (λ (s : VarSet). length (members network s)) (cells_of network)
          (cells_for network legal) tree.cliques,
    )

-- ---- grades

module _ (file : MarketFile) (H : List Entry) where
  cells_same : all_cells (market_of file) H ≡ sum_by (cells_of file.net) file.tree.cliques
  cells_same = summed (choices (sizes file.net)) (members file.net) file.tree.cliques

  largest_same :
      largest_cells (market_of file) H ≡ plus_over max 0 (cells_of file.net) file.tree.cliques
  largest_same = plus_over-map max 0 (choices (sizes file.net)) (members file.net) file.tree.cliques

  cliques_same : length (map (members file.net) file.tree.cliques) ≡ length file.tree.cliques
  cliques_same = length-map file.tree.cliques (members file.net)

  pub enough_cells : IsNetwork file.net → IsTreeOf file.net file.tree
      → length file.net ≤ all_cells (market_of file) H
  enough_cells legal is = omega (arith, cells_same, tree_cells file.net file.tree legal is)

  within : (factors : List Factor) → length factors ≤ length file.net + length (trades H)
      → (of : ℕ)
      → of ≤ length factors + sum_by (cells_of file.net) file.tree.cliques
      + 2 * (length file.tree.cliques - 1) + plus_over max 0 (cells_of file.net) file.tree.cliques
      → of + max_values ≤ evidence_grade (market_of file) H
  within factors few of less = omega (arith, few, less, cells_same, largest_same, cliques_same)

  -- of the weights of all states
  pub weights_within : (of : ℕ) → of ≤ tree_grade (weights_of file.net file.tree H)
      → grade_together of ≤ evidence_grade (market_of file) H
  weights_within =
      let ratio : UserTrade → Factor = λ (t : UserTrade). RatioOf t.ratio in
      let both = length-append (map RowsOf (numbers_below (length file.net)))
      (map ratio (trades H)) in
      let rows = length-map-range_with_len RowsOf 0 (length file.net) in
      let all = length-map (trades H) ratio in
      within (weights_of file.net file.tree H).factors (omega (arith, both, rows, all))

  pub weight_within : (of : ℕ) → of ≤ tree_grade (weights_of file.net file.tree H)
      → of ≤ evidence_grade (market_of file) H
  weight_within of less = omega (arith, weights_within of less)

  -- of a user's gains
  pub gains_within : (u of : ℕ) → of ≤ tree_grade (gains_of file.net file.tree H u)
      → of + max_values ≤ evidence_grade (market_of file) H
  gains_within u =
      let ratio : UserTrade → Factor = λ (t : UserTrade). RatioOf t.ratio in
      let both = length-append (map SupportOf (with_zeros file.net))
      (map ratio (trades_of H u)) in
      let supports = length-map (with_zeros file.net) SupportOf in
      let few = some_pass (has_zero file.net) (numbers_below (length file.net)) in
      let numbers = length-range_with_len 0 (length file.net) in
      let own = length-map (trades_of H u) ratio in
      let part = some_pass (λ (t : UserTrade). eqb t.user u) (trades H) in
      within (gains_of file.net file.tree H u).factors
      (omega (arith, both, supports, few, numbers, own, part))

  pub gain_within : (u of : ℕ) → of ≤ tree_grade (gains_of file.net file.tree H u)
      → of ≤ evidence_grade (market_of file) H
  gain_within u of less = omega (arith, gains_within u of less)

  -- of the initial weights
  pub rows_within : (of : ℕ) → of ≤ tree_grade (rows_of file.net file.tree H)
      → of ≤ evidence_grade (market_of file) H
  rows_within of less =
      let rows = length-map-range_with_len RowsOf 0 (length file.net) in
      omega (arith, within (rows_of file.net file.tree H).factors (omega (arith, rows)) of less)
