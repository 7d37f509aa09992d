-- The ratios that are placed: their numbers add up over the neighbours of a clique, and a clique holds the variable of a pair that they have in common wherever one of them is placed.
use Rattle.std.proofs.Common.{◌≡◌, ◌≢◌, ℕ, suc, zero, ◌+◌, ◌≤◌, Bool, true, false, cond, not, ◌&&◌, ◌⊎◌, inl, inr, eqb, List, [], ◌∷◌, ◌++◌, map, length, sum_by, count_by, Some, None, refl, sym, ap, ◌∙◌, arith, eq-eqb, ne_eqb}
use Rattle.std.specs.List.{Contains, AllByRecursion, list_all, list_any}
use Rattle.std.proofs.Math.Path.{fun_ext}
use Rattle.std.proofs.lemmas.Bool.{cases_Bool, both_ways, and_parts, and_right, or_parts, eqb-true}
use Rattle.std.proofs.lemmas.List.Elements.{All-from_recursion, recursion_from_All}
use Rattle.std.proofs.lemmas.List.Folds.{list_all-append, list_all_at}
use Rattle.std.proofs.lemmas.List.Sums.{sum_by_push, sum_by-cons}
use Rattle.mk_net.specs.declared.words.Pair.{Pair}
use Rattle.mk_net.specs.Asked.{TradeRatio, ratio_pairs}
use Rattle.mk_net.specs.Network.{Variable}
use Rattle.mk_sums.specs.Trees.{sum_of, linked, linked_to, hop}
use Rattle.mk_sums.proofs.Grades.{sides_add, all_add}
use Rattle.mk_sums.proofs.Hops.{are_linked, ends}
use Rattle.mk_sums.proofs.Sides.{crossing}
use Rattle.mk_tree.specs.Given.{GivenTree, holds, link_of}
use Rattle.mk_engine.specs.Meaning.{Factor, RowsOf, SupportOf, RatioOf, is_ratio}
use Rattle.mk_engine.specs.Apart.{HasCondition}
use Rattle.mk_engine.proofs.Apart.{ratio_count}
use Rattle.mk_plan.specs.Shapes.{ShapeOf, IsShapeFor, IsClique, is_behind, in_core, neighbours}
use Rattle.mk_propagate.specs.Placings.{Placing, PlacedFactor, with_factor_in, IsPlacing, IsFactorIn, IsPlacedFactor, IsCommon, ratios_in}
use Rattle.mk_propagate.specs.Flows.{message_ratios}
use Rattle.mk_propagate.specs.inner.Gathered.{is_input, gathered_ratios}
use Rattle.mk_plan.proofs.Cores.{core_has}
use Rattle.mk_propagate.proofs.Inputs.{sum_inputs, sum_parted}

-- ---- a factor more

module _ (p : Placing) (clique : ℕ) (f : Factor) where
  abbrev placed : PlacedFactor
  placed = record { clique = clique; factor = f }

  with_one : (k : ℕ) → ratios_in (with_factor_in clique f p) k ≡ ratios_in p k + cond (eqb clique k && is_ratio f) 1 0
  with_one k = sum_by_push (λ (x : PlacedFactor). cond (eqb x.clique k && is_ratio x.factor) 1 0) p.factors placed

  pub ratios_elsewhere : (k : ℕ) → k ≢ clique → ratios_in p k ≡ ratios_in (with_factor_in clique f p) k
  ratios_elsewhere k d = let e = with_one k ∙ ap (λ (b : Bool). ratios_in p k + cond (b && is_ratio f) 1 0) (ne_eqb clique k (λ e. d (sym e))) in omega (arith, e)

  ratios_there : ratios_in p clique + cond (is_ratio f) 1 0 ≡ ratios_in (with_factor_in clique f p) clique
  ratios_there = sym (with_one clique ∙ ap (λ (b : Bool). ratios_in p clique + cond (b && is_ratio f) 1 0) (eq-eqb clique clique refl))

  pub no_ratio_here : is_ratio f ≡ false → ratios_in p clique ≡ ratios_in (with_factor_in clique f p) clique
  no_ratio_here e = let n = ratios_there in let z = ap {B = ℕ} (λ (b : Bool). cond b 1 0) e in omega (arith, n, z)

  pub ratio_here : is_ratio f ≡ true → ratios_in p clique + 1 ≡ ratios_in (with_factor_in clique f p) clique
  ratio_here e = let n = ratios_there in let z = ap {B = ℕ} (λ (b : Bool). cond b 1 0) e in omega (arith, n, z)

  -- what is common with it was so without it, and it has it too
  parted : (P : PlacedFactor → Type 0) (xs : List PlacedFactor) → AllByRecursion P (xs ++ placed ∷ []) → AllByRecursion P xs × P placed
  parted P [] h = (tt, h.0)
  parted P (x ∷ xs) h = let rest = parted P xs h.1 in ((h.0, rest.0), rest.1)

  all_parted : (pair : Pair) → IsCommon (with_factor_in clique f p) pair → AllByRecursion (λ (x : PlacedFactor). HasCondition pair x.factor) p.factors × HasCondition pair f
  all_parted pair h = parted (λ (x : PlacedFactor). HasCondition pair x.factor) p.factors (recursion_from_All (λ (x : PlacedFactor). HasCondition pair x.factor) (p.factors ++ placed ∷ []) h)

  pub common_before : (pair : Pair) → IsCommon (with_factor_in clique f p) pair → IsCommon p pair
  common_before pair h = All-from_recursion (λ (x : PlacedFactor). HasCondition pair x.factor) p.factors (all_parted pair h).0

  pub common_to_it : (pair : Pair) → IsCommon (with_factor_in clique f p) pair → HasCondition pair f
  common_to_it pair h = (all_parted pair h).1

-- a sum of nothing
sum_none : (set : ℕ → Bool) (m : ℕ) (w : ℕ → ℕ) → ((j : ℕ) → 1 ≤ j → j ≤ m → set j ≡ true → w j ≡ 0) → sum_of set m w ≡ 0
sum_none set zero w h = refl
sum_none set (suc k) w h = let ih = sum_none set k w (λ j p q. h j p (omega arith)) in at (set (suc k)) (h (suc k) (omega arith) (omega arith)) ih
  where
    at : (b : Bool) → (b ≡ true → w (suc k) ≡ 0) → sum_of set k w ≡ 0 → sum_of set k w + cond b (w (suc k)) 0 ≡ 0
    at true e ih = let z = e refl in omega (arith, z, ih)
    at false e ih = omega (arith, ih)

pub none_summed : (set : ℕ → Bool) (m : ℕ) (w : ℕ → ℕ) → sum_of set m (λ j. 1) ≡ 0 → sum_of set m w ≡ 0
none_summed set zero w h = refl
none_summed set (suc k) w h = at (set (suc k)) h (none_summed set k w)
  where
    at : (b : Bool) → sum_of set k (λ j. 1) + cond b 1 0 ≡ 0 → (sum_of set k (λ j. 1) ≡ 0 → sum_of set k w ≡ 0) → sum_of set k w + cond b (w (suc k)) 0 ≡ 0
    at true e ih = absurd (omega (arith, e))
    at false e ih = let z = ih (omega (arith, e)) in omega (arith, z)

-- nothing passes a test
pub none_counted : (test : ℕ → Bool) (w : ℕ → ℕ) (xs : List ℕ) → list_any test xs ≡ false → sum_by (λ i. cond (test i) (w i) 0) xs ≡ 0
none_counted test w [] h = refl
none_counted test w (x ∷ xs) h =
    let q = or_parts (test x) (list_any test xs) h in
    let e = ap {B = ℕ} (λ (b : Bool). cond b (w x) 0) q.0 in let ih = none_counted test w xs q.1 in let s = sum_by-cons (λ i. cond (test i) (w i) 0) x xs in omega (arith, e, ih, s)

-- ---- all ratios are in the cliques

placed_counted : (x : PlacedFactor) (fs : List PlacedFactor) (k : ℕ)
    → count_by (λ (f : PlacedFactor). eqb f.clique k && is_ratio f.factor) (x ∷ fs) ≡ cond (eqb x.clique k && is_ratio x.factor) 1 0 + count_by (λ (f : PlacedFactor). eqb f.clique k && is_ratio f.factor) fs
placed_counted x fs k = sum_by-cons (λ (f : PlacedFactor). cond (eqb f.clique k && is_ratio f.factor) 1 0) x fs

-- a clique's part of a sum over all
one_of_all : (m : ℕ) (w : ℕ → ℕ) (c : ℕ) → 1 ≤ c → c ≤ m → w c ≤ sum_of (λ j. true) m w
one_of_all m w c first last = let s = sum_parted (λ j. true) c m first last refl w in omega (arith, s)

sum_of_both : (m : ℕ) (f g h : ℕ → ℕ) → ((j : ℕ) → h j ≡ f j + g j) → sum_of (λ j. true) m h ≡ sum_of (λ j. true) m f + sum_of (λ j. true) m g
sum_of_both zero f g h e = refl
sum_of_both (suc k) f g h e = let ih = sum_of_both k f g h e in let q = e (suc k) in omega (arith, ih, q)

ratios_at_least : (network : List Variable) (tree : GivenTree) (fs : List PlacedFactor) → AllByRecursion (IsPlacedFactor network tree) fs
    → ratio_count (map (λ (f : PlacedFactor). f.factor) fs) ≤ sum_of (λ j. true) (length tree.cliques) (λ j. count_by (λ (f : PlacedFactor). eqb f.clique j && is_ratio f.factor) fs)
ratios_at_least network tree [] h = omega arith
ratios_at_least network tree (x ∷ fs) h =
    let m = length tree.cliques in
    let one : ℕ → ℕ = λ j. cond (eqb x.clique j && is_ratio x.factor) 1 0 in
    let rest : ℕ → ℕ = λ j. count_by (λ (f : PlacedFactor). eqb f.clique j && is_ratio f.factor) fs in
    let s = sum_of_both m one rest (λ j. count_by (λ (f : PlacedFactor). eqb f.clique j && is_ratio f.factor) (x ∷ fs)) (λ j. placed_counted x fs j) in
    let o = one_of_all m one x.clique h.0.clique_is.first h.0.clique_is.last in
    let e : one x.clique ≡ cond (is_ratio x.factor) 1 0 = ap (λ (b : Bool). cond (b && is_ratio x.factor) 1 0) (eq-eqb x.clique x.clique refl) in
    let c = sum_by-cons (λ (f : Factor). cond (is_ratio f) 1 0) x.factor (map (λ (f : PlacedFactor). f.factor) fs) in
    let ih = ratios_at_least network tree fs h.1 in
    omega (arith, s, o, e, c, ih)

-- ---- where the ratios have a pair in common

held_there : (ratio : TradeRatio) (pair : Pair) (test : ℕ → Bool) → Contains ratio.condition pair → list_all (λ (p : Pair). test p.variable) (ratio_pairs ratio) ≡ true → test pair.variable ≡ true
held_there ratio pair test i h = at (cases_Bool (test pair.variable))
  where
    inside : list_all (λ (p : Pair). test p.variable) ratio.condition ≡ true
    inside = (and_parts (list_all (λ (p : Pair). test p.variable) ratio.condition) (test ratio.variable && true) (sym (list_all-append (λ (p : Pair). test p.variable) ratio.condition (record { variable = ratio.variable; value = 0 } ∷ [])) ∙ h)).0

    at : ((test pair.variable ≡ true) ⊎ (test pair.variable ≡ false)) → test pair.variable ≡ true
    at (inl e) = e
    at (inr e) =
        absurd (both_ways (list_all (λ (p : Pair). test p.variable) ratio.condition)
        (list_all_at (λ (p : Pair). test p.variable) ratio.condition i.0 pair i.1 (ap (λ (p : Pair). test p.variable) i.2 ∙ e)) inside)

-- a factor is no ratio of a clique, or that holds the variable
placed_or_held : (network : List Variable) (tree : GivenTree) (pair : Pair) (j clique : ℕ) (f : Factor) → IsFactorIn network tree clique f → HasCondition pair f
    → ((eqb clique j && is_ratio f) ≡ false) ⊎ (holds tree j pair.variable ≡ true)
placed_or_held network tree pair j clique (RowsOf k) fits h = inl (and_right (eqb clique j) false refl)
placed_or_held network tree pair j clique (SupportOf k) fits h = inl (and_right (eqb clique j) false refl)
placed_or_held network tree pair j clique (RatioOf r) fits h = at (cases_Bool (eqb clique j))
  where
    at : ((eqb clique j ≡ true) ⊎ (eqb clique j ≡ false)) → ((eqb clique j && true) ≡ false) ⊎ (holds tree j pair.variable ≡ true)
    at (inl e) = inr (ap (λ k. holds tree k pair.variable) (sym (eqb-true clique j e)) ∙ held_there r pair (holds tree clique) h fits.1)
    at (inr e) = inl (ap (λ (b : Bool). b && true) e)

-- so has a clique no ratios, or it holds the variable
none_or_held : (network : List Variable) (tree : GivenTree) (pair : Pair) (j : ℕ) (fs : List PlacedFactor) → AllByRecursion (IsPlacedFactor network tree) fs → AllByRecursion (λ (f : PlacedFactor). HasCondition pair f.factor) fs
    → (count_by (λ (f : PlacedFactor). eqb f.clique j && is_ratio f.factor) fs ≡ 0) ⊎ (holds tree j pair.variable ≡ true)
none_or_held network tree pair j [] h k = inl refl
none_or_held network tree pair j (x ∷ fs) h k = at (placed_or_held network tree pair j x.clique x.factor h.0.fits k.0) (none_or_held network tree pair j fs h.1 k.1)
  where
    at : (((eqb x.clique j && is_ratio x.factor) ≡ false) ⊎ (holds tree j pair.variable ≡ true)) → ((count_by (λ (f : PlacedFactor). eqb f.clique j && is_ratio f.factor) fs ≡ 0) ⊎ (holds tree j pair.variable ≡ true))
        → (count_by (λ (f : PlacedFactor). eqb f.clique j && is_ratio f.factor) (x ∷ fs) ≡ 0) ⊎ (holds tree j pair.variable ≡ true)
    at (inr e) ih = inr e
    at (inl e) (inr f) = inr f
    at (inl e) (inl z) = inl (let c = placed_counted x fs j in let n = ap {B = ℕ} (λ (b : Bool). cond b 1 0) e in omega (arith, c, n, z))

module _ (shape : ShapeOf) (p : Placing) (is : IsShapeFor shape p.network) (placing : IsPlacing shape.tree p) where
  abbrev tree : GivenTree
  tree = shape.tree

  abbrev count : ℕ
  count = length shape.tree.cliques

  -- the product of the messages that a clique takes has the ratios behind them
  pub ratios_sent : (a b : ℕ) → linked (link_of tree) count a b ≡ true → ratios_in p a + gathered_ratios tree p a (Some b) (neighbours tree a) ≡ message_ratios tree p a b
  ratios_sent a b h =
      ap (λ n. ratios_in p a + n) (sum_inputs tree a (Some b) (λ i. message_ratios tree p i a))
      ∙ sym (sides_add (link_of tree) count is.tree_is.linked.earlier (ratios_in p) a b h)

  pub ratios_read : (k : ℕ) → IsClique tree k → ratios_in p k + gathered_ratios tree p k None (neighbours tree k) ≡ sum_of (λ j. true) count (ratios_in p)
  ratios_read k clique =
      ap (λ n. ratios_in p k + n) (sum_inputs tree k None (λ i. message_ratios tree p i k) ∙ ap (λ (set : ℕ → Bool). sum_of set count (λ i. message_ratios tree p i k)) (fun_ext (λ i. and_true (linked_to (link_of tree) count k i))))
      ∙ sym (all_add (link_of tree) count is.tree_is.linked.earlier (ratios_in p) k clique.first clique.last)
    where
      and_true : (b : Bool) → (b && true) ≡ b
      and_true true = refl
      and_true false = refl

  pub ratios_counted : ratio_count (map (λ (f : PlacedFactor). f.factor) p.factors) ≤ sum_of (λ j. true) count (ratios_in p)
  ratios_counted = ratios_at_least p.network tree p.factors (recursion_from_All (IsPlacedFactor p.network tree) p.factors placing.factors_fit)

  -- a clique that holds the variable of a common pair has no ratios behind a neighbour that does not
  pub none_behind : (i k : ℕ) → linked (link_of tree) count i k ≡ true → (pair : Pair) → IsCommon p pair → holds tree k pair.variable ≡ true → holds tree i pair.variable ≡ false → message_ratios tree p i k ≡ 0
  none_behind i k l pair common here none =
      sum_none (is_behind tree i k) count (ratios_in p)
      (λ j first last inside.
      at j first last inside
      (none_or_held p.network tree pair j p.factors (recursion_from_All (IsPlacedFactor p.network tree) p.factors placing.factors_fit)
      (recursion_from_All (λ (f : PlacedFactor). HasCondition pair f.factor) p.factors common)))
    where
      at : (j : ℕ) → 1 ≤ j → j ≤ count → is_behind tree i k j ≡ true → ((ratios_in p j ≡ 0) ⊎ (holds tree j pair.variable ≡ true)) → ratios_in p j ≡ 0
      at j first last inside (inl z) = z
      at j first last inside (inr h) =
          let n = are_linked (link_of tree) count i k l in
          let e = ends (link_of tree) count i k is.tree_is.linked.earlier n in
          let outside : is_behind tree i k k ≡ false = ap (λ (b : Bool). not b && eqb (hop (link_of tree) count k k) i) (eq-eqb k k refl) in
          absurd (both_ways (holds tree i pair.variable) none
          (crossing (link_of tree) count (holds tree) is.tree_is.linked.earlier i k (is.tree_is.running pair.variable j k first last e.2 e.3 h here) n inside outside).0)

  -- and takes no message that has one, where the variable does not lie in its core
  pub none_gathered : (k : ℕ) → IsClique tree k → (pair : Pair) → IsCommon p pair → holds tree k pair.variable ≡ true → in_core tree k pair.variable ≡ false → gathered_ratios tree p k None (neighbours tree k) ≡ 0
  none_gathered k clique pair common here outer =
      sum_inputs tree k None (λ i. message_ratios tree p i k)
      ∙ sum_none (is_input tree k None) count (λ i. message_ratios tree p i k)
      (λ i _ _ input. let l = (and_parts (linked_to (link_of tree) count k i) true input).0 in none_behind i k l pair common here (at i l (cases_Bool (holds tree i pair.variable))))
    where
      at : (i : ℕ) → linked (link_of tree) count i k ≡ true → ((holds tree i pair.variable ≡ true) ⊎ (holds tree i pair.variable ≡ false)) → holds tree i pair.variable ≡ false
      at i l (inl e) = absurd (both_ways (in_core tree k pair.variable) outer (core_has tree is.tree_is.linked k i pair.variable l here e))
      at i l (inr e) = e
