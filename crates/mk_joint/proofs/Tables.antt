-- What the calls of a table do to the joint that it has.
use Rattle.std.proofs.Common.{◌≡◌, ℕ, ◌+◌, ◌*◌, ◌<◌, ◌≤◌, ◌==◌, Bool, true, false, cond, if◌then◌else◌, List, [], ◌∷◌, ◌++◌, count_by, length, set, slice_index_or, All, refl, sym, ap, subst, ◌∙◌, arith}
use Rattle.std.specs.Prelude.{Some, None}
use Rattle.std.specs.List.{AllByRecursion}
use Rattle.std.proofs.Math.Path.{fun_ext}
use Rattle.std.proofs.lemmas.List.{length_push, length-set}
use Rattle.std.proofs.lemmas.List.Elements.{All-push, All-weaker, All-from_recursion, recursion_from_All, All-nil}
use Rattle.std.proofs.lemmas.List.Sums.{sum_by_push}
use Rattle.mk_net.specs.declared.words.Pair.{Pair}
use Rattle.mk_net.specs.Bounds.{max_clique_cells}
use Rattle.mk_net.specs.Network.{Variable, sizes, IsNetwork}
use Rattle.mk_net.specs.Named.{variable_at, nobody}
use Rattle.mk_net.specs.Asked.{TradeRatio, ratio_pairs}
use Rattle.mk_states.specs.OfNetwork.{IsPairOf, IsRatioOf}
use Rattle.mk_states.proofs.Shares.{size_at}
use Rattle.mk_tree.specs.Given.{GivenTree}
use Rattle.mk_scope.specs.Scopes.{ScopeOf, cells_in, has_variable, HasEvent, HasOneEach, HasSized}
use Rattle.mk_scope.specs.Cells.{values_at}
use Rattle.mk_table.specs.Tables.{TableOf, HasNumbers, HasRoom}
use Rattle.mk_table.specs.Ratios.{KeepsPairs, HasRatios}
use Rattle.mk_table.specs.Lists.{IsOnes, no_scope, table_in}
use Rattle.mk_table.proofs.RatiosKept.{no_ratios, same_ratios, ratios_restricted, one_ratio_more}
use Rattle.mk_engine.specs.Meaning.{Meaning, Factor, RatioOf, opening, with_factor, with_known, factor_there, is_ratio, max_factors, ArePairsOf}
use Rattle.mk_engine.specs.Apart.{HasCondition}
use Rattle.mk_joint.specs.inner.Joints.{whole_scope, joint_there, IsFactorOf, IsPlanFor, IsCommon, IsJoint, HasJoint}
use Rattle.mk_joint.proofs.Cells.{has_all, has_sized, states_counted}
use Rattle.mk_joint.proofs.Factors.{sized_parents, joint_more, joint_known}

-- two networks of one scope have the same sizes, and so the same pairs and ratios
pub same_sizes : (a b : List Variable) (scope : ScopeOf) → scope ≡ whole_scope a → scope ≡ whole_scope b → sizes a ≡ sizes b
same_sizes a b scope e f = ap (λ (s : ScopeOf). s.sizes) (sym e ∙ f)

-- it has each variable with its parents
pub sized_in : (network : List Variable) (scope : ScopeOf) → scope ≡ whole_scope network → (x : ℕ) → x < length network → HasSized network scope x
sized_in network scope e x h = subst (λ (s : ScopeOf). HasSized network s x) (sym e) (has_sized network x h)

pub sized_parents_in : (network : List Variable) (scope : ScopeOf) → IsNetwork network → scope ≡ whole_scope network → (x : ℕ) → x < length network
    → All (HasSized network scope) (variable_at network x).parents
sized_parents_in network scope legal e x h = subst (λ (s : ScopeOf). All (HasSized network s) (variable_at network x).parents) (sym e) (sized_parents network legal x h)

-- the scope of all variables has the events of the network's pairs
pub has_event : (network : List Variable) (scope : ScopeOf) → scope ≡ whole_scope network → (event : List Pair) → ArePairsOf network event → HasEvent scope event
has_event network scope e event h =
    All-weaker (IsPairOf network) (λ (p : Pair). has_variable scope p.variable ≡ true)
    (λ p k. subst (λ (s : ScopeOf). has_variable s p.variable ≡ true) (sym e) (has_all network p.variable k.variable)) event h

pub pairs_of_ratio : (network : List Variable) → IsNetwork network → (ratio : TradeRatio) → IsRatioOf network ratio → ArePairsOf network (ratio_pairs ratio)
pairs_of_ratio network legal ratio h =
    All-push (IsPairOf network) ratio.condition (record { variable = ratio.variable; value = 0 }) (All-from_recursion (IsPairOf network) ratio.condition h.condition)
    (record { variable = h.variable; value = omega (arith, size_at network legal ratio.variable h.variable, (legal.each ratio.variable nobody h.variable).two_values) })

-- it has as many values of a ratio's variable as the ratio has numbers
pub has_one_each : (network : List Variable) (scope : ScopeOf) → scope ≡ whole_scope network → (ratio : TradeRatio) → IsRatioOf network ratio → HasOneEach scope ratio
has_one_each network scope e ratio h = h.one_each ∙ sym (sized_in network scope e ratio.variable h.variable).sized

-- a table that has a joint has room for a belief
pub has_room : (table : TableOf) (count : ℕ) (m : Meaning) → IsJoint table count m → (more : ℕ) → more ≤ 2 * max_clique_cells → HasRoom table more
has_room table count m h more l = record {
  numbers = λ c. joint_there m (values_at table.scope c);
  steps = length m.factors;
  has = h.numbers;
  few_steps = omega (arith, h.counted, h.room.few_factors);
  small_shift = omega (arith, h.room.few_factors, h.room.small_shift);
}

-- a table of ones has the joint of no factors
ones_joint : (table : TableOf) (plan : List ScopeOf) (network : List Variable) (tree : GivenTree)
    → IsPlanFor plan network → IsOnes (whole_scope network) table
    → IsJoint table 0 (opening network tree)
ones_joint table plan network tree p made = record {
  legal = p.legal;
  scope = made.scope_is;
  few_cells = let e = ap cells_in made.scope_is in omega (arith, e, states_counted network, p.few_states);
  factors = All-nil (IsFactorOf network);
  known = All-nil (IsPairOf network);
  counted = refl;
  room = record { few_factors = omega arith; small_shift = omega (arith, made.no_shift) };
  numbers = made.ones;
  ratios = no_ratios table (IsCommon (opening network tree)) made.no_shift made.no_ratio;
}

-- so has the table of ones over the scope of a plan
pub begins : (tables : List TableOf) (plan : List ScopeOf) (network : List Variable) (tree : GivenTree)
    → IsPlanFor plan network → length tables ≡ length plan
    → ((k : ℕ) → k < length plan → IsOnes (slice_index_or plan k no_scope) (table_in tables k))
    → HasJoint tables 0 (opening network tree)
begins tables plan network tree p one_each made = record {
  one = one_each ∙ many;
  joint = ones_joint (table_in tables 0) plan network tree p ones;
}
  where
    many : length plan ≡ 1
    many = ap (λ (ss : List ScopeOf). length ss) p.scope

    ones : IsOnes (whole_scope network) (table_in tables 0)
    ones =
        subst (λ (s : ScopeOf). IsOnes s (table_in tables 0))
        (ap (λ (ss : List ScopeOf). slice_index_or ss 0 no_scope) p.scope)
        (made 0 (omega (arith, many)))

-- a table that changes is still the only one
pub still_one : (old new : List TableOf) (t : TableOf)
    → length old ≡ 1 → new ≡ set old 0 t → length new ≡ 1
still_one old new t one only = ap (λ (ts : List TableOf). length ts) only ∙ length-set old 0 t ∙ one

-- a factor more, at each meaning of the table
pub factor_more : (old new : TableOf) (count : ℕ) (m : Meaning) (f : Factor) → IsJoint old count m → IsFactorOf m.network f → count < max_factors
    → new.scope ≡ old.scope → new.shift ≤ old.shift + 40
    → HasNumbers new (λ c. joint_there m (values_at old.scope c) * factor_there m.network f (values_at old.scope c)) (length m.factors + 1)
    → (HasRatios old (count_by is_ratio m.factors) (IsCommon m) → HasRatios new (count_by is_ratio (with_factor f m).factors) (IsCommon (with_factor f m))) → IsJoint new (count + 1) (with_factor f m)
factor_more old new count m f h fits few scope shift numbers ratios = record {
  legal = h.legal;
  scope = scope ∙ h.scope;
  few_cells = subst (λ (s : ScopeOf). cells_in s ≤ max_clique_cells) (sym scope) h.few_cells;
  factors = All-push (IsFactorOf m.network) m.factors f h.factors fits;
  known = h.known;
  counted = length_push m.factors f ∙ ap (λ n. n + 1) h.counted;
  room = record { few_factors = omega arith; small_shift = omega (arith, h.room.small_shift) };
  numbers =
      subst (λ (s : ScopeOf). HasNumbers new (λ c. joint_there (with_factor f m) (values_at s c)) (length (with_factor f m).factors)) (sym scope)
      (subst (λ n. HasNumbers new (λ c. joint_there (with_factor f m) (values_at old.scope c)) n) (sym (length_push m.factors f))
      (subst (λ (g : ℕ → ℕ). HasNumbers new g (length m.factors + 1)) (sym (fun_ext (λ c. joint_more m f (values_at old.scope c)))) numbers));
  ratios = ratios h.ratios;
}

-- with its ratios
module _ (m : Meaning) (f : Factor) where
  counted_with : count_by is_ratio (with_factor f m).factors ≡ count_by is_ratio m.factors + cond (is_ratio f) 1 0
  counted_with = sum_by_push (λ (g : Factor). cond (is_ratio g) 1 0) m.factors f

  parted : (P : Factor → Type 0) (fs : List Factor) → AllByRecursion P (fs ++ f ∷ []) → AllByRecursion P fs × P f
  parted P [] h = (tt, h.0)
  parted P (g ∷ fs) h = let rest = parted P fs h.1 in ((h.0, rest.0), rest.1)

  all_parted : (pair : Pair) → IsCommon (with_factor f m) pair → AllByRecursion (HasCondition pair) m.factors × HasCondition pair f
  all_parted pair h = parted (HasCondition pair) m.factors (recursion_from_All (HasCondition pair) (m.factors ++ f ∷ []) h)

  common_before : (pair : Pair) → IsCommon (with_factor f m) pair → IsCommon m pair
  common_before pair h = All-from_recursion (HasCondition pair) m.factors (all_parted pair h).0

  module _ (old new : TableOf) (scope : new.scope ≡ old.scope) where
    pub no_ratio_more : is_ratio f ≡ false → new.shift ≡ old.shift → new.touched ≡ old.touched → HasRatios old (count_by is_ratio m.factors) (IsCommon m)
        → HasRatios new (count_by is_ratio (with_factor f m).factors) (IsCommon (with_factor f m))
    no_ratio_more none shift touched had =
        same_ratios old new scope (count_by is_ratio m.factors) (IsCommon m) had shift touched (count_by is_ratio (with_factor f m).factors)
        (let n = counted_with in let z = ap {B = ℕ} (λ (b : Bool). cond b 1 0) none in omega (arith, n, z)) (IsCommon (with_factor f m)) common_before

pub ratio_more : (m : Meaning) (ratio : TradeRatio) (old new : TableOf) → new.scope ≡ old.scope → new.shift ≡ old.shift + 40 → KeepsPairs old.scope old.touched (Some ratio.condition) new.touched
    → HasRatios old (count_by is_ratio m.factors) (IsCommon m) → HasRatios new (count_by is_ratio (with_factor (RatioOf ratio) m).factors) (IsCommon (with_factor (RatioOf ratio) m))
ratio_more m ratio old new scope shift touched had =
    one_ratio_more old new scope (count_by is_ratio m.factors) (IsCommon m) had shift ratio.condition touched (count_by is_ratio (with_factor (RatioOf ratio) m).factors)
    (let n = counted_with m (RatioOf ratio) in omega (arith, n)) (IsCommon (with_factor (RatioOf ratio) m)) (common_before m (RatioOf ratio)) (λ pair h. (all_parted m (RatioOf ratio) pair h).1)

-- a known pair more
pub known_more : (old new : TableOf) (count : ℕ) (m : Meaning) (p : Pair) → IsJoint old count m → IsPairOf m.network p
    → new.scope ≡ old.scope → new.shift ≡ old.shift
    → HasNumbers new (λ c. if values_at old.scope c p.variable == p.value then joint_there m (values_at old.scope c) else 0) (length m.factors)
    → KeepsPairs old.scope old.touched None new.touched → IsJoint new count (with_known p m)
known_more old new count m p h fits scope shift numbers touched = record {
  legal = h.legal;
  scope = scope ∙ h.scope;
  few_cells = subst (λ (s : ScopeOf). cells_in s ≤ max_clique_cells) (sym scope) h.few_cells;
  factors = h.factors;
  known = All-push (IsPairOf m.network) m.known p h.known fits;
  counted = h.counted;
  room = record { few_factors = h.room.few_factors; small_shift = omega (arith, h.room.small_shift) };
  numbers =
      subst (λ (s : ScopeOf). HasNumbers new (λ c. joint_there (with_known p m) (values_at s c)) (length m.factors)) (sym scope)
      (subst (λ (g : ℕ → ℕ). HasNumbers new g (length m.factors)) (fun_ext (λ c. joint_known m p (values_at old.scope c))) numbers);
  ratios = ratios_restricted old new scope (count_by is_ratio m.factors) (IsCommon m) h.ratios shift touched;
}
