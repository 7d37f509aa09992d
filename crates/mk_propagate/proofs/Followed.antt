-- The sums over a core once a ratio multiplied the clique's table: the ratio goes out of each, or some are made anew.
use Rattle.std.proofs.Common.{◌≡◌, ℕ, ◌+◌, ◌-◌, ◌*◌, ◌^◌, ◌<◌, Bool, true, false, cond, not, ◌&&◌, List, [], ◌∷◌, length, slice_index, All, refl, sym, ap, subst, ◌∙◌, arith, mul_comm}
use Rattle.std.specs.Prelude.{Some}
use Rattle.std.specs.List.{list_all}
use Rattle.std.proofs.Math.Path.{fun_ext}
use Rattle.std.proofs.lemmas.Bool.{both_ways, and_parts}
use Rattle.std.proofs.lemmas.List.Elements.{All-weaker}
use Rattle.std.proofs.lemmas.List.Folds.{list_all-append}
use Rattle.mk_net.specs.declared.words.Pair.{Pair}
use Rattle.mk_sets.specs.Sets.{no_variables}
use Rattle.mk_net.specs.Network.{Variable, sizes}
use Rattle.mk_net.specs.Asked.{TradeRatio, ratio_pairs}
use Rattle.mk_states.specs.States.{plus_over}
use Rattle.mk_states.specs.Lawful.{Lawful}
use Rattle.mk_cell.specs.Cell.{StandsAt, IsOwnAt}
use Rattle.mk_cell.specs.inner.Laws.{untouched_stands}
use Rattle.mk_sums.specs.Sums.{over, Blind}
use Rattle.mk_sums.specs.There.{holds_there, ratio_there}
use Rattle.mk_sums.specs.Joint.{variables}
use Rattle.mk_sums.proofs.Sums.{over-times, Blind_within}
use Rattle.mk_scope.specs.Scopes.{ScopeOf, cells_in, has_variable, size_in, HasEvent, HasOneEach}
use Rattle.mk_scope.specs.Cells.{values_at, cells_onto, cells_beside}
use Rattle.mk_table.specs.Tables.{TableOf, HasNumbers}
use Rattle.mk_table.specs.Ratios.{KeepsPairs}
use Rattle.mk_table.specs.Margins.{IsMarginBut}
use Rattle.mk_table.proofs.Owned.{own_shifted, plus_scaled}
use Rattle.mk_table.proofs.RatiosKept.{one_ratio_more}
use Rattle.mk_tree.specs.Given.{holds}
use Rattle.mk_engine.specs.Meaning.{RatioOf}
use Rattle.mk_plan.specs.Shapes.{ShapeOf, IsShapeFor, IsClique, core_scope, scope_within, in_core}
use Rattle.mk_propagate.specs.Placings.{Placing, IsPlacedFactor, IsCommon, placed_there, factors_in, ratios_in, with_factor_in}
use Rattle.mk_propagate.specs.Flows.{HasSums, core_there, core_steps}
use Rattle.mk_propagate.specs.inner.Gathered.{IsPlacedIn, IsFollowed}
use Rattle.mk_plan.proofs.Scopes.{has_within, size_within}
use Rattle.mk_plan.proofs.Cores.{core_part}
use Rattle.mk_plan.proofs.Required.{all_pass}
use Rattle.mk_propagate.proofs.Readings.{ratio_reads}
use Rattle.mk_propagate.proofs.Placed.{factor_here, counted_here}
use Rattle.mk_propagate.proofs.Ratios.{ratio_here, common_before, common_to_it}
use Rattle.mk_propagate.proofs.Messages.{numbers_again, margin_onto_core, beside_core, in_clique, sums_onto}

-- ---- a core that has each variable of a ratio

module _ (shape : ShapeOf) (k : ℕ) (clique : IsClique shape.tree k) (ratio : TradeRatio) (inside : list_all (λ (p : Pair). in_core shape.tree k p.variable) (ratio_pairs ratio) ≡ true) where
  target_inside : in_core shape.tree k ratio.variable ≡ true
  target_inside =
      let q = and_parts (list_all (λ (p : Pair). in_core shape.tree k p.variable) ratio.condition) (in_core shape.tree k ratio.variable && true)
      (sym (list_all-append (λ (p : Pair). in_core shape.tree k p.variable) ratio.condition (record { variable = ratio.variable; value = 0 } ∷ [])) ∙ inside) in
      (and_parts (in_core shape.tree k ratio.variable) true q.1).0

  module _ (network : List Variable) (is : IsShapeFor shape network) (core : ScopeOf) (over_core : core ≡ core_scope shape k) where
    core_is : core ≡ scope_within network (in_core shape.tree k)
    core_is = over_core ∙ is.core_scopes k clique

    has : (x : ℕ) → in_core shape.tree k x ≡ true → has_variable (scope_within network (in_core shape.tree k)) x ≡ true
    has x h = has_within network (in_core shape.tree k) x (is.tree_is.of_network (k - 1) no_variables (omega (arith, clique.first, clique.last)) x (core_part shape.tree k x h)) h

    pub core_event : HasEvent core (ratio_pairs ratio)
    core_event =
        All-weaker (λ (p : Pair). in_core shape.tree k p.variable ≡ true) (λ (p : Pair). has_variable core p.variable ≡ true)
        (λ p h. subst (λ (s : ScopeOf). has_variable s p.variable ≡ true) (sym core_is) (has p.variable h))
        (ratio_pairs ratio) (all_pass (λ (p : Pair). in_core shape.tree k p.variable) (ratio_pairs ratio) inside)

    pub core_one_each : IsPlacedFactor network shape.tree (record { clique = k; factor = RatioOf ratio }) → HasOneEach core ratio
    core_one_each f =
        f.fits.0.one_each ∙ sym (size_within network (in_core shape.tree k) ratio.variable (has ratio.variable target_inside))
        ∙ ap (λ (s : ScopeOf). size_in s ratio.variable) (sym core_is)

  -- goes out of each sum
  module _ (plus : ℕ → ℕ → ℕ) (law : Lawful plus) where
    ratio_blind : Blind (λ x. holds shape.tree k x && not (in_core shape.tree k x)) (ratio_there ratio)
    ratio_blind =
        Blind_within (λ x. holds shape.tree k x && not (in_core shape.tree k x)) (in_core shape.tree k) (ratio_there ratio) (λ a b same. ratio_reads (in_core shape.tree k) a b same ratio inside)
        (λ x q. no (in_core shape.tree k x) (and_parts (holds shape.tree k x) (not (in_core shape.tree k x)) q).1)
      where
        no : (b : Bool) → not b ≡ true → b ≡ false
        no true e = absurd (both_ways false refl e)
        no false e = refl

    ratio_out : (p : Placing) (t : ℕ → ℕ) → core_there plus shape.tree p k t * ratio_there ratio t ≡ core_there plus shape.tree (with_factor_in k (RatioOf ratio) p) k t
    ratio_out p t =
        let size : ℕ → ℕ = slice_index (sizes p.network) in let vars : List ℕ = variables (sizes p.network) in let private : ℕ → Bool = λ x. holds shape.tree k x && not (in_core shape.tree k x) in
        mul_comm (core_there plus shape.tree p k t) (ratio_there ratio t)
        ∙ sym (over-times plus law size private vars (ratio_there ratio) (placed_there p k) t ratio_blind)
        ∙ ap (λ (f : (ℕ → ℕ) → ℕ). over plus size private vars f t) (fun_ext (λ s. mul_comm (ratio_there ratio s) (placed_there p k s) ∙ factor_here p k (RatioOf ratio) s))

    pub followed_times : (table before after : TableOf) → after.scope ≡ before.scope → after.shift ≡ before.shift + 40
        → ((f : ℕ → ℕ) (n : ℕ) → HasNumbers before f n → HasNumbers after (λ c. f c * ratio_there ratio (values_at before.scope c)) (n + 1))
        → KeepsPairs before.scope before.touched (Some ratio.condition) after.touched → IsFollowed plus shape k ratio table before after
    followed_times table before after scope shift numbers touched = λ p fits placed had.
        let more = counted_here p k (RatioOf ratio) in
        record {
          scope_is = scope ∙ had.scope_is;
          numbers = numbers_again after (λ c. core_there plus shape.tree p k (values_at before.scope c) * ratio_there ratio (values_at before.scope c)) (λ c. core_there plus shape.tree (with_factor_in k (RatioOf ratio) p) k (values_at after.scope c))
              (core_steps shape.tree p k + 1) (core_steps shape.tree (with_factor_in k (RatioOf ratio) p) k) (omega (arith, more))
              (λ c l. ratio_out p (values_at before.scope c) ∙ ap (λ (s : ScopeOf). core_there plus shape.tree (with_factor_in k (RatioOf ratio) p) k (values_at s c)) (sym scope))
              (numbers (λ c. core_there plus shape.tree p k (values_at before.scope c)) (core_steps shape.tree p k) had.numbers);
          small_shift = omega (arith, more, shift, had.small_shift);
          ratios = one_ratio_more before after scope (ratios_in p k) (IsCommon p) had.ratios shift ratio.condition touched (ratios_in (with_factor_in k (RatioOf ratio) p) k) (ratio_here p k (RatioOf ratio) refl)
              (IsCommon (with_factor_in k (RatioOf ratio) p)) (common_before p k (RatioOf ratio)) (common_to_it p k (RatioOf ratio));
        }

-- ---- a core whose sums are made anew where the condition of a ratio allows

module _ (plus : ℕ → ℕ → ℕ) (law : Lawful plus) (shape : ShapeOf) (k : ℕ) (clique : IsClique shape.tree k) (ratio : TradeRatio) (table before : TableOf) (full : length before.digits ≡ cells_in before.scope) (moved : table.shift ≡ before.shift + 40) where
  -- the others' sums have them under the greater shift, where the condition holds nowhere
  module _ (p : Placing) (placed : IsPlacedIn shape (with_factor_in k (RatioOf ratio) p) k table) (had : HasSums plus shape p k before) where
    abbrev with_it : Placing
    with_it = with_factor_in k (RatioOf ratio) p

    abbrev now : ℕ → ℕ
    now c = placed_there with_it k (values_at table.scope c)

    abbrev IsOutside : ℕ → Type 0
    IsOutside d = All (λ c. holds_there ratio.condition (values_at table.scope c) ≡ false) (cells_onto before.scope table.scope d)

    part_is : before.scope ≡ scope_within p.network (in_core shape.tree k)
    part_is = had.scope_is ∙ placed.shape_is.core_scopes k clique

    whole_is : table.scope ≡ scope_within p.network (holds shape.tree k)
    whole_is = placed.cells.scope_is ∙ placed.shape_is.clique_scopes k clique

    sum_outside : (d : ℕ) → d < cells_in before.scope → IsOutside d → core_there plus shape.tree p k (values_at before.scope d) * 2 ^ 40 ≡ plus_over plus 0 now (cells_onto before.scope table.scope d)
    sum_outside d l none =
        ap (λ n. n * 2 ^ 40) (sym (margin_onto_core plus law p.network shape.tree k before.scope table.scope part_is whole_is (placed_there p k) d l))
        ∙ plus_scaled plus law now (λ c. placed_there p k (values_at table.scope c)) (2 ^ 40) (cells_onto before.scope table.scope d)
        (All-weaker (λ c. holds_there ratio.condition (values_at table.scope c) ≡ false) (λ c. placed_there p k (values_at table.scope c) * 2 ^ 40 ≡ now c)
        (λ c e. ap (λ (b : Bool). placed_there p k (values_at table.scope c) * cond b (slice_index ratio.factors (values_at table.scope c ratio.variable)) (2 ^ 40)) (sym e) ∙ factor_here p k (RatioOf ratio) (values_at table.scope c))
        (cells_onto before.scope table.scope d) none)

    steps_are : core_steps shape.tree p k + 1 ≡ factors_in with_it k + (2 * cells_beside before.scope table.scope - 1)
    steps_are = let n = beside_core p.network shape.tree k before.scope table.scope part_is whole_is in let more = counted_here p k (RatioOf ratio) in omega (arith, n, more)

    right_outside : IsMarginBut plus ratio.condition table before now (factors_in with_it k)
    right_outside = record {
      stand = λ d l none.
          subst (λ s. StandsAt s (slice_index before.digits d) (slice_index before.exponents d) (plus_over plus 0 now (cells_onto before.scope table.scope d)) (factors_in with_it k + (2 * cells_beside before.scope table.scope - 1))) (sym moved)
          (subst (λ n. StandsAt (before.shift + 40) (slice_index before.digits d) (slice_index before.exponents d) (plus_over plus 0 now (cells_onto before.scope table.scope d)) n) steps_are
          (subst (λ v. StandsAt (before.shift + 40) (slice_index before.digits d) (slice_index before.exponents d) v (core_steps shape.tree p k + 1)) (sum_outside d l none)
          (untouched_stands before.shift 40 (slice_index before.digits d) (slice_index before.exponents d) (core_there plus shape.tree p k (values_at before.scope d)) (core_steps shape.tree p k) (omega arith)
          (had.numbers.stand.each d (omega (arith, l, full))))));
      own = λ d l none untouched.
          subst (λ s. IsOwnAt s (slice_index before.digits d) (slice_index before.exponents d) (plus_over plus 0 now (cells_onto before.scope table.scope d)) (factors_in with_it k + (2 * cells_beside before.scope table.scope - 1))) (sym moved)
          (subst (λ n. IsOwnAt (before.shift + 40) (slice_index before.digits d) (slice_index before.exponents d) (plus_over plus 0 now (cells_onto before.scope table.scope d)) n) steps_are
          (subst (λ v. IsOwnAt (before.shift + 40) (slice_index before.digits d) (slice_index before.exponents d) v (core_steps shape.tree p k + 1)) (sum_outside d l none)
          (own_shifted (slice_index before.digits d) (slice_index before.exponents d) before.shift 40 (core_there plus shape.tree p k (values_at before.scope d)) (core_steps shape.tree p k)
          (had.numbers.own d (omega (arith, l, full)) untouched))));
    }

  pub followed_again : (after : TableOf) → after.scope ≡ before.scope → after.shift ≡ table.shift → length after.digits ≡ cells_in after.scope
      → ((f : ℕ → ℕ) (n : ℕ) → HasNumbers table f n → IsMarginBut plus ratio.condition table before f n
      → HasNumbers after (λ d. plus_over plus 0 f (cells_onto before.scope table.scope d)) (n + (2 * cells_beside before.scope table.scope - 1)))
      → KeepsPairs before.scope table.touched before.touched after.touched → IsFollowed plus shape k ratio table before after
  followed_again after scope shift long numbers touched = λ p fits placed had.
      sums_onto shape (with_factor_in k (RatioOf ratio) p) placed.shape_is placed.placing plus law k clique table before after placed.cells had.scope_is scope shift long
      (numbers (λ c. placed_there (with_factor_in k (RatioOf ratio) p) k (values_at table.scope c)) (factors_in (with_factor_in k (RatioOf ratio) p) k) placed.cells.numbers (right_outside p placed had))
      (record {
        shifted = shift ∙ placed.cells.ratios.shifted;
        none = λ z. absurd (let n = ratio_here p k (RatioOf ratio) refl in omega (arith, n, z));
        kept = λ q common v.
            let w : has_variable before.scope q.variable ≡ true = subst (λ (s : ScopeOf). has_variable s q.variable ≡ true) scope v in
            touched.pairs q w
            (placed.cells.ratios.kept q common
            (in_clique shape (with_factor_in k (RatioOf ratio) p) placed.shape_is placed.placing plus law k clique before.scope table.scope had.scope_is placed.cells.scope_is q.variable w))
            (had.ratios.kept q (common_before p k (RatioOf ratio) q common) w);
      })
