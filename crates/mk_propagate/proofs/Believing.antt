-- The plus, over the cells of an event, of a clique's table times the messages from all its neighbours is the exact belief, within the grade of a reading.
use Rattle.std.proofs.Common.{◌≡◌, ℕ, ◌+◌, ◌-◌, ◌*◌, ◌<◌, ◌≤◌, Bool, true, false, cond, not, ◌&&◌, ◌||◌, ◌⊎◌, inl, inr, ◌^◌, List, [], ◌∷◌, map, length, None, slice_index, refl, sym, ap, subst, ◌∙◌, arith, mul-one, ne_eqb}
use Rattle.std.proofs.Math.Path.{fun_ext}
use Rattle.std.proofs.Math.Nat.{mul_assoc, mul_comm, mul-le-mul_left, pow-le-pow_right}
use Rattle.std.specs.List.{AllByRecursion, list_all}
use Rattle.std.proofs.lemmas.Bool.{and_parts, both_ways, cases_Bool}
use Rattle.std.proofs.lemmas.List.Elements.{All-weaker, All-contains, All-from_recursion, recursion_from_All}
use Rattle.mk_net.specs.declared.words.Pair.{Pair}
use Rattle.mk_sets.specs.Sets.{is_member, no_variables}
use Rattle.mk_states.specs.States.{plus_over}
use Rattle.mk_states.specs.Lawful.{Lawful}
use Rattle.mk_net.specs.Network.{sizes}
use Rattle.mk_sums.specs.Joint.{variables, where_holds}
use Rattle.mk_sums.specs.Sums.{upd, over, Blind}
use Rattle.mk_sums.specs.There.{holds_there}
use Rattle.mk_sums.proofs.Sums.{over-times, over-union, over_agree}
use Rattle.mk_sums.specs.Trees.{linked_to, times_of}
use Rattle.mk_sums.proofs.Sets.{times_agree}
use Rattle.mk_scope.specs.Scopes.{ScopeOf, PlacesOf, cells_in, has_variable, HasEvent}
use Rattle.mk_scope.specs.Cells.{values_at, cell_in, cells_where}
use Rattle.mk_table.specs.Tables.{TableOf, HasRoom, is_untouched}
use Rattle.mk_table.specs.Ratios.{keeps, HasRatios}
use Rattle.mk_table.proofs.RatiosKept.{all_kept, untouched_by}
use Rattle.mk_scope.proofs.Chosen.{chosen_pass}
use Rattle.mk_table.proofs.Owned.{plus_scaled}
use Rattle.mk_tree.proofs.Cells.{cells_positive}
use Rattle.mk_tree.specs.Given.{GivenTree, clique_at, holds, link_of, holds_event}
use Rattle.mk_engine.specs.Meaning.{Factor, exact_belief, whole_sum}
use Rattle.mk_engine.specs.Apart.{HasCondition, IsApart, without_ratios}
use Rattle.mk_engine.proofs.Apart.{ratio_count, apart_at_most}
use Rattle.mk_plan.specs.Shapes.{ShapeOf, IsClique, clique_scope, core_scope, clique_cells, scope_within, in_core, neighbours}
use Rattle.mk_propagate.specs.Placings.{Placing, PlacedFactor, IsCommon, placed_there, factors_in, ratios_in, meaning_of}
use Rattle.mk_propagate.specs.Flows.{FlowOf, HasCells, HasSums, HasPlaced, core_there, core_steps, AreRightInto, IsRight, IsReading, exact_message, all_cells, reading_grade, table_at}
use Rattle.mk_propagate.specs.inner.Kept.{IsKept}
use Rattle.mk_propagate.specs.inner.Gathered.{is_input, gathered, gathered_steps, gathered_ratios, HasGathered, HasInto}
use Rattle.mk_propagate.specs.inner.Totals.{HaveTotal, IsTotal, total_of}
use Rattle.mk_plan.proofs.Scopes.{has_within, clique_counted}
use Rattle.mk_plan.proofs.Cores.{core_part}
use Rattle.mk_propagate.proofs.Margins.{apart, parted, total_over, values_of_part}
use Rattle.mk_propagate.proofs.Inputs.{times_inputs, times_same}
use Rattle.mk_propagate.proofs.Ratios.{ratios_counted, ratios_read, none_gathered}
use Rattle.mk_propagate.proofs.Grading.{few_grades, reading_steps, most_parts}
use Rattle.mk_propagate.proofs.Readings.{pairs_read, read_there, belief_is_read, belief_at_most}
use Rattle.mk_propagate.proofs.Messages.{message_within, shared_in_core, core_cells, core_room, few_core_steps, table_room, whole_room}
use Rattle.mk_propagate.proofs.Placed.{sum_same}
use Rattle.mk_plan.proofs.Required.{all_pass}
use Rattle.mk_propagate.proofs.Sending.{can_take}
use Rattle.mk_propagate.proofs.Marks.{all_linked}

pub all_inputs : (plus : ℕ → ℕ → ℕ) (flow : FlowOf) (p : Placing) (k : ℕ) → AreRightInto plus flow p k → (i : ℕ) → is_input flow.shape.tree k None i ≡ true → IsRight plus flow p i k
all_inputs plus flow p k right i h = right i (all_linked flow.shape.tree k None i h)

-- the messages into a clique, taken from the parts of a kept flow
pub into_there : (plus : ℕ → ℕ → ℕ) (flow : FlowOf) (k : ℕ) (p : Placing) → HasPlaced plus flow p → AreRightInto plus flow p k
    → (shape : ShapeOf) (upward downward : List TableOf) → shape ≡ flow.shape → upward ≡ flow.upward → downward ≡ flow.downward → (t : TableOf) → HasInto plus shape upward downward k None t
    → HasGathered plus flow.shape k None (neighbours flow.shape.tree k) t p
into_there plus flow k p has right shape upward downward s u d t h =
    subst (λ (x : ShapeOf). HasGathered plus x k None (neighbours x.tree k) t p) s
    (h.into p (can_take plus flow p k None has (all_inputs plus flow p k right) shape upward downward s u d))

module _ (plus : ℕ → ℕ → ℕ) (law : Lawful plus) (flow : FlowOf) (products : List TableOf) (cells : ℕ) (kept : IsKept flow products cells) (k : ℕ) (event : List Pair) (table : TableOf) (is : table_at flow k ≡ table) (into : TableOf)
    (p : Placing) (has : HasPlaced plus flow p) (clique : IsClique flow.shape.tree k) (inside : holds_event event (clique_at flow.shape.tree k) ≡ true)
    (g : HasGathered plus flow.shape k None (neighbours flow.shape.tree k) into p) where
  abbrev tree : GivenTree
  tree = flow.shape.tree

  pub placed : HasCells table (clique_scope flow.shape k) (placed_there p k) (factors_in p k) (factors_in p k) (ratios_in p k) (IsCommon p)
  placed = subst (λ (t : TableOf). HasCells t (clique_scope flow.shape k) (placed_there p k) (factors_in p k) (factors_in p k) (ratios_in p k) (IsCommon p)) is (has.tables k clique)

  scope_is : table.scope ≡ scope_within p.network (holds tree k)
  scope_is = placed.scope_is ∙ has.shape_is.clique_scopes k clique

  core_is : into.scope ≡ scope_within p.network (in_core tree k)
  core_is = g.cells.scope_is ∙ has.shape_is.core_scopes k clique

  -- the clique has the event, and room for its total
  pub event_there : HasEvent table.scope event
  event_there =
      subst (λ (s : ScopeOf). HasEvent s event) (sym scope_is)
      (All-weaker (λ (q : Pair). is_member (clique_at tree k) q.variable ≡ true) (λ (q : Pair). has_variable (scope_within p.network (holds tree k)) q.variable ≡ true)
      (λ q h. has_within p.network (holds tree k) q.variable (has.shape_is.tree_is.of_network (k - 1) no_variables (omega (arith, clique.first, clique.last)) q.variable h) h)
      event (all_pass (λ (q : Pair). is_member (clique_at tree k) q.variable) event inside))

  pub total_room : HasRoom table (2 * cells_in table.scope)
  total_room = table_room flow.shape p has.shape_is has.placing plus law k clique table placed

  pub into_room : HasRoom into 1
  into_room = whole_room flow.shape p has.shape_is has.placing plus law k clique None into g

  pub total_places : (places : PlacesOf) → places ≡ record { whole = clique_scope flow.shape k; part = core_scope flow.shape k } → places ≡ record { whole = table.scope; part = into.scope }
  total_places places e =
      e ∙ ap (λ (s : ScopeOf). record { whole = s; part = core_scope flow.shape k }) (sym placed.scope_is) ∙ ap (λ (s : ScopeOf). record { whole = table.scope; part = s }) (sym g.cells.scope_is)

  -- the grade, as it is counted
  abbrev pub counted_grade : ℕ
  counted_grade = flow.factors + cells + 2 * (length tree.cliques - 1) + cells_in table.scope

  all_cells_are : cells ≡ all_cells tree p
  all_cells_are = kept.cells_are ∙ sum_same (λ j. true) (length tree.cliques) (λ j. cells_in (clique_scope flow.shape j)) (clique_cells p.network tree) (λ j q r _. ap cells_in (has.shape_is.clique_scopes j (record { first = q; last = r })))

  pub grade_is : counted_grade ≡ reading_grade tree p k
  grade_is = let a = all_cells_are in let s = ap cells_in scope_is in let n = has.counted in omega (arith, a, s, n)

  pub some_cells : 1 ≤ cells_in table.scope
  some_cells = let s = ap cells_in scope_is in let e = clique_counted p.network tree k in let c = cells_positive p.network (clique_at tree k) has.shape_is.legal in omega (arith, s, e, c)

  pub few_before : flow.factors + cells + 2 * length tree.cliques ≤ most_parts
  few_before = let a = all_cells_are in let n = has.counted in let l = few_grades flow.shape p has.shape_is has.placing in omega (arith, a, n, l)

  -- the total
  abbrev taken : (ℕ → ℕ) → ℕ
  taken = gathered plus tree p k None (neighbours tree k)

  abbrev pub totalled : ℕ
  totalled = plus_over plus 0 (λ c. placed_there p k (values_at table.scope c) * taken (values_at into.scope (cell_in into.scope table.scope c))) (cells_where table.scope event)

  -- it is what is read there, cell by cell
  abbrev messages : (ℕ → ℕ) → ℕ
  messages = times_of (linked_to (link_of tree) (length tree.cliques) k) (length tree.cliques) (λ i. exact_message plus tree p i k)

  all_taken : (a : ℕ → ℕ) → taken a ≡ messages a
  all_taken a =
      times_inputs tree k None (λ i. exact_message plus tree p i k) a
      ∙ times_agree (λ i. exact_message plus tree p i k) (is_input tree k None) (linked_to (link_of tree) (length tree.cliques) k) (length tree.cliques) a (λ j _ _. and_true (linked_to (link_of tree) (length tree.cliques) k j))
    where
      and_true : (b : Bool) → (b && true) ≡ b
      and_true true = refl
      and_true false = refl

  messages_there : (c : ℕ) → c < cells_in (scope_within p.network (holds tree k))
      → messages (values_at (scope_within p.network (in_core tree k)) (cell_in (scope_within p.network (in_core tree k)) (scope_within p.network (holds tree k)) c)) ≡ messages (values_at (scope_within p.network (holds tree k)) c)
  messages_there c l =
      times_same (linked_to (link_of tree) (length tree.cliques) k) (length tree.cliques) (λ i. exact_message plus tree p i k)
      (values_at (scope_within p.network (in_core tree k)) (cell_in (scope_within p.network (in_core tree k)) (scope_within p.network (holds tree k)) c)) (values_at (scope_within p.network (holds tree k)) c)
      (λ i h.
      message_within flow.shape p has.shape_is has.placing plus law i k
      (values_at (scope_within p.network (in_core tree k)) (cell_in (scope_within p.network (in_core tree k)) (scope_within p.network (holds tree k)) c)) (values_at (scope_within p.network (holds tree k)) c)
      (λ x q.
      let both = and_parts (holds tree i x) (holds tree k x) q in
      let n : x < length p.network = has.shape_is.tree_is.of_network (k - 1) no_variables (omega (arith, clique.first, clique.last)) x both.1 in
      values_of_part plus law p.network (in_core tree k) (holds tree k) (core_part tree k) c l x
      (has_within p.network (in_core tree k) x n (shared_in_core flow.shape p has.shape_is has.placing plus law i k h x q))))

  cell_is : (c : ℕ) → c < cells_in (scope_within p.network (holds tree k))
      → placed_there p k (values_at (scope_within p.network (holds tree k)) c) * taken (values_at (scope_within p.network (in_core tree k)) (cell_in (scope_within p.network (in_core tree k)) (scope_within p.network (holds tree k)) c)) * 1
      ≡ read_there flow.shape p has.shape_is has.placing plus law event k (values_at (scope_within p.network (holds tree k)) c)
  cell_is c l =
      mul-one _ ∙ ap (λ n. placed_there p k (values_at (scope_within p.network (holds tree k)) c) * n)
      (all_taken (values_at (scope_within p.network (in_core tree k)) (cell_in (scope_within p.network (in_core tree k)) (scope_within p.network (holds tree k)) c)) ∙ messages_there c l)

  pub total_is : totalled ≡ exact_belief plus (meaning_of tree p) event
  total_is =
      ap (λ (s : ScopeOf). plus_over plus 0 (λ c. placed_there p k (values_at s c) * taken (values_at into.scope (cell_in into.scope s c))) (cells_where s event)) scope_is
      ∙ ap (λ (s : ScopeOf). plus_over plus 0 (λ c. placed_there p k (values_at (scope_within p.network (holds tree k)) c) * taken (values_at s (cell_in s (scope_within p.network (holds tree k)) c))) (cells_where (scope_within p.network (holds tree k)) event)) core_is
      ∙ sym (mul-one _)
      ∙ plus_scaled plus law (λ c. read_there flow.shape p has.shape_is has.placing plus law event k (values_at (scope_within p.network (holds tree k)) c))
      (λ c. placed_there p k (values_at (scope_within p.network (holds tree k)) c) * taken (values_at (scope_within p.network (in_core tree k)) (cell_in (scope_within p.network (in_core tree k)) (scope_within p.network (holds tree k)) c))) 1
      (cells_where (scope_within p.network (holds tree k)) event)
      (All-weaker (λ c. (holds_there event (values_at (scope_within p.network (holds tree k)) c) ≡ true) × (c < cells_in (scope_within p.network (holds tree k)))) _ (λ c h. cell_is c h.1) (cells_where (scope_within p.network (holds tree k)) event)
      (chosen_pass (λ c. holds_there event (values_at (scope_within p.network (holds tree k)) c)) (cells_in (scope_within p.network (holds tree k)))))
      ∙ belief_is_read flow.shape p has.shape_is has.placing plus law event k clique inside

  abbrev steps : ℕ
  steps = factors_in p k + gathered_steps tree p k None (neighbours tree k) + 2 * cells_in table.scope + 1

  pub few : (grade : ℕ) → grade ≡ counted_grade → steps ≤ 3 * grade
  few grade is = let l = reading_steps flow.shape p has.shape_is has.placing k clique None in let e = grade_is in let s = ap cells_in scope_is in let n = some_cells in omega (arith, l, e, s, is, n)

  abbrev pub can_total : (grade : ℕ) → grade ≡ counted_grade → HaveTotal table into grade
  can_total grade is = record {
    numbers = λ c. placed_there p k (values_at table.scope c);
    others = λ d. taken (values_at into.scope d);
    steps = factors_in p k;
    other_steps = gathered_steps tree p k None (neighbours tree k);
    has = placed.numbers;
    has_others = g.cells.numbers;
    within = few grade is;
  }

  -- ---- an event that is apart

  module _ (h : IsApart (meaning_of tree p) event) where
    common : IsCommon p h.pair
    common =
        All-from_recursion (λ (f : PlacedFactor). HasCondition h.pair f.factor) p.factors
        (each_of_map (HasCondition h.pair) p.factors (recursion_from_All (HasCondition h.pair) (meaning_of tree p).factors h.in_each))
      where
        each_of_map : (P : Factor → Type 0) (fs : List PlacedFactor) → AllByRecursion P (map (λ (f : PlacedFactor). f.factor) fs) → AllByRecursion (λ (f : PlacedFactor). P f.factor) fs
        each_of_map P [] e = e
        each_of_map P (f ∷ fs) e = (e.0, each_of_map P fs e.1)

    -- the clique holds its pair's variable
    held_here : holds tree k h.pair.variable ≡ true
    held_here =
        subst (λ x. holds tree k x ≡ true) h.same_variable
        (All-contains (λ (q : Pair). is_member (clique_at tree k) q.variable ≡ true) event h.other (all_pass (λ (q : Pair). is_member (clique_at tree k) q.variable) event inside) h.in_event)

    kept_untouched : (t : TableOf) → keeps t.touched h.pair ≡ true → is_untouched t event ≡ true
    kept_untouched t kept = untouched_by t.touched event h.pair h.other kept h.in_event h.same_variable h.another_value

    -- so no ratio of the clique or of a message touched the event
    table_untouched : is_untouched table event ≡ true
    table_untouched =
        kept_untouched table
        (placed.ratios.kept h.pair common
        (subst (λ (s : ScopeOf). has_variable s h.pair.variable ≡ true) (sym scope_is)
        (has_within p.network (holds tree k) h.pair.variable (has.shape_is.tree_is.of_network (k - 1) no_variables (omega (arith, clique.first, clique.last)) h.pair.variable held_here) held_here)))

    core_untouched : (t : TableOf) (count : ℕ) → t.scope ≡ scope_within p.network (in_core tree k) → HasRatios t count (IsCommon p) → in_core tree k h.pair.variable ≡ true → is_untouched t event ≡ true
    core_untouched t count e ratios inner =
        kept_untouched t
        (ratios.kept h.pair common
        (subst (λ (s : ScopeOf). has_variable s h.pair.variable ≡ true) (sym e)
        (has_within p.network (in_core tree k) h.pair.variable (has.shape_is.tree_is.of_network (k - 1) no_variables (omega (arith, clique.first, clique.last)) h.pair.variable held_here) inner)))

    into_untouched : is_untouched into event ≡ true
    into_untouched = at (cases_Bool (in_core tree k h.pair.variable))
      where
        at : ((in_core tree k h.pair.variable ≡ true) ⊎ (in_core tree k h.pair.variable ≡ false)) → is_untouched into event ≡ true
        at (inl inner) = core_untouched into (gathered_ratios tree p k None (neighbours tree k)) core_is g.cells.ratios inner
        at (inr outer) = kept_untouched into (all_kept into.touched h.pair (g.cells.ratios.none (none_gathered flow.shape p has.shape_is has.placing k clique h.pair common held_here outer)))

    -- and what is left of the total under no shift is small where the sum without the ratios is
    total_apart : (t : TableOf) → t.shift ≡ 40 * ratios_in p k → (total : ℕ) → total ≡ exact_belief plus (meaning_of tree p) event → total ≤ whole_sum (without_ratios (meaning_of tree p)) * 2 ^ (t.shift + into.shift)
    total_apart t shift total e =
        let l = apart_at_most plus law (meaning_of tree p) event h in
        let c = ratios_counted flow.shape p has.shape_is has.placing in let r = ratios_read flow.shape p has.shape_is has.placing k clique in let s = g.cells.ratios.shifted in
        let few : 40 * ratio_count (meaning_of tree p).factors ≤ t.shift + into.shift = omega (arith, c, r, s, shift) in
        let m = mul-le-mul_left (whole_sum (without_ratios (meaning_of tree p))) (pow-le-pow_right {n = 2} (omega arith) few) in
        omega (arith, l, m, e)

  -- what encloses the total of a table's cells and the messages is a reading, where the total is the belief
  reads : (t : TableOf) → t.shift ≡ 40 * ratios_in p k → (IsApart (meaning_of tree p) event → is_untouched t event ≡ true) → (grade : ℕ) → grade ≡ counted_grade
      → (can : HaveTotal t into grade) → total_of plus t into event can.numbers can.others ≡ exact_belief plus (meaning_of tree p) event
      → {V : Type 0} (encloses : V → ℕ → Type 0) (has_grade : V → ℕ → Type 0) (is_exact : V → Type 0) (r : V) → IsTotal encloses has_grade is_exact plus t into event grade r
      → IsReading encloses has_grade is_exact plus tree p k event r
  reads t shift untouched grade is can total encloses has_grade is_exact r value = record {
    enclosed = subst (encloses r) total (value.enclosed can.numbers can.others can.steps can.other_steps can.has can.has_others can.within);
    grade = subst (has_grade r) (is ∙ grade_is) value.has;
    exact = λ small.
        let l = belief_at_most plus law (meaning_of tree p) event in
        value.exact can.numbers can.others can.steps can.other_steps can.has can.has_others can.within (omega (arith, total, l, small));
    apart = λ h.
        value.apart (untouched h) (into_untouched h) can.numbers can.others can.steps can.other_steps can.has can.has_others can.within
        (whole_sum (without_ratios (meaning_of tree p))) (total_apart h t shift (total_of plus t into event can.numbers can.others) total);
  }

  pub reading_of : (grade : ℕ) → grade ≡ counted_grade → {V : Type 0} (encloses : V → ℕ → Type 0) (has_grade : V → ℕ → Type 0) (is_exact : V → Type 0) (r : V)
      → IsTotal encloses has_grade is_exact plus table into event grade r → IsReading encloses has_grade is_exact plus tree p k event r
  reading_of grade is encloses has_grade is_exact r value =
      reads table placed.ratios.shifted table_untouched grade is (can_total grade is) total_is encloses has_grade is_exact r value

  -- ---- read in the core, where it has the event and the sums

  module _ (core : TableOf) (core_placed : HasSums plus flow.shape p k core) (within_core : list_all (λ (q : Pair). in_core tree k q.variable) event ≡ true) where
    abbrev size : ℕ → ℕ
    size = slice_index (sizes p.network)

    abbrev vars : List ℕ
    vars = variables (sizes p.network)

    abbrev own : ℕ → Bool
    own x = holds tree k x && not (in_core tree k x)

    abbrev there : (ℕ → ℕ) → ℕ
    there = core_there plus tree p k

    abbrev scope_of_core : ScopeOf
    scope_of_core = scope_within p.network (in_core tree k)

    core_scope_is : core.scope ≡ scope_of_core
    core_scope_is = core_placed.scope_is ∙ has.shape_is.core_scopes k clique

    pub core_event : HasEvent core.scope event
    core_event =
        subst (λ (s : ScopeOf). HasEvent s event) (sym core_scope_is)
        (All-weaker (λ (q : Pair). in_core tree k q.variable ≡ true) (λ (q : Pair). has_variable scope_of_core q.variable ≡ true)
        (λ q h. has_within p.network (in_core tree k) q.variable (has.shape_is.tree_is.of_network (k - 1) no_variables (omega (arith, clique.first, clique.last)) q.variable (core_part tree k q.variable h)) h)
        event (all_pass (λ (q : Pair). in_core tree k q.variable) event within_core))

    pub core_total_room : HasRoom core (2 * cells_in core.scope)
    core_total_room = core_room flow.shape p has.shape_is has.placing plus law k clique core core_placed

    pub own_places_there : (places : PlacesOf) → places ≡ record { whole = core_scope flow.shape k; part = core_scope flow.shape k } → places ≡ record { whole = core.scope; part = into.scope }
    own_places_there places e =
        e ∙ ap (λ (s : ScopeOf). record { whole = s; part = core_scope flow.shape k }) (sym core_placed.scope_is) ∙ ap (λ (s : ScopeOf). record { whole = core.scope; part = s }) (sym g.cells.scope_is)

    -- a variable that lies in the core is none of the clique's own
    moved_same : (a : ℕ → ℕ) (x v : ℕ) → own x ≡ true → (y : ℕ) → in_core tree k y ≡ true → upd a x v y ≡ a y
    moved_same a x v h y q =
        ap (λ b. cond b v (a y)) (ne_eqb y x (λ e. both_ways (own x) (subst (λ z. own z ≡ false) e (apart plus law p.network (in_core tree k) (holds tree k) (core_part tree k) y q)) h))

    -- the event and the messages read the core alone
    abbrev around : (ℕ → ℕ) → ℕ
    around t = where_holds event t * messages t

    around_blind : Blind own around
    around_blind a x v h =
        let e : where_holds event (upd a x v) ≡ where_holds event a = ap (λ b. cond b 1 0) (pairs_read (in_core tree k) (upd a x v) a (moved_same a x v h) event within_core) in
        let m : messages (upd a x v) ≡ messages a =
        times_same (linked_to (link_of tree) (length tree.cliques) k) (length tree.cliques) (λ i. exact_message plus tree p i k) (upd a x v) a
        (λ i l. message_within flow.shape p has.shape_is has.placing plus law i k (upd a x v) a (λ y q. moved_same a x v h y (shared_in_core flow.shape p has.shape_is has.placing plus law i k l y q))) in
        ap (λ n. n * messages (upd a x v)) e ∙ ap (λ n. where_holds event a * n) m

    turned : (w c m : ℕ) → w * (c * m) ≡ w * m * c
    turned w c m = ap (λ n. w * n) (mul_comm c m) ∙ sym (mul_assoc w m c)

    -- what was summed over the clique's own variables, summed over those of the core
    core_nest : over plus size (in_core tree k) vars (λ t. where_holds event t * (there t * messages t)) (λ x. 0)
        ≡ over plus size (holds tree k) vars (λ t. where_holds event t * (placed_there p k t * messages t)) (λ x. 0)
    core_nest =
        ap (λ (f : (ℕ → ℕ) → ℕ). over plus size (in_core tree k) vars f (λ x. 0))
        (fun_ext (λ t. turned (where_holds event t) (there t) (messages t) ∙ sym (over-times plus law size own vars around (placed_there p k) t around_blind)))
        ∙ sym (over-union plus law size (in_core tree k) own vars (λ t. around t * placed_there p k t) (λ x. 0) (apart plus law p.network (in_core tree k) (holds tree k) (core_part tree k)))
        ∙ sym (over_agree plus law size (holds tree k) (λ x. in_core tree k x || own x) vars (λ t. around t * placed_there p k t) (λ x. 0)
        (λ x _. parted plus law p.network (in_core tree k) (holds tree k) (core_part tree k) x))
        ∙ ap (λ (f : (ℕ → ℕ) → ℕ). over plus size (holds tree k) vars f (λ x. 0)) (fun_ext (λ t. sym (turned (where_holds event t) (placed_there p k t) (messages t))))

    -- each cell of the core is its own
    core_messages_there : (c : ℕ) → c < cells_in scope_of_core → messages (values_at scope_of_core (cell_in scope_of_core scope_of_core c)) ≡ messages (values_at scope_of_core c)
    core_messages_there c l =
        times_same (linked_to (link_of tree) (length tree.cliques) k) (length tree.cliques) (λ i. exact_message plus tree p i k)
        (values_at scope_of_core (cell_in scope_of_core scope_of_core c)) (values_at scope_of_core c)
        (λ i h.
        message_within flow.shape p has.shape_is has.placing plus law i k (values_at scope_of_core (cell_in scope_of_core scope_of_core c)) (values_at scope_of_core c)
        (λ x q.
        let both = and_parts (holds tree i x) (holds tree k x) q in
        let n : x < length p.network = has.shape_is.tree_is.of_network (k - 1) no_variables (omega (arith, clique.first, clique.last)) x both.1 in
        values_of_part plus law p.network (in_core tree k) (in_core tree k) (λ y z. z) c l x
        (has_within p.network (in_core tree k) x n (shared_in_core flow.shape p has.shape_is has.placing plus law i k h x q))))

    abbrev pub core_totalled : ℕ
    core_totalled = plus_over plus 0 (λ c. there (values_at core.scope c) * taken (values_at into.scope (cell_in into.scope core.scope c))) (cells_where core.scope event)

    pub core_total_is : core_totalled ≡ exact_belief plus (meaning_of tree p) event
    core_total_is =
        ap (λ (s : ScopeOf). plus_over plus 0 (λ c. there (values_at s c) * taken (values_at into.scope (cell_in into.scope s c))) (cells_where s event)) core_scope_is
        ∙ ap (λ (s : ScopeOf). plus_over plus 0 (λ c. there (values_at scope_of_core c) * taken (values_at s (cell_in s scope_of_core c))) (cells_where scope_of_core event)) core_is
        ∙ sym (mul-one _)
        ∙ plus_scaled plus law (λ c. there (values_at scope_of_core c) * messages (values_at scope_of_core c))
        (λ c. there (values_at scope_of_core c) * taken (values_at scope_of_core (cell_in scope_of_core scope_of_core c))) 1 (cells_where scope_of_core event)
        (All-weaker (λ c. (holds_there event (values_at scope_of_core c) ≡ true) × (c < cells_in scope_of_core)) _
        (λ c h. mul-one _ ∙ ap (λ n. there (values_at scope_of_core c) * n) (all_taken (values_at scope_of_core (cell_in scope_of_core scope_of_core c)) ∙ core_messages_there c h.1))
        (cells_where scope_of_core event) (chosen_pass (λ c. holds_there event (values_at scope_of_core c)) (cells_in scope_of_core)))
        ∙ total_over plus law p.network (in_core tree k) event (λ t. there t * messages t)
        ∙ core_nest
        ∙ sym (total_over plus law p.network (holds tree k) event (read_there flow.shape p has.shape_is has.placing plus law event k))
        ∙ belief_is_read flow.shape p has.shape_is has.placing plus law event k clique inside

    pub core_few : (grade : ℕ) → grade ≡ counted_grade → core_steps tree p k + gathered_steps tree p k None (neighbours tree k) + 2 * cells_in core.scope + 1 ≤ 3 * grade
    core_few grade is =
        let l = reading_steps flow.shape p has.shape_is has.placing k clique None in let e = grade_is in let s = ap cells_in scope_is in let n = some_cells in
        let d = ap cells_in core_scope_is in let f = core_cells flow.shape p has.shape_is has.placing plus law k in let m = few_core_steps flow.shape p has.shape_is has.placing plus law k clique in
        omega (arith, l, e, s, is, n, d, f, m)

    abbrev pub core_can_total : (grade : ℕ) → grade ≡ counted_grade → HaveTotal core into grade
    core_can_total grade is = record {
      numbers = λ c. there (values_at core.scope c);
      others = λ d. taken (values_at into.scope d);
      steps = core_steps tree p k;
      other_steps = gathered_steps tree p k None (neighbours tree k);
      has = core_placed.numbers;
      has_others = g.cells.numbers;
      within = core_few grade is;
    }

    pub core_reading_of : (grade : ℕ) → grade ≡ counted_grade → {V : Type 0} (encloses : V → ℕ → Type 0) (has_grade : V → ℕ → Type 0) (is_exact : V → Type 0) (r : V)
        → IsTotal encloses has_grade is_exact plus core into event grade r → IsReading encloses has_grade is_exact plus tree p k event r
    core_reading_of grade is encloses has_grade is_exact r value =
        reads core core_placed.ratios.shifted (λ h. core_untouched h core (ratios_in p k) core_scope_is core_placed.ratios (inner h)) grade is (core_can_total grade is) core_total_is
        encloses has_grade is_exact r value
      where
        -- the core has the pair's variable, as it has the event
        inner : (h : IsApart (meaning_of tree p) event) → in_core tree k h.pair.variable ≡ true
        inner h =
            subst (λ x. in_core tree k x ≡ true) h.same_variable
            (All-contains (λ (q : Pair). in_core tree k q.variable ≡ true) event h.other (all_pass (λ (q : Pair). in_core tree k q.variable) event within_core) h.in_event)
