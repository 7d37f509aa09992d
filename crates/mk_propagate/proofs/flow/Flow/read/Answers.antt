use Rattle.std.proofs.Common.{◌≡◌, ℕ, ◌+◌, ◌-◌, ◌*◌, ◌≤◌, length, slice_set, None, true}
use Rattle.std.proofs.Common.{slice_index_or, refl, sym, ap, subst, ◌∙◌, arith}
use Rattle.std.specs.List.{list_all}
use Rattle.mk_net.specs.declared.words.Pair.{Pair}
use Rattle.mk_enclose.specs.Enclosure.{widest_grade}
use Rattle.mk_scope.specs.Scopes.{cells_in}
use Rattle.mk_table.specs.Tables.{TableOf}
use Rattle.mk_plan.specs.Shapes.{ShapeOf, IsClique, clique_scope, core_scope, in_core}
use Rattle.mk_plan.specs.Shapes.{neighbours}
use Rattle.mk_propagate.specs.Placings.{Placing}
use Rattle.mk_propagate.specs.Flows.{FlowOf, HasPlaced, HasSums, KeepsTables, AreRightInto, CanRead}
use Rattle.mk_propagate.specs.Flows.{IsReading, table_at}
use Rattle.mk_propagate.specs.inner.Kept.{IsFlow}
use Rattle.mk_propagate.specs.inner.Gathered.{HasInto, HasGathered}
use Rattle.mk_propagate.specs.inner.Boards.{BoardOf, table_of, core_of, product_of, with_core}
use Rattle.mk_propagate.specs.inner.Boards.{with_product}
use Rattle.mk_propagate.proofs.Boards.{read_there, read_of}
use Rattle.mk_propagate.proofs.Grading.{most_parts}
use Rattle.mk_propagate.proofs.Calls.{flow_over, kept_messages}
use Rattle.mk_propagate.proofs.Sending.{can_take}
use Rattle.mk_propagate.proofs.Marks.{table_placed, sums_before, shift_before, flow_mid, mid_keeps}
use Rattle.mk_propagate.proofs.Marks.{gathered_there, flow_after}
use Rattle.mk_propagate.proofs.Believing.{all_inputs, into_there, event_there, total_room}
use Rattle.mk_propagate.proofs.Believing.{total_places, own_places_there, into_room, some_cells}
use Rattle.mk_propagate.proofs.Believing.{few_before, can_total, reading_of, core_event}
use Rattle.mk_propagate.proofs.Believing.{core_total_room, core_can_total, core_reading_of}
use Rattle.mk_propagate.proofs.flow.Flow.read.Given.{Over}
use Rattle.mk_propagate.proofs.flow.Flow.read.Goals.{After-refresh, After-cells-cells, After-sum_core}
use Rattle.mk_propagate.proofs.flow.Flow.read.Goals as goal

-- nothing was changed
keeps_all : (plus : ℕ → ℕ → ℕ) (flow now : FlowOf) → flow ≡ now → KeepsTables plus now flow
keeps_all plus flow now same =
    subst (λ (f : FlowOf). KeepsTables plus f flow) same
    (record { same_shape = refl; same_tables = refl; same_factors = refl; placed = λ p h. h })

-- what is read of a board whose product is fresh
module _ (start board : BoardOf) (k : ℕ) (only : board ≡ with_product start k (product_of board k)) where
  tables_are : table_of board k ≡ slice_index_or start.tables (k - 1) (table_of board k)
  tables_are = read_of start.tables board.tables (k - 1) (ap (λ (x : BoardOf). x.tables) only)

  cores_are : core_of board k ≡ slice_index_or start.cores (k - 1) (core_of board k)
  cores_are = read_of start.cores board.cores (k - 1) (ap (λ (x : BoardOf). x.cores) only)

pub refresh-requires : goal.refresh-requires
refresh-requires g c =
    let plus = g.R.Semiring.plus_of in let k = c.args.clique in let kept = c.self.invariant.kept in
    let start = c.self.inside.board in
    let can =
    subst (λ (f : FlowOf). CanRead plus f k c.args.event.now) (sym c.self.view_is) c.requires in
    let can_clique = λ (s : ShapeOf) (e : s ≡ c.self.inside.shape.value).
    subst (λ (x : ShapeOf). IsClique x.tree k) (sym e) can.clique_is in
    record {
      clique = can_clique c.deref.result.now c.deref.ensures;
      over = kept.one_each ∙ ap (λ (s : ShapeOf). length s.tree.cliques) (sym c.deref.ensures);
      scope =
          kept.products_are.scopes k can.clique_is
          ∙ ap (λ (s : ShapeOf). core_scope s k) (sym c.deref.ensures);
      right = (
        can.placing,
        can_take plus _ can.placing k None can.has (all_inputs plus _ can.placing k can.right)
            c.deref.result.now start.upward start.downward c.deref.ensures refl refl,
      );
      marked =
          gathered_there plus _ _ _ _ c.self.invariant k can.clique_is c.deref.result.now
          c.deref.ensures start.upward start.downward refl refl (product_of start k)
          (read_there start.products (k - 1)) c.index_mut.result.now c.index_mut.ensures.value;
    }

-- the product is fresh
module _ (g : Over) (c : After-refresh g) where
  abbrev plus : ℕ → ℕ → ℕ
  plus = g.R.Semiring.plus_of

  -- the flow as it was called, by its parts
  abbrev was : FlowOf
  was =
      let inside = c.self.inside in
      flow_over inside.shape.value inside.summed.items inside.factors inside.computed inside.board

  can : CanRead plus was c.args.clique c.args.event.now
  can =
      subst (λ (f : FlowOf). CanRead plus f c.args.clique c.args.event.now) (sym c.self.view_is)
      c.requires

  table_is : table_at was c.args.clique ≡ table_of c.refresh.new.board c.args.clique
  table_is = sym (ap (λ (x : BoardOf). table_of x c.args.clique) c.refresh.ensures.only)

  -- the messages into the clique are taken for each placing for which they are right
  into_it : (p : Placing) → HasPlaced plus was p → AreRightInto plus was p c.args.clique
      → (t : TableOf) → t ≡ product_of c.refresh.new.board c.args.clique
      → HasGathered plus was.shape c.args.clique None (neighbours was.shape.tree c.args.clique) t p
  into_it p has right t same =
      let start = c.self.inside.board in
      into_there plus was c.args.clique p has right c.deref.result.now start.upward start.downward
      c.deref.ensures refl refl t
      (subst (λ (u : TableOf).
      HasInto plus c.deref.result.now start.upward start.downward c.args.clique None u)
      (sym same) c.refresh.ensures.into)

  -- the counts that a grade is made of
  few : was.factors + c.self.inside.cells + 2 * length was.shape.tree.cliques ≤ most_parts
  few =
      let there = into_it can.placing can.has can.right _ refl in
      few_before plus g.met.R.Semiring.lawful was _ _ c.self.invariant.kept c.args.clique
      c.args.event.now _ table_is _ can.placing can.has can.clique_is can.holds_it there

  some : 1 ≤ cells_in (table_of c.refresh.new.board c.args.clique).scope
  some =
      let there = into_it can.placing can.has can.right _ refl in
      some_cells plus g.met.R.Semiring.lawful was _ _ c.self.invariant.kept c.args.clique
      c.args.event.now _ table_is _ can.placing can.has can.clique_is can.holds_it there

  fresh_kept : IsFlow plus (flow_over c.self.inside.shape.value c.self.inside.summed.items
      c.self.inside.factors c.self.inside.computed (with_product c.self.inside.board c.args.clique
      (product_of c.refresh.new.board c.args.clique)))
      (with_product c.self.inside.board c.args.clique
      (product_of c.refresh.new.board c.args.clique)).products
      (slice_set c.self.inside.gathered.items (c.args.clique - 1) c.refresh.new.gathered)
      c.self.inside.cells
  fresh_kept =
      let start = c.self.inside.board in let fresh = c.refresh.ensures in
      flow_after plus _ _ _ _ c.self.invariant c.args.clique can.clique_is
      c.deref.result.now c.deref.ensures start.upward start.downward refl refl
      (product_of start c.args.clique) (read_there start.products (c.args.clique - 1))
      (product_of c.refresh.new.board c.args.clique) c.refresh.new.gathered fresh.scope
      fresh.marked fresh.into

pub cells-cells-requires : goal.cells-cells-requires
cells-cells-requires g c =
    let can = can g (goal.at.cells-cells-requires g c).After-refresh in
    let long = ap (λ (x : BoardOf). length x.tables) c.refresh.ensures.only in
    record {
      first = can.clique_is.first;
      last = omega (arith, long, can.clique_is.last, c.self.invariant.kept.one_each);
    }

pub overflow_add-grade : goal.overflow_add-grade
overflow_add-grade g c =
    omega (arith, few g (goal.at.overflow_add-grade g c).After-refresh)

pub overflow_add-grade-2 : goal.overflow_add-grade-2
overflow_add-grade-2 g c =
    let count = c.cliques-separators.ensures.count
    ∙ ap (λ (s : ShapeOf). length s.tree.cliques) c.deref-2.ensures in
    omega (arith, count, few g (goal.at.overflow_add-grade-2 g c).After-refresh)

pub overflow_add-grade-3 : goal.overflow_add-grade-3
overflow_add-grade-3 g c =
    let count = c.cliques-separators.ensures.count
    ∙ ap (λ (s : ShapeOf). length s.tree.cliques) c.deref-2.ensures in
    omega (
      arith,
      count,
      c.cells-cells.ensures.few,
      few g (goal.at.overflow_add-grade-3 g c).After-refresh,
    )

-- the grade of what is read
module _ (g : Over) (c : After-cells-cells g) where
  count : c.cliques-separators.result ≡ length c.self.inside.shape.value.tree.cliques
  count =
      c.cliques-separators.ensures.count
      ∙ ap (λ (s : ShapeOf). length s.tree.cliques) c.deref-2.ensures

  abbrev grade : ℕ
  grade =
      c.self.inside.factors + c.self.inside.cells + 2 * (c.cliques-separators.result - 1)
      + c.cells-cells.result

  counted : grade ≡ c.self.inside.factors + c.self.inside.cells
      + 2 * (length c.self.inside.shape.value.tree.cliques - 1)
      + cells_in (table_of c.refresh.new.board c.args.clique).scope
  counted = omega (arith, count, c.cells-cells.ensures.cells)

  some_grade : 1 ≤ cells_in (table_of c.refresh.new.board c.args.clique).scope → 1 ≤ grade
  some_grade some = omega (arith, some, c.cells-cells.ensures.cells)

  few_grade : c.self.inside.factors + c.self.inside.cells
      + 2 * length c.self.inside.shape.value.tree.cliques ≤ most_parts → grade ≤ widest_grade
  few_grade few = omega (arith, few, count, c.cells-cells.ensures.few)

pub sum_core-requires : goal.sum_core-requires
sum_core-requires g c =
    let s = (goal.at.sum_core-requires g c).After-refresh in let k = c.args.clique in
    let can = can g s in let kept = c.self.invariant.kept in
    let only = c.refresh.ensures.only in let shape = c.deref-then-core_holds in
    record {
      can = record {
        clique =
            subst (λ (x : ShapeOf). IsClique x.tree k) (sym shape.ensures) can.clique_is;
        over =
            ap (λ (x : BoardOf). length x.tables) only ∙ kept.one_each
            ∙ ap (λ (s : ShapeOf). length s.tree.cliques) (sym shape.ensures);
        of_core =
            ap (λ (x : BoardOf). (core_of x k).scope) only ∙ kept.cores_are.scopes k can.clique_is
            ∙ ap (λ (s : ShapeOf). core_scope s k) (sym shape.ensures);
        of_table =
            ap (λ (x : BoardOf). (table_of x k).scope) only ∙ kept.table_scopes k can.clique_is
            ∙ ap (λ (s : ShapeOf). clique_scope s k) (sym shape.ensures);
        room =
            total_room g.R.Semiring.plus_of g.met.R.Semiring.lawful _ _ _ kept k c.args.event.now _
            (table_is g s) _ can.placing can.has can.clique_is can.holds_it
            (into_it g s can.placing can.has can.right _ refl);
      };
      shift =
          shift_before g.R.Semiring.plus_of _ _ _ _ c.self.invariant k can.clique_is
          shape.result.now shape.ensures _ (tables_are c.self.inside.board c.refresh.new.board k only) _ (cores_are c.self.inside.board c.refresh.new.board k only)
          c.index_mut-then-core_holds.result.now c.index_mut-then-core_holds.ensures.value;
    }

-- what is placed is summed over the core
module _ (g : Over) (c : After-sum_core g) where
  abbrev summed_plus : ℕ → ℕ → ℕ
  summed_plus = g.R.Semiring.plus_of

  abbrev core : TableOf
  core = core_of c.sum_core.new.board c.args.clique

  core_sums : IsClique c.self.inside.shape.value.tree c.args.clique → (p : Placing)
      → HasPlaced summed_plus (flow_over c.self.inside.shape.value c.self.inside.summed.items
      c.self.inside.factors c.self.inside.computed c.self.inside.board) p
      → HasSums summed_plus c.self.inside.shape.value p c.args.clique core
  core_sums is p has =
      let shape = c.deref-then-core_holds in let mark = c.index_mut-then-core_holds in
      let start = c.self.inside.board in let only = c.refresh.ensures.only in
      let tables = tables_are start c.refresh.new.board c.args.clique only in
      let cores = cores_are start c.refresh.new.board c.args.clique only in
      subst (λ (x : ShapeOf). HasSums summed_plus x p c.args.clique core) shape.ensures
      (c.sum_core.ensures.sums p
      (table_placed summed_plus _ _ _ _ c.self.invariant c.args.clique is shape.result.now
      shape.ensures _ tables _ cores mark.result.now mark.ensures.value p has)
      (sums_before summed_plus _ _ _ _ c.self.invariant c.args.clique is shape.result.now
      shape.ensures _ tables _ cores mark.result.now mark.ensures.value p has))

  same_product : product_of c.sum_core.new.board c.args.clique
      ≡ product_of c.refresh.new.board c.args.clique
  same_product = ap (λ (x : BoardOf). product_of x c.args.clique) c.sum_core.ensures.only

  within_core : list_all (λ (q : Pair).
      in_core c.self.inside.shape.value.tree c.args.clique q.variable) c.args.event.now ≡ true
  within_core =
      subst (λ (s : ShapeOf). list_all (λ (q : Pair). in_core s.tree c.args.clique q.variable)
      c.args.event.now ≡ true) c.deref-3.ensures
      (sym c.core_holds.ensures ∙ c.if-core_holds.true)

  board_is : c.sum_core.new.board ≡ with_core (with_product c.self.inside.board c.args.clique
      (product_of c.refresh.new.board c.args.clique)) c.args.clique core
  board_is =
      c.sum_core.ensures.only
      ∙ ap (λ (x : BoardOf). with_core x c.args.clique core) c.refresh.ensures.only

pub core_value-requires : goal.core_value-requires
core_value-requires g c =
    let at = goal.at.core_value-requires g c in let s = at.After-sum_core in
    let fresh = at.After-refresh in let cells = at.After-cells-cells in
    let plus = g.R.Semiring.plus_of in let law = g.met.R.Semiring.lawful in
    let k = c.args.clique in let event = c.args.event.now in
    let can = can g fresh in let kept = c.self.invariant.kept in
    let there = into_it g fresh can.placing can.has can.right _ (same_product g s) in
    let sums = core_sums g s can.clique_is can.placing can.has in let within = within_core g s in
    let long = ap (λ (x : BoardOf). length x.tables) c.refresh.ensures.only in
    let long_too = ap (λ (x : BoardOf). length x.tables) c.sum_core.ensures.only in
    record {
      clique = record {
        first = can.clique_is.first;
        last = omega (arith, long, long_too, can.clique_is.last, kept.one_each);
      };
      places =
          own_places_there plus law _ _ _ kept k event _ (table_is g fresh) _ can.placing can.has
          can.clique_is can.holds_it there _ sums within c.own_places-places.result.now
          (c.own_places-places.ensures ∙ ap (λ (s : ShapeOf).
          record { whole = core_scope s k; part = core_scope s k }) c.deref-then-core_holds-2.ensures);
      event =
          core_event plus law _ _ _ kept k event _ (table_is g fresh) _ can.placing can.has
          can.clique_is can.holds_it there _ sums within;
      room =
          core_total_room plus law _ _ _ kept k event _ (table_is g fresh) _ can.placing can.has
          can.clique_is can.holds_it there _ sums within;
      into_room =
          into_room plus law _ _ _ kept k event _ (table_is g fresh) _ can.placing can.has
          can.clique_is can.holds_it there;
      grade_at_least = some_grade g cells (some g fresh);
      grade_at_most = few_grade g cells (few g fresh);
      total =
          core_can_total plus law _ _ _ kept k event _ (table_is g fresh) _ can.placing can.has
          can.clique_is can.holds_it there _ sums within (grade g cells) (counted g cells);
    }

pub table_value-requires : goal.table_value-requires
table_value-requires g c =
    let at = goal.at.table_value-requires g c in let fresh = at.After-refresh in
    let cells = at.After-cells-cells in
    let plus = g.R.Semiring.plus_of in let law = g.met.R.Semiring.lawful in
    let k = c.args.clique in let event = c.args.event.now in
    let can = can g fresh in let kept = c.self.invariant.kept in
    let there = into_it g fresh can.placing can.has can.right _ refl in
    let long = ap (λ (x : BoardOf). length x.tables) c.refresh.ensures.only in
    record {
      clique = record {
        first = can.clique_is.first;
        last = omega (arith, long, can.clique_is.last, kept.one_each);
      };
      places =
          total_places plus law _ _ _ kept k event _ (table_is g fresh) _ can.placing can.has
          can.clique_is can.holds_it there c.core_places-places.result.now
          (c.core_places-places.ensures ∙ ap (λ (s : ShapeOf).
          record { whole = clique_scope s k; part = core_scope s k }) c.deref-4.ensures);
      event =
          event_there plus law _ _ _ kept k event _ (table_is g fresh) _ can.placing can.has
          can.clique_is can.holds_it there;
      room =
          total_room plus law _ _ _ kept k event _ (table_is g fresh) _ can.placing can.has
          can.clique_is can.holds_it there;
      into_room =
          into_room plus law _ _ _ kept k event _ (table_is g fresh) _ can.placing can.has
          can.clique_is can.holds_it there;
      grade_at_least = some_grade g cells (some g fresh);
      grade_at_most = few_grade g cells (few g fresh);
      total =
          can_total plus law _ _ _ kept k event _ (table_is g fresh) _ can.placing can.has
          can.clique_is can.holds_it there (grade g cells) (counted g cells);
    }

pub invariant_of-self : goal.invariant_of-self
invariant_of-self g c =
    let at = goal.at.invariant_of-self g c in let s = at.After-sum_core in
    let fresh = at.After-refresh in
    let inside = c.self.inside in let k = c.args.clique in let sums = c.sum_core.ensures in
    let only = c.refresh.ensures.only in
    let shape = c.deref-then-core_holds in let mark = c.index_mut-then-core_holds in
    subst (λ (x : BoardOf). IsFlow g.R.Semiring.plus_of (flow_over inside.shape.value
    (slice_set inside.summed.items (k - 1) c.sum_core.new.summed) inside.factors inside.computed x)
    x.products (slice_set inside.gathered.items (k - 1) c.refresh.new.gathered) inside.cells)
    (sym (board_is g s))
    (flow_mid g.R.Semiring.plus_of _ _ _ _ (fresh_kept g fresh) k (can g fresh).clique_is
    shape.result.now shape.ensures _ (tables_are inside.board _ k only) _ (cores_are inside.board _ k only) mark.result.now
    mark.ensures.value (core g s) sums.scope c.sum_core.new.summed sums.shift sums.sums)

pub invariant_of-self-2 : goal.invariant_of-self-2
invariant_of-self-2 g c =
    let inside = c.self.inside in
    subst (λ (x : BoardOf). IsFlow g.R.Semiring.plus_of
    (flow_over inside.shape.value inside.summed.items inside.factors inside.computed x) x.products
    (slice_set inside.gathered.items (c.args.clique - 1) c.refresh.new.gathered) inside.cells)
    (sym c.refresh.ensures.only)
    (fresh_kept g (goal.at.invariant_of-self-2 g c).After-refresh)

pub returns-then-core_holds : goal.returns-then-core_holds
returns-then-core_holds g c =
    let at = goal.at.returns-then-core_holds g c in let s = at.After-sum_core in
    let fresh = at.After-refresh in let cells = at.After-cells-cells in
    let R = g.R.Semiring in let plus = R.plus_of in let law = g.met.R.Semiring.lawful in
    let inside = c.self.inside in let start = inside.board in let k = c.args.clique in
    let sums = c.sum_core.ensures in let only = c.refresh.ensures.only in
    let is = board_is g s in let can = can g fresh in
    let shape = c.deref-then-core_holds in let mark = c.index_mut-then-core_holds in
    record {
      kept =
          kept_messages (was g fresh) c.args.self.now _ c.self.view_is refl
          (ap (λ (x : BoardOf). x.upward) is) (ap (λ (x : BoardOf). x.downward) is) refl;
      still =
          subst (λ (x : BoardOf). KeepsTables plus c.args.self.now (flow_over inside.shape.value
          (slice_set inside.summed.items (k - 1) c.sum_core.new.summed) inside.factors
          inside.computed x)) (sym is)
          (mid_keeps plus _ _ _ _ c.self.invariant k can.clique_is shape.result.now shape.ensures
          _ (tables_are inside.board _ k only) _ (cores_are inside.board _ k only) mark.result.now mark.ensures.value
          (core g s) sums.scope c.sum_core.new.summed sums.shift sums.sums _ c.self.view_is
          start.upward start.downward inside.computed);
      reading = λ p h r.
          let has = subst (λ (f : FlowOf). HasPlaced plus f p) (sym c.self.view_is) h in
          let right = subst (λ (f : FlowOf). AreRightInto plus f p k) (sym c.self.view_is) r in
          let there = into_it g fresh p has right _ (same_product g s) in
          subst (λ (f : FlowOf). IsReading R.encloses R.has_grade R.is_exact plus f.shape.tree p k
          c.args.event.now c.core_value.result) c.self.view_is
          (core_reading_of plus law _ _ _ c.self.invariant.kept k c.args.event.now _
          (table_is g fresh) _ p has can.clique_is can.holds_it there _ (core_sums g s can.clique_is p has)
          (within_core g s) (grade g cells) (counted g cells) R.encloses R.has_grade R.is_exact
          c.core_value.result c.core_value.ensures);
    }

pub returns : goal.returns
returns g c =
    let at = goal.at.returns g c in let fresh = at.After-refresh in
    let cells = at.After-cells-cells in
    let R = g.R.Semiring in let plus = R.plus_of in let law = g.met.R.Semiring.lawful in
    let inside = c.self.inside in let k = c.args.clique in
    let only = c.refresh.ensures.only in let can = can g fresh in
    record {
      kept =
          kept_messages (was g fresh) c.args.self.now _ c.self.view_is refl
          (ap (λ (x : BoardOf). x.upward) only) (ap (λ (x : BoardOf). x.downward) only) refl;
      still =
          subst (λ (x : BoardOf). KeepsTables plus c.args.self.now (flow_over inside.shape.value
          inside.summed.items inside.factors inside.computed x)) (sym only)
          (keeps_all plus _ _ c.self.view_is);
      reading = λ p h r.
          let has = subst (λ (f : FlowOf). HasPlaced plus f p) (sym c.self.view_is) h in
          let right = subst (λ (f : FlowOf). AreRightInto plus f p k) (sym c.self.view_is) r in
          let there = into_it g fresh p has right _ refl in
          subst (λ (f : FlowOf). IsReading R.encloses R.has_grade R.is_exact plus f.shape.tree p k
          c.args.event.now c.table_value.result) c.self.view_is
          (reading_of plus law _ _ _ c.self.invariant.kept k c.args.event.now _
          (table_is g fresh) _ p has can.clique_is can.holds_it there (grade g cells) (counted g cells)
          R.encloses R.has_grade R.is_exact c.table_value.result c.table_value.ensures);
    }
