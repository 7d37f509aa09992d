use Rattle.std.specs.Prelude.{slice_set}
use Rattle.std.proofs.Common.{◌≡◌, ℕ, ◌-◌, ◌<◌, ◌≤◌, true, Some, List, length, refl, sym, arith, ap}
use Rattle.std.proofs.Common.{subst, ◌∙◌}
use Rattle.std.proofs.lemmas.List.{length-set}
use Rattle.mk_table.specs.Tables.{TableOf}
use Rattle.mk_plan.specs.Shapes.{ShapeOf, IsClique, are_linked, clique_scope, core_scope}
use Rattle.mk_plan.specs.Shapes.{separator_between}
use Rattle.mk_propagate.specs.Placings.{Placing}
use Rattle.mk_propagate.specs.Flows.{FlowOf, HasPlaced, IsRight, KeepsTables, AreRightBut, CanSend}
use Rattle.mk_propagate.specs.Flows.{message_at, core_at, is_summed}
use Rattle.mk_propagate.specs.inner.Kept.{IsFlow}
use Rattle.mk_propagate.specs.inner.Gathered.{HasMarked}
use Rattle.mk_propagate.specs.inner.Boards.{BoardOf, table_of, core_of, product_of, message_of}
use Rattle.mk_propagate.specs.inner.Boards.{with_core, with_product, with_message}
use Rattle.mk_propagate.specs.inner.Boards.{with_upward, with_downward}
use Rattle.mk_propagate.proofs.Boards.{read_there, sent, read_upward, read_downward}
use Rattle.mk_propagate.proofs.Calls.{flow_over}
use Rattle.mk_propagate.proofs.Messages.{table_room}
use Rattle.mk_propagate.proofs.Sending.{with_core as flow_core, core_put, mark_put, can_take, sender}
use Rattle.mk_propagate.proofs.Sending.{receiver_is, separator_there, outgoing, right_up, right_down}
use Rattle.mk_propagate.proofs.Sending.{others_up, others_down}
use Rattle.mk_propagate.proofs.Marks.{shift_before, flow_mid, placed_mid, mid_keeps}
use Rattle.mk_propagate.proofs.Marks.{gathered_there, flow_up, flow_down}
use Rattle.mk_propagate.proofs.flow.Flow.message.Given.{Over}
use Rattle.mk_propagate.proofs.flow.Flow.message.Goals.{After-sum_core, After-send}
use Rattle.mk_propagate.proofs.flow.Flow.message.Goals as goal

-- a message can be sent from a flow by its parts
can_send : (plus : ℕ → ℕ → ℕ) (old now : FlowOf) (a b : ℕ) → old ≡ now → CanSend plus now a b
    → CanSend plus old a b
can_send plus old now a b view can = subst (λ (f : FlowOf). CanSend plus f a b) (sym view) can

sends : (plus : ℕ → ℕ → ℕ) (flow : FlowOf) (a b : ℕ) → CanSend plus flow a b
    → IsClique flow.shape.tree a
sends plus flow a b can = sender plus flow can.placing can.has a b can.linked_too

-- what is placed is summed over the sender's core
module _ (g : Over) (c : After-sum_core g) where
  abbrev plus : ℕ → ℕ → ℕ
  plus = g.R.Semiring.plus_of

  -- the flow as it was called, by its parts
  abbrev was : FlowOf
  was =
      let inside = c.self.inside in
      flow_over inside.shape.value inside.summed.items inside.factors inside.computed inside.board

  can : CanSend plus was c.args.from c.args.to
  can = can_send plus was _ c.args.from c.args.to c.self.view_is c.requires

  clique : IsClique was.shape.tree c.args.from
  clique = sends plus was c.args.from c.args.to can

  abbrev core : TableOf
  core = core_of c.sum_core.new.board c.args.from

  abbrev summed_flow : FlowOf
  summed_flow = flow_core was c.args.from core c.sum_core.new.summed

  same_up : c.sum_core.new.board.upward ≡ was.upward
  same_up = ap (λ (x : BoardOf). x.upward) c.sum_core.ensures.only

  same_down : c.sum_core.new.board.downward ≡ was.downward
  same_down = ap (λ (x : BoardOf). x.downward) c.sum_core.ensures.only

  mid : IsFlow plus summed_flow c.self.inside.board.products c.self.inside.gathered.items
      c.self.inside.cells
  mid =
      let start = c.self.inside.board in let a = c.args.from in let sums = c.sum_core.ensures in
      flow_mid plus _ _ _ _ c.self.invariant a clique c.deref.result.now c.deref.ensures
      (table_of start a) (read_there start.tables (a - 1)) (core_of start a)
      (read_there start.cores (a - 1)) c.index_mut.result.now c.index_mut.ensures.value
      core sums.scope c.sum_core.new.summed sums.shift sums.sums

  mid_placed : (p : Placing) → HasPlaced plus was p → HasPlaced plus summed_flow p
  mid_placed =
      let start = c.self.inside.board in let a = c.args.from in let sums = c.sum_core.ensures in
      placed_mid plus _ _ _ _ c.self.invariant a clique c.deref.result.now c.deref.ensures
      (table_of start a) (read_there start.tables (a - 1)) (core_of start a)
      (read_there start.cores (a - 1)) c.index_mut.result.now c.index_mut.ensures.value
      core sums.scope c.sum_core.new.summed sums.shift sums.sums

  mid_rights : (p : Placing) → AreRightBut plus was p c.args.from c.args.to
      → AreRightBut plus summed_flow p c.args.from c.args.to
  mid_rights p right i l = record { cells = (right i l).cells }

  core_there : core_at summed_flow c.args.from ≡ core
  core_there =
      let start = c.self.inside.board in let a = c.args.from in
      core_put _ _ _ c.self.invariant.kept a clique (core_of start a) core
      (read_there start.cores (a - 1)) c.sum_core.ensures.scope c.sum_core.new.summed

  marked : is_summed summed_flow c.args.from ≡ true
  marked =
      let start = c.self.inside.board in let a = c.args.from in
      mark_put _ _ _ c.self.invariant.kept a clique (core_of start a) core
      (read_there start.cores (a - 1)) c.sum_core.ensures.scope c.sum_core.new.summed
      ∙ c.sum_core.ensures.summed

  -- with whatever messages
  keeps : (upward downward : List TableOf) (computed : ℕ) → KeepsTables plus c.args.self.now
      (flow_over was.shape (slice_set was.summed (c.args.from - 1) c.sum_core.new.summed)
      was.factors computed (record (with_core c.self.inside.board c.args.from core) {
        upward = upward;
        downward = downward;
      }))
  keeps upward downward computed =
      let start = c.self.inside.board in let a = c.args.from in let sums = c.sum_core.ensures in
      mid_keeps plus _ _ _ _ c.self.invariant a clique c.deref.result.now c.deref.ensures
      (table_of start a) (read_there start.tables (a - 1)) (core_of start a)
      (read_there start.cores (a - 1)) c.index_mut.result.now c.index_mut.ensures.value
      core sums.scope c.sum_core.new.summed sums.shift sums.sums _ c.self.view_is upward downward
      computed

-- the message is sent, upward or downward
module _ (g : Over) (c : After-send g) where
  abbrev between : BoardOf
  between =
      with_product (with_core c.self.inside.board c.args.from
      (core_of c.sum_core.new.board c.args.from)) c.args.from
      (product_of c.gather_others.new.board c.args.from)

  abbrev message : TableOf
  message = message_of c.send.new.board c.args.from c.args.to

  by_way : (P : BoardOf → Type 0)
      → (c.args.to < c.args.from → P (with_upward between c.args.from message))
      → (c.args.from ≤ c.args.to → P (with_downward between c.args.to message))
      → P c.send.new.board
  by_way P up down =
      let a = c.args.from in let product = product_of c.gather_others.new.board a in
      subst P (sym (c.send.ensures.only
      ∙ ap (λ (x : BoardOf). with_message x a c.args.to message) (c.gather_others.ensures.only
      ∙ ap (λ (x : BoardOf). with_product x a product) c.sum_core.ensures.only)))
      (sent P between a c.args.to message up down)

  -- the flow over a board
  abbrev sent_flow : ℕ → BoardOf → FlowOf
  sent_flow computed board =
      let inside = c.self.inside in
      flow_over inside.shape.value
      (slice_set inside.summed.items (c.args.from - 1) c.sum_core.new.summed) inside.factors
      computed board

pub sum_core-requires : goal.sum_core-requires
sum_core-requires g c =
    let plus = g.R.Semiring.plus_of in let a = c.args.from in let start = c.self.inside.board in
    let can = can_send plus _ _ a c.args.to c.self.view_is c.requires in
    let clique = sends plus _ a c.args.to can in let kept = c.self.invariant.kept in
    record {
      can = record {
        clique = subst (λ (s : ShapeOf). IsClique s.tree a) (sym c.deref.ensures) clique;
        over = kept.one_each ∙ ap (λ (s : ShapeOf). length s.tree.cliques) (sym c.deref.ensures);
        of_core =
            kept.cores_are.scopes a clique ∙ ap (λ (s : ShapeOf). core_scope s a) (sym c.deref.ensures);
        of_table =
            kept.table_scopes a clique ∙ ap (λ (s : ShapeOf). clique_scope s a) (sym c.deref.ensures);
        room =
            table_room _ can.placing can.has.shape_is can.has.placing plus g.met.R.Semiring.lawful a
            clique (table_of start a) (can.has.tables a clique);
      };
      shift =
          shift_before plus _ _ _ _ c.self.invariant a clique c.deref.result.now c.deref.ensures
          (table_of start a) (read_there start.tables (a - 1)) (core_of start a)
          (read_there start.cores (a - 1)) c.index_mut.result.now c.index_mut.ensures.value;
    }

pub gather_others-requires-clause-over : goal.gather_others-requires-clause-over
gather_others-requires-clause-over g c =
    ap (λ (x : BoardOf). length x.tables) c.sum_core.ensures.only ∙ c.self.invariant.kept.one_each
    ∙ ap (λ (s : ShapeOf). length s.tree.cliques) (sym c.deref-2.ensures)

pub gather_others-requires-clause-scope : goal.gather_others-requires-clause-scope
gather_others-requires-clause-scope g c =
    let a = c.args.from in
    let s = (goal.at.gather_others-requires-clause-scope g c).After-sum_core in
    ap (λ (x : BoardOf). (product_of x a).scope) c.sum_core.ensures.only
    ∙ c.self.invariant.kept.products_are.scopes a (clique g s)
    ∙ ap (λ (s : ShapeOf). core_scope s a) (sym c.deref-2.ensures)

pub gather_others-requires-clause-right : goal.gather_others-requires-clause-right
gather_others-requires-clause-right g c =
    let s = (goal.at.gather_others-requires-clause-right g c).After-sum_core in
    let can = can g s in let summed = c.sum_core.new.board in (
      can.placing,
      can_take g.R.Semiring.plus_of _ can.placing c.args.from (Some c.args.to) can.has can.right
          c.deref-2.result.now summed.upward summed.downward c.deref-2.ensures (same_up g s)
          (same_down g s),
    )

pub gather_others-requires-clause-marked : goal.gather_others-requires-clause-marked
gather_others-requires-clause-marked g c =
    let plus = g.R.Semiring.plus_of in let a = c.args.from in let start = c.self.inside.board in
    let s = (goal.at.gather_others-requires-clause-marked g c).After-sum_core in
    let summed = c.sum_core.new.board in
    subst (λ (t : TableOf). HasMarked plus c.deref-2.result.now summed.upward summed.downward a
    c.index_mut-2.result.now t) (sym (ap (λ (x : BoardOf). product_of x a) c.sum_core.ensures.only))
    (gathered_there plus _ _ _ _ c.self.invariant a (clique g s) c.deref-2.result.now
    c.deref-2.ensures summed.upward summed.downward (same_up g s) (same_down g s)
    (product_of start a) (read_there start.products (a - 1)) c.index_mut-2.result.now
    c.index_mut-2.ensures.value)

pub overflow_sub-to : goal.overflow_sub-to
overflow_sub-to g c =
    (receiver_is g.R.Semiring.plus_of _ c.requires.placing c.requires.has c.args.from c.args.to c.requires.linked_too).first

pub index_mut-mark-requires : goal.index_mut-mark-requires
index_mut-mark-requires g c =
    let can = can g (goal.at.index_mut-mark-requires g c).After-sum_core in
    let to = receiver_is g.R.Semiring.plus_of _ can.placing can.has c.args.from c.args.to
    can.linked_too in
    omega (
      arith,
      to.first,
      to.last,
      c.self.invariant.gathered_are.one_mark_each,
      length-set
          c.self.inside.gathered.items (c.args.from - 1) c.gather_others.new.gathered,
    )

pub send-requires-clause-over : goal.send-requires-clause-over
send-requires-clause-over g c =
    ap (λ (x : BoardOf). length x.tables) c.gather_others.ensures.only
    ∙ ap (λ (x : BoardOf). length x.tables) c.sum_core.ensures.only ∙ c.self.invariant.kept.one_each
    ∙ ap (λ (s : ShapeOf). length s.tree.cliques) (sym c.deref-3.ensures)

pub send-requires-clause-scope : goal.send-requires-clause-scope
send-requires-clause-scope g c =
    let a = c.args.from in let b = c.args.to in
    let can = can g (goal.at.send-requires-clause-scope g c).After-sum_core in
    ap (λ (x : BoardOf). (message_of x a b).scope) c.gather_others.ensures.only
    ∙ ap (λ (x : BoardOf). (message_of x a b).scope) c.sum_core.ensures.only
    ∙ separator_there g.R.Semiring.plus_of _ _ _ c.self.invariant.kept can.placing can.has a b
    can.linked_too
    ∙ ap (λ (s : ShapeOf). separator_between s a b) (sym c.deref-3.ensures)

pub send-requires-clause-has : goal.send-requires-clause-has
send-requires-clause-has g c =
    let s = (goal.at.send-requires-clause-has g c).After-sum_core in
    let a = c.args.from in let can = can g s in let summed = c.sum_core.new.board in
    let taken = c.gather_others.new.board in let took = c.gather_others.ensures in (
      can.placing,
      outgoing g.R.Semiring.plus_of _ a c.args.to c.deref-2.result.now summed.upward
          summed.downward c.deref-2.ensures (same_up g s) (same_down g s) (core g s)
          (product_of taken a) (core_there g s) (marked g s) took.others can.placing
          (mid_placed g s can.placing can.has) can.linked_too (mid_rights g s can.placing can.right)
          c.deref-3.result.now c.deref-3.ensures (core_of taken a) (product_of taken a)
          (ap (λ (x : BoardOf). core_of x a) took.only) refl,
    )

pub invariant_of-self : goal.invariant_of-self
invariant_of-self g c =
    let at = goal.at.invariant_of-self g c in let s = at.After-sum_core in
    let plus = g.R.Semiring.plus_of in let a = c.args.from in let b = c.args.to in
    let inside = c.self.inside in let start = inside.board in let can = can g s in
    let summed = c.sum_core.new.board in let only = c.sum_core.ensures.only in
    let taken = c.gather_others.new.board in let took = c.gather_others.ensures in
    let message = message g at.After-send in let computed = c.saturating_add-self-inside.result in
    let product_scope = took.scope ∙ ap (λ (x : BoardOf). (product_of x a).scope) only in
    let scope = c.send.ensures.scope ∙ ap (λ (x : BoardOf). (message_of x a b).scope) took.only
    ∙ ap (λ (x : BoardOf). (message_of x a b).scope) only in
    by_way g at.After-send (λ x. IsFlow plus (sent_flow g at.After-send computed x) x.products
    (slice_set (slice_set inside.gathered.items (a - 1) c.gather_others.new.gathered) (b - 1)
    c.without.result) inside.cells)
    (λ l. flow_up plus _ _ _ _ computed (mid g s) can.placing
    (mid_placed g s can.placing can.has) a b can.linked_too c.deref-2.result.now c.deref-2.ensures
    summed.upward summed.downward (same_up g s) (same_down g s) (product_of start a)
    (product_of taken a) (read_there start.products (a - 1)) product_scope
    c.gather_others.new.gathered took.marked c.index_mut-mark.result.now c.without.result
    c.index_mut-mark.ensures.value c.without.ensures (message_of start a b) message scope l
    (read_upward start a b l))
    (λ l. flow_down plus _ _ _ _ computed (mid g s) can.placing
    (mid_placed g s can.placing can.has) a b can.linked_too c.deref-2.result.now c.deref-2.ensures
    summed.upward summed.downward (same_up g s) (same_down g s) (product_of start a)
    (product_of taken a) (read_there start.products (a - 1)) product_scope
    c.gather_others.new.gathered took.marked c.index_mut-mark.result.now c.without.result
    c.index_mut-mark.ensures.value c.without.ensures (message_of start a b) message scope l
    (read_downward start a b l))

pub returns-clause-right : goal.returns-clause-right
returns-clause-right g c = λ p h r.
    let at = goal.at.returns-clause-right g c in let s = at.After-sum_core in
    let plus = g.R.Semiring.plus_of in let a = c.args.from in let b = c.args.to in
    let summed = c.sum_core.new.board in let linked_too = (can g s).linked_too in
    let taken = c.gather_others.new.board in let took = c.gather_others.ensures in
    let message = message g at.After-send in let computed = c.saturating_add-self-inside.result in
    let has = mid_placed g s p (subst (λ (f : FlowOf). HasPlaced plus f p) (sym c.self.view_is) h)
    in
    let right = subst (λ (f : FlowOf). AreRightBut plus f p a b) (sym c.self.view_is) r in
    let made = c.send.ensures.right p (outgoing plus _ a b c.deref-2.result.now summed.upward
    summed.downward c.deref-2.ensures (same_up g s) (same_down g s) (core g s) (product_of taken a)
    (core_there g s) (marked g s) took.others p has linked_too (mid_rights g s p right)
    c.deref-3.result.now c.deref-3.ensures (core_of taken a) (product_of taken a)
    (ap (λ (x : BoardOf). core_of x a) took.only) refl) in
    by_way g at.After-send (λ x. IsRight plus (sent_flow g at.After-send computed x) p a b)
    (right_up plus _ _ _ (mid g s).kept a b p has linked_too c.deref-3.result.now c.deref-3.ensures
    message computed made)
    (right_down plus _ _ _ (mid g s).kept a b p has linked_too c.deref-3.result.now
    c.deref-3.ensures message computed made)

pub returns-clause-others : goal.returns-clause-others
returns-clause-others g c = λ x y h apart.
    let at = goal.at.returns-clause-others g c in let can = can g at.After-sum_core in
    let plus = g.R.Semiring.plus_of in let a = c.args.from in let b = c.args.to in
    let message = message g at.After-send in let computed = c.saturating_add-self-inside.result in
    let linked_too = subst (λ (f : FlowOf). are_linked f.shape.tree x y ≡ true) (sym c.self.view_is)
    h in
    by_way g at.After-send (λ z. message_at (sent_flow g at.After-send computed z) x y
    ≡ message_of c.self.inside.board x y)
    (λ l. others_up plus _ can.placing can.has a b can.linked_too computed message l x y linked_too
    apart)
    (λ l. others_down plus _ can.placing can.has a b can.linked_too computed message l x y
    linked_too apart)
    ∙ ap (λ (f : FlowOf). message_at f x y) c.self.view_is

pub returns-clause-kept : goal.returns-clause-kept
returns-clause-kept g c =
    let at = goal.at.returns-clause-kept g c in let s = at.After-sum_core in
    let start = c.self.inside.board in let message = message g at.After-send in
    let computed = c.saturating_add-self-inside.result in
    by_way g at.After-send (λ x. KeepsTables g.R.Semiring.plus_of c.args.self.now
    (sent_flow g at.After-send computed x))
    (λ l. keeps g s (slice_set start.upward (c.args.from - 2) message) start.downward computed)
    (λ l. keeps g s start.upward (slice_set start.downward (c.args.to - 2) message) computed)
