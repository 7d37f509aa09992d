use Rattle.std.proofs.Common.{◌≡◌, ℕ, ◌+◌, Bool, true, false, length, sym, ap, subst, ◌∙◌, arith}
use Rattle.mk_tree.specs.Given as given
use Rattle.mk_plan.specs.Shapes.{ShapeOf, IsClique}
use Rattle.mk_propagate.specs.Flows.{FlowOf, CanSend}
use Rattle.mk_propagate.specs.inner.Passes.{leads_in, clique_in}
use Rattle.mk_propagate.proofs.Passed.{IsSent}
use Rattle.mk_propagate.proofs.Passing.{IsPassing, still_kept, clique_there, begins, skips, can, sends, right_after, counted_after}
use Rattle.mk_propagate.proofs.Passing.{clique_seen, leads_seen, next_seen, ends_seen}
use Rattle.mk_propagate.proofs.flow.Flow.pass.Given.{Over}
use Rattle.mk_propagate.proofs.flow.Flow.pass.Goals.{After-cliques-count, After-leads, then-leads, else-leads}
use Rattle.mk_propagate.proofs.flow.Flow.pass.Goals as goal

-- the cliques that it goes over
module _ (g : Over) (c : After-cliques-count g) where
  tied : given.AreLinked c.args.self.now.shape.tree
  tied = subst (λ (s : ShapeOf). given.AreLinked s.tree) c.shape.ensures c.cliques-count.ensures.linked

  many : c.cliques-count.result ≡ length c.args.self.now.shape.tree.cliques
  many = c.cliques-count.ensures.count ∙ ap (λ (s : ShapeOf). length s.tree.cliques) c.shape.ensures

-- what the test says of the clique
leads : (g : Over) (c : After-leads g) (value : Bool) → c.leads.result ≡ value
    → leads_in c.args.pass c.args.self.now.shape.tree c.args.root (clique_in c.args.pass c.cliques-count.result c.loop-passed.passed) ≡ value
leads g c value e =
    let start = c.args.self.now in
    leads_seen c.args.pass start.shape _
    (c.shape-in-loop-passed.ensures
    ∙ (still_kept g.R.Semiring.plus_of c.args.pass start c.loop-passed.self c.args.root c.cliques-count.result c.loop-passed.passed c.loop-passed.invariant).same_shape)
    c.args.root c.cliques-count.result c.loop-passed.passed c.clique-k.result c.clique-k.ensures c.leads.result value c.leads.ensures.leads e

pub leads-requires : goal.leads-requires
leads-requires g c =
    let start = c.args.self.now in let root = c.args.root in
    let at = (goal.at.leads-requires g c).After-cliques-count in
    let same = c.shape-in-loop-passed.ensures
    ∙ (still_kept g.R.Semiring.plus_of c.args.pass start c.loop-passed.self root c.cliques-count.result c.loop-passed.passed c.loop-passed.invariant).same_shape in
    record {
      clique =
          clique_seen c.args.pass start.shape _ same root c.cliques-count.result c.loop-passed.passed c.clique-k.result c.clique-k.ensures
          (clique_there c.args.pass start.shape.tree c.cliques-count.result c.loop-passed.passed (many g at) c.loop-passed-test.true);
      root = subst (λ (s : ShapeOf). IsClique s.tree root) (sym same) c.requires.clique_is;
    }

pub loop-passed-init : goal.loop-passed-init
loop-passed-init g c =
    let at = (goal.at.loop-passed-init g c).After-cliques-count in
    begins g.R.Semiring.plus_of c.args.self.now (tied g at) c.args.root c.requires.clique_is c.cliques-count.result (many g at) c.args.pass
    (omega (arith, c.computed.ensures, c.computed.type_inv))

pub message-requires : goal.message-requires
message-requires g c =
    let at = goal.at.message-requires g c in
    let plus = g.R.Semiring.plus_of in let start = c.args.self.now in let root = c.args.root in let pass = c.args.pass in
    let count = c.cliques-count.result in let passed = c.loop-passed.passed in
    let same = c.shape-then-leads.ensures ∙ (still_kept plus pass start c.loop-passed.self root count passed c.loop-passed.invariant).same_shape in
    subst (λ (e : ℕ × ℕ). CanSend plus c.loop-passed.self e.0 e.1)
    (sym (ends_seen pass start.shape _ same root count passed c.clique-k.result c.clique-k.ensures c.next-next.result c.ends-from.result c.ends-from.ensures))
    (can plus start (tied g at.After-cliques-count) root c.requires.clique_is count (many g at.After-cliques-count) c.loop-passed.self passed c.loop-passed-test.true
    pass c.loop-passed.invariant (leads g at.After-leads true c.if-leads.true) c.next-next.result
    (next_seen pass start.shape _ same root count passed c.clique-k.result c.clique-k.ensures c.next-next.result c.next-next.ensures.next)
    c.requires.placing c.requires.has c.requires.before)

pub loop-passed-preserved : goal.loop-passed-preserved
loop-passed-preserved g c =
    let at = goal.at.loop-passed-preserved g c in
    let plus = g.R.Semiring.plus_of in let start = c.args.self.now in let root = c.args.root in let pass = c.args.pass in
    let count = c.cliques-count.result in let passed = c.loop-passed.passed in let mid = c.loop-passed.self in
    elim c.if-leads.branch [
      | then-leads w ↦
          let made = w.message.ensures in
          let same = w.shape-then-leads.ensures ∙ (still_kept plus pass start mid root count passed c.loop-passed.invariant).same_shape in
          subst (λ (o : FlowOf). IsPassing plus pass start o root count (passed + 1)) (sym w.self-is)
          (sends plus start (tied g at.After-cliques-count) root c.requires.clique_is count (many g at.After-cliques-count) mid passed c.loop-passed-test.true
          pass c.loop-passed.invariant (leads g at.After-leads true w.if-leads.true) w.next-next.result
          (next_seen pass start.shape _ same root count passed c.clique-k.result c.clique-k.ensures w.next-next.result w.next-next.ensures.next) w.message.new.self
          (subst (λ (e : ℕ × ℕ). IsSent plus mid w.message.new.self e.0 e.1)
          (ends_seen pass start.shape _ same root count passed c.clique-k.result c.clique-k.ensures w.next-next.result w.ends-from.result w.ends-from.ensures)
          (record { right = made.right; others = made.others; kept = made.kept; counted = made.counted })))
      | else-leads w ↦
          subst (λ (o : FlowOf). IsPassing plus pass start o root count (passed + 1)) (sym w.self-is)
          (skips plus start (tied g at.After-cliques-count) root c.requires.clique_is count (many g at.After-cliques-count) mid passed c.loop-passed-test.true
          pass c.loop-passed.invariant (leads g at.After-leads false w.if-leads.false))
    ]

pub returns : goal.returns
returns g c =
    let at = (goal.at.returns g c).After-cliques-count in
    let plus = g.R.Semiring.plus_of in let start = c.args.self.now in let root = c.args.root in
    let count = c.cliques-count.result in let passed = c.loop-passed.passed in let now = c.loop-passed.self in
    let all : passed ≡ count = omega (arith, c.loop-passed-test.false, c.loop-passed.auto.passed-end) in
    record {
      right = right_after plus start (tied g at) root c.requires.clique_is count (many g at) now passed all c.args.pass c.loop-passed.invariant;
      kept = still_kept plus c.args.pass start now root count passed c.loop-passed.invariant;
      counted = counted_after plus start (tied g at) root c.requires.clique_is count (many g at) now passed all c.args.pass c.loop-passed.invariant;
    }
