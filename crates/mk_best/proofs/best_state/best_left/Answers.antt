use Rattle.std.proofs.Common.{List, length, sym, subst, ap, ◌∙◌}
use Rattle.mk_net.specs.declared.words.Pair.{Pair}
use Rattle.mk_net.specs.Bounds.{sharpness}
use Rattle.mk_states.specs.Events.{holds, always}
use Rattle.mk_exact.specs.History.{trades}
use Rattle.mk_exact.specs.Prices.{CoversPrice}
use Rattle.mk_exact.specs.Weight.{IsSmall, weight, total}
use Rattle.mk_answers.proofs.Homes.{nothing_at_root}
use Rattle.mk_engine.specs.Meaning.{ArePairsOf}
use Rattle.mk_beliefs.specs.Meanings.{weights_of}
use Rattle.mk_answers.specs.inner.Found.{IsBeliefIn}
use Rattle.mk_best.specs.declared.found.Chance.{Chance}
use Rattle.mk_best.specs.BestStates.{greatest}
use Rattle.mk_best.specs.inner.Engines.{learned, IsLeftFor}
use Rattle.mk_best.specs.inner.Values.{values_in}
use Rattle.mk_best.proofs.Shares.{left_in, in_absent, in_present, few_learned, some_of}
use Rattle.mk_best.proofs.Maxima.{greatest_in}
use Rattle.mk_best.proofs.BestIs.{pairs_fit, ends_of, best_found}
use Rattle.mk_best.proofs.best_state.best_left.Goals as goal

pub returns-in_default : goal.returns-in_default
returns-in_default g c = λ H h k few.
    let net = c.args.net.now in let tree = c.args.tree.now in
    in_absent c.belief.result (IsSmall net H) (total net H always) c.in_default.is
    (left_in net tree H c.requires.legal few c.empty.result c.belief.result c.empty.ensures
    (c.belief.ensures.belief (weights_of net tree H) h))

pub belief-own-requires-clause-held : goal.belief-own-requires-clause-held
belief-own-requires-clause-held g c =
    let a = c.requires in let net = c.args.net.now in let tree = c.args.tree.now in
    g.met.M.Engine.held_is_answered c.best_pairs.new.engine
    (weights_of net tree (learned a.history c.in_ok-pairs.pairs.items)) 1 c.empty-3.result
    (c.in_ok-pairs.ensures.learned a.history
    (c.belief-top.ensures.kept (weights_of net tree a.history) a.compared))
    (nothing_at_root tree c.empty-3.result c.empty-3.ensures a.tree_of_it.linked.some)

pub chance_left-requires : goal.chance_left-requires
chance_left-requires g c =
    let a = c.requires in let net = c.args.net.now in let tree = c.args.tree.now in
    record {
      history = a.history;
      stands = c.belief.ensures.kept (weights_of net tree a.history) a.summed;
      legal = a.legal;
      tree_of_it = a.tree_of_it;
      few_trades = a.few_trades;
      in_range = subst (λ (ps : List Pair). ArePairsOf net ps) (sym c.deref.ensures.value)
          (pairs_fit net a.history c.in_ok-pairs.pairs.items
          (c.in_ok-pairs.ensures.found a.history
          (c.belief-top.ensures.kept (weights_of net tree a.history) a.compared) a.few_trades));
    }

pub returns-in_default-chance_left : goal.returns-in_default-chance_left
returns-in_default-chance_left g c = λ H h k few.
    let net = c.args.net.now in let tree = c.args.tree.now in
    subst (λ (x : Chance). IsLeftFor net H c.deref.result.now x) c.in_default-chance_left.is
    (c.chance_left.ensures H (c.belief.ensures.kept (weights_of net tree H) h) few)

pub certificate-value-requires : goal.certificate-value-requires
certificate-value-requires g c =
    let a = c.requires in let net = c.args.net.now in let tree = c.args.tree.now in
    let H = a.history in let pairs = c.in_ok-pairs.pairs.items in
    let asked = c.belief-top.ensures.kept (weights_of net tree H) a.compared in
    let found = c.in_ok-pairs.ensures.found H asked a.few_trades in
    let whole = in_present c.belief.result c.in-Present.whole (IsSmall net H) (total net H always)
    c.in-Present.is
    (left_in net tree H a.legal a.few_trades c.empty.result c.belief.result c.empty.ensures
    (c.belief.ensures.belief (weights_of net tree H) a.summed)) in
    let some = some_of (c.belief.result) c.in-Present.whole (total net H always) c.in-Present.is
    (left_in net tree H a.legal a.few_trades c.empty.result c.belief.result c.empty.ensures
    (c.belief.ensures.belief (weights_of net tree H) a.summed)).encloses in
    record {
      network = net;
      history = H;
      state = weight net H found.values;
      best = greatest net H always;
      all = total net H always;
      ends = ends_of net H pairs found a.legal some c.belief-own.result c.belief-top.result
          c.in-Present.whole
          (subst (λ (ps : List Pair). IsBeliefIn c.belief-own.result (IsSmall net (learned H pairs))
          (greatest net (learned H pairs) (holds ps))) c.empty-3.ensures
          (greatest_in net (learned H pairs) tree a.legal (few_learned H pairs a.few_trades)
          c.empty-3.result c.belief-own.result
          (c.belief-own.ensures.belief (weights_of net tree (learned H pairs))
          (c.in_ok-pairs.ensures.learned H asked))))
          (subst (λ (ps : List Pair). IsBeliefIn c.belief-top.result (IsSmall net H)
          (greatest net H (holds ps))) c.empty-2.ensures
          (greatest_in net H tree a.legal a.few_trades c.empty-2.result c.belief-top.result
          (c.belief-top.ensures.belief (weights_of net tree H) a.compared)))
          whole;
    }

pub returns : goal.returns
returns g c = λ H h k few.
    let a = c.requires in let net = c.args.net.now in let tree = c.args.tree.now in
    let pairs = c.in_ok-pairs.pairs.items in
    let asked = c.belief-top.ensures.kept (weights_of net tree H) k in
    let found = c.in_ok-pairs.ensures.found H asked few in
    let whole = left_in net tree H a.legal few c.empty.result c.belief.result c.empty.ensures
    (c.belief.ensures.belief (weights_of net tree H) h) in
    let some = some_of (c.belief.result) c.in-Present.whole (total net H always) c.in-Present.is
    whole.encloses in
    let left = subst (λ (x : Chance). IsLeftFor net H c.deref.result.now x) c.in-Price.is
    (c.chance_left.ensures H (c.belief.ensures.kept (weights_of net tree H) h) few) in
    best_found net H pairs found a.legal some c.in-Price.low c.in-Price.high
    c.certificate-value.result.1 c.certificate-value.result.0 c.in_ok-state.state
    (c.in_ok-state.ensures ∙ ap values_in c.deref-2.ensures.value)
    (subst (λ (ps : List Pair). CoversPrice (IsSmall net H) (sharpness (length (trades H)))
    (record { num = total net H (holds ps); den = total net H always }) c.in-Price.low
    c.in-Price.high) c.deref.ensures.value left.1)
    (c.certificate-value.ensures net H (weight net H found.values) (greatest net H always)
    (total net H always)
    (ends_of net H pairs found a.legal some c.belief-own.result c.belief-top.result
    c.in-Present.whole
    (subst (λ (ps : List Pair). IsBeliefIn c.belief-own.result (IsSmall net (learned H pairs))
    (greatest net (learned H pairs) (holds ps))) c.empty-3.ensures
    (greatest_in net (learned H pairs) tree a.legal (few_learned H pairs few)
    c.empty-3.result c.belief-own.result
    (c.belief-own.ensures.belief (weights_of net tree (learned H pairs))
    (c.in_ok-pairs.ensures.learned H asked))))
    (subst (λ (ps : List Pair). IsBeliefIn c.belief-top.result (IsSmall net H)
    (greatest net H (holds ps))) c.empty-2.ensures
    (greatest_in net H tree a.legal few c.empty-2.result c.belief-top.result
    (c.belief-top.ensures.belief (weights_of net tree H) k)))
    (in_present c.belief.result c.in-Present.whole (IsSmall net H) (total net H always)
    c.in-Present.is whole)))
