use Rattle.std.proofs.Common.{◌+◌, ◌<◌, List, [], ◌∷◌, length, sym, subst, arith}
use Rattle.std.proofs.lemmas.List.Elements.{All-from_recursion}
use Rattle.mk_net.specs.declared.words.Pair.{Pair}
use Rattle.mk_exact.specs.History.{Entry}
use Rattle.mk_states.specs.OfNetwork.{IsPairOf}
use Rattle.mk_beliefs.specs.Meanings.{weights_of}
use Rattle.mk_best.specs.inner.Engines.{learned}
use Rattle.mk_best.specs.inner.Picks.{is_at, AreFound}
use Rattle.mk_best.proofs.Greedy.{found_none, found_more}
use Rattle.mk_best.proofs.Learned.{learned_none, holds_after}
use Rattle.mk_best.proofs.Maxima.{learned_pair}
use Rattle.mk_best.proofs.Shares.{few_learned}
use Rattle.mk_best.proofs.search.best_pairs.Goals as goal

pub loop-variable-init : goal.loop-variable-init
loop-variable-init g c =
    let net = c.args.net.now in let tree = c.args.tree.now in
    let none = c.new-pairs.ensures.items in
    record {
      learned_so_far = λ H h.
          holds_after (λ (K : List Entry). g.E.Engine.stands_for c.args.engine.now
          (weights_of net tree K)) H none (learned_none H) h;
      found = λ H h few. subst (λ (ps : List Pair). AreFound net H 0 ps) (sym none)
          (found_none net H);
    }

pub best_value-value-requires-clause-search : goal.best_value-value-requires-clause-search
best_value-value-requires-clause-search g c =
    let a = c.requires in
    record {
      history = learned a.history c.loop-variable.pairs.items;
      stands = c.loop-variable.invariant.learned_so_far a.history a.stands;
      legal = a.legal;
      tree_of_it = a.tree_of_it;
      few_trades = few_learned a.history c.loop-variable.pairs.items a.few_trades;
    }

pub know_all-requires : goal.know_all-requires
know_all-requires g c =
    let a = c.requires in let net = c.args.net.now in let tree = c.args.tree.now in
    let ps = c.loop-variable.pairs.items in
    let within : c.loop-variable.variable < length net = omega (
      arith,
      c.loop-variable-test.true,
      c.variables-variable-end.ensures.count,
    ) in
    record {
      network = net;
      history = learned a.history ps;
      stands = c.best_value-value.ensures.kept (weights_of net tree (learned a.history ps))
          (c.loop-variable.invariant.learned_so_far a.history a.stands);
      tree_of_it = a.tree_of_it;
      in_range = All-from_recursion (IsPairOf net)
          (is_at c.loop-variable.variable c.best_value-value.result ∷ [])
          (record { variable = within; value = c.best_value-value.ensures.within }, tt);
    }

pub loop-variable-preserved : goal.loop-variable-preserved
loop-variable-preserved g c =
    let net = c.args.net.now in let tree = c.args.tree.now in
    let ps = c.loop-variable.pairs.items in let k = c.loop-variable.variable in
    let v = c.best_value-value.result in
    let more = c.in_ok-push.ensures.items in
    record {
      learned_so_far = λ H h.
          holds_after (λ (K : List Entry). g.E.Engine.stands_for c.know_all.new.engine
          (weights_of net tree K)) H more (learned_pair H ps (is_at k v))
          (c.know_all.ensures net (learned H ps)
          (c.best_value-value.ensures.kept (weights_of net tree (learned H ps))
          (c.loop-variable.invariant.learned_so_far H h)));
      found = λ H h few.
          subst (λ (qs : List Pair). AreFound net H (k + 1) qs) (sym more)
          (found_more net H k ps v
          (omega (arith, c.loop-variable-test.true, c.variables-variable-end.ensures.count))
          (c.loop-variable.invariant.found H h few)
          (c.best_value-value.ensures.pick (learned H ps)
          (c.loop-variable.invariant.learned_so_far H h) (few_learned H ps few))
          c.best_value-value.ensures.within);
    }
