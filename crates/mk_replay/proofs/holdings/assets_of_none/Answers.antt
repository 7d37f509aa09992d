use Rattle.std.proofs.Common.{◌≡◌, ◌+◌, List, [], length, sym, subst, arith}
use Rattle.std.proofs.lemmas.List.{length_push}
use Rattle.mk_assets.specs.Holdings.{Holds}
use Rattle.mk_answers.specs.Open.{holding_of}
use Rattle.mk_replay.specs.Each.{HoldAll}
use Rattle.mk_replay.proofs.Owned.{held_none}
use Rattle.mk_replay.proofs.Each.{one_more}
use Rattle.mk_replay.proofs.holdings.assets_of_none.Goals as goal

pub loop-preserved : goal.loop-preserved
loop-preserved g c =
    let net = c.args.net.now in let stands = g.A.Engine.stands_for in
    let all = c.loop.all.items in let own = c.in_ok-assets.assets in
    let user = c.loop.counter in
    subst (λ (xs : List _). record {
      count : length xs ≡ user + 1;
      held : (tree : _) → g.A.Engine.plan_for c.args.plan.now net tree
          → HoldAll stands (holding_of net tree []) xs;
    }) (sym c.in_ok-push.ensures.items) (record {
      count = omega (arith, length_push all own, c.loop.invariant.count);
      held = λ tree planned.
          one_more stands (holding_of net tree []) all user own c.loop.invariant.count
          (c.loop.invariant.held tree planned)
          (subst (Holds stands own) (held_none net tree user)
          (c.in_ok-assets.ensures tree [] planned));
    })
