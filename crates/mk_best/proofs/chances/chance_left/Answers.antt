use Rattle.std.proofs.Common.{◌≤◌, List, length, refl}
use Rattle.mk_states.specs.Events.{holds, always}
use Rattle.mk_net.specs.Bounds.{max_market_trades, sharpness}
use Rattle.mk_exact.specs.History.{Entry, trades}
use Rattle.mk_exact.specs.Weight.{total, IsSmall}
use Rattle.mk_exact.proofs.Sharp.{sharp_enough}
use Rattle.mk_beliefs.specs.Meanings.{weights_of}
use Rattle.mk_answers.proofs.Presence.{some_weight}
use Rattle.mk_best.specs.inner.Engines.{learned, ArePartAndWhole}
use Rattle.mk_best.proofs.Failing.{less_unless}
use Rattle.mk_best.proofs.Shares.{left_in, in_present, in_absent, covers_all, part_and_whole}
use Rattle.mk_best.proofs.Sums.{total_narrow}
use Rattle.mk_best.proofs.chances.chance_left.Given.{Over}
use Rattle.mk_best.proofs.chances.chance_left.Goals as goal
use Rattle.mk_best.proofs.chances.chance_left.Goals.{After-are_sure, After-belief-part}

-- some state is left, where what is found first is present
some_left : (g : Over) (c : After-are_sure g) (H : List Entry)
    → g.E.Engine.stands_for c.args.engine.now (weights_of c.args.net.now c.args.tree.now H)
    → length (trades H) ≤ max_market_trades → 1 ≤ total c.args.net.now H always
some_left g c H h few =
    let net = c.args.net.now in let tree = c.args.tree.now in
    let whole = in_present c.belief.result c.in-Present.whole (IsSmall net H) (total net H always)
    c.in-Present.is
    (left_in net tree H c.requires.legal few c.empty.result c.belief.result c.empty.ensures
    (c.belief.ensures.belief (weights_of net tree H) h)) in
    some_weight c.in-Present.whole (total net H always) whole.encloses

-- what is found before the wanted pairs are known, and after that, are a whole and a part of it
parts_are : (g : Over) (c : After-belief-part g) (H : List Entry)
    → g.E.Engine.stands_for c.args.engine.now (weights_of c.args.net.now c.args.tree.now H)
    → length (trades H) ≤ max_market_trades
    → ArePartAndWhole c.args.net.now H c.belief-part.result c.in-Present.whole
    (total c.args.net.now H (holds c.args.want.now)) (total c.args.net.now H always)
parts_are g c H h few =
    let net = c.args.net.now in let tree = c.args.tree.now in let want = c.args.want.now in
    let whole = c.belief.ensures.kept (weights_of net tree H) h in
    let sure = c.are_sure.ensures.sure H whole in
    part_and_whole net tree H want c.requires.legal few c.empty.result c.empty-2.result
    c.belief.result c.belief-part.result c.in-Present.whole c.empty.ensures c.empty-2.ensures
    c.in-Present.is (c.belief.ensures.belief (weights_of net tree H) h)
    (c.belief-part.ensures.belief (weights_of net tree (learned H want))
    (c.know_all.ensures net H (c.are_sure.ensures.kept (weights_of net tree H) whole)))
    (less_unless (total net H (holds want)) (total net H always) c.are_sure.result
    (total_narrow net H always (holds want) (λ s e. refl)) sure.1 c.if-are_sure.false)

pub returns-in_default : goal.returns-in_default
returns-in_default g c = λ H h few.
    let net = c.args.net.now in let tree = c.args.tree.now in
    in_absent c.belief.result (IsSmall net H) (total net H always) c.in_default.is
    (left_in net tree H c.requires.legal few c.empty.result c.belief.result c.empty.ensures
    (c.belief.ensures.belief (weights_of net tree H) h))

pub returns-then-are_sure : goal.returns-then-are_sure
returns-then-are_sure g c = λ H h few.
    let net = c.args.net.now in let tree = c.args.tree.now in
    let some = some_left g (goal.at.returns-then-are_sure g c).After-are_sure H h few in
    let same = (c.are_sure.ensures.sure H (c.belief.ensures.kept (weights_of net tree H) h)).0
    c.if-are_sure.true in (
      some,
      covers_all (IsSmall net H) (sharpness (length (trades H)))
          (total net H (holds c.args.want.now)) (total net H always)
          (sharp_enough (length (trades H))) same some,
    )

pub share_of-low-requires : goal.share_of-low-requires
share_of-low-requires g c =
    let a = c.requires in let net = c.args.net.now in let H = a.history in
    record {
      network = net;
      history = H;
      inner = total net H (holds c.args.want.now);
      outer = total net H always;
      are = parts_are g (goal.at.share_of-low-requires g c).After-belief-part H a.stands
          a.few_trades;
    }

pub returns : goal.returns
returns g c = λ H h few.
    let net = c.args.net.now in (
      some_left g (goal.at.returns g c).After-are_sure H h few,
      c.share_of-low.ensures net H (total net H (holds c.args.want.now)) (total net H always)
          (parts_are g (goal.at.returns g c).After-belief-part H h few),
    )
