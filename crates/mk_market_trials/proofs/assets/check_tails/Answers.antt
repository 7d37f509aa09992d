use Rattle.std.proofs.Common.{[], ◌∷◌, refl, sym, subst, arith, lit≤}
use Rattle.std.proofs.lemmas.List.Elements.{All-from_recursion}
use Rattle.mk_net.specs.Asked.{Asked}
use Rattle.mk_states.specs.OfNetwork.{IsQuestionOf, IsPairOf}
use Rattle.mk_tree.specs.Held.{IsHeldAt}
use Rattle.mk_engine.specs.Meaning.{with_known}
use Rattle.mk_assets.specs.Holdings.{Holding, opening_holding}
use Rattle.mk_assets.specs.Holdings.{with_trade, with_deposit, with_withdrawal}
use Rattle.mk_assets.proofs.Learning.{owns_holds, held_further}
use Rattle.mk_fixtures.specs.declared.pairs.TheConstants.{HEADS}
use Rattle.mk_market_trials.specs.declared.assets.TheConstants.{HIT, MISS}
use Rattle.mk_market_trials.proofs.assets.check_tails.Goals as goal

pub learn-requires : goal.learn-requires
learn-requires g c =
    let coin = c.args.coin.now in let one = coin.one in let sides = coin.sides in
    let h = with_withdrawal 0 (with_deposit 1 (with_trade
    (record { variable = 0; condition = []; factors = HIT ∷ MISS ∷ [] })
    (opening_holding coin.net coin.tree []))) in
    record {
      holding = record {
        meaning = with_known HEADS h.meaning;
        deposited = h.deposited;
        withdrawn = h.withdrawn;
      };
      holds = held_further _ _ h HEADS
          (owns_holds _ _ h (c.least_of_others-before.ensures.kept h c.requires.owns));
      tree_of_it = c.requires.tree;
      same_tree = refl;
      same_known = refl;
      in_range = All-from_recursion (IsPairOf coin.net) (HEADS ∷ [])
          (record { variable = omega (arith, one); value = omega (arith, sides) }, tt);
    }

pub least_of_others-after-requires : goal.least_of_others-after-requires
least_of_others-after-requires g c =
    let coin = c.args.coin.now in let one = coin.one in let sides = coin.sides in
    let asked : Asked = record { target = HEADS; condition = [] } in
    let own : IsQuestionOf coin.net asked = record {
      target = record { variable = omega (arith, one); value = omega (arith, sides) };
      condition = tt;
    } in
    let h = with_withdrawal 0 (with_deposit 1 (with_trade
    (record { variable = 0; condition = []; factors = HIT ∷ MISS ∷ [] })
    (opening_holding coin.net coin.tree []))) in
    let known : Holding = record {
      meaning = with_known HEADS h.meaning;
      deposited = h.deposited;
      withdrawn = h.withdrawn;
    } in
    record {
      meaning = known.meaning;
      stands = (c.learn.ensures known (held_further _ _ h HEADS
          (owns_holds _ _ h (c.least_of_others-before.ensures.kept h c.requires.owns))) refl
          refl).stands;
      question = subst (IsQuestionOf coin.net) (sym c.heads-asked.ensures) own;
      sized = rw c.heads-asked.ensures (sym sides);
      few = lit≤ tt;
      held = subst (IsHeldAt coin.tree c.home_of-home.result) c.event.ensures.pairs
          c.home_of-home.ensures.held;
      room = rw coin.plain (lit≤ tt);
    }
