use Rattle.std.proofs.Common.{ℕ, List, sym, ap, subst, length, All, arith}
use Rattle.std.proofs.lemmas.List.Elements.{All-nil}
use Rattle.mk_net.specs.declared.words.Pair.{Pair}
use Rattle.mk_net.specs.Network.{sizes}
use Rattle.mk_states.specs.OfNetwork.{IsPairOf}
use Rattle.mk_user_engine.specs.declared.narrow.PlacedRatio.{PlacedRatio}
use Rattle.mk_user_engine.specs.Narrow.{factors_of}
use Rattle.mk_user_engine.specs.GroupedNarrow.{IsGroupedRatio}
use Rattle.mk_user_engine.proofs.narrow.Narrow.none.Goals as goal

pub returns : goal.returns
returns c = λ network tree legal is.
    let homes = c.in_ok-with_capacity.ensures in
    let known = c.in_ok-with_capacity-2.ensures in
    let kept = c.in_ok-with_capacity-3.ensures in
    let trades = c.in_ok-with_capacity-4.ensures in
    let groups = c.in_ok-none.field-0 in
    let no_trade = ap (λ (ts : List PlacedRatio). length ts) trades.items in
    let no_pair = ap (λ (ps : List Pair). length ps) known.items in
    let no_home = ap (λ (ks : List ℕ). length ks) homes.items in record {
      grouped = record {
        legal = legal;
        tree = is;
        factors_are = sym (ap factors_of trades.items);
        known_are = sym known.items;
        groups = c.in_ok-none.ensures (sizes network);
        trades = subst (λ (ts : List PlacedRatio).
            All (IsGroupedRatio network tree groups.list.items) ts) (sym trades.items)
            (All-nil (IsGroupedRatio network tree groups.list.items));
        few_trades = omega (arith, no_trade);
        pairs = record {
          of_network = subst (λ (ps : List Pair). All (IsPairOf network) ps) (sym known.items)
              (All-nil (IsPairOf network));
          one_home_each = omega (arith, no_pair, no_home);
          home_is = λ k d l. absurd (omega (arith, l, no_pair));
        };
        agree = λ p q a b same. absurd (omega (arith, a.1, no_pair));
      };
      kept = λ e. absurd (cc);
      room = record {
        kept = omega (arith, kept.exact);
        trades = omega (arith, trades.exact);
        known = omega (arith, known.exact);
        homes = omega (arith, homes.exact);
      };
    }
