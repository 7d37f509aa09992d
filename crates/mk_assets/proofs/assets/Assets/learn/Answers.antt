use Rattle.std.proofs.Common.{◌≡◌, ◌+◌, ◌≤◌, ℤ, [], ◌∷◌, length, get_or, true, is_some, sym, subst, ap, ◌∙◌, arith}
use Rattle.std.proofs.lemmas.List.Elements.{All-get_or}
use Rattle.mk_net.specs.declared.words.Pair.{Pair}
use Rattle.mk_tree.specs.Given.{home}
use Rattle.mk_tree.proofs.Held.{pair_has_home}
use Rattle.mk_states.specs.OfNetwork.{IsPairOf}
use Rattle.mk_assets.specs.Holdings.{IsNet}
use Rattle.mk_assets.proofs.Learning.{all_known, pair_further, further_within, further_past, learnt_more}
use Rattle.mk_assets.proofs.assets.Assets.learn.Goals as goal

pub home_of-requires : goal.home_of-requires
home_of-requires g c =
    let a = c.requires in let known = c.args.known.now in let n = c.args.self.now.learnt in let i = c.loop-pair.pair-index in
    let network = a.holding.meaning.network in let tree = c.args.tree.now in
    let d : Pair = record { variable = 0; value = 0 } in
    let pair = All-get_or (IsPairOf network) known (n + i) d (further_within known n i c.loop-pair-test.true) a.in_range in
    subst (λ (p : Pair). is_some (home tree (p ∷ [])) ≡ true) (sym (pair_further known n i d))
    (pair_has_home network tree (get_or known (n + i) d) (a.tree_of_it.covers _ pair.variable))

pub loop-pair-preserved : goal.loop-pair-preserved
loop-pair-preserved g c =
    let known = c.args.known.now in let n = c.args.self.now.learnt in let i = c.loop-pair.pair-index in
    record {
      stands = λ h holds same. subst (g.E.Engine.stands_for c.know.new.self)
          (learnt_more h.meaning known n i _ same c.loop-pair-test.true)
          (c.know.ensures _ (c.loop-pair.invariant.stands h holds same));
      trades = c.loop-pair.invariant.trades;
      net = c.loop-pair.invariant.net;
    }

pub returns : goal.returns
returns g c = λ h holds of_tree same.
    let known = c.args.known.now in let n = c.args.self.now.learnt in let i = c.loop-pair.pair-index in
    let kept = c.loop-pair.invariant in
    let past : length h.meaning.known ≤ n + i = omega (arith, further_past known n i c.loop-pair-test.false, ap length same) in
    record {
      stands = subst (g.E.Engine.stands_for c.loop-pair.self.engine) (all_known h.meaning (n + i) past) (kept.stands h holds same);
      all_learnt = sym (ap length same);
      counted = kept.trades ∙ holds.counted;
      net = subst (λ (net : ℤ). IsNet net h.deposited h.withdrawn) (sym kept.net) holds.net;
      few_in = holds.few_in;
      few_out = holds.few_out;
    }
