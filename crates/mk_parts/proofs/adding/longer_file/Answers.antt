use Rattle.std.specs.Prelude.{ℕ, List, ◌==◌}
use Rattle.std.specs.List.{list_any}
use Rattle.std.proofs.Common.{sym, ap, ◌∙◌, subst}
use Rattle.mk_net.specs.Zeros.{HasNoZeros}
use Rattle.mk_history.specs.Entries.{addition_of}
use Rattle.mk_parts.specs.Adding.{IsSetOf}
use Rattle.mk_parts.proofs.Following.{longer_market}
use Rattle.mk_parts.proofs.adding.longer_file.Goals as goal

pub invariant_of-result : goal.invariant_of-result
invariant_of-result c =
    let file = c.args.file.now in
    record {
      points_positive = file.points_positive;
      points_most = file.points_most;
      trades_positive = file.trades_positive;
      trades_most = file.trades_most;
      users_positive = file.users_positive;
      users_most = file.users_most;
      transfers_positive = file.transfers_positive;
      transfers_most = file.transfers_most;
      tree_of_net = ∣ c.in_ok-tree.ensures.tree ∣₁;
      tree_faultless = c.in_ok-tree.ensures.faultless;
      no_zeros = λ e. subst HasNoZeros (sym c.in_ok-net.ensures.longer) (c.requires.shares e);
    }

pub returns : goal.returns
returns c =
    let file = c.args.file.now in
    let a = addition_of c.args.question.now in
    let set = c.clique_set-clique.result in
    let is : IsSetOf a.clique set = λ x. c.clique_set-clique.ensures x
    ∙ ap (λ (vs : List ℕ). list_any (λ v. v == x) vs) c.as_slice.ensures.value in
    record {
      legal = c.in_ok-net.ensures.network;
      tree = c.in_ok-tree.ensures.tree;
      net = c.in_ok-net.ensures.longer;
      market = longer_market file a set c.requires.tree (c.requires.rising set is)
          c.in_ok-net.net c.in_ok-tree.tree c.in_ok-net.ensures.longer
          c.in_ok-tree.ensures.longer;
    }
