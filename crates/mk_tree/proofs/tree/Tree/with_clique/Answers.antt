use Rattle.std.proofs.Common.{◌≡◌, [], ◌∷◌, ◌++◌, rules}
use Rattle.mk_tree.specs.Checked.{IsTreeOf}
use Rattle.mk_tree.proofs.Faultless.{tree_is_faultless}
use Rattle.mk_tree.proofs.Grown.{grown_is_tree}
use Rattle.mk_tree.proofs.tree.Tree.with_clique.Goals as goal

whole : (c : goal.In_ok-starts) →
    IsTreeOf c.args.net.now (record {
      cliques = c.push.new.self.items;
      links =
          c.push-2.new.self.items;
    })
whole c =
    let cliques : c.push.new.self.items ≡ c.args.self.now.cliques ++ c.args.clique.now ∷ [] =
    search rules in
    let links : c.push-2.new.self.items ≡ c.args.self.now.links ++ c.args.link ∷ [] =
    search rules in
    rw (cliques, links)
    (grown_is_tree c.args.net.now c.args.self.now c.args.clique.now c.args.link c.requires.behind)

pub returns-clause-tree : goal.returns-clause-tree
returns-clause-tree c = whole c

pub returns-clause-faultless : goal.returns-clause-faultless
returns-clause-faultless c = tree_is_faultless c.args.net.now
    (record { cliques = c.push.new.self.items; links = c.push-2.new.self.items }) (whole c)
