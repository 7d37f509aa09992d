use Rattle.std.proofs.Common.{refl, sym, ◌∙◌}
use Rattle.mk_market.proofs.Regrowing.{as_many_users, kept_regrown, has_grown}
use Rattle.mk_market.proofs.market.Market.grow.Goals as goal

pub parts_with-requires-clause-can : goal.parts_with-requires-clause-can
parts_with-requires-clause-can g c =
    let kept = c.self.invariant in
    record {
      legal = kept.legal;
      tree = kept.tree;
      safe = kept.safe;
      text = c.requires.text;
      unrefused = rw (← c.self.view_is) at c.requires.unrefused;
      one_each = c.count-joined.ensures.count ∙ as_many_users c.self.inside.users
          c.self.inside.journal.history kept.named;
    }

pub parts_with-requires-clause-prices : goal.parts_with-requires-clause-prices
parts_with-requires-clause-prices g c =
    rw (← c.self.view_is) at (c.requires.prices c.args.add.now refl c.requires.text c.requires.unrefused)

pub parts_with-requires-clause-assets : goal.parts_with-requires-clause-assets
parts_with-requires-clause-assets g c =
    rw (← c.self.view_is) at (c.requires.assets c.args.add.now refl c.requires.text c.requires.unrefused)

pub invariant_of-self : goal.invariant_of-self
invariant_of-self g c =
    kept_regrown g.P.Engine.stands_for g.A.Engine.stands_for g.A.Engine.plan_for _ _ _ _ _ _ _ _ _
    c.self.invariant c.args.add.now c.requires.text (rw (← c.self.view_is) at c.requires.unrefused)
    c.in_ok-parts.parts c.in_ok-parts.ensures c.renew.new.self c.renew.ensures.names
    c.renew.ensures.assets c.renew.ensures.quotes c.add.new.self c.add.ensures.history
    (record { trades = c.add.ensures.limit; users = c.add.ensures.users; transfers = c.add.ensures.transfers })

pub returns-clause-ok : goal.returns-clause-ok
returns-clause-ok g c =
    has_grown g.P.Engine.stands_for g.A.Engine.stands_for g.A.Engine.plan_for _ _ _ _ _ _ _ _ _
    c.self.invariant c.args.add.now c.requires.text (rw (← c.self.view_is) at c.requires.unrefused)
    c.in_ok-parts.parts c.in_ok-parts.ensures c.renew.new.self c.renew.ensures.names
    c.renew.ensures.assets c.renew.ensures.quotes c.add.new.self c.add.ensures.history
    c.args.self.now _ (sym c.self.view_is) refl
