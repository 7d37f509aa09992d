use Rattle.std.proofs.Common.{refl, sym}
use Rattle.mk_answers.specs.Open.{holding_of}
use Rattle.mk_asking.proofs.Apart.{apart_lent}
use Rattle.mk_asking.proofs.Learnt.{can_learn, owned_then, held_learnt}
use Rattle.mk_asking.proofs.Lent.{names_stay, quotes_stay}
use Rattle.mk_asking.proofs.learning.learn.Goals as goal

pub learn-requires : goal.learn-requires
learn-requires g c =
    can_learn g.A.Engine.stands_for c.args.file.now.net c.args.file.now.tree c.args.journal.now.history
    c.args.users.now c.requires.held c.args.user c.assets.result.now c.assets.result.now
    c.assets.ensures.value c.requires.is_open c.known.result.now c.known.ensures.same

pub returns : goal.returns
returns g c =
    let net = c.args.file.now.net in let tree = c.args.file.now.tree in let H =
    c.args.journal.now.history in let members = c.args.users.now in let user = c.args.user in
    let lent = c.assets.result.now in let there = c.assets.ensures.value in
    let learnt = c.learn.ensures (holding_of net tree H user) (c.requires.held user lent there) refl
    (sym c.known.ensures.same) in
    let S = g.A.Engine.stands_for in
    record {
      learnt = owned_then S net tree H members c.requires.held user lent c.learn.new.self there
          learnt;
      held = held_learnt S net tree H members c.requires.held user lent c.learn.new.self there
          learnt;
      names = names_stay members user c.learn.new.self;
      apart = apart_lent members user c.learn.new.self;
      quotes = quotes_stay members user c.learn.new.self;
    }
