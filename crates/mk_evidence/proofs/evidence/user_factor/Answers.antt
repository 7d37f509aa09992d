use Rattle.std.proofs.Common.{◌<◌, length, sym, subst, ◌∙◌}
use Rattle.mk_exact.specs.History.{users}
use Rattle.mk_beliefs.specs.Meanings.{gains_of}
use Rattle.mk_file.specs.MarketOf.{market_of}
use Rattle.mk_asking.proofs.Lent.{in_range}
use Rattle.mk_market.specs.Trading.{Trading}
use Rattle.mk_evidence.specs.Grades.{evidence_grade}
use Rattle.mk_market.proofs.Growing.{open_by}
use Rattle.mk_evidence.proofs.Asked.{learnt_asked, asked_kept, asked_only}
use Rattle.mk_evidence.proofs.Grading.{gain_within}
use Rattle.mk_evidence.proofs.evidence.user_factor.Goals as goal

pub assets-requires : goal.assets-requires
assets-requires g c =
    in_range c.learn.new.users (users c.market.inside.journal.history) c.args.user
    (c.learn.ensures.names ∙ c.market.invariant.named)
    (subst (λ (t : Trading _). c.args.user < length (users t.standing.history))
    (sym c.market.view_is) c.requires)

pub least_of-requires : goal.least_of-requires
least_of-requires g c =
    let i = c.market.inside in
    record {
      network = i.file.net;
      tree = i.file.tree;
      history = i.journal.history;
      user = c.args.user;
      owns = c.learn.ensures.learnt c.assets.result.now c.assets.ensures.value;
      is_open = open_by c.market.invariant;
    }

pub invariant_of-market : goal.invariant_of-market
invariant_of-market g c = asked_kept c.market.invariant (λ m stands. stands)
    (learnt_asked c.learn.new.users c.args.user c.assets.result.now c.least_of.new.assets
    c.learn.ensures.held c.learn.ensures.names c.learn.ensures.quotes c.assets.ensures.value
    c.least_of.ensures.kept)

pub returns-clause-same : goal.returns-clause-same
returns-clause-same g c = asked_only c.market.invariant c.market.view_is
    (learnt_asked c.learn.new.users c.args.user c.assets.result.now c.least_of.new.assets
    c.learn.ensures.held c.learn.ensures.names c.learn.ensures.quotes c.assets.ensures.value
    c.least_of.ensures.kept)

pub returns-clause-least : goal.returns-clause-least
returns-clause-least g c =
    let i = c.market.inside in let H = i.journal.history in
    let m = gains_of i.file.net i.file.tree H c.args.user in
    rw (← c.market.view_is) (c.least_of.ensures.judged i.file.net i.file.tree H c.args.user
    (evidence_grade (market_of i.file) H)
    (c.learn.ensures.learnt c.assets.result.now c.assets.ensures.value)
    (open_by c.market.invariant)
    (gain_within i.file H c.args.user (g.A.Engine.grade_of m) (g.met.A.TreeGraded.within_tree m)))
