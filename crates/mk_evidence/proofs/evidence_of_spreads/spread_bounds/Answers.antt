use Rattle.mk_quote.specs.Questions.{spread_in}
use Rattle.mk_asking.proofs.Asking.{can_bound_spread}
use Rattle.mk_asking.proofs.Learnt.{still_in_range}
use Rattle.mk_beliefs.specs.Meanings.{weights_of, gains_of}
use Rattle.mk_file.specs.MarketOf.{market_of}
use Rattle.mk_evidence.specs.Grades.{evidence_grade}
use Rattle.mk_evidence.proofs.Asked.{learnt_asked}
use Rattle.mk_evidence.proofs.Evidenced.{each_opened}
use Rattle.mk_evidence.proofs.Grading.{weight_within, gain_within}
use Rattle.mk_evidence.proofs.evidence_of_spreads.spread_bounds.Goals as goal

pub assets-requires : goal.assets-requires
assets-requires g c = still_in_range c.args.users.now c.learn.new.users c.args.request.now.user
    c.learn.ensures.names c.requires.users.user

pub spread_bounds_of-sides-requires : goal.spread_bounds_of-sides-requires
spread_bounds_of-sides-requires g c =
    let of = c.requires.users in
    can_bound_spread g.P.Engine.stands_for c.args.request.now.user of.is_open c.requires.weights
    (c.learn.ensures.learnt c.assets.result.now c.assets.ensures.value) of.answered of.at_home

pub returns-clause-users : goal.returns-clause-users
returns-clause-users g c = learnt_asked c.learn.new.users c.args.request.now.user
    c.assets.result.now c.spread_bounds_of-sides.new.assets c.learn.ensures.held
    c.learn.ensures.names c.learn.ensures.quotes c.assets.ensures.value
    c.spread_bounds_of-sides.ensures.kept_assets

pub returns-clause-bounds : goal.returns-clause-bounds
returns-clause-bounds g c =
    let file = c.args.file.now in let H = c.args.journal.now.history in
    let u = c.args.request.now.user in let of = c.requires.users in
    let w = weights_of file.net file.tree H in let m = gains_of file.net file.tree H u in
    let stands = c.requires.weights in let most = evidence_grade (market_of file) H in
    let owns = c.learn.ensures.learnt c.assets.result.now c.assets.ensures.value in
    rw c.opened_each.ensures (each_opened most file.net H u
    (spread_in c.args.request.now.question) c.spread_bounds_of-sides.result
    (c.spread_bounds_of-sides.ensures.sides file.tree H u stands owns of.is_open of.answered)
    (c.spread_bounds_of-sides.ensures.bounded file.tree H u most stands owns of.is_open of.answered
    (weight_within file H (g.P.Engine.grade_of w) (g.met.P.TreeGraded.within_tree w))
    (gain_within file H u (g.A.Engine.grade_of m) (g.met.A.TreeGraded.within_tree m))))
