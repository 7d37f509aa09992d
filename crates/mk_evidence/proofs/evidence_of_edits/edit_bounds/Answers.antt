use Rattle.mk_asking.proofs.Asking.{can_bound}
use Rattle.mk_asking.proofs.Learnt.{still_in_range}
use Rattle.mk_beliefs.specs.Meanings.{weights_of, gains_of}
use Rattle.mk_file.specs.MarketOf.{market_of}
use Rattle.mk_evidence.specs.Grades.{evidence_grade}
use Rattle.mk_evidence.proofs.Asked.{learnt_asked}
use Rattle.mk_evidence.proofs.Evidenced.{both_opened}
use Rattle.mk_evidence.proofs.Grading.{weights_within, gains_within}
use Rattle.mk_evidence.proofs.evidence_of_edits.edit_bounds.Goals as goal

pub assets-requires : goal.assets-requires
assets-requires g c = still_in_range c.args.users.now c.learn.new.users c.args.request.now.user
    c.learn.ensures.names c.requires.user

pub bounds_of-sides-requires : goal.bounds_of-sides-requires
bounds_of-sides-requires g c =
    let a = c.requires in
    can_bound g.P.Engine.stands_for c.args.request.now.user a.in_use.is_open a.in_use.weights
    (c.learn.ensures.learnt c.assets.result.now c.assets.ensures.value) a.answered a.at_home

pub returns-clause-users : goal.returns-clause-users
returns-clause-users g c = learnt_asked c.learn.new.users c.args.request.now.user
    c.assets.result.now c.bounds_of-sides.new.assets c.learn.ensures.held c.learn.ensures.names
    c.learn.ensures.quotes c.assets.ensures.value c.bounds_of-sides.ensures.kept_assets

pub returns-clause-bounds : goal.returns-clause-bounds
returns-clause-bounds g c =
    let file = c.args.file.now in let H = c.args.journal.now.history in
    let u = c.args.request.now.user in let a = c.requires in
    let w = weights_of file.net file.tree H in let m = gains_of file.net file.tree H u in
    let most = evidence_grade (market_of file) H in
    let owns = c.learn.ensures.learnt c.assets.result.now c.assets.ensures.value in
    rw c.opened.ensures (both_opened most file.net H u c.args.request.now.question
    c.bounds_of-sides.result
    (c.bounds_of-sides.ensures.sides file.tree H u a.in_use.weights owns a.in_use.is_open
    a.answered)
    (c.bounds_of-sides.ensures.bounded file.tree H u most a.in_use.weights owns a.in_use.is_open
    a.answered (weights_within file H (g.P.Engine.grade_of w) (g.met.P.TreeGraded.within_tree w))
    (gains_within file H u (g.A.Engine.grade_of m) (g.met.A.TreeGraded.within_tree m))))
