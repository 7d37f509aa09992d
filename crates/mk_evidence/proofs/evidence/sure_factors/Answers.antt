use Rattle.mk_quote.specs.Questions.{spread_in}
use Rattle.mk_beliefs.specs.Meanings.{gains_of}
use Rattle.mk_file.specs.MarketOf.{market_of}
use Rattle.mk_record.proofs.SpreadRefusals.{value_is_held}
use Rattle.mk_asking.proofs.Learnt.{still_in_range}
use Rattle.mk_evidence.specs.Grades.{evidence_grade}
use Rattle.mk_evidence.proofs.Asked.{learnt_asked}
use Rattle.mk_evidence.proofs.Grading.{gain_within}
use Rattle.mk_evidence.proofs.evidence.sure_factors.Goals as goal

pub assets-requires : goal.assets-requires
assets-requires g c = still_in_range c.args.members.now c.learn.new.users c.args.request.now.user
    c.learn.ensures.names c.requires.user

pub sure_factors_of-requires : goal.sure_factors_of-requires
sure_factors_of-requires g c = record {
  tree = c.args.file.now.tree;
  history = c.args.journal.now.history;
  user = c.args.request.now.user;
  owns = c.learn.ensures.learnt c.assets.result.now c.assets.ensures.value;
  is_open = c.requires.is_open;
  answered = c.requires.answered;
  held = λ value. value_is_held c.args.file.now.tree c.args.request.now.home
      (spread_in c.args.request.now.question) value c.requires.at_home;
}

pub returns-clause-users : goal.returns-clause-users
returns-clause-users g c = learnt_asked c.learn.new.users c.args.request.now.user
    c.assets.result.now c.sure_factors_of.new.assets c.learn.ensures.held c.learn.ensures.names
    c.learn.ensures.quotes c.assets.ensures.value c.sure_factors_of.ensures.kept_assets

pub returns-clause-factors : goal.returns-clause-factors
returns-clause-factors g c =
    let file = c.args.file.now in let H = c.args.journal.now.history in
    let u = c.args.request.now.user in let m = gains_of file.net file.tree H u in
    c.sure_factors_of.ensures.factors file.tree H u (evidence_grade (market_of file) H)
    (c.learn.ensures.learnt c.assets.result.now c.assets.ensures.value) c.requires.is_open
    c.requires.answered
    (gain_within file H u (g.A.Engine.grade_of m) (g.met.A.TreeGraded.within_tree m))
