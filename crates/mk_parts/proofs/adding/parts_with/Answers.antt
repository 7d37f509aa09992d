use Rattle.std.proofs.Common.{sym, ap, ◌∙◌, subst}
use Rattle.mk_exact.specs.History.{Addition}
use Rattle.mk_history.specs.Entries.{addition_of}
use Rattle.mk_parts.specs.Adding.{CanFollow, IsLonger}
use Rattle.mk_parts.proofs.Following.{can_follow}
use Rattle.mk_parts.proofs.Placing.{few_bits, is_placed}
use Rattle.mk_parts.proofs.adding.parts_with.Goals as goal

pub longer_file-requires : goal.longer_file-requires
longer_file-requires g c =
    let file = c.args.file.now in
    let can = c.requires.can in
    let same = ap addition_of (c.deref.ensures ∙ c.in_ok-question.ensures.ok)
    ∙ c.added_question.ensures in
    subst (CanFollow file) (sym same)
    (can_follow file c.args.journal.now.history c.args.add.now can.legal can.tree can.text
    can.unrefused)

pub priced-requires-clause-placed : goal.priced-requires-clause-placed
priced-requires-clause-placed g c =
    is_placed c.args.file.now c.in_ok-file.file (addition_of c.deref.result.now)
    c.in_ok-file.ensures c.args.journal.now.history c.requires.can.safe

pub assets_of_each-requires-clause-history : goal.assets_of_each-requires-clause-history
assets_of_each-requires-clause-history g c =
    is_placed c.args.file.now c.in_ok-file.file (addition_of c.deref.result.now)
    c.in_ok-file.ensures c.args.journal.now.history c.requires.can.safe

pub assets_of_each-requires-clause-few : goal.assets_of_each-requires-clause-few
assets_of_each-requires-clause-few g c =
    few_bits _ c.args.journal.now.history c.requires.can.safe

pub returns : goal.returns
returns g c =
    let file = c.args.file.now in
    let question = ap addition_of c.in_ok-question.ensures.ok ∙ c.added_question.ensures in
    let same = ap addition_of (c.deref.ensures ∙ c.in_ok-question.ensures.ok)
    ∙ c.added_question.ensures in
    record {
      longer = subst (λ (a : Addition). IsLonger file a c.in_ok-file.file) same
          c.in_ok-file.ensures;
      question = question;
      planned = c.in_ok-plan.ensures;
      prices_stand = c.in_ok-prices.ensures;
      rows_stand = c.in_ok-rows.ensures c.args.journal.now.history (sym c.known-known.ensures.same);
      one_each = c.in_ok-assets.ensures.count ∙ c.requires.can.one_each;
      held = c.in_ok-assets.ensures.held;
    }
