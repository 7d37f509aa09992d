use Rattle.std.proofs.Common.{List, Some, refl}
use Rattle.std.specs.Prelude.{Ok}
use Rattle.mk_exact.specs.History.{Entry}
use Rattle.mk_exact.specs.Market.{Market}
use Rattle.mk_beliefs.specs.Meanings.{weights_of}
use Rattle.mk_evidence.specs.declared.evidence_of_edits.EditEvidence.{EditEvidence}
use Rattle.mk_evidence.specs.Evidence.{IsEditEvidence}
use Rattle.mk_evidence.specs.inner.Finding.{question_command}
use Rattle.mk_market.proofs.Growing.{open_by}
use Rattle.mk_evidence.proofs.Asked.{asked_kept, asked_only, can_find_both}
use Rattle.mk_evidence.proofs.Asked.{refused_by_record}
use Rattle.mk_evidence.proofs.Evidenced.{asked_in, stopped_in, asked_by, question_found}
use Rattle.mk_evidence.proofs.Evidenced.{question_stopped}
use Rattle.mk_evidence.proofs.evidence_of_edits.question_evidence.Goals as goal

pub returns-in_err-request-clause-evidence : goal.returns-in_err-request-clause-evidence
returns-in_err-request-clause-evidence g c = refused_by_record c.market.invariant c.market.view_is
    (question_command c.args.name.now c.args.question.now c.args.wish) c.from_residual.result _
    c.from_residual.ensures.1 c.in_err-request.ensures.refusal

pub edit_bounds-requires : goal.edit_bounds-requires
edit_bounds-requires g c = can_find_both c.market.invariant c.args.name.now c.args.question.now
    c.in_ok-request.request c.in_ok-request.ensures.request

pub refuse_decided-requires : goal.refuse_decided-requires
refuse_decided-requires g c =
    let i = c.market.inside in let H = i.journal.history in
    let is = c.in_ok-request.ensures.request in
    record {
      network = i.file.net;
      tree = i.file.tree;
      history = H;
      stands = c.in-Err.ensures.prices (weights_of i.file.net i.file.tree H)
          c.market.invariant.prices_stand;
      is_open = open_by c.market.invariant;
      asked_by = asked_by i.file H c.args.name.now c.args.question.now c.in_ok-request.request is
          c.args.wish c.in_ok-request.ensures.refusal;
      answered = is.question.answered;
      at_home = is.at_home;
      decided = c.in-Err.ensures.bounds;
    }

pub invariant_of-market : goal.invariant_of-market
invariant_of-market g c =
    asked_kept c.market.invariant c.edit_bounds.ensures.prices c.edit_bounds.ensures.users

pub returns-in-Ok-clause-same : goal.returns-in-Ok-clause-same
returns-in-Ok-clause-same g c =
    asked_only c.market.invariant c.market.view_is c.edit_bounds.ensures.users

pub returns-in-Ok-clause-evidence : goal.returns-in-Ok-clause-evidence
returns-in-Ok-clause-evidence g c =
    let i = c.market.inside in let found = c.in_ok-request in
    let evidence : EditEvidence = record {
      user = found.request.user;
      question = found.request.question;
      bounds = c.in-Ok.bounds;
    } in
    asked_in c.args.market.now _ c.market.view_is
    (question_command c.args.name.now c.args.question.now c.args.wish) (Ok evidence)
    (λ (market : Market) (history : List Entry). IsEditEvidence market history c.args.name.now
    c.args.question.now)
    (question_found i.file i.journal.history c.args.name.now c.args.question.now found.request
    found.ensures.request (open_by c.market.invariant) c.args.wish found.ensures.refusal
    c.in-Ok.bounds c.in-Ok.ensures.bounds evidence refl)

pub invariant_of-market-in-Err : goal.invariant_of-market-in-Err
invariant_of-market-in-Err g c = asked_kept c.market.invariant
    (λ m stands. c.refuse_decided.ensures.kept m (c.edit_bounds.ensures.prices m stands))
    c.edit_bounds.ensures.users

pub returns-in-Err-clause-same : goal.returns-in-Err-clause-same
returns-in-Err-clause-same g c =
    asked_only c.market.invariant c.market.view_is c.edit_bounds.ensures.users

pub returns-in-Err-clause-evidence : goal.returns-in-Err-clause-evidence
returns-in-Err-clause-evidence g c =
    let i = c.market.inside in let H = i.journal.history in
    let is = c.in_ok-request.ensures.request in let none = c.in_ok-request.ensures.refusal in
    stopped_in c.args.market.now _ c.market.view_is
    (question_command c.args.name.now c.args.question.now c.args.wish)
    (Some c.refuse_decided.result) (question_stopped i.file H c.args.name.now c.args.question.now
    c.in_ok-request.request is c.args.wish c.refuse_decided.result none
    (c.refuse_decided.ensures.refusal i.file.net i.file.tree H
    (c.in-Err.ensures.prices (weights_of i.file.net i.file.tree H) c.market.invariant.prices_stand)
    (open_by c.market.invariant)
    (asked_by i.file H c.args.name.now c.args.question.now c.in_ok-request.request is c.args.wish
    none) c.in-Err.ensures.bounds))
