use Rattle.std.proofs.Common.{ap, Some}
use Rattle.mk_io.specs.Quiet.{QuietIn, file_or_empty}
use Rattle.mk_session.proofs.Completing.{none_rose, refused_so}
use Rattle.mk_session.proofs.quiet.serve_quiet.Goals as goal

pub returns-clause-complete : goal.returns-clause-complete
returns-clause-complete c = λ ok within.
    c.serve.ensures.complete _ _ (ap (λ (i : QuietIn). Some (file_or_empty i.files c.args.name.now))
    c.new-inputs.ensures)
    (ap (λ (i : QuietIn). Some i.commands) c.new-inputs.ensures) ok within none_rose none_rose

pub returns-clause-refused : goal.returns-clause-refused
returns-clause-refused c = λ fault given.
    refused_so c.serve.result fault _ _ _ _ 0 0 0 0
    (c.serve.ensures.refused _ fault
    (ap (λ (i : QuietIn). Some (file_or_empty i.files c.args.name.now)) c.new-inputs.ensures)
    given)
    c.serve.ensures.causes none_rose none_rose
