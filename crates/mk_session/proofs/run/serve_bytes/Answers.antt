use Rattle.std.proofs.Common.{[], Err, ap, sym, ◌∙◌}
use Rattle.mk_file.specs.File.{file_of}
use Rattle.mk_session.proofs.Serving.{turned_told}
use Rattle.mk_session.proofs.run.serve_bytes.Goals as goal

pub returns-in-Err-clause-outcome : goal.returns-in-Err-clause-outcome
returns-in-Err-clause-outcome g c = λ all told. record {
  rest = all;
  told = told;
  output = c.refuse.ensures.output (file_of c.args.bytes.items) all
      (λ known. ap file_of (sym (c.as_slice.ensures.value)) ∙ c.in-Err.ensures.refused known);
}

pub returns-in-Err-clause-refused : goal.returns-in-Err-clause-refused
returns-in-Err-clause-refused g c = λ fault given.
    turned_told c.refuse.result fault (g.I.Inputs.commands c.args.inputs.now)
    (g.S.Sink.written c.args.out.now) (g.S.Sink.written c.refuse.new.out)
    (c.refuse.ensures.output (Err fault) [] (λ known. sym given
    ∙ ap file_of (sym (c.as_slice.ensures.value)) ∙ c.in-Err.ensures.refused known))

pub returns-in-Ok-clause-refused : goal.returns-in-Ok-clause-refused
returns-in-Ok-clause-refused g c = λ fault given.
    let both = sym given ∙ ap file_of (sym (c.as_slice.ensures.value)) ∙ c.in-Ok.ensures.accepted in
    absurd (cc)
