use Rattle.std.proofs.Common.{List, ℕ, inr, ap, subst, ◌∙◌}
use Rattle.mk_io.specs.Outside.{append_known, AddsFront}
use Rattle.mk_file.specs.File.{file_of}
use Rattle.mk_make.specs.Sample.{sample_file, sample_commands}
use Rattle.mk_session.specs.Texts.{fault_line}
use Rattle.daggre.proofs.Sampling.{refused, has_line, adds_fault, adds_front}
use Rattle.daggre.proofs.sample.say_fault.Goals as goal

pub print_fault_line-requires : goal.print_fault_line-requires
print_fault_line-requires g c = has_line c.args.fault (file_of (sample_file c.args.n))
    (sample_commands c.args.n) c.requires

pub returns-in-Ok-clause-output : goal.returns-in-Ok-clause-output
returns-in-Ok-clause-output g c =
    let shown = c.as_bytes.ensures.value ∙ c.deref.ensures.0 ∙ c.print_fault_line.ensures in
    adds_fault c.args.n c.args.fault (g.S.Sink.written c.args.out.now)
    (g.S.Sink.written c.write_all.new.out) (refused c.args.n c.args.fault c.requires)
    (c.in-Ok.ensures.whole ∙ ap (append_known (g.S.Sink.written c.args.out.now)) shown)

pub returns-in-Err-clause-output : goal.returns-in-Err-clause-output
returns-in-Err-clause-output g c =
    let shown = c.as_bytes.ensures.value ∙ c.deref.ensures.0 ∙ c.print_fault_line.ensures in
    adds_front c.args.n (fault_line c.args.fault) (g.S.Sink.written c.args.out.now)
    (g.S.Sink.written c.write_all.new.out)
    (inr (refused c.args.n c.args.fault c.requires))
    (subst (λ (bytes : List ℕ). AddsFront (g.S.Sink.written c.args.out.now)
    (g.S.Sink.written c.write_all.new.out) bytes) shown c.in-Err.ensures.front)
