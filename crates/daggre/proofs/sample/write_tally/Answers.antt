use Rattle.std.proofs.Common.{List, ℕ, ap, subst, ◌∙◌}
use Rattle.mk_io.specs.Outside.{append_known, AddsFront}
use Rattle.daggre.specs.Sampled.{count_lines, last_line}
use Rattle.daggre.proofs.Sampling.{front_first, front_when, whole_when}
use Rattle.daggre.proofs.sample.write_tally.Goals as goal

pub returns-in-Ok-clause-whole : goal.returns-in-Ok-clause-whole
returns-in-Ok-clause-whole g c =
    let shown = c.as_bytes.ensures.value ∙ c.deref.ensures.0 ∙ c.print_counts.ensures in
    whole_when c.write_last.result (count_lines c.args.n c.args.tally.now)
    (last_line c.args.tally.now.last) (g.S.Sink.written c.args.out.now)
    (g.S.Sink.written c.write_all.new.out) (g.S.Sink.written c.write_last.new.out)
    (c.in-Ok.ensures.whole ∙ ap (append_known (g.S.Sink.written c.args.out.now)) shown)
    c.write_last.ensures.whole

pub returns-in-Ok-clause-front : goal.returns-in-Ok-clause-front
returns-in-Ok-clause-front g c =
    let shown = c.as_bytes.ensures.value ∙ c.deref.ensures.0 ∙ c.print_counts.ensures in
    front_when c.write_last.result (count_lines c.args.n c.args.tally.now)
    (last_line c.args.tally.now.last) (g.S.Sink.written c.args.out.now)
    (g.S.Sink.written c.write_all.new.out) (g.S.Sink.written c.write_last.new.out)
    (c.in-Ok.ensures.whole ∙ ap (append_known (g.S.Sink.written c.args.out.now)) shown)
    c.write_last.ensures.front

pub returns-in-Err-clause-front : goal.returns-in-Err-clause-front
returns-in-Err-clause-front g c =
    let shown = c.as_bytes.ensures.value ∙ c.deref.ensures.0 ∙ c.print_counts.ensures in
    front_first (count_lines c.args.n c.args.tally.now) (last_line c.args.tally.now.last)
    (g.S.Sink.written c.args.out.now) (g.S.Sink.written c.write_all.new.out)
    (subst (λ (bytes : List ℕ). AddsFront (g.S.Sink.written c.args.out.now)
    (g.S.Sink.written c.write_all.new.out) bytes) shown c.in-Err.ensures.front)
