use Rattle.std.proofs.Common.{◌≡◌, ℕ, List, ◌++◌, length, ap, sym, ◌∙◌, arith}
use Rattle.std.proofs.lemmas.Bool.Decides.{Decides-eqb}
use Rattle.std.proofs.lemmas.Slice.Eq.{starts_is}
use Rattle.mk_session.specs.Texts.{ready_line}
use Rattle.mk_audit.proofs.Endings.{begins_with}
use Rattle.mk_audit.proofs.Found.{not_front}
use Rattle.mk_audit.proofs.ready.behind_ready_line.Goals as goal

pub returns-then-starts_with-clause-begins : goal.returns-then-starts_with-clause-begins
returns-then-starts_with-clause-begins c =
    let transcript = c.args.transcript.now in
    let line = c.as_bytes.result.now in
    let text = c.as_bytes.ensures.value ∙ c.deref.ensures.0 ∙ c.print_ready.ensures in
    let size : c.len.result ≡ length line = omega (
      arith,
      c.len.ensures.value,
      ap length (c.as_bytes.ensures.value ∙ c.deref.ensures.0),
    ) in
    begins_with transcript line (ready_line c.args.market.now.market) c.len.result text size
    ((starts_is Decides-eqb transcript line c.starts_with.result c.starts_with.ensures.value).0
    c.if-starts_with.true)

pub returns-else-starts_with-clause-begins : goal.returns-else-starts_with-clause-begins
returns-else-starts_with-clause-begins c =
    let transcript = c.args.transcript.now in
    let line = c.as_bytes.result.now in
    let text = c.as_bytes.ensures.value ∙ c.deref.ensures.0 ∙ c.print_ready.ensures in
    not_front transcript (ready_line c.args.market.now.market) c.starts_with.result
    (λ rest front. (starts_is Decides-eqb transcript line c.starts_with.result
    c.starts_with.ensures.value).1 rest (front ∙ ap (λ (l : List ℕ). l ++ rest) (sym text)))
    c.if-starts_with.false
