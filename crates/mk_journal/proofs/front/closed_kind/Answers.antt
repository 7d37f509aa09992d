use Rattle.std.proofs.Common.{inl, inr, ⊎_elim, sym, ◌∙◌, arith}
use Rattle.mk_journal.proofs.Fronts.{alien_unless, too_long, not_written, header_there, written_new}
use Rattle.mk_journal.proofs.front.closed_kind.Goals as goal
use Rattle.mk_journal.proofs.front.closed_kind.Goals.{else-has_header-via-then-has_header+else-len-whole-2, else-has_header-via-else-has_header}

pub returns-then-len-whole-clause-kind : goal.returns-then-len-whole-clause-kind
returns-then-len-whole-clause-kind c market rest closed len long whole stands =
    alien_unless market rest c.args.gate closed (too_long market rest c.args.gate closed (omega (arith, c.if-len-whole.true)))

pub returns-then-len-whole-2-clause-kind : goal.returns-then-len-whole-2-clause-kind
returns-then-len-whole-2-clause-kind c market rest closed len long whole stands =
    let there = stands.0 c.if-has_header.true in (
      header_there market rest c.args.gate closed there,
      written_new market rest c.args.gate closed there (omega (arith, c.if-len-whole.false))
          (⊎_elim (λ none. inl none) (λ both. inr (sym len ∙ both.1 ∙ whole)) c.if-len-whole-2.either),
    )

pub returns-clause-kind : goal.returns-clause-kind
returns-clause-kind c market rest closed len long whole stands =
    alien_unless market rest c.args.gate closed (not_written market rest c.args.gate closed (omega arith) c.if-gate-eq0-2.false (λ there size.
    elim c.else-has_header.branch [
      | else-has_header-via-then-has_header+else-len-whole-2 w ↦ w.if-len-whole-2.false.1 (len ∙ size ∙ sym whole)
      | else-has_header-via-else-has_header w ↦ let yes = stands.1 there in cc (w.if-has_header.false, yes)
    ]))
