use Rattle.std.proofs.Common.{ap, ◌∙◌, ◌+◌, Ok}
use Rattle.mk_audit.specs.declared.front.Front.{Front}
use Rattle.mk_audit.specs.declared.verdict.Verdict.{Verdict}
use Rattle.mk_audit.specs.declared.verdict.Verdict.TheVariants.{No}
use Rattle.mk_audit.proofs.front.Front.hold_bytes.Goals as goal

pub returns-then-passes-clause-found : goal.returns-then-passes-clause-found
returns-then-passes-clause-found c = c.passes.ensures.passed c.if-passes.true

pub returns-else-passes-clause-found : goal.returns-else-passes-clause-found
returns-else-passes-clause-found c =
    let still = c.passes.ensures.still c.if-passes.false in (
      ap (λ (v : Verdict). Ok v)
          (c.wrong.ensures ∙ ap (λ (f : Front). No (f.right + 1)) still.0),
      still.1,
    )
