use Rattle.std.proofs.Common.{All, refl, subst, arith}
use Rattle.std.proofs.lemmas.List.{take_all}
use Rattle.std.proofs.lemmas.List.Elements.{All-more}
use Rattle.mk_text.specs.Numbers.{IsShort}
use Rattle.mk_told.proofs.wording.are_short.Goals as goal

pub loop-number-preserved : goal.loop-number-preserved
loop-number-preserved c =
    All-more IsShort c.args.numbers.now c.loop-number.number-index 0 (omega arith)
    c.loop-number.invariant (omega arith)

pub returns : goal.returns
returns c = (
  λ yes. subst (All IsShort)
      (take_all c.loop-number.number-index c.args.numbers.now (omega arith))
      c.loop-number.invariant,
  λ all. refl,
)
