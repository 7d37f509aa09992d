use Rattle.std.proofs.Common.{◌≡◌, decimal, arith, sym, ap, ◌∙◌}
use Rattle.std.proofs.lemmas.Option.{none-some, same_Some}
use Rattle.mk_text.proofs.NumberLemmas.{decimal_writing, number_found, number_refused, told_same, told_apart}
use Rattle.mk_text.proofs.numbers.number_of.Goals as goal
use Rattle.mk_text.proofs.numbers.number_of.Goals.{else-number-limit-via-then-number-limit+else-eq, else-number-limit-via-else-number-limit}

pub returns-in_err-number-clause-found : goal.returns-in_err-number-clause-found
returns-in_err-number-clause-found c = c.from_residual.ensures ∙ sym (number_refused decimal c.args.limit c.args.word.now c.value_of.result
    (decimal_writing c.args.limit (omega arith)) (omega arith) c.value_of.ensures
    (λ n read below same. none-some n (sym c.in_err-number.was ∙ read)))

pub returns-then-eq-clause-found : goal.returns-then-eq-clause-found
returns-then-eq-clause-found c = sym (number_found decimal c.args.limit c.in_ok-number.number c.args.word.now
    (decimal_writing c.args.limit (omega arith)) c.if-number-limit.true
    (told_same _ _ c.args.word.now _ (c.as_bytes.ensures.value ∙ c.format.ensures.text) c.eq.ensures c.if-eq.true))

pub returns-else-number-limit-clause-found : goal.returns-else-number-limit-clause-found
returns-else-number-limit-clause-found c = sym (number_refused decimal c.args.limit c.args.word.now c.value_of.result
    (decimal_writing c.args.limit (omega arith)) (omega arith) c.value_of.ensures
    (λ n read below same. let own : c.in_ok-number.number ≡ n = same_Some c.in_ok-number.number n (sym c.in_ok-number.was ∙ read) in
    elim c.else-number-limit.branch [
      | else-number-limit-via-then-number-limit+else-eq w ↦
          told_apart _ _ c.args.word.now _ (w.as_bytes.ensures.value ∙ w.format.ensures.text) w.eq.ensures w.if-eq.false (ap decimal own ∙ same)
      | else-number-limit-via-else-number-limit w ↦ omega arith
    ]))
