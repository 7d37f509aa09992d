use Rattle.mk_verify.proofs.plain.tells_question.Goals as goal

pub returns-then-has_text : goal.returns-then-has_text
returns-then-has_text g c =
    let tells = rw c.history.ensures.same at c.tells_addition.ensures in (
      (λ yes. (c.has_text.ensures.0 c.if-has_text.true, tells.0 yes)),
      (λ both. tells.1 (both.1)),
    )

pub returns-else-has_text : goal.returns-else-has_text
returns-else-has_text g c = (
  λ yes. absurd (cc),
  λ both. absurd (let yes = c.has_text.ensures.1 (both.0) in cc),
)
