use Rattle.std.proofs.Common.{◌≡◌, ℕ, List, ◌++◌, length, drop, refl, subst, ◌∙◌}
use Rattle.std.proofs.lemmas.Bool.Decides.{Decides-eqb}
use Rattle.std.proofs.lemmas.Slice.Eq.{starts_is}
use Rattle.mk_audit.specs.inner.Progress.{left_of}
use Rattle.mk_audit.proofs.Found.{bytes_passed, not_front}
use Rattle.mk_audit.proofs.front.Front.passes.Goals as goal

pub returns-then-starts_with-clause-passed : goal.returns-then-starts_with-clause-passed
returns-then-starts_with-clause-passed c = λ yes.
    let line = c.args.line.now in
    let test = starts_is Decides-eqb c.left.result.now line c.starts_with.result
    c.starts_with.ensures.value in (
      bytes_passed c.args.transcript.now line c.args.self.now c.pass.new.self
          (subst (λ (left : List ℕ). left ≡ line ++ drop (length line) left) c.left.ensures
          (test.0 c.if-starts_with.true)) c.pass.ensures.place,
      c.pass.ensures.count,
    )

pub returns-else-starts_with-clause-still : goal.returns-else-starts_with-clause-still
returns-else-starts_with-clause-still c = λ no.
    let line = c.args.line.now in
    let test = starts_is Decides-eqb c.left.result.now line c.starts_with.result
    c.starts_with.ensures.value in (
      refl,
      not_front (left_of c.args.transcript.now c.args.self.now) line c.starts_with.result
          (λ rest front. test.1 rest (c.left.ensures ∙ front)) c.if-starts_with.false,
    )
