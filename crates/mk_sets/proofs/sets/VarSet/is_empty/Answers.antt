use Rattle.std.proofs.Common.{◌≡◌, sym, ◌∙◌, rules}
use Rattle.mk_sets.proofs.Bits.{empty_words, empty_low, empty_high}
use Rattle.mk_sets.proofs.Members.{said}
use Rattle.mk_sets.proofs.sets.VarSet.is_empty.Goals as goal

pub returns-then-self-eq0 : goal.returns-then-self-eq0
returns-then-self-eq0 c =
    let said_here = said c.self.inside c.args.self.now c.self.view_is c.self.invariant in
    let low : c.self.inside.low ≡ 0 = search rules in (
      λ t x. said_here x ∙ empty_words c.self.inside low (search rules) x,
      λ none. search (rules, empty_high c.self.inside (λ x. sym (said_here x) ∙ none x)),
    )

pub returns-else-self-eq0 : goal.returns-else-self-eq0
returns-else-self-eq0 c =
    let said_here = said c.self.inside c.args.self.now c.self.view_is c.self.invariant in (
      λ t. absurd (search rules),
      λ none. search (rules, empty_low c.self.inside c.self.invariant.low_fits (λ x. sym (said_here x) ∙ none x)),
    )
