use Rattle.std.proofs.Common.{◌≡◌, ◌==◌, ◌&&◌, Bool, true, false, sym, ap, ◌∙◌, rules}
use Rattle.mk_sets.proofs.Members.{equal_words}
use Rattle.mk_sets.proofs.sets.VarSetPartialEq.eq.Goals as goal

pub returns-then-self-other : goal.returns-then-self-other
returns-then-self-other c =
    let low : (c.self.inside.low == c.other.inside.low) ≡ true = search rules in
    ap (λ (t : Bool). t && (c.self.inside.high == c.other.inside.high)) (sym low)
    ∙ equal_words c.self.inside c.args.self.now c.self.view_is c.self.invariant c.other.inside c.args.other.now c.other.view_is c.other.invariant

pub returns-else-self-other : goal.returns-else-self-other
returns-else-self-other c =
    let low : (c.self.inside.low == c.other.inside.low) ≡ false = search rules in
    low ∙ ap (λ (t : Bool). t && (c.self.inside.high == c.other.inside.high)) (sym low)
    ∙ equal_words c.self.inside c.args.self.now c.self.view_is c.self.invariant c.other.inside c.args.other.now c.other.view_is c.other.invariant
