use Rattle.std.proofs.Common.{◌<◌, length, slice_index_or, sym, subst, ◌∙◌, arith}
use Rattle.std.proofs.lemmas.Bool.{eqb-false}
use Rattle.std.proofs.lemmas.List.{get_or_default}
use Rattle.mk_sets.specs.Sets.{is_member}
use Rattle.mk_tree.specs.Given.{holds_event}
use Rattle.mk_plan.specs.Shapes.{ShapeOf}
use Rattle.mk_plan.specs.inner.Shaped.{StartsAt}
use Rattle.mk_plan.proofs.Starts.{no_pair, start_of}
use Rattle.mk_plan.proofs.shape.Shape.start.Goals as goal

pub returns-then-variable-len : goal.returns-then-variable-len
returns-then-variable-len c =
    let variable = (slice_index_or c.args.pairs.now 0 no_pair).variable in
    let ok = c.self.inside.starts.ok in
    let some = eqb-false (length c.args.pairs.now) 0 (sym c.is_empty.ensures ∙ c.if-is_empty.false) in
    let within : variable < length c.self.inside.starts.items = omega (arith, c.if-variable-len.true, c.len.ensures, ok) in
    subst (λ (s : ShapeOf). StartsAt s.tree (holds_event c.args.pairs.now) c.index.result.now) c.self.view_is
    (start_of c.self.inside.tree c.args.pairs.now c.index.result.now (omega (arith, some))
    (subst (StartsAt c.self.inside.tree (λ set. is_member set variable)) (sym (c.index.ensures ∙ get_or_default c.self.inside.starts.items variable c.index.result.now 0 within)) (c.self.invariant.starts_are variable within)))
