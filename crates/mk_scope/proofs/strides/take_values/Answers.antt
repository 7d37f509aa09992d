use Rattle.std.proofs.Common.{◌+◌, ◌*◌, ◌<◌, sym, ◌∙◌}
use Rattle.std.proofs.lemmas.List.Elements.{All-weaker}
use Rattle.mk_scope.specs.inner.Strides.{lets}
use Rattle.mk_scope.proofs.Doubled.{repeated_value, repeated_no_value, repeated_each, moved_below}
use Rattle.mk_scope.proofs.strides.take_values.Goals as goal

pub move_all-requires : goal.move_all-requires
move_all-requires c =
    All-weaker (λ k. k < c.args.stride) (λ k. c.in-Some.value * c.args.stride + k < 4096)
    (λ k l. moved_below c.in-Some.value c.args.size c.args.stride k c.if-value-size.true l
    c.requires.repeatable.fits) c.args.cells.now.items c.requires.repeatable.below

pub returns-in-None : goal.returns-in-None
returns-in-None c = c.repeat.ensures ∙ sym (repeated_each (lets c.args.pairs.now c.args.variable) c.args.stride c.args.size c.args.cells.now.items (c.in-None.ensures).none)

pub returns-then-value-size : goal.returns-then-value-size
returns-then-value-size c =
    c.move_all.ensures ∙ sym (repeated_value (lets c.args.pairs.now c.args.variable) c.args.stride c.args.size c.in-Some.value c.args.cells.now.items (c.in-Some.ensures).some c.if-value-size.true)

pub returns-else-value-size : goal.returns-else-value-size
returns-else-value-size c =
    c.clear.ensures ∙ sym (repeated_no_value (lets c.args.pairs.now c.args.variable) c.args.stride c.args.size c.in-Some.value c.args.cells.now.items (c.in-Some.ensures).some c.if-value-size.false)
