use Rattle.std.specs.Prelude.{◌≡◌, Some, None, slice_get}
use Rattle.std.specs.Map.{values_of}
use Rattle.std.proofs.Common.{◌∙◌, sym, arith}
use Rattle.mk_net.proofs.StoredReads.{kept_value, few_stored}
use Rattle.mk_net.proofs.Named.{unknown_variable, known_variable}
use Rattle.mk_net.proofs.network.Network.find.Goals as goal

pub returns-in_err-variable : goal.returns-in_err-variable
returns-in_err-variable c = c.from_residual.ensures ∙
    sym (unknown_variable c.self.inside.variables.entries c.args.self.now c.self.view_is c.args.pair.now c.in_err-variable.ensures.index)

pub returns-in_err-value : goal.returns-in_err-value
returns-in_err-value c = c.from_residual-in_err-value.ensures ∙
    sym (known_variable c.self.inside.variables.entries c.args.self.now c.self.view_is c.args.pair.now c.in_ok-variable.variable c.in_ok-variable.stored.now None
    c.in_ok-variable.ensures.index (kept_value c.self.inside.variables.entries c.in_ok-variable.variable _ c.in_ok-variable.stored.now c.in_ok-variable.ensures.entry)
    c.in_err-value.ensures.index)

pub overflow_cast-result-2 : goal.overflow_cast-result-2
overflow_cast-result-2 c =
    let kept : slice_get (values_of c.self.inside.variables.entries) c.in_ok-variable.variable ≡ Some c.in_ok-variable.stored.now =
    kept_value c.self.inside.variables.entries c.in_ok-variable.variable _ c.in_ok-variable.stored.now c.in_ok-variable.ensures.entry in
    omega (
      arith,
      c.in_ok-value.ensures.within,
      few_stored c.self.inside.variables.entries c.args.self.now c.self.view_is c.in_ok-variable.variable c.in_ok-variable.stored.now (rw c.self.view_is at c.self.invariant.network) kept,
    )

pub returns : goal.returns
returns c =
    sym (known_variable c.self.inside.variables.entries c.args.self.now c.self.view_is c.args.pair.now c.in_ok-variable.variable c.in_ok-variable.stored.now (Some c.in_ok-value.value)
    c.in_ok-variable.ensures.index (kept_value c.self.inside.variables.entries c.in_ok-variable.variable _ c.in_ok-variable.stored.now c.in_ok-variable.ensures.entry)
    c.in_ok-value.ensures.index)
