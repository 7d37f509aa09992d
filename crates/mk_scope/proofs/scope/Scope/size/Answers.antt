use Rattle.std.proofs.Common.{◌≡◌, ◌<◌, ⊎_elim, slice_index, length, sym, ap, arith, ◌∙◌}
use Rattle.std.proofs.lemmas.Bool.{cases_eq}
use Rattle.std.proofs.lemmas.List.{get_or_default}
use Rattle.mk_scope.specs.Scopes.{ScopeOf, size_in}
use Rattle.mk_scope.proofs.Members.{no_size, size_at}
use Rattle.mk_scope.proofs.scope.Scope.size.Goals as goal

pub loop-place-init : goal.loop-place-init
loop-place-init c = record { none = λ k l e. absurd (omega (arith, l)) }

pub loop-place-preserved : goal.loop-place-preserved
loop-place-preserved c =
    let vs = c.self.inside.variables.items in let i = c.loop-place.place in
    let within : i < length vs = omega (arith, c.self.inside.variables.ok.0, c.loop-place-test.true, c.len-place-end.ensures) in
    let here = c.index.ensures ∙ get_or_default vs i c.index.result.now 0 within in
    record {
      none = λ k l e. ⊎_elim
          (λ (s : k ≡ i). c.if-index-variable.false (here ∙ ap (slice_index vs) (sym s) ∙ e))
          (λ n. c.loop-place.invariant.none k (omega (arith, l, n)) e)
          (cases_eq k i);
    }

pub returns-then-index-variable-clause-size : goal.returns-then-index-variable-clause-size
returns-then-index-variable-clause-size c =
    let vs = c.self.inside.variables.items in let ns = c.self.inside.sizes.items in let i = c.loop-place.place in
    let scope : ScopeOf = record { variables = vs; sizes = ns } in
    let within : i < length vs = omega (arith, c.self.inside.variables.ok.0, c.loop-place-test.true, c.len-place-end.ensures) in
    let x = sym (get_or_default vs i c.index.result.now 0 within) ∙ sym c.index.ensures ∙ c.if-index-variable.true in
    c.index-then-index-variable.ensures ∙ get_or_default ns i c.index-then-index-variable.result.now 0 (omega (arith, within, c.self.invariant.scope_is.one_size_each))
    ∙ sym (size_at scope c.self.invariant.scope_is i within) ∙ ap (size_in scope) x
    ∙ ap (λ (s : ScopeOf). size_in s c.args.variable) c.self.view_is

pub returns-then-index-variable-clause-some : goal.returns-then-index-variable-clause-some
returns-then-index-variable-clause-some c =
    let vs = c.self.inside.variables.items in let ns = c.self.inside.sizes.items in let i = c.loop-place.place in
    let within : i < length vs = omega (arith, c.self.inside.variables.ok.0, c.loop-place-test.true, c.len-place-end.ensures) in
    let one_each = c.self.invariant.scope_is.one_size_each in
    let s = c.index-then-index-variable.ensures ∙ get_or_default ns i c.index-then-index-variable.result.now 1 (omega (arith, within, one_each)) in
    let p = c.self.invariant.scope_is.positive i 1 (omega (arith, within, one_each)) in
    omega (arith, s, p)

pub returns-clause-size : goal.returns-clause-size
returns-clause-size c =
    let vs = c.self.inside.variables.items in
    no_size (record { variables = vs; sizes = c.self.inside.sizes.items }) c.self.invariant.scope_is c.args.variable
    (λ k l e. c.loop-place.invariant.none k (omega (arith, l, c.self.inside.variables.ok.0, c.loop-place-test.false, c.len-place-end.ensures)) e)
    ∙ ap (λ (s : ScopeOf). size_in s c.args.variable) c.self.view_is
