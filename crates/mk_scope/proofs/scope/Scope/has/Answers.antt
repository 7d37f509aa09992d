use Rattle.std.proofs.Common.{◌==◌, ap, ◌∙◌}
use Rattle.std.specs.List.{list_any}
use Rattle.mk_scope.specs.Scopes.{ScopeOf, has_variable}
use Rattle.mk_scope.proofs.Pinned.{listed_by_any}
use Rattle.mk_scope.proofs.scope.Scope.has.Goals as goal

pub returns : goal.returns
returns c =
    c.contains.ensures.value ∙ ap (list_any (λ y. y == c.args.variable)) c.deref.ensures.value ∙ listed_by_any c.self.inside.variables.items c.args.variable
    ∙ ap (λ (s : ScopeOf). has_variable s c.args.variable) c.self.view_is
