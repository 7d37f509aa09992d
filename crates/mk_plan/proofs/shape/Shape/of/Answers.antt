use Rattle.std.proofs.Common.{◌-◌, true, false, [], map, length, refl, sym, ap, subst, ◌∙◌}
use Rattle.mk_plan.specs.Shapes.{all_scopes}
use Rattle.mk_plan.specs.inner.Shaped.{CanPlaceCores, shape_of, places_of, core_places_of}
use Rattle.mk_plan.proofs.Shaped.{shaped, few_scopes, shape_for, can_place, can_place_cores, can_place_in_itself}
use Rattle.mk_plan.proofs.shape.Shape.of.Goals as goal

pub core_scopes-requires-clause-lists : goal.core_scopes-requires-clause-lists
core_scopes-requires-clause-lists c = ap (map (λ list. list.items)) c.deref.ensures.value ∙ c.in_ok-neighbours.ensures

pub separator_places-requires : goal.separator_places-requires
separator_places-requires c =
    can_place (shape_of c.args.tree.now (map (λ scope. scope.value) c.in_ok-cliques.cliques.items) (map (λ scope. scope.value) c.deref-2.result.now) (map (λ scope. scope.value) c.deref-3.result.now)) c.args.net.now c.args.tree.now refl
    c.in_ok-cliques.ensures (ap (map (λ scope. scope.value)) c.deref-2.ensures.value ∙ c.in_ok-cores.ensures) (ap (map (λ scope. scope.value)) c.deref-3.ensures.value ∙ c.in_ok-separators.ensures)
    c.variables.ensures.network c.requires false

pub separator_places-requires-2 : goal.separator_places-requires-2
separator_places-requires-2 c =
    can_place (shape_of c.args.tree.now (map (λ scope. scope.value) c.in_ok-cliques.cliques.items) (map (λ scope. scope.value) c.deref-4.result.now) (map (λ scope. scope.value) c.deref-5.result.now)) c.args.net.now c.args.tree.now refl
    c.in_ok-cliques.ensures (ap (map (λ scope. scope.value)) c.deref-4.ensures.value ∙ c.in_ok-cores.ensures) (ap (map (λ scope. scope.value)) c.deref-5.ensures.value ∙ c.in_ok-separators.ensures)
    c.variables.ensures.network c.requires true

pub core_places-requires : goal.core_places-requires
core_places-requires c =
    can_place_cores (shape_of c.args.tree.now (map (λ scope. scope.value) c.deref-6.result.now) (map (λ scope. scope.value) c.deref-7.result.now) (map (λ scope. scope.value) c.in_ok-separators.separators.items)) c.args.net.now c.args.tree.now refl
    (ap (map (λ scope. scope.value)) c.deref-6.ensures.value ∙ c.in_ok-cliques.ensures) (ap (map (λ scope. scope.value)) c.deref-7.ensures.value ∙ c.in_ok-cores.ensures) c.in_ok-separators.ensures
    c.variables.ensures.network c.requires

pub core_places-requires-2 : goal.core_places-requires-2
core_places-requires-2 c =
    let tree = c.args.tree.now in
    subst (λ xs. CanPlaceCores (shape_of tree (map (λ scope. scope.value) xs) (map (λ scope. scope.value) c.deref-9.result.now) [])) (c.deref-9.ensures.value ∙ sym c.deref-8.ensures.value)
    (can_place_in_itself (shape_of tree (map (λ scope. scope.value) c.in_ok-cliques.cliques.items) (map (λ scope. scope.value) c.deref-9.result.now) (map (λ scope. scope.value) c.in_ok-separators.separators.items)) c.args.net.now tree refl
    c.in_ok-cliques.ensures (ap (map (λ scope. scope.value)) c.deref-9.ensures.value ∙ c.in_ok-cores.ensures) c.in_ok-separators.ensures
    c.variables.ensures.network c.requires)

pub of-requires : goal.of-requires
of-requires c =
    let cliques = c.in_ok-cliques.cliques.items in let cores = c.in_ok-cores.cores.items in
    record {
      few = few_scopes (shape_of c.args.tree.now (map (λ scope. scope.value) cliques) (map (λ scope. scope.value) cores) (map (λ scope. scope.value) c.in_ok-separators.separators.items)) c.args.net.now c.args.tree.now refl
          c.in_ok-cliques.ensures c.in_ok-cores.ensures c.in_ok-separators.ensures c.cliques.ensures.linked (λ scope. scope.value) c.in_ok-scopes.scopes.items
          (c.in_ok-scopes.ensures
          ∙ ap (λ xs. all_scopes (map (λ scope. scope.value) xs) (map (λ scope. scope.value) c.deref-11.result.now) (map (λ scope. scope.value) c.deref-12.result.now)) c.deref-10.ensures.value
          ∙ ap (λ xs. all_scopes (map (λ scope. scope.value) cliques) (map (λ scope. scope.value) xs) (map (λ scope. scope.value) c.deref-12.result.now)) c.deref-11.ensures.value
          ∙ ap (λ xs. all_scopes (map (λ scope. scope.value) cliques) (map (λ scope. scope.value) cores) (map (λ scope. scope.value) xs)) c.deref-12.ensures.value);
    }

pub invariant_of-result : goal.invariant_of-result
invariant_of-result c =
    let tree = c.args.tree.now in let n = length tree.cliques - 1 in let cliques = c.in_ok-cliques.cliques.items in let cores = c.in_ok-cores.cores.items in
    shaped _ c.args.net.now tree c.in_ok-copy.ensures c.in_ok-cliques.ensures c.in_ok-cores.ensures c.in_ok-separators.ensures c.cliques.ensures.linked
    c.in_ok-in_cliques.in_cliques.items c.in_ok-in_links.in_links.items c.in_ok-in_whole.in_whole.items c.in_ok-in_itself.in_itself.items
    (c.in_ok-in_cliques.ensures ∙ ap (λ xs. places_of (shape_of tree [] (map (λ scope. scope.value) xs) (map (λ scope. scope.value) c.deref-3.result.now)) false n) c.deref-2.ensures.value
    ∙ ap (λ xs. places_of (shape_of tree [] (map (λ scope. scope.value) cores) (map (λ scope. scope.value) xs)) false n) c.deref-3.ensures.value)
    (c.in_ok-in_links.ensures ∙ ap (λ xs. places_of (shape_of tree [] (map (λ scope. scope.value) xs) (map (λ scope. scope.value) c.deref-5.result.now)) true n) c.deref-4.ensures.value
    ∙ ap (λ xs. places_of (shape_of tree [] (map (λ scope. scope.value) cores) (map (λ scope. scope.value) xs)) true n) c.deref-5.ensures.value)
    (c.in_ok-in_whole.ensures ∙ ap (λ xs. core_places_of (shape_of tree (map (λ scope. scope.value) xs) (map (λ scope. scope.value) c.deref-7.result.now) []) (length tree.cliques)) c.deref-6.ensures.value
    ∙ ap (λ xs. core_places_of (shape_of tree (map (λ scope. scope.value) cliques) (map (λ scope. scope.value) xs) []) (length tree.cliques)) c.deref-7.ensures.value)
    (c.in_ok-in_itself.ensures ∙ ap (λ xs. core_places_of (shape_of tree (map (λ scope. scope.value) xs) (map (λ scope. scope.value) c.deref-9.result.now) []) (length tree.cliques)) c.deref-8.ensures.value
    ∙ ap (λ xs. core_places_of (shape_of tree (map (λ scope. scope.value) cores) (map (λ scope. scope.value) xs) []) (length tree.cliques)) c.deref-9.ensures.value)
    (map (λ list. list.items) c.in_ok-neighbours.neighbours.items) (map (λ next. next.items) c.in_ok-ways.field-0.items) c.in_ok-neighbours.ensures c.in_ok-ways.ensures c.in_ok-starts.field-0.items c.in_ok-starts.ensures
    c.in_ok-new.field-0.value
    (c.in_ok-new.ensures.ok ∙ c.of.ensures ∙ c.in_ok-scopes.ensures
    ∙ ap (λ xs. all_scopes (map (λ scope. scope.value) xs) (map (λ scope. scope.value) c.deref-11.result.now) (map (λ scope. scope.value) c.deref-12.result.now)) c.deref-10.ensures.value
    ∙ ap (λ xs. all_scopes (map (λ scope. scope.value) cliques) (map (λ scope. scope.value) xs) (map (λ scope. scope.value) c.deref-12.result.now)) c.deref-11.ensures.value
    ∙ ap (λ xs. all_scopes (map (λ scope. scope.value) cliques) (map (λ scope. scope.value) cores) (map (λ scope. scope.value) xs)) c.deref-12.ensures.value)

pub returns-clause-shape : goal.returns-clause-shape
returns-clause-shape c =
    shape_for _ c.args.net.now c.args.tree.now c.in_ok-copy.ensures c.in_ok-cliques.ensures c.in_ok-cores.ensures c.in_ok-separators.ensures c.variables.ensures.network c.requires
