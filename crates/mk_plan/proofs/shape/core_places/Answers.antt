use Rattle.std.proofs.Common.{◌≡◌, ◌+◌, ◌-◌, ◌≤◌, [], map, length, arith, sym, subst}
use Rattle.std.proofs.lemmas.List.{length-map}
use Rattle.mk_scope.specs.Scopes.{ScopeOf, LiesIn}
use Rattle.mk_plan.specs.Shapes.{IsClique, clique_scope, core_scope}
use Rattle.mk_plan.specs.inner.Shaped.{shape_of}
use Rattle.mk_plan.proofs.Shaped.{core_place_more, scope_read}
use Rattle.mk_plan.proofs.shape.core_places.Goals as goal

pub of-requires : goal.of-requires
of-requires c =
    let shape = shape_of c.args.tree.now (map (λ scope. scope.value) c.args.cliques.now) (map (λ scope. scope.value) c.args.cores.now) [] in
    let k = c.loop-passed.passed + 1 in
    let clique : IsClique c.args.tree.now k = record { first = omega arith; last = omega (arith, c.loop-passed-test.true, c.cliques-passed-end.ensures.count) } in
    let m = length-map c.args.cliques.now (λ scope. scope.value) in let n = length-map c.args.cores.now (λ scope. scope.value) in
    let w : c.index-cliques-passed.result.value ≡ clique_scope shape k =
    scope_read (λ scope. scope.value) c.args.cliques.now c.loop-passed.passed (k - 1) c.index-cliques-passed.result (omega (arith, m, c.requires.one_each, clique.last)) (omega arith) c.index-cliques-passed.is in
    let p : c.index-cores-passed.result.value ≡ core_scope shape k =
    scope_read (λ scope. scope.value) c.args.cores.now c.loop-passed.passed (k - 1) c.index-cores-passed.result (omega (arith, n, c.requires.one_core_each, clique.last)) (omega arith) c.index-cores-passed.is in
    subst (λ (s : ScopeOf). LiesIn s c.index-cliques-passed.result.value) (sym p) (subst (LiesIn (core_scope shape k)) (sym w) (c.requires.lie k clique))

pub loop-passed-preserved : goal.loop-passed-preserved
loop-passed-preserved c =
    let shape = shape_of c.args.tree.now (map (λ scope. scope.value) c.args.cliques.now) (map (λ scope. scope.value) c.args.cores.now) [] in
    let k = c.loop-passed.passed + 1 in
    let last : k ≤ length c.args.tree.now.cliques = omega (arith, c.loop-passed-test.true, c.cliques-passed-end.ensures.count) in
    let m = length-map c.args.cliques.now (λ scope. scope.value) in let n = length-map c.args.cores.now (λ scope. scope.value) in
    core_place_more shape c.loop-passed.passed c.loop-passed.places.items c.push.new.self.items c.in_ok-of.field-0 c.index-cliques-passed.result.value c.index-cores-passed.result.value
    c.loop-passed.invariant c.in_ok-push.ensures.items
    (scope_read (λ scope. scope.value) c.args.cliques.now c.loop-passed.passed (k - 1) c.index-cliques-passed.result (omega (arith, m, c.requires.one_each, last)) (omega arith) c.index-cliques-passed.is)
    (scope_read (λ scope. scope.value) c.args.cores.now c.loop-passed.passed (k - 1) c.index-cores-passed.result (omega (arith, n, c.requires.one_core_each, last)) (omega arith) c.index-cores-passed.is)
    c.in_ok-of.ensures
