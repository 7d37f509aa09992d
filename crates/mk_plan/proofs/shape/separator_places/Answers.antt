use Rattle.std.proofs.Common.{◌≡◌, ◌+◌, ◌-◌, [], map, arith, refl, sym, ap, subst, ◌∙◌}
use Rattle.std.proofs.lemmas.List.{length-map}
use Rattle.mk_scope.specs.Scopes.{ScopeOf, LiesIn}
use Rattle.mk_plan.specs.Shapes.{IsClique, core_scope, separator_scope}
use Rattle.mk_plan.specs.inner.Shaped.{shape_of}
use Rattle.mk_plan.proofs.Shaped.{place_more, scope_read}
use Rattle.mk_plan.proofs.shape.separator_places.Goals as goal

pub of-requires : goal.of-requires
of-requires c =
    let shape = shape_of c.args.tree.now [] (map (λ scope. scope.value) c.args.cores.now) (map (λ scope. scope.value) c.args.separators.now) in
    let k = c.loop-passed.passed + 2 in
    let clique : IsClique c.args.tree.now k = record { first = omega arith; last = omega (arith, c.loop-passed-test.true, c.cliques-passed-end.ensures.count) } in
    let m = length-map c.args.cores.now (λ scope. scope.value) in let n = length-map c.args.separators.now (λ scope. scope.value) in
    let whole = c.whole_of-whole.ensures in
    let w : c.index-cores-whole.result.value ≡ core_scope shape c.whole_of-whole.result =
    scope_read (λ scope. scope.value) c.args.cores.now (c.whole_of-whole.result - 1) (c.whole_of-whole.result - 1) c.index-cores-whole.result (omega (arith, m, c.requires.one_each, whole.clique.first, whole.clique.last)) refl c.index-cores-whole.is in
    let p : c.index-separators-passed.result.value ≡ separator_scope shape k =
    scope_read (λ scope. scope.value) c.args.separators.now c.loop-passed.passed (k - 2) c.index-separators-passed.result (omega (arith, n, c.requires.one_less, c.loop-passed-test.true, c.cliques-passed-end.ensures.count)) (omega arith) c.index-separators-passed.is in
    subst (λ (s : ScopeOf). LiesIn s c.index-cores-whole.result.value) (sym p)
    (subst (LiesIn (separator_scope shape k)) (sym (w ∙ ap (core_scope shape) whole.whole)) (c.requires.lie k clique (omega arith)))

pub loop-passed-preserved : goal.loop-passed-preserved
loop-passed-preserved c =
    let shape = shape_of c.args.tree.now [] (map (λ scope. scope.value) c.args.cores.now) (map (λ scope. scope.value) c.args.separators.now) in
    let k = c.loop-passed.passed + 2 in
    let m = length-map c.args.cores.now (λ scope. scope.value) in let n = length-map c.args.separators.now (λ scope. scope.value) in
    let whole = c.whole_of-whole.ensures in
    place_more shape c.args.in_link c.loop-passed.passed c.whole_of-whole.result c.loop-passed.places.items c.push.new.self.items c.in_ok-of.field-0 c.index-cores-whole.result.value c.index-separators-passed.result.value
    c.loop-passed.invariant c.in_ok-push.ensures.items whole.whole
    (scope_read (λ scope. scope.value) c.args.cores.now (c.whole_of-whole.result - 1) (c.whole_of-whole.result - 1) c.index-cores-whole.result (omega (arith, m, c.requires.one_each, whole.clique.first, whole.clique.last)) refl c.index-cores-whole.is)
    (scope_read (λ scope. scope.value) c.args.separators.now c.loop-passed.passed (k - 2) c.index-separators-passed.result (omega (arith, n, c.requires.one_less, c.loop-passed-test.true, c.cliques-passed-end.ensures.count)) (omega arith) c.index-separators-passed.is)
    c.in_ok-of.ensures
