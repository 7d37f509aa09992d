use Rattle.std.proofs.Common.{◌≡◌, ◌++◌, ◌∷◌, [], length, replicate, arith, ap, sym, ◌∙◌}
use Rattle.std.proofs.lemmas.List.{take_more_set, replicate_more, take_all}
use Rattle.mk_table.proofs.store.put_each.Goals as goal

pub loop-place-preserved : goal.loop-place-preserved
loop-place-preserved g c =
    take_more_set c.loop-place.values c.loop-place.place c.args.value (omega (arith, c.loop-place-test.true, c.loop-place.auto.values))
    ∙ ap (λ ys. ys ++ c.args.value ∷ []) c.loop-place.invariant ∙ replicate_more c.loop-place.place c.args.value

pub returns : goal.returns
returns g c =
    let e : c.loop-place.place ≡ length c.args.values.now = omega (arith, c.loop-place-test.false, c.loop-place.auto.place-end) in
    sym (take_all c.loop-place.place c.loop-place.values (omega (arith, c.loop-place-test.false, c.loop-place.auto.values))) ∙ c.loop-place.invariant ∙ ap (λ n. replicate n c.args.value) e
