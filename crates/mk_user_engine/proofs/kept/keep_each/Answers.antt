use Rattle.std.proofs.Common.{◌+◌, ◌++◌, List, [], ◌∷◌, take, sym, subst, ◌∙◌}
use Rattle.mk_net.specs.declared.words.Pair.{Pair}
use Rattle.mk_user_engine.specs.declared.group.Group.{Group}
use Rattle.mk_user_engine.specs.declared.kept.KeptLeast.{KeptLeast}
use Rattle.mk_user_engine.specs.Kept.{AreKept, HasGroupLeast}
use Rattle.mk_user_engine.proofs.GroupLeast.{kept_more}
use Rattle.mk_user_engine.proofs.GroupProducts.{append_none}
use Rattle.mk_user_engine.proofs.Over.{taken_next}
use Rattle.mk_user_engine.proofs.kept.keep_each.Goals as goal

pub loop-place-preserved : goal.loop-place-preserved
loop-place-preserved c =
    let gs = c.args.groups.now in let ts = c.args.trades.now in let ks = c.args.known.now in
    let k = c.loop-place.place in let g = c.index-groups-place.result in
    let l = c.least_of.result in
    let has : HasGroupLeast ts ks g l = subst (λ (ps : List Pair). HasGroupLeast ts ps g l)
    (append_none ks) c.least_of.ensures in
    let next = taken_next gs k g c.loop-place-test.true c.index-groups-place.is in (
      subst (λ (ls : List KeptLeast). AreKept (take (k + 1) gs) ts ks ls)
          (sym c.push_reserved.ensures.items)
          (subst (λ (hs : List Group). AreKept hs ts ks (c.loop-place.kept.items ++ l ∷ [])) next
          (kept_more (take k gs) ts ks c.loop-place.kept.items g l c.loop-place.invariant.0 has)),
      c.push_reserved.ensures.capacity ∙ c.loop-place.invariant.1,
    )
