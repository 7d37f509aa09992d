use Rattle.std.proofs.Common.{◌∷◌, ◌++◌, [], List, ℕ, take, sym, ap, subst, ◌∙◌, arith}
use Rattle.std.proofs.lemmas.List.{length-take-le}
use Rattle.mk_user_engine.specs.declared.narrow.PlacedRatio.{PlacedRatio}
use Rattle.mk_user_engine.specs.Names.{is_named}
use Rattle.mk_user_engine.specs.Narrow.{ratio_in}
use Rattle.mk_user_engine.specs.GroupProducts.{named_by, ArePlaces}
use Rattle.mk_user_engine.proofs.Over.{taken_next}
use Rattle.mk_user_engine.proofs.GroupProducts.{named_more, named_beside, named_few, places_push}
use Rattle.mk_user_engine.proofs.group_product.places_of.Goals as goal
use Rattle.mk_user_engine.proofs.group_product.places_of.Goals.{then-is_named, else-is_named}

pub push-requires : goal.push-requires
push-requires c =
    let names = c.args.names.now in let ts = c.args.trades.now in let i = c.loop-place.place in
    let few = named_few names (take i ts) in
    let taken = length-take-le i ts (omega (arith, c.loop-place-test.true)) in (
      omega arith,
      omega (
        arith,
        few,
        taken,
        c.loop-place.invariant.one_each,
        c.loop-place-test.true,
        c.requires,
      ),
    )

pub loop-place-preserved : goal.loop-place-preserved
loop-place-preserved c =
    let names = c.args.names.now in let ts = c.args.trades.now in let i = c.loop-place.place in
    let t = c.index-trades-place.result in
    let next = taken_next ts i t c.loop-place-test.true c.index-trades-place.is in
    let same = ap (λ (s : PlacedRatio). is_named names (ratio_in s).variable)
    c.index-trades-place.is in
    elim c.if-is_named.branch [
      | then-is_named w ↦ rw (w.places-is)
          (subst (λ (rs : List PlacedRatio). ArePlaces rs ts w.push.new.self.items)
          (sym (named_more names (take i ts) t (same ∙ sym c.is_named.ensures ∙ w.if-is_named.true))
          ∙ ap (named_by names) next)
          (subst (λ (ps : List ℕ). ArePlaces (named_by names (take i ts) ++ t ∷ []) ts ps)
          (sym w.push.ensures.items)
          (places_push (named_by names (take i ts)) ts c.loop-place.places.items i t
          c.loop-place-test.true c.index-trades-place.is c.loop-place.invariant)))
      | else-is_named w ↦ rw (w.places-is)
          (subst (λ (rs : List PlacedRatio). ArePlaces rs ts c.loop-place.places.items)
          (sym (named_beside names (take i ts) t
          (same ∙ sym c.is_named.ensures ∙ w.if-is_named.false))
          ∙ ap (named_by names) next)
          c.loop-place.invariant)
    ]
