use Rattle.std.proofs.Common.{take}
use Rattle.mk_user_engine.specs.GroupProducts.{named_by, ArePlaces}
use Rattle.mk_user_engine.proofs.group_product.places_of.Given as goal

abbrev pub invariant-loop-place : goal.invariant-loop-place
invariant-loop-place l = ArePlaces (named_by l.names (take l.place l.trades)) l.trades
    l.places.items
