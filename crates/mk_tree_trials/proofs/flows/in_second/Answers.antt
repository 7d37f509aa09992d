use Rattle.mk_tree_trials.proofs.flows.in_second.Goals as goal

pub around-requires : goal.around-requires
around-requires g c = (_, _, c.place-3.ensures.some)

pub multiply-requires : goal.multiply-requires
multiply-requires g c = (c.around.ensures _ _ c.place-3.ensures.some).some

pub again-requires : goal.again-requires
again-requires g c = (_, _, c.multiply.ensures.ready (c.around.ensures _ _ c.place-3.ensures.some))

pub around-requires-2 : goal.around-requires-2
around-requires-2 g c = (_, _, c.know.ensures.some)

pub again-requires-2 : goal.again-requires-2
again-requires-2 g c = (_, _, c.know-2.ensures.ready (c.around-2.ensures _ _ c.know.ensures.some))
