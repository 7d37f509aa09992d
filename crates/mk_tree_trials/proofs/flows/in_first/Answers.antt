use Rattle.mk_tree_trials.proofs.flows.in_first.Goals as goal

pub around-requires : goal.around-requires
around-requires g c = (_, _, c.place.ensures.some)

pub again-requires : goal.again-requires
again-requires g c = (_, _, c.around.ensures _ _ c.place.ensures.some)

pub again-requires-2 : goal.again-requires-2
again-requires-2 g c =
    let ready = c.around.ensures _ _ c.place.ensures.some in
    (_, _, c.place-2.ensures.ready (c.again.ensures.ready c.args.net.now 1 1 ready))

pub around-requires-2 : goal.around-requires-2
around-requires-2 g c = (_, _, c.place-3.ensures.some)
