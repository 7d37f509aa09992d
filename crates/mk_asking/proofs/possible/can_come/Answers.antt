use Rattle.std.proofs.Common.{◌≡◌, not, [], sym, ap}
use Rattle.mk_net.specs.Zeros.{with_zeros}
use Rattle.mk_answers.proofs.NoZeros.{none_of}
use Rattle.mk_asking.proofs.Resolvable.{only_one, can_search, pair_comes, one_first}
use Rattle.mk_asking.proofs.possible.can_come.Goals as goal

pub returns-then-is_empty-clause-found : goal.returns-then-is_empty-clause-found
returns-then-is_empty-clause-found g c = λ tree H stands is_open can.
    let network = c.args.net.now in
    let no_shares : with_zeros network ≡ [] = none_of c.with_zeros.result.now (with_zeros network) c.is_empty.result c.if-is_empty.true c.is_empty.ensures c.with_zeros.ensures in
    sym (ap not (pair_comes network H c.args.pair can tree is_open no_shares))

pub first_impossible-requires : goal.first_impossible-requires
first_impossible-requires g c = can_search g.P.Engine.stands_for c.args.prices.now c.args.net.now
    c.args.home c.args.pair c.in-Some.event (only_one c.empty.result c.in-Some.event c.args.pair
    c.empty.ensures c.in-Some.ensures.some) c.requires

pub returns-clause-found : goal.returns-clause-found
returns-clause-found g c = λ tree H stands is_open can.
    let network = c.args.net.now in
    one_first network H c.args.pair c.in-Some.event (only_one c.empty.result c.in-Some.event c.args.pair c.empty.ensures c.in-Some.ensures.some) c.first_impossible.result (c.first_impossible.ensures.first network tree H stands is_open)
    c.is_none.result c.is_none.ensures
