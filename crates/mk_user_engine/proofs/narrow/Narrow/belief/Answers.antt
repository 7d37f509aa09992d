use Rattle.std.proofs.Common.{◌≡◌, true, List, sym, subst, arith}
use Rattle.mk_net.specs.declared.words.Pair.{Pair}
use Rattle.mk_table.specs.Tables.{contradicts}
use Rattle.mk_user_engine.specs.declared.narrow.PlacedRatio.{PlacedRatio}
use Rattle.mk_user_engine.specs.GroupedNarrow.{AreGrouped}
use Rattle.mk_user_engine.proofs.Believing.{none_there, belief_of}
use Rattle.mk_user_engine.proofs.narrow.Narrow.belief.Goals as goal

pub returns-then-contradicts-clause-belief : goal.returns-then-contradicts-clause-belief
returns-then-contradicts-clause-belief c = λ m stands own.
    let n = c.args.self.now in let event = c.args.event.now in let is = stands.grouped in
    let torn : contradicts n.known.items event ≡ true = cc in
    belief_of n.groups n.trades.items n.known.items n.homes.items m is event c.absent.result 0 0
    (omega arith)
    (sym (none_there n.groups n.trades.items n.known.items n.homes.items m is event torn))
    c.absent.ensures.value c.absent.ensures.grade (λ small. c.absent.ensures.exact)

pub returns-clause-belief : goal.returns-clause-belief
returns-clause-belief c = λ m stands own.
    let n = c.keep.new.self in let kept = c.keep.ensures.stands m stands in
    c.belief_of.ensures.belief n.homes.items m
    (subst (λ (ts : List PlacedRatio). AreGrouped n.groups ts c.deref-3.result.now n.homes.items m)
    (sym c.deref-2.ensures.value)
    (subst (λ (ks : List Pair). AreGrouped n.groups n.trades.items ks n.homes.items m)
    (sym c.deref-3.ensures.value) kept.grouped)) own
