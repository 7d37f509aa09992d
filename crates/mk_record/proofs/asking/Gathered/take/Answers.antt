use Rattle.std.proofs.Common.{◌≡◌, true, false, Bool, not, Option, Some, None, refl, subst}
use Rattle.std.specs.Prelude.{is_some}
use Rattle.mk_net.specs.Firsts.{or_else, fault_if}
use Rattle.mk_net.specs.Events.{speaks_of, AreApart}
use Rattle.mk_record.proofs.Gathering.{last_unspoken}
use Rattle.mk_record.proofs.asking.Gathered.take.Goals as goal

none_yet : {X : Type 0} (o : Option X) (b test : Bool) (x : X) → is_some o ≡ not b → b ≡ true → test ≡ false → o ≡ or_else o (fault_if test x)
none_yet None b test x h e f = rw f refl
none_yet (Some y) b test x h e f = cc

pub returns-in-Some-clause-repeated : goal.returns-in-Some-clause-repeated
returns-in-Some-clause-repeated c = none_yet c.args.self.now.repeated c.is_none.result (speaks_of c.args.self.now.condition c.args.pair.variable) c.args.variable c.is_none.ensures c.if-is_none.true
    (last_unspoken c.args.self.now.condition c.args.pair (subst AreApart c.in-Some.ensures.some c.in-Some.ensures.event.apart))
