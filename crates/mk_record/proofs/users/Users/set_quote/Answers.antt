use Rattle.std.specs.Prelude.{refl, Some}
use Rattle.mk_record.proofs.Changed.{changed_at, enrolled_at}
use Rattle.mk_record.proofs.users.Users.set_quote.Goals as goal

pub invariant_of-self : goal.invariant_of-self
invariant_of-self g c =
    enrolled_at c.self.inside.members.items c.args.user c.index_mut-member.result.now (rw c.self.view_is c.requires) c.index_mut-member.ensures.value _ _ refl c.self.invariant

pub returns : goal.returns
returns g c =
    rw (← c.self.view_is) (changed_at c.self.inside.members.items c.args.user c.index_mut-member.result.now (rw c.self.view_is c.requires) c.index_mut-member.ensures.value
    (λ m. record m { quote = Some c.args.quote }))
