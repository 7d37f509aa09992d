use Rattle.std.specs.Prelude.{refl}
use Rattle.mk_record.proofs.Changed.{field_at, changed_at, enrolled_at}
use Rattle.mk_record.proofs.users.Users.assets.Goals as goal

pub invariant_of-self-lent : goal.invariant_of-self-lent
invariant_of-self-lent g c w =
    enrolled_at c.self.inside.members.items c.args.user c.index_mut-member.result.now (rw c.self.view_is c.requires) c.index_mut-member.ensures.value _ _ refl c.self.invariant

pub returns : goal.returns
returns g c =
    let within : _ = rw c.self.view_is c.requires in
    rw (← c.self.view_is) (
      (refl, λ w. changed_at c.self.inside.members.items c.args.user c.index_mut-member.result.now within c.index_mut-member.ensures.value (λ m. record m { assets = w })),
      record { writes_back = tt; value = field_at c.self.inside.members.items c.args.user c.index_mut-member.result.now within c.index_mut-member.ensures.value (λ m. m.assets) },
    )
