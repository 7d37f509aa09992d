use Rattle.std.proofs.Common.{refl, arith}
use Rattle.mk_record.specs.Members.{names_of}
use Rattle.mk_told.proofs.Retold.{paid_another, none_agree, one_agrees, all_agree, as_many_names}
use Rattle.mk_told.proofs.stored.pays_each.Goals as goal

pub returns-then-ne : goal.returns-then-ne
returns-then-ne g c = (
  λ yes. absurd (cc),
  λ agrees. absurd (paid_another c.args.payments.now (names_of c.args.users.now)
      c.loop-user.user c.index-payments-user.result c.name.result (omega arith)
      c.if-ne.ensures c.name.ensures agrees),
)

pub loop-user-init : goal.loop-user-init
loop-user-init g c = none_agree c.args.payments.now (names_of c.args.users.now)

pub loop-user-preserved : goal.loop-user-preserved
loop-user-preserved g c =
    one_agrees c.args.payments.now (names_of c.args.users.now) c.loop-user.user
    c.index-payments-user.result c.name.result (omega arith) c.if-ne.ensures c.name.ensures
    c.loop-user.invariant

pub returns : goal.returns
returns g c = (
  λ yes. all_agree c.args.payments.now (names_of c.args.users.now)
      (omega (arith, as_many_names c.args.users.now))
      (λ u within. c.loop-user.invariant u (omega (arith, within))),
  λ agrees. refl,
)
