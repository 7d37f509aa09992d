use Rattle.std.proofs.Common.{All, List, length, sym, ap, subst, arith}
use Rattle.mk_net.specs.Network.{sizes}
use Rattle.mk_user_engine.specs.declared.group.Group.{Group}
use Rattle.mk_user_engine.specs.Grouped.{IsGroup}
use Rattle.mk_user_engine.specs.GroupProducts.{AreListedBy}
use Rattle.mk_user_engine.proofs.GroupsBelieved.{listed_each}
use Rattle.mk_user_engine.proofs.kept.keep_all.Goals as goal

pub keep_each-requires-clause-groups : goal.keep_each-requires-clause-groups
keep_each-requires-clause-groups c =
    let m = (c.requires.range).1 in let is = (c.requires.range).2 in let has = is.groups in (
      sizes m.network,
      subst (λ (gs : List Group). All (IsGroup (sizes m.network)) gs) (sym c.deref.ensures.value)
          has.each,
    )

pub keep_each-requires-clause-listed : goal.keep_each-requires-clause-listed
keep_each-requires-clause-listed c =
    let r = c.requires.range in let ts = c.args.trades.now in
    subst (λ (gs : List Group). All (λ (g : Group). AreListedBy g.names.items ts) gs)
    (sym c.deref.ensures.value)
    (listed_each c.args.groups.now ts c.args.known.now r.0 r.1 r.2)

pub keep_each-requires-clause-room : goal.keep_each-requires-clause-room
keep_each-requires-clause-room c =
    let is = (c.requires.range).2 in let has = is.groups in
    omega (
      arith,
      has.few,
      c.requires.room,
      c.clear.ensures.capacity,
      ap (λ (gs : List Group). length gs) c.deref.ensures.value,
    )
