use Rattle.std.proofs.Common.{◌+◌, arith}
use Rattle.mk_store_trials.proofs.journals.take_change.Goals as goal

pub keep-requires : goal.keep-requires
keep-requires g c = record {
  ready =
      let n = c.requires.ready.0 in
      let few = c.requires.ready.1 in (
        n + 1,
        omega (arith, few),
        c.in_ok-take.ensures.ready n (omega (arith, few)) c.requires.ready.2,
      );
}

pub returns-then-more : goal.returns-then-more
returns-then-more g c n few ready = c.in_ok-take.ensures.ready n (omega (arith, few)) ready

pub returns : goal.returns
returns g c n few ready =
    c.keep.ensures.ready (n + 1) (omega (arith, few))
    (c.in_ok-take.ensures.ready n (omega (arith, few)) ready)
