use Rattle.std.proofs.Common.{◌-◌, length, drop, ap, length-take, arith}
use Rattle.mk_io.proofs.LastLf.{next_left}
use Rattle.mk_io.proofs.pending.Pending.next_byte.Goals as goal

pub returns : goal.returns
returns c =
    let p = c.self.inside in
    next_left p.buf c.args.self.now p.from p.to
    (omega (
      arith,
      ap length c.self.view_is,
      length-take (p.to - p.from) (drop p.from p.buf),
      c.requires,
    ))
    (omega (arith, c.self.invariant.1, c.self.told)) c.self.view_is
