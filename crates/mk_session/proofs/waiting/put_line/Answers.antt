use Rattle.std.proofs.Common.{Ok, Err, arith}
use Rattle.mk_session.proofs.Gathering.{room_of}
use Rattle.mk_session.proofs.Telling.{told_more}
use Rattle.mk_session.proofs.waiting.put_line.Goals as goal

pub returns-in-Ok : goal.returns-in-Ok
returns-in-Ok g c = told_more _ _ (Ok tt) c.push_str.ensures.bytes c.in-Ok.ensures.told

pub returns-in-Err : goal.returns-in-Err
returns-in-Err g c = told_more _ _ (Err c.in-Err.fault) tt c.in-Err.ensures.told

pub push_str-requires : goal.push_str-requires
push_str-requires g c = (
  omega arith,
  room_of _ _ c.args.waiting.now.bytes _ 32768 c.remaining_capacity.ensures c.requires.size
      c.write_unless.ensures.waits c.in-Ok.ensures.none,
)
