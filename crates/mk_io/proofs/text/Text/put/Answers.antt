use Rattle.mk_io.proofs.AtOnce.{put_front}
use Rattle.mk_io.proofs.text.Text.put.Goals as goal

pub returns : goal.returns
returns c = put_front 1025 c.min-count.result c.args.bytes.now _ _ c.copy_from_slice.ensures.after c.min-count.ensures
