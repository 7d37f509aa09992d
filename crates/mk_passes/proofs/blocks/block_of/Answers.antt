use Rattle.std.proofs.Common.{◌*◌}
use Rattle.mk_passes.proofs.Blocked.{cut_block}
use Rattle.mk_passes.proofs.blocks.block_of.Goals as goal

pub returns : goal.returns
returns c = cut_block c.args.offsets.now (c.args.block * 64) c.min.result c.min.ensures
