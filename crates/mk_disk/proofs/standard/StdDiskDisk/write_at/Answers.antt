use Rattle.std.proofs.Common.{length}
use Rattle.mk_disk.specs.inner.MemoryLaws.{torn_same}
use Rattle.mk_disk.proofs.standard.StdDiskDisk.write_at.Goals as goal

pub returns-then-is_ok-clause-torn : goal.returns-then-is_ok-clause-torn
returns-then-is_ok-clause-torn g c image _ = (image, tt, torn_same c.args.at (length c.args.bytes.now) image)

pub returns-clause-torn : goal.returns-clause-torn
returns-clause-torn g c image _ = (image, tt, torn_same c.args.at (length c.args.bytes.now) image)
