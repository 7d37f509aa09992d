-- The bytes of a file in memory.
use Rattle.std.specs.Prelude.{◌≡◌}
use Rattle.mk_disk.specs.declared.contents.Contents.{Contents}
use Rattle.mk_disk.specs.Memory.{FileState}

-- these are the bytes of the file
pub record IsContents (state : FileState) (contents : Contents) : Type 0 where
  pub seen : contents.seen.items ≡ state.seen
  pub durable : contents.durable.items ≡ state.durable
  pub noise : contents.noise.items ≡ state.noise
