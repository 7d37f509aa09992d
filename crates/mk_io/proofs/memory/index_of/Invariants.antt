use Rattle.std.proofs.Common.{◌≡◌, map, drop}
use Rattle.mk_io.specs.Memory.{named, file_bytes}
use Rattle.mk_io.proofs.memory.index_of.Given as goal

abbrev pub invariant-loop-index : goal.invariant-loop-index
invariant-loop-index l = file_bytes (map named (drop l.index l.files)) l.name ≡ file_bytes (map named l.files) l.name
