-- The exit status of each way to end.
use Rattle.std.specs.Prelude.{ℕ}
use Rattle.mk_io.specs.declared.status.Status.{Status}
use Rattle.mk_io.specs.declared.status.Status.TheVariants.{Done, Usage, MarketRefused, ReadFault, WriteFault, Memory, TooMany}
use Rattle.mk_io.specs.declared.status.Status.TheVariants.{DiskFault, StoreRefused}

abbrev pub code_of : Status → ℕ
code_of Done = 0
code_of Usage = 1
code_of MarketRefused = 2
code_of ReadFault = 3
code_of WriteFault = 4
code_of Memory = 5
code_of TooMany = 6
code_of DiskFault = 7
code_of StoreRefused = 8
