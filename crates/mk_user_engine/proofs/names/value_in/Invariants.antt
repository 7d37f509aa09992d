use Rattle.std.proofs.Common.{◌≡◌, false, take}
use Rattle.mk_user_engine.specs.Names.{is_named}
use Rattle.mk_user_engine.proofs.names.value_in.Given as goal

abbrev pub invariant-loop-named : goal.invariant-loop-named
invariant-loop-named l = is_named (take l.named-index l.names) l.variable ≡ false
