use Rattle.std.proofs.Common.{arith}
use Rattle.std.proofs.Math.Nat.{one-le-mul}
use Rattle.std.proofs.lemmas.Nat.{pow_pos}
use Rattle.mk_scaled.proofs.Quotients.{ceiling_great}
use Rattle.mk_scaled.proofs.scaled.quotient.ceiling.Goals as goal

pub returns-in-None : goal.returns-in-None
returns-in-None c = λ h. let l = ceiling_great _ _ (one-le-mul c.requires.by_positive (pow_pos c.args.down)) c.in-None.ensures in omega arith
