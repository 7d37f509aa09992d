use Rattle.std.proofs.Common.{[], take, inr, ⊎_elim}
use Rattle.mk_journal.proofs.Meanings.{stands_honest}
use Rattle.mk_journal.proofs.laws.stays_honest.Goals as goal

pub returns : goal.returns
returns c = record {
  standing = stands_honest;
  opening = λ market f file left. ⊎_elim (λ honest. honest) (λ both. stands_honest market [] file both.1) left;
  serving = λ market all least file front. stands_honest market (take front.count all) file (inr front.started);
}
