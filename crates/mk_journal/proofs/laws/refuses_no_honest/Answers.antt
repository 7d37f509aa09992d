use Rattle.mk_journal.proofs.laws.refuses_no_honest.Goals as goal

pub returns : goal.returns
returns c = record { refusal = λ market f at honest. honest.own at; malformed = λ market f records honest. honest.whole records }
