-- What the words ask, with the names that they lend.
use Rattle.std.specs.Prelude.{◌≤◌, ⊤}
use Rattle.daggre.specs.Words as words
use Rattle.daggre.specs.declared.words.Asked.{Asked}
use Rattle.daggre.specs.declared.words.Asked.TheVariants as lent

abbrev pub asked_as : Asked → words.Asked
asked_as (lent.Run name) = words.Run name.now
asked_as (lent.Sample size) = words.Sample size
asked_as (lent.RunThen name ask) = words.RunThen name.now ask
asked_as (lent.Keep name store) = words.Keep name.now store.now
asked_as (lent.Audit name transcript) = words.Audit name.now transcript.now

-- a sample has as many variables as one may have
abbrev pub IsSized : Asked → Type 0
IsSized (lent.Run name) = ⊤
IsSized (lent.Sample size) = (2 ≤ size) × (size ≤ words.max_sample)
IsSized (lent.RunThen name ask) = ⊤
IsSized (lent.Keep name store) = ⊤
IsSized (lent.Audit name transcript) = ⊤
