-- A question about a whole distribution as the exact market knows it.
use Rattle.mk_spread.specs.Spreads.{SpreadAsked}
use Rattle.mk_quote.specs.declared.spread.SpreadQuestion.{SpreadQuestion}

abbrev pub spread_in : SpreadQuestion → SpreadAsked
spread_in question = record { variable = question.variable; condition = question.condition }
