-- What a quote of a whole distribution keeps.
use Rattle.std.specs.Prelude.{◌≡◌, ℕ, List, map, Option}
use Rattle.mk_spread.specs.Spreads.{SpreadAsked}
use Rattle.mk_spread.specs.Bounds.{Intervals, all_given}
use Rattle.mk_quote.specs.declared.side.SideBounds.{SideBounds}
use Rattle.mk_quote.specs.Values.{value_interval}
use Rattle.mk_quote.specs.Questions.{spread_in}
use Rattle.mk_quote.specs.declared.spread_quote.SpreadQuote.{SpreadQuote}

abbrev pub user_of : SpreadQuote → ℕ
user_of quote = quote.user

abbrev pub question_of : SpreadQuote → SpreadAsked
question_of quote = spread_in quote.question

abbrev pub revision_of : SpreadQuote → ℕ
revision_of quote = quote.revision

-- the side of each value, by bounds: none for one that cannot come
abbrev pub sides_of : SpreadQuote → List (Option SideBounds)
sides_of quote = quote.sides.items

-- the interval of each value, where each has one
abbrev pub intervals_of : SpreadQuote → Intervals
intervals_of quote = all_given (map value_interval (sides_of quote))

-- it was made for this question, at this revision
pub record IsSpreadFor (quote : SpreadQuote) (spread : SpreadAsked) (revision : ℕ) : Type 0 where
  pub same_question : question_of quote ≡ spread
  pub same_revision : revision_of quote ≡ revision
