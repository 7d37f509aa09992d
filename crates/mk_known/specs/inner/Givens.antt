-- What is kept of a printed quote.
use Rattle.std.specs.Prelude.{List, map, Option, option_map}
use Rattle.mk_quote.specs.Questions.{spread_in}
use Rattle.mk_reply.specs.Refusals.{given_in}
use Rattle.mk_rules.specs.Quotes.{Quote, Quotes, EditLimits, SpreadBounds}
use Rattle.mk_known.specs.declared.known.Given.{Given}
use Rattle.mk_known.specs.declared.known.Given.TheVariants.{Limits, Bounds}

-- a printed quote as the rules of the market see it
abbrev pub quote_in : Given → Quote
quote_in (Limits question limits at) =
    record { says = EditLimits question limits; at = at }
quote_in (Bounds question intervals at) =
    record { says = SpreadBounds (spread_in question) (given_in intervals); at = at }

-- so each user's
abbrev pub quotes_in : List (Option Given) → Quotes
quotes_in kept = map (option_map quote_in) kept
