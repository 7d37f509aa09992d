-- The standings that a run passes through, and what holds of each.
use Rattle.std.specs.Prelude.{List, [], ◌∷◌, All}
use Rattle.mk_exact.specs.Market.{Market, present}
use Rattle.mk_states.specs.Events.{always}
use Rattle.mk_exact.specs.Weight.{possible_states}
use Rattle.mk_exact.specs.Laws.{GainsAreBounded}
use Rattle.mk_reply.specs.declared.reply.Reply.{Reply}
use Rattle.mk_rules.specs.Transcript.{Standing, Line, after}
use Rattle.mk_rules.specs.Standings.{Stands}

-- the standing before the first line, and the one behind each reply
abbrev pub standings : Market → Standing → List Line → List Reply → List Standing
standings market now [] replies = now ∷ []
standings market now (line ∷ lines) [] = now ∷ []
standings market now (line ∷ lines) (reply ∷ replies) =
    now ∷ standings market (after (present market now.history) now line reply) lines replies

-- nobody can be bankrupt there, in the market with what was added so far, and in each possible state
-- what all users together have gained is bounded
pub record IsSafe (market : Market) (now : Standing) : Type 0 where
  pub stands : Stands (present market now.history) now.history
  pub bounded : All (GainsAreBounded (present market now.history).network now.history)
      (possible_states (present market now.history).network now.history always)
