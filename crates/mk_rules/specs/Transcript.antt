-- Transcripts over a list of lines: each line is answered by an allowed reply, in the standing that the earlier ones leave.
use Rattle.std.specs.Prelude.{◌≡◌, List, [], ◌∷◌, Option, Some, None}
use Rattle.mk_exact.specs.History.{Entry}
use Rattle.mk_exact.specs.Market.{Market, present, with_entry}
use Rattle.mk_command.specs.declared.command.Command.{Command}
use Rattle.mk_reply.specs.declared.reply.Reply.{Reply}
use Rattle.mk_reply.specs.declared.reply.Reply.TheVariants.{Refused}
use Rattle.mk_reply.specs.declared.refusal.Refusal.TheVariants.{Syntax, Long}
use Rattle.mk_rules.specs.Quotes.{Quotes}
use Rattle.mk_rules.specs.Answers.{IsAllowed, entry_of, next_history, next_quotes}

-- what the earlier lines and replies leave
pub record Standing : Type 0 where
  pub history : List Entry
  pub quotes : Quotes

abbrev pub opening : Standing
opening = record { history = []; quotes = [] }

-- a line that is not blank: a command, the text of none, or a long line
pub data Line : Type 0 where
  OfCommand : (command : Command) → Line
  NoCommand : Line
  LongLine : Line

-- the replies to a line
abbrev pub IsAllowedFor : Market → Standing → Line → Reply → Type 0
IsAllowedFor market now (OfCommand command) reply = IsAllowed market now.history now.quotes command reply
IsAllowedFor market now NoCommand reply = reply ≡ Refused Syntax
IsAllowedFor market now LongLine reply = reply ≡ Refused Long

-- what stands after a reply
abbrev pub after : Market → Standing → Line → Reply → Standing
after market now (OfCommand command) reply = record {
  history = next_history market now.history command reply;
  quotes = next_quotes market now.history now.quotes command reply;
}
after market now NoCommand reply = now
after market now LongLine reply = now

-- the market after a reply: with what the reply added
abbrev pub with_entries : Option Entry → Market → Market
with_entries None market = market
with_entries (Some e) market = with_entry e market

abbrev pub market_after : Market → Standing → Line → Reply → Market
market_after market now (OfCommand command) reply = with_entries (entry_of market now.history command reply) market
market_after market now NoCommand reply = market
market_after market now LongLine reply = market

-- each line is answered in turn by an allowed reply, in the market as its history leaves it
abbrev pub Run : Market → Standing → List Line → List Reply → Standing → Type 0
Run market old [] [] new = new ≡ old
Run market old [] (reply ∷ replies) new = ⊥
Run market old (line ∷ lines) [] new = ⊥
Run market old (line ∷ lines) (reply ∷ replies) new =
    IsAllowedFor (present market old.history) old line reply × Run market (after (present market old.history) old line reply) lines replies new
