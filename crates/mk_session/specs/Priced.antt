-- A price that a market told, and the line that says it.
use Rattle.std.specs.Prelude.{◌≡◌, ℕ, List}
use Rattle.mk_net.specs.declared.words.QuestionText.{QuestionText}
use Rattle.mk_command.specs.declared.command.Command.{Command}
use Rattle.mk_command.specs.declared.command.Command.TheVariants.{Price}
use Rattle.mk_reply.specs.declared.reply.Reply.TheVariants.{Price as Priced}
use Rattle.mk_market.specs.Trading.{Trading, IsAnswered}
use Rattle.mk_session.specs.Texts.{reply_line}

-- a market told the price of a question, and this is the line
pub record IsPriced {Own : Type 0} (old new : Trading Own) (command : Command)
    (line : List ℕ) : Type 0 where
  pub question : QuestionText
  pub low : ℕ
  pub high : ℕ
  pub asked : command ≡ Price question
  pub answered : IsAnswered old new (Price question) (Priced low high)
  pub printed : line ≡ reply_line (Priced low high)
