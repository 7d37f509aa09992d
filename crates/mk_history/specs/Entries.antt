-- What is read of a history as the accepted changes that it is.
use Rattle.std.specs.Prelude.{ℕ, map}
use Rattle.mk_net.specs.Trades.{trade_ratio}
use Rattle.mk_net.specs.Additions.{variable_of_addition}
use Rattle.mk_exact.specs.History as history
use Rattle.mk_history.specs.declared.entry.AddedQuestion.{AddedQuestion}
use Rattle.mk_history.specs.declared.entry.Payout.{Payout}
use Rattle.mk_history.specs.declared.entry.Entry.{Entry}
use Rattle.mk_history.specs.declared.entry.Entry.TheVariants.{Join, Deposit, Withdraw, Trade}
use Rattle.mk_history.specs.declared.entry.Entry.TheVariants.{Resolve}
use Rattle.mk_history.specs.declared.entry.Entry.TheVariants.{Settle, Add}

-- a question that was added as an addition
abbrev pub addition_of : AddedQuestion → history.Addition
addition_of question = record {
  variable = variable_of_addition question.addition;
  clique = question.clique.items;
  link = question.link;
}

-- the low and the high end of what a user is paid
abbrev pub ends : Payout → ℕ × ℕ
ends payout = (payout.low, payout.high)

-- an entry as a change
abbrev pub change_of : Entry → history.Entry
change_of (Join user) = history.Join user
change_of (Deposit user bits) = history.Deposit user bits
change_of (Withdraw user bits) = history.Withdraw user bits
change_of (Trade user ratio) = history.Trade user (trade_ratio ratio)
change_of (Resolve pair) = history.Resolve pair
change_of (Settle payments) = history.Settle (map ends payments.now)
change_of (Add question) = history.Add (addition_of question.now)
