-- A history's own fields, as the changes and the lists that they are.
use Rattle.std.specs.Prelude.{Box, map, vec_capacity}
use Rattle.std.specs.declared.alloc.Global.{Global}
use Rattle.mk_exact.specs.History as history
use Rattle.mk_history.specs.declared.entry.AddedQuestion.{AddedQuestion}
use Rattle.mk_history.specs.Entries.{ends, addition_of}
use Rattle.mk_history.specs.Histories.{HistoryOf}
use Rattle.mk_history.specs.declared.history.History.TheInside.{Inside}
use Rattle.mk_history.specs.inner.Kept.{Lists}
use Rattle.mk_history.specs.inner.Counted.{entries_kept, AreKept, HasRoom}

-- a question in its box as an addition
abbrev pub in_numbers : Box AddedQuestion Global → history.Addition
in_numbers question = addition_of question.value

abbrev pub lists_of : Inside → Lists
lists_of h = record {
  names = h.names.items;
  pairs = h.pairs.items;
  factors = h.factors.items;
  payments = map ends h.payments.items;
  additions = map in_numbers h.questions.items;
}

abbrev pub history_of : Inside → HistoryOf
history_of h = record {
  history = entries_kept (lists_of h) h.changes.items;
  max_trades = h.limits.trades;
  max_users = h.limits.users;
  max_transfers = h.limits.transfers;
}

abbrev pub IsStored : Inside → Type 0
IsStored h = AreKept (lists_of h) h.changes.items h.limits
    × HasRoom h.limits (vec_capacity h.changes) (vec_capacity h.names) (vec_capacity h.pairs)
    (vec_capacity h.factors) (vec_capacity h.questions)
