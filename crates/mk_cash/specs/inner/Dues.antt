-- What a user is due, as it is kept.
use Rattle.mk_cash.specs.declared.due.Due.TheInside.{Inside}
use Rattle.mk_cash.specs.Dues.{DueOf}

abbrev pub due_of : Inside → DueOf
due_of d = record {
  low = d.low;
  high = d.high;
  trades = d.trades;
  deposited = d.deposited;
  withdrawn = d.withdrawn;
}
