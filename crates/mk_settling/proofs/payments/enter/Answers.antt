use Rattle.std.proofs.Common.{ℕ, List, [], ◌∷◌, ◌++◌, length, sym, ap, ◌∙◌, subst, arith}
use Rattle.std.specs.List.{AllByRecursion}
use Rattle.std.proofs.lemmas.List.{length-map}
use Rattle.mk_exact.specs.History.{Settle}
use Rattle.mk_history.specs.Entries.{ends}
use Rattle.mk_rules.specs.Bounded.{FitPayment}
use Rattle.mk_settling.specs.Paying.{ArePaid}
use Rattle.mk_settling.proofs.Fitting.{lows_fit, highs_fit}
use Rattle.mk_settling.proofs.payments.enter.Goals as goal

pub book-requires-clause-few : goal.book-requires-clause-few
book-requires-clause-few c =
    let count = sym (length-map c.rows.result.now ends) ∙ ap length c.rows.ensures.same in
    omega (arith, count, c.requires.few)

pub book-requires-clause-one_each : goal.book-requires-clause-one_each
book-requires-clause-one_each c =
    sym (length-map c.rows.result.now ends) ∙ ap length c.rows.ensures.same ∙ c.requires.one_each

pub book-requires-clause-lows_fit : goal.book-requires-clause-lows_fit
book-requires-clause-lows_fit c =
    lows_fit c.rows.result.now (subst (AllByRecursion FitPayment) (sym c.rows.ensures.same) c.requires.fit)

pub book-requires-clause-fit : goal.book-requires-clause-fit
book-requires-clause-fit c =
    highs_fit c.rows.result.now (subst (AllByRecursion FitPayment) (sym c.rows.ensures.same) c.requires.fit)

pub returns : goal.returns
returns c = record {
  history = c.settle.ensures.history
      ∙ ap (λ (paid : List (ℕ × ℕ)). c.args.journal.now.history ++ Settle paid ∷ []) c.into_payments.ensures;
  trades = c.settle.ensures.limit;
  users = c.settle.ensures.users;
  transfers = c.settle.ensures.transfers;
  paid_each = subst (ArePaid c.args.ledger.now.accounts c.book.new.ledger.accounts) c.rows.ensures.same
      c.book.ensures.entered;
  room = c.book.ensures.room;
}
