use Rattle.std.proofs.Common.{sym, subst, inl, inr}
use Rattle.mk_net.specs.Trades.{trade_ratio}
use Rattle.mk_states.specs.Events.{always}
use Rattle.mk_exact.specs.Weight.{total}
use Rattle.mk_history.specs.declared.entry.Entry.{Entry}
use Rattle.mk_history.specs.Entries.{change_of}
use Rattle.mk_expect.specs.inner.Added.{AddsEntry}
use Rattle.mk_expect.specs.inner.Shares.{FitsEntry}
use Rattle.mk_expect.proofs.Added.{adds_as, deposit_adds, withdrawal_adds, other_adds, own_adds}
use Rattle.mk_expect.proofs.Added.{nothing_adds}
use Rattle.mk_expect.proofs.entries.entry_tally.Goals as goal

pub trade_tally-requires : goal.trade_tally-requires
trade_tally-requires g c =
    let a = c.requires in
    let fits = subst (λ (e : Entry). FitsEntry a.network c.args.tree.now (change_of e))
    c.in-Trade.is a.fits in
    record {
      network = a.network;
      history = a.history;
      has = a.has;
      in_range = fits.0;
      at_home = fits.1;
    }

pub returns-then-owner-user-clause-adds : goal.returns-then-owner-user-clause-adds
returns-then-owner-user-clause-adds g c = λ network H has bits are.
    adds_as network H bits c.args.user c.trade_tally.result c.in-Trade.is
    (own_adds network H bits c.args.user c.trade_tally.result c.in-Trade.owner
    (trade_ratio c.in-Trade.ratio) c.if-owner-user.true
    (c.trade_tally.ensures.tally network H has bits are) c.trade_tally.ensures.within
    c.trade_tally.ensures.narrow)

pub returns-else-owner-user-clause-adds : goal.returns-else-owner-user-clause-adds
returns-else-owner-user-clause-adds g c = λ network H has bits are.
    adds_as network H bits c.args.user c.bits_tally.result c.in-Trade.is
    (other_adds network H bits c.args.user c.bits_tally.result c.in-Trade.owner
    (trade_ratio c.in-Trade.ratio) c.if-owner-user.false
    (c.bits_tally.ensures (total network H always)))

pub returns-in-Deposit-clause-adds : goal.returns-in-Deposit-clause-adds
returns-in-Deposit-clause-adds g c = λ network H has bits are.
    let t = c.bits_tally-in-Deposit.result in
    adds_as network H bits c.args.user t c.in-Deposit.is
    (deposit_adds network H bits c.args.user t c.in-Deposit.owner c.in-Deposit.bits
    c.own_bits.ensures (c.bits_tally-in-Deposit.ensures (total network H always)))

pub returns-in-Withdraw-clause-adds : goal.returns-in-Withdraw-clause-adds
returns-in-Withdraw-clause-adds g c = λ network H has bits are.
    let t = c.bits_tally-in-Withdraw.result in
    adds_as network H bits c.args.user t c.in-Withdraw.is
    (withdrawal_adds network H bits c.args.user t c.in-Withdraw.owner c.in-Withdraw.bits
    c.own_bits-in-Withdraw.ensures (c.bits_tally-in-Withdraw.ensures (total network H always)))

pub returns-in-Join-clause-adds : goal.returns-in-Join-clause-adds
returns-in-Join-clause-adds g c = λ network H has bits are.
    let whole = total network H always in let t = c.bits_tally-in-Join.result in
    let P = λ (e : Entry). AddsEntry network H bits c.args.user (change_of e) t in
    let nothing = nothing_adds network H bits c.args.user t (c.bits_tally-in-Join.ensures whole) in
    elim c.in-Join.is [
      | inl j ↦ subst P (sym j.1) (nothing)
      | inr rest ↦ elim rest [
        | inl r ↦ subst P (sym r.1) (nothing)
        | inr other ↦ elim other [
          | inl q ↦ subst P (sym q.1) (nothing)
          | inr s ↦ subst P (sym s.1) (nothing)
        ]
      ]
    ]
