-- The opening of a market.
use Rattle.std.specs.Prelude.{◌≡◌, List, [], Some}
use Rattle.std.proofs.Common.{refl, sym, ◌∙◌, arith}
use Rattle.mk_net.specs.Network.{Variable, IsNetwork}
use Rattle.mk_tree.specs.Given.{GivenTree}
use Rattle.mk_tree.specs.Checked.{IsTreeOf}
use Rattle.mk_file.specs.declared.market_file.MarketFile.{MarketFile}
use Rattle.mk_file.specs.MarketOf.{market_of}
use Rattle.mk_engine.specs.Meaning.{Meaning}
use Rattle.mk_beliefs.specs.Meanings.{weights_of, rows_of}
use Rattle.mk_beliefs.proofs.Grown.{opening_is_rows}
use Rattle.mk_beliefs.proofs.Initials.{rows_open}
use Rattle.mk_cash.specs.Accounts.{LedgerOf}
use Rattle.mk_reply.specs.declared.payments.Payment.{Payment}
use Rattle.mk_restore.proofs.Safe.{opening_is_safe}
use Rattle.mk_record.specs.declared.users.Member.{Member}
use Rattle.mk_record.specs.Journals.{JournalOf}
use Rattle.mk_market.specs.inner.Keeping.{IsKept}
use Rattle.mk_parts.proofs.Markets.{market_is}
use Rattle.mk_replay.specs.Tills.{TillOf, room_for}

-- the initial weights are the weights before any entry
pub opening_weights : (network : List Variable) (tree : GivenTree) → rows_of network tree [] ≡ weights_of network tree []
opening_weights network tree = rows_open network tree ∙ sym ((opening_is_rows network tree 0).0)

pub opening_kept : {P A Plan : Type 0} (weights_stand : P → Meaning → Type 0) (gains_stand : A → Meaning → Type 0) (plan_for : Plan → List Variable → GivenTree → Type 0)
    (file : MarketFile) (prices : P) (rows : A) (plan : Plan) (members : List (Member A Plan)) (ledger : LedgerOf) (journal : JournalOf) (payments : List Payment) (till : TillOf)
    → IsNetwork file.net → IsTreeOf file.net file.tree → plan_for plan file.net file.tree → weights_stand prices (weights_of file.net file.tree [])
    → gains_stand rows (rows_of file.net file.tree [])
    → members ≡ [] → ledger ≡ record { accounts = []; room = file.max_users }
    → journal ≡ record { history = []; max_trades = file.max_trades; max_users = file.max_users; max_transfers = file.max_transfers }
    → payments ≡ [] → till ≡ room_for file.max_users
    → IsKept weights_stand gains_stand plan_for file prices rows plan members ledger journal (Some payments) (Some till)
opening_kept weights_stand gains_stand plan_for file prices rows plan members ledger journal payments till legal tree planned prices_stand rows_stand no_member no_account begun none room =
    rw (no_member, no_account, begun, none, room) (record {
      beside = record {
        legal = legal;
        tree = tree;
        planned = planned;
        accounts_kept = record { one_each = refl; each = λ u h. absurd (omega (arith, h)) };
        ledger_room = refl;
        safe = opening_is_safe (market_of file) (market_is file legal tree);
        max_trades = refl;
        max_users = refl;
        max_transfers = refl;
        room = λ h. refl;
        till_room = λ h. refl;
      };
      prices_stand = prices_stand;
      rows_stand = rows_stand;
      named = refl;
      held = λ u assets at. absurd (cc);
      quotes_kept = λ u quote at. absurd (cc);
    })
