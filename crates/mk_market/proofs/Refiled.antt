-- A market is kept whatever proves the facts that its file carries.
use Rattle.std.specs.Prelude.{◌≡◌, ◌≤◌, List, false, Option, None}
use Rattle.std.proofs.Common.{Some, refl, sym, ap, subst, ◌∙◌}
use Rattle.std.proofs.Math.Bridge.{le_prop}
use Rattle.std.proofs.Math.Logic.{∥∥₁_prop}
use Rattle.std.proofs.Math.Path.{contract'}
use Rattle.mk_net.specs.Network.{Variable}
use Rattle.mk_net.specs.Zeros.{HasNoZeros}
use Rattle.mk_tree.specs.Checked.{IsTreeOf}
use Rattle.mk_tree.specs.Given.{GivenTree}
use Rattle.mk_tree.specs.Tests.{tree_fault}
use Rattle.mk_file.specs.declared.market_file.MarketFile.{MarketFile}
use Rattle.mk_engine.specs.Meaning.{Meaning}
use Rattle.mk_cash.specs.Accounts.{LedgerOf}
use Rattle.mk_reply.specs.declared.payments.Payment.{Payment}
use Rattle.mk_market.specs.declared.market.Market.TheInside.{Inside}
use Rattle.mk_record.specs.declared.users.Member.{Member}
use Rattle.mk_record.specs.Journals.{JournalOf}
use Rattle.mk_market.specs.inner.Keeping.{IsKept}
use Rattle.mk_replay.specs.Tills.{TillOf}

-- two proofs that there is none are one
plain : {X : Type 0} (o : Option X) → o ≡ None → o ≡ None
plain None p = refl
plain (Some x) p = absurd (cc)

same_plain : {X : Type 0} (o : Option X) (p q : o ≡ None) → plain o p ≡ plain o q
unfolding plain
same_plain None p q = refl
same_plain (Some x) p q = absurd (cc)

is_plain : {X : Type 0} (o : Option X) (p : o ≡ None) → p ≡ plain o p
unfolding plain
is_plain {X} o p = subst (λ (z : (o : Option X) × (o ≡ None)). z.1 ≡ plain (z.0) (z.1)) (contract' p) refl

same_none : {X : Type 0} (o : Option X) (p q : o ≡ None) → p ≡ q
same_none o p q = is_plain o p ∙ same_plain o p q ∙ sym (is_plain o q)

-- two proofs that no share is nothing are one
same_shares : (network : List Variable) (a b : HasNoZeros network) → a ≡ b
same_shares network a b = λ i k within j row in_rows n share in_row. le_prop (a k within j row in_rows n share in_row) (b k within j row in_rows n share in_row) i

module _ (file : MarketFile) (some_points : 1 ≤ file.points_per_bit) (few_points : file.points_per_bit ≤ 1000000) (some_trades : 1 ≤ file.max_trades) (few_trades : file.max_trades ≤ 1000000)
    (some_users : 1 ≤ file.max_users) (few_users : file.max_users ≤ 65536) (some_transfers : 1 ≤ file.max_transfers) (few_transfers : file.max_transfers ≤ 1000000)
    (tree_of_net : ∥ IsTreeOf file.net file.tree ∥₁) (faultless : tree_fault file.net file.tree ≡ None) (no_zeros : file.zeros ≡ false → HasNoZeros file.net) where
  abbrev pub proved_again : MarketFile
  proved_again = record file {
    points_positive = some_points;
    points_most = few_points;
    trades_positive = some_trades;
    trades_most = few_trades;
    users_positive = some_users;
    users_most = few_users;
    transfers_positive = some_transfers;
    transfers_most = few_transfers;
    tree_of_net = tree_of_net;
    tree_faultless = faultless;
    no_zeros = no_zeros;
  }

  -- a file with other proofs of its facts is the same file
  pub same_file : proved_again ≡ file
  same_file = λ i. record file {
    points_positive = le_prop some_points file.points_positive i;
    points_most = le_prop few_points file.points_most i;
    trades_positive = le_prop some_trades file.trades_positive i;
    trades_most = le_prop few_trades file.trades_most i;
    users_positive = le_prop some_users file.users_positive i;
    users_most = le_prop few_users file.users_most i;
    transfers_positive = le_prop some_transfers file.transfers_positive i;
    transfers_most = le_prop few_transfers file.transfers_most i;
    tree_of_net = ∥∥₁_prop tree_of_net file.tree_of_net i;
    tree_faultless = same_none (tree_fault file.net file.tree) faultless file.tree_faultless i;
    no_zeros = λ e. same_shares file.net (no_zeros e) (file.no_zeros e) i;
  }

  pub refiled : {P A Plan : Type 0} (weights_stand : P → Meaning → Type 0) (gains_stand : A → Meaning → Type 0) (plan_for : Plan → List Variable → GivenTree → Type 0)
      (prices : P) (rows : A) (plan : Plan) (members : List (Member A Plan)) (ledger : LedgerOf) (journal : JournalOf) (payments : Option (List Payment)) (till : Option TillOf)
      → IsKept weights_stand gains_stand plan_for file prices rows plan members ledger journal payments till
      → IsKept weights_stand gains_stand plan_for proved_again prices rows plan members ledger journal payments till
  refiled weights_stand gains_stand plan_for prices rows plan members ledger journal payments till kept =
      subst (λ (f : MarketFile). IsKept weights_stand gains_stand plan_for f prices rows plan members ledger journal payments till) (sym same_file) kept

-- a market with another file
abbrev pub filed : {P A E Plan : Type 0} → Inside P A E Plan → MarketFile → Inside P A E Plan
filed inside file = record inside { file = file }

-- so is a market that has it
pub same_inside : {P A E Plan : Type 0} (inside : Inside P A E Plan) (some_points : 1 ≤ inside.file.points_per_bit) (few_points : inside.file.points_per_bit ≤ 1000000)
    (some_trades : 1 ≤ inside.file.max_trades) (few_trades : inside.file.max_trades ≤ 1000000)
    (some_users : 1 ≤ inside.file.max_users) (few_users : inside.file.max_users ≤ 65536) (some_transfers : 1 ≤ inside.file.max_transfers)
    (few_transfers : inside.file.max_transfers ≤ 1000000) (tree_of_net : ∥ IsTreeOf inside.file.net inside.file.tree ∥₁)
    (faultless : tree_fault inside.file.net inside.file.tree ≡ None) (no_zeros : inside.file.zeros ≡ false → HasNoZeros inside.file.net)
    → filed inside (proved_again inside.file some_points few_points some_trades few_trades some_users few_users some_transfers few_transfers tree_of_net faultless no_zeros) ≡ inside
same_inside inside some_points few_points some_trades few_trades some_users few_users some_transfers few_transfers tree_of_net faultless no_zeros =
    ap (filed inside) (same_file inside.file some_points few_points some_trades few_trades some_users few_users some_transfers few_transfers tree_of_net faultless no_zeros)
