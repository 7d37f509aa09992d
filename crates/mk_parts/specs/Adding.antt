-- What a market becomes by a question that is added to it.
use Rattle.std.specs.Prelude.{◌≡◌, ℕ, ◌<◌, List, [], ◌∷◌, ◌++◌, length, false, Some, None}
use Rattle.std.specs.Prelude.{slice_get, All, ◌==◌}
use Rattle.std.specs.List.{list_any}
use Rattle.mk_net.specs.Network.{Variable, IsNetwork}
use Rattle.mk_sets.specs.Sets.{VarSet, is_member}
use Rattle.mk_net.specs.Bounds.{max_variables}
use Rattle.mk_net.specs.Zeros.{HasNoZeros}
use Rattle.mk_net.specs.Additions.{CanExtend}
use Rattle.mk_net.specs.declared.addition.Addition.{Addition as Extension}
use Rattle.mk_exact.specs.History.{Entry, Addition, Add as Adds, users}
use Rattle.mk_exact.specs.Market.{with_entry}
use Rattle.mk_tree.specs.Given.{GivenTree, max_tree_cliques}
use Rattle.mk_tree.specs.Tests.{members}
use Rattle.mk_tree.specs.Checked.{IsTreeOf}
use Rattle.mk_tree.specs.Grown.{IsBehind}
use Rattle.mk_file.specs.declared.market_file.MarketFile.{MarketFile}
use Rattle.mk_file.specs.MarketOf.{market_of}
use Rattle.mk_engine.specs.Meaning.{Meaning}
use Rattle.mk_beliefs.specs.Meanings.{weights_of, rows_of}
use Rattle.mk_assets.specs.declared.assets.Assets.{Assets}
use Rattle.mk_assets.specs.Holdings.{Holds}
use Rattle.mk_addition.specs.Adds.{IsAddText}
use Rattle.mk_addition.specs.declared.add.AddText.{AddText}
use Rattle.mk_command.specs.declared.command.Command.TheVariants.{Add}
use Rattle.mk_rules.specs.Refusals.{first_refusal}
use Rattle.mk_restore.specs.Laws.{IsSafe}
use Rattle.mk_answers.specs.Open.{holding_of}
use Rattle.mk_history.specs.Entries.{addition_of}
use Rattle.mk_record.specs.Journals.{JournalOf}
use Rattle.mk_parts.specs.declared.adding.Regrown.{Regrown}

-- the variables of a file, and behind them that of a question
abbrev pub longer_net : MarketFile → Addition → List Variable
longer_net file a = file.net ++ a.variable ∷ []

-- a set of these variables
abbrev pub IsSetOf : List ℕ → VarSet → Type 0
IsSetOf variables set = (x : ℕ) → is_member set x ≡ list_any (λ v. v == x) variables

-- a variable as a network is extended by it
abbrev pub extension_of : Variable → Extension
extension_of v = record {
  variable = v.name;
  values = record { items = v.values };
  parents = record { items = v.parents };
  rows = record { items = v.rows };
}

-- a question may stand behind the variables of a file, and its clique behind the cliques, of which
-- there are fewer than there may be
pub record CanFollow (file : MarketFile) (a : Addition) : Type 0 where
  pub tree : IsTreeOf file.net file.tree
  pub extends : CanExtend file.net (extension_of a.variable)
  pub few : All (λ v. v < max_variables) a.clique
  pub behind : length file.tree.cliques < max_tree_cliques → (set : VarSet) → IsSetOf a.clique set
      → IsBehind (longer_net file a) file.tree set a.link
  pub rising : (set : VarSet) → IsSetOf a.clique set → members (longer_net file a) set ≡ a.clique
  pub shares : file.zeros ≡ false → HasNoZeros (longer_net file a)

-- a file with it
pub record IsLonger (file : MarketFile) (a : Addition) (longer : MarketFile) : Type 0 where
  pub legal : IsNetwork longer.net
  pub tree : IsTreeOf longer.net longer.tree
  pub net : longer.net ≡ longer_net file a
  pub market : market_of longer ≡ with_entry (Adds a) (market_of file)

-- a question that nothing refuses, in words that a line could have, to a market that is safe
pub record CanRegrow (file : MarketFile) (journal : JournalOf) (joined : ℕ) (add : AddText) : Type 0
  where
    pub legal : IsNetwork file.net
    pub tree : IsTreeOf file.net file.tree
    pub safe : IsSafe (market_of file) journal.history
    pub text : IsAddText add
    pub unrefused : first_refusal (market_of file) journal.history (Add add) ≡ None
    pub one_each : joined ≡ length (users journal.history)

-- each user's assets are those that a history leaves
abbrev pub HoldEach : {A Plan : Type 0} → (A → Meaning → Type 0) → MarketFile → List Entry
    → List (Assets A Plan) → Type 0
HoldEach {A} {Plan} gains_stand file H all = (u : ℕ) (assets : Assets A Plan)
    → slice_get all u ≡ Some assets → Holds gains_stand assets (holding_of file.net file.tree H u)

-- the parts of a market with a question: engines that stand for the history in the longer network
-- and tree, and assets of each user that are those that it leaves
module _ {P A E Plan : Type 0} (weights_stand : P → Meaning → Type 0)
    (gains_stand : A → Meaning → Type 0)
    (plan_for : Plan → List Variable → GivenTree → Type 0) where
  pub record AreRegrown (file : MarketFile) (H : List Entry) (a : Addition)
      (parts : Regrown P A E Plan) : Type 0 where
    pub longer : IsLonger file a parts.file
    pub question : addition_of parts.question.value ≡ a
    pub planned : plan_for parts.plan parts.file.net parts.file.tree
    pub prices_stand : weights_stand parts.prices (weights_of parts.file.net parts.file.tree H)
    pub rows_stand : gains_stand parts.rows (rows_of parts.file.net parts.file.tree H)
    pub one_each : length parts.assets.items ≡ length (users H)
    pub held : HoldEach gains_stand parts.file H parts.assets.items
