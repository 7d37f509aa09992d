-- What the reader's own values stand for, and what its calls give.
use Rattle.std.specs.Prelude.{◌≡◌, ◌≢◌, ℕ, List, map, Vec, String, Result, Ok, Err, MatchResult}
use Rattle.std.specs.declared.alloc.Global.{Global}
use Rattle.std.specs.Borrow.{Bor}
use Rattle.std.specs.BTreeMap.{BTreeMap}
use Rattle.toml.specs.Data.{Members}
use Rattle.toml.specs.View.{table_view}
use Rattle.toml.specs.declared.value.Value.{Value}
use Rattle.mk_net.specs.Drafts.{texts_of, drafts_of}
use Rattle.mk_file.specs.declared.fault.FileFault.{FileFault}
use Rattle.mk_file.specs.declared.fault.FileFault.TheVariants.{Memory}
use Rattle.mk_file.specs.declared.walk.MarketDraft.{MarketDraft}
use Rattle.mk_file.specs.Walk.{DraftOfMarket}

abbrev pub lists_of : Vec (Vec (String Global) Global) Global → List (List (List ℕ))
lists_of v = map texts_of v.items

abbrev pub tables_of : Vec (Bor (BTreeMap (String Global) Value)) Global → List Members
tables_of v = map (λ table. table_view table.now) v.items

abbrev pub draft_of : MarketDraft → DraftOfMarket
draft_of d = record {
  points_per_bit = d.points_per_bit;
  max_trades = d.max_trades;
  max_users = d.max_users;
  max_transfers = d.max_transfers;
  variables = drafts_of d.draft;
  cliques = lists_of d.cliques;
  links = d.links.items;
  zeros = d.draft.zeros;
}

-- a call gives what a definition gives, or wants memory
abbrev pub Gives : {T X : Type 0} → (T → X) → Result T FileFault → Result X FileFault → Type 0
Gives view result defined = MatchResult result (λ t. defined ≡ Ok (view t)) (λ fault. fault ≢ Memory → defined ≡ Err fault)
