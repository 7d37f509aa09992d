-- The market of a file, or its first fault.
use Rattle.std.specs.Prelude.{ℕ, List, [], ◌∷◌, length, map, nat_abs, nat_lt, if◌then◌else◌, Option, Some, None, option_map, Result, Ok, Err}
use Rattle.std.specs.Str.{is_utf8}
use Rattle.toml.specs.Data.{Members}
use Rattle.toml.specs.Parse.{parse_document}
use Rattle.mk_net.specs.Firsts.{first_of, first_in}
use Rattle.mk_net.specs.Checked.{checked_network}
use Rattle.mk_exact.specs.Market.{Market}
use Rattle.mk_tree.specs.Tests.{members, tree_fault}
use Rattle.mk_file.specs.Walk.{DraftOfMarket, draft_in}
use Rattle.mk_file.specs.Counts.{counts_fault, variables_fault}
use Rattle.mk_file.specs.Cliques.{clique_at, link_at, given_tree, of_tree}
use Rattle.mk_file.specs.declared.fault.FileFault.{FileFault}
use Rattle.mk_file.specs.declared.fault.FileFault.TheVariants.{TooLong, BadToml}

-- the most bytes of a market file
abbrev pub max_file_bytes : ℕ
max_file_bytes = 1048576

-- the first fault of a draft
abbrev pub draft_fault : DraftOfMarket → Option FileFault
draft_fault draft = first_of (
    counts_fault draft
    ∷ variables_fault draft
    ∷ first_in (clique_at draft) 1 draft.cliques
    ∷ first_in link_at 2 draft.links
    ∷ option_map of_tree (tree_fault (checked_network draft.variables) (given_tree draft))
    ∷ [])

-- the market of a draft without a fault; its four numbers are positive there
abbrev pub market_in : DraftOfMarket → Market
market_in draft = record {
  network = checked_network draft.variables;
  cliques = map (members (checked_network draft.variables)) (given_tree draft).cliques;
  points_per_bit = nat_abs draft.points_per_bit;
  max_trades = nat_abs draft.max_trades;
  max_users = nat_abs draft.max_users;
  max_transfers = nat_abs draft.max_transfers;
  zeros = draft.zeros;
}

abbrev pub unless : Option FileFault → Market → Result Market FileFault
unless None market = Ok market
unless (Some fault) market = Err fault

abbrev pub of_draft : Result DraftOfMarket FileFault → Result Market FileFault
of_draft (Err fault) = Err fault
of_draft (Ok draft) = unless (draft_fault draft) (market_in draft)

abbrev pub of_document : Option Members → Result Market FileFault
of_document None = Err BadToml
of_document (Some document) = of_draft (draft_in document)

-- the document of some bytes; bytes that are no text are no document
abbrev pub document_of : List ℕ → Option Members
document_of bytes = if is_utf8 bytes then parse_document bytes else None

-- the market of a file's bytes, or its first fault
abbrev pub file_of : List ℕ → Result Market FileFault
file_of bytes = if nat_lt max_file_bytes (length bytes) then Err TooLong else of_document (document_of bytes)
