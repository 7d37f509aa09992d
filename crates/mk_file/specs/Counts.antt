-- The numbers of a market file, and the faults of the network in it.
use Rattle.std.specs.Prelude.{ℕ, ◌+◌, ℤ, pos, negsuc, List, [], ◌∷◌, length, Bool, false, not, ◌==◌, Option, option_map}
use Rattle.mk_names.specs.declared.key.Key.{Key}
use Rattle.mk_names.specs.declared.key.Key.TheVariants.{PointsPerBit, MaxTrades, MaxUsers, MaxTransfers, Variable, Cliques, Links}
use Rattle.mk_net.specs.declared.fault.NetFault.{NetFault}
use Rattle.mk_net.specs.declared.fault.NetFault.TheVariants.{Count as NetCount, BadName as NetBadName, Repeat as NetRepeat, Parent as NetParent, Rows as NetRows, Width as NetWidth, Entry as NetEntry, Sum as NetSum, Memory as NetMemory}
use Rattle.mk_net.specs.Bounds.{max_variables, max_cliques, max_users, max_market_trades, max_transfers, max_points_per_bit}
use Rattle.mk_net.specs.Firsts.{fault_if, first_of, first_in}
use Rattle.mk_net.specs.Checked.{is_within, count_at, later_fault}
use Rattle.mk_file.specs.declared.fault.FileFault.{FileFault}
use Rattle.mk_file.specs.declared.fault.FileFault.TheVariants.{Count, BadName, Repeat, Parent, Rows, Width, Entry, Sum, Memory}
use Rattle.mk_file.specs.Walk.{DraftOfMarket}

-- a fault of the network, as the file's
abbrev pub of_net : NetFault → FileFault
of_net (NetCount key place n) = Count key place n
of_net (NetBadName variable) = BadName variable
of_net (NetRepeat variable) = Repeat variable
of_net (NetParent variable) = Parent variable
of_net (NetRows variable n) = Rows variable n
of_net (NetWidth variable row n) = Width variable row n
of_net (NetEntry variable row column) = Entry variable row column
of_net (NetSum variable row sum) = Sum variable row sum
of_net NetMemory = Memory

abbrev pub is_whole_within : ℕ → ℕ → ℤ → Bool
is_whole_within low high (pos n) = is_within low high n
is_whole_within low high (negsuc n) = false

-- a whole number of the top is from low to high
abbrev pub whole_fault : Key → ℕ → ℕ → ℤ → Option FileFault
whole_fault key low high n = fault_if (not (is_whole_within low high n)) (Count key 0 n)

-- so many items are from low to high
abbrev pub items_fault : Key → ℕ → ℕ → ℕ → ℕ → Option FileFault
items_fault key low high place n = fault_if (not (is_within low high n)) (Count key place (pos n))

-- there is one link fewer than cliques
abbrev pub links_fault : List (List (List ℕ)) → List ℤ → Option FileFault
links_fault cliques links = fault_if (not (length links + 1 == length cliques)) (Count Links 0 (pos (length links)))

-- a clique has a name, and at most one for each variable that there may be
abbrev pub names_at : ℕ → List (List ℕ) → Option FileFault
names_at k names = items_fault Cliques 1 max_variables k (length names)

-- the first of the four whole numbers outside its limits
abbrev pub wholes_fault : DraftOfMarket → Option FileFault
wholes_fault draft = first_of (
    whole_fault PointsPerBit 1 max_points_per_bit draft.points_per_bit
    ∷ whole_fault MaxTrades 1 max_market_trades draft.max_trades
    ∷ whole_fault MaxUsers 1 max_users draft.max_users
    ∷ whole_fault MaxTransfers 1 max_transfers draft.max_transfers
    ∷ [])

-- the first number outside its limits: those of the top, then those of the variables, then those of the cliques
abbrev pub counts_fault : DraftOfMarket → Option FileFault
counts_fault draft = first_of (
    wholes_fault draft
    ∷ items_fault Variable 1 max_variables 0 (length draft.variables)
    ∷ items_fault Cliques 1 max_cliques 0 (length draft.cliques)
    ∷ links_fault draft.cliques draft.links
    ∷ option_map of_net (first_in count_at 1 draft.variables)
    ∷ first_in names_at 1 draft.cliques
    ∷ [])

-- the first other fault of the variables
abbrev pub variables_fault : DraftOfMarket → Option FileFault
variables_fault draft = option_map of_net (later_fault draft.zeros draft.variables)
