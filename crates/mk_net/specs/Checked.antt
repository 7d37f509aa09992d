-- What a list of drafts of variables is refused for, and the network that it gives. Kinds of faults are tried in their order, and
-- each over all variables before the next; variables, rows and columns are numbered from 1. `zeros` says whether shares of nothing may occur.
use Rattle.std.specs.Prelude.{ℕ, ◌-◌, ℤ, pos, negsuc, List, [], ◌∷◌, length, map, sum, Bool, false, ◌&&◌, ◌||◌, not, ◌==◌, nat_lt, nat_le, if◌then◌else◌, Option}
use Rattle.std.specs.List.{list_all, list_any, position_or_len}
use Rattle.mk_names.specs.declared.key.Key.TheVariants.{Variable as VariableKey, Values, Parents}
use Rattle.mk_net.specs.declared.fault.NetFault.{NetFault}
use Rattle.mk_net.specs.declared.fault.NetFault.TheVariants.{Count, BadName, Repeat, Parent, Rows, Width, Entry, Sum}
use Rattle.mk_names.specs.Name.{is_name}
use Rattle.mk_net.specs.Bounds.{max_variables, max_values, max_parents, million}
use Rattle.mk_names.specs.Texts.{same_text}
use Rattle.mk_net.specs.Network.{Variable, choices}
use Rattle.mk_net.specs.Drafts.{DraftOfVariable}
use Rattle.mk_net.specs.Firsts.{fault_if, or_else, first_of, first_in}

abbrev pub is_within : ℕ → ℕ → ℕ → Bool
is_within low high n = nat_le low n && nat_le n high

-- some text stands twice
abbrev pub has_double : List (List ℕ) → Bool
has_double [] = false
has_double (t ∷ ts) = list_any (same_text t) ts || has_double ts

-- the number, from 0, of the first variable of a name
abbrev pub number_of : List DraftOfVariable → List ℕ → ℕ
number_of draft name = position_or_len (λ (v : DraftOfVariable). same_text name v.name) draft

-- a variable before number k has the name
abbrev pub is_before : List DraftOfVariable → ℕ → List ℕ → Bool
is_before draft k name = nat_lt (number_of draft name) (k - 1)

-- the numbers of values of the variables
abbrev pub counts : List DraftOfVariable → List ℕ
counts draft = map (λ (v : DraftOfVariable). length v.values) draft

-- the numbers of a variable's parents
abbrev pub parents_in : List DraftOfVariable → DraftOfVariable → List ℕ
parents_in draft v = map (number_of draft) v.parents

-- an entry as a share: parts in a million
abbrev pub share : ℤ → ℕ
share (pos n) = n
share (negsuc n) = 0

-- the least entry: 1, or 0 where shares of nothing may occur
abbrev pub least_entry : Bool → ℕ
least_entry zeros = if zeros then 0 else 1

abbrev pub is_share : Bool → ℤ → Bool
is_share zeros (pos n) = is_within (least_entry zeros) million n
is_share zeros (negsuc n) = false

-- 2 to 16 values, and at most 8 parents
abbrev pub count_at : ℕ → DraftOfVariable → Option NetFault
count_at k v = or_else
    (fault_if (not (is_within 2 max_values (length v.values))) (Count Values k (pos (length v.values))))
    (fault_if (nat_lt max_parents (length v.parents)) (Count Parents k (pos (length v.parents))))

-- the variable and its values have names
abbrev pub name_at : ℕ → DraftOfVariable → Option NetFault
name_at k v = fault_if (not (is_name v.name && list_all is_name v.values)) (BadName k)

-- no earlier variable has its name, and no two of its values have one name
abbrev pub repeat_at : List DraftOfVariable → ℕ → DraftOfVariable → Option NetFault
repeat_at draft k v = fault_if (is_before draft k v.name || has_double v.values) (Repeat k)

-- its parents are earlier variables, and none stands twice
abbrev pub parent_at : List DraftOfVariable → ℕ → DraftOfVariable → Option NetFault
parent_at draft k v = fault_if (not (list_all (is_before draft k) v.parents) || has_double v.parents) (Parent k)

-- there is one row for each list of the parents' values
abbrev pub rows_at : List DraftOfVariable → ℕ → DraftOfVariable → Option NetFault
rows_at draft k v =
    fault_if (not (length v.rows == choices (counts draft) (parents_in draft v))) (Rows k (pos (length v.rows)))

-- a row has one entry for each value
abbrev pub width_of : ℕ → ℕ → ℕ → List ℤ → Option NetFault
width_of values k row entries = fault_if (not (length entries == values)) (Width k row (pos (length entries)))

abbrev pub width_at : ℕ → DraftOfVariable → Option NetFault
width_at k v = first_in (width_of (length v.values) k) 1 v.rows

-- each entry is from the least to a million
abbrev pub entry_of : Bool → ℕ → ℕ → ℕ → ℤ → Option NetFault
entry_of zeros k row column entry = fault_if (not (is_share zeros entry)) (Entry k row column)

abbrev pub entry_at : Bool → ℕ → DraftOfVariable → Option NetFault
entry_at zeros k v = first_in (λ row entries. first_in (entry_of zeros k row) 1 entries) 1 v.rows

-- the entries of a row are a million together; each is a share here, since entries are tried before
abbrev pub sum_of : ℕ → ℕ → List ℤ → Option NetFault
sum_of k row entries = fault_if (not (sum (map share entries) == million)) (Sum k row (pos (sum (map share entries))))

abbrev pub sum_at : ℕ → DraftOfVariable → Option NetFault
sum_at k v = first_in (sum_of k) 1 v.rows

-- the first number of variables, values or parents that is not within its limits
abbrev pub count_fault : List DraftOfVariable → Option NetFault
count_fault draft = or_else
    (fault_if (not (is_within 1 max_variables (length draft))) (Count VariableKey 0 (pos (length draft))))
    (first_in count_at 1 draft)

-- the first fault of another kind
abbrev pub later_fault : Bool → List DraftOfVariable → Option NetFault
later_fault zeros draft = first_of (
    first_in name_at 1 draft
    ∷ first_in (repeat_at draft) 1 draft
    ∷ first_in (parent_at draft) 1 draft
    ∷ first_in (rows_at draft) 1 draft
    ∷ first_in width_at 1 draft
    ∷ first_in (entry_at zeros) 1 draft
    ∷ first_in sum_at 1 draft
    ∷ [])

abbrev pub first_fault : Bool → List DraftOfVariable → Option NetFault
first_fault zeros draft = or_else (count_fault draft) (later_fault zeros draft)

-- the network of a draft without a fault
abbrev pub checked_variable : List DraftOfVariable → DraftOfVariable → Variable
checked_variable draft v = record { name = v.name; values = v.values; parents = parents_in draft v; rows = map (map share) v.rows }

abbrev pub checked_network : List DraftOfVariable → List Variable
checked_network draft = map (checked_variable draft) draft
