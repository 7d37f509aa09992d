-- The sample market: n variables in a chain, each with its neighbours in a clique, and the commands that are given to it.
use Rattle.std.specs.Prelude.{ℕ, ◌+◌, ◌-◌, ◌*◌, ◌/◌, ◌%◌, List, [], ◌∷◌, map, codes, decimal, if◌then◌else◌, ◌==◌}
use Rattle.std.specs.List.{flat_map}
use Rattle.mk_text.specs.Joined.{◌&◌}
use Rattle.mk_make.specs.Lines.{line, quoted, listed, key_line, numbers_to}

abbrev pub variable_name : ℕ → List ℕ
variable_name i = codes "v" & decimal i

abbrev pub quoted_name : ℕ → List ℕ
quoted_name i = quoted (variable_name i)

-- a variable and the next one
unfoldable pub clique_of : ℕ → List ℕ
clique_of i = listed (quoted_name i ∷ quoted_name (i + 1) ∷ [])

unfoldable pub cliques_line : ℕ → List ℕ
cliques_line n = key_line (codes "cliques") (listed (map clique_of (numbers_to (n - 1))))

-- each clique after the first is linked to the one before it
unfoldable pub links_line : ℕ → List ℕ
links_line n = key_line (codes "links") (listed (map decimal (numbers_to (n - 2))))

unfoldable pub file_head : ℕ → List ℕ
file_head n =
    key_line (codes "points_per_bit") (codes "100")
    & key_line (codes "max_trades") (codes "1000")
    & cliques_line n
    & links_line n

-- the shares of a million that the values no and yes have
abbrev pub row : List ℕ → List ℕ → List ℕ
row of_no of_yes = listed (of_no ∷ of_yes ∷ [])

abbrev pub depends : List (List ℕ) → List (List ℕ) → List ℕ
depends parents rows = key_line (codes "parents") (listed parents) & key_line (codes "rows") (listed rows)

-- on what a variable depends, and how: the first has no parents, and each other has the one before it
unfoldable pub dependence_lines : ℕ → List ℕ
dependence_lines i =
    if i == 1 then depends [] (row (codes "400000") (codes "600000") ∷ [])
    else depends (quoted_name (i - 1) ∷ []) (row (codes "700000") (codes "300000") ∷ row (codes "200000") (codes "800000") ∷ [])

-- the table of a variable, behind an empty line
unfoldable pub variable_part : ℕ → List ℕ
variable_part i =
    line []
    & line (codes "[[variable]]" ∷ [])
    & key_line (codes "name") (quoted_name i)
    & key_line (codes "values") (listed (quoted (codes "no") ∷ quoted (codes "yes") ∷ []))
    & dependence_lines i

-- the bytes of the market file
unfoldable pub sample_file : ℕ → List ℕ
sample_file n = file_head n & flat_map variable_part (numbers_to n)

-- how many users there are
abbrev pub users : ℕ
users = 8

abbrev pub user_name : ℕ → List ℕ
user_name k = codes "u" & decimal k

unfoldable pub join_line : ℕ → List ℕ
join_line k = line (codes "user" ∷ user_name k ∷ [])

unfoldable pub deposit_line : ℕ → List ℕ
deposit_line k = line (codes "deposit" ∷ user_name k ∷ codes "200" ∷ [])

-- yes where the number is odd, and no where it is even
unfoldable pub value_at : ℕ → List ℕ
value_at j = if j % 2 == 1 then codes "yes" else codes "no"

abbrev pub pair_of : ℕ → List ℕ → List ℕ
pair_of i value = variable_name i & codes "=" & value

-- how many edits there are: two and a half a variable
abbrev pub edits_of : ℕ → ℕ
edits_of n = (5 * n) / 2

-- edit j is made by each user in turn
abbrev pub user_of : ℕ → ℕ
user_of j = (j - 1) % users + 1

-- the variable that edit j is about
abbrev pub variable_of : ℕ → ℕ → ℕ
variable_of n j = (7 * j) % n + 1

-- the price that edit j asks for, in parts per million
abbrev pub price_of : ℕ → ℕ
price_of j = 200000 + (37123 * j) % 600001

-- what edit j asks of variable i: that it is yes, given a value of the variable before it, where there is one
unfoldable pub question_of : ℕ → ℕ → List ℕ
question_of i j =
    if i == 1 then pair_of i (codes "yes")
    else pair_of i (codes "yes") & codes " | " & pair_of (i - 1) (value_at j)

unfoldable pub edit_line : ℕ → ℕ → List ℕ
edit_line n j =
    line (codes "edit" ∷ user_name (user_of j) ∷ question_of (variable_of n j) j ∷ codes "to" ∷ decimal (price_of j) ∷ [])

unfoldable pub resolve_line : ℕ → List ℕ
resolve_line i = line (codes "resolve" ∷ pair_of i (value_at i) ∷ [])

abbrev pub settle_line : List ℕ
settle_line = line (codes "settle" ∷ [])

-- the bytes of the commands
unfoldable pub sample_commands : ℕ → List ℕ
sample_commands n =
    flat_map join_line (numbers_to users)
    & flat_map deposit_line (numbers_to users)
    & flat_map (edit_line n) (numbers_to (edits_of n))
    & flat_map resolve_line (numbers_to n)
    & settle_line
