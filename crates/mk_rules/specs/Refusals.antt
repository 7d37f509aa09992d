-- The refusals that come in every history, and their order. Each answers a refusal or none.
use Rattle.std.specs.Prelude.{ℕ, ◌-◌, List, [], ◌∷◌, length, map, sum, Bool, false, ◌&&◌, not, ◌++◌}
use Rattle.std.specs.Prelude.{slice_index_or, ◌==◌, nat_le, if◌then◌else◌, is_none, Option, Some}
use Rattle.std.specs.Prelude.{None, option_map, option_and_then, find}
use Rattle.std.specs.List.{list_all, list_any, position_or_len, enumerate_from, filter_map, count_by}
use Rattle.mk_net.specs.declared.words.Pair.{Pair}
use Rattle.mk_net.specs.declared.words.PairText.{PairText}
use Rattle.mk_net.specs.declared.words.QuestionText.{QuestionText}
use Rattle.mk_net.specs.Bounds.{max_transfer_bits, million}
use Rattle.mk_names.specs.Texts.{same_text}
use Rattle.mk_net.specs.Network.{Variable}
use Rattle.mk_net.specs.Named.{pair_named, variable_named, variable_at}
use Rattle.mk_net.specs.Asked.{Asked}
use Rattle.mk_net.specs.Events.{speaks_of}
use Rattle.mk_net.specs.Firsts.{fault_if, or_else, first_of}
use Rattle.mk_exact.specs.History.{Entry, users, trades, resolutions, is_settled, is_transfer, revision}
use Rattle.mk_states.specs.Events.{holds, with_target, without_target}
use Rattle.mk_exact.specs.Weight.{cannot_come}
use Rattle.mk_exact.specs.Market.{Market}
use Rattle.mk_spread.specs.Spreads.{SpreadAsked}
use Rattle.mk_spread.specs.Markets.{value_cannot_come, values_left}
use Rattle.mk_rules.specs.Additions.{variables_full, taken, nobody_named, no_link, uncovered}
use Rattle.mk_rules.specs.Additions.{not_running, row_count, row_width, most_share, shares_of}
use Rattle.mk_rules.specs.Additions.{row_sum, too_large}
use Rattle.mk_command.specs.declared.command.Command.{Command}
use Rattle.mk_command.specs.declared.command.Command.TheVariants.{User, Deposit, Withdraw, Price, Limits, Edit, Bounds, Spread, Worst, Resolve, Settle, Bound, Paid}
use Rattle.mk_command.specs.declared.command.Command.TheVariants.{Prices, Position, Status, Add}
use Rattle.mk_reply.specs.declared.refusal.Refusal.{Refusal}
use Rattle.mk_reply.specs.declared.refusal.Refusal.TheVariants.{Settled, User as NoUser, Exists, Users, Unknown, Twice, Stale, Resolved, Impossible, Wide, Range, Full, Unresolved, Unsettled, NoVariable, ValueTwice, Numbers, Sum, Sure}

-- the pairs of a question as they are written, the target first
abbrev pub pairs_of : QuestionText → List PairText
pairs_of q = q.target ∷ q.condition.items

-- the variables of some pairs in words, in the same order
abbrev pub names_in : List PairText → List (List ℕ)
names_in pairs = map (λ (p : PairText). p.variable) pairs

-- the variables of some pairs
abbrev pub variables_in : List Pair → List ℕ
variables_in pairs = map (λ (p : Pair). p.variable) pairs

-- the pairs that the network knows among some in words
abbrev pub known_pairs : List Variable → List PairText → List Pair
known_pairs network pairs = filter_map (pair_named network) pairs

-- a question in the network's numbers; where its target is unknown there is none
abbrev pub question_named : List Variable → QuestionText → Option Asked
question_named network q =
    option_map (λ t. record { target = t; condition = known_pairs network q.condition.items }) (pair_named network q.target)

-- a question about every value of a variable, in the network's numbers; where the variable is unknown there is none
abbrev pub spread_named : List Variable → List ℕ → List PairText → Option SpreadAsked
spread_named network v pairs =
    option_map (λ (numbered : ℕ × Variable). record { variable = numbered.0; condition = known_pairs network pairs }) (variable_named network v)

-- a user's number, from 0 in the order of joining
abbrev pub user_number : List Entry → List ℕ → ℕ
user_number H u = position_or_len (same_text u) (users H)

abbrev pub has_joined : List Entry → List ℕ → Bool
has_joined H u = list_any (same_text u) (users H)

abbrev pub is_resolved : List Entry → ℕ → Bool
is_resolved H v = speaks_of (resolutions H) v

-- a resolution gave the pair's variable another value
abbrev pub contradicts : List Entry → Pair → Bool
contradicts H p = list_any (λ (r : Pair). (r.variable == p.variable) && not (r.value == p.value)) (resolutions H)

abbrev pub passes : {X : Type 0} → (X → Bool) → Option X → Bool
passes test None = false
passes test (Some x) = test x

-- the first name that stands a second time, from left to right
abbrev pub first_repeat : List (List ℕ) → List (List ℕ) → Option (List ℕ)
first_repeat before [] = None
first_repeat before (name ∷ names) =
    if list_any (same_text name) before then Some name else first_repeat (name ∷ before) names

-- no clique holds each of some variables
abbrev pub is_wide : List (List ℕ) → List ℕ → Bool
is_wide cliques variables = not (list_any (λ clique. list_all (λ x. list_any (λ v. v == x) clique) variables) cliques)

abbrev pub settled : List Entry → Option Refusal
settled H = fault_if (is_settled H) Settled

-- nothing was paid yet
abbrev pub unsettled : List Entry → Option Refusal
unsettled H = fault_if (not (is_settled H)) Unsettled

abbrev pub no_user : List Entry → List ℕ → Option Refusal
no_user H u = fault_if (not (has_joined H u)) (NoUser u)

abbrev pub exists : List Entry → List ℕ → Option Refusal
exists H u = fault_if (has_joined H u) (Exists u)

abbrev pub users_full : Market → List Entry → Option Refusal
users_full market H = fault_if (nat_le market.max_users (length (users H))) (Users market.max_users)

abbrev pub unknown : List Variable → List PairText → Option Refusal
unknown network pairs = option_map Unknown (find (λ p. is_none (pair_named network p)) pairs)

abbrev pub no_variable : List Variable → List ℕ → Option Refusal
no_variable network v = fault_if (is_none (variable_named network v)) (NoVariable v)

abbrev pub twice : List (List ℕ) → Option Refusal
twice names = option_map Twice (first_repeat [] names)

-- the first value of a list that stands a second time
abbrev pub value_twice : List (List ℕ) → Option Refusal
value_twice values = option_map ValueTwice (first_repeat [] values)

abbrev pub stale : List Entry → Option ℕ → Option Refusal
stale H None = None
stale H (Some named) = fault_if (not (named == revision H)) (Stale named (revision H))

abbrev pub resolved : List Variable → List Entry → List ℕ → Option Refusal
resolved network H name = fault_if (passes (λ (numbered : ℕ × Variable). is_resolved H (numbered.0)) (variable_named network name)) (Resolved name)

abbrev pub impossible : List Variable → List Entry → List PairText → Option Refusal
impossible network H pairs = option_map Impossible (find (λ p. passes (contradicts H) (pair_named network p)) pairs)

abbrev pub wide : List (List ℕ) → List ℕ → Option Refusal
wide cliques variables = fault_if (is_wide cliques variables) Wide

-- a question is wide where the variables of its pairs are
abbrev pub wide_question : Market → List Entry → QuestionText → Option Refusal
wide_question market H q = wide market.cliques (variables_in (known_pairs market.network (pairs_of q)))

-- so is one about every value of a variable where that and the variables of the condition are
abbrev pub wide_spread : Market → List Entry → List ℕ → List PairText → Option Refusal
wide_spread market H v pairs = option_and_then (λ (spread : SpreadAsked). wide market.cliques (spread.variable ∷ variables_in spread.condition))
    (spread_named market.network v pairs)

-- the first pair of a list with which, beside some pairs and those before it, no possible state is left
abbrev pub impossible_after : List Variable → List Entry → List Pair → List PairText → Option Refusal
impossible_after network H before [] = None
impossible_after network H before (p ∷ ps) =
    let held = before ++ known_pairs network (p ∷ []) in
    if cannot_come network H (holds held) then Some (Impossible p) else impossible_after network H held ps

-- the first pair with which, beside those before it, none is left
abbrev pub impossible_together : List Variable → List Entry → List PairText → Option Refusal
impossible_together network H pairs = impossible_after network H [] pairs

-- where the condition of a question holds its target cannot come, or nothing else can
abbrev pub decided : List Variable → List Entry → QuestionText → Option Refusal
decided network H q = option_and_then (λ (asked : Asked). or_else
    (fault_if (cannot_come network H (with_target asked)) (Impossible q.target))
    (fault_if (cannot_come network H (without_target asked)) (Sure q.target))) (question_named network q)

-- a variable in words with one of its values
abbrev pub pair_with : List Variable → List ℕ → SpreadAsked → ℕ → PairText
pair_with network v spread value = record { variable = v; value = slice_index_or (variable_at network spread.variable).values value [] }

-- the one number of a list that has no other
abbrev pub only : List ℕ → Option ℕ
only [] = None
only (n ∷ []) = Some n
only (n ∷ m ∷ ns) = None

-- where the condition holds one value alone can come
abbrev pub sure_value : List Variable → List Entry → List ℕ → List PairText → Option Refusal
sure_value network H v pairs = option_and_then (λ (spread : SpreadAsked).
    option_map (λ value. Sure (pair_with network v spread value)) (only (values_left network H spread))) (spread_named network v pairs)

-- the first value with a share that cannot come where the condition holds
abbrev pub impossible_share : List Variable → List Entry → List ℕ → List PairText → List ℕ → Option Refusal
impossible_share network H v pairs to = option_and_then (λ (spread : SpreadAsked).
    option_map (λ (numbered : ℕ × ℕ). Impossible (pair_with network v spread (numbered.0)))
    (find (λ (numbered : ℕ × ℕ). nat_le 1 (numbered.1) && value_cannot_come network H spread (numbered.0)) (enumerate_from 0 to))) (spread_named network v pairs)

-- some value without a share can come
abbrev pub missing_share : List Variable → List Entry → List ℕ → List PairText → List ℕ → Option Refusal
missing_share network H v pairs to = option_and_then (λ (spread : SpreadAsked).
    fault_if (list_any (λ (numbered : ℕ × ℕ). (numbered.1 == 0) && not (value_cannot_come network H spread (numbered.0))) (enumerate_from 0 to)) (Range 0)) (spread_named network v pairs)

-- a number is 1 to a most
abbrev pub range : ℕ → ℕ → Option Refusal
range most n = fault_if (not (nat_le 1 n && nat_le n most)) (Range n)

-- the first number that is not from a least to a most
abbrev pub ranges : ℕ → ℕ → List ℕ → Option Refusal
ranges least most numbers = option_map Range (find (λ n. not (nat_le least n && nat_le n most)) numbers)

-- the least share that a value may be given: nothing where the market has shares of nothing
abbrev pub least_share : Market → ℕ
least_share market = if market.zeros then 0 else 1

-- a distribution has another number of numbers than its variable has values
abbrev pub numbers : List Variable → List ℕ → List ℕ → Option Refusal
numbers network v to = fault_if (passes (λ (numbered : ℕ × Variable). not (length to == length (numbered.1).values)) (variable_named network v)) (Numbers (length to))

-- the numbers do not make a million
abbrev pub sums : List ℕ → Option Refusal
sums to = fault_if (not (sum to == million)) (Sum (sum to))

-- as many are held as may be
abbrev pub full : ℕ → ℕ → Option Refusal
full most held = fault_if (nat_le most held) (Full most)

abbrev pub transfers_full : Market → List Entry → Option Refusal
transfers_full market H = full market.max_transfers (count_by is_transfer H)

abbrev pub trades_full : Market → List Entry → Option Refusal
trades_full market H = full market.max_trades (length (trades H))

-- the first variable that is not resolved
abbrev pub unresolved : List Variable → List Entry → Option Refusal
unresolved network H =
    option_map (λ (numbered : ℕ × Variable). Unresolved (numbered.1).name)
    (find (λ (numbered : ℕ × Variable). not (is_resolved H (numbered.0))) (enumerate_from 0 network))

-- what each command is refused for by its words and by what was done, in this order
abbrev pub refusals_by_record : Market → List Entry → Command → List (Option Refusal)
refusals_by_record market H (User u) = settled H ∷ exists H u ∷ users_full market H ∷ []
refusals_by_record market H (Deposit u bits) = settled H ∷ no_user H u ∷ range max_transfer_bits bits ∷ transfers_full market H ∷ []
refusals_by_record market H (Withdraw u bits) = settled H ∷ no_user H u ∷ range max_transfer_bits bits ∷ transfers_full market H ∷ []
refusals_by_record market H (Price q) =
    let network = market.network in
    settled H ∷ unknown network (pairs_of q) ∷ twice (names_in (pairs_of q)) ∷ resolved network H q.target.variable
    ∷ impossible network H q.condition.items ∷ wide_question market H q ∷ []
refusals_by_record market H (Limits u q) =
    let network = market.network in
    settled H ∷ no_user H u ∷ unknown network (pairs_of q) ∷ twice (names_in (pairs_of q)) ∷ resolved network H q.target.variable
    ∷ impossible network H q.condition.items ∷ wide_question market H q ∷ []
refusals_by_record market H (Edit u q to seen) =
    let network = market.network in
    settled H ∷ no_user H u ∷ unknown network (pairs_of q) ∷ twice (names_in (pairs_of q)) ∷ stale H seen
    ∷ resolved network H q.target.variable ∷ impossible network H q.condition.items ∷ wide_question market H q
    ∷ range (million - 1) to ∷ trades_full market H ∷ []
refusals_by_record market H (Bounds u v condition) =
    let network = market.network in
    settled H ∷ no_user H u ∷ no_variable network v ∷ unknown network condition.items ∷ twice (v ∷ names_in condition.items)
    ∷ resolved network H v ∷ impossible network H condition.items ∷ wide_spread market H v condition.items ∷ []
refusals_by_record market H (Spread u v condition to seen) =
    let network = market.network in
    settled H ∷ no_user H u ∷ no_variable network v ∷ unknown network condition.items ∷ twice (v ∷ names_in condition.items)
    ∷ stale H seen ∷ resolved network H v ∷ impossible network H condition.items ∷ wide_spread market H v condition.items
    ∷ numbers network v to.items ∷ ranges (least_share market) (million - 1) to.items ∷ sums to.items ∷ trades_full market H ∷ []
refusals_by_record market H (Worst u) = settled H ∷ no_user H u ∷ []
refusals_by_record market H (Paid u) = unsettled H ∷ no_user H u ∷ []
refusals_by_record market H (Resolve p) =
    let network = market.network in
    settled H ∷ unknown network (p ∷ []) ∷ resolved network H p.variable ∷ []
refusals_by_record market H Settle = settled H ∷ unresolved market.network H ∷ []
refusals_by_record market H Bound = settled H ∷ []
refusals_by_record market H (Prices v condition) =
    let network = market.network in
    settled H ∷ no_variable network v ∷ unknown network condition.items
    ∷ twice (v ∷ names_in condition.items) ∷ resolved network H v
    ∷ impossible network H condition.items ∷ wide_spread market H v condition.items ∷ []
refusals_by_record market H (Position u v condition) =
    let network = market.network in
    settled H ∷ no_user H u ∷ no_variable network v ∷ unknown network condition.items
    ∷ twice (v ∷ names_in condition.items) ∷ resolved network H v
    ∷ impossible network H condition.items ∷ wide_spread market H v condition.items ∷ []
refusals_by_record market H Status = settled H ∷ []
refusals_by_record market H (Add add) =
    let network = market.network in
    settled H ∷ variables_full network ∷ taken network add.variable ∷ value_twice add.values.items
    ∷ nobody_named network [] add.parents.items
    ∷ nobody_named network (add.variable ∷ []) add.clique.items
    ∷ twice add.parents.items ∷ twice add.clique.items ∷ no_link market.cliques add.link
    ∷ uncovered add ∷ not_running market add ∷ row_count network add ∷ row_width add
    ∷ ranges (least_share market) (most_share market) (shares_of add) ∷ row_sum add
    ∷ too_large market add ∷ []

-- what it is refused for by what can come, behind these
abbrev pub refusals_by_states : Market → List Entry → Command → List (Option Refusal)
refusals_by_states market H (Price q) = impossible_together market.network H q.condition.items ∷ []
refusals_by_states market H (Limits u q) =
    let network = market.network in impossible_together network H q.condition.items ∷ decided network H q ∷ []
refusals_by_states market H (Edit u q to seen) =
    let network = market.network in impossible_together network H q.condition.items ∷ decided network H q ∷ []
refusals_by_states market H (Bounds u v condition) =
    let network = market.network in impossible_together network H condition.items ∷ sure_value network H v condition.items ∷ []
refusals_by_states market H (Spread u v condition to seen) =
    let network = market.network in
    impossible_together network H condition.items ∷ sure_value network H v condition.items
    ∷ impossible_share network H v condition.items to.items ∷ missing_share network H v condition.items to.items ∷ []
refusals_by_states market H (Resolve p) = impossible_together market.network H (p ∷ []) ∷ []
refusals_by_states market H (Prices v condition) =
    impossible_together market.network H condition.items ∷ []
refusals_by_states market H (Position u v condition) =
    impossible_together market.network H condition.items ∷ []
refusals_by_states market H _ = []

-- what it is refused for, in this order
abbrev pub refusals : Market → List Entry → Command → List (Option Refusal)
refusals market H command = refusals_by_record market H command ++ refusals_by_states market H command

-- the first that applies
abbrev pub first_refusal : Market → List Entry → Command → Option Refusal
first_refusal market H command = first_of (refusals market H command)
