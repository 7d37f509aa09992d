-- What a kept scope answers.
use Rattle.std.proofs.Common.{◌≡◌, ℕ, ◌+◌, ◌<◌, true, List, [], ◌∷◌, ◌++◌, length, get_or, slice_index, All, refl, ◌∙◌, subst, arith, length-append}
use Rattle.std.proofs.lemmas.List.{get_or_read, get_or_append_left, get_or_push, length_push}
use Rattle.std.proofs.lemmas.List.Elements.{All-weaker}
use Rattle.mk_net.specs.declared.words.Pair.{Pair}
use Rattle.mk_net.specs.Asked.{TradeRatio, ratio_pairs}
use Rattle.mk_net.specs.Network.{Variable, sizes}
use Rattle.mk_sums.proofs.Tables.{cell_below}
use Rattle.mk_scope.specs.Scopes.{ScopeOf, LiesIn, HasEvent, HasOneEach, HasSized, has_variable, size_in, cells_in}
use Rattle.mk_scope.specs.Cells.{values_at, cell_in}
use Rattle.mk_scope.specs.inner.Columns.{IsColumn, IsKept}
use Rattle.mk_scope.proofs.Values.{place_below}

-- the column of a variable of the scope
pub column_at : (kept scope : ScopeOf) (count first : ℕ) (starts columns : List ℕ) → IsKept kept count first starts columns → kept ≡ scope
    → (x c : ℕ) → has_variable scope x ≡ true → c < cells_in scope → IsColumn (size_in scope) scope.variables first starts columns x c
column_at kept scope count first starts columns h e x c =
    subst (λ (s : ScopeOf). has_variable s x ≡ true → c < cells_in s → IsColumn (size_in s) s.variables first starts columns x c) e (h.have x c)

-- the value of a cell of another scope is one of the variable's
pub value_in : (part whole : ScopeOf) → LiesIn part whole → (c : ℕ) → c < cells_in whole → (x : ℕ) → has_variable part x ≡ true → values_at whole c x < size_in part x
value_in part whole lies c h x p =
    let l = lies x p in
    let b = place_below (size_in whole) whole.variables c (λ y. 0) h x l.0 in
    omega (arith, l.1, b)

pub cell_within : (part whole : ScopeOf) → LiesIn part whole → (c : ℕ) → c < cells_in whole → cell_in part whole c < cells_in part
cell_within part whole lies c h = cell_below (size_in part) part.variables (values_at whole c) (value_in part whole lies c h)

-- what was read from a column
pub column_read : (columns : List ℕ) (start at c value read : ℕ) → at ≡ start → start + c < length columns → get_or columns (start + c) 0 ≡ value
    → read ≡ get_or columns (at + c) read → read ≡ value
column_read columns start at c value read e l v r =
    get_or_read columns (start + c) read l (subst (λ i. read ≡ get_or columns (i + c) read) e r) 0 ∙ v

-- each variable of a network that the scope has gets one of its values
pub sized_value : (network : List Variable) (scope : ScopeOf) (c : ℕ) → c < cells_in scope → (x : ℕ) → HasSized network scope x → values_at scope c x < slice_index (sizes network) x
sized_value network scope c h x s =
    let b = place_below (size_in scope) scope.variables c (λ y. 0) h x s.there in
    omega (arith, s.sized, b)

pub sized_values : (network : List Variable) (scope : ScopeOf) (c : ℕ) → c < cells_in scope → (xs : List ℕ) → All (HasSized network scope) xs
    → All (λ x. values_at scope c x < slice_index (sizes network) x) xs
sized_values network scope c h xs s =
    All-weaker (HasSized network scope) (λ x. values_at scope c x < slice_index (sizes network) x) (sized_value network scope c h) xs s

-- the two parts of a list of pairs with one at its end
pub event_first : (scope : ScopeOf) (xs ys : List Pair) → HasEvent scope (xs ++ ys) → HasEvent scope xs
event_first scope xs ys h k d p =
    let l : k < length (xs ++ ys) = omega (arith, length-append xs ys) in
    subst (λ (q : Pair). has_variable scope q.variable ≡ true) (get_or_append_left xs ys d k p) (h k d l)

pub event_last : (scope : ScopeOf) (xs : List Pair) (q : Pair) → HasEvent scope (xs ++ q ∷ []) → has_variable scope q.variable ≡ true
event_last scope xs q h =
    let l : length xs < length (xs ++ q ∷ []) = omega (arith, length_push xs q) in
    subst (λ (r : Pair). has_variable scope r.variable ≡ true) (get_or_push xs q q (length xs) refl) (h (length xs) q l)

-- a ratio has a number for the value that a cell gives its variable
pub place_of_units : (scope : ScopeOf) (ratio : TradeRatio) → HasEvent scope (ratio_pairs ratio) → HasOneEach scope ratio → (c : ℕ) → c < cells_in scope
    → values_at scope c ratio.variable < length ratio.factors
place_of_units scope ratio event one_each c h =
    let there = event_last scope ratio.condition (record { variable = ratio.variable; value = 0 }) event in
    let below = place_below (size_in scope) scope.variables c (λ y. 0) h ratio.variable there in
    omega (arith, below, one_each)
