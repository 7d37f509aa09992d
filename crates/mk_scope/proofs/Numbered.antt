-- The number of a cell, variable by variable.
use Rattle.std.proofs.Common.{◌≡◌, ℕ, ◌+◌, ◌*◌, ◌<◌, ◌≤◌, true, ◌⊎◌, inl, inr, List, [], ◌∷◌, ◌++◌, length, get_or, slice_index, drop, sym, ap, subst, ◌∙◌, arith}
use Rattle.std.proofs.Math.Nat.{le-mul_of_pos_right}
use Rattle.std.proofs.lemmas.Bool.{cases_eq}
use Rattle.std.proofs.lemmas.List.{drop_more, drop_all, get_or_read, get_or_push, get_or_append_left}
use Rattle.mk_sums.specs.Cells.{cells, cell_of}
use Rattle.mk_scope.specs.Scopes.{ScopeOf, IsScope, LiesIn, size_in, cells_in, has_variable}
use Rattle.mk_scope.specs.Cells.{values_at, cell_in}
use Rattle.mk_scope.proofs.Kept.{cell_within}
use Rattle.mk_scope.proofs.Members.{size_at, size_pos}
use Rattle.mk_scope.proofs.Values.{cells_pos, listed_at}

-- what is counted of a number so far, and what the variables from a place on add to it
abbrev pub number_from : (ℕ → ℕ) → (ℕ → ℕ) → List ℕ → ℕ → ℕ
number_from size a xs number = number * cells size xs + cell_of size xs a

number_more : (size a : ℕ → ℕ) (xs : List ℕ) (i number : ℕ) → i < length xs
    → number_from size a (drop i xs) number ≡ number_from size a (drop (i + 1) xs) (number * size (get_or xs i 0) + a (get_or xs i 0))
number_more size a xs i number l =
    let x = get_or xs i 0 in let ys = drop (i + 1) xs in
    let s : number * (size x * cells size ys) + (a x * cells size ys + cell_of size ys a) ≡ (number * size x + a x) * cells size ys + cell_of size ys a = omega arith in
    ap (λ (zs : List ℕ). number_from size a zs number) (drop_more xs i 0 l) ∙ s

-- one variable more
pub record IsCounted (part whole : ScopeOf) (cell place size x value number : ℕ) : Type 0 where
  pub small : number * size + value < 4096
  pub next : number_from (size_in part) (values_at whole cell) (drop (place + 1) part.variables) (number * size + value) ≡ cell_in part whole cell

counted : (part whole : ScopeOf) → IsScope part → LiesIn part whole → (cell : ℕ) → cell < cells_in whole → (place : ℕ) → place < length part.variables → (number : ℕ)
    → number_from (size_in part) (values_at whole cell) (drop place part.variables) number ≡ cell_in part whole cell
    → (value : ℕ) → value ≡ values_at whole cell (get_or part.variables place 0)
    → IsCounted part whole cell place (get_or part.sizes place 0) (get_or part.variables place 0) value number
counted part whole is lies cell l place m number h value v =
    let xs = part.variables in let x = get_or xs place 0 in let a = values_at whole cell in let ys = drop (place + 1) xs in
    let s : get_or part.sizes place 0 ≡ size_in part x = sym (size_at part is place m) in
    let next : number_from (size_in part) a ys (number * get_or part.sizes place 0 + value) ≡ cell_in part whole cell =
    ap (λ n. number_from (size_in part) a ys (number * n + value)) s ∙ ap (λ n. number_from (size_in part) a ys (number * size_in part x + n)) v
    ∙ sym (number_more (size_in part) a xs place number m) ∙ h in
    let some : 1 ≤ cells (size_in part) ys = cells_pos (size_in part) ys (λ y q. size_pos part is y) in
    let grows : number * get_or part.sizes place 0 + value ≤ (number * get_or part.sizes place 0 + value) * cells (size_in part) ys = le-mul_of_pos_right (number * get_or part.sizes place 0 + value) some in
    let within = cell_within part whole lies cell l in
    record {
      small = omega (arith, next, grows, within, is.few_cells);
      next = next;
    }

-- of a scope as it is kept, by what the code read
pub counted_kept : (kept part whole : ScopeOf) → IsScope kept → kept ≡ part → LiesIn part whole → (cell : ℕ) → cell < cells_in whole → (place size x value number : ℕ) → place < length kept.variables
    → size ≡ get_or kept.sizes place size → x ≡ get_or kept.variables place x
    → number_from (size_in part) (values_at whole cell) (drop place part.variables) number ≡ cell_in part whole cell
    → value ≡ values_at whole cell x
    → IsCounted part whole cell place size x value number
counted_kept kept part whole is same lies cell l place size x value number m p q h v =
    subst (λ (s : ScopeOf). LiesIn s whole → number_from (size_in s) (values_at whole cell) (drop place s.variables) number ≡ cell_in s whole cell → IsCounted s whole cell place size x value number) same
    (λ k i.
    let s = get_or_read kept.sizes place size (omega (arith, m, is.one_size_each)) p 0 in
    let y = get_or_read kept.variables place x m q 0 in
    subst (λ n. IsCounted kept whole cell place n x value number) (sym s)
    (subst (λ n. IsCounted kept whole cell place (get_or kept.sizes place 0) n value number) (sym y)
    (counted kept whole is k cell l place m number i value (v ∙ ap (values_at whole cell) y)))) lies h

pub variable_there : (kept part whole : ScopeOf) → kept ≡ part → LiesIn part whole → (place x : ℕ) → place < length kept.variables → x ≡ get_or kept.variables place x → has_variable whole x ≡ true
variable_there kept part whole same lies place x l e =
    let m : place < length part.variables = let n = ap (λ (s : ScopeOf). length s.variables) same in omega (arith, l, n) in
    let y : x ≡ get_or part.variables place 0 = get_or_read kept.variables place x l e 0 ∙ ap (λ (s : ScopeOf). get_or s.variables place 0) same in
    subst (λ z. has_variable whole z ≡ true) (sym y) ((lies (get_or part.variables place 0) (listed_at part.variables place 0 m)).0)

-- all variables
pub number_all : (kept part whole : ScopeOf) (cell place number : ℕ) → kept ≡ part → length kept.variables ≤ place
    → number_from (size_in part) (values_at whole cell) (drop place part.variables) number ≡ cell_in part whole cell → number ≡ cell_in part whole cell
number_all kept part whole cell place number same l h =
    let none = drop_all place part.variables (let m = ap (λ (s : ScopeOf). length s.variables) same in omega (arith, l, m)) in
    let e = ap (λ (zs : List ℕ). number_from (size_in part) (values_at whole cell) zs number) none in
    omega (arith, e, h)

-- one cell more is written
pub written_more : (at : ℕ → ℕ) (xs : List ℕ) (n y : ℕ) → length xs ≡ n → ((c : ℕ) → c < n → slice_index xs c ≡ at c) → y ≡ at n → (c : ℕ) → c < n + 1 → slice_index (xs ++ y ∷ []) c ≡ at c
written_more at xs n y l h e c m = from (cases_eq c n)
  where
    from : ((c ≡ n) ⊎ (c ≡ n → ⊥)) → slice_index (xs ++ y ∷ []) c ≡ at c
    from (inl i) = get_or_push xs y 0 c (l ∙ sym i) ∙ e ∙ ap at (sym i)
    from (inr i) = get_or_append_left xs (y ∷ []) 0 c (omega (arith, l, m, i)) ∙ h c (omega (arith, m, i))
