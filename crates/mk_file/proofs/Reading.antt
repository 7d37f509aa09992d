-- What is read item by item: what was found so far, in front of what is left.
use Rattle.std.proofs.Common.{◌≡◌, ℕ, suc, ◌+◌, ◌≤◌, ◌<◌, List, [], ◌∷◌, ◌++◌, map, length, drop, get_or, Option, Some, None, option_map, option_and_then, Ok, Err, String, Global, Bor, refl, sym, ap, ◌∙◌, arith, append_assoc, append-nil, drop-cons}
use Rattle.std.proofs.lemmas.List.{drop_more, drop_all, map_push}
use Rattle.std.specs.BTreeMap.{BTreeMap}
use Rattle.toml.specs.Data.{Data, Members}
use Rattle.toml.specs.View.{view, items_view, table_view}
use Rattle.toml.specs.declared.value.Value.{Value}
use Rattle.mk_net.specs.Drafts.{DraftOfVariable}
use Rattle.mk_file.specs.Walk.{all_of, list_of, then_with, variable_in, variables_in}
use Rattle.mk_file.specs.declared.fault.FileFault.{FileFault}

abbrev pub Item : Type 0
Item = Bor (BTreeMap (String Global) Value)

-- the items of a list
pub record Reads {X : Type 0} (kind : Data → Option X) (value : Data) (found : List X) (left : List Value) : Type 0 where
  pub whole : list_of kind value ≡ option_map (λ more. found ++ more) (all_of kind (items_view left))

-- the next item that is left
next_of : (items : List Value) (index : ℕ) (item : Value) → index < length items → item ≡ get_or items index item → drop index items ≡ item ∷ drop (index + 1) items
next_of items index item within at = drop_more items index item within ∙ ap (λ first. first ∷ drop (index + 1) items) (sym at)

moved : {X : Type 0} (found : List X) (x : X) (rest : Option (List X)) → option_map (λ more. found ++ more) (option_map (λ xs. x ∷ xs) rest) ≡ option_map (λ more. (found ++ x ∷ []) ++ more) rest
moved found x None = refl
moved found x (Some xs) = ap Some (sym (append_assoc found (x ∷ []) xs))

-- the next item is of the kind
pub reads_more : {X : Type 0} (kind : Data → Option X) (value : Data) (found grown : List X) (items : List Value) (index : ℕ) (item : Value) (x : X)
    → Reads kind value found (drop index items) → index < length items → item ≡ get_or items index item → Some x ≡ kind (view item) → grown ≡ found ++ x ∷ []
    → Reads kind value grown (drop (index + 1) items)
reads_more kind value found grown items index item x reads within at is more =
    let rest = all_of kind (items_view (drop (index + 1) items)) in
    record {
      whole = reads.whole ∙ ap (λ left. option_map (λ xs. found ++ xs) (all_of kind (items_view left))) (next_of items index item within at)
          ∙ ap (λ first. option_map (λ xs. found ++ xs) (option_and_then (λ y. option_map (λ xs. y ∷ xs) rest) first)) (sym is)
          ∙ moved found x rest ∙ ap (λ all. option_map (λ xs. all ++ xs) rest) (sym more);
    }

pub reads_more_of : {T X : Type 0} (of : T → X) (kind : Data → Option X) (value : Data) (found grown : List T) (items : List Value) (index : ℕ) (item : Value) (t : T)
    → Reads kind value (map of found) (drop index items) → index < length items → item ≡ get_or items index item → Some (of t) ≡ kind (view item) → grown ≡ found ++ t ∷ []
    → Reads kind value (map of grown) (drop (index + 1) items)
reads_more_of of kind value found grown items index item t reads within at is more =
    reads_more kind value (map of found) (map of grown) items index item (of t) reads within at is (ap (map of) more ∙ map_push of found t)

-- the next item is of another kind
pub reads_no_more : {X : Type 0} (kind : Data → Option X) (value : Data) (found : List X) (items : List Value) (index : ℕ) (item : Value)
    → Reads kind value found (drop index items) → index < length items → item ≡ get_or items index item → None ≡ kind (view item) → None ≡ list_of kind value
reads_no_more kind value found items index item reads within at is =
    let rest = all_of kind (items_view (drop (index + 1) items)) in
    sym (reads.whole ∙ ap (λ left. option_map (λ xs. found ++ xs) (all_of kind (items_view left))) (next_of items index item within at)
    ∙ ap (λ first. option_map (λ xs. found ++ xs) (option_and_then (λ y. option_map (λ xs. y ∷ xs) rest) first)) (sym is))

-- no item is left
pub reads_all : {X : Type 0} (kind : Data → Option X) (value : Data) (found : List X) (items : List Value) (index : ℕ)
    → Reads kind value found (drop index items) → length items ≤ index → Some found ≡ list_of kind value
reads_all kind value found items index reads past =
    sym (reads.whole ∙ ap (λ left. option_map (λ xs. found ++ xs) (all_of kind (items_view left))) (drop_all index items past) ∙ ap Some (append-nil found))

-- the variables of the tables, of which those that are left begin at a place
pub record ReadsVariables (tables : List Members) (place : ℕ) (found : List DraftOfVariable) (left : List Members) : Type 0 where
  pub whole : variables_in 1 tables ≡ then_with (variables_in place left) (λ more. Ok (found ++ more))

-- the first table that is left has a fault
stopped : (tables : List Members) (place : ℕ) (found : List DraftOfVariable) (table : Members) (left : List Members) (fault : FileFault)
    → ReadsVariables tables place found (table ∷ left) → variable_in place table ≡ Err fault → variables_in 1 tables ≡ Err fault
stopped tables place found table left fault reads bad = reads.whole ∙ rw bad refl

pub stops_at : (tables : List Members) (index : ℕ) (found : List DraftOfVariable) (items : List Item) (item : Item) (fault : FileFault)
    → ReadsVariables tables (1 + index) found (map (λ t. table_view t.now) (drop index items)) → index < length items → item ≡ get_or items index item
    → variable_in (index + 1) (table_view item.now) ≡ Err fault → variables_in 1 tables ≡ Err fault
stops_at tables index found items item fault reads within read bad =
    let first : drop index items ≡ item ∷ drop (suc index) items = rw (drop-cons items index item) (cc) in
    let place : 1 + index ≡ index + 1 = omega arith in
    let reads_first = rw (first, place) at reads in
    stopped tables (index + 1) found (table_view item.now) (map (λ t. table_view t.now) (drop (suc index) items)) fault reads_first bad
