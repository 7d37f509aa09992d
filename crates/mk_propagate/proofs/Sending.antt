-- One message of a flow is made anew: it is right, and all else stays as it was.
use Rattle.std.proofs.Common.{◌≡◌, ℕ, ◌+◌, ◌-◌, ◌<◌, ◌≤◌, Bool, true, false, cond, ◌⊎◌, inl, inr, ltb, List, length, slice_index_or, slice_set, max, Option, Some, refl, sym, ap, subst, ◌∙◌, arith, lt-ltb, le-ltb}
use Rattle.std.proofs.lemmas.Bool.{cases_eq, cases_lt}
use Rattle.std.proofs.lemmas.List.{get_or_default, get_or-set_same, get_or-set_other, length-set}
use Rattle.mk_sums.proofs.Hops.{AreLinked, IsChild, are_linked}
use Rattle.mk_table.specs.Tables.{TableOf}
use Rattle.mk_tree.specs.Given.{link_of}
use Rattle.mk_plan.specs.Shapes.{ShapeOf, IsClique, are_linked as is_linked, core_scope, separator_scope, separator_between, neighbours}
use Rattle.mk_propagate.specs.Placings.{Placing}
use Rattle.mk_propagate.specs.Flows.{FlowOf, HasPlaced, HasSums, IsRight, AreRightBut, no_table, table_at, core_at, is_summed, message_at}
use Rattle.mk_propagate.specs.inner.Kept.{IsKept, AreOverCores}
use Rattle.mk_propagate.specs.inner.Gathered.{is_input, IsRightIn, CanTake, HasGathered, HasInto, HasOutgoing}
use Rattle.mk_propagate.proofs.Placed.{AreOthersKept, table_read}
use Rattle.mk_propagate.proofs.Messages.{are_ends}
use Rattle.mk_plan.proofs.Split.{core_split}
use Rattle.mk_propagate.proofs.Boards.{read_there}

-- a list of tables, one of which is put anew over the same scope
pub same_scopes : (ts : List TableOf) (i j : ℕ) (t : TableOf) → i < length ts → t.scope ≡ (slice_index_or ts i no_table).scope → (slice_index_or (slice_set ts i t) j no_table).scope ≡ (slice_index_or ts j no_table).scope
same_scopes ts i j t l e = at (cases_eq j i)
  where
    at : ((j ≡ i) ⊎ (j ≡ i → ⊥)) → (slice_index_or (slice_set ts i t) j no_table).scope ≡ (slice_index_or ts j no_table).scope
    at (inl q) =
        ap (λ n. (slice_index_or (slice_set ts i t) n no_table).scope) q
        ∙ ap (λ (s : TableOf). s.scope) (get_or-set_same ts i t no_table l) ∙ e ∙ ap (λ n. (slice_index_or ts n no_table).scope) (sym q)
    at (inr d) = ap (λ (s : TableOf). s.scope) (get_or-set_other ts i j t no_table d)

-- tables over the cores of a flow's cliques, of which one is read, or put anew
module _ (flow : FlowOf) (tables : List TableOf) (are : AreOverCores flow tables) (k : ℕ) (clique : IsClique flow.shape.tree k) where
  pub core_within : k - 1 < length tables
  core_within = omega (arith, are.one_each, clique.first, clique.last)

  pub core_is : (t : TableOf) → t ≡ slice_index_or tables (k - 1) t → slice_index_or tables (k - 1) no_table ≡ t
  core_is t e = table_read tables (k - 1) t core_within e

  pub core_fits : (t : TableOf) → t ≡ slice_index_or tables (k - 1) t → t.scope ≡ core_scope flow.shape k
  core_fits t e = ap (λ (s : TableOf). s.scope) (sym (core_is t e)) ∙ are.scopes k clique

  pub cores_still : (was t : TableOf) → was ≡ slice_index_or tables (k - 1) was → t.scope ≡ was.scope → AreOverCores flow (slice_set tables (k - 1) t)
  cores_still was t e s = record {
    one_each = length-set tables (k - 1) t ∙ are.one_each;
    scopes = λ i c. same_scopes tables (k - 1) (i - 1) t core_within (s ∙ ap (λ (u : TableOf). u.scope) (sym (core_is was e))) ∙ are.scopes i c;
  }

-- what was put is read back
pub read_back : (ts : List TableOf) (i : ℕ) (put t : TableOf) → i < length ts → t ≡ slice_index_or (slice_set ts i put) i t → t ≡ put
read_back ts i put t l e = e ∙ get_or-set_same ts i put t l

module _ (old : FlowOf) (products : List TableOf) (cells : ℕ) (kept : IsKept old products cells) (k : ℕ) (clique : IsClique old.shape.tree k) where
  pub table_within : k - 1 < length old.tables
  table_within = omega (arith, kept.one_each, clique.first, clique.last)

  pub table_is : (table : TableOf) → table ≡ slice_index_or old.tables (k - 1) table → table_at old k ≡ table
  table_is table e = table_read old.tables (k - 1) table table_within e

  pub mark_within : k - 1 < length old.summed
  mark_within = omega (arith, kept.one_mark_each, clique.first, clique.last)

  pub mark_is : (mark : Bool) → mark ≡ slice_index_or old.summed (k - 1) mark → is_summed old k ≡ mark
  mark_is mark e = get_or_default old.summed (k - 1) false mark mark_within ∙ sym e

  -- with other products
  pub kept_over : (after : List TableOf) → AreOverCores old after → IsKept old after cells
  kept_over after are = record {
    linked = kept.linked;
    one_each = kept.one_each;
    one_less_up = kept.one_less_up;
    one_less_down = kept.one_less_down;
    table_scopes = kept.table_scopes;
    cores_are = kept.cores_are;
    one_mark_each = kept.one_mark_each;
    core_shifts = kept.core_shifts;
    products_are = are;
    upward_scopes = kept.upward_scopes;
    downward_scopes = kept.downward_scopes;
    cells_are = kept.cells_are;
  }

-- a flow with another table over a core, and its mark
abbrev pub with_core : FlowOf → ℕ → TableOf → Bool → FlowOf
with_core old k core mark = record {
  shape = old.shape;
  tables = old.tables;
  cores = slice_set old.cores (k - 1) core;
  summed = slice_set old.summed (k - 1) mark;
  upward = old.upward;
  downward = old.downward;
  factors = old.factors;
  computed = old.computed;
}

pub others_set : (old : FlowOf) (k : ℕ) → 1 ≤ k → (core : TableOf) (mark : Bool) → AreOthersKept old k (slice_set old.cores (k - 1) core) (slice_set old.summed (k - 1) mark)
others_set old k first core mark j at apart =
    let d : j - 1 ≡ k - 1 → ⊥ = λ e. apart (omega (arith, e, at.first, first)) in
    (get_or-set_other old.cores (k - 1) (j - 1) core no_table d, get_or-set_other old.summed (k - 1) (j - 1) mark false d)

module _ (old : FlowOf) (products : List TableOf) (cells : ℕ) (kept : IsKept old products cells) (k : ℕ) (clique : IsClique old.shape.tree k) (was core : TableOf) (e : was ≡ slice_index_or old.cores (k - 1) was)
    (same : core.scope ≡ was.scope) (mark : Bool) where
  pub core_put : core_at (with_core old k core mark) k ≡ core
  core_put = get_or-set_same old.cores (k - 1) core no_table (core_within old old.cores kept.cores_are k clique)

  pub mark_put : is_summed (with_core old k core mark) k ≡ mark
  mark_put = get_or-set_same old.summed (k - 1) mark false (mark_within old products cells kept k clique)

  pub kept_core : (mark ≡ true → core.shift ≡ (table_at old k).shift) → IsKept (with_core old k core mark) products cells
  kept_core shift = record {
    linked = kept.linked;
    one_each = kept.one_each;
    one_less_up = kept.one_less_up;
    one_less_down = kept.one_less_down;
    table_scopes = kept.table_scopes;
    cores_are = let c = cores_still old old.cores kept.cores_are k clique was core e same in record { one_each = c.one_each; scopes = c.scopes };
    one_mark_each = length-set old.summed (k - 1) mark ∙ kept.one_mark_each;
    core_shifts = λ j at marked. shifted j at (cases_eq j k) marked;
    products_are = record { one_each = kept.products_are.one_each; scopes = kept.products_are.scopes };
    upward_scopes = kept.upward_scopes;
    downward_scopes = kept.downward_scopes;
    cells_are = kept.cells_are;
  }
    where
      shifted : (j : ℕ) → IsClique old.shape.tree j → ((j ≡ k) ⊎ (j ≡ k → ⊥)) → is_summed (with_core old k core mark) j ≡ true → (core_at (with_core old k core mark) j).shift ≡ (table_at old j).shift
      shifted j at (inl f) marked =
          subst (λ n. is_summed (with_core old k core mark) n ≡ true → (core_at (with_core old k core mark) n).shift ≡ (table_at old n).shift) (sym f)
          (λ here. ap (λ (u : TableOf). u.shift) core_put ∙ shift (sym mark_put ∙ here)) marked
      shifted j at (inr d) marked =
          let o = others_set old k clique.first core mark j at d in
          ap (λ (u : TableOf). u.shift) o.0 ∙ kept.core_shifts j at (sym o.1 ∙ marked)

  -- what was placed still is
  pub placed_core : (plus : ℕ → ℕ → ℕ) (p : Placing) → HasPlaced plus old p → (mark ≡ true → HasSums plus old.shape p k core) → HasPlaced plus (with_core old k core mark) p
  placed_core plus p h here = record {
    shape_is = h.shape_is;
    placing = h.placing;
    counted = h.counted;
    tables = h.tables;
    sums = λ j at marked. summed j at (cases_eq j k) marked;
  }
    where
      summed : (j : ℕ) → IsClique old.shape.tree j → ((j ≡ k) ⊎ (j ≡ k → ⊥)) → is_summed (with_core old k core mark) j ≡ true → HasSums plus old.shape p j (core_at (with_core old k core mark) j)
      summed j at (inl f) marked =
          subst (λ n. is_summed (with_core old k core mark) n ≡ true → HasSums plus old.shape p n (core_at (with_core old k core mark) n)) (sym f)
          (λ there. subst (λ (u : TableOf). HasSums plus old.shape p k u) (sym core_put) (here (sym mark_put ∙ there))) marked
      summed j at (inr d) marked =
          let o = others_set old k clique.first core mark j at d in
          subst (λ (u : TableOf). HasSums plus old.shape p j u) (sym o.0) (h.sums j at (sym o.1 ∙ marked))

-- a flow with one message put anew
abbrev pub with_upward : FlowOf → ℕ → TableOf → ℕ → FlowOf
with_upward old place t computed =
    record { shape = old.shape; tables = old.tables; cores = old.cores; summed = old.summed; upward = slice_set old.upward place t; downward = old.downward; factors = old.factors; computed = computed }

abbrev pub with_downward : FlowOf → ℕ → TableOf → ℕ → FlowOf
with_downward old place t computed =
    record { shape = old.shape; tables = old.tables; cores = old.cores; summed = old.summed; upward = old.upward; downward = slice_set old.downward place t; factors = old.factors; computed = computed }

module _ (old : FlowOf) (products : List TableOf) (cells computed : ℕ) (kept : IsKept old products cells) where
  pub kept_upward : (place : ℕ) (was t : TableOf) → place < length old.upward → was ≡ slice_index_or old.upward place was → t.scope ≡ was.scope → IsKept (with_upward old place t computed) products cells
  kept_upward place was t l e s = record {
    linked = kept.linked;
    one_each = kept.one_each;
    one_less_up = ap (λ n. n + 1) (length-set old.upward place t) ∙ kept.one_less_up;
    one_less_down = kept.one_less_down;
    table_scopes = kept.table_scopes;
    cores_are = record { one_each = kept.cores_are.one_each; scopes = kept.cores_are.scopes };
    one_mark_each = kept.one_mark_each;
    core_shifts = kept.core_shifts;
    products_are = record { one_each = kept.products_are.one_each; scopes = kept.products_are.scopes };
    upward_scopes = λ k c later. same_scopes old.upward place (k - 2) t l (s ∙ ap (λ (u : TableOf). u.scope) (sym (table_read old.upward place was l e))) ∙ kept.upward_scopes k c later;
    downward_scopes = kept.downward_scopes;
    cells_are = kept.cells_are;
  }

  pub kept_downward : (place : ℕ) (was t : TableOf) → place < length old.downward → was ≡ slice_index_or old.downward place was → t.scope ≡ was.scope → IsKept (with_downward old place t computed) products cells
  kept_downward place was t l e s = record {
    linked = kept.linked;
    one_each = kept.one_each;
    one_less_up = kept.one_less_up;
    one_less_down = ap (λ n. n + 1) (length-set old.downward place t) ∙ kept.one_less_down;
    table_scopes = kept.table_scopes;
    cores_are = record { one_each = kept.cores_are.one_each; scopes = kept.cores_are.scopes };
    one_mark_each = kept.one_mark_each;
    core_shifts = kept.core_shifts;
    products_are = record { one_each = kept.products_are.one_each; scopes = kept.products_are.scopes };
    upward_scopes = kept.upward_scopes;
    downward_scopes = λ k c later. same_scopes old.downward place (k - 2) t l (s ∙ ap (λ (u : TableOf). u.scope) (sym (table_read old.downward place was l e))) ∙ kept.downward_scopes k c later;
    cells_are = kept.cells_are;
  }

-- what a flow lets a clique take and gather
pub can_take : (plus : ℕ → ℕ → ℕ) (flow : FlowOf) (p : Placing) (k : ℕ) (receiver : Option ℕ) → HasPlaced plus flow p → ((i : ℕ) → is_input flow.shape.tree k receiver i ≡ true → IsRight plus flow p i k)
    → (shape : ShapeOf) (upward downward : List TableOf) → shape ≡ flow.shape → upward ≡ flow.upward → downward ≡ flow.downward → CanTake plus shape upward downward k receiver p
can_take plus flow p k receiver has right shape upward downward s u d =
    subst (λ (x : ShapeOf). CanTake plus x upward downward k receiver p) (sym s)
    (subst (λ (x : List TableOf). CanTake plus flow.shape x downward k receiver p) (sym u)
    (subst (λ (x : List TableOf). CanTake plus flow.shape flow.upward x k receiver p) (sym d)
    (record { shape_is = has.shape_is; placing = has.placing; right = λ i h. (right i h).cells })))

-- a message from a to b, upward or downward
module _ (plus : ℕ → ℕ → ℕ) (old : FlowOf) (p : Placing) (has : HasPlaced plus old p) (a b : ℕ) (linked_too : is_linked old.shape.tree a b ≡ true) where
  -- the end that is linked to the other
  child_up : b < a → AreLinked (link_of old.shape.tree) (length old.shape.tree.cliques) a b → IsChild (link_of old.shape.tree) (length old.shape.tree.cliques) a b
  child_up l (inl c) = c
  child_up l (inr c) = let k = has.shape_is.tree_is.linked.earlier b c.later c.within in absurd (omega (arith, l, k.1, c.link_is))

  child_down : a ≤ b → AreLinked (link_of old.shape.tree) (length old.shape.tree.cliques) a b → IsChild (link_of old.shape.tree) (length old.shape.tree.cliques) b a
  child_down l (inl c) = let k = has.shape_is.tree_is.linked.earlier a c.later c.within in absurd (omega (arith, l, k.1, c.link_is))
  child_down l (inr c) = c

  pub sender : IsClique old.shape.tree a
  sender = (are_ends old.shape p has.shape_is has.placing a b linked_too).0

  pub receiver_is : IsClique old.shape.tree b
  receiver_is = (are_ends old.shape p has.shape_is has.placing a b linked_too).1

  pub upward_child : b < a → IsChild (link_of old.shape.tree) (length old.shape.tree.cliques) a b
  upward_child l = child_up l (are_linked (link_of old.shape.tree) (length old.shape.tree.cliques) a b linked_too)

  pub downward_child : a ≤ b → IsChild (link_of old.shape.tree) (length old.shape.tree.cliques) b a
  downward_child l = child_down l (are_linked (link_of old.shape.tree) (length old.shape.tree.cliques) a b linked_too)

-- where the message stands
pub separator_up : (flow : FlowOf) (products : List TableOf) (cells : ℕ) → IsKept flow products cells → (a b : ℕ) → IsChild (link_of flow.shape.tree) (length flow.shape.tree.cliques) a b → b < a
    → (t : TableOf) → t ≡ slice_index_or flow.upward (a - 2) t → t.scope ≡ separator_between flow.shape a b
separator_up flow products cells kept a b c l t e =
    let m : max a b ≡ a = omega arith in
    let within : a - 2 < length flow.upward = omega (arith, kept.one_less_up, c.later, c.within) in
    ap (λ (s : TableOf). s.scope) (sym (table_read flow.upward (a - 2) t within e)) ∙ kept.upward_scopes a (record { first = omega (arith, c.later); last = c.within }) c.later ∙ ap (separator_scope flow.shape) (sym m)

pub separator_down : (flow : FlowOf) (products : List TableOf) (cells : ℕ) → IsKept flow products cells → (a b : ℕ) → IsChild (link_of flow.shape.tree) (length flow.shape.tree.cliques) b a → a ≤ b
    → (t : TableOf) → t ≡ slice_index_or flow.downward (b - 2) t → t.scope ≡ separator_between flow.shape a b
separator_down flow products cells kept a b c l t e =
    let m : max a b ≡ b = omega arith in
    let within : b - 2 < length flow.downward = omega (arith, kept.one_less_down, c.later, c.within) in
    ap (λ (s : TableOf). s.scope) (sym (table_read flow.downward (b - 2) t within e)) ∙ kept.downward_scopes b (record { first = omega (arith, c.later); last = c.within }) c.later ∙ ap (separator_scope flow.shape) (sym m)

pub separator_there : (plus : ℕ → ℕ → ℕ) (flow : FlowOf) (products : List TableOf) (cells : ℕ) → IsKept flow products cells → (p : Placing) → HasPlaced plus flow p
    → (a b : ℕ) → is_linked flow.shape.tree a b ≡ true → (message_at flow a b).scope ≡ separator_between flow.shape a b
separator_there plus flow products cells kept p has a b l = at (cases_lt b a)
  where
    at : ((b < a) ⊎ (a ≤ b)) → (message_at flow a b).scope ≡ separator_between flow.shape a b
    at (inl m) =
        ap (λ (x : Bool). (cond x (slice_index_or flow.upward (a - 2) no_table) (slice_index_or flow.downward (b - 2) no_table)).scope) (lt-ltb b a m)
        ∙ separator_up flow products cells kept a b (upward_child plus flow p has a b l m) m (slice_index_or flow.upward (a - 2) no_table) (read_there flow.upward (a - 2))
    at (inr m) =
        ap (λ (x : Bool). (cond x (slice_index_or flow.upward (a - 2) no_table) (slice_index_or flow.downward (b - 2) no_table)).scope) (le-ltb b a m)
        ∙ separator_down flow products cells kept a b (downward_child plus flow p has a b l m) m (slice_index_or flow.downward (b - 2) no_table) (read_there flow.downward (b - 2))

-- the new message is read there, and each other one is as it was
pub message_up : (old : FlowOf) (a b computed : ℕ) (t : TableOf) → b < a → a - 2 < length old.upward → message_at (with_upward old (a - 2) t computed) a b ≡ t
message_up old a b computed t l w =
    ap (λ (c : Bool). cond c (slice_index_or (slice_set old.upward (a - 2) t) (a - 2) no_table) (slice_index_or old.downward (b - 2) no_table)) (lt-ltb b a l) ∙ get_or-set_same old.upward (a - 2) t no_table w

pub message_down : (old : FlowOf) (a b computed : ℕ) (t : TableOf) → a ≤ b → b - 2 < length old.downward → message_at (with_downward old (b - 2) t computed) a b ≡ t
message_down old a b computed t l w =
    ap (λ (c : Bool). cond c (slice_index_or old.upward (a - 2) no_table) (slice_index_or (slice_set old.downward (b - 2) t) (b - 2) no_table)) (le-ltb b a l) ∙ get_or-set_same old.downward (b - 2) t no_table w

module _ (plus : ℕ → ℕ → ℕ) (old : FlowOf) (p : Placing) (has : HasPlaced plus old p) (a b : ℕ) (linked_too : is_linked old.shape.tree a b ≡ true) (computed : ℕ) (t : TableOf) where
  same_child : (c d e f : ℕ) → IsChild (link_of old.shape.tree) (length old.shape.tree.cliques) c d → IsChild (link_of old.shape.tree) (length old.shape.tree.cliques) e f → c - 2 ≡ e - 2 → (c ≡ e) × (d ≡ f)
  same_child c d e f x y h =
      let same : c ≡ e = omega (arith, x.later, y.later, h) in
      (same, sym x.link_is ∙ ap (link_of old.shape.tree) same ∙ y.link_is)

  pub others_up : b < a → (c d : ℕ) → is_linked old.shape.tree c d ≡ true → ((c ≡ a) × (d ≡ b) → ⊥) → message_at (with_upward old (a - 2) t computed) c d ≡ message_at old c d
  others_up l c d h apart = at (cases_lt d c)
    where
      at : ((d < c) ⊎ (c ≤ d)) → cond (ltb d c) (slice_index_or (slice_set old.upward (a - 2) t) (c - 2) no_table) (slice_index_or old.downward (d - 2) no_table) ≡ cond (ltb d c) (slice_index_or old.upward (c - 2) no_table) (slice_index_or old.downward (d - 2) no_table)
      at (inl m) =
          ap (λ (x : TableOf). cond (ltb d c) x (slice_index_or old.downward (d - 2) no_table))
          (get_or-set_other old.upward (a - 2) (c - 2) t no_table (λ e. apart (same_child c d a b (upward_child plus old p has c d h m) (upward_child plus old p has a b linked_too l) e)))
      at (inr m) =
          ap (λ (x : Bool). cond x (slice_index_or (slice_set old.upward (a - 2) t) (c - 2) no_table) (slice_index_or old.downward (d - 2) no_table)) (le-ltb d c m) ∙ sym (ap (λ (x : Bool). cond x (slice_index_or old.upward (c - 2) no_table) (slice_index_or old.downward (d - 2) no_table)) (le-ltb d c m))

  pub others_down : a ≤ b → (c d : ℕ) → is_linked old.shape.tree c d ≡ true → ((c ≡ a) × (d ≡ b) → ⊥) → message_at (with_downward old (b - 2) t computed) c d ≡ message_at old c d
  others_down l c d h apart = at (cases_lt d c)
    where
      at : ((d < c) ⊎ (c ≤ d)) → cond (ltb d c) (slice_index_or old.upward (c - 2) no_table) (slice_index_or (slice_set old.downward (b - 2) t) (d - 2) no_table) ≡ cond (ltb d c) (slice_index_or old.upward (c - 2) no_table) (slice_index_or old.downward (d - 2) no_table)
      at (inl m) =
          ap (λ (x : Bool). cond x (slice_index_or old.upward (c - 2) no_table) (slice_index_or (slice_set old.downward (b - 2) t) (d - 2) no_table)) (lt-ltb d c m) ∙ sym (ap (λ (x : Bool). cond x (slice_index_or old.upward (c - 2) no_table) (slice_index_or old.downward (d - 2) no_table)) (lt-ltb d c m))
      at (inr m) =
          ap (λ (x : TableOf). cond (ltb d c) (slice_index_or old.upward (c - 2) no_table) x)
          (get_or-set_other old.downward (b - 2) (d - 2) t no_table (λ e.
          let q = same_child d c b a (downward_child plus old p has c d h m) (downward_child plus old p has a b linked_too l) e in apart (q.1, q.0)))

-- what clique a has for b, made of the parts of a kept flow
module _ (plus : ℕ → ℕ → ℕ) (flow : FlowOf) (a b : ℕ) (shape : ShapeOf) (upward downward : List TableOf) (s : shape ≡ flow.shape) (u : upward ≡ flow.upward) (d : downward ≡ flow.downward)
    (core product : TableOf) (c : core_at flow a ≡ core) (marked : is_summed flow a ≡ true) (o : 1 < length (neighbours shape.tree a) → HasInto plus shape upward downward a (Some b) product)
    (p : Placing) (has : HasPlaced plus flow p) (linked_too : is_linked flow.shape.tree a b ≡ true) (right : AreRightBut plus flow p a b) where
  others : 1 < length (neighbours flow.shape.tree a) → HasGathered plus flow.shape a (Some b) (neighbours flow.shape.tree a) product p
  others more =
      subst (λ (x : ShapeOf). HasGathered plus x a (Some b) (neighbours x.tree a) product p) s
      ((o (subst (λ (x : ShapeOf). 1 < length (neighbours x.tree a)) (sym s) more)).into p (can_take plus flow p a (Some b) has right shape upward downward s u d))

  pub outgoing : (there : ShapeOf) → there ≡ flow.shape → (core_read product_read : TableOf) → core_read ≡ core → product_read ≡ product → HasOutgoing plus there a b core_read product_read p
  outgoing there e core_read product_read x y =
      subst (λ (r : TableOf). HasOutgoing plus there a b r product_read p) (sym x)
      (subst (λ (r : TableOf). HasOutgoing plus there a b core r p) (sym y)
      (subst (λ (r : ShapeOf). HasOutgoing plus r a b core product p) (sym e) (record {
        shape_is = has.shape_is;
        placing = has.placing;
        split = core_split flow.shape a (sender plus flow p has a b linked_too) p.network has.shape_is;
        sums = subst (λ (r : TableOf). HasSums plus flow.shape p a r) c (has.sums a (sender plus flow p has a b linked_too) marked);
        others = others;
      })))

-- what it sends, put where the message stands
module _ (plus : ℕ → ℕ → ℕ) (old : FlowOf) (products : List TableOf) (cells : ℕ) (kept : IsKept old products cells) (a b : ℕ) (p : Placing) (has : HasPlaced plus old p) (linked_too : is_linked old.shape.tree a b ≡ true)
    (shape : ShapeOf) (s : shape ≡ old.shape) (after : TableOf) (computed : ℕ) (right : IsRightIn plus shape p a b after) where
  sent_right : (new : FlowOf) → new.shape ≡ old.shape → message_at new a b ≡ after → IsRight plus new p a b
  sent_right new same at = record {
    cells = subst (λ (x : ShapeOf). IsRightIn plus x p a b (message_at new a b)) (s ∙ sym same) (subst (λ (x : TableOf). IsRightIn plus shape p a b x) (sym at) right);
  }

  pub right_up : b < a → IsRight plus (with_upward old (a - 2) after computed) p a b
  right_up l =
      let c = upward_child plus old p has a b linked_too l in
      sent_right (with_upward old (a - 2) after computed) refl (message_up old a b computed after l (omega (arith, kept.one_less_up, c.later, c.within)))

  pub right_down : a ≤ b → IsRight plus (with_downward old (b - 2) after computed) p a b
  right_down l =
      let c = downward_child plus old p has a b linked_too l in
      sent_right (with_downward old (b - 2) after computed) refl (message_down old a b computed after l (omega (arith, kept.one_less_down, c.later, c.within)))
