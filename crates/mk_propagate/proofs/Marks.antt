-- What is kept over the cores is as its marks say: a sum is that of its clique's table, and a product has the messages into its clique that the mark tells of, as they are.
use Rattle.std.proofs.Common.{◌≡◌, ℕ, ◌-◌, ◌<◌, ◌≤◌, Bool, true, false, cond, not, ◌⊎◌, inl, inr, eqb, List, slice_index_or, slice_set, length, replicate, Option, Some, None, refl, sym, ap, subst, ◌∙◌, arith, eq-eqb, ne_eqb}
use Rattle.std.proofs.lemmas.Bool.{both_ways, cases_eq, and_parts, eqb-true}
use Rattle.std.proofs.lemmas.List.{get_or_default, get_or-set_same, get_or-set_other, get_or-replicate, length-set, length-replicate}
use Rattle.mk_sums.specs.Trees.{linked_to}
use Rattle.mk_table.specs.Tables.{TableOf}
use Rattle.mk_tree.specs.Given.{GivenTree, link_of}
use Rattle.mk_propagate.specs.declared.gathered.Gathered.{Gathered}
use Rattle.mk_propagate.specs.declared.gathered.Gathered.TheVariants.{Nothing, Everything, AllBut}
use Rattle.mk_plan.specs.Shapes.{ShapeOf, IsClique, are_linked as is_linked}
use Rattle.mk_propagate.specs.Placings.{Placing}
use Rattle.mk_propagate.specs.Flows.{FlowOf, HasPlaced, HasSums, KeepsTables, AreRightBut, is_summed, no_table}
use Rattle.mk_propagate.specs.inner.Gathered.{is_taken, is_input, message_in, IsPlacedIn, IsRightIn, HasInto, HasMarked, leaves_out, still_marked}
use Rattle.mk_propagate.specs.inner.Kept.{IsGathered, AreMarked, IsKept, IsFlow}
use Rattle.mk_propagate.proofs.Placed.{table_read}
use Rattle.mk_propagate.proofs.Sending.{core_is, cores_still, table_is, mark_is as core_mark_is, kept_over, with_core, kept_core, placed_core, sender, receiver_is, with_upward, with_downward, others_up, others_down, kept_upward, kept_downward, upward_child, downward_child}

-- ---- one mark is changed, with its table or without

module _ (M : Type 0) (tree : GivenTree) (none : M) (P : ℕ → M → TableOf → Type 0) (tables : List TableOf) (marks : List M) (h : AreMarked M tree none P tables marks) (k : ℕ) (clique : IsClique tree k) where
  pub mark_within : k - 1 < length marks
  mark_within = omega (arith, h.one_mark_each, clique.first, clique.last)

  pub mark_is : (mark : M) → mark ≡ slice_index_or marks (k - 1) mark → slice_index_or marks (k - 1) none ≡ mark
  mark_is mark f = get_or_default marks (k - 1) none mark mark_within ∙ sym f

  -- P holds of a clique's mark and table
  pub marked_at : length tables ≡ length tree.cliques → (t : TableOf) → t ≡ slice_index_or tables (k - 1) t → (mark : M) → mark ≡ slice_index_or marks (k - 1) mark → P k mark t
  marked_at long t e mark f =
      subst (λ m. P k m t) (mark_is mark f)
      (subst (λ (u : TableOf). P k (slice_index_or marks (k - 1) none) u) (table_read tables (k - 1) t (omega (arith, long, clique.first, clique.last)) e) (h.marked_is k clique))

  -- both are put anew, after which Q holds of them, and of the others' as P did
  pub both_changed : (Q : ℕ → M → TableOf → Type 0) → ((j : ℕ) → IsClique tree j → (j ≡ k → ⊥) → (m : M) (t : TableOf) → P j m t → Q j m t) → length tables ≡ length tree.cliques → (t : TableOf) (mark : M) → Q k mark t
      → AreMarked M tree none Q (slice_set tables (k - 1) t) (slice_set marks (k - 1) mark)
  both_changed Q still long t mark is = record {
    one_mark_each = length-set marks (k - 1) mark ∙ h.one_mark_each;
    marked_is = λ j at. from j at (cases_eq j k);
  }
    where
      from : (j : ℕ) → IsClique tree j → ((j ≡ k) ⊎ (j ≡ k → ⊥)) → Q j (slice_index_or (slice_set marks (k - 1) mark) (j - 1) none) (slice_index_or (slice_set tables (k - 1) t) (j - 1) no_table)
      from j at (inl e) =
          subst (λ n. Q n (slice_index_or (slice_set marks (k - 1) mark) (n - 1) none) (slice_index_or (slice_set tables (k - 1) t) (n - 1) no_table)) (sym e)
          (subst (λ m. Q k m (slice_index_or (slice_set tables (k - 1) t) (k - 1) no_table)) (sym (get_or-set_same marks (k - 1) mark none mark_within))
          (subst (Q k mark) (sym (get_or-set_same tables (k - 1) t no_table (omega (arith, long, clique.first, clique.last)))) is))
      from j at (inr d) =
          let apart : j - 1 ≡ k - 1 → ⊥ = λ e. d (omega (arith, e, at.first, clique.first)) in
          subst (λ m. Q j m (slice_index_or (slice_set tables (k - 1) t) (j - 1) no_table)) (sym (get_or-set_other marks (k - 1) (j - 1) mark none apart))
          (subst (Q j (slice_index_or marks (j - 1) none)) (sym (get_or-set_other tables (k - 1) (j - 1) t no_table apart))
          (still j at d (slice_index_or marks (j - 1) none) (slice_index_or tables (j - 1) no_table) (h.marked_is j at)))

  -- both are put anew
  pub put_anew : length tables ≡ length tree.cliques → (t : TableOf) (mark : M) → P k mark t → AreMarked M tree none P (slice_set tables (k - 1) t) (slice_set marks (k - 1) mark)
  put_anew = both_changed P (λ j at d m t has. has)

  -- its mark is changed, after which Q holds of it, and of the others' as P did
  pub one_changed : (Q : ℕ → M → TableOf → Type 0) → ((j : ℕ) → IsClique tree j → (j ≡ k → ⊥) → (m : M) (t : TableOf) → P j m t → Q j m t)
      → (mark : M) → ((t : TableOf) → P k (slice_index_or marks (k - 1) none) t → Q k mark t) → AreMarked M tree none Q tables (slice_set marks (k - 1) mark)
  one_changed Q still mark here = record {
    one_mark_each = length-set marks (k - 1) mark ∙ h.one_mark_each;
    marked_is = λ j at. from j at (cases_eq j k);
  }
    where
      from : (j : ℕ) → IsClique tree j → ((j ≡ k) ⊎ (j ≡ k → ⊥)) → Q j (slice_index_or (slice_set marks (k - 1) mark) (j - 1) none) (slice_index_or tables (j - 1) no_table)
      from j at (inl e) =
          subst (λ n. Q n (slice_index_or (slice_set marks (k - 1) mark) (n - 1) none) (slice_index_or tables (n - 1) no_table)) (sym e)
          (subst (λ m. Q k m (slice_index_or tables (k - 1) no_table)) (sym (get_or-set_same marks (k - 1) mark none mark_within)) (here (slice_index_or tables (k - 1) no_table) (h.marked_is k clique)))
      from j at (inr d) =
          subst (λ m. Q j m (slice_index_or tables (j - 1) no_table)) (sym (get_or-set_other marks (k - 1) (j - 1) mark none (λ e. d (omega (arith, e, at.first, clique.first)))))
          (still j at d (slice_index_or marks (j - 1) none) (slice_index_or tables (j - 1) no_table) (h.marked_is j at))

-- the same mark everywhere, of which P always holds
pub all_alike : (M : Type 0) (tree : GivenTree) (none : M) (P : ℕ → M → TableOf → Type 0) (tables : List TableOf) (marks : List M) (count : ℕ) → marks ≡ replicate count none → count ≡ length tree.cliques
    → ((k : ℕ) (t : TableOf) → P k none t) → AreMarked M tree none P tables marks
all_alike M tree none P tables marks count same long always = record {
  one_mark_each = ap (λ (all : List M). length all) same ∙ length-replicate count none ∙ long;
  marked_is = λ k at.
      subst (λ m. P k m (slice_index_or tables (k - 1) no_table))
      (sym (ap (λ (all : List M). slice_index_or all (k - 1) none) same ∙ get_or-replicate count (k - 1) none none (omega (arith, long, at.first, at.last)))) (always k (slice_index_or tables (k - 1) no_table));
}

-- no core was summed
pub none_summed : (tree : GivenTree) (marks : List Bool) (count : ℕ) → marks ≡ replicate count false → count ≡ length tree.cliques → (k : ℕ) → IsClique tree k → slice_index_or marks (k - 1) false ≡ false
none_summed tree marks count same long k at = ap (λ (all : List Bool). slice_index_or all (k - 1) false) same ∙ get_or-replicate count (k - 1) false false (omega (arith, long, at.first, at.last))

pub one_mark_each : (tree : GivenTree) (marks : List Bool) (count : ℕ) → marks ≡ replicate count false → count ≡ length tree.cliques → length marks ≡ length tree.cliques
one_mark_each tree marks count same long = ap (λ (all : List Bool). length all) same ∙ length-replicate count false ∙ long

-- ---- what marks say stays true

-- all messages into a clique are its inputs
pub all_linked : (tree : GivenTree) (k : ℕ) (receiver : Option ℕ) (i : ℕ) → is_input tree k receiver i ≡ true → linked_to (link_of tree) (length tree.cliques) k i ≡ true
all_linked tree k receiver i h = (and_parts (linked_to (link_of tree) (length tree.cliques) k i) (is_taken receiver i) h).0

module _ (plus : ℕ → ℕ → ℕ) (shape : ShapeOf) (k : ℕ) (up down up_after down_after : List TableOf) (t : TableOf) where
  -- with the same messages
  same_into : (receiver : Option ℕ) → ((i : ℕ) → is_input shape.tree k receiver i ≡ true → message_in up_after down_after i k ≡ message_in up down i k) → HasInto plus shape up down k receiver t
      → HasInto plus shape up_after down_after k receiver t
  same_into receiver messages h = record {
    into = λ p can. h.into p (record {
      shape_is = can.shape_is;
      placing = can.placing;
      right = λ i input. subst (λ (u : TableOf). IsRightIn plus shape p i k u) (messages i input) (can.right i input);
    });
  }

  same_marked : (mark : Gathered) → ((i : ℕ) → linked_to (link_of shape.tree) (length shape.tree.cliques) k i ≡ true → message_in up_after down_after i k ≡ message_in up down i k) → HasMarked plus shape up down k mark t
      → HasMarked plus shape up_after down_after k mark t
  same_marked Nothing messages h = h
  same_marked Everything messages h = same_into None (λ i input. messages i (all_linked shape.tree k None i input)) h
  same_marked (AllBut j) messages h = (h.0, same_into (Some j) (λ i input. messages i (all_linked shape.tree k (Some j) i input)) h.1)

  -- it has those of all but one
  pub marked_but : (j : ℕ) (mark : Gathered) → leaves_out j mark ≡ true → HasMarked plus shape up down k mark t → HasInto plus shape up down k (Some j) t
  marked_but j Nothing e h = absurd (both_ways false refl e)
  marked_but j Everything e h = absurd (both_ways false refl e)
  marked_but j (AllBut i) e h = subst (λ (n : ℕ). HasInto plus shape up down k (Some n) t) (eqb-true i j e) h.1

  -- with the same messages but a's
  without_marked : (a : ℕ) (mark : Gathered) → ((i : ℕ) → linked_to (link_of shape.tree) (length shape.tree.cliques) k i ≡ true → (i ≡ a → ⊥) → message_in up_after down_after i k ≡ message_in up down i k)
      → HasMarked plus shape up down k mark t → HasMarked plus shape up_after down_after k (still_marked a mark) t
  without_marked a Nothing messages h = tt
  without_marked a Everything messages h = tt
  without_marked a (AllBut j) messages h = at (cases_eq j a)
    where
      -- a message that is taken is not a's
      other : (i : ℕ) → j ≡ a → is_input shape.tree k (Some j) i ≡ true → i ≡ a → ⊥
      other i e input q = both_ways (is_taken (Some j) i) (none (eqb i j) (eq-eqb i j (q ∙ sym e))) (and_parts (linked_to (link_of shape.tree) (length shape.tree.cliques) k i) (is_taken (Some j) i) input).1
        where
          none : (c : Bool) → c ≡ true → not c ≡ false
          none true e = refl
          none false e = absurd (both_ways false refl e)

      at : ((j ≡ a) ⊎ (j ≡ a → ⊥)) → HasMarked plus shape up_after down_after k (cond (eqb j a) (AllBut j) Nothing) t
      at (inl e) =
          subst (λ (c : Bool). HasMarked plus shape up_after down_after k (cond c (AllBut j) Nothing) t) (sym (eq-eqb j a e))
          (h.0, same_into (Some j) (λ i input. messages i (all_linked shape.tree k (Some j) i input) (other i e input)) h.1)
      at (inr d) = subst (λ (c : Bool). HasMarked plus shape up_after down_after k (cond c (AllBut j) Nothing) t) (sym (ne_eqb j a d)) tt

-- the parts of a flow as a call is given them
pub marked_moved : (plus : ℕ → ℕ → ℕ) (k : ℕ) (mark : Gathered) (t : TableOf) (s s_after : ShapeOf) (u u_after d d_after : List TableOf) → s ≡ s_after → u ≡ u_after → d ≡ d_after → HasMarked plus s u d k mark t
    → HasMarked plus s_after u_after d_after k mark t
marked_moved plus k mark t s s_after u u_after d d_after es eu ed h =
    subst (λ (y : List TableOf). HasMarked plus s_after u_after y k mark t) ed (subst (λ (y : List TableOf). HasMarked plus s_after y d k mark t) eu (subst (λ (y : ShapeOf). HasMarked plus y u d k mark t) es h))

module _ (plus : ℕ → ℕ → ℕ) (flow : FlowOf) (products : List TableOf) (gathered : List Gathered) (cells : ℕ) (is_flow : IsFlow plus flow products gathered cells) (k : ℕ) (clique : IsClique flow.shape.tree k)
    (shape : ShapeOf) (s : shape ≡ flow.shape) where
  module _ (upward downward : List TableOf) (u : upward ≡ flow.upward) (d : downward ≡ flow.downward) (was : TableOf) (e : was ≡ slice_index_or products (k - 1) was) where
    -- a product has the messages that its mark tells of
    pub gathered_there : (mark : Gathered) → mark ≡ slice_index_or gathered (k - 1) mark → HasMarked plus shape upward downward k mark was
    gathered_there mark f =
        marked_moved plus k mark was flow.shape shape flow.upward upward flow.downward downward (sym s) (sym u) (sym d)
        (marked_at Gathered flow.shape.tree Nothing (IsGathered plus flow) products gathered is_flow.gathered_are k clique is_flow.kept.products_are.one_each was e mark f)

    -- it has them all, and is marked so
    pub flow_after : (after : TableOf) (mark : Gathered) → after.scope ≡ was.scope → mark ≡ Everything → HasInto plus shape upward downward k None after
        → IsFlow plus flow (slice_set products (k - 1) after) (slice_set gathered (k - 1) mark) cells
    flow_after after mark same m h = record {
      kept = kept_over flow products cells is_flow.kept k clique (slice_set products (k - 1) after) (cores_still flow products is_flow.kept.products_are k clique was after e same);
      gathered_are =
          put_anew Gathered flow.shape.tree Nothing (IsGathered plus flow) products gathered is_flow.gathered_are k clique is_flow.kept.products_are.one_each after mark
          (subst (λ (g : Gathered). IsGathered plus flow k g after) (sym m) (marked_moved plus k Everything after shape flow.shape upward flow.upward downward flow.downward s u d h));
    }

-- ---- a core is summed

module _ (plus : ℕ → ℕ → ℕ) (old : FlowOf) (products : List TableOf) (gathered : List Gathered) (cells : ℕ) (is_flow : IsFlow plus old products gathered cells) (k : ℕ) (clique : IsClique old.shape.tree k) (shape : ShapeOf) (s : shape ≡ old.shape)
    (table : TableOf) (t : table ≡ slice_index_or old.tables (k - 1) table) (was : TableOf) (e : was ≡ slice_index_or old.cores (k - 1) was) (mark_was : Bool) (m : mark_was ≡ slice_index_or old.summed (k - 1) mark_was) where
  pub table_placed : (p : Placing) → HasPlaced plus old p → IsPlacedIn shape p k table
  table_placed p h =
      subst (λ (x : ShapeOf). IsPlacedIn x p k table) (sym s)
      (subst (λ (u : TableOf). IsPlacedIn old.shape p k u) (table_is old products cells is_flow.kept k clique table t) (record { shape_is = h.shape_is; placing = h.placing; cells = h.tables k clique }))

  marked_was : mark_was ≡ true → is_summed old k ≡ true
  marked_was marked = core_mark_is old products cells is_flow.kept k clique mark_was m ∙ marked

  pub sums_before : (p : Placing) → HasPlaced plus old p → mark_was ≡ true → HasSums plus shape p k was
  sums_before p h marked =
      subst (λ (x : ShapeOf). HasSums plus x p k was) (sym s)
      (subst (λ (u : TableOf). HasSums plus old.shape p k u) (core_is old old.cores is_flow.kept.cores_are k clique was e) (h.sums k clique (marked_was marked)))

  pub shift_before : mark_was ≡ true → was.shift ≡ table.shift
  shift_before marked =
      ap (λ (u : TableOf). u.shift) (sym (core_is old old.cores is_flow.kept.cores_are k clique was e)) ∙ is_flow.kept.core_shifts k clique (marked_was marked)
      ∙ ap (λ (u : TableOf). u.shift) (table_is old products cells is_flow.kept k clique table t)

  module _ (core : TableOf) (same : core.scope ≡ was.scope) (mark : Bool) (shift : core.shift ≡ table.shift)
      (sums : (p : Placing) → IsPlacedIn shape p k table → (mark_was ≡ true → HasSums plus shape p k was) → HasSums plus shape p k core) where
    pub flow_mid : IsFlow plus (with_core old k core mark) products gathered cells
    flow_mid = record {
      kept = kept_core old products cells is_flow.kept k clique was core e same mark (λ _. shift ∙ ap (λ (u : TableOf). u.shift) (sym (table_is old products cells is_flow.kept k clique table t)));
      gathered_are = record { one_mark_each = is_flow.gathered_are.one_mark_each; marked_is = is_flow.gathered_are.marked_is };
    }

    pub placed_mid : (p : Placing) → HasPlaced plus old p → HasPlaced plus (with_core old k core mark) p
    placed_mid p h =
        placed_core old products cells is_flow.kept k clique was core e same mark plus p h
        (λ _. subst (λ (x : ShapeOf). HasSums plus x p k core) s (sums p (table_placed p h) (sums_before p h)))

    pub rights_mid : (p : Placing) (a b : ℕ) → AreRightBut plus old p a b → AreRightBut plus (with_core old k core mark) p a b
    rights_mid p a b right i l = record { cells = (right i l).cells }

    -- with whatever messages
    abbrev pub mid_with : List TableOf → List TableOf → ℕ → FlowOf
    mid_with upward downward computed = record {
      shape = old.shape;
      tables = old.tables;
      cores = slice_set old.cores (k - 1) core;
      summed = slice_set old.summed (k - 1) mark;
      upward = upward;
      downward = downward;
      factors = old.factors;
      computed = computed;
    }

    pub mid_keeps : (now : FlowOf) → old ≡ now → (upward downward : List TableOf) (computed : ℕ) → KeepsTables plus now (mid_with upward downward computed)
    mid_keeps now view upward downward computed =
        subst (λ (f : FlowOf). KeepsTables plus f (mid_with upward downward computed)) view (record {
          same_shape = refl;
          same_tables = refl;
          same_factors = refl;
          placed = λ p h. let n = placed_mid p h in record { shape_is = n.shape_is; placing = n.placing; counted = n.counted; tables = n.tables; sums = n.sums };
        })

-- ---- a message is sent from a to b

module _ (plus : ℕ → ℕ → ℕ) (old : FlowOf) (products : List TableOf) (gathered : List Gathered) (cells computed : ℕ) (is_flow : IsFlow plus old products gathered cells) (p : Placing) (has : HasPlaced plus old p) (a b : ℕ)
    (linked_too : is_linked old.shape.tree a b ≡ true) (shape : ShapeOf) (s : shape ≡ old.shape)
    (upward downward : List TableOf) (u : upward ≡ old.upward) (d : downward ≡ old.downward)
    (was product : TableOf) (f : was ≡ slice_index_or products (a - 1) was) (same_too : product.scope ≡ was.scope) (sender_mark : Gathered) (marked : HasMarked plus shape upward downward a sender_mark product)
    (receiver_was receiver_mark : Gathered) (g : receiver_was ≡ slice_index_or (slice_set gathered (a - 1) sender_mark) (b - 1) receiver_was) (left : receiver_mark ≡ still_marked a receiver_was)
    (before after : TableOf) (over : after.scope ≡ before.scope) where
  clique : IsClique old.shape.tree a
  clique = sender plus old p has a b linked_too

  receiver : IsClique old.shape.tree b
  receiver = receiver_is plus old p has a b linked_too

  kept_mid : IsKept old (slice_set products (a - 1) product) cells
  kept_mid = kept_over old products cells is_flow.kept a clique (slice_set products (a - 1) product) (cores_still old products is_flow.kept.products_are a clique was product f same_too)

  gathered_mid : AreMarked Gathered old.shape.tree Nothing (IsGathered plus old) (slice_set products (a - 1) product) (slice_set gathered (a - 1) sender_mark)
  gathered_mid =
      put_anew Gathered old.shape.tree Nothing (IsGathered plus old) products gathered is_flow.gathered_are a clique is_flow.kept.products_are.one_each product sender_mark
      (marked_moved plus a sender_mark product shape old.shape upward old.upward downward old.downward s u d marked)

  -- with the messages of both ways after, of which only that from a to b is another
  gathered_new : (up down : List TableOf) → ((i k : ℕ) → is_linked old.shape.tree i k ≡ true → ((i ≡ a) × (k ≡ b) → ⊥) → message_in up down i k ≡ message_in old.upward old.downward i k)
      → AreMarked Gathered old.shape.tree Nothing (λ k m t. HasMarked plus old.shape up down k m t) (slice_set products (a - 1) product) (slice_set (slice_set gathered (a - 1) sender_mark) (b - 1) receiver_mark)
  gathered_new up down others =
      one_changed Gathered old.shape.tree Nothing (IsGathered plus old) (slice_set products (a - 1) product) (slice_set gathered (a - 1) sender_mark) gathered_mid b receiver (λ k m t. HasMarked plus old.shape up down k m t)
      (λ k at apart m t. same_marked plus old.shape k old.upward old.downward up down t m (λ i input. others i k input (λ q. apart q.1))) receiver_mark
      (λ t h.
      subst (λ (m : Gathered). HasMarked plus old.shape up down b m t) (sym left)
      (without_marked plus old.shape b old.upward old.downward up down t a receiver_was (λ i input other. others i b input (λ q. other q.0))
      (subst (λ (m : Gathered). HasMarked plus old.shape old.upward old.downward b m t) (mark_is Gathered old.shape.tree Nothing (IsGathered plus old) (slice_set products (a - 1) product) (slice_set gathered (a - 1) sender_mark) gathered_mid b receiver receiver_was g) h)))

  pub flow_up : b < a → before ≡ slice_index_or old.upward (a - 2) before
      → IsFlow plus (with_upward old (a - 2) after computed) (slice_set products (a - 1) product) (slice_set (slice_set gathered (a - 1) sender_mark) (b - 1) receiver_mark) cells
  flow_up l q = record {
    kept = let c = upward_child plus old p has a b linked_too l in
        kept_upward old (slice_set products (a - 1) product) cells computed kept_mid (a - 2) before after (omega (arith, is_flow.kept.one_less_up, c.later, c.within)) q over;
    gathered_are =
        let n = gathered_new (slice_set old.upward (a - 2) after) old.downward (others_up plus old p has a b linked_too computed after l) in
        record { one_mark_each = n.one_mark_each; marked_is = n.marked_is };
  }

  pub flow_down : a ≤ b → before ≡ slice_index_or old.downward (b - 2) before
      → IsFlow plus (with_downward old (b - 2) after computed) (slice_set products (a - 1) product) (slice_set (slice_set gathered (a - 1) sender_mark) (b - 1) receiver_mark) cells
  flow_down l q = record {
    kept = let c = downward_child plus old p has a b linked_too l in
        kept_downward old (slice_set products (a - 1) product) cells computed kept_mid (b - 2) before after (omega (arith, is_flow.kept.one_less_down, c.later, c.within)) q over;
    gathered_are =
        let n = gathered_new old.upward (slice_set old.downward (b - 2) after) (others_down plus old p has a b linked_too computed after l) in
        record { one_mark_each = n.one_mark_each; marked_is = n.marked_is };
  }
