-- What a clique gathers, message by message, and what it sends.
use Rattle.std.proofs.Common.{◌≡◌, ℕ, ◌+◌, ◌-◌, ◌*◌, ◌<◌, ◌≤◌, ◌==◌, Bool, true, false, cond, not, ◌&&◌, ◌||◌, ◌⊎◌, inl, inr, List, [], ◌∷◌, take, get_or, slice_index, length, max, Option, Some, None, eqb, sum_by, refl, sym, ap, subst, ◌∙◌, arith, mul-one, mul_comm}
use Rattle.std.proofs.Math.Path.{fun_ext}
use Rattle.std.proofs.Math.Nat.{one-mul}
use Rattle.std.proofs.lemmas.Bool.{cases_Bool, both_ways, and_parts, and_from}
use Rattle.std.specs.List.{list_any}
use Rattle.std.proofs.Math.Seq.{take-length}
use Rattle.std.proofs.lemmas.List.{take_more}
use Rattle.std.proofs.lemmas.List.Elements.{All-weaker}
use Rattle.std.proofs.lemmas.List.FromFn.{length-range_with_len}
use Rattle.std.proofs.lemmas.List.Sums.{sum_by_more, sum_by-take-le, sum_by_more_le, length-filter, count_by-le-length}
use Rattle.mk_net.specs.declared.words.Pair.{Pair}
use Rattle.mk_net.specs.Network.{Variable, sizes}
use Rattle.mk_states.specs.States.{plus_over, product_by, numbers_below}
use Rattle.mk_states.specs.Lawful.{Lawful}
use Rattle.mk_states.proofs.Sums.{product_by_push}
use Rattle.mk_cell.specs.Cell.{StandsAt, IsOwnAt}
use Rattle.mk_cell.specs.inner.Laws.{stands_with_more}
use Rattle.mk_sums.specs.Sums.{over, Within, Blind}
use Rattle.mk_sums.specs.Trees.{linked, linked_to, times_of}
use Rattle.mk_sums.specs.Joint.{variables}
use Rattle.mk_sums.specs.Cells.{keep, Apart}
use Rattle.mk_sums.proofs.Groups.{message_law}
use Rattle.mk_sums.proofs.Hops.{AreLinked, are_linked, linked_back, linked_from, ends}
use Rattle.mk_sums.proofs.Sums.{over-times, over-union, over_agree, Blind_within}
use Rattle.mk_sums.proofs.Unread.{message_reads}
use Rattle.mk_sums.proofs.Tables.{cell_of_place}
use Rattle.mk_scope.specs.Scopes.{ScopeOf, size_in, cells_in, has_variable}
use Rattle.mk_scope.specs.Cells.{values_at, cell_in, cells_onto, cells_beside}
use Rattle.mk_table.specs.Tables.{TableOf, HasNumbers, HasRoom}
use Rattle.mk_table.specs.Ratios.{keeps, KeepsPairs, HasRatios}
use Rattle.mk_tree.proofs.Cells.{cells_positive}
use Rattle.mk_tree.specs.Given.{GivenTree, clique_at, holds, link_of}
use Rattle.mk_plan.specs.Shapes.{ShapeOf, IsShapeFor, IsClique, clique_scope, core_scope, separator_scope, separator_between, scope_within, in_core, neighbours, clique_cells}
use Rattle.mk_propagate.specs.Placings.{Placing, IsPlacing, IsCommon, placed_there, factors_in, ratios_in}
use Rattle.mk_propagate.specs.Flows.{HasCells, core_there, core_steps, private_cells, exact_message, exact_message_grade, message_ratios}
use Rattle.mk_propagate.specs.inner.Gathered.{is_taken, is_input, IsRightIn, HasOutgoing, gathered, gathered_steps, gathered_factors, gathered_ratios, HasGathered, IsMargin, IsMarginOfProduct, IsMessageAlone}
use Rattle.mk_plan.proofs.Scopes.{has_within, within_network, within_set, variable_of_network, part_has_fewer, clique_counted, clique_small}
use Rattle.mk_plan.proofs.Cores.{core_has, core_part, neighbour_linked}
use Rattle.mk_scope.proofs.Chosen.{chosen_pass}
use Rattle.mk_scope.proofs.Members.{keep_rising, rising_apart}
use Rattle.mk_table.proofs.Owned.{own_more, plus_scaled}
use Rattle.mk_table.proofs.RatiosKept.{all_kept, no_ratios}
use Rattle.mk_propagate.proofs.Margins.{margin_over, values_of_part}
use Rattle.mk_propagate.proofs.Inputs.{times_inputs, sum_inputs, times_of_blind, times_parted, sum_parted, none_times, others_counted}
use Rattle.mk_propagate.proofs.Grading.{few_steps, few_factors, message_steps, others_steps, message_factors, fewer_steps}
use Rattle.mk_propagate.proofs.Placed.{few_in}
use Rattle.mk_propagate.proofs.Ratios.{none_counted, none_summed, none_behind, ratios_sent}
use Rattle.mk_propagate.proofs.Readings.{held_listed, is_tree}

-- a table has other numbers that are the same at its cells, in more steps too
pub numbers_again : (t : TableOf) (f g : ℕ → ℕ) (n more : ℕ) → n ≤ more → ((c : ℕ) → c < length t.digits → f c ≡ g c) → HasNumbers t f n → HasNumbers t g more
numbers_again t f g n more l same h = record {
  stand = record {
    each = λ c k. subst (λ v. StandsAt t.shift (slice_index t.digits c) (slice_index t.exponents c) v more) (same c k) (stands_with_more t.shift (slice_index t.digits c) (slice_index t.exponents c) (f c) n more l (h.stand.each c k));
  };
  own = λ c k untouched. subst (λ v. IsOwnAt t.shift (slice_index t.digits c) (slice_index t.exponents c) v more) (same c k) (own_more t.shift (slice_index t.digits c) (slice_index t.exponents c) (f c) n more l (h.own c k untouched));
}

-- no more cells have the values of a part's cell than there are
beside_at_most : (part whole : ScopeOf) → cells_beside part whole ≤ cells_in whole
beside_at_most part whole =
    let l = length-filter (λ c. cell_in part whole c == 0) (numbers_below (cells_in whole)) in let m = count_by-le-length (λ c. cell_in part whole c == 0) (numbers_below (cells_in whole)) in
    let n = length-range_with_len 0 (cells_in whole) in omega (arith, l, m, n)

-- one factor more of a product over a list
product_more : (f : ℕ → ℕ) (xs : List ℕ) (j i : ℕ) → j < length xs → i ≡ get_or xs j 0 → product_by f (take (j + 1) xs) ≡ product_by f (take j xs) * f i
product_more f xs j i l e = ap (product_by f) (take_more xs j 0 l) ∙ product_by_push f (take j xs) (get_or xs j 0) ∙ ap (λ x. product_by f (take j xs) * f x) (sym e)

-- a product over a list of which nothing passes the test is 1
none_listed : (test : ℕ → Bool) (f : ℕ → ℕ) (xs : List ℕ) → list_any test xs ≡ false → product_by (λ i. cond (test i) (f i) 1) xs ≡ 1
none_listed test f [] h = refl
none_listed test f (x ∷ xs) h =
    let q = neither (test x) (list_any test xs) h in
    ap (λ (t : Bool). cond t (f x) 1 * product_by (λ i. cond (test i) (f i) 1) xs) q.0 ∙ ap (λ n. 1 * n) (none_listed test f xs q.1)
  where
    neither : (b c : Bool) → (b || c) ≡ false → (b ≡ false) × (c ≡ false)
    neither true c e = absurd (both_ways true e refl)
    neither false c e = (refl, e)

-- the plus over the cells of a clique that have the values of a cell of its core
pub margin_onto_core : (plus : ℕ → ℕ → ℕ) → Lawful plus → (network : List Variable) (tree : GivenTree) (k : ℕ) (part whole : ScopeOf) → part ≡ scope_within network (in_core tree k) → whole ≡ scope_within network (holds tree k)
    → (f : (ℕ → ℕ) → ℕ) (d : ℕ) → d < cells_in part
    → plus_over plus 0 (λ c. f (values_at whole c)) (cells_onto part whole d) ≡ over plus (slice_index (sizes network)) (λ x. holds tree k x && not (in_core tree k x)) (variables (sizes network)) f (values_at part d)
margin_onto_core plus law network tree k part whole part_is whole_is f d l =
    let inside : d < cells_in (scope_within network (in_core tree k)) = let z = ap cells_in part_is in omega (arith, l, z) in
    ap (λ (s : ScopeOf). plus_over plus 0 (λ c. f (values_at s c)) (cells_onto part s d)) whole_is
    ∙ ap (λ (s : ScopeOf). plus_over plus 0 (λ c. f (values_at (scope_within network (holds tree k)) c)) (cells_onto s (scope_within network (holds tree k)) d)) part_is
    ∙ margin_over plus law network (in_core tree k) (holds tree k) (core_part tree k) f d inside
    ∙ ap (λ (s : ScopeOf). over plus (slice_index (sizes network)) (λ x. holds tree k x && not (in_core tree k x)) (variables (sizes network)) f (values_at s d)) (sym part_is)

-- how many these are
pub beside_core : (network : List Variable) (tree : GivenTree) (k : ℕ) (part whole : ScopeOf) → part ≡ scope_within network (in_core tree k) → whole ≡ scope_within network (holds tree k) → cells_beside part whole ≡ private_cells network tree k
beside_core network tree k part whole part_is whole_is = ap (λ (s : ScopeOf). cells_beside s whole) part_is ∙ ap (cells_beside (scope_within network (in_core tree k))) whole_is

module _ (shape : ShapeOf) (p : Placing) (is : IsShapeFor shape p.network) (placing : IsPlacing shape.tree p) where
  abbrev tree : GivenTree
  tree = shape.tree

  abbrev count : ℕ
  count = length shape.tree.cliques

  -- what two cliques share
  abbrev pub shared : ℕ → ℕ → ℕ → Bool
  shared a b x = holds tree a x && holds tree b x

  separator_shares : (a b : ℕ) → AreLinked (link_of tree) count a b → separator_between shape a b ≡ scope_within p.network (shared a b)
  separator_shares a b (inl c) =
      let l = is.tree_is.linked.earlier a c.later c.within in
      let e : max a b ≡ a = let q = c.link_is in omega (arith, l.1, q) in
      ap (separator_scope shape) e ∙ is.separator_scopes a (record { first = omega (arith, c.later); last = c.within }) c.later
      ∙ ap (λ k. scope_within p.network (λ x. holds tree a x && holds tree k x)) c.link_is
  separator_shares a b (inr c) =
      let l = is.tree_is.linked.earlier b c.later c.within in
      let e : max a b ≡ b = let q = c.link_is in omega (arith, l.1, q) in
      ap (separator_scope shape) e ∙ is.separator_scopes b (record { first = omega (arith, c.later); last = c.within }) c.later
      ∙ ap (λ (set : ℕ → Bool). scope_within p.network set) (fun_ext (λ x. ap (λ k. holds tree b x && holds tree k x) c.link_is ∙ turned (holds tree b x) (holds tree a x)))
    where
      turned : (b c : Bool) → (b && c) ≡ (c && b)
      turned true true = refl
      turned true false = refl
      turned false true = refl
      turned false false = refl

  pub separator_is : (a b : ℕ) → linked (link_of tree) count a b ≡ true → separator_between shape a b ≡ scope_within p.network (shared a b)
  separator_is a b h = separator_shares a b (are_linked (link_of tree) count a b h)

  pub are_ends : (a b : ℕ) → linked (link_of tree) count a b ≡ true → (IsClique tree a) × (IsClique tree b) × (a ≡ b → ⊥)
  are_ends a b h =
      let e = ends (link_of tree) count a b is.tree_is.linked.earlier (are_linked (link_of tree) count a b h) in
      (record { first = e.0; last = e.1 }, record { first = e.2; last = e.3 }, e.4)

  module _ (plus : ℕ → ℕ → ℕ) (law : Lawful plus) where
    -- a message reads no more than its ends share
    pub message_within : (i k : ℕ) → Within (shared i k) (exact_message plus tree p i k)
    message_within i k =
        message_reads plus (slice_index (sizes p.network)) (variables (sizes p.network)) (holds tree) (placed_there p) (link_of tree) count (is_tree shape p is placing) (held_listed shape p is placing) i k

    -- what two linked cliques share lies in the core of the second
    pub shared_in_core : (i k : ℕ) → linked (link_of tree) count i k ≡ true → (x : ℕ) → shared i k x ≡ true → in_core tree k x ≡ true
    shared_in_core i k h x q = let both = and_parts (holds tree i x) (holds tree k x) q in core_has tree is.tree_is.linked k i x h both.1 both.0

    -- a message's cell is read at the values of a cell of its receiver's core
    pub message_value : (i k : ℕ) → linked (link_of tree) count i k ≡ true → (part whole : ScopeOf) → part ≡ separator_between shape i k → whole ≡ core_scope shape k
        → (c : ℕ) → c < cells_in whole → exact_message plus tree p i k (values_at part (cell_in part whole c)) ≡ exact_message plus tree p i k (values_at whole c)
    message_value i k h part whole e f =
        subst (λ (s : ScopeOf). (c : ℕ) → c < cells_in whole → exact_message plus tree p i k (values_at s (cell_in s whole c)) ≡ exact_message plus tree p i k (values_at whole c)) (sym (e ∙ separator_is i k h))
        (subst (λ (s : ScopeOf). (c : ℕ) → c < cells_in s → exact_message plus tree p i k (values_at (scope_within p.network (shared i k)) (cell_in (scope_within p.network (shared i k)) s c)) ≡ exact_message plus tree p i k (values_at s c))
        (sym (f ∙ is.core_scopes k (are_ends i k h).1)) (λ c l. read (in_core tree k) (shared_in_core i k h) c l))
      where
        sender : IsClique tree i
        sender = (are_ends i k h).0

        read : (whole : ℕ → Bool) → ((x : ℕ) → shared i k x ≡ true → whole x ≡ true) → (c : ℕ) → c < cells_in (scope_within p.network whole)
            → exact_message plus tree p i k (values_at (scope_within p.network (shared i k)) (cell_in (scope_within p.network (shared i k)) (scope_within p.network whole) c))
            ≡ exact_message plus tree p i k (values_at (scope_within p.network whole) c)
        read whole inside c l =
            message_within i k (values_at (scope_within p.network (shared i k)) (cell_in (scope_within p.network (shared i k)) (scope_within p.network whole) c)) (values_at (scope_within p.network whole) c)
            (λ x q.
            let both = and_parts (holds tree i x) (holds tree k x) q in
            let n : x < length p.network = variable_of_network p.network x (held_listed shape p is placing i x sender.first sender.last both.0) in
            values_of_part plus law p.network (shared i k) whole inside c l x (has_within p.network (shared i k) x n q))

    -- a message keeps each pair that is common to the ratios, whose variable its receiver holds
    pub message_keeps : (i k : ℕ) → linked (link_of tree) count i k ≡ true → (message : TableOf) → IsRightIn plus shape p i k message → (pair : Pair) → IsCommon p pair → holds tree k pair.variable ≡ true → keeps message.touched pair ≡ true
    message_keeps i k l message right pair common here = at (cases_Bool (holds tree i pair.variable))
      where
        at : ((holds tree i pair.variable ≡ true) ⊎ (holds tree i pair.variable ≡ false)) → keeps message.touched pair ≡ true
        at (inl there) =
            let receiver = (are_ends i k l).1 in
            let n : pair.variable < length p.network = variable_of_network p.network pair.variable (held_listed shape p is placing k pair.variable receiver.first receiver.last here) in
            right.ratios.kept pair common
            (subst (λ (s : ScopeOf). has_variable s pair.variable ≡ true) (sym (right.scope_is ∙ separator_is i k l))
            (has_within p.network (shared i k) pair.variable n (and_from (holds tree i pair.variable) (holds tree k pair.variable) there here)))
        at (inr none) = all_kept message.touched pair (right.ratios.none (none_behind shape p is placing i k l pair common here none))

    -- a core has variables of its clique
    core_holds : (k x : ℕ) → IsClique tree k → (scope : ScopeOf) → scope ≡ core_scope shape k → has_variable scope x ≡ true → holds tree k x ≡ true
    core_holds k x clique scope e v = core_part tree k x (within_set p.network (in_core tree k) x (subst (λ (s : ScopeOf). has_variable s x ≡ true) (e ∙ is.core_scopes k clique) v))

    -- a product over a core times one message more
    pub times_right : (i k : ℕ) → linked (link_of tree) count i k ≡ true → (f h : (ℕ → ℕ) → ℕ) (n n_after m m_after r r_after : ℕ) (old new message : TableOf) → HasCells old (core_scope shape k) f n m r (IsCommon p) → IsRightIn plus shape p i k message
        → new.scope ≡ old.scope → new.shift ≡ old.shift + message.shift → length new.digits ≡ cells_in new.scope
        → ((f g : ℕ → ℕ) (n q : ℕ) → HasNumbers old f n → HasNumbers message g q → HasNumbers new (λ c. f c * g (cell_in message.scope old.scope c)) (n + q + 1))
        → KeepsPairs old.scope old.touched message.touched new.touched
        → ((a : ℕ → ℕ) → f a * exact_message plus tree p i k a ≡ h a) → n + 3 * exact_message_grade tree p i k + 1 ≤ n_after → m + exact_message_grade tree p i k ≤ m_after → r + message_ratios tree p i k ≡ r_after
        → HasCells new (core_scope shape k) h n_after m_after r_after (IsCommon p)
    times_right i k l f h n n_after m m_after r r_after old new message o right scope shift full numbers touched same steps factors ratios = record {
      scope_is = scope ∙ o.scope_is;
      numbers = numbers_again new (λ c. f (values_at old.scope c) * exact_message plus tree p i k (values_at message.scope (cell_in message.scope old.scope c))) (λ c. h (values_at new.scope c)) (n + 3 * exact_message_grade tree p i k + 1) n_after steps there
          (numbers (λ c. f (values_at old.scope c)) (λ c. exact_message plus tree p i k (values_at message.scope c)) n (3 * exact_message_grade tree p i k) o.numbers right.numbers);
      small_shift = let b = o.small_shift in let c = right.small_shift in omega (arith, b, c, shift, factors);
      ratios = record {
        shifted = let b = o.ratios.shifted in let c = right.ratios.shifted in omega (arith, b, c, shift, ratios);
        none = λ z. touched.none (o.ratios.none (omega (arith, ratios, z))) (right.ratios.none (omega (arith, ratios, z)));
        kept = λ q common v.
            let w : has_variable old.scope q.variable ≡ true = subst (λ (s : ScopeOf). has_variable s q.variable ≡ true) scope v in
            touched.pairs q w (o.ratios.kept q common w) (message_keeps i k l message right q common (core_holds k q.variable (are_ends i k l).1 old.scope o.scope_is w));
      };
    }
      where
        there : (c : ℕ) → c < length new.digits → f (values_at old.scope c) * exact_message plus tree p i k (values_at message.scope (cell_in message.scope old.scope c)) ≡ h (values_at new.scope c)
        there c q =
            let inside : c < cells_in old.scope = let z = ap cells_in scope in omega (arith, q, full, z) in
            ap (λ v. f (values_at old.scope c) * v) (message_value i k l message.scope old.scope right.scope_is o.scope_is c inside)
            ∙ same (values_at old.scope c) ∙ ap (λ (s : ScopeOf). h (values_at s c)) (sym scope)

    -- a message alone over a core
    pub alone_right : (i k : ℕ) → linked (link_of tree) count i k ≡ true → (h : (ℕ → ℕ) → ℕ) (n_after m_after r_after : ℕ) (old new message : TableOf) → old.scope ≡ core_scope shape k → IsRightIn plus shape p i k message → IsMessageAlone message old new
        → ((a : ℕ → ℕ) → exact_message plus tree p i k a ≡ h a) → 3 * exact_message_grade tree p i k ≤ n_after → exact_message_grade tree p i k ≤ m_after → message_ratios tree p i k ≡ r_after
        → HasCells new (core_scope shape k) h n_after m_after r_after (IsCommon p)
    alone_right i k l h n_after m_after r_after old new message over_core right m same steps factors ratios = record {
      scope_is = m.scope ∙ over_core;
      numbers = numbers_again new (λ c. exact_message plus tree p i k (values_at message.scope (cell_in message.scope old.scope c))) (λ c. h (values_at new.scope c)) (3 * exact_message_grade tree p i k) n_after steps there
          (m.numbers (λ c. exact_message plus tree p i k (values_at message.scope c)) (3 * exact_message_grade tree p i k) right.numbers);
      small_shift = let c = right.small_shift in omega (arith, c, m.shift, factors);
      ratios = record {
        shifted = let c = right.ratios.shifted in omega (arith, c, m.shift, ratios);
        none = λ z. m.touched ∙ right.ratios.none (ratios ∙ z);
        kept = λ q common v.
            ap (λ (o : Option (List Pair)). keeps o q) m.touched
            ∙ message_keeps i k l message right q common (core_holds k q.variable (are_ends i k l).1 new.scope (m.scope ∙ over_core) v);
      };
    }
      where
        there : (c : ℕ) → c < length new.digits → exact_message plus tree p i k (values_at message.scope (cell_in message.scope old.scope c)) ≡ h (values_at new.scope c)
        there c q =
            let inside : c < cells_in old.scope = let z = ap cells_in m.scope in omega (arith, q, m.full, z) in
            message_value i k l message.scope old.scope right.scope_is over_core c inside
            ∙ same (values_at old.scope c) ∙ ap (λ (s : ScopeOf). h (values_at s c)) (sym m.scope)

    -- outside the core there are the clique's own variables
    abbrev private : ℕ → ℕ → Bool
    private k x = holds tree k x && not (in_core tree k x)

    pub core_cells : (k : ℕ) → cells_in (scope_within p.network (in_core tree k)) ≤ clique_cells p.network tree k
    core_cells k = part_has_fewer p.network is.legal (in_core tree k) (holds tree k) (core_part tree k)

    module _ (k : ℕ) (clique : IsClique tree k) (receiver : Option ℕ) where
      abbrev message_there : (ℕ → ℕ) → ℕ → ℕ
      message_there a i = cond (is_taken receiver i) (exact_message plus tree p i k a) 1

      abbrev steps_of : ℕ → ℕ
      steps_of i = cond (is_taken receiver i) (3 * exact_message_grade tree p i k + 1) 0

      abbrev factors_of : ℕ → ℕ
      factors_of i = cond (is_taken receiver i) (exact_message_grade tree p i k) 0

      abbrev ratios_of : ℕ → ℕ
      ratios_of i = cond (is_taken receiver i) (message_ratios tree p i k) 0

      -- where no message is taken
      pub none_gathered : (listed : List ℕ) (table : TableOf) → list_any (is_taken receiver) listed ≡ false → table.scope ≡ core_scope shape k → table.shift ≡ 0 → HasNumbers table (λ c. 1) 0 → length table.digits ≡ cells_in table.scope
          → table.touched ≡ None → HasGathered plus shape k receiver listed table p
      none_gathered listed table none scope shift ones full touched = record {
        cells = record {
          scope_is = scope;
          numbers = numbers_again table (λ c. 1) (λ c. gathered plus tree p k receiver listed (values_at table.scope c)) 0 (gathered_steps tree p k receiver listed) (omega arith)
              (λ c _. sym (none_listed (is_taken receiver) (λ i. exact_message plus tree p i k (values_at table.scope c)) listed none)) ones;
          small_shift = omega (arith, shift);
          ratios = subst (λ n. HasRatios table n (IsCommon p)) (sym (none_counted (is_taken receiver) (λ i. message_ratios tree p i k) listed none)) (no_ratios table (IsCommon p) shift touched);
        };
        full = full;
      }

      module _ (j i : ℕ) (l : j < length (neighbours tree k)) (e : i ≡ get_or (neighbours tree k) j 0) where
        abbrev before : List ℕ
        before = take j (neighbours tree k)

        abbrev after : List ℕ
        after = take (j + 1) (neighbours tree k)

        gathered_more : (a : ℕ → ℕ) → gathered plus tree p k receiver before a * message_there a i ≡ gathered plus tree p k receiver after a
        gathered_more a = sym (product_more (message_there a) (neighbours tree k) j i l e)

        steps_more : gathered_steps tree p k receiver after ≡ gathered_steps tree p k receiver before + steps_of i
        steps_more = let s = sum_by_more steps_of (neighbours tree k) j 0 l in let q = ap steps_of e in omega (arith, s, q)

        factors_more : gathered_factors tree p k receiver after ≡ gathered_factors tree p k receiver before + factors_of i
        factors_more = let s = sum_by_more factors_of (neighbours tree k) j 0 l in let q = ap factors_of e in omega (arith, s, q)

        ratios_more : gathered_ratios tree p k receiver after ≡ gathered_ratios tree p k receiver before + ratios_of i
        ratios_more = let s = sum_by_more ratios_of (neighbours tree k) j 0 l in let q = ap ratios_of e in omega (arith, s, q)

        -- a neighbour whose message is not taken
        pub passed_by : (table : TableOf) → is_taken receiver i ≡ false → HasGathered plus shape k receiver before table p → HasGathered plus shape k receiver after table p
        passed_by table h g = record {
          cells = record {
            scope_is = g.cells.scope_is;
            numbers = numbers_again table (λ c. gathered plus tree p k receiver before (values_at table.scope c)) (λ c. gathered plus tree p k receiver after (values_at table.scope c)) (gathered_steps tree p k receiver before) (gathered_steps tree p k receiver after)
                (let s = steps_more in omega (arith, s)) (λ c _. same (values_at table.scope c)) g.cells.numbers;
            small_shift = let s = factors_more in let b = g.cells.small_shift in omega (arith, s, b);
            ratios = subst (λ n. HasRatios table n (IsCommon p)) (let s = ratios_more in let w = ap {B = ℕ} (λ t. cond t (message_ratios tree p i k) 0) h in omega (arith, s, w)) g.cells.ratios;
          };
          full = g.full;
        }
          where
            same : (a : ℕ → ℕ) → gathered plus tree p k receiver before a ≡ gathered plus tree p k receiver after a
            same a = sym (ap (λ (t : Bool). gathered plus tree p k receiver before a * cond t (exact_message plus tree p i k a) 1) h ∙ mul-one (gathered plus tree p k receiver before a)) ∙ gathered_more a

        -- a neighbour whose message is taken
        pub taken_too : (old new message : TableOf) → is_taken receiver i ≡ true → HasGathered plus shape k receiver before old p → IsRightIn plus shape p i k message
            → new.scope ≡ old.scope → new.shift ≡ old.shift + message.shift → length new.digits ≡ cells_in new.scope
            → ((f g : ℕ → ℕ) (n q : ℕ) → HasNumbers old f n → HasNumbers message g q → HasNumbers new (λ c. f c * g (cell_in message.scope old.scope c)) (n + q + 1))
            → KeepsPairs old.scope old.touched message.touched new.touched → HasGathered plus shape k receiver after new p
        taken_too old new message h g right scope shift full numbers touched = record {
          cells = times_right i k (neighbour_linked tree k j i l e) (gathered plus tree p k receiver before) (gathered plus tree p k receiver after)
              (gathered_steps tree p k receiver before) (gathered_steps tree p k receiver after) (gathered_factors tree p k receiver before) (gathered_factors tree p k receiver after) (gathered_ratios tree p k receiver before) (gathered_ratios tree p k receiver after)
              old new message g.cells right scope shift full numbers touched
              (λ a. ap (λ n. gathered plus tree p k receiver before a * n) (sym (ap (λ (t : Bool). cond t (exact_message plus tree p i k a) 1) h)) ∙ gathered_more a)
              (let s = steps_more in let w = ap {B = ℕ} (λ t. cond t (3 * exact_message_grade tree p i k + 1) 0) h in omega (arith, s, w))
              (let s = factors_more in let w = ap {B = ℕ} (λ t. cond t (exact_message_grade tree p i k) 0) h in omega (arith, s, w))
              (let s = ratios_more in let w = ap {B = ℕ} (λ t. cond t (message_ratios tree p i k) 0) h in omega (arith, s, w));
          full = full;
        }

        -- the first neighbour whose message is taken
        pub first_taken : (old new message : TableOf) → is_taken receiver i ≡ true → list_any (is_taken receiver) before ≡ false → old.scope ≡ core_scope shape k → IsRightIn plus shape p i k message → IsMessageAlone message old new
            → HasGathered plus shape k receiver after new p
        first_taken old new message h none over_core right m = record {
          cells = alone_right i k (neighbour_linked tree k j i l e) (gathered plus tree p k receiver after) (gathered_steps tree p k receiver after) (gathered_factors tree p k receiver after) (gathered_ratios tree p k receiver after) old new message over_core right m
              (λ a.
              sym (one-mul (exact_message plus tree p i k a))
              ∙ ap (λ n. n * exact_message plus tree p i k a) (sym (none_listed (is_taken receiver) (λ i. exact_message plus tree p i k a) before none))
              ∙ ap (λ n. gathered plus tree p k receiver before a * n) (sym (ap (λ (t : Bool). cond t (exact_message plus tree p i k a) 1) h)) ∙ gathered_more a)
              (let s = steps_more in let w = ap {B = ℕ} (λ t. cond t (3 * exact_message_grade tree p i k + 1) 0) h in omega (arith, s, w))
              (let s = factors_more in let w = ap {B = ℕ} (λ t. cond t (exact_message_grade tree p i k) 0) h in omega (arith, s, w))
              (let s = ratios_more in let w = ap {B = ℕ} (λ t. cond t (message_ratios tree p i k) 0) h in let z = none_counted (is_taken receiver) (λ i. message_ratios tree p i k) before none in omega (arith, s, w, z));
          full = m.full;
        }

        pub message_room : (message : TableOf) → is_taken receiver i ≡ true → IsRightIn plus shape p i k message → HasRoom message 1
        message_room message h right = record {
          numbers = λ c. exact_message plus tree p i k (values_at message.scope c);
          steps = 3 * exact_message_grade tree p i k;
          has = right.numbers;
          few_steps =
              let a = sum_by_more_le steps_of (neighbours tree k) j 0 l in let b = few_steps shape p is placing k clique receiver in let w = ap {B = ℕ} (λ t. cond t (3 * exact_message_grade tree p i k + 1) 0) h in let q = ap steps_of e in
              omega (arith, a, b, w, q);
          small_shift =
              let a = sum_by_more_le factors_of (neighbours tree k) j 0 l in let b = few_factors shape p is placing k clique receiver in let w = ap {B = ℕ} (λ t. cond t (exact_message_grade tree p i k) 0) h in let q = ap factors_of e in
              let s = right.small_shift in omega (arith, a, b, w, q, s);
        }

      -- room for a message more
      pub taken_room : (j : ℕ) (old : TableOf) → HasGathered plus shape k receiver (take j (neighbours tree k)) old p → HasRoom old 1
      taken_room j old g = record {
        numbers = λ c. gathered plus tree p k receiver (take j (neighbours tree k)) (values_at old.scope c);
        steps = gathered_steps tree p k receiver (take j (neighbours tree k));
        has = g.cells.numbers;
        few_steps = let a = sum_by-take-le steps_of (neighbours tree k) j in let b = few_steps shape p is placing k clique receiver in omega (arith, a, b);
        small_shift = let a = sum_by-take-le factors_of (neighbours tree k) j in let b = few_factors shape p is placing k clique receiver in let s = g.cells.small_shift in omega (arith, a, b, s);
      }

      pub whole_room : (table : TableOf) → HasGathered plus shape k receiver (neighbours tree k) table p → HasRoom table 1
      whole_room table g =
          taken_room (length (neighbours tree k)) table (subst (λ (xs : List ℕ). HasGathered plus shape k receiver xs table p) (sym (take-length (neighbours tree k))) g)

    -- the message of the one neighbour that a product leaves out
    module _ (k : ℕ) (clique : IsClique tree k) (i : ℕ) (l : linked (link_of tree) count i k ≡ true) where
      neighbour : IsClique tree i
      neighbour = (are_ends i k l).0

      product_back : (a : ℕ → ℕ) → gathered plus tree p k (Some i) (neighbours tree k) a * exact_message plus tree p i k a ≡ gathered plus tree p k None (neighbours tree k) a
      product_back a =
          ap (λ n. n * exact_message plus tree p i k a) (times_inputs tree k (Some i) (λ j. exact_message plus tree p j k) a)
          ∙ sym (times_parted (linked_to (link_of tree) count k) i count neighbour.first neighbour.last l (λ j. exact_message plus tree p j k) a)
          ∙ sym (times_inputs tree k None (λ j. exact_message plus tree p j k) a)

      sum_back : (w : ℕ → ℕ) → sum_by (λ j. w j) (neighbours tree k) ≡ sum_by (λ j. cond (is_taken (Some i) j) (w j) 0) (neighbours tree k) + w i
      sum_back w =
          sum_inputs tree k None w ∙ sum_parted (linked_to (link_of tree) count k) i count neighbour.first neighbour.last l w
          ∙ ap (λ n. n + w i) (sym (sum_inputs tree k (Some i) w))

      pub put_back : (old new message : TableOf) → HasGathered plus shape k (Some i) (neighbours tree k) old p → IsRightIn plus shape p i k message
          → new.scope ≡ old.scope → new.shift ≡ old.shift + message.shift → length new.digits ≡ cells_in new.scope
          → ((f g : ℕ → ℕ) (n q : ℕ) → HasNumbers old f n → HasNumbers message g q → HasNumbers new (λ c. f c * g (cell_in message.scope old.scope c)) (n + q + 1))
          → KeepsPairs old.scope old.touched message.touched new.touched → HasGathered plus shape k None (neighbours tree k) new p
      put_back old new message g right scope shift full numbers touched = record {
        cells = times_right i k l (gathered plus tree p k (Some i) (neighbours tree k)) (gathered plus tree p k None (neighbours tree k))
            (gathered_steps tree p k (Some i) (neighbours tree k)) (gathered_steps tree p k None (neighbours tree k)) (gathered_factors tree p k (Some i) (neighbours tree k)) (gathered_factors tree p k None (neighbours tree k))
            (gathered_ratios tree p k (Some i) (neighbours tree k)) (gathered_ratios tree p k None (neighbours tree k))
            old new message g.cells right scope shift full numbers touched product_back
            (let s = sum_back (λ j. 3 * exact_message_grade tree p j k + 1) in omega (arith, s))
            (let s = sum_back (λ j. exact_message_grade tree p j k) in omega (arith, s)) (sym (sum_back (λ j. message_ratios tree p j k)));
        full = full;
      }

      pub back_room : (message : TableOf) → IsRightIn plus shape p i k message → HasRoom message 1
      back_room message right = record {
        numbers = λ c. exact_message plus tree p i k (values_at message.scope c);
        steps = 3 * exact_message_grade tree p i k;
        has = right.numbers;
        few_steps = let s = sum_back (λ j. 3 * exact_message_grade tree p j k + 1) in let b = few_steps shape p is placing k clique None in omega (arith, s, b);
        small_shift = let s = sum_back (λ j. exact_message_grade tree p j k) in let b = few_factors shape p is placing k clique None in let c = right.small_shift in omega (arith, s, b, c);
      }

    -- ---- what is placed in a clique, summed over its core

    -- a clique's table has room for a plus over its cells
    pub table_room : (k : ℕ) → IsClique tree k → (table : TableOf) → HasCells table (clique_scope shape k) (placed_there p k) (factors_in p k) (factors_in p k) (ratios_in p k) (IsCommon p) → HasRoom table (2 * cells_in table.scope)
    table_room k clique table h = record {
      numbers = λ c. placed_there p k (values_at table.scope c);
      steps = factors_in p k;
      has = h.numbers;
      few_steps = let n = few_in p k in let s = ap cells_in (h.scope_is ∙ is.clique_scopes k clique) in let c = clique_small p.network tree is.tree_is k clique.first clique.last in omega (arith, n, s, c, placing.few);
      small_shift = let n = few_in p k in omega (arith, n, placing.few, h.small_shift);
    }

    -- a variable of a core is one of its clique's table
    pub in_clique : (k : ℕ) → IsClique tree k → (core table : ScopeOf) → core ≡ core_scope shape k → table ≡ clique_scope shape k → (x : ℕ) → has_variable core x ≡ true → has_variable table x ≡ true
    in_clique k clique core table e f x v =
        let w : has_variable (scope_within p.network (in_core tree k)) x ≡ true = subst (λ (s : ScopeOf). has_variable s x ≡ true) (e ∙ is.core_scopes k clique) v in
        subst (λ (s : ScopeOf). has_variable s x ≡ true) (sym (f ∙ is.clique_scopes k clique))
        (has_within p.network (holds tree k) x (within_network p.network (in_core tree k) x w) (core_part tree k x (within_set p.network (in_core tree k) x w)))

    pub few_core_steps : (k : ℕ) → IsClique tree k → core_steps tree p k ≤ factors_in p k + 2 * clique_cells p.network tree k
    few_core_steps k clique = let l = beside_at_most (scope_within p.network (in_core tree k)) (scope_within p.network (holds tree k)) in omega (arith, l)

    -- and so has that plus, over the cells of the core
    pub core_room : (k : ℕ) → IsClique tree k → (core : TableOf) → HasCells core (core_scope shape k) (core_there plus tree p k) (core_steps tree p k) (factors_in p k) (ratios_in p k) (IsCommon p) → HasRoom core (2 * cells_in core.scope)
    core_room k clique core h = record {
      numbers = λ d. core_there plus tree p k (values_at core.scope d);
      steps = core_steps tree p k;
      has = h.numbers;
      few_steps =
          let n = few_in p k in let s = ap cells_in (h.scope_is ∙ is.core_scopes k clique) in let f = core_cells k in let m = few_core_steps k clique in
          let c = clique_small p.network tree is.tree_is k clique.first clique.last in omega (arith, n, s, f, m, c, placing.few);
      small_shift = let n = few_in p k in omega (arith, n, placing.few, h.small_shift);
    }

    -- what has those pluses in its cells has the sums
    pub sums_onto : (k : ℕ) → IsClique tree k → (table before after : TableOf) → HasCells table (clique_scope shape k) (placed_there p k) (factors_in p k) (factors_in p k) (ratios_in p k) (IsCommon p) → before.scope ≡ core_scope shape k
        → after.scope ≡ before.scope → after.shift ≡ table.shift → length after.digits ≡ cells_in after.scope
        → HasNumbers after (λ d. plus_over plus 0 (λ c. placed_there p k (values_at table.scope c)) (cells_onto before.scope table.scope d)) (factors_in p k + (2 * cells_beside before.scope table.scope - 1))
        → HasRatios after (ratios_in p k) (IsCommon p) → HasCells after (core_scope shape k) (core_there plus tree p k) (core_steps tree p k) (factors_in p k) (ratios_in p k) (IsCommon p)
    sums_onto k clique table before after h e scope shift full numbers ratios = record {
      scope_is = scope ∙ e;
      numbers = numbers_again after (λ d. plus_over plus 0 (λ c. placed_there p k (values_at table.scope c)) (cells_onto before.scope table.scope d)) (λ d. core_there plus tree p k (values_at after.scope d))
          (factors_in p k + (2 * cells_beside before.scope table.scope - 1)) (core_steps tree p k)
          (let n = beside_core p.network tree k before.scope table.scope part_is whole_is in omega (arith, n))
          (λ d l.
          let inside : d < cells_in before.scope = let z = ap cells_in scope in omega (arith, l, full, z) in
          margin_onto_core plus law p.network tree k before.scope table.scope part_is whole_is (placed_there p k) d inside
          ∙ ap (λ (s : ScopeOf). core_there plus tree p k (values_at s d)) (sym scope))
          numbers;
      small_shift = omega (arith, h.small_shift, shift);
      ratios = ratios;
    }
      where
        part_is : before.scope ≡ scope_within p.network (in_core tree k)
        part_is = e ∙ is.core_scopes k clique

        whole_is : table.scope ≡ scope_within p.network (holds tree k)
        whole_is = h.scope_is ∙ is.clique_scopes k clique

    pub core_room_one : (k : ℕ) → IsClique tree k → (core : TableOf) → HasCells core (core_scope shape k) (core_there plus tree p k) (core_steps tree p k) (factors_in p k) (ratios_in p k) (IsCommon p) → HasRoom core 1
    core_room_one k clique core h = record {
      numbers = λ d. core_there plus tree p k (values_at core.scope d);
      steps = core_steps tree p k;
      has = h.numbers;
      few_steps = let n = few_in p k in let m = few_core_steps k clique in let c = clique_small p.network tree is.tree_is k clique.first clique.last in omega (arith, n, m, c, placing.few);
      small_shift = let n = few_in p k in omega (arith, n, placing.few, h.small_shift);
    }

    pub core_sums : (k : ℕ) → IsClique tree k → (table before after : TableOf) → HasCells table (clique_scope shape k) (placed_there p k) (factors_in p k) (factors_in p k) (ratios_in p k) (IsCommon p) → before.scope ≡ core_scope shape k → IsMargin plus table before after
        → HasCells after (core_scope shape k) (core_there plus tree p k) (core_steps tree p k) (factors_in p k) (ratios_in p k) (IsCommon p)
    core_sums k clique table before after h e m =
        sums_onto k clique table before after h e m.scope m.shift m.full (m.numbers (λ c. placed_there p k (values_at table.scope c)) (factors_in p k) h.numbers) (record {
          shifted = m.shift ∙ h.ratios.shifted;
          none = λ z. m.touched.none (h.ratios.none z) refl;
          kept = λ q common v.
              let w : has_variable before.scope q.variable ≡ true = subst (λ (s : ScopeOf). has_variable s q.variable ≡ true) m.scope v in
              m.touched.pairs q w (h.ratios.kept q common (in_clique k clique before.scope table.scope e h.scope_is q.variable w)) refl;
        })

    -- ---- what a clique sends

    module _ (a b : ℕ) (h : linked (link_of tree) count a b ≡ true) where
      abbrev size : ℕ → ℕ
      size = slice_index (sizes p.network)

      abbrev vars : List ℕ
      vars = variables (sizes p.network)

      abbrev times : (ℕ → ℕ) → ℕ
      times t = times_of (is_input tree a (Some b)) count (λ i. exact_message plus tree p i a) t

      -- b is linked to a
      back : linked (link_of tree) count b a ≡ true
      back = linked_from (link_of tree) count b a (linked_back (link_of tree) count a b (are_linked (link_of tree) count a b h))

      apart : (x : ℕ) → (in_core tree a x && not (holds tree b x)) ≡ true → private a x ≡ false
      apart x q = none (holds tree a x) (in_core tree a x) (and_parts (in_core tree a x) (not (holds tree b x)) q).0
        where
          none : (w c : Bool) → c ≡ true → (w && not c) ≡ false
          none true c e = ap not e
          none false c e = refl

      -- what a holds and b does not is of the core, or is private
      parted : (x : ℕ) → (holds tree a x && not (holds tree b x)) ≡ ((in_core tree a x && not (holds tree b x)) || private a x)
      parted x = at (holds tree a x) (holds tree b x) (in_core tree a x) (core_part tree a x) (λ q r. core_has tree is.tree_is.linked a b x back q r)
        where
          at : (w n c : Bool) → (c ≡ true → w ≡ true) → (w ≡ true → n ≡ true → c ≡ true) → (w && not n) ≡ ((c && not n) || (w && not c))
          at true true true p q = refl
          at true true false p q = q refl refl
          at true false true p q = refl
          at true false false p q = refl
          at false true true p q = absurd (both_ways false refl (p refl))
          at false true false p q = refl
          at false false true p q = absurd (both_ways false refl (p refl))
          at false false false p q = refl

      -- the messages read nothing private
      times_blind : Blind (private a) times
      times_blind = times_of_blind (private a) (is_input tree a (Some b)) count (λ i. exact_message plus tree p i a)
          (λ i q. Blind_within (private a) (shared i a) (exact_message plus tree p i a) (message_within i a)
          (λ x r. outside x i (and_parts (linked_to (link_of tree) count a i) (is_taken (Some b) i) q).0 r))
        where
          outside : (x i : ℕ) → linked (link_of tree) count i a ≡ true → private a x ≡ true → shared i a x ≡ false
          outside x i q r = at (cases_Bool (shared i a x))
            where
              no : (c : Bool) → not c ≡ true → c ≡ false
              no true e = absurd (both_ways false refl e)
              no false e = refl

              at : ((shared i a x ≡ true) ⊎ (shared i a x ≡ false)) → shared i a x ≡ false
              at (inl s) = absurd (both_ways (in_core tree a x) (no (in_core tree a x) (and_parts (holds tree a x) (not (in_core tree a x)) r).1) (shared_in_core i a q x s))
              at (inr s) = s

      -- the message is the plus, over the core's variables that b does not hold, of what is summed over the core times the messages
      message_on_core : (t : ℕ → ℕ) → exact_message plus tree p a b t ≡ over plus size (λ x. in_core tree a x && not (holds tree b x)) vars (λ s. core_there plus tree p a s * times s) t
      message_on_core t =
          message_law plus size vars (holds tree) (placed_there p) (link_of tree) count law (is_tree shape p is placing) a b h t
          ∙ over_agree plus law size (λ x. holds tree a x && not (holds tree b x)) (λ x. (in_core tree a x && not (holds tree b x)) || private a x) vars (λ s. placed_there p a s * times s) t (λ x _. parted x)
          ∙ over-union plus law size (λ x. in_core tree a x && not (holds tree b x)) (private a) vars (λ s. placed_there p a s * times s) t apart
          ∙ ap (λ (g : (ℕ → ℕ) → ℕ). over plus size (λ x. in_core tree a x && not (holds tree b x)) vars g t)
          (fun_ext (λ s.
          ap (λ (g : (ℕ → ℕ) → ℕ). over plus size (private a) vars g s) (fun_ext (λ r. mul_comm (placed_there p a r) (times r)))
          ∙ over-times plus law size (private a) vars times (placed_there p a) s times_blind ∙ mul_comm (times s) (core_there plus tree p a s)))

      abbrev sent : (ℕ → ℕ) → ℕ
      sent t = core_there plus tree p a t * gathered plus tree p a (Some b) (neighbours tree a) t

      margin : (d : ℕ) → d < cells_in (scope_within p.network (shared a b))
          → plus_over plus 0 (λ c. sent (values_at (scope_within p.network (in_core tree a)) c)) (cells_onto (scope_within p.network (shared a b)) (scope_within p.network (in_core tree a)) d)
          ≡ exact_message plus tree p a b (values_at (scope_within p.network (shared a b)) d)
      margin d l =
          margin_over plus law p.network (shared a b) (in_core tree a) (λ x q. let both = and_parts (holds tree a x) (holds tree b x) q in core_has tree is.tree_is.linked a b x back both.0 both.1) sent d l
          ∙ ap (λ (set : ℕ → Bool). over plus size set vars sent (values_at (scope_within p.network (shared a b)) d)) (fun_ext (λ x. outside x))
          ∙ ap (λ (g : (ℕ → ℕ) → ℕ). over plus size (λ x. in_core tree a x && not (holds tree b x)) vars g (values_at (scope_within p.network (shared a b)) d))
          (fun_ext (λ t. ap (λ n. core_there plus tree p a t * n) (times_inputs tree a (Some b) (λ i. exact_message plus tree p i a) t)))
          ∙ sym (message_on_core (values_at (scope_within p.network (shared a b)) d))
        where
          outside : (x : ℕ) → (in_core tree a x && not (shared a b x)) ≡ (in_core tree a x && not (holds tree b x))
          outside x = at (in_core tree a x) (holds tree a x) (holds tree b x) (core_part tree a x)
            where
              at : (c w n : Bool) → (c ≡ true → w ≡ true) → (c && not (w && n)) ≡ (c && not n)
              at true true n q = refl
              at true false n q = absurd (both_ways false refl (q refl))
              at false w n q = refl

      sender : IsClique tree a
      sender = (are_ends a b h).0

      -- what is made of a table over the core, cell by cell, is the message
      right_of : (core before after : TableOf) (v : ℕ → ℕ) (n : ℕ) → core.scope ≡ core_scope shape a → before.scope ≡ separator_between shape a b → after.scope ≡ before.scope → length after.digits ≡ cells_in after.scope → HasNumbers after v n
          → ((d : ℕ) → v d ≡ plus_over plus 0 (λ c. sent (values_at core.scope c)) (cells_onto before.scope core.scope d)) → n ≤ 3 * exact_message_grade tree p a b → after.shift ≤ 40 * exact_message_grade tree p a b
          → HasRatios after (message_ratios tree p a b) (IsCommon p) → IsRightIn plus shape p a b after
      right_of core before after v n over_core e scope full numbers cells steps shift ratios = record {
        scope_is = scope ∙ e;
        numbers = numbers_again after v (λ d. exact_message plus tree p a b (values_at after.scope d)) n (3 * exact_message_grade tree p a b) steps
            (λ d l.
            let inside : d < cells_in (scope_within p.network (shared a b)) = let z = ap cells_in (scope ∙ part_is) in omega (arith, l, full, z) in
            cells d
            ∙ ap (λ (s : ScopeOf). plus_over plus 0 (λ c. sent (values_at s c)) (cells_onto before.scope s d)) whole_is
            ∙ ap (λ (s : ScopeOf). plus_over plus 0 (λ c. sent (values_at (scope_within p.network (in_core tree a)) c)) (cells_onto s (scope_within p.network (in_core tree a)) d)) part_is
            ∙ margin d inside ∙ ap (λ (s : ScopeOf). exact_message plus tree p a b (values_at s d)) (sym (scope ∙ part_is)))
            numbers;
        small_shift = shift;
        ratios = ratios;
      }
        where
          part_is : before.scope ≡ scope_within p.network (shared a b)
          part_is = e ∙ separator_is a b h

          whole_is : core.scope ≡ scope_within p.network (in_core tree a)
          whole_is = over_core ∙ is.core_scopes a sender

      -- a variable of the separator is one of the core
      in_sender : (core separator : ScopeOf) → core ≡ core_scope shape a → separator ≡ separator_between shape a b → (x : ℕ) → has_variable separator x ≡ true → has_variable core x ≡ true
      in_sender core separator e f x v =
          let w : has_variable (scope_within p.network (shared a b)) x ≡ true = subst (λ (s : ScopeOf). has_variable s x ≡ true) (f ∙ separator_is a b h) v in
          let both = and_parts (holds tree a x) (holds tree b x) (within_set p.network (shared a b) x w) in
          subst (λ (s : ScopeOf). has_variable s x ≡ true) (sym (e ∙ is.core_scopes a sender))
          (has_within p.network (in_core tree a) x (within_network p.network (shared a b) x w) (core_has tree is.tree_is.linked a b x back both.0 both.1))

      module _ (core product : TableOf) (out : HasOutgoing plus shape a b core product p) (before after : TableOf) (e : before.scope ≡ separator_between shape a b) where
        split : cells_in (scope_within p.network (in_core tree a)) * private_cells p.network tree a ≡ clique_cells p.network tree a
        split =
            subst (λ (s : ScopeOf). cells_in s * cells_beside s (scope_within p.network (holds tree a)) ≡ cells_in (scope_within p.network (holds tree a))) (is.core_scopes a sender)
            (subst (λ (s : ScopeOf). cells_in (core_scope shape a) * cells_beside (core_scope shape a) s ≡ cells_in s) (is.clique_scopes a sender) out.split)

        -- the two sums cost at most two steps for each cell
        sums_cost : cells_in before.scope * cells_beside before.scope core.scope ≡ cells_in core.scope
            → (2 * private_cells p.network tree a - 1) + (2 * cells_beside before.scope core.scope - 1) ≤ 2 * clique_cells p.network tree a
        sums_cost beside =
            let z = ap cells_in (out.sums.scope_is ∙ is.core_scopes a sender) in let some = clique_counted p.network tree a in let more = cells_positive p.network (clique_at tree a) is.legal in
            fewer_steps (cells_in before.scope) (cells_beside before.scope core.scope) (cells_in (scope_within p.network (in_core tree a))) (private_cells p.network tree a) (clique_cells p.network tree a)
            (beside ∙ z) split (omega (arith, some, more))

        -- without another neighbour
        alone : length (neighbours tree a) < 2 → (t : ℕ → ℕ) → core_there plus tree p a t ≡ sent t
        alone few t =
            let receiver = (are_ends a b h).1 in let c = others_counted tree a b receiver.first receiver.last back in
            sym (ap (λ n. core_there plus tree p a t * n)
            (times_inputs tree a (Some b) (λ i. exact_message plus tree p i a) t ∙ none_times (is_input tree a (Some b)) count (λ i. exact_message plus tree p i a) t (omega (arith, c, few)))
            ∙ mul-one (core_there plus tree p a t))

        ratios_alone : length (neighbours tree a) < 2 → ratios_in p a ≡ message_ratios tree p a b
        ratios_alone few =
            let receiver = (are_ends a b h).1 in let c = others_counted tree a b receiver.first receiver.last back in
            let z = sum_inputs tree a (Some b) (λ i. message_ratios tree p i a) ∙ none_summed (is_input tree a (Some b)) count (λ i. message_ratios tree p i a) (omega (arith, c, few)) in
            let r = ratios_sent shape p is placing a b h in omega (arith, z, r)

        pub message_alone : length (neighbours tree a) < 2 → IsMargin plus core before after → IsRightIn plus shape p a b after
        message_alone few m =
            right_of core before after (λ d. plus_over plus 0 (λ c. core_there plus tree p a (values_at core.scope c)) (cells_onto before.scope core.scope d)) (core_steps tree p a + (2 * cells_beside before.scope core.scope - 1))
            out.sums.scope_is e m.scope m.full (m.numbers (λ c. core_there plus tree p a (values_at core.scope c)) (core_steps tree p a) out.sums.numbers)
            (λ d. ap (λ (f : (ℕ → ℕ) → ℕ). plus_over plus 0 (λ c. f (values_at core.scope c)) (cells_onto before.scope core.scope d)) (fun_ext (alone few)))
            (let l = sums_cost m.beside in let s = message_steps shape p is placing a b h sender in omega (arith, l, s))
            (let f = message_factors shape p is placing a b h sender in let s = out.sums.small_shift in omega (arith, f, s, m.shift))
            (record {
              shifted = let s = out.sums.ratios.shifted in let r = ratios_alone few in omega (arith, m.shift, s, r);
              none = λ z. m.touched.none (out.sums.ratios.none (ratios_alone few ∙ z)) refl;
              kept = λ q common v.
                  let w : has_variable before.scope q.variable ≡ true = subst (λ (s : ScopeOf). has_variable s q.variable ≡ true) m.scope v in
                  m.touched.pairs q w (out.sums.ratios.kept q common (in_sender core.scope before.scope out.sums.scope_is e q.variable w)) refl;
            })

        -- a cell of the core is its own
        own_cell : (c : ℕ) → c < cells_in core.scope → cell_in core.scope core.scope c ≡ c
        own_cell c l =
            cell_of_place (size_in core.scope) core.scope.variables
            (subst (λ (s : ScopeOf). Apart s.variables) (sym (out.sums.scope_is ∙ is.core_scopes a sender)) (rising_apart (keep (in_core tree a) (variables (sizes p.network))) (keep_rising (in_core tree a) 0 (length (sizes p.network))))) c (λ x. 0) l

        product_there : (d : ℕ) (others : (ℕ → ℕ) → ℕ) → product.scope ≡ core.scope → ((t : ℕ → ℕ) → core_there plus tree p a t * others t ≡ sent t)
            → plus_over plus 0 (λ c. core_there plus tree p a (values_at core.scope c) * others (values_at product.scope (cell_in product.scope core.scope c))) (cells_onto before.scope core.scope d)
            ≡ plus_over plus 0 (λ c. sent (values_at core.scope c)) (cells_onto before.scope core.scope d)
        product_there d others same is_sent =
            ap (λ (s : ScopeOf). plus_over plus 0 (λ c. core_there plus tree p a (values_at core.scope c) * others (values_at s (cell_in s core.scope c))) (cells_onto before.scope core.scope d)) same
            ∙ sym (mul-one _)
            ∙ plus_scaled plus law (λ c. sent (values_at core.scope c)) (λ c. core_there plus tree p a (values_at core.scope c) * others (values_at core.scope (cell_in core.scope core.scope c))) 1 (cells_onto before.scope core.scope d)
            (All-weaker (λ c. (eqb (cell_in before.scope core.scope c) d ≡ true) × (c < cells_in core.scope)) _
            (λ c q. mul-one _ ∙ ap (λ n. core_there plus tree p a (values_at core.scope c) * others (values_at core.scope n)) (own_cell c q.1) ∙ is_sent (values_at core.scope c))
            (cells_onto before.scope core.scope d) (chosen_pass (λ c. eqb (cell_in before.scope core.scope c) d) (cells_in core.scope)))

        pub message_of_both : 1 < length (neighbours tree a) → IsMarginOfProduct plus core product before after → IsRightIn plus shape p a b after
        message_of_both more m =
            let g = out.others more in
            let others : (ℕ → ℕ) → ℕ = gathered plus tree p a (Some b) (neighbours tree a) in
            right_of core before after (λ d. plus_over plus 0 (λ c. core_there plus tree p a (values_at core.scope c) * others (values_at product.scope (cell_in product.scope core.scope c))) (cells_onto before.scope core.scope d))
            (core_steps tree p a + gathered_steps tree p a (Some b) (neighbours tree a) + (2 * cells_beside before.scope core.scope + 1))
            out.sums.scope_is e m.scope m.full
            (m.numbers (λ c. core_there plus tree p a (values_at core.scope c)) (λ c. others (values_at product.scope c)) (core_steps tree p a) (gathered_steps tree p a (Some b) (neighbours tree a)) out.sums.numbers g.cells.numbers)
            (λ d. product_there d others (g.cells.scope_is ∙ sym out.sums.scope_is) (λ t. refl))
            (let l = sums_cost m.beside in let s = others_steps shape p is placing a b h sender back (are_ends a b h).1 more in omega (arith, l, s))
            (let f = message_factors shape p is placing a b h sender in let s = out.sums.small_shift in let t = g.cells.small_shift in omega (arith, f, s, t, m.shift))
            (let r = ratios_sent shape p is placing a b h in record {
              shifted = let s = out.sums.ratios.shifted in let t = g.cells.ratios.shifted in omega (arith, m.shift, s, t, r);
              none = λ z. m.touched.none (out.sums.ratios.none (omega (arith, r, z))) (g.cells.ratios.none (omega (arith, r, z)));
              kept = λ q common v.
                  let w : has_variable before.scope q.variable ≡ true = subst (λ (s : ScopeOf). has_variable s q.variable ≡ true) m.scope v in
                  let x = in_sender core.scope before.scope out.sums.scope_is e q.variable w in
                  m.touched.pairs q w (out.sums.ratios.kept q common x)
                  (g.cells.ratios.kept q common (subst (λ (s : ScopeOf). has_variable s q.variable ≡ true) (out.sums.scope_is ∙ sym g.cells.scope_is) x));
            })

        -- room for it
        pub core_room_there : HasRoom core (2 * cells_in core.scope)
        core_room_there = core_room a sender core out.sums

        pub product_room_there : 1 < length (neighbours tree a) → HasRoom product 1
        product_room_there more = whole_room a sender (Some b) product (out.others more)
