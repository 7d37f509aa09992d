-- What is prepared over the core of a clique: its table summed there, and the messages into it.
use Rattle.std.proofs.Common.{◌≡◌, ℕ, ◌+◌, ◌*◌, true, false, refl, List, length, max, Option, Some, None, sym, ap, subst, ◌∙◌, arith}
use Rattle.std.proofs.Math.Seq.{take-length}
use Rattle.std.specs.List.{list_any}
use Rattle.std.proofs.lemmas.Bool.{and_from, and_parts}
use Rattle.mk_states.specs.Lawful.{Lawful}
use Rattle.mk_sums.specs.Trees.{linked, linked_to}
use Rattle.mk_scope.specs.Scopes.{ScopeOf, PlacesOf, cells_in}
use Rattle.mk_scope.specs.Cells.{cell_in}
use Rattle.mk_table.specs.Tables.{TableOf, HasNumbers, HasRoom}
use Rattle.mk_table.specs.Ratios.{KeepsPairs}
use Rattle.mk_tree.specs.Given.{link_of}
use Rattle.mk_plan.specs.Shapes.{ShapeOf, IsShapeFor, IsClique, are_linked as is_linked, clique_scope, core_scope, separator_scope, separator_between, neighbours}
use Rattle.mk_propagate.specs.Placings.{Placing, IsPlacing}
use Rattle.mk_propagate.specs.Flows.{HasSums}
use Rattle.mk_propagate.specs.inner.Gathered.{is_taken, message_in, IsRightIn, CanTake, HasGathered, HasInto, IsGathering, IsMargin, IsPlacedIn}
use Rattle.mk_propagate.specs.inner.Boards.{BoardOf, IsOver, HasBoth, CanSumCore, table_of, core_of, places_of}
use Rattle.mk_propagate.proofs.Messages.{are_ends, core_sums, none_gathered, whole_room, put_back, back_room}

-- two cliques that are linked are cliques of a board over the shape
pub both_there : (shape : ShapeOf) (board : BoardOf) (p : Placing) → IsShapeFor shape p.network → IsPlacing shape.tree p → IsOver shape board
    → (a b : ℕ) → is_linked shape.tree a b ≡ true → HasBoth board a b
both_there shape board p fits placing over a b l =
    let e = are_ends shape p fits placing a b l in
    record {
      one = record { first = e.0.first; last = omega (arith, e.0.last, over) };
      other = record { first = e.1.first; last = omega (arith, e.1.last, over) };
      apart = e.2;
    }

-- the shape has the places of a clique's core in its table
pub core_places_there : (shape : ShapeOf) (board : BoardOf) (k : ℕ) → CanSumCore shape board k
    → (places : PlacesOf) → places ≡ record { whole = clique_scope shape k; part = core_scope shape k }
    → places ≡ places_of (table_of board k) (core_of board k)
core_places_there shape board k can places e =
    e ∙ ap (λ (s : ScopeOf). record { whole = s; part = core_scope shape k }) (sym can.of_table)
    ∙ ap (λ (s : ScopeOf). record { whole = (table_of board k).scope; part = s }) (sym can.of_core)

-- the shape has its places in what is gathered so far
pub places_there : (plus : ℕ → ℕ → ℕ) (shape : ShapeOf) (k i : ℕ) (p : Placing) (old message : TableOf) → old.scope ≡ core_scope shape k
    → IsRightIn plus shape p i k message → (places : PlacesOf) → places ≡ record { whole = core_scope shape k; part = separator_between shape k i } → places ≡ record { whole = old.scope; part = message.scope }
places_there plus shape k i p old message scope right places e =
    let m : max k i ≡ max i k = omega arith in
    e ∙ ap (λ (s : ScopeOf). record { whole = s; part = separator_between shape k i }) (sym scope)
    ∙ ap (λ (s : ScopeOf). record { whole = old.scope; part = s }) (ap (separator_scope shape) m ∙ sym right.scope_is)

module _ (plus : ℕ → ℕ → ℕ) (law : Lawful plus) (shape : ShapeOf) (k : ℕ) (clique : IsClique shape.tree k) where
  -- where the clique's table has what is placed there, its margin onto the core has the sums
  pub sums_of : (table before after : TableOf) → before.scope ≡ core_scope shape k → IsMargin plus table before after → (p : Placing) → IsPlacedIn shape p k table → HasSums plus shape p k after
  sums_of table before after e m p h = core_sums shape p h.shape_is h.placing plus law k clique table before after h.cells e m

  module _ (upward downward : List TableOf) where
    -- after the last neighbour, once a message was taken
    pub into_of : (receiver : Option ℕ) (product : TableOf) → IsGathering plus shape upward downward k receiver (length (neighbours shape.tree k)) false product → HasInto plus shape upward downward k receiver product
    into_of receiver product h = record {
      into = λ p can. subst (λ (xs : List ℕ). HasGathered plus shape k receiver xs product p) (take-length (neighbours shape.tree k)) (h.has refl p can);
    }

    -- where none was taken it is 1
    pub into_none : (receiver : Option ℕ) (before product : TableOf) → IsGathering plus shape upward downward k receiver (length (neighbours shape.tree k)) true before
        → product.scope ≡ before.scope → product.shift ≡ 0 → HasNumbers product (λ c. 1) 0 → length product.digits ≡ cells_in product.scope → product.touched ≡ None → HasInto plus shape upward downward k receiver product
    into_none receiver before product h scope shift ones full touched = record {
      into = λ p can.
          none_gathered shape p can.shape_is can.placing plus law k clique receiver (neighbours shape.tree k) product
          (subst (λ (xs : List ℕ). list_any (is_taken receiver) xs ≡ false) (take-length (neighbours shape.tree k)) (h.none refl)) (scope ∙ h.scope) shift ones full touched;
    }

    -- the message that a product leaves out is put back
    module _ (i : ℕ) (l : linked (link_of shape.tree) (length shape.tree.cliques) i k ≡ true) (old message : TableOf) (h : HasInto plus shape upward downward k (Some i) old) (same : message ≡ message_in upward downward i k) where
      all_but : (p : Placing) → CanTake plus shape upward downward k None p → CanTake plus shape upward downward k (Some i) p
      all_but p can = record {
        shape_is = can.shape_is;
        placing = can.placing;
        right = λ j input. can.right j (and_from (linked_to (link_of shape.tree) (length shape.tree.cliques) k j) true (and_parts (linked_to (link_of shape.tree) (length shape.tree.cliques) k j) (is_taken (Some i) j) input).0 refl);
      }

      pub left_out : (p : Placing) → CanTake plus shape upward downward k None p → IsRightIn plus shape p i k message
      left_out p can = subst (λ (t : TableOf). IsRightIn plus shape p i k t) (sym same) (can.right i (and_from (linked_to (link_of shape.tree) (length shape.tree.cliques) k i) true l refl))

      pub left_out_room : (p : Placing) → CanTake plus shape upward downward k None p → HasRoom message 1
      left_out_room p can = back_room shape p can.shape_is can.placing plus law k clique i l message (left_out p can)

      pub room_for_it : (p : Placing) → CanTake plus shape upward downward k None p → HasRoom old 1
      room_for_it p can = whole_room shape p can.shape_is can.placing plus law k clique (Some i) old (h.into p (all_but p can))

      pub scope_before : (p : Placing) → CanTake plus shape upward downward k None p → old.scope ≡ core_scope shape k
      scope_before p can = (h.into p (all_but p can)).cells.scope_is

      pub into_back : (new : TableOf) → new.scope ≡ old.scope → new.shift ≡ old.shift + message.shift → length new.digits ≡ cells_in new.scope
          → ((f g : ℕ → ℕ) (n q : ℕ) → HasNumbers old f n → HasNumbers message g q → HasNumbers new (λ c. f c * g (cell_in message.scope old.scope c)) (n + q + 1))
          → KeepsPairs old.scope old.touched message.touched new.touched → HasInto plus shape upward downward k None new
      into_back new scope shift full numbers touched = record {
        into = λ p can. put_back shape p can.shape_is can.placing plus law k clique i l old new message (h.into p (all_but p can)) (left_out p can) scope shift full numbers touched;
      }
