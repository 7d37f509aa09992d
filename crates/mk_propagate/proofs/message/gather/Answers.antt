use Rattle.std.proofs.Common.{◌≡◌, ℕ, ◌+◌, ◌<◌, Bool, true, false, ◌||◌, List, Option, length}
use Rattle.std.proofs.Common.{get_or, slice_index_or, refl, sym, ap, subst, ◌∙◌, arith}
use Rattle.std.proofs.lemmas.Bool.{and_from, both_ways}
use Rattle.std.proofs.lemmas.List.Folds.{list_any_more}
use Rattle.mk_states.specs.Lawful.{Lawful}
use Rattle.mk_sums.specs.Trees.{linked}
use Rattle.mk_sums.proofs.Hops.{are_linked, linked_back, linked_from}
use Rattle.mk_table.specs.Tables.{TableOf}
use Rattle.mk_tree.specs.Given.{link_of}
use Rattle.mk_plan.specs.Shapes.{ShapeOf, IsClique, neighbours}
use Rattle.mk_propagate.specs.Placings.{Placing}
use Rattle.mk_propagate.specs.inner.Gathered.{is_taken, message_in, CanTake, IsGathering}
use Rattle.mk_propagate.specs.inner.Gathered.{IsMessageAlone, IsTimesMessage, IsRightIn}
use Rattle.mk_plan.proofs.Cores.{neighbour_linked}
use Rattle.mk_propagate.proofs.Messages.{first_taken, passed_by, taken_too, taken_room}
use Rattle.mk_propagate.proofs.Messages.{message_room}
use Rattle.mk_propagate.specs.inner.Boards.{BoardOf, IsGatheringIn, product_of, message_of}
use Rattle.mk_propagate.proofs.Boards.{product_same, product_again}
use Rattle.mk_propagate.proofs.Prepared.{both_there, places_there, into_of, into_none}
use Rattle.mk_propagate.proofs.message.gather.Given.{Over}
use Rattle.mk_propagate.proofs.message.gather.Goals as goal
use Rattle.mk_propagate.proofs.message.gather.Goals.{After-is_taken, then-is_taken, else-is_taken}

-- the place of a neighbour in the list
record IsAt (shape : ShapeOf) (k j i : ℕ) : Type 0 where
  within : j < length (neighbours shape.tree k)
  is : i ≡ get_or (neighbours shape.tree k) j 0

at_place : (shape : ShapeOf) (k j : ℕ) (items : List ℕ) → items ≡ neighbours shape.tree k
    → j < length items → IsAt shape k j (slice_index_or items j 0)
at_place shape k j items e l =
    record {
      within = subst (λ (xs : List ℕ). j < length xs) e l;
      is = ap
          (λ (xs : List ℕ). slice_index_or xs j 0) e;
    }

linked_there : (shape : ShapeOf) (k j i : ℕ) → IsAt shape k j i
    → linked (link_of shape.tree) (length shape.tree.cliques) i k ≡ true
linked_there shape k j i at = neighbour_linked shape.tree k j i at.within at.is

pub loop-neighbour-init : goal.loop-neighbour-init
loop-neighbour-init g c = record {
  only = product_same c.args.board.now c.args.clique;
  gathering =
      record {
        scope = c.requires.scope;
        none = λ _. refl;
        has = λ e. absurd (both_ways true e refl);
      };
}

-- the message that is taken is right
right_there : (plus : ℕ → ℕ → ℕ) (shape : ShapeOf) (upward downward : List TableOf) (k j i : ℕ)
    (receiver : Option ℕ) (p : Placing) (taken : Bool) (message : TableOf)
    → CanTake plus shape upward downward k receiver p → IsAt shape k j i
    → taken ≡ is_taken receiver i → taken ≡ true → message ≡ message_in upward downward i k
    → IsRightIn plus shape p i k message
right_there plus shape upward downward k j i receiver p taken message h at is took same =
    subst (λ (t : TableOf). IsRightIn plus shape p i k t) (sym same)
    (h.right i (and_from (linked (link_of shape.tree) (length shape.tree.cliques) i k)
    (is_taken receiver i) (linked_there shape k j i at) (sym is ∙ took)))

-- the neighbour that the loop is at
here : (g : Over) (c : After-is_taken g) → IsAt c.args.shape.now c.args.clique
    c.loop-neighbour.neighbour-index (slice_index_or c.neighbours-neighbour-items.result.now
    c.loop-neighbour.neighbour-index 0)
here g c =
    at_place c.args.shape.now c.args.clique c.loop-neighbour.neighbour-index
    c.neighbours-neighbour-items.result.now c.neighbours-neighbour-items.ensures
    c.loop-neighbour-test.true

pub places-places-requires : goal.places-places-requires
places-places-requires g c =
    let shape = c.args.shape.now in let k = c.args.clique in
    let at = here g (goal.at.places-places-requires g c).After-is_taken in
    linked_from (link_of shape.tree) (length shape.tree.cliques) k _
    (linked_back (link_of shape.tree) (length shape.tree.cliques) _ k
    (are_linked (link_of shape.tree) (length shape.tree.cliques) _ k (linked_there shape k _ _ at)))

pub take-requires : goal.take-requires
take-requires g c =
    let plus = g.R.Semiring.plus_of in let law = g.met.R.Semiring.lawful in
    let shape = c.args.shape.now in let k = c.args.clique in
    let p = c.requires.right.0 in let can = c.requires.right.1 in
    let loop = c.loop-neighbour in let j = loop.neighbour-index in
    let i = slice_index_or c.neighbours-neighbour-items.result.now j 0 in
    let before = c.args.board.now in let board = loop.board in
    let at = here g (goal.at.take-requires g c).After-is_taken in
    let right = right_there plus shape before.upward before.downward k j i c.args.receiver p
    c.is_taken.result (message_of board i k) can at c.is_taken.ensures c.if-is_taken.true
    (ap (λ (b : BoardOf). message_of b i k) loop.invariant.only) in
    record {
      both =
          both_there shape board p can.shape_is can.placing
          (ap (λ (b : BoardOf). length b.tables) loop.invariant.only ∙ c.requires.over) _ k
          (linked_there shape k _ _ at);
      places =
          places_there plus shape k i p (product_of board k) (message_of board i k)
          loop.invariant.gathering.scope right c.places-places.result.now c.places-places.ensures;
      room = λ later.
          taken_room shape p can.shape_is can.placing plus law k c.requires.clique c.args.receiver
          j (product_of board k) (loop.invariant.gathering.has later p can);
      message_room =
          message_room shape p can.shape_is can.placing plus law k c.requires.clique
          c.args.receiver j i at.within at.is (message_of board i k)
          (sym c.is_taken.ensures ∙ c.if-is_taken.true) right;
    }

-- one neighbour more, whose message is taken, or is not
module _ (plus : ℕ → ℕ → ℕ) (law : Lawful plus) (shape : ShapeOf) (upward downward : List TableOf)
    (k j i : ℕ) (clique : IsClique shape.tree k) (receiver : Option ℕ) (at : IsAt shape k j i)
    (taken : Bool)
    (is : taken ≡ is_taken receiver i) where
  taken_step : (first : Bool) (old new message : TableOf) → taken ≡ true
      → message ≡ message_in upward downward i k
      → IsGathering plus shape upward downward k receiver j first old
      → (first ≡ true → IsMessageAlone message old new)
      → (first ≡ false → IsTimesMessage message old new)
      → IsGathering plus shape upward downward k receiver (j + 1) false new
  taken_step true old new message took same h alone more = let m = alone refl in record {
    scope = m.scope ∙ h.scope;
    none = λ e. absurd (both_ways false refl e);
    has = λ _ p can.
        first_taken shape p can.shape_is can.placing plus law k clique receiver j i at.within at.is
        old new message (sym is ∙ took) (h.none refl) h.scope
        (right_there plus shape upward downward k j i receiver p taken message can at is took same)
        m;
  }
  taken_step false old new message took same h alone more = let m = more refl in record {
    scope = m.scope ∙ h.scope;
    none = λ e. absurd (both_ways false refl e);
    has = λ _ p can.
        taken_too shape p can.shape_is can.placing plus law k clique receiver j i at.within at.is
        old new message (sym is ∙ took) (h.has refl p can)
        (right_there plus shape upward downward k j i receiver p taken message can at is took same)
        m.scope m.shift m.full m.numbers m.touched;
  }

  passed_step : (first : Bool) (old : TableOf) → taken ≡ false
      → IsGathering plus shape upward downward k receiver j first old
      → IsGathering plus shape upward downward k receiver (j + 1) first old
  passed_step first old not_taken h = record {
    scope = h.scope;
    none = λ e.
        list_any_more (is_taken receiver) (neighbours shape.tree k) j 0 at.within
        ∙ ap (λ b. b || is_taken receiver (get_or (neighbours shape.tree k) j 0)) (h.none e)
        ∙ sym (ap (is_taken receiver) at.is) ∙ sym is ∙ not_taken;
    has = λ e p can.
        passed_by shape p can.shape_is can.placing plus law k clique receiver j i at.within at.is
        old (sym is ∙ not_taken) (h.has e p can);
  }

pub loop-neighbour-preserved : goal.loop-neighbour-preserved
loop-neighbour-preserved g c =
    let plus = g.R.Semiring.plus_of in let law = g.met.R.Semiring.lawful in
    let shape = c.args.shape.now in let k = c.args.clique in
    let before = c.args.board.now in let board = c.loop-neighbour.board in
    let receiver = c.args.receiver in
    let j = c.loop-neighbour.neighbour-index in
    let i = slice_index_or c.neighbours-neighbour-items.result.now j 0 in
    let at = here g (goal.at.loop-neighbour-preserved g c).After-is_taken in
    elim c.if-is_taken.branch [
      | then-is_taken w ↦
          subst (λ (b : Bool). IsGatheringIn plus shape before c.if-is_taken.board k receiver
          (j + 1) b) (sym w.first-is)
          (subst (λ (b : BoardOf). IsGatheringIn plus shape before b k receiver (j + 1) false)
          (sym w.board-is)
          (record {
            only =
                product_again before board w.take.new.board k (product_of board k)
                c.loop-neighbour.invariant.only w.take.ensures.only;
            gathering =
                taken_step plus law shape before.upward before.downward k j i c.requires.clique
                receiver at c.is_taken.result c.is_taken.ensures c.loop-neighbour.first
                (product_of board k) (product_of w.take.new.board k) (message_of board i k)
                w.if-is_taken.true (ap (λ (b : BoardOf). message_of b i k)
                c.loop-neighbour.invariant.only)
                c.loop-neighbour.invariant.gathering w.take.ensures.first w.take.ensures.more;
          }))
      | else-is_taken w ↦
          subst (λ (b : Bool). IsGatheringIn plus shape before c.if-is_taken.board k receiver
          (j + 1) b) (sym w.first-is)
          (subst (λ (b : BoardOf). IsGatheringIn plus shape before b k receiver (j + 1)
          c.loop-neighbour.first) (sym w.board-is)
          (record {
            only = c.loop-neighbour.invariant.only;
            gathering =
                passed_step plus law shape before.upward before.downward k j i c.requires.clique
                receiver at c.is_taken.result c.is_taken.ensures c.loop-neighbour.first
                (product_of board k) w.if-is_taken.false c.loop-neighbour.invariant.gathering;
          }))
    ]

-- after the last neighbour, where no message was taken
pub returns-then-first : goal.returns-then-first
returns-then-first g c =
    let plus = g.R.Semiring.plus_of in let shape = c.args.shape.now in let k = c.args.clique in
    let before = c.args.board.now in let loop = c.loop-neighbour in
    let product = product_of loop.board k in let cleared = c.clear_product.ensures.made in
    let long : loop.neighbour-index ≡ length (neighbours shape.tree k) =
    let e = ap (λ (xs : List ℕ). length xs) c.neighbours-neighbour-items.ensures in omega
    (arith, e, c.loop-neighbour-test.false, loop.auto.neighbour-index-end) in
    let P = IsGathering plus shape before.upward before.downward k c.args.receiver in
    record {
      only =
          product_again before loop.board c.clear_product.new.self k product loop.invariant.only
          c.clear_product.ensures.only;
      scope = cleared.scope ∙ loop.invariant.gathering.scope ∙ sym c.requires.scope;
      into =
          into_none plus g.met.R.Semiring.lawful shape k c.requires.clique before.upward
          before.downward c.args.receiver product (product_of c.clear_product.new.self k)
          (subst (λ n. P n true product) long
          (subst (λ (b : Bool). P loop.neighbour-index b product) c.if-first.true
          loop.invariant.gathering))
          cleared.scope cleared.shift cleared.ones cleared.full cleared.touched;
    }

-- and where one was
pub returns-else-first : goal.returns-else-first
returns-else-first g c =
    let plus = g.R.Semiring.plus_of in let shape = c.args.shape.now in let k = c.args.clique in
    let before = c.args.board.now in let loop = c.loop-neighbour in
    let product = product_of loop.board k in
    let long : loop.neighbour-index ≡ length (neighbours shape.tree k) =
    let e = ap (λ (xs : List ℕ). length xs) c.neighbours-neighbour-items.ensures in omega
    (arith, e, c.loop-neighbour-test.false, loop.auto.neighbour-index-end) in
    let P = IsGathering plus shape before.upward before.downward k c.args.receiver in
    record {
      only = loop.invariant.only;
      scope = loop.invariant.gathering.scope ∙ sym c.requires.scope;
      into =
          into_of plus g.met.R.Semiring.lawful shape k c.requires.clique before.upward
          before.downward c.args.receiver product
          (subst (λ n. P n false product) long
          (subst (λ (b : Bool). P loop.neighbour-index b product) c.if-first.false
          loop.invariant.gathering));
    }
