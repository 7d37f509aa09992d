-- One message made: which marks are left, and what is right then.
use Rattle.std.proofs.Common.{◌≡◌, ℕ, ◌+◌, ◌-◌, ◌<◌, Bool, true, false, cond, not, ◌&&◌, ◌⊎◌, inl, inr, eqb, ltb, List, length, get_or, set, refl, sym, ap, subst, ◌∙◌, arith, eq-eqb, length-set, get_or-set_same, get_or-set_other}
use Rattle.std.proofs.lemmas.Bool.{cases_eq, cases_Bool, cond-true, cond-false, lt-ltb, le-ltb, and_parts, both_ways, eqb-true, and_from}
use Rattle.mk_sums.proofs.Hops as hops
use Rattle.mk_tree.specs.Given as given
use Rattle.mk_tree.specs.Given.{GivenTree, link_of}
use Rattle.mk_plan.specs.Shapes.{ShapeOf, are_linked}
use Rattle.mk_propagate.specs.Placings.{Placing}
use Rattle.mk_propagate.proofs.Placed.{right_kept}
use Rattle.mk_propagate.specs.Flows.{FlowOf, HasPlaced, IsRight, AreRightBut, KeepsTables, counted_on, message_at}
use Rattle.mk_tree_engine.specs.inner.Marks.{marked, marked_stale, AreMarks, AreMarksOf, cleared_up, cleared_down}
use Rattle.mk_tree_engine.specs.inner.Passes.{AreCurrent, IsMade, IsCount}

-- ---- marks

pub read_up : (up down : List Bool) (a b : ℕ) → b < a → marked_stale up down a b ≡ get_or up (a - 2) true
read_up up down a b l = cond-true (ltb b a) (get_or up (a - 2) true) (get_or down (b - 2) true) (lt-ltb b a l)

pub read_down : (up down : List Bool) (a b : ℕ) → a < b → marked_stale up down a b ≡ get_or down (b - 2) true
read_down up down a b l = cond-false (ltb b a) (get_or up (a - 2) true) (get_or down (b - 2) true) (le-ltb b a (omega arith))

none_of : (x t : Bool) → t ≡ true → false ≡ (x && not t)
none_of true t e = ap not (sym e)
none_of false t e = refl

all_of : (x t : Bool) → t ≡ false → x ≡ (x && not t)
all_of true t e = ap not (sym e)
all_of false t e = refl

both : (i a j b : ℕ) → i ≡ a → j ≡ b → (eqb i a && eqb j b) ≡ true
both i a j b e f = and_from (eqb i a) (eqb j b) (eq-eqb i a e) (eq-eqb j b f)

pub not_both : (i a j b : ℕ) → ((i ≡ a) × (j ≡ b) → ⊥) → (eqb i a && eqb j b) ≡ false
not_both i a j b d = at (cases_Bool (eqb i a && eqb j b))
  where
    at : (((eqb i a && eqb j b) ≡ true) ⊎ ((eqb i a && eqb j b) ≡ false)) → (eqb i a && eqb j b) ≡ false
    at (inl t) = let q = and_parts (eqb i a) (eqb j b) t in absurd (d (eqb-true i a q.0, eqb-true j b q.1))
    at (inr f) = f

-- a list of marks of the cliques from 2 on, in which one is cleared
cleared_at : (xs : List Bool) (x y : ℕ) → 1 < x → x < length xs + 2 → x ≡ y → get_or (set xs (x - 2) false) (y - 2) true ≡ false
cleared_at xs x y p q e =
    let l : x - 2 < length xs = omega arith in
    ap (λ n. get_or (set xs (x - 2) false) (n - 2) true) (sym e) ∙ get_or-set_same xs (x - 2) false true l

cleared_else : (xs : List Bool) (x y : ℕ) → 1 < x → 1 < y → (x ≡ y → ⊥) → get_or (set xs (x - 2) false) (y - 2) true ≡ get_or xs (y - 2) true
cleared_else xs x y p q d = get_or-set_other xs (x - 2) (y - 2) false true (λ e. d (omega arith))

module _ (tree : GivenTree) (links : given.AreLinked tree) (up down : List Bool) (marks : AreMarks (length tree.cliques) up down) where
  cleared_marks : (a b i j : ℕ) → are_linked tree a b ≡ true → are_linked tree i j ≡ true
      → marked_stale (cleared_up up a b) (cleared_down down a b) i j ≡ (marked_stale up down i j && not (eqb i a && eqb j b))
  cleared_marks a b i j ab ij = at (hops.are_linked (link_of tree) (length tree.cliques) a b ab) (hops.are_linked (link_of tree) (length tree.cliques) i j ij)
    where
      Goal : Type 0
      Goal = marked_stale (cleared_up up a b) (cleared_down down a b) i j ≡ (marked_stale up down i j && not (eqb i a && eqb j b))

      up_up : hops.IsChild (link_of tree) (length tree.cliques) a b → hops.IsChild (link_of tree) (length tree.cliques) i j → b < a → j < i
          → ((i ≡ a) ⊎ (i ≡ a → ⊥)) → marked_stale (cleared_up up a b) (cleared_down down a b) i j ≡ (marked_stale up down i j && not (eqb i a && eqb j b))
      up_up p q l m (inl e) =
          let f : j ≡ b = sym q.link_is ∙ ap (link_of tree) e ∙ p.link_is in
          let c : cleared_up up a b ≡ set up (a - 2) false = cond-true (ltb b a) (set up (a - 2) false) up (lt-ltb b a l) in
          let w = p.within in let one = marks.one_less_up in
          read_up (cleared_up up a b) (cleared_down down a b) i j m ∙ ap (λ (xs : List Bool). get_or xs (i - 2) true) c ∙ cleared_at up a i p.later (omega arith) (sym e)
          ∙ none_of (marked_stale up down i j) (eqb i a && eqb j b) (both i a j b e f)
      up_up p q l m (inr d) =
          let c : cleared_up up a b ≡ set up (a - 2) false = cond-true (ltb b a) (set up (a - 2) false) up (lt-ltb b a l) in
          read_up (cleared_up up a b) (cleared_down down a b) i j m ∙ ap (λ (xs : List Bool). get_or xs (i - 2) true) c ∙ cleared_else up a i p.later q.later (λ e. d (sym e))
          ∙ sym (read_up up down i j m) ∙ all_of (marked_stale up down i j) (eqb i a && eqb j b) (not_both i a j b (λ r. d r.0))

      down_down : hops.IsChild (link_of tree) (length tree.cliques) b a → hops.IsChild (link_of tree) (length tree.cliques) j i → a < b → i < j
          → ((j ≡ b) ⊎ (j ≡ b → ⊥)) → marked_stale (cleared_up up a b) (cleared_down down a b) i j ≡ (marked_stale up down i j && not (eqb i a && eqb j b))
      down_down p q l m (inl e) =
          let f : i ≡ a = sym q.link_is ∙ ap (link_of tree) e ∙ p.link_is in
          let c : cleared_down down a b ≡ set down (b - 2) false = cond-false (ltb b a) down (set down (b - 2) false) (le-ltb b a (omega arith)) in
          let w = p.within in let one = marks.one_less_down in
          read_down (cleared_up up a b) (cleared_down down a b) i j m ∙ ap (λ (xs : List Bool). get_or xs (j - 2) true) c ∙ cleared_at down b j p.later (omega arith) (sym e)
          ∙ none_of (marked_stale up down i j) (eqb i a && eqb j b) (both i a j b f e)
      down_down p q l m (inr d) =
          let c : cleared_down down a b ≡ set down (b - 2) false = cond-false (ltb b a) down (set down (b - 2) false) (le-ltb b a (omega arith)) in
          read_down (cleared_up up a b) (cleared_down down a b) i j m ∙ ap (λ (xs : List Bool). get_or xs (j - 2) true) c ∙ cleared_else down b j p.later q.later (λ e. d (sym e))
          ∙ sym (read_down up down i j m) ∙ all_of (marked_stale up down i j) (eqb i a && eqb j b) (not_both i a j b (λ r. d r.1))

      -- a mark of the other way
      up_down : b < a → i < j → marked_stale (cleared_up up a b) (cleared_down down a b) i j ≡ (marked_stale up down i j && not (eqb i a && eqb j b))
      up_down l m =
          let c : cleared_down down a b ≡ down = cond-true (ltb b a) down (set down (b - 2) false) (lt-ltb b a l) in
          read_down (cleared_up up a b) (cleared_down down a b) i j m ∙ ap (λ (xs : List Bool). get_or xs (j - 2) true) c
          ∙ sym (read_down up down i j m) ∙ all_of (marked_stale up down i j) (eqb i a && eqb j b) (not_both i a j b (λ r. let e = r.0 in let f = r.1 in omega arith))

      down_up : a < b → j < i → marked_stale (cleared_up up a b) (cleared_down down a b) i j ≡ (marked_stale up down i j && not (eqb i a && eqb j b))
      down_up l m =
          let c : cleared_up up a b ≡ up = cond-false (ltb b a) (set up (a - 2) false) up (le-ltb b a (omega arith)) in
          read_up (cleared_up up a b) (cleared_down down a b) i j m ∙ ap (λ (xs : List Bool). get_or xs (i - 2) true) c
          ∙ sym (read_up up down i j m) ∙ all_of (marked_stale up down i j) (eqb i a && eqb j b) (not_both i a j b (λ r. let e = r.0 in let f = r.1 in omega arith))

      later : (x y : ℕ) → hops.IsChild (link_of tree) (length tree.cliques) x y → y < x
      later x y p = let l = links.earlier x p.later p.within in omega (arith, l.1, p.link_is)

      at : hops.AreLinked (link_of tree) (length tree.cliques) a b → hops.AreLinked (link_of tree) (length tree.cliques) i j
          → marked_stale (cleared_up up a b) (cleared_down down a b) i j ≡ (marked_stale up down i j && not (eqb i a && eqb j b))
      at (inl p) (inl q) = up_up p q (later a b p) (later i j q) (cases_eq i a)
      at (inl p) (inr q) = up_down (later a b p) (later j i q)
      at (inr p) (inl q) = down_up (later b a p) (later i j q)
      at (inr p) (inr q) = down_down p q (later b a p) (later j i q) (cases_eq j b)

long_up : (up : List Bool) (a b : ℕ) → length (cleared_up up a b) ≡ length up
long_up up a b = at (ltb b a)
  where
    at : (t : Bool) → length (cond t (set up (a - 2) false) up) ≡ length up
    at true = length-set up (a - 2) false
    at false = refl

long_down : (down : List Bool) (a b : ℕ) → length (cleared_down down a b) ≡ length down
long_down down a b = at (ltb b a)
  where
    at : (t : Bool) → length (cond t down (set down (b - 2) false)) ≡ length down
    at true = refl
    at false = length-set down (b - 2) false

-- ---- a message made

module _ (plus : ℕ → ℕ → ℕ) (old : FlowOf) (up down : List Bool) (a b : ℕ) (marks_of : AreMarksOf old.shape.tree up down) (linked_too : are_linked old.shape.tree a b ≡ true) where
  -- where it was current, nothing is done
  pub made_already : marked_stale up down a b ≡ false → IsMade plus a b (marked old up down) (marked old up down)
  made_already fresh = record {
    kept = record { same_shape = refl; same_tables = refl; same_factors = refl; placed = λ p h. h };
    marks_of = marks_of;
    marks = λ i j l. at i j (cases_Bool (eqb i a && eqb j b));
    right = λ p h r k. k;
    counted = λ few. let w = ap {B = ℕ} (λ t. cond t 1 0) fresh in count (cond (marked_stale up down a b) 1 0) w few;
  }
    where
      at : (i j : ℕ) → (((eqb i a && eqb j b) ≡ true) ⊎ ((eqb i a && eqb j b) ≡ false)) → marked_stale up down i j ≡ (marked_stale up down i j && not (eqb i a && eqb j b))
      at i j (inl t) =
          let q = and_parts (eqb i a) (eqb j b) t in
          ap (λ x. marked_stale up down x j) (eqb-true i a q.0) ∙ ap (marked_stale up down a) (eqb-true j b q.1) ∙ fresh ∙ none_of (marked_stale up down i j) (eqb i a && eqb j b) t
      at i j (inr f) = all_of (marked_stale up down i j) (eqb i a && eqb j b) f

      count : (n : ℕ) → n ≡ 0 → IsCount old.computed → old.computed ≡ counted_on old.computed n
      count n e few = omega arith

  module _ (new : FlowOf) (kept : KeepsTables plus old new)
      (right : (p : Placing) → HasPlaced plus old p → AreRightBut plus old p a b → IsRight plus new p a b)
      (others : (i j : ℕ) → are_linked old.shape.tree i j ≡ true → ((i ≡ a) × (j ≡ b) → ⊥) → message_at new i j ≡ message_at old i j)
      (counted : new.computed ≡ counted_on old.computed 1) where
    pub made_anew : marked_stale up down a b ≡ true → (ups downs : List Bool) → ups ≡ cleared_up up a b → downs ≡ cleared_down down a b → IsMade plus a b (marked old up down) (marked new ups downs)
    made_anew stale ups downs eu ed = record {
      kept = kept;
      marks_of = subst (λ (s : ShapeOf). AreMarksOf s.tree ups downs) (sym kept.same_shape) (record { linked = marks_of.linked; marks = still });
      marks = left;
      right = λ p h but current i j l fresh. at p h but current i j (subst (λ (s : ShapeOf). are_linked s.tree i j ≡ true) kept.same_shape l) fresh (cases_Bool (eqb i a && eqb j b));
      counted = λ few. counted ∙ ap (counted_on old.computed) (sym (ap {B = ℕ} (λ t. cond t 1 0) stale));
    }
      where
        still : AreMarks (length old.shape.tree.cliques) ups downs
        still =
            let m = marks_of.marks in
            let lu = ap length eu ∙ long_up up a b in let ld = ap length ed ∙ long_down down a b in
            record { one_less_up = omega (arith, m.one_less_up, lu); one_less_down = omega (arith, m.one_less_down, ld) }

        left : (i j : ℕ) → are_linked old.shape.tree i j ≡ true → marked_stale ups downs i j ≡ (marked_stale up down i j && not (eqb i a && eqb j b))
        left i j l =
            ap (λ (xs : List Bool). marked_stale xs downs i j) eu ∙ ap (λ (xs : List Bool). marked_stale (cleared_up up a b) xs i j) ed
            ∙ cleared_marks old.shape.tree marks_of.linked up down marks_of.marks a b i j linked_too l

        at : (p : Placing) → HasPlaced plus old p → AreRightBut plus old p a b → AreCurrent plus (marked old up down) p → (i j : ℕ) → are_linked old.shape.tree i j ≡ true
            → marked_stale ups downs i j ≡ false → (((eqb i a && eqb j b) ≡ true) ⊎ ((eqb i a && eqb j b) ≡ false)) → IsRight plus new p i j
        at p h but current i j l fresh (inl t) =
            let q = and_parts (eqb i a) (eqb j b) t in
            subst (λ (x : ℕ). IsRight plus new p x j) (sym (eqb-true i a q.0)) (subst (λ (x : ℕ). IsRight plus new p a x) (sym (eqb-true j b q.1)) (right p h but))
        at p h but current i j l fresh (inr f) =
            let was : marked_stale up down i j ≡ false = all_of (marked_stale up down i j) (eqb i a && eqb j b) f ∙ sym (left i j l) ∙ fresh in
            right_kept plus old new p p i j kept.same_shape (others i j l (λ r. both_ways (eqb i a && eqb j b) f (both i a j b r.0 r.1))) refl refl refl (λ pair h. h) (current i j l was)
