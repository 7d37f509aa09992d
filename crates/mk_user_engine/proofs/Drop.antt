-- Variables that nothing reads drop out of a least value: each state has the value of a cell, and
-- each cell that agrees with
-- the pairs has the value of a state.
use Rattle.std.proofs.Common.{◌≡◌, ℕ, suc, zero, ◌<◌, ◌≤◌, Bool, true, false, cond, not, ◌&&◌, ◌||◌}
use Rattle.std.proofs.Common.{◌⊎◌, inl, inr, eqb}
use Rattle.std.proofs.Common.{List, [], ◌∷◌, All, map, length, slice_index, slice_index_or, refl}
use Rattle.std.proofs.Common.{sym, ap, subst, ◌∙◌, arith, eq-eqb}
use Rattle.std.specs.List.{AllByRecursion, Contains}
use Rattle.std.proofs.lemmas.Bool.{cases_Bool, eqb-true, and_parts}
use Rattle.std.proofs.lemmas.List.Elements.{recursion_from_All, All-weaker, All-contains_itself}
use Rattle.std.proofs.lemmas.List.FromFn.{get_or-map-range_with_len, length-map-range_with_len}
use Rattle.mk_net.specs.declared.words.Pair.{Pair}
use Rattle.mk_states.specs.States.{states, plus_over, numbers_below, IsState}
use Rattle.mk_states.specs.InitialWeight.{value_at}
use Rattle.mk_states.specs.Events.{holds, has}
use Rattle.mk_states.proofs.Listed.{states_are}
use Rattle.mk_sums.specs.Sums.{Within}
use Rattle.mk_cell.specs.Least.{least}
use Rattle.mk_cell.specs.Passes.{plus_below}
use Rattle.mk_semiring.specs.Least.{absent_or_present}
use Rattle.mk_user_engine.specs.declared.names.Named.{Named}
use Rattle.mk_user_engine.specs.Names.{is_named, value_in, agrees, AreStrided, IsSized}
use Rattle.mk_user_engine.specs.Narrow.{Agree}
use Rattle.mk_user_engine.specs.Laws.{IsPairIn}
use Rattle.mk_user_engine.proofs.Least.{below_has, below_attained, over_attained, states_have}
use Rattle.mk_user_engine.proofs.Coded.{cell_of_values, value_below, name_within}

-- what is present passed its test
pub passed : (b : Bool) (n : ℕ) → 0 < cond b n 0 → b ≡ true
passed true n p = refl
passed false n p = absurd (omega arith)

-- ---- the first value that pairs give a variable

abbrev pub first_given : List Pair → ℕ → ℕ
first_given [] x = 0
first_given (p ∷ ps) x = cond (eqb p.variable x) p.value (first_given ps x)

abbrev Given : List Pair → ℕ → ℕ → Type 0
Given ps x v = (q : Pair) × Contains ps q × (q.variable ≡ x) × (v ≡ q.value)

later : (p : Pair) (ps : List Pair) (x v : ℕ) → Given ps x v → Given (p ∷ ps) x v
later p ps x v h = let c = h.1 in (h.0, (suc c.0, omega (arith, c.1), c.2), h.2, h.3)

-- it is that of one of them
given_by : (ps : List Pair) (p : Pair) → Contains ps p
    → Given ps p.variable (first_given ps p.variable)
given_by [] p c = absurd (omega (arith, c.1))
given_by (q ∷ qs) p c = at (cases_Bool (eqb q.variable p.variable)) c (given_by qs p)
  where
    rest : ℕ
    rest = first_given qs p.variable

    place : (k : ℕ) → eqb q.variable p.variable ≡ false → k < length (q ∷ qs)
        → slice_index_or (q ∷ qs) k p ≡ p → Contains qs p
    place zero e l i = let same : eqb q.variable p.variable ≡ true = eq-eqb q.variable p.variable
        (ap (λ (r : Pair). r.variable) i) in absurd (cc)
    place (suc k) e l i = (k, omega arith, i)

    at : ((eqb q.variable p.variable ≡ true) ⊎ (eqb q.variable p.variable ≡ false))
        → Contains (q ∷ qs) p
        → (Contains qs p → Given qs p.variable rest)
        → Given (q ∷ qs) p.variable (cond (eqb q.variable p.variable) q.value rest)
    at (inl e) c ih = (
      q,
      (0, omega arith, refl),
      eqb-true q.variable p.variable e,
      ap (λ b. cond b q.value rest) e,
    )
    at (inr e) c ih =
        subst (Given (q ∷ qs) p.variable) (sym (ap (λ b. cond b q.value rest) e))
        (later q qs p.variable rest (ih (place c.0 e c.1 c.2)))

pub given_is : (ps : List Pair) → Agree ps → (p : Pair) → Contains ps p
    → first_given ps p.variable ≡ p.value
given_is ps agree p c = let h = given_by ps p c in h.3 ∙ agree h.0 p h.1 c h.2

given_below : (sizes : List ℕ) (ps : List Pair) → AllByRecursion (IsPairIn sizes) ps → (x : ℕ)
    → 1 ≤ slice_index sizes x → first_given ps x < slice_index sizes x
given_below sizes [] h x some = omega arith
given_below sizes (p ∷ ps) h x some = at (cases_Bool (eqb p.variable x)) (given_below sizes ps h.1
    x some)
  where
    at : ((eqb p.variable x ≡ true) ⊎ (eqb p.variable x ≡ false))
        → first_given ps x < slice_index sizes x
        → cond (eqb p.variable x) p.value (first_given ps x) < slice_index sizes x
    at (inl e) ih = rw e (subst (λ y. p.value < slice_index sizes y) (eqb-true p.variable x e)
        (let is = h.0 in is.value))
    at (inr e) ih = rw e ih

-- ---- cells and states

module _ (sizes : List ℕ) (names : List Named) (cells : ℕ) (pairs : List Pair) (f : (ℕ → ℕ) → ℕ)
    (some : (x : ℕ) → x < length sizes → 1 ≤ slice_index sizes x) (strided : AreStrided 1 names
    cells) (sized : All (IsSized sizes) names)
    (reads : Within (is_named names) f) (own : All (IsPairIn sizes) pairs) (agree : Agree pairs)
  where
    abbrev of_state : List ℕ → ℕ
    of_state s = cond (holds pairs s) (f (value_at s)) 0

    abbrev of_cell : ℕ → ℕ
    of_cell c = cond (agrees names pairs c) (f (value_in names c)) 0

    -- a state's cell
    agrees_there : (s : List ℕ) (c : ℕ) → ((x : ℕ) → is_named names x ≡ true
        → value_in names c x ≡ value_at s x)
        → (ps : List Pair) → holds ps s ≡ true → agrees names ps c ≡ true
    agrees_there s c same [] h = refl
    agrees_there s c same (p ∷ ps) h =
        let parts = and_parts (has p s) (holds ps s) h in
        and_left-right (at (cases_Bool (is_named names p.variable)) parts.0) (agrees_there s c same
        ps parts.1)
      where
        and_left-right : {a b : Bool} → a ≡ true → b ≡ true → (a && b) ≡ true
        and_left-right e g = rw (e, g) refl

        at : ((is_named names p.variable ≡ true) ⊎ (is_named names p.variable ≡ false))
            → has p s ≡ true
            → (not (is_named names p.variable) || eqb (value_in names c p.variable) p.value) ≡ true
        at (inl e) holds_here = ap (λ b. not b || eqb (value_in names c p.variable) p.value) e
            ∙ ap (λ v. eqb v p.value) (same p.variable e) ∙ holds_here
        at (inr e) holds_here = ap (λ b. not b || eqb (value_in names c p.variable) p.value) e

    cell_for : (s : List ℕ) → IsState sizes s → 0 < of_state s
        → (c : ℕ) × (c < cells) × (of_cell c ≡ of_state s)
    cell_for s is p =
        let found = cell_of_values (value_at s) names cells strided
        (All-weaker (IsSized sizes) (λ n. value_at s n.variable < n.values) (λ n i. let r =
        is.in_range n.variable i.within in let e = i.size_is in omega (
          arith,
          r,
          e,
        )) names sized) in
        let there : holds pairs s ≡ true = passed (holds pairs s) (f (value_at s)) p in
        let here = agrees_there s found.0 found.2 pairs there in (
          found.0,
          found.1,
          ap (λ b. cond b (f (value_in names found.0)) 0) here
              ∙ reads (value_in names found.0) (value_at s) found.2
              ∙ sym (ap (λ b. cond b (f (value_at s)) 0) there),
        )

    -- a cell's state
    abbrev filled : ℕ → ℕ → ℕ
    filled c x = cond (is_named names x) (value_in names c x) (first_given pairs x)

    abbrev state_of : ℕ → List ℕ
    state_of c = map (filled c) (numbers_below (length sizes))

    filled_at : (c x : ℕ) → x < length sizes → value_at (state_of c) x ≡ filled c x
    filled_at c x l = get_or-map-range_with_len (filled c) 0 (length sizes) x x 0 l (omega arith)

    filled_below : (c x : ℕ) → x < length sizes → filled c x < slice_index sizes x
    filled_below c x l = at (cases_Bool (is_named names x))
      where
        at : ((is_named names x ≡ true) ⊎ (is_named names x ≡ false))
            → filled c x < slice_index sizes x
        at (inl e) = rw e (value_below sizes names c x sized e)
        at (inr e) = rw e (given_below sizes pairs (recursion_from_All (IsPairIn sizes) pairs own) x
            (some x l))

    is_state : (c : ℕ) → IsState sizes (state_of c)
    is_state c = record {
      one_each = length-map-range_with_len (filled c) 0 (length sizes);
      in_range = λ x l.
          let e = filled_at c x l in
          let b = filled_below c x l in
          omega (arith, e, b);
    }

    holds_there : (c : ℕ) (ps : List Pair) → AllByRecursion (IsPairIn sizes) ps
        → AllByRecursion (Contains pairs) ps → agrees names ps c ≡ true
        → holds ps (state_of c) ≡ true
    holds_there c [] h k a = refl
    holds_there c (p ∷ ps) h k a =
        let parts = and_parts (not (is_named names p.variable) || eqb (value_in names c p.variable)
        p.value) (agrees names ps c) a in
        both
        (eq-eqb (value_at (state_of c) p.variable) p.value (filled_at c p.variable (let is = h.0
        in is.variable) ∙ at (cases_Bool (is_named names p.variable)) parts.0))
        (holds_there c ps h.1 k.1 parts.1)
      where
        both : {x y : Bool} → x ≡ true → y ≡ true → (x && y) ≡ true
        both e g = rw (e, g) refl

        at : ((is_named names p.variable ≡ true) ⊎ (is_named names p.variable ≡ false))
            → (not (is_named names p.variable) || eqb (value_in names c p.variable) p.value) ≡ true
            → filled c p.variable ≡ p.value
        at (inl e) q =
            ap (λ b. cond b (value_in names c p.variable) (first_given pairs p.variable)) e
            ∙ eqb-true (value_in names c p.variable) p.value (sym (ap (λ b. not b || eqb
            (value_in names c p.variable) p.value) e) ∙ q)
        at (inr e) q = ap (λ b. cond b (value_in names c p.variable) (first_given pairs p.variable))
            e ∙ given_is pairs agree p k.0

    state_for : (c : ℕ) → 0 < of_cell c → (s : List ℕ) × IsState sizes s × (of_state s ≡ of_cell c)
    state_for c p =
        let here : agrees names pairs c ≡ true =
        passed (agrees names pairs c) (f (value_in names c))
        p in
        let there = holds_there c pairs (recursion_from_All (IsPairIn sizes) pairs own)
        (recursion_from_All (Contains pairs) pairs (All-contains_itself pairs)) here in (
          state_of c,
          is_state c,
          ap (λ b. cond b (f (value_at (state_of c))) 0) there
              ∙ reads (value_at (state_of c)) (value_in names c) (λ x e. filled_at c x
              (name_within sizes names x sized e) ∙ ap (λ b. cond b (value_in names c x)
              (first_given pairs x)) e)
              ∙ sym (ap (λ b. cond b (f (value_in names c)) 0) here),
        )

    abbrev by_states : ℕ
    by_states = plus_over least 0 of_state (states sizes)

    abbrev by_cells : ℕ
    by_cells = plus_below least cells of_cell

    cells_reach : 0 < by_states → (0 < by_cells) × (by_cells ≤ by_states)
    cells_reach p = at (over_attained (IsState sizes) of_state (states sizes) (states_are sizes))
      where
        at : ((by_states ≡ 0) ⊎ ((s : List ℕ) × IsState sizes s × (of_state s ≡ by_states)))
            → (0 < by_cells) × (by_cells ≤ by_states)
        at (inl z) = absurd (omega (arith, z, p))
        at (inr h) =
            let e = h.2 in let c = cell_for h.0 h.1 (omega (arith, e, p)) in
            let g = c.2 in let b = below_has cells of_cell c.0 c.1 (omega (arith, e, p, g)) in
            (b.0, omega (arith, b.1, e, g))

    states_reach : 0 < by_cells → (0 < by_states) × (by_states ≤ by_cells)
    states_reach p = at (below_attained cells of_cell)
      where
        at : ((by_cells ≡ 0) ⊎ ((c : ℕ) × (c < cells) × (of_cell c ≡ by_cells)))
            → (0 < by_states) × (by_states ≤ by_cells)
        at (inl z) = absurd (omega (arith, z, p))
        at (inr h) =
            let e = h.2 in let s = state_for h.0 (omega (arith, e, p)) in
            let g = s.2 in let b = states_have sizes of_state s.0 s.1 (omega (arith, e, p, g)) in
            (b.0, omega (arith, b.1, e, g))

    pub drops : by_states ≡ by_cells
    drops = at (absent_or_present by_states) (absent_or_present by_cells)
      where
        at : ((by_states ≡ 0) ⊎ (0 < by_states)) → ((by_cells ≡ 0) ⊎ (0 < by_cells))
            → by_states ≡ by_cells
        at (inl z) (inl y) = z ∙ sym y
        at (inl z) (inr p) = let h = (states_reach p).0 in absurd (omega (arith, z, h))
        at (inr p) y = let h = cells_reach p in let k = states_reach h.0 in omega (arith, h.1, k.1)
