-- Cells, variable by variable and clique by clique.
use Rattle.std.specs.Prelude.{◌≡◌, ℕ, zero, suc, ◌+◌, ◌*◌, ◌^◌, ◌<◌, ◌≤◌, List, [], ◌∷◌, length, filter, Bool, true, false, not, cond, ◌&&◌, ◌==◌, ◌||◌, ◌⊎◌, nat_lt, nat_le, if◌then◌else◌, slice_index, drop, Option, Some, None, All, sum_by}
use Rattle.std.specs.List.{range_with_len}
use Rattle.std.proofs.Common.{refl, sym, ap, ◌∙◌, arith, inl, inr}
use Rattle.std.proofs.lemmas.Bool.{cases_Bool, cases_eq, and_parts, and_left, and_right}
use Rattle.std.proofs.lemmas.Bool.{not_from_true, eq-eqb, ne_eqb, cond-true, cond-false, le-leb}
use Rattle.std.proofs.lemmas.Bool.{lt-leb, ltb-false, le-ltb, or_parts}
use Rattle.std.proofs.lemmas.List.Sums.{sum_by-cons}
use Rattle.std.proofs.Math.Nat.{mul-le-mul}
use Rattle.std.proofs.lemmas.List.Elements.{All-nil, All-cons, All-head, All-tail}
use Rattle.mk_sets.specs.Sets.{VarSet, is_member}
use Rattle.mk_net.specs.Network.{Variable, IsNetwork, sizes, choices}
use Rattle.mk_states.specs.States.{numbers_below}
use Rattle.mk_net.proofs.Networks.{two_values}
use Rattle.mk_tree.specs.Tests.{members, cells_of, first_too_large}

-- tests that agree from a number on keep the same
same_kept : (p q : ℕ → Bool) (a n : ℕ) → ((y : ℕ) → a ≤ y → p y ≡ q y) → filter p (range_with_len a n) ≡ filter q (range_with_len a n)
same_kept p q a zero same = refl
same_kept p q a (suc n) same =
    ap (λ (t : Bool). cond t (a ∷ filter p (range_with_len (a + 1) n)) (filter p (range_with_len (a + 1) n))) (same a (omega arith))
    ∙ ap (λ (xs : List ℕ). cond (q a) (a ∷ xs) xs) (same_kept p q (a + 1) n (λ y past. same y (omega (arith, past))))

none_kept : (p : ℕ → Bool) (a n : ℕ) → ((y : ℕ) → p y ≡ false) → filter p (range_with_len a n) ≡ []
none_kept p a zero none = refl
none_kept p a (suc n) none =
    cond-false (p a) (a ∷ filter p (range_with_len (a + 1) n)) (filter p (range_with_len (a + 1) n)) (none a) ∙ none_kept p (a + 1) n none

and_true : (t : Bool) → (t && true) ≡ t
and_true true = refl
and_true false = refl

-- the first number that is kept, and the others
first_kept : (p q : ℕ → Bool) (a n x : ℕ) → a ≤ x → x < a + n → p x ≡ true → ((y : ℕ) → y < x → p y ≡ false)
    → ((y : ℕ) → q y ≡ (p y && not (y == x))) → filter p (range_with_len a n) ≡ x ∷ filter q (range_with_len a n)
first_kept p q a zero x low high kept before rest = absurd (omega (arith, low, high))
first_kept p q a (suc n) x low high kept before rest =
    at (cases_eq x a) (λ later. first_kept p q (a + 1) n x later (omega (arith, high)) kept before rest)
  where
    without : q x ≡ false
    without = rest x ∙ and_right (p x) (not (x == x)) (not_from_true (x == x) (eq-eqb x x refl))

    later : (y : ℕ) → x + 1 ≤ y → p y ≡ q y
    later y past = sym (rest y ∙ ap (λ (t : Bool). p y && not t) (ne_eqb y x (λ e. omega (arith, e, past))) ∙ and_true (p y))

    at : ((x ≡ a) ⊎ (x ≡ a → ⊥)) → (a + 1 ≤ x → filter p (range_with_len (a + 1) n) ≡ x ∷ filter q (range_with_len (a + 1) n))
        → cond (p a) (a ∷ filter p (range_with_len (a + 1) n)) (filter p (range_with_len (a + 1) n))
        ≡ x ∷ cond (q a) (a ∷ filter q (range_with_len (a + 1) n)) (filter q (range_with_len (a + 1) n))
    at (inl here) ih =
        cond-true (p a) (a ∷ filter p (range_with_len (a + 1) n)) (filter p (range_with_len (a + 1) n)) (ap p (sym here) ∙ kept)
        ∙ ap (λ (k : ℕ). k ∷ filter p (range_with_len (a + 1) n)) (sym here)
        ∙ ap (λ (xs : List ℕ). x ∷ xs) (same_kept p q (a + 1) n (λ y past. later y (omega (arith, past, here)))
        ∙ sym (cond-false (q a) (a ∷ filter q (range_with_len (a + 1) n)) (filter q (range_with_len (a + 1) n)) (ap q (sym here) ∙ without)))
    at (inr other) ih =
        let below : p a ≡ false = before a (omega (arith, low, other)) in
        cond-false (p a) (a ∷ filter p (range_with_len (a + 1) n)) (filter p (range_with_len (a + 1) n)) below
        ∙ ih (omega (arith, low, other))
        ∙ ap (λ (xs : List ℕ). x ∷ xs) (sym (cond-false (q a) (a ∷ filter q (range_with_len (a + 1) n)) (filter q (range_with_len (a + 1) n))
        (rest a ∙ and_left (p a) (not (a == x)) below)))

-- a set's first variable, and the set without it
pub record IsFirstOf (left : VarSet) (x : ℕ) (rest : VarSet) : Type 0 where
  pub member : is_member left x ≡ true
  pub least : (y : ℕ) → y < x → is_member left y ≡ false
  pub others : (y : ℕ) → is_member rest y ≡ (is_member left y && not (y == x))

pub first_taken : (none one left rest : VarSet) (x : ℕ) → is_member left x ≡ true → ((y : ℕ) → y < x → is_member left y ≡ false)
    → ((y : ℕ) → is_member none y ≡ false) → ((y : ℕ) → is_member one y ≡ (y == x) || is_member none y)
    → ((y : ℕ) → is_member rest y ≡ is_member left y && not (is_member one y)) → IsFirstOf left x rest
first_taken none one left rest x member least empty is_one without = record {
  member = member;
  least = least;
  others = λ y. without y ∙ ap (λ (t : Bool). is_member left y && not t) (is_one y ∙ ap (λ (t : Bool). (y == x) || t) (empty y) ∙ or_false (y == x));
}
  where
    or_false : (t : Bool) → (t || false) ≡ t
    or_false true = refl
    or_false false = refl

members_from_first : (network : List Variable) (left rest : VarSet) (x : ℕ) → x < length network → IsFirstOf left x rest
    → members network left ≡ x ∷ members network rest
members_from_first network left rest x within first =
    first_kept (is_member left) (is_member rest) 0 (length network) x (omega arith) (omega (arith, within)) first.member first.least first.others

-- without its first variable a set has fewer below a number
pub fewer_kept : (n : ℕ) (left rest : VarSet) (x : ℕ) → x < n → IsFirstOf left x rest
    → length (filter (is_member rest) (numbers_below n))
    < length (filter (is_member left) (numbers_below n))
fewer_kept n left rest x within first =
    let kept : filter (is_member left) (numbers_below n)
    ≡ x ∷ filter (is_member rest) (numbers_below n) =
    first_kept (is_member left) (is_member rest) 0 n x (omega arith) (omega (arith, within))
    first.member first.least first.others in
    let longer = ap length kept in
    omega (arith, longer)

pub fewer_members : (network : List Variable) (left rest : VarSet) (x : ℕ) → x < length network → IsFirstOf left x rest
    → length (members network rest) < length (members network left)
fewer_members network = fewer_kept (length network)

cells_from_first : (network : List Variable) (left rest : VarSet) (x : ℕ) → x < length network → IsFirstOf left x rest
    → cells_of network left ≡ slice_index (sizes network) x * cells_of network rest
cells_from_first network left rest x within first = ap (choices (sizes network)) (members_from_first network left rest x within first)

positive_product : (a b : ℕ) → 1 ≤ a → 1 ≤ b → 1 ≤ a * b
positive_product zero b p q = absurd (omega (arith, p))
positive_product (suc a) zero p q = absurd (omega (arith, q))
positive_product (suc a) (suc b) p q = grind arith

-- there is a cell
positive : (network : List Variable) (p : ℕ → Bool) → IsNetwork network → (i n : ℕ) → i + n ≤ length network
    → 1 ≤ choices (sizes network) (filter p (range_with_len i n))
positive network p is i zero within = omega arith
positive network p is i (suc n) within = at (cases_Bool (p i)) (positive network p is (i + 1) n (omega (arith, within)))
  where
    at : ((p i ≡ true) ⊎ (p i ≡ false)) → 1 ≤ choices (sizes network) (filter p (range_with_len (i + 1) n))
        → 1 ≤ choices (sizes network) (cond (p i) (i ∷ filter p (range_with_len (i + 1) n)) (filter p (range_with_len (i + 1) n)))
    at (inl e) ih =
        let two = two_values network i is (omega (arith, within)) in
        rw e (positive_product (slice_index (sizes network) i) (choices (sizes network) (filter p (range_with_len (i + 1) n))) (omega (arith, two)) ih)
    at (inr e) ih = rw e ih

pub cells_positive : (network : List Variable) (set : VarSet) → IsNetwork network → 1 ≤ cells_of network set
cells_positive network set is = positive network (is_member set) is 0 (length network) (omega arith)

-- the cells so far times those of the variables that are left are all
pub record AreCells (network : List Variable) (set left : VarSet) (cells : ℕ) : Type 0 where
  pub whole : cells * cells_of network left ≡ cells_of network set
  pub few : cells ≤ 4096
  pub inside : (x : ℕ) → is_member left x ≡ true → x < length network

regroup : (a b c : ℕ) → a * b * c ≡ a * (b * c)
regroup a b c = grind arith

one_more : (network : List Variable) (set left rest : VarSet) (x cells values : ℕ) → IsFirstOf left x rest → values ≡ slice_index (sizes network) x
    → AreCells network set left cells → cells * values * cells_of network rest ≡ cells_of network set
one_more network set left rest x cells values first count before =
    regroup cells values (cells_of network rest)
    ∙ ap (λ (n : ℕ). cells * n) (ap (λ (n : ℕ). n * cells_of network rest) count ∙ sym (cells_from_first network left rest x (before.inside x first.member) first))
    ∙ before.whole

pub cells_grow : (network : List Variable) (set left rest : VarSet) (x cells values : ℕ) → IsFirstOf left x rest → values ≡ slice_index (sizes network) x
    → cells * values ≤ 4096 → AreCells network set left cells → AreCells network set rest (cells * values)
cells_grow network set left rest x cells values first count few before = record {
  whole = one_more network set left rest x cells values first count before;
  few = few;
  inside = λ y member. before.inside y ((and_parts (is_member left y) (not (y == x)) (sym (first.others y) ∙ member)).0);
}

-- how many, or none where they are too many
abbrev pub few_cells : List Variable → VarSet → Option ℕ
few_cells network set = if nat_le (cells_of network set) 4096 then Some (cells_of network set) else None

pub cells_end : (network : List Variable) (set left : VarSet) (cells : ℕ) → ((x : ℕ) → is_member left x ≡ false)
    → AreCells network set left cells → Some cells ≡ few_cells network set
cells_end network set left cells none are =
    let no_members : members network left ≡ [] = none_kept (is_member left) 0 (length network) none in
    let one : cells * cells_of network left ≡ cells * 1 = ap (λ (xs : List ℕ). cells * choices (sizes network) xs) no_members in
    let all : cells ≡ cells_of network set = omega (arith, one, are.whole) in
    let few : cells_of network set ≤ 4096 = omega (arith, all, are.few) in
    ap (λ (n : ℕ). Some n) all ∙ sym (cond-true (nat_le (cells_of network set) 4096) (Some (cells_of network set)) None (le-leb (cells_of network set) 4096 few))

more_with_rest : (a b c : ℕ) → 4096 < a → 1 ≤ b → a * b ≡ c → 4096 < c
more_with_rest a zero c p q e = absurd (omega (arith, q))
more_with_rest a (suc b) c p q e =
    let apart : a * suc b ≡ a * b + a = grind arith in
    omega (arith, p, e, apart)

pub cells_stop : (network : List Variable) (set left rest : VarSet) (x cells values : ℕ) → IsNetwork network → IsFirstOf left x rest
    → values ≡ slice_index (sizes network) x → 4096 < cells * values → AreCells network set left cells → None ≡ few_cells network set
cells_stop network set left rest x cells values is first count many before =
    let more : 4096 < cells_of network set = more_with_rest (cells * values) (cells_of network rest) (cells_of network set) many
    (cells_positive network rest is) (one_more network set left rest x cells values first count before) in
    sym (cond-false (nat_le (cells_of network set) 4096) (Some (cells_of network set)) None (lt-leb (cells_of network set) 4096 more))

-- a clique's cells with one variable more are few enough to be counted
pub product_fits : (cells values : ℕ) → cells ≤ 4096 → values ≤ 16 → cells * values < 2 ^ 32
product_fits cells values few small =
    let bound : cells * values ≤ 4096 * 16 = mul-le-mul few small in
    omega (arith, bound)

-- no clique before place i is too large, and these have so many cells together
pub record AreSmall (network : List Variable) (cliques : List VarSet) (i total : ℕ) : Type 0 where
  pub later : first_too_large network 1 0 cliques ≡ first_too_large network (i + 1) total (drop i cliques)
  pub few : total ≤ 32768

abbrev is_too_large : List Variable → ℕ → VarSet → Bool
is_too_large network before set = nat_lt 4096 (cells_of network set) || nat_lt 32768 (before + cells_of network set)

not_large : (network : List Variable) (k before : ℕ) (set : VarSet) (sets : List VarSet) → first_too_large network k before (set ∷ sets) ≡ None
    → (cells_of network set ≤ 4096) × (before + cells_of network set ≤ 32768) × (first_too_large network (k + 1) (before + cells_of network set) sets ≡ None)
not_large network k before set sets e = at (cases_Bool (is_too_large network before set))
  where
    at : ((is_too_large network before set ≡ true) ⊎ (is_too_large network before set ≡ false))
        → (cells_of network set ≤ 4096) × (before + cells_of network set ≤ 32768)
        × (first_too_large network (k + 1) (before + cells_of network set) sets ≡ None)
    at (inl large) = absurd (let some : Some k ≡ None = sym (ap (λ (t : Bool). cond t (Some k) (first_too_large network (k + 1) (before + cells_of network set) sets)) large) ∙ e in cc)
    at (inr small) =
        let parts = or_parts (nat_lt 4096 (cells_of network set)) (nat_lt 32768 (before + cells_of network set)) small in
        (ltb-false 4096 (cells_of network set) parts.0, ltb-false 32768 (before + cells_of network set) parts.1, sym (ap (λ (t : Bool). cond t (Some k) (first_too_large network (k + 1) (before + cells_of network set) sets)) small) ∙ e)

-- where no clique is too large, each has few cells, and so have all together
pub each_small : (network : List Variable) (k before : ℕ) (cliques : List VarSet) → first_too_large network k before cliques ≡ None
    → All (λ (set : VarSet). cells_of network set ≤ 4096) cliques
each_small network k before [] e = All-nil (λ (set : VarSet). cells_of network set ≤ 4096)
each_small network k before (set ∷ sets) e =
    let passed = not_large network k before set sets e in
    All-cons (λ (s : VarSet). cells_of network s ≤ 4096) set sets passed.0 (each_small network (k + 1) (before + cells_of network set) sets passed.2)

pub all_small : (network : List Variable) (k before : ℕ) (cliques : List VarSet) → before ≤ 32768 → first_too_large network k before cliques ≡ None
    → before + sum_by (cells_of network) cliques ≤ 32768
all_small network k before [] few e = omega (arith, few)
all_small network k before (set ∷ sets) few e =
    let passed = not_large network k before set sets e in
    let rest = all_small network (k + 1) (before + cells_of network set) sets passed.1 passed.2 in
    omega (arith, rest, sum_by-cons (cells_of network) set sets)

-- and where each has few cells, and so have all together, none is too large
pub none_too_large : (network : List Variable) (k before : ℕ) (cliques : List VarSet)
    → All (λ (set : VarSet). cells_of network set ≤ 4096) cliques
    → before + sum_by (cells_of network) cliques ≤ 32768
    → first_too_large network k before cliques ≡ None
none_too_large network k before [] small few = refl
none_too_large network k before (set ∷ sets) small few =
    let whole = sum_by-cons (cells_of network) set sets in
    let here : cells_of network set ≤ 4096 = All-head (λ (s : VarSet). cells_of network s ≤ 4096)
    set sets small in
    let own : nat_lt 4096 (cells_of network set) ≡ false =
    le-ltb 4096 (cells_of network set) here in
    let all : nat_lt 32768 (before + cells_of network set) ≡ false =
    le-ltb 32768 (before + cells_of network set) (omega (arith, few, whole)) in
    rw (own, all) (none_too_large network (k + 1) (before + cells_of network set) sets
    (All-tail (λ (s : VarSet). cells_of network s ≤ 4096) set sets small)
    (omega (arith, few, whole)))

-- a clique of few cells is counted
pub counted : (network : List Variable) (set : VarSet) (found : Option ℕ) → found
    ≡ few_cells network set
    → cells_of network set ≤ 4096 → found ≡ Some (cells_of network set)
counted network set found is few =
    is ∙ cond-true (nat_le (cells_of network set) 4096) (Some (cells_of network set)) None
    (le-leb (cells_of network set) 4096 few)

choices_fewer : (ns : List ℕ) (p q : ℕ → Bool) (n a : ℕ) → ((x : ℕ) → p x ≡ true → q x ≡ true)
    → ((x : ℕ) → x < a + n → 1 ≤ slice_index ns x)
    → choices ns (filter p (range_with_len a n)) ≤ choices ns (filter q (range_with_len a n))
choices_fewer ns p q zero a weaker some = omega arith
choices_fewer ns p q (suc n) a weaker some =
    at (cases_Bool (p a)) (cases_Bool (q a))
    (choices_fewer ns p q n (a + 1) weaker (λ x h. some x (omega (arith, h))))
  where
    at : ((p a ≡ true) ⊎ (p a ≡ false)) → ((q a ≡ true) ⊎ (q a ≡ false))
        → choices ns (filter p (range_with_len (a + 1) n))
        ≤ choices ns (filter q (range_with_len (a + 1) n))
        → choices ns (cond (p a) (a ∷ filter p (range_with_len (a + 1) n))
        (filter p (range_with_len (a + 1) n)))
        ≤ choices ns (cond (q a) (a ∷ filter q (range_with_len (a + 1) n))
        (filter q (range_with_len (a + 1) n)))
    at (inl e) (inl f) ih =
        rw (e, f) (mul-le-mul (let own : slice_index ns a ≤ slice_index ns a =
        omega arith in own) ih)
    at (inl e) (inr f) ih = absurd (let g = weaker a e in cc)
    at (inr e) (inl f) ih = rw (e, f)
        (let more = mul-le-mul (some a (omega arith)) ih in omega (arith, more))
    at (inr e) (inr f) ih = rw (e, f) ih

-- a set within another has no more cells
pub cells_fewer : (network : List Variable) (less more : VarSet) → IsNetwork network
    → ((x : ℕ) → is_member less x ≡ true → is_member more x ≡ true) → cells_of network less
    ≤ cells_of network more
cells_fewer network less more is within =
    choices_fewer (sizes network) (is_member less) (is_member more) (length network) 0 within
    (λ x h. let two = two_values network x is (omega (arith, h)) in omega (arith, two))
