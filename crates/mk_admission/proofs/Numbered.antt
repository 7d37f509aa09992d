-- The numbers of names in a network, and sets of them.
use Rattle.std.proofs.Common.{◌≡◌, ℕ, suc, ◌+◌, ◌-◌, ◌<◌, ◌≤◌, Bool, true, false, cond, not}
use Rattle.std.proofs.Common.{◌||◌, List, [], ◌∷◌, ◌++◌, length, drop, get_or, filter}
use Rattle.std.proofs.Common.{Option, Some, None, is_none, refl, sym, ap, ◌∙◌, subst, arith}
use Rattle.std.proofs.Common.{append_assoc, append-nil}
use Rattle.std.specs.Prelude.{⊤, ◌==◌, All, position, option_map, is_some}
use Rattle.std.specs.List.{list_any, cons_option, range_with_len}
use Rattle.std.proofs.lemmas.List.{at_drop_more, at_drop_all, length_push}
use Rattle.std.proofs.lemmas.List.Elements.{All-from_recursion}
use Rattle.std.proofs.lemmas.Bool.{eqb-true, eq-eqb}
use Rattle.mk_net.specs.Network.{Variable}
use Rattle.mk_net.specs.Named.{variable_named}
use Rattle.mk_sets.specs.Sets.{VarSet, is_member}
use Rattle.mk_names.specs.Texts.{same_text}
use Rattle.mk_states.proofs.Sums.{each_always}
use Rattle.mk_tree.specs.Tests.{members}
use Rattle.mk_rules.specs.Additions.{number_named, numbers_named, holds_named}
use Rattle.mk_rules.proofs.Naming.{number_below, each_number_has}
use Rattle.mk_record.proofs.KnownVariables.{numbered_at, variable_of_place}
use Rattle.mk_record.proofs.Refusing.{among}

-- a number is in a list
abbrev pub is_in : List ℕ → ℕ → Bool
is_in numbers x = list_any (λ v. v == x) numbers

module _ (network : List Variable) (name : List ℕ) (place : Option ℕ)
    (found : place ≡ position (λ (v : Variable). same_text name v.name) network) where
  named : variable_named network name ≡ option_map (numbered_at network) place
  named = variable_of_place network name place found

  pub number_is : number_named network name ≡ place
  number_is = ap (option_map (λ (numbered : ℕ × Variable). numbered.0)) named ∙ at place
    where
      at : (o : Option ℕ)
          → option_map (λ (numbered : ℕ × Variable). numbered.0)
          (option_map (numbered_at network) o) ≡ o
      at None = refl
      at (Some k) = refl

  -- whether it is known
  pub known_is : is_some (variable_named network name) ≡ is_some place
  known_is = ap is_some named ∙ at place
    where
      at : (o : Option ℕ) → is_some (option_map (numbered_at network) o) ≡ is_some o
      at None = refl
      at (Some k) = refl

  pub unknown_is : (b : Bool) → is_some place ≡ not b → b ≡ is_none (variable_named network name)
  unknown_is b h = at place b h ∙ sym (ap is_none named)
    where
      at : (o : Option ℕ) (b : Bool) → is_some o ≡ not b
          → b ≡ is_none (option_map (numbered_at network) o)
      at None true e = refl
      at None false e = cc
      at (Some k) true e = cc
      at (Some k) false e = refl

  -- whether a set holds its variable
  pub set_holds : (set : VarSet) (k : ℕ) → place ≡ Some k → k < length network
      → is_member set k ≡ holds_named network (members network set) name
  set_holds set k e within =
      sym (among (is_member set) k 0 (length network) (omega arith) (omega (arith, within)))
      ∙ alone (is_in (members network set) k)
      ∙ sym (ap (λ o. list_any (is_in (members network set)) (cons_option o [])) (number_is ∙ e))
    where
      alone : (b : Bool) → b ≡ (b || false)
      alone true = refl
      alone false = refl

  pub set_holds_none : (set : VarSet) → place ≡ None
      → false ≡ holds_named network (members network set) name
  set_holds_none set e =
      sym (ap (λ o. list_any (is_in (members network set)) (cons_option o [])) (number_is ∙ e))

-- the numbers of the names before a place, and behind it
abbrev pub AreNumbersTo : List Variable → List (List ℕ) → ℕ → List ℕ → Type 0
AreNumbersTo network names k numbers =
    (numbers ++ numbers_named network (drop k names) ≡ numbers_named network names)
    × (length numbers ≤ k)

module _ (network : List Variable) (names : List (List ℕ)) (k : ℕ) (name : List ℕ)
    (numbers : List ℕ) (within : k < length names) (read : name ≡ get_or names k name)
    (so_far : AreNumbersTo network names k numbers) where
  here : numbers ++ cons_option (number_named network name)
      (numbers_named network (drop (k + 1) names)) ≡ numbers_named network names
  here =
      ap (λ n. numbers ++ cons_option (number_named network n)
      (numbers_named network (drop (k + 1) names))) read
      ∙ ap (λ rest. numbers ++ rest)
      (sym (at_drop_more (numbers_named network) names k name within)) ∙ so_far.0

  pub number_taken : (n : ℕ) → number_named network name ≡ Some n
      → AreNumbersTo network names (k + 1) (numbers ++ n ∷ [])
  number_taken n e = (
    append_assoc numbers (n ∷ []) (numbers_named network (drop (k + 1) names))
        ∙ ap (λ o. numbers ++ cons_option o (numbers_named network (drop (k + 1) names))) (sym e)
        ∙ here,
    omega (arith, length_push numbers n, so_far.1),
  )

  pub number_passed : number_named network name ≡ None
      → AreNumbersTo network names (k + 1) numbers
  number_passed e = (
    ap (λ o. numbers ++ cons_option o (numbers_named network (drop (k + 1) names))) (sym e) ∙ here,
    omega (arith, so_far.1),
  )

pub numbers_all : (network : List Variable) (names : List (List ℕ)) (k : ℕ) (numbers : List ℕ)
    → length names ≤ k → AreNumbersTo network names k numbers
    → numbers ≡ numbers_named network names
numbers_all network names k numbers h so_far =
    sym (append-nil numbers)
    ∙ ap (λ rest. numbers ++ rest) (sym (at_drop_all (numbers_named network) names k h))
    ∙ so_far.0

-- they are numbers of the network's variables
pub numbers_below_length : (network : List Variable) (names : List (List ℕ))
    → All (λ v. v < length network) (numbers_named network names)
numbers_below_length network names =
    All-from_recursion (λ v. v < length network) (numbers_named network names)
    (each_number_has (number_named network) (λ v. v < length network) (λ name. ⊤)
    (λ name k q e. number_below network name k e) names
    (each_always (λ name. ⊤) (λ name. tt) names))

-- a set has the variables before a place
abbrev pub IsSetTo : List ℕ → ℕ → VarSet → Type 0
IsSetTo clique k set = (x : ℕ) → (is_member set x || is_in (drop k clique) x) ≡ is_in clique x

pub set_next : (clique : List ℕ) (k : ℕ) (set longer : VarSet) → k < length clique
    → ((x : ℕ) → is_member longer x ≡ (x == get_or clique k 0) || is_member set x)
    → IsSetTo clique k set → IsSetTo clique (k + 1) longer
set_next clique k set longer within more so_far x =
    ap (λ (b : Bool). b || is_in (drop (k + 1) clique) x) (more x)
    ∙ moved (x == v) (v == x) (is_member set x) (is_in (drop (k + 1) clique) x) (turned x v)
    ∙ ap (λ (b : Bool). is_member set x || b)
    (sym (at_drop_more (λ xs. is_in xs x) clique k 0 within))
    ∙ so_far x
  where
    v : ℕ
    v = get_or clique k 0

    turned : (a b : ℕ) → (a == b) ≡ (b == a)
    turned a b = at (a == b) refl (b == a) refl
      where
        at : (p : Bool) → (a == b) ≡ p → (q : Bool) → (b == a) ≡ q → p ≡ q
        at true e true f = refl
        at true e false f =
            absurd (let same = eq-eqb b a (sym (eqb-true a b e)) in cc)
        at false e true f =
            absurd (let same = eq-eqb a b (sym (eqb-true b a f)) in cc)
        at false e false f = refl

    moved : (a a' m r : Bool) → a ≡ a' → ((a || m) || r) ≡ (m || (a' || r))
    moved a a' m r e = behind a m r ∙ ap (λ (b : Bool). m || (b || r)) e
      where
        behind : (a m r : Bool) → ((a || m) || r) ≡ (m || (a || r))
        behind true true r = refl
        behind true false r = refl
        behind false m r = refl

pub set_all : (clique : List ℕ) (k : ℕ) (set : VarSet) → length clique ≤ k
    → IsSetTo clique k set → (x : ℕ) → is_member set x ≡ is_in clique x
set_all clique k set h so_far x =
    alone (is_member set x)
    ∙ ap (λ (b : Bool). is_member set x || b) (sym (at_drop_all (λ xs. is_in xs x) clique k h))
    ∙ so_far x
  where
    alone : (b : Bool) → b ≡ (b || false)
    alone true = refl
    alone false = refl

-- the members of a set below a number, and from there on
abbrev pub AreMembersTo : ℕ → VarSet → ℕ → List ℕ → Type 0
AreMembersTo n set i found =
    found ++ filter (is_member set) (range_with_len i (n - i))
    ≡ filter (is_member set) (range_with_len 0 n)

module _ (n : ℕ) (set : VarSet) (i : ℕ) (found : List ℕ) (within : i < n)
    (so_far : AreMembersTo n set i found) where
  one_less : n - i ≡ suc (n - (i + 1))
  one_less = omega (arith, within)

  member_here : found ++ cond (is_member set i)
      (i ∷ filter (is_member set) (range_with_len (i + 1) (n - (i + 1))))
      (filter (is_member set) (range_with_len (i + 1) (n - (i + 1))))
      ≡ filter (is_member set) (range_with_len 0 n)
  member_here =
      ap (λ m. found ++ filter (is_member set) (range_with_len i m)) (sym one_less) ∙ so_far

  pub member_taken : is_member set i ≡ true → AreMembersTo n set (i + 1) (found ++ i ∷ [])
  member_taken e =
      append_assoc found (i ∷ []) (filter (is_member set) (range_with_len (i + 1) (n - (i + 1))))
      ∙ ap (λ (b : Bool). found ++ cond b
      (i ∷ filter (is_member set) (range_with_len (i + 1) (n - (i + 1))))
      (filter (is_member set) (range_with_len (i + 1) (n - (i + 1))))) (sym e)
      ∙ member_here

  pub member_passed : is_member set i ≡ false → AreMembersTo n set (i + 1) found
  member_passed e =
      ap (λ (b : Bool). found ++ cond b
      (i ∷ filter (is_member set) (range_with_len (i + 1) (n - (i + 1))))
      (filter (is_member set) (range_with_len (i + 1) (n - (i + 1))))) (sym e)
      ∙ member_here

pub members_all : (n : ℕ) (set : VarSet) (i : ℕ) (found : List ℕ) → n ≤ i
    → AreMembersTo n set i found → found ≡ filter (is_member set) (range_with_len 0 n)
members_all n set i found h so_far =
    let none : n - i ≡ 0 = omega (arith, h) in
    sym (append-nil found)
    ∙ ap (λ m. found ++ filter (is_member set) (range_with_len i m)) (sym none) ∙ so_far

-- no more are found than there are
pub found_few : (n : ℕ) (set : VarSet) (i : ℕ) (found : List ℕ) → AreMembersTo n set i found
    → length found ≤ length (filter (is_member set) (range_with_len 0 n))
found_few n set i found so_far =
    subst (λ xs. length found ≤ length xs) so_far
    (front found (filter (is_member set) (range_with_len i (n - i))))
  where
    front : (xs ys : List ℕ) → length xs ≤ length (xs ++ ys)
    front [] ys = omega arith
    front (x ∷ xs) ys = omega (arith, front xs ys)
