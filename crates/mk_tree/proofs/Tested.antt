-- Tops by sets: the variables of which a clique is a top, and those with more than one.
use Rattle.std.specs.Prelude.{◌≡◌, ℕ, zero, suc, ◌+◌, ◌-◌, ◌<◌, ◌≤◌, List, length, Bool, true, false, cond, not, ◌&&◌, ◌||◌, ◌==◌, ◌⊎◌, nat_le, slice_index, get_or, Some, None}
use Rattle.std.proofs.Common.{refl, sym, ap, subst, ◌∙◌, arith, inl, inr}
use Rattle.std.proofs.lemmas.Bool.{ne_eqb, le-leb, lt-leb, not-true, not-false, not_from_true, not_from_false, cases_lt, both_ways}
use Rattle.std.proofs.lemmas.List.{get_or_default}
use Rattle.std.proofs.lemmas.List.Elements.{All-get_or}
use Rattle.mk_sets.specs.Sets.{VarSet, is_member, no_variables}
use Rattle.mk_net.specs.Network.{Variable}
use Rattle.mk_tree.specs.Given.{GivenTree, AreLinked, AreOfNetwork}
use Rattle.mk_tree.specs.Tests.{are_connected, first_failing}
use Rattle.mk_tree.specs.inner.Tops.{is_top}
use Rattle.mk_tree.proofs.Counts.{passing, one_more}
use Rattle.mk_tree.proofs.Connected.{same_test, connected_where_none}
use Rattle.mk_tree.proofs.Found.{failing_at, none_failing}

-- the link of a clique after the first
pub linked_earlier : (t : GivenTree) (place : ℕ) → AreLinked t → 1 ≤ place → place < length t.cliques
    → (1 ≤ slice_index t.links (place - 1)) × (slice_index t.links (place - 1) < place + 1)
linked_earlier t place linked later within =
    let same : place + 1 - 2 ≡ place - 1 = omega arith in
    let link = linked.earlier (place + 1) (omega (arith, later)) (omega (arith, within)) in
    subst (λ (i : ℕ). (1 ≤ slice_index t.links i) × (slice_index t.links i < place + 1)) same link

top_by_place : (t : GivenTree) (place x : ℕ) → 1 ≤ place
    → (is_member (get_or t.cliques place no_variables) x && not (is_member (get_or t.cliques (slice_index t.links (place - 1) - 1) no_variables) x))
    ≡ is_top t x (place + 1)
top_by_place t place x later =
    let here : place + 1 - 1 ≡ place = omega arith in
    let link : place + 1 - 2 ≡ place - 1 = omega arith in
    let other : (place + 1 == 1) ≡ false = ne_eqb (place + 1) 1 (λ e. omega (arith, e, later)) in
    rw (here, link, other) refl

-- what a clique after the first is a top of
pub top_after_first : (t : GivenTree) (place x : ℕ) (d e : VarSet) → AreLinked t → 1 ≤ place → place < length t.cliques
    → (is_member (get_or t.cliques place d) x && not (is_member (get_or t.cliques (slice_index t.links (place - 1) - 1) e) x)) ≡ is_top t x (place + 1)
top_after_first t place x d e linked later within =
    let link = linked_earlier t place linked later within in
    let own : get_or t.cliques place d ≡ get_or t.cliques place no_variables = get_or_default t.cliques place d no_variables within in
    let other : get_or t.cliques (slice_index t.links (place - 1) - 1) e ≡ get_or t.cliques (slice_index t.links (place - 1) - 1) no_variables =
    get_or_default t.cliques (slice_index t.links (place - 1) - 1) e no_variables (omega (arith, link.0, link.1, within)) in
    rw (own, other) (top_by_place t place x later)

-- the variables with at least one top, and with two, among the first i cliques
pub record AreTops (t : GivenTree) (i : ℕ) (seen again : VarSet) : Type 0 where
  pub once : (x : ℕ) → is_member seen x ≡ nat_le 1 (passing (is_top t x) 1 i)
  pub twice : (x : ℕ) → is_member again x ≡ nat_le 2 (passing (is_top t x) 1 i)

one_or_more : (n : ℕ) (b : Bool) → (nat_le 1 n || b) ≡ nat_le 1 (n + cond b 1 0)
one_or_more zero true = refl
one_or_more zero false = refl
one_or_more (suc n) b = ap (λ (t : Bool). t || b) (le-leb 1 (suc n) (omega arith)) ∙ sym (le-leb 1 (suc n + cond b 1 0) (omega arith))

two_or_more : (n : ℕ) (b : Bool) → (nat_le 2 n || (nat_le 1 n && b)) ≡ nat_le 2 (n + cond b 1 0)
two_or_more zero true = refl
two_or_more zero false = refl
two_or_more (suc zero) true = refl
two_or_more (suc zero) false = refl
two_or_more (suc (suc n)) b =
    ap (λ (t : Bool). t || (nat_le 1 (suc (suc n)) && b)) (le-leb 2 (suc (suc n)) (omega arith)) ∙ sym (le-leb 2 (suc (suc n) + cond b 1 0) (omega arith))

pub tops_begin : (t : GivenTree) (none : VarSet) → ((x : ℕ) → is_member none x ≡ false) → AreTops t 0 none none
tops_begin t none empty = record { once = λ x. empty x; twice = λ x. empty x }

pub tops_grow : (t : GivenTree) (i : ℕ) (once twice both tops more again : VarSet) → AreTops t i once twice
    → ((x : ℕ) → is_member tops x ≡ is_top t x (i + 1))
    → ((x : ℕ) → is_member both x ≡ is_member once x && is_member tops x)
    → ((x : ℕ) → is_member again x ≡ is_member twice x || is_member both x)
    → ((x : ℕ) → is_member more x ≡ is_member once x || is_member tops x)
    → AreTops t (i + 1) more again
tops_grow t i once twice both tops more again before top both_is again_is more_is = record {
  once = λ x.
      more_is x ∙ rw (before.once x, top x) (one_or_more (passing (is_top t x) 1 i) (is_top t x (i + 1)))
      ∙ sym (ap (λ (n : ℕ). nat_le 1 n) (one_more (is_top t x) 1 i (i + 1) (omega arith)));
  twice = λ x.
      again_is x ∙ rw (both_is x, before.once x, before.twice x, top x) (two_or_more (passing (is_top t x) 1 i) (is_top t x (i + 1)))
      ∙ sym (ap (λ (n : ℕ). nat_le 2 n) (one_more (is_top t x) 1 i (i + 1) (omega arith)));
}

two_or_not_one : (n : ℕ) → nat_le 2 n ≡ not (nat_le n 1)
two_or_not_one n = at (cases_lt n 2)
  where
    at : ((n < 2) ⊎ (2 ≤ n)) → nat_le 2 n ≡ not (nat_le n 1)
    at (inl few) = lt-leb 2 n few ∙ sym (not_from_true (nat_le n 1) (le-leb n 1 (omega (arith, few))))
    at (inr many) = le-leb 2 n many ∙ sym (not_from_false (nat_le n 1) (lt-leb n 1 (omega (arith, many))))

pub tops_end : (t : GivenTree) (once twice : VarSet) → AreLinked t → AreTops t (length t.cliques) once twice → (x : ℕ) → is_member twice x ≡ not (are_connected t x)
tops_end t once twice linked tops x =
    tops.twice x ∙ two_or_not_one (passing (is_top t x) 1 (length t.cliques)) ∙ ap (λ (b : Bool). not b) (same_test t linked x)

-- no clique holds what is no variable of the network
pub connected_outside : (network : List Variable) (t : GivenTree) → AreOfNetwork network t.cliques → (x : ℕ) → length network ≤ x → are_connected t x ≡ true
connected_outside network t inside x outside = connected_where_none t x (λ k low high held.
    let within = All-get_or (λ (set : VarSet). (y : ℕ) → is_member set y ≡ true → y < length network) t.cliques (k - 1) no_variables (omega (arith, low, high)) inside x held in
    omega (arith, within, outside))

-- the first variable whose cliques are not connected
pub apart_at : (network : List Variable) (t : GivenTree) (several : VarSet) (x : ℕ) → AreOfNetwork network t.cliques
    → ((y : ℕ) → is_member several y ≡ not (are_connected t y)) → is_member several x ≡ true → ((y : ℕ) → y < x → is_member several y ≡ false)
    → Some (x + 1) ≡ first_failing network (are_connected t)
apart_at network t several x inside are member before =
    let fails : are_connected t x ≡ false = not-true (are_connected t x) (sym (are x) ∙ member) in
    failing_at network (are_connected t) x (within fails (cases_lt x (length network))) fails
    (λ y below. not-false (are_connected t y) (sym (are y) ∙ before y below))
  where
    within : are_connected t x ≡ false → ((x < length network) ⊎ (length network ≤ x)) → x < length network
    within fails (inl inner) = inner
    within fails (inr outer) = absurd (both_ways (are_connected t x) fails (connected_outside network t inside x outer))

pub none_apart : (network : List Variable) (t : GivenTree) (several : VarSet)
    → ((y : ℕ) → is_member several y ≡ not (are_connected t y)) → ((y : ℕ) → is_member several y ≡ false)
    → None ≡ first_failing network (are_connected t)
none_apart network t several are none = none_failing network (are_connected t) (λ y within. not-false (are_connected t y) (sym (are y) ∙ none y))
