-- What no refusal by what can come leaves.
use Rattle.std.proofs.Common.{◌≡◌, ℕ, zero, suc, ◌+◌, ◌<◌, ◌≤◌, Bool, true, false, cond, List, []}
use Rattle.std.proofs.Common.{◌∷◌, ◌++◌, Option, None, Some, IfSome, length, slice_index}
use Rattle.std.proofs.Common.{slice_index_or, ◌||◌, eqb, refl, sym, ap, subst, ◌∙◌, arith}
use Rattle.std.proofs.Common.{append-nil, append_assoc}
use Rattle.std.specs.Prelude.{find, filter, option_map, option_and_then, nat_le, not, ◌==◌, ◌&&◌}
use Rattle.std.specs.List.{AllByRecursion, AllZip, cons_option, range_with_len, enumerate_from}
use Rattle.std.specs.List.{list_any}
use Rattle.std.proofs.lemmas.Bool.{and_parts, le-leb}
use Rattle.std.proofs.lemmas.List.Elements.{filter_map-append}
use Rattle.mk_net.specs.declared.words.Pair.{Pair}
use Rattle.mk_net.specs.declared.words.PairText.{PairText}
use Rattle.mk_net.specs.Network.{Variable, sizes}
use Rattle.mk_net.specs.Named.{pair_named, variable_at}
use Rattle.mk_net.specs.declared.words.QuestionText.{QuestionText}
use Rattle.mk_net.specs.Asked.{Asked}
use Rattle.mk_net.specs.Firsts.{fault_if, or_else, first_of}
use Rattle.mk_net.proofs.Events.{neither}
use Rattle.mk_states.proofs.Sums.{each_below}
use Rattle.mk_states.specs.Events.{has, holds, with_target, without_target, always}
use Rattle.mk_exact.specs.History.{Entry}
use Rattle.mk_exact.specs.Weight.{possible_states, cannot_come}
use Rattle.mk_exact.specs.Proper.{IsProper}
use Rattle.mk_exact.proofs.ExistMarkets.{passing_stay}
use Rattle.mk_reply.specs.declared.refusal.Refusal.{Refusal}
use Rattle.mk_reply.specs.declared.refusal.Refusal.TheVariants.{Impossible, Sure, Range}
use Rattle.mk_rules.specs.Refusals.{known_pairs, question_named, spread_named, impossible_after, impossible_together, decided, pair_with, only, sure_value, impossible_share, missing_share}
use Rattle.mk_rules.proofs.Unrefused.{none_applies, not_faulted, not_mapped}
use Rattle.mk_spread.specs.Spreads.{SpreadAsked}
use Rattle.mk_spread.specs.Markets.{value_cannot_come, values_left, IsShareWhere}
use Rattle.mk_spread.proofs.Left.{some_left}

pub some_of : (n : ℕ) → eqb n 0 ≡ false → 1 ≤ n
some_of zero h = absurd (cc)
some_of (suc n) h = omega arith

some_after : (network : List Variable) (H : List Entry) (before : List Pair) (ps : List PairText) → 1 ≤ length (possible_states network H (holds before)) → impossible_after network H before ps ≡ None
    → 1 ≤ length (possible_states network H (holds (before ++ known_pairs network ps)))
some_after network H before [] some h = subst (λ (qs : List Pair). 1 ≤ length (possible_states network H (holds qs))) (sym (append-nil before)) some
some_after network H before (p ∷ ps) some h = at (cannot_come network H (holds (before ++ known_pairs network (p ∷ [])))) refl h
    (λ some. some_after network H (before ++ known_pairs network (p ∷ [])) ps some)
  where
    at : (b : Bool) → cannot_come network H (holds (before ++ known_pairs network (p ∷ []))) ≡ b → cond b (Some (Impossible p)) (impossible_after network H (before ++ known_pairs network (p ∷ [])) ps) ≡ None
        → (1 ≤ length (possible_states network H (holds (before ++ known_pairs network (p ∷ [])))) → impossible_after network H (before ++ known_pairs network (p ∷ [])) ps ≡ None
        → 1 ≤ length (possible_states network H (holds ((before ++ known_pairs network (p ∷ [])) ++ known_pairs network ps))))
        → 1 ≤ length (possible_states network H (holds (before ++ known_pairs network (p ∷ ps))))
    at true e h rest = cc
    at false e h rest = subst (λ (qs : List Pair). 1 ≤ length (possible_states network H (holds qs)))
        (append_assoc before (known_pairs network (p ∷ [])) (known_pairs network ps) ∙ ap (λ (qs : List Pair). before ++ qs) (sym (filter_map-append (pair_named network) (p ∷ []) ps)))
        (rest (some_of _ e) h)

pub some_where : (network : List Variable) (H : List Entry) → IsProper network H → (ps : List PairText) → impossible_together network H ps ≡ None → 1 ≤ length (possible_states network H (holds (known_pairs network ps)))
some_where network H proper ps h = some_after network H [] ps (passing_stay network H always (holds []) (λ s e. refl) proper.some_left) h

pub some_with_pair : (network : List Variable) (H : List Entry) → IsProper network H → (p : PairText) (x : Pair) → pair_named network p ≡ Some x → impossible_together network H (p ∷ []) ≡ None → 1 ≤ length (possible_states network H (has x))
some_with_pair network H proper p x named h = passing_stay network H (holds (x ∷ [])) (has x) (λ s e. (and_parts (has x s) true e).0)
    (subst (λ (o : Option Pair). 1 ≤ length (possible_states network H (holds (cons_option o [])))) named (some_where network H proper (p ∷ []) h))

-- a question that nothing decides has states on both sides
pub both_sides : (network : List Variable) (H : List Entry) (q : QuestionText) (asked : Asked) → question_named network q ≡ Some asked → decided network H q ≡ None
    → (cannot_come network H (with_target asked) ≡ false) × (cannot_come network H (without_target asked) ≡ false)
both_sides network H q asked named free =
    let refused = none_applies (fault_if (cannot_come network H (with_target asked)) (Impossible q.target) ∷ fault_if (cannot_come network H (without_target asked)) (Sure q.target) ∷ [])
    (first_two _ _ (rw named at free)) in
    (not_faulted _ _ refused.0, not_faulted _ _ (refused.1.0))
  where
    first_two : (a b : Option Refusal) → or_else a b ≡ None → first_of (a ∷ b ∷ []) ≡ None
    first_two None None h = refl
    first_two None (Some why) h = cc
    first_two (Some why) b h = cc

-- a list without an only number, but with some, has two
two_of : (ns : List ℕ) → only ns ≡ None → 1 ≤ length ns → 2 ≤ length ns
two_of [] h some = absurd (omega arith)
two_of (n ∷ []) h some = cc
two_of (n ∷ m ∷ ns) h some = omega arith

-- a distribution of which no value alone can come
pub two_values : (network : List Variable) (H : List Entry) (v : List ℕ) (pairs : List PairText) (spread : SpreadAsked) → IsProper network H → spread.variable < length network
    → spread_named network v pairs ≡ Some spread → spread.condition ≡ known_pairs network pairs → impossible_together network H pairs ≡ None → sure_value network H v pairs ≡ None
    → 2 ≤ length (values_left network H spread)
two_values network H v pairs spread proper within named same together several =
    two_of (values_left network H spread) (not_mapped _ _ (rw named at several))
    (some_left network H spread within (subst (λ (ps : List Pair). 1 ≤ length (possible_states network H (holds ps))) (sym same) (some_where network H proper pairs together)))

-- shares that meet no refusal suit the values, from number a on
pub suit_from : (gone : ℕ → Bool) (a n : ℕ) (to : List ℕ) → length to ≡ n → AllByRecursion (λ X. X ≤ 999999) to
    → find (λ (numbered : ℕ × ℕ). nat_le 1 (numbered.1) && gone (numbered.0)) (enumerate_from a to) ≡ None
    → list_any (λ (numbered : ℕ × ℕ). (numbered.1 == 0) && not (gone (numbered.0))) (enumerate_from a to) ≡ false
    → AllZip (λ value X. IsShareWhere (gone value) X) (range_with_len a n) to
suit_from gone a zero [] long most impossible missing = tt
suit_from gone a zero (X ∷ to) long most impossible missing = absurd (let e : suc (length to) ≡ 0 = long in omega arith)
suit_from gone a (suc n) [] long most impossible missing = absurd (let e : 0 ≡ suc n = long in omega arith)
suit_from gone a (suc n) (X ∷ to) long most impossible missing =
    at (gone a) refl impossible missing (suit_from gone (a + 1) n to (omega (arith, long)) most.1)
  where
    share : (b c d : Bool) → nat_le 1 X ≡ c → (X == 0) ≡ d → (c && b) ≡ false → (d && not b) ≡ false → X ≤ 999999 → IsShareWhere b X
    share true true d e f h k l = cc
    share true false d e f h k l = nothing X e
      where
        nothing : (x : ℕ) → nat_le 1 x ≡ false → x ≡ 0
        nothing zero e = refl
        nothing (suc x) e = absurd (let some : nat_le 1 (suc x) ≡ true = le-leb 1 (suc x) (omega arith) in cc)
    share false c true e f h k l = cc
    share false c false e f h k l = (some_of X f, l)

    at : (b : Bool) → gone a ≡ b
        → cond (nat_le 1 X && gone a) (Some (a, X)) (find (λ (numbered : ℕ × ℕ). nat_le 1 (numbered.1) && gone (numbered.0)) (enumerate_from (a + 1) to)) ≡ None
        → (((X == 0) && not (gone a)) || list_any (λ (numbered : ℕ × ℕ). (numbered.1 == 0) && not (gone (numbered.0))) (enumerate_from (a + 1) to)) ≡ false
        → (find (λ (numbered : ℕ × ℕ). nat_le 1 (numbered.1) && gone (numbered.0)) (enumerate_from (a + 1) to) ≡ None
        → list_any (λ (numbered : ℕ × ℕ). (numbered.1 == 0) && not (gone (numbered.0))) (enumerate_from (a + 1) to) ≡ false
        → AllZip (λ value X. IsShareWhere (gone value) X) (range_with_len (a + 1) n) to)
        → AllZip (λ value X. IsShareWhere (gone value) X) (range_with_len a (suc n)) (X ∷ to)
    at b e h k later =
        let found = not_found (nat_le 1 X && gone a) (a, X) _ h in
        let parts = neither ((X == 0) && not (gone a)) _ k in
        (share (gone a) (nat_le 1 X) (X == 0) refl refl (found.0) (parts.0) most.0, later (found.1) (parts.1))
      where
        not_found : {X : Type 0} (c : Bool) (x : X) (o : Option X) → cond c (Some x) o ≡ None → (c ≡ false) × (o ≡ None)
        not_found true x o h = cc
        not_found false x o h = (refl, h)

-- what these refusals say
pub together_have : (P : Refusal → Type 0) (network : List Variable) (H : List Entry) (before : List Pair) (ps : List PairText) → AllByRecursion (λ p. P (Impossible p)) ps → IfSome (impossible_after network H before ps) P
together_have P network H before [] h = tt
together_have P network H before (p ∷ ps) h = at (cannot_come network H (holds (before ++ known_pairs network (p ∷ [])))) (together_have P network H (before ++ known_pairs network (p ∷ [])) ps h.1)
  where
    at : (b : Bool) → IfSome (impossible_after network H (before ++ known_pairs network (p ∷ [])) ps) P → IfSome (cond b (Some (Impossible p)) (impossible_after network H (before ++ known_pairs network (p ∷ [])) ps)) P
    at true rest = h.0
    at false rest = rest

faulted_has : (P : Refusal → Type 0) (b : Bool) (why : Refusal) → P why → IfSome (fault_if b why) P
faulted_has P true why h = h
faulted_has P false why h = tt

pub decided_has : (P : Refusal → Type 0) (network : List Variable) (H : List Entry) (q : QuestionText) → P (Impossible q.target) → P (Sure q.target) → IfSome (decided network H q) P
decided_has P network H q h k = at (question_named network q)
  where
    either : (a b : Option Refusal) → IfSome a P → IfSome b P → IfSome (or_else a b) P
    either None b l m = m
    either (Some why) b l m = l

    at : (o : Option Asked) → IfSome (option_and_then (λ (asked : Asked). or_else
        (fault_if (cannot_come network H (with_target asked)) (Impossible q.target)) (fault_if (cannot_come network H (without_target asked)) (Sure q.target))) o) P
    at None = tt
    at (Some asked) = either (fault_if (cannot_come network H (with_target asked)) (Impossible q.target)) (fault_if (cannot_come network H (without_target asked)) (Sure q.target))
        (faulted_has P (cannot_come network H (with_target asked)) (Impossible q.target) h) (faulted_has P (cannot_come network H (without_target asked)) (Sure q.target) k)

-- a refusal of a value that is below the number of values
abbrev pub HasEachValue : (Refusal → Type 0) → List Variable → List ℕ → (PairText → Refusal) → Type 0
HasEachValue P network v why = (n k : ℕ) → k < slice_index (sizes network) n → P (why (record { variable = v; value = slice_index_or (variable_at network n).values k [] }))

mapped_has : (P : Refusal → Type 0) (f : ℕ → Refusal) (o : Option ℕ) (n : ℕ) → ((k : ℕ) → k < n → P (f k)) → IfSome o (λ k. k < n) → IfSome (option_map f o) P
mapped_has P f None n each below = tt
mapped_has P f (Some k) n each below = each k below

only_below : (p : ℕ → Bool) (a n : ℕ) → IfSome (only (filter p (range_with_len a n))) (λ k. k < a + n)
only_below p a n = at (filter p (range_with_len a n)) (each_below p a n)
  where
    at : (ns : List ℕ) → AllByRecursion (λ k. k < a + n) ns → IfSome (only ns) (λ k. k < a + n)
    at [] h = tt
    at (k ∷ []) h = h.0
    at (k ∷ m ∷ ns) h = tt

pub sure_has : (P : Refusal → Type 0) (network : List Variable) (H : List Entry) (v : List ℕ) (pairs : List PairText) → HasEachValue P network v Sure → IfSome (sure_value network H v pairs) P
sure_has P network H v pairs each = at (spread_named network v pairs)
  where
    at : (o : Option SpreadAsked) → IfSome (option_and_then (λ (spread : SpreadAsked). option_map (λ value. Sure (pair_with network v spread value)) (only (values_left network H spread))) o) P
    at None = tt
    at (Some spread) = mapped_has P (λ value. Sure (pair_with network v spread value)) (only (values_left network H spread)) (0 + slice_index (sizes network) spread.variable)
        (λ k below. each spread.variable k (omega arith)) (only_below _ 0 (slice_index (sizes network) spread.variable))

-- a share's value is below their number
numbered_below : (test : ℕ × ℕ → Bool) (a : ℕ) (to : List ℕ) → IfSome (find test (enumerate_from a to)) (λ (numbered : ℕ × ℕ). numbered.0 < a + length to)
numbered_below test a [] = tt
numbered_below test a (X ∷ to) = at (test (a, X)) (further (find test (enumerate_from (a + 1) to)) (numbered_below test (a + 1) to))
  where
    further : (o : Option (ℕ × ℕ)) → IfSome o (λ (numbered : ℕ × ℕ). numbered.0 < a + 1 + length to) → IfSome o (λ (numbered : ℕ × ℕ). numbered.0 < a + suc (length to))
    further None h = tt
    further (Some numbered) h = omega (arith, h)

    at : (b : Bool) → IfSome (find test (enumerate_from (a + 1) to)) (λ (numbered : ℕ × ℕ). numbered.0 < a + suc (length to))
        → IfSome (cond b (Some (a, X)) (find test (enumerate_from (a + 1) to))) (λ (numbered : ℕ × ℕ). numbered.0 < a + suc (length to))
    at true h = omega arith
    at false h = h

pub share_has : (P : Refusal → Type 0) (network : List Variable) (H : List Entry) (v : List ℕ) (pairs : List PairText) (to : List ℕ) → HasEachValue P network v Impossible
    → ((spread : SpreadAsked) → spread_named network v pairs ≡ Some spread → length to ≤ slice_index (sizes network) spread.variable) → IfSome (impossible_share network H v pairs to) P
share_has P network H v pairs to each few = at (spread_named network v pairs) refl
  where
    one : (spread : SpreadAsked) (o : Option (ℕ × ℕ)) → length to ≤ slice_index (sizes network) spread.variable → IfSome o (λ (numbered : ℕ × ℕ). numbered.0 < 0 + length to)
        → IfSome (option_map (λ (numbered : ℕ × ℕ). Impossible (pair_with network v spread (numbered.0))) o) P
    one spread None long below = tt
    one spread (Some numbered) long below = each spread.variable (numbered.0) (omega (arith, below))

    at : (o : Option SpreadAsked) → spread_named network v pairs ≡ o → IfSome (option_and_then (λ (spread : SpreadAsked).
        option_map (λ (numbered : ℕ × ℕ). Impossible (pair_with network v spread (numbered.0)))
        (find (λ (numbered : ℕ × ℕ). nat_le 1 (numbered.1) && value_cannot_come network H spread (numbered.0)) (enumerate_from 0 to))) o) P
    at None e = tt
    at (Some spread) e = one spread _ (few spread e) (numbered_below _ 0 to)

pub missing_has : (P : Refusal → Type 0) (network : List Variable) (H : List Entry) (v : List ℕ) (pairs : List PairText) (to : List ℕ) → P (Range 0) → IfSome (missing_share network H v pairs to) P
missing_has P network H v pairs to h = at (spread_named network v pairs)
  where
    at : (o : Option SpreadAsked) → IfSome (option_and_then (λ (spread : SpreadAsked).
        fault_if (list_any (λ (numbered : ℕ × ℕ). (numbered.1 == 0) && not (value_cannot_come network H spread (numbered.0))) (enumerate_from 0 to)) (Range 0)) o) P
    at None = tt
    at (Some spread) = faulted_has P _ _ h
