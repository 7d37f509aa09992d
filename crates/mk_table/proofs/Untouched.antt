-- What becomes of the event that ratios may have touched.
use Rattle.std.proofs.Common.{◌≡◌, ℕ, zero, suc, ◌<◌, Bool, true, false, cond, not, ◌==◌, ◌&&◌, ◌⊎◌, inl, inr, List, [], ◌∷◌, ◌++◌, length, get_or, All, refl, sym, ap, subst, ◌∙◌, arith}
use Rattle.std.specs.Prelude.{Option, Some, None}
use Rattle.std.proofs.lemmas.Bool.{both_ways, or_cases, or_left, or_right, and_parts, and_from, not-true, eqb-true, eq-eqb, false≢true, false_from_ne_true}
use Rattle.std.proofs.lemmas.List.Elements.{All-nil, All-cons, All-head, All-tail, All-append, All-weaker}
use Rattle.std.proofs.lemmas.List.Sums.{list_all-from_AllPass}
use Rattle.mk_net.specs.declared.words.Pair.{Pair}
use Rattle.mk_sums.specs.There.{holds_there}
use Rattle.mk_sums.proofs.Tables.{place_cell_of}
use Rattle.mk_scope.specs.Scopes.{ScopeOf, HasEvent, LiesIn, has_variable, size_in, cells_in}
use Rattle.mk_scope.specs.Cells.{values_at, cell_in}
use Rattle.mk_table.specs.Tables.{touches, contradicts, contradicts_pair, is_untouched_by}
use Rattle.mk_table.specs.Ratios.{has_pair}
use Rattle.mk_table.specs.inner.Touched.{HasTouched, IsPart, IsEither, IsBeside}
use Rattle.mk_scope.proofs.Kept.{value_in}
use Rattle.mk_table.proofs.Taken.{ends, both_keep}

-- ---- parts of events

part_at : (whole : List Pair) (p : Pair) (a : ℕ → ℕ) → has_pair whole p ≡ true → holds_there whole a ≡ true → (a p.variable == p.value) ≡ true
part_at [] p a h k = absurd (false≢true h)
part_at (q ∷ qs) p a h k =
    let s = and_parts (a q.variable == q.value) (holds_there qs a) k in
    at (or_cases (q.variable == p.variable && q.value == p.value) (has_pair qs p) h) s.0 (λ r. part_at qs p a r s.1)
  where
    at : (((q.variable == p.variable && q.value == p.value) ≡ true) ⊎ (has_pair qs p ≡ true)) → (a q.variable == q.value) ≡ true → (has_pair qs p ≡ true → (a p.variable == p.value) ≡ true)
        → (a p.variable == p.value) ≡ true
    at (inl e) s ih =
        let b = and_parts (q.variable == p.variable) (q.value == p.value) e in
        subst (λ x. (a x == p.value) ≡ true) (eqb-true q.variable p.variable b.0) (subst (λ y. (a q.variable == y) ≡ true) (eqb-true q.value p.value b.1) s)
    at (inr r) s ih = ih r

-- a part holds wherever the whole does
pub part_holds : (part whole : List Pair) (a : ℕ → ℕ) → IsPart part whole → holds_there whole a ≡ true → holds_there part a ≡ true
part_holds part whole a h k =
    list_all-from_AllPass (λ (p : Pair). a p.variable == p.value) part
    (All-weaker (λ (p : Pair). has_pair whole p ≡ true) (λ (p : Pair). (a p.variable == p.value) ≡ true) (λ p r. part_at whole p a r k) part h)

part_variable : (scope : ScopeOf) (whole : List Pair) (p : Pair) → has_pair whole p ≡ true → HasEvent scope whole → has_variable scope p.variable ≡ true
part_variable scope [] p h k = absurd (false≢true h)
part_variable scope (q ∷ qs) p h k =
    let P : Pair → Type 0 = λ r. has_variable scope r.variable ≡ true in
    at (or_cases (q.variable == p.variable && q.value == p.value) (has_pair qs p) h) (All-head P q qs k) (λ r. part_variable scope qs p r (All-tail P q qs k))
  where
    at : (((q.variable == p.variable && q.value == p.value) ≡ true) ⊎ (has_pair qs p ≡ true)) → has_variable scope q.variable ≡ true → (has_pair qs p ≡ true → has_variable scope p.variable ≡ true)
        → has_variable scope p.variable ≡ true
    at (inl e) s ih = subst (λ x. has_variable scope x ≡ true) (eqb-true q.variable p.variable (and_parts (q.variable == p.variable) (q.value == p.value) e).0) s
    at (inr r) s ih = ih r

-- and names none but its variables
pub part_event : (scope : ScopeOf) (part whole : List Pair) → IsPart part whole → HasEvent scope whole → HasEvent scope part
part_event scope part whole h k =
    All-weaker (λ (p : Pair). has_pair whole p ≡ true) (λ (p : Pair). has_variable scope p.variable ≡ true) (λ p r. part_variable scope whole p r k) part h

same_pair : (p : Pair) → (p.variable == p.variable && p.value == p.value) ≡ true
same_pair p = and_from (p.variable == p.variable) (p.value == p.value) (eq-eqb p.variable p.variable refl) (eq-eqb p.value p.value refl)

-- each pair of a list is one of it
pub is_one : (xs : List Pair) (i : ℕ) (d : Pair) → i < length xs → has_pair xs (get_or xs i d) ≡ true
is_one [] i d l = absurd (omega arith)
is_one (q ∷ qs) zero d l = or_left (q.variable == q.variable && q.value == q.value) (has_pair qs q) (same_pair q)
is_one (q ∷ qs) (suc i) d l =
    let p = get_or qs i d in
    or_right (q.variable == p.variable && q.value == p.value) (has_pair qs p) (is_one qs i d (omega arith))

pub all_push : (P : Pair → Type 0) (pairs new : List Pair) (p : Pair) → (new ≡ pairs ++ p ∷ []) ⊎ (new ≡ pairs) → All P pairs → P p → All P new
all_push P pairs new p (inl e) h k = subst (λ (ys : List Pair). All P ys) (sym e) (All-append P pairs (p ∷ []) h (All-cons P p [] k (All-nil P)))
all_push P pairs new p (inr e) h k = subst (λ (ys : List Pair). All P ys) (sym e) h

-- ---- events that contradict each other

pub pair_contradicts : (pairs : List Pair) (p : Pair) (a : ℕ → ℕ) → contradicts_pair pairs p ≡ true → holds_there pairs a ≡ true → a p.variable ≡ p.value → ⊥
pair_contradicts [] p a h k e = false≢true h
pair_contradicts (q ∷ qs) p a h k e =
    let s = and_parts (a q.variable == q.value) (holds_there qs a) k in
    at (or_cases (q.variable == p.variable && not (q.value == p.value)) (contradicts_pair qs p) h) s.0 (λ r. pair_contradicts qs p a r s.1 e)
  where
    at : (((q.variable == p.variable && not (q.value == p.value)) ≡ true) ⊎ (contradicts_pair qs p ≡ true)) → (a q.variable == q.value) ≡ true → (contradicts_pair qs p ≡ true → ⊥) → ⊥
    at (inl r) s ih =
        let b = and_parts (q.variable == p.variable) (not (q.value == p.value)) r in
        let v : q.value ≡ p.value = sym (eqb-true (a q.variable) q.value s) ∙ ap a (eqb-true q.variable p.variable b.0) ∙ e in
        both_ways (q.value == p.value) (not-true (q.value == p.value) b.1) (eq-eqb q.value p.value v)
    at (inr r) s ih = ih r

event_contradicts : (first second : List Pair) (a : ℕ → ℕ) → contradicts first second ≡ true → holds_there second a ≡ true → holds_there first a ≡ true → ⊥
event_contradicts first [] a h k e = false≢true h
event_contradicts first (q ∷ qs) a h k e =
    let s = and_parts (a q.variable == q.value) (holds_there qs a) k in
    at (or_cases (contradicts_pair first q) (contradicts first qs) h) s.0 (λ r. event_contradicts first qs a r s.1 e)
  where
    at : ((contradicts_pair first q ≡ true) ⊎ (contradicts first qs ≡ true)) → (a q.variable == q.value) ≡ true → (contradicts first qs ≡ true → ⊥) → ⊥
    at (inl r) s ih = pair_contradicts first q a r e (eqb-true (a q.variable) q.value s)
    at (inr r) s ih = ih r

-- no event is left where a pair contradicts it
pub contradicted : (event : List Pair) (p : Pair) → contradicts_pair event p ≡ true → IsBeside p (Some event) None
contradicted event p h = record {
  holds = λ a e t. absurd (pair_contradicts event p a h t e);
  variables = λ scope k. tt;
  kept = λ scope. ends scope (Some event) None;
}

-- the pairs that two events share hold wherever one of the two does
pub shared_pairs : (first second shared : List Pair) → IsPart shared first → IsPart shared second → ((p : Pair) → has_pair first p ≡ true → has_pair second p ≡ true → has_pair shared p ≡ true)
    → IsEither (Some first) (Some second) (Some shared)
shared_pairs first second shared h k all = record {
  of_first = λ a t. part_holds shared first a h t;
  of_second = λ a t. part_holds shared second a k t;
  variables = λ scope l m. part_event scope shared first h l;
  kept = λ scope. both_keep scope first second shared all;
}

-- where an untouched event holds, no ratio touched
pub untouched_there : (touched : Option (List Pair)) (event : List Pair) (a : ℕ → ℕ) → is_untouched_by touched event ≡ true → holds_there event a ≡ true → touches touched a ≡ false
untouched_there None event a h k = refl
untouched_there (Some pairs) event a h k = false_from_ne_true (holds_there pairs a) (λ t. event_contradicts pairs event a h k t)

-- ---- the same event at other values

agree_there : (scope : ScopeOf) (event : List Pair) (a b : ℕ → ℕ) → HasEvent scope event → ((x : ℕ) → has_variable scope x ≡ true → a x ≡ b x) → holds_there event a ≡ holds_there event b
agree_there scope [] a b h s = refl
agree_there scope (p ∷ ps) a b h s =
    let P : Pair → Type 0 = λ r. has_variable scope r.variable ≡ true in
    ap (λ v. v == p.value && holds_there ps a) (s p.variable (All-head P p ps h)) ∙ ap (λ t. (b p.variable == p.value) && t) (agree_there scope ps a b (All-tail P p ps h) s)

agree_touched : (scope : ScopeOf) (touched : Option (List Pair)) (a b : ℕ → ℕ) → HasTouched scope touched → ((x : ℕ) → has_variable scope x ≡ true → a x ≡ b x) → touches touched a ≡ touches touched b
agree_touched scope None a b h s = refl
agree_touched scope (Some event) a b h s = agree_there scope event a b h s

-- a part's event at the part's cell and at the whole's
pub touched_in : (part whole : ScopeOf) (touched : Option (List Pair)) → LiesIn part whole → HasTouched part touched → (c : ℕ) → c < cells_in whole
    → touches touched (values_at part (cell_in part whole c)) ≡ touches touched (values_at whole c)
touched_in part whole touched lies there c l =
    agree_touched part touched (values_at part (cell_in part whole c)) (values_at whole c) there
    (λ x p. place_cell_of (size_in part) part.variables (values_at whole c) (value_in part whole lies c l) (λ y. 0) x ∙ ap (λ b. cond b (values_at whole c x) 0) p)

pub larger_event : (part whole : ScopeOf) (event : List Pair) → LiesIn part whole → HasEvent part event → HasEvent whole event
larger_event part whole event lies h =
    All-weaker (λ (p : Pair). has_variable part p.variable ≡ true) (λ (p : Pair). has_variable whole p.variable ≡ true) (λ p k. (lies p.variable k).0) event h

pub larger_touched : (part whole : ScopeOf) (touched : Option (List Pair)) → LiesIn part whole → HasTouched part touched → HasTouched whole touched
larger_touched part whole None lies h = h
larger_touched part whole (Some event) lies h = larger_event part whole event lies h

-- what is untouched after is so before
pub false_before : (before after : Bool) → (before ≡ true → after ≡ true) → after ≡ false → before ≡ false
false_before before after h e = false_from_ne_true before (λ t. both_ways after e (h t))
