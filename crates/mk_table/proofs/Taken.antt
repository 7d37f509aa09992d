-- Pairs of an event that are taken one by one, and what an event keeps of the pairs that ratios have in common.
use Rattle.std.proofs.Common.{◌≡◌, ℕ, zero, suc, ◌+◌, ◌<◌, Bool, true, false, ◌==◌, ◌&&◌, ◌||◌, ◌⊎◌, inl, inr, List, [], ◌∷◌, ◌++◌, length, take, get_or, refl, sym, ap, subst, ◌∙◌, arith}
use Rattle.std.specs.Prelude.{Option, Some, None}
use Rattle.std.proofs.lemmas.Bool.{both_ways, or_cases, or_parts, or_from, or_left, or_right, and_parts, and_from, eqb-true, eq-eqb, false≢true, false_from_ne_true}
use Rattle.std.proofs.lemmas.List.{length_push}
use Rattle.std.proofs.lemmas.List.Folds.{list_any_more, list_any-append}
use Rattle.std.proofs.lemmas.List.Elements.{All-push, All-head, All-tail, All-weaker}
use Rattle.mk_net.specs.declared.words.Pair.{Pair}
use Rattle.mk_net.specs.Bounds.{max_pairs}
use Rattle.mk_net.specs.Events.{speaks_of, AreApart, IsEvent}
use Rattle.mk_net.proofs.Events.{same_place}
use Rattle.mk_scope.specs.Scopes.{ScopeOf, has_variable}
use Rattle.mk_table.specs.Ratios.{has_pair, KeepsPairs}
use Rattle.mk_table.specs.inner.Touched.{IsPart, AreTaken}

-- two pairs that have the same numbers
pair_is : (p q : Pair) → (p.variable == q.variable && p.value == q.value) ≡ true → p ≡ q
pair_is p q h =
    let b = and_parts (p.variable == q.variable) (p.value == q.value) h in
    let make : ℕ → ℕ → Pair = λ x y. record { variable = x; value = y } in
    ap (λ x. make x p.value) (eqb-true p.variable q.variable b.0) ∙ ap (make q.variable) (eqb-true p.value q.value b.1)

same_pair : (p : Pair) → (p.variable == p.variable && p.value == p.value) ≡ true
same_pair p = and_from (p.variable == p.variable) (p.value == p.value) (eq-eqb p.variable p.variable refl) (eq-eqb p.value p.value refl)

-- ---- which variables pairs speak of

pair_speaks : (xs : List Pair) (q : Pair) → has_pair xs q ≡ true → speaks_of xs q.variable ≡ true
pair_speaks [] q h = absurd (false≢true h)
pair_speaks (x ∷ xs) q h = at (or_cases (x.variable == q.variable && x.value == q.value) (has_pair xs q) h) (pair_speaks xs q)
  where
    at : (((x.variable == q.variable && x.value == q.value) ≡ true) ⊎ (has_pair xs q ≡ true)) → (has_pair xs q ≡ true → speaks_of xs q.variable ≡ true) → (q.variable == x.variable || speaks_of xs q.variable) ≡ true
    at (inl e) ih = or_left (q.variable == x.variable) (speaks_of xs q.variable) (eq-eqb q.variable x.variable (ap (λ (p : Pair). p.variable) (sym (pair_is x q e))))
    at (inr r) ih = or_right (q.variable == x.variable) (speaks_of xs q.variable) (ih r)

part_speaks : (part whole : List Pair) (v : ℕ) → IsPart part whole → speaks_of part v ≡ true → speaks_of whole v ≡ true
part_speaks [] whole v h s = absurd (false≢true s)
part_speaks (x ∷ xs) whole v h s =
    let P : Pair → Type 0 = λ p. has_pair whole p ≡ true in
    at (or_cases (v == x.variable) (speaks_of xs v) s) (All-head P x xs h) (part_speaks xs whole v (All-tail P x xs h))
  where
    at : (((v == x.variable) ≡ true) ⊎ (speaks_of xs v ≡ true)) → has_pair whole x ≡ true → (speaks_of xs v ≡ true → speaks_of whole v ≡ true) → speaks_of whole v ≡ true
    at (inl e) one ih = subst (λ n. speaks_of whole n ≡ true) (sym (eqb-true v x.variable e)) (pair_speaks whole x one)
    at (inr r) one ih = ih r

-- none of the pairs before one speaks of its variable
later_apart : (v : ℕ) (ps : List Pair) (j : ℕ) (d : Pair) → speaks_of ps v ≡ false → j < length ps → ((get_or ps j d).variable == v) ≡ false
later_apart v [] j d h l = absurd (omega arith)
later_apart v (p ∷ ps) zero d h l = same_place v p.variable (or_parts (v == p.variable) (speaks_of ps v) h).0
later_apart v (p ∷ ps) (suc j) d h l = later_apart v ps j d (or_parts (v == p.variable) (speaks_of ps v) h).1 (omega arith)

not_before : (event : List Pair) (i : ℕ) (d : Pair) → AreApart event → i < length event → speaks_of (take i event) (get_or event i d).variable ≡ false
not_before [] i d a l = absurd (omega arith)
not_before (p ∷ ps) zero d a l = refl
not_before (p ∷ ps) (suc i) d a l =
    let x = (get_or ps i d).variable in
    or_from (x == p.variable) (speaks_of (take i ps) x) (later_apart p.variable ps i d a.0 (omega arith)) (not_before ps i d a.1 (omega arith))

-- ---- one pair more

module _ (event : List Pair) (i : ℕ) (d : Pair) (test : Pair → Bool) (taken : List Pair) (l : i < length event) (h : AreTaken event i test taken) where
  abbrev pair : Pair
  pair = get_or event i d

  more : (q : Pair) → has_pair (take (i + 1) event) q ≡ (has_pair (take i event) q || (pair.variable == q.variable && pair.value == q.value))
  more q = list_any_more (λ (x : Pair). x.variable == q.variable && x.value == q.value) event i d l

  still : IsPart taken (take (i + 1) event)
  still =
      All-weaker (λ (q : Pair). has_pair (take i event) q ≡ true) (λ (q : Pair). has_pair (take (i + 1) event) q ≡ true)
      (λ q one. more q ∙ or_left (has_pair (take i event) q) (pair.variable == q.variable && pair.value == q.value) one) taken h.of_these

  pub taken_more : (new : List Pair) → IsEvent event → (length taken < max_pairs → speaks_of taken pair.variable ≡ false → new ≡ taken ++ pair ∷ []) → AreTaken event (i + 1) test new
  taken_more new is added =
      let free : speaks_of taken pair.variable ≡ false =
      false_from_ne_true (speaks_of taken pair.variable) (λ s. both_ways (speaks_of (take i event) pair.variable) (not_before event i d is.apart l) (part_speaks taken (take i event) pair.variable h.of_these s)) in
      let n = length_push taken pair in
      subst (AreTaken event (i + 1) test) (sym (added (omega (arith, h.few, l, is.few)) free)) (record {
        few = omega (arith, n, h.few);
        of_these = All-push (λ (q : Pair). has_pair (take (i + 1) event) q ≡ true) taken pair still
            (more pair ∙ or_right (has_pair (take i event) pair) (pair.variable == pair.variable && pair.value == pair.value) (same_pair pair));
        all = λ p t k.
            list_any-append (λ (x : Pair). x.variable == p.variable && x.value == p.value) taken (pair ∷ [])
            ∙ at p (or_cases (has_pair (take i event) p) (pair.variable == p.variable && pair.value == p.value) (sym (more p) ∙ k)) t;
      })
    where
      at : (p : Pair) → ((has_pair (take i event) p ≡ true) ⊎ ((pair.variable == p.variable && pair.value == p.value) ≡ true)) → test p ≡ true → (has_pair taken p || ((pair.variable == p.variable && pair.value == p.value) || false)) ≡ true
      at p (inl a) t = or_left (has_pair taken p) ((pair.variable == p.variable && pair.value == p.value) || false) (h.all p t a)
      at p (inr b) t =
          or_right (has_pair taken p) ((pair.variable == p.variable && pair.value == p.value) || false) (or_left (pair.variable == p.variable && pair.value == p.value) false b)

  pub taken_but : test pair ≡ false → AreTaken event (i + 1) test taken
  taken_but fails = record {
    few = omega (arith, h.few);
    of_these = still;
    all = λ p t k. at p (or_cases (has_pair (take i event) p) (pair.variable == p.variable && pair.value == p.value) (sym (more p) ∙ k)) t;
  }
    where
      at : (p : Pair) → ((has_pair (take i event) p ≡ true) ⊎ ((pair.variable == p.variable && pair.value == p.value) ≡ true)) → test p ≡ true → has_pair taken p ≡ true
      at p (inl a) t = h.all p t a
      at p (inr b) t = absurd (both_ways (test pair) fails (ap test (pair_is pair p b) ∙ t))

-- the same for the items that a loop goes over
module _ (event items : List Pair) (i : ℕ) (d : Pair) (test : Pair → Bool) (taken : List Pair) (e : items ≡ event) (l : i < length items) where
  pub taken_step : (new : List Pair) → IsEvent event → AreTaken event i test taken → (length taken < max_pairs → speaks_of taken (get_or items i d).variable ≡ false → new ≡ taken ++ get_or items i d ∷ [])
      → AreTaken event (i + 1) test new
  taken_step new is h added =
      subst (λ (ev : List Pair). IsEvent ev → AreTaken ev i test taken → AreTaken ev (i + 1) test new) e (λ its have. taken_more items i d test taken l have new its added) is h

  pub passed_step : AreTaken event i test taken → test (get_or items i d) ≡ false → AreTaken event (i + 1) test taken
  passed_step h fails = subst (λ (ev : List Pair). AreTaken ev i test taken → AreTaken ev (i + 1) test taken) e (λ have. taken_but items i d test taken l have fails) h

-- ---- what becomes of an event that there may be

pub stays : (scope : ScopeOf) (o : Option (List Pair)) → KeepsPairs scope o None o
stays scope o = record { none = λ e _. e; pairs = λ p _ k _. k }

pub begins : (scope : ScopeOf) (o : Option (List Pair)) → KeepsPairs scope None o o
begins scope o = record { none = λ _ e. e; pairs = λ p _ _ k. k }

pub ends : (scope : ScopeOf) (first second : Option (List Pair)) → KeepsPairs scope first second None
ends scope first second = record { none = λ _ _. refl; pairs = λ p _ _ _. refl }

pub onto_kept : (scope : ScopeOf) (first within second after : Option (List Pair)) → KeepsPairs scope first None within → KeepsPairs scope second within after → KeepsPairs scope first second after
onto_kept scope first within second after h k = record { none = λ e f. k.none f (h.none e refl); pairs = λ p v a b. k.pairs p v b (h.pairs p v a refl) }

-- of one that there is another has each pair of the scope's variables
pub within_keeps : (scope : ScopeOf) (event after : List Pair) → ((p : Pair) → has_pair event p ≡ true → has_variable scope p.variable ≡ true → has_pair after p ≡ true) → KeepsPairs scope (Some event) None (Some after)
within_keeps scope event after h = record { none = λ e _. absurd (cc); pairs = λ p v k _. h p k v }

pub common_keeps : (scope : ScopeOf) (first second after : List Pair) → ((p : Pair) → has_pair first p ≡ true → has_pair second p ≡ true → has_variable scope p.variable ≡ true → has_pair after p ≡ true)
    → KeepsPairs scope (Some first) (Some second) (Some after)
common_keeps scope first second after h = record { none = λ e _. absurd (cc); pairs = λ p v k m. h p k m v }

-- of two events that there are a third has what both have
pub both_keep : (scope : ScopeOf) (first second after : List Pair) → ((p : Pair) → has_pair first p ≡ true → has_pair second p ≡ true → has_pair after p ≡ true) → KeepsPairs scope (Some first) (Some second) (Some after)
both_keep scope first second after h = record { none = λ e _. absurd (cc); pairs = λ p _ k m. h p k m }
