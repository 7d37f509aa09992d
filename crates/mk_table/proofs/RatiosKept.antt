-- What calls make of the ratios of a table, and that a table whose ratios have a pair in common is untouched by an event that gives its variable another value.
use Rattle.std.proofs.Common.{◌≡◌, ◌≢◌, ℕ, ◌+◌, ◌*◌, true, not, ◌==◌, ◌&&◌, ◌||◌, ◌⊎◌, inl, inr, List, [], ◌∷◌, refl, sym, ap, subst, ◌∙◌, arith, ne_eqb, eq-eqb}
use Rattle.std.specs.Prelude.{Option, Some, None}
use Rattle.std.specs.List.{Contains}
use Rattle.std.proofs.lemmas.Bool.{or_cases, or_left, or_right, and_parts, and_from, eqb-true, false≢true, not_from_false}
use Rattle.std.proofs.lemmas.List.Folds.{list_any_at}
use Rattle.mk_net.specs.declared.words.Pair.{Pair}
use Rattle.mk_scope.specs.Scopes.{ScopeOf, has_variable}
use Rattle.mk_table.specs.Tables.{TableOf, contradicts_pair, is_untouched_by}
use Rattle.mk_table.specs.Ratios.{has_pair, keeps, KeepsPairs, HasRatios}

-- where there is no event, each pair is kept
pub all_kept : (touched : Option (List Pair)) (p : Pair) → touched ≡ None → keeps touched p ≡ true
all_kept touched p e = ap (λ (o : Option (List Pair)). keeps o p) e

pub has_contained : (ps : List Pair) (p : Pair) → Contains ps p → has_pair ps p ≡ true
has_contained ps p h =
    list_any_at (λ (q : Pair). q.variable == p.variable && q.value == p.value) ps h.0 p h.1
    (ap (λ (q : Pair). q.variable == p.variable && q.value == p.value) h.2 ∙ and_from (p.variable == p.variable) (p.value == p.value) (eq-eqb p.variable p.variable refl) (eq-eqb p.value p.value refl))

-- ---- the ratios of a table

pub no_ratios : (t : TableOf) (common : Pair → Type 0) → t.shift ≡ 0 → t.touched ≡ None → HasRatios t 0 common
no_ratios t common shift e = record { shifted = omega (arith, shift); none = λ _. e; kept = λ p _ _. all_kept t.touched p e }

module _ (old new : TableOf) (scope : new.scope ≡ old.scope) (n : ℕ) (common : Pair → Type 0) (h : HasRatios old n common) where
  in_old : (p : Pair) → has_variable new.scope p.variable ≡ true → has_variable old.scope p.variable ≡ true
  in_old p v = subst (λ (s : ScopeOf). has_variable s p.variable ≡ true) scope v

  -- they are the same
  pub same_ratios : new.shift ≡ old.shift → new.touched ≡ old.touched → (m : ℕ) → n ≡ m → (others : Pair → Type 0) → ((p : Pair) → others p → common p) → HasRatios new m others
  same_ratios shift touched m e others weaker = record {
    shifted = shift ∙ h.shifted ∙ ap (λ k. 40 * k) e;
    none = λ z. touched ∙ h.none (e ∙ z);
    kept = λ p o v. ap (λ (t : Option (List Pair)). keeps t p) touched ∙ h.kept p (weaker p o) (in_old p v);
  }

  -- they are the same, and no more cells count as touched
  pub ratios_restricted : new.shift ≡ old.shift → KeepsPairs old.scope old.touched None new.touched → HasRatios new n common
  ratios_restricted shift touched = record {
    shifted = shift ∙ h.shifted;
    none = λ z. touched.none (h.none z) refl;
    kept = λ p o v. let w = in_old p v in touched.pairs p w (h.kept p o w) refl;
  }

  -- there is one more
  pub one_ratio_more : new.shift ≡ old.shift + 40 → (condition : List Pair) → KeepsPairs old.scope old.touched (Some condition) new.touched → (m : ℕ) → n + 1 ≡ m → (others : Pair → Type 0)
      → ((p : Pair) → others p → common p) → ((p : Pair) → others p → Contains condition p) → HasRatios new m others
  one_ratio_more shift condition touched m e others weaker stands = record {
    shifted = let s = h.shifted in omega (arith, shift, s, e);
    none = λ z. absurd (omega (arith, e, z));
    kept = λ p o v. let w = in_old p v in touched.pairs p w (h.kept p (weaker p o) w) (has_contained condition p (stands p o));
  }

-- ---- an event that contradicts the common pair

other_contradicts : (ps : List Pair) (p other : Pair) → has_pair ps p ≡ true → other.variable ≡ p.variable → other.value ≢ p.value → contradicts_pair ps other ≡ true
other_contradicts [] p other h e d = absurd (false≢true h)
other_contradicts (q ∷ qs) p other h e d = at (or_cases (q.variable == p.variable && q.value == p.value) (has_pair qs p) h) (λ r. other_contradicts qs p other r e d)
  where
    at : (((q.variable == p.variable && q.value == p.value) ≡ true) ⊎ (has_pair qs p ≡ true)) → (has_pair qs p ≡ true → contradicts_pair qs other ≡ true)
        → ((q.variable == other.variable && not (q.value == other.value)) || contradicts_pair qs other) ≡ true
    at (inl r) ih =
        let b = and_parts (q.variable == p.variable) (q.value == p.value) r in
        or_left (q.variable == other.variable && not (q.value == other.value)) (contradicts_pair qs other)
        (and_from (q.variable == other.variable) (not (q.value == other.value)) (eq-eqb q.variable other.variable (eqb-true q.variable p.variable b.0 ∙ sym e))
        (not_from_false (q.value == other.value) (ne_eqb q.value other.value (λ f. d (sym f ∙ eqb-true q.value p.value b.1)))))
    at (inr r) ih = or_right (q.variable == other.variable && not (q.value == other.value)) (contradicts_pair qs other) (ih r)

pub untouched_by : (touched : Option (List Pair)) (event : List Pair) (p other : Pair) → keeps touched p ≡ true → Contains event other → other.variable ≡ p.variable → other.value ≢ p.value → is_untouched_by touched event ≡ true
untouched_by None event p other h i e d = refl
untouched_by (Some pairs) event p other h i e d =
    list_any_at (contradicts_pair pairs) event i.0 other i.1 (ap (contradicts_pair pairs) i.2 ∙ other_contradicts pairs p other h e d)
