-- Pairs that agree, and those of which one contradicts another.
use Rattle.std.proofs.Common.{◌≡◌, ℕ, suc, zero, ◌<◌, Bool, true, false, not, ◌&&◌, ◌||◌, ◌⊎◌, inl}
use Rattle.std.proofs.Common.{inr, eqb}
use Rattle.std.proofs.Common.{List, [], ◌∷◌, ◌++◌, length, slice_index_or, refl, sym, ap, ◌∙◌}
use Rattle.std.proofs.Common.{arith, eq-eqb}
use Rattle.std.specs.List.{Contains}
use Rattle.std.proofs.lemmas.Bool.{cases_Bool, both_ways, eqb-true, and_parts}
use Rattle.std.proofs.lemmas.List.Folds.{list_any_at}
use Rattle.std.proofs.lemmas.List.Elements.{Contains-append_cases}
use Rattle.mk_net.specs.declared.words.Pair.{Pair}
use Rattle.mk_net.specs.Events.{speaks_of, AreApart}
use Rattle.mk_states.specs.InitialWeight.{value_at}
use Rattle.mk_states.specs.Events.{holds, has}
use Rattle.mk_table.specs.Tables.{contradicts, contradicts_pair}
use Rattle.mk_user_engine.specs.Narrow.{Agree}

-- ---- pairs that agree

pub agree_both : (ks es : List Pair) → Agree ks → Agree es → ((k e : Pair) → Contains ks k
    → Contains es e → k.variable ≡ e.variable → k.value ≡ e.value) → Agree (ks ++ es)
agree_both ks es one two cross p q c d same = at (Contains-append_cases ks es p c)
    (Contains-append_cases ks es q d)
  where
    at : (Contains ks p ⊎ Contains es p) → (Contains ks q ⊎ Contains es q) → p.value ≡ q.value
    at (inl a) (inl b) = one p q a b same
    at (inl a) (inr b) = cross p q a b same
    at (inr a) (inl b) = sym (cross q p b a (sym same))
    at (inr a) (inr b) = two p q a b same

speaks_at : (rs : List Pair) (q : Pair) (x : ℕ) → Contains rs q → x ≡ q.variable
    → speaks_of rs x ≡ true
speaks_at rs q x c e =
    list_any_at (λ (p : Pair). eqb x p.variable) rs c.0 q c.1
    (ap (λ (p : Pair). eqb x p.variable) c.2 ∙ eq-eqb x q.variable e)

-- the head of a list, or one of the rest
head_or_rest : (r p : Pair) (rs : List Pair) → Contains (r ∷ rs) p → (r ≡ p) ⊎ Contains rs p
head_or_rest r p rs c = at c.0 c.1 c.2
  where
    at : (k : ℕ) → k < length (r ∷ rs) → slice_index_or (r ∷ rs) k p ≡ p → (r ≡ p) ⊎ Contains rs p
    at zero l i = inl i
    at (suc k) l i = inr (k, omega arith, i)

pub apart_agree : (ps : List Pair) → AreApart ps → Agree ps
apart_agree [] h p q c d same = absurd (omega (arith, c.1))
apart_agree (r ∷ rs) h p q c d same = at (head_or_rest r p rs c) (head_or_rest r q rs d)
    (apart_agree rs h.1 p q)
  where
    at : ((r ≡ p) ⊎ Contains rs p) → ((r ≡ q) ⊎ Contains rs q) → (Contains rs p → Contains rs q
        → p.variable ≡ q.variable → p.value ≡ q.value) → p.value ≡ q.value
    at (inl i) (inl j) ih = ap (λ (t : Pair). t.value) (sym i ∙ j)
    at (inl i) (inr b) ih =
        let t = speaks_at rs q r.variable b (ap (λ (t : Pair). t.variable) i ∙ same)
        in absurd (both_ways (speaks_of rs r.variable) h.0 t)
    at (inr a) (inl j) ih =
        let t = speaks_at rs p r.variable a (ap (λ (t : Pair). t.variable) j ∙ sym same)
        in absurd (both_ways (speaks_of rs r.variable) h.0 t)
    at (inr a) (inr b) ih = ih a b same

-- ---- pairs that contradict none

abbrev pub differs : Pair → Pair → Bool
differs e k = eqb k.variable e.variable && not (eqb k.value e.value)

pub agree_with : (ks : List Pair) (e : Pair) → contradicts_pair ks e ≡ false → (k : Pair)
    → Contains ks k → k.variable ≡ e.variable → k.value ≡ e.value
agree_with ks e none k c same = at (cases_Bool (eqb k.value e.value))
  where
    at : ((eqb k.value e.value ≡ true) ⊎ (eqb k.value e.value ≡ false)) → k.value ≡ e.value
    at (inl i) = eqb-true k.value e.value i
    at (inr i) =
        let here : differs e k ≡ true = ap (λ b. b && not (eqb k.value e.value)) (eq-eqb k.variable
        e.variable same) ∙ ap not i in
        let t = list_any_at (differs e) ks c.0 k c.1 (ap (differs e) c.2 ∙ here) in
        absurd (both_ways (contradicts_pair ks e) none t)

pub agree_across : (ks es : List Pair) → contradicts ks es ≡ false → (k e : Pair) → Contains ks k
    → Contains es e → k.variable ≡ e.variable → k.value ≡ e.value
agree_across ks es none k e c d same = at (cases_Bool (contradicts_pair ks e))
  where
    at : ((contradicts_pair ks e ≡ true) ⊎ (contradicts_pair ks e ≡ false)) → k.value ≡ e.value
    at (inl i) =
        let t = list_any_at (contradicts_pair ks) es d.0 e d.1 (ap (contradicts_pair ks) d.2 ∙ i) in
        absurd (both_ways (contradicts ks es) none t)
    at (inr i) = agree_with ks e i k c same

-- one pair more
pub agree_push : (ks : List Pair) (e : Pair) → Agree ks → contradicts_pair ks e ≡ false
    → Agree (ks ++ e ∷ [])
agree_push ks e agree none =
    agree_both ks (e ∷ []) agree (apart_agree (e ∷ []) (refl, tt)) (λ k q c d same.
    let i : q ≡ e = at_last q d in
    agree_with ks e none k c (same ∙ ap (λ (t : Pair). t.variable) i)
    ∙ sym (ap (λ (t : Pair). t.value) i))
  where
    at_last : (q : Pair) → Contains (e ∷ []) q → q ≡ e
    at_last q d = at (head_or_rest e q [] d)
      where
        at : ((e ≡ q) ⊎ Contains [] q) → q ≡ e
        at (inl i) = sym i
        at (inr c) = absurd (omega (arith, c.1))

-- ---- in a state that has both no pair contradicts another

module _ (s : List ℕ) where
  pair_fits : (ks : List Pair) (e : Pair) → holds ks s ≡ true → has e s ≡ true
      → contradicts_pair ks e ≡ false
  pair_fits [] e h i = refl
  pair_fits (k ∷ ks) e h i =
      let parts = and_parts (has k s) (holds ks s) h in
      let here : differs e k ≡ false = at (cases_Bool (eqb k.variable e.variable)) (eqb-true
      (value_at s k.variable) k.value parts.0) in
      ap (λ b. b || contradicts_pair ks e) here ∙ pair_fits ks e parts.1 i
    where
      at : ((eqb k.variable e.variable ≡ true) ⊎ (eqb k.variable e.variable ≡ false))
          → value_at s k.variable ≡ k.value → differs e k ≡ false
      at (inl j) there =
          let v : k.value ≡ e.value = sym there
          ∙ ap (value_at s) (eqb-true k.variable e.variable j)
          ∙ eqb-true (value_at s e.variable) e.value i in
          ap (λ b. b && not (eqb k.value e.value)) j ∙ ap not (eq-eqb k.value e.value v)
      at (inr j) there = ap (λ b. b && not (eqb k.value e.value)) j

  pub all_fit : (ks es : List Pair) → holds ks s ≡ true → holds es s ≡ true
      → contradicts ks es ≡ false
  all_fit ks [] h i = refl
  all_fit ks (e ∷ es) h i =
      let parts = and_parts (has e s) (holds es s) i in
      ap (λ b. b || contradicts ks es) (pair_fits ks e h parts.0) ∙ all_fit ks es h parts.1
