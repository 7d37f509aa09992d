-- What is known of the last quotes of users, when one of them is set and when a user joins.
use Rattle.std.proofs.Common.{◌≡◌, ℕ, zero, suc, Bool, true, false, cond, List, [], ◌∷◌, ◌++◌, Option, Some, None, IfSome, refl, ap₂, subst}
use Rattle.std.specs.Prelude.{◌==◌, slice_set}
use Rattle.std.specs.Cmp.Lexicographic.{pointwise}
use Rattle.std.proofs.lemmas.Bool.{eqb-true, and_parts}
use Rattle.mk_net.specs.declared.words.Pair.{Pair}
use Rattle.mk_net.specs.Asked.{Asked}
use Rattle.mk_exact.specs.History.{Entry, revision}
use Rattle.mk_exact.specs.Sides.{AreRightLimits}
use Rattle.mk_exact.specs.Market.{Market}
use Rattle.mk_spread.specs.Spreads.{SpreadAsked}
use Rattle.mk_spread.specs.Bounds.{Intervals}
use Rattle.mk_spread.specs.Markets.{AreRightBoundsOf}
use Rattle.mk_rules.specs.Quotes.{Interval, Quoted, EditLimits, SpreadBounds, Quote, Quotes, last_quote, same_pair, same_question, same_spread, limits_in, bounds_in, current_limits, current_bounds}
use Rattle.mk_rules.specs.Standings.{IsRightQuote}

-- something holds of each user's last quote
abbrev pub Each : (ℕ → Quote → Type 0) → Quotes → Type 0
Each P quotes = (u : ℕ) → IfSome (last_quote quotes u) (P u)

pub each_set : (P : ℕ → Quote → Type 0) (quotes : Quotes) (n : ℕ) (o : Option Quote) → Each P quotes → IfSome o (P n) → Each P (slice_set quotes n o)
each_set P [] n o h k u = tt
each_set P (q ∷ quotes) zero o h k zero = k
each_set P (q ∷ quotes) zero o h k (suc u) = h (suc u)
each_set P (q ∷ quotes) (suc n) o h k zero = h zero
each_set P (q ∷ quotes) (suc n) o h k (suc u) = each_set (λ v. P (suc v)) quotes n o (λ v. h (suc v)) k u

pub each_pushed : (P : ℕ → Quote → Type 0) (quotes : Quotes) → Each P quotes → Each P (quotes ++ None ∷ [])
each_pushed P [] h zero = tt
each_pushed P [] h (suc u) = tt
each_pushed P (q ∷ quotes) h zero = h zero
each_pushed P (q ∷ quotes) h (suc u) = each_pushed (λ v. P (suc v)) quotes (λ v. h (suc v)) u

weaker : (P Q : Quote → Type 0) → ((quote : Quote) → P quote → Q quote) → (o : Option Quote) → IfSome o P → IfSome o Q
weaker P Q f None h = tt
weaker P Q f (Some quote) h = f quote h

pub each_weaker : (P Q : ℕ → Quote → Type 0) → ((u : ℕ) (quote : Quote) → P u quote → Q u quote) → (quotes : Quotes) → Each P quotes → Each Q quotes
each_weaker P Q f quotes h u = weaker (P u) (Q u) (f u) (last_quote quotes u) (h u)

-- the same question is an equal one
same_pair_is : (a b : Pair) → same_pair a b ≡ true → a ≡ b
same_pair_is a b h =
    let parts = and_parts (a.variable == b.variable) (a.value == b.value) h in
    ap₂ (λ (variable value : ℕ). record { variable = variable; value = value }) (eqb-true a.variable b.variable parts.0) (eqb-true a.value b.value parts.1)

same_pairs_are : (xs ys : List Pair) → pointwise same_pair xs ys ≡ true → xs ≡ ys
same_pairs_are [] [] h = refl
same_pairs_are [] (b ∷ ys) h = cc
same_pairs_are (a ∷ xs) [] h = cc
same_pairs_are (a ∷ xs) (b ∷ ys) h =
    let parts = and_parts (same_pair a b) (pointwise same_pair xs ys) h in
    ap₂ (λ (p : Pair) (ps : List Pair). p ∷ ps) (same_pair_is a b parts.0) (same_pairs_are xs ys parts.1)

pub same_question_is : (a b : Asked) → same_question a b ≡ true → a ≡ b
same_question_is a b h =
    let parts = and_parts (same_pair a.target b.target) (pointwise same_pair a.condition b.condition) h in
    ap₂ (λ (p : Pair) (ps : List Pair). record { target = p; condition = ps }) (same_pair_is a.target b.target parts.0) (same_pairs_are a.condition b.condition parts.1)

-- and the same spread is
pub same_spread_is : (a b : SpreadAsked) → same_spread a b ≡ true → a ≡ b
same_spread_is a b h =
    let parts = and_parts (a.variable == b.variable) (pointwise same_pair a.condition b.condition) h in
    ap₂ (λ (variable : ℕ) (ps : List Pair). record { variable = variable; condition = ps }) (eqb-true a.variable b.variable parts.0) (same_pairs_are a.condition b.condition parts.1)

-- what a quote that is the same holds
of_same : {A L : Type 0} (P : A → L → Type 0) (same : A → A → Bool) → ((a b : A) → same a b ≡ true → a ≡ b)
    → (own asked : A) (held wanted : L) (b : Bool) → same own asked ≡ b → P own held
    → cond b (Some held) None ≡ Some wanted → P asked wanted
of_same P same is own asked held wanted false e right h = cc
of_same P same is own asked held wanted true e right h =
    let equal : held ≡ wanted = cc in
    subst (λ l. P asked l) equal (subst (λ a. P a held) (is own asked e) right)

-- limits that a right quote holds for a question at the present revision are right
module _ (market : Market) (H : List Entry) (u : ℕ) (asked : Asked) (limits : Interval) where
  of_quote : (says : Quoted) (at : ℕ) (b : Bool) → (at == revision H) ≡ b → IsRightQuote market H u (record { says = says; at = at })
      → cond b (limits_in says asked) None ≡ Some limits → AreRightLimits market.network H u asked limits
  of_quote (EditLimits question held) at false e right h = cc
  of_quote (EditLimits question held) at true e right h =
      of_same (AreRightLimits market.network H u) same_question same_question_is question asked held limits (same_question question asked) refl (right.right (eqb-true at (revision H) e)) h
  of_quote (SpreadBounds spread held) at false e right h = cc
  of_quote (SpreadBounds spread held) at true e right h = cc

  pub current_right : (o : Option Quote) → IfSome o (IsRightQuote market H u) → current_limits o asked (revision H) ≡ Some limits → AreRightLimits market.network H u asked limits
  current_right None right h = cc
  current_right (Some quote) right h = of_quote quote.says quote.at (quote.at == revision H) refl right h

-- and so are the bounds that it holds for a spread
module _ (market : Market) (H : List Entry) (u : ℕ) (spread : SpreadAsked) (intervals : Intervals) where
  bounds_of_quote : (says : Quoted) (at : ℕ) (b : Bool) → (at == revision H) ≡ b → IsRightQuote market H u (record { says = says; at = at })
      → cond b (bounds_in says spread) None ≡ Some intervals → AreRightBoundsOf market.network H u spread intervals
  bounds_of_quote (EditLimits question held) at false e right h = cc
  bounds_of_quote (EditLimits question held) at true e right h = cc
  bounds_of_quote (SpreadBounds asked held) at false e right h = cc
  bounds_of_quote (SpreadBounds asked held) at true e right h =
      of_same (AreRightBoundsOf market.network H u) same_spread same_spread_is asked spread held intervals (same_spread asked spread) refl (right.right (eqb-true at (revision H) e)) h

  pub current_bounds_right : (o : Option Quote) → IfSome o (IsRightQuote market H u) → current_bounds o spread (revision H) ≡ Some intervals
      → AreRightBoundsOf market.network H u spread intervals
  current_bounds_right None right h = cc
  current_bounds_right (Some quote) right h = bounds_of_quote quote.says quote.at (quote.at == revision H) refl right h
