-- What the tests' networks and tables have.
use Rattle.std.proofs.Common.{◌≡◌, ℕ, ◌+◌, ◌*◌, ◌^◌, ◌<◌, ◌⊎◌, inl, inr, List, length, set, arith, lit<, sym, ap, subst, ◌∙◌}
use Rattle.std.specs.Prelude.{slice_index_or}
use Rattle.std.proofs.lemmas.Bool.{cases_eq}
use Rattle.std.proofs.lemmas.List.{length-set, get_or-set_other}
use Rattle.mk_scope.specs.Scopes.{ScopeOf}
use Rattle.mk_table.specs.Tables.{TableOf, HasNumbers, HasRoom}
use Rattle.mk_table.specs.Lists.{IsOnes, no_scope, no_table, table_in}
use Rattle.mk_table_trials.specs.Weather.{weather_scopes, AreWeather}

-- a table has numbers after so many steps, under no shift
pub record IsPlain (t : TableOf) (steps : ℕ) : Type 0 where
  pub numbers : ℕ → ℕ
  pub has : HasNumbers t numbers steps
  pub no_shift : t.shift ≡ 0

pub room_of : (t : TableOf) (steps : ℕ) → IsPlain t steps → steps + 24 < 3 * 2 ^ 20 → HasRoom t 24
room_of t steps is few = record {
  numbers = is.numbers;
  steps = steps;
  has = is.has;
  few_steps = few;
  small_shift = omega (arith, is.no_shift);
}

-- a product of two plain tables is plain
pub plain_product : {table other new : TableOf} {n p : ℕ} → IsPlain table n → IsPlain other p
    → (numbers : ℕ → ℕ) → HasNumbers new numbers (n + p + 1)
    → new.shift ≡ table.shift + other.shift → IsPlain new (n + p + 1)
plain_product of_table of_other numbers has shift = record {
  numbers = numbers;
  has = has;
  no_shift = omega (arith, shift, of_table.no_shift, of_other.no_shift);
}

-- three tables of ones over the scopes
module _ (tables : List TableOf) (scopes : List ScopeOf) (are : scopes ≡ weather_scopes)
    (one_each : length tables ≡ length scopes)
    (made : (k : ℕ) → k < length scopes → IsOnes (slice_index_or scopes k no_scope) (table_in tables k)) where
  ones_at : (k : ℕ) → k < 3 → IsOnes (slice_index_or weather_scopes k no_scope) (table_in tables k)
  ones_at k l =
      let many = ap (λ (ss : List ScopeOf). length ss) are in
      subst (λ (ss : List ScopeOf). IsOnes (slice_index_or ss k no_scope) (table_in tables k)) are
      (made k (omega (arith, l, many)))

  pub plain_at : (k : ℕ) → k < 3 → IsPlain (table_in tables k) 0
  plain_at k l = record { numbers = λ c. 1; has = (ones_at k l).ones; no_shift = (ones_at k l).no_shift }

  pub fresh_weather : AreWeather tables
  fresh_weather = record {
    three = one_each ∙ ap (λ (ss : List ScopeOf). length ss) are;
    all = (ones_at 0 (lit< tt)).scope_is;
    rain = (ones_at 1 (lit< tt)).scope_is;
    wind = (ones_at 2 (lit< tt)).scope_is;
  }

-- where table number k alone changes, and keeps its scope
module _ (old new : List TableOf) (k : ℕ) (only : new ≡ set old k (table_in new k)) where
  pub other_after : (j : ℕ) → (j ≡ k → ⊥) → table_in new j ≡ table_in old j
  other_after j apart =
      ap (λ (ts : List TableOf). table_in ts j) only
      ∙ get_or-set_other old k j (table_in new k) no_table apart

  module _ (scope : (table_in new k).scope ≡ (table_in old k).scope) where
    scope_after : (j : ℕ) → (table_in new j).scope ≡ (table_in old j).scope
    scope_after j = at (cases_eq j k)
      where
        at : ((j ≡ k) ⊎ (j ≡ k → ⊥)) → (table_in new j).scope ≡ (table_in old j).scope
        at (inl e) = subst (λ i. (table_in new i).scope ≡ (table_in old i).scope) (sym e) scope
        at (inr d) = ap (λ (t : TableOf). t.scope) (other_after j d)

    pub weather_after : AreWeather old → AreWeather new
    weather_after w = record {
      three = ap (λ (ts : List TableOf). length ts) only ∙ length-set old k (table_in new k) ∙ w.three;
      all = scope_after 0 ∙ w.all;
      rain = scope_after 1 ∙ w.rain;
      wind = scope_after 2 ∙ w.wind;
    }
