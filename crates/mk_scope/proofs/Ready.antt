-- One variable more of the runs that a scope lists by strides, after the last variables, which make the runs.
use Rattle.std.proofs.Common.{◌≡◌, ℕ, ◌+◌, ◌-◌, ◌*◌, ◌<◌, ◌≤◌, true, false, cond, not, List, [], ◌∷◌, length, drop, sym, ap, ◌∙◌, arith}
use Rattle.std.proofs.lemmas.List.{drop_all}
use Rattle.mk_net.specs.declared.words.Pair.{Pair}
use Rattle.mk_states.specs.States.{numbers_below}
use Rattle.mk_sums.specs.Cells.{cells}
use Rattle.mk_scope.specs.Scopes.{ScopeOf, IsScope, size_in, has_variable}
use Rattle.mk_scope.specs.inner.Strides.{MayRepeat, IsTail, repeated, cells_with, lets, values_let, values_moved}
use Rattle.mk_scope.specs.Runs.{runs_of}
use Rattle.mk_scope.proofs.Members.{size_pos}
use Rattle.mk_scope.proofs.Values.{cells_pos}
use Rattle.mk_scope.proofs.Doubled.{below_rows, repeated_each}
use Rattle.mk_scope.proofs.Listed.{IsReady}
use Rattle.mk_scope.proofs.Runs.{runs_few, runs_repeated, of_firsts}

-- no variable
pub none_tail : (scope : ScopeOf) (values : ℕ → List ℕ) → IsTail scope values 0 1
none_tail scope values =
    let none : drop (length scope.variables - 0) scope.variables ≡ [] = drop_all (length scope.variables - 0) scope.variables (omega arith) in
    record {
      within = omega arith;
      counted = sym (ap (cells (size_in scope)) none);
      free = ap (cells_with (size_in scope) values) none;
    }

pub tail_some : (scope : ScopeOf) → IsScope scope → (values : ℕ → List ℕ) (count run : ℕ) → IsTail scope values count run → 1 ≤ run
tail_some scope is values count run t =
    let p = cells_pos (size_in scope) (drop (length scope.variables - count) scope.variables) (λ x q. size_pos scope is x) in
    let e = t.counted in omega (arith, p, e)

-- what is listed so far, of which each cell begins a run, may be repeated for one variable more
pub record HasReadyRuns (scope : ScopeOf) (values : ℕ → List ℕ) (run passed size x stride : ℕ)
    (firsts : List ℕ) : Type 0 where
  pub may_repeat : MayRepeat stride size firsts
  pub size_is : size ≡ size_in scope x
  pub next_stride : stride * size ≡ cells (size_in scope) (drop (length scope.variables - (passed + 1)) scope.variables)
  pub next_runs : (new : List ℕ) → new ≡ repeated stride (values x) firsts → runs_of run new ≡ cells_with (size_in scope) values (drop (length scope.variables - (passed + 1)) scope.variables)

pub ready_runs : (scope : ScopeOf) (values : ℕ → List ℕ) (run : ℕ) → 1 ≤ run
    → (passed size x stride : ℕ) (firsts : List ℕ)
    → IsReady scope values passed size x stride (runs_of run firsts)
    → HasReadyRuns scope values run passed size x stride firsts
ready_runs scope values run some passed size x stride firsts h = record {
  may_repeat = record {
    below = of_firsts (λ c. c < stride) run firsts some h.may_repeat.below;
    few = let a = runs_few run firsts some in let b = h.may_repeat.few in omega (arith, a, b);
    fits = h.may_repeat.fits;
    some = h.may_repeat.some;
  };
  size_is = h.size_is;
  next_stride = h.next_stride;
  next_runs = λ new made. h.next_items (runs_of run new) (ap (runs_of run) made
      ∙ runs_repeated run stride (values x) firsts);
}

-- one variable more, which may have each of its values
pub tail_next : (scope : ScopeOf) (values : ℕ → List ℕ) (passed size x count : ℕ) → IsReady scope values passed size x count (numbers_below count)
    → repeated count (values x) (numbers_below count) ≡ repeated count (numbers_below (size_in scope x)) (numbers_below count)
    → IsTail scope values (passed + 1) (count * size)
tail_next scope values passed size x count h all =
    let s : count * size ≡ size_in scope x * count = let e = h.size_is in ap (λ n. count * n) e ∙ omega arith in
    record {
      within = h.next_within;
      counted = h.next_stride;
      free = sym (h.next_items (numbers_below (count * size)) (ap numbers_below s
          ∙ below_rows (size_in scope x) count ∙ sym all));
    }

pub all_let : (scope : ScopeOf) (event : List Pair) (x count : ℕ) → ((v : ℕ) → lets event x v ≡ true)
    → repeated count (values_let scope event x) (numbers_below count) ≡ repeated count (numbers_below (size_in scope x)) (numbers_below count)
all_let scope event x count h = repeated_each (lets event x) count (size_in scope x) (numbers_below count) h

pub all_outside : (whole part : ScopeOf) (x count : ℕ) → has_variable part x ≡ false
    → repeated count (values_moved whole part false x) (numbers_below count) ≡ repeated count (numbers_below (size_in whole x)) (numbers_below count)
all_outside whole part x count h = ap (λ b. repeated count (cond (not b) (numbers_below (size_in whole x)) (0 ∷ [])) (numbers_below count)) h

-- all variables were passed
pub all_passed : (kept scope : ScopeOf) → kept ≡ scope
    → (values : ℕ → List ℕ) (passed : ℕ) (items : List ℕ) → length kept.variables ≤ passed
    → items ≡ cells_with (size_in scope) values
    (drop (length scope.variables - passed) scope.variables)
    → items ≡ cells_with (size_in scope) values scope.variables
all_passed kept scope same values passed items l e =
    let m = ap (λ (s : ScopeOf). length s.variables) same in
    let z : length scope.variables - passed ≡ 0 = omega (arith, l, m) in
    e ∙ ap (λ n. cells_with (size_in scope) values (drop n scope.variables)) z
