-- The beliefs in the other values of a question's variable, over the states of its other side; the least is a lawful plus.
use Rattle.std.proofs.Common.{◌≡◌, ℕ, ◌<◌, Bool, true, false, cond, not, ◌&&◌, eqb, List, [], ◌∷◌, length, filter, slice_index, refl, sym, ap, ◌∙◌, arith}
use Rattle.std.proofs.Math.Path.{fun_ext}
use Rattle.mk_net.specs.Asked.{Asked}
use Rattle.mk_net.specs.Events.{pairs_asked}
use Rattle.mk_net.specs.Network.{sizes}
use Rattle.mk_states.specs.Lawful.{Lawful}
use Rattle.mk_states.specs.States.{states, numbers_below, plus_over, IsState}
use Rattle.mk_states.specs.InitialWeight.{value_at}
use Rattle.mk_states.specs.Events.{holds, has, with_target, without_target}
use Rattle.mk_states.proofs.Sums.{plus_over-filter, plus_over_at, plus_over_each, each_weaker}
use Rattle.mk_states.proofs.Listed.{states_are, value_below}
use Rattle.mk_sums.proofs.States.{is_plus}
use Rattle.mk_engine.specs.Meaning.{Meaning}
use Rattle.mk_engine.specs.Cases.{exact_others}
use Rattle.mk_engine.proofs.Cases.{product_at, added, holds_more, others_by_states}

pub holds_asked : (asked : Asked) → holds (pairs_asked asked) ≡ with_target asked
holds_asked asked = fun_ext (holds_more asked.condition asked.target)

-- what adds nothing may be left out
pub without_nothing : {X : Type 0} (plus : ℕ → ℕ → ℕ) → Lawful plus → (f : X → ℕ) (p c : X → Bool) (xs : List X) → ((x : X) → c x ≡ false → f x ≡ 0)
    → plus_over plus 0 f (filter p xs) ≡ plus_over plus 0 f (filter p (filter c xs))
without_nothing plus law f p c [] h = refl
without_nothing {X} plus law f p c (x ∷ xs) h = at (p x) (c x) refl refl (without_nothing plus law f p c xs h)
  where
    at : (b d : Bool) → p x ≡ b → c x ≡ d → plus_over plus 0 f (filter p xs) ≡ plus_over plus 0 f (filter p (filter c xs))
        → plus_over plus 0 f (cond b (x ∷ filter p xs) (filter p xs)) ≡ plus_over plus 0 f (filter p (cond d (x ∷ filter c xs) (filter c xs)))
    at true true e g rest = rw e (ap (plus (f x)) rest)
    at true false e g rest = rw (h x g) (law.neutral (plus_over plus 0 f (filter p xs)) ∙ rest)
    at false true e g rest = rw e rest
    at false false e g rest = rest

by_side : (k h t : Bool) (w : ℕ) → cond (not t) (cond (k && h) w 0) 0 ≡ cond (k && (h && not t)) w 0
by_side false h false w = refl
by_side false h true w = refl
by_side true false false w = refl
by_side true false true w = refl
by_side true true false w = refl
by_side true true true w = refl

module _ (plus : ℕ → ℕ → ℕ) (law : Lawful plus) (m : Meaning) (asked : Asked) (within : asked.target.variable < length m.network) where
  size : ℕ
  size = slice_index (sizes m.network) asked.target.variable

  -- what a state adds over all values, and what it adds where it is on the other side
  each : List ℕ → ℕ
  unfolding size
  each s = plus_over plus 0 (λ v. cond (eqb (value_at s asked.target.variable) v) (added m asked s v) 0) (numbers_below size)

  there : List ℕ → ℕ
  there s = cond (holds m.known s && without_target asked s) (product_at m s) 0

  once : (s : List ℕ) → IsState (sizes m.network) s → each s ≡ there s
  unfolding size each there
  once s is_state =
      let own : value_at s asked.target.variable < slice_index (sizes m.network) asked.target.variable = value_below m.network asked.target.variable s within is_state in
      plus_over_at plus 0 (is_plus plus law) (added m asked s) (slice_index (sizes m.network) asked.target.variable) 0 (value_at s asked.target.variable) (omega arith) (omega (arith, own))
      ∙ by_side (holds m.known s) (holds asked.condition s) (has asked.target s) (product_at m s)

  -- each state on the other side adds once, for its own value of the variable
  pub others_where : exact_others plus m asked (slice_index (sizes m.network) asked.target.variable)
      ≡ plus_over plus 0 (product_at m) (filter (λ s. holds m.known s && without_target asked s) (states (sizes m.network)))
  unfolding size each there
  others_where =
      others_by_states plus law m asked (slice_index (sizes m.network) asked.target.variable)
      ∙ plus_over_each plus 0 each there (states (sizes m.network)) (each_weaker (IsState (sizes m.network)) (λ s. each s ≡ there s) once (states (sizes m.network)) (states_are (sizes m.network)))
      ∙ sym (plus_over-filter plus 0 (is_plus plus law) (product_at m) (λ s. holds m.known s && without_target asked s) (states (sizes m.network)))
