-- A factor more, and a known pair more, in one cell and in the sum over all cells.
use Rattle.std.proofs.Common.{◌≡◌, ℕ, ◌+◌, ◌*◌, ◌<◌, ◌≤◌, Bool, true, false, cond, ◌&&◌, eqb, List, [], ◌∷◌, ◌++◌, length, All, refl, sym, ap, ◌∙◌, arith, le_refl, zero-mul}
use Rattle.std.proofs.lemmas.List.Elements.{All-from_recursion, All-weaker}
use Rattle.mk_net.specs.declared.words.Pair.{Pair}
use Rattle.mk_net.specs.Network.{sizes, Variable, IsNetwork}
use Rattle.mk_net.specs.Named.{variable_at}
use Rattle.mk_states.specs.States.{states, product_by}
use Rattle.mk_states.specs.InitialWeight.{value_at}
use Rattle.mk_states.proofs.Sums.{product_by_push, list_all-append, sum_by_is}
use Rattle.mk_states.proofs.Shares.{parents_within}
use Rattle.mk_sums.specs.Sums.{plus_below}
use Rattle.mk_sums.specs.There.{holds_there}
use Rattle.mk_sums.proofs.Grades.{sums_lawful}
use Rattle.mk_scope.specs.Scopes.{cells_in, HasSized}
use Rattle.mk_scope.specs.Cells.{values_at}
use Rattle.mk_engine.specs.Meaning.{Meaning, Factor, with_factor, with_known, factor_there, whole_sum}
use Rattle.mk_joint.specs.inner.Joints.{whole_scope, joint_there}
use Rattle.mk_joint.proofs.Cells.{states_are_cells, has_sized}

-- the product of all factors, whatever is known
abbrev pub product_there : Meaning → (ℕ → ℕ) → ℕ
product_there m a = product_by (λ (f : Factor). factor_there m.network f a) m.factors

pub sized_parents : (network : List Variable) → IsNetwork network → (k : ℕ) → k < length network → All (HasSized network (whole_scope network)) (variable_at network k).parents
sized_parents network net k h =
    All-weaker (λ x. x < length network) (HasSized network (whole_scope network)) (has_sized network) (variable_at network k).parents
    (All-from_recursion (λ x. x < length network) (variable_at network k).parents (parents_within network net k h))

-- one factor more
pub product_more : (m : Meaning) (f : Factor) (a : ℕ → ℕ) → product_there (with_factor f m) a ≡ product_there m a * factor_there m.network f a
product_more m f a = product_by_push (λ (g : Factor). factor_there m.network g a) m.factors f

pub joint_more : (m : Meaning) (f : Factor) (a : ℕ → ℕ) → joint_there (with_factor f m) a ≡ joint_there m a * factor_there m.network f a
joint_more m f a = at (holds_there m.known a)
  where
    at : (b : Bool) → cond b (product_there (with_factor f m) a) 0 ≡ cond b (product_there m a) 0 * factor_there m.network f a
    at true = product_more m f a
    at false = sym (zero-mul (factor_there m.network f a))

-- one known pair more
known_more : (known : List Pair) (p : Pair) (a : ℕ → ℕ) → holds_there (known ++ p ∷ []) a ≡ (holds_there known a && (eqb (a p.variable) p.value && true))
known_more known p a = list_all-append (λ (q : Pair). eqb (a q.variable) q.value) known (p ∷ [])

known_last : (known same : Bool) (n : ℕ) → cond same (cond known n 0) 0 ≡ cond (known && (same && true)) n 0
known_last true true n = refl
known_last true false n = refl
known_last false true n = refl
known_last false false n = refl

pub joint_known : (m : Meaning) (p : Pair) (a : ℕ → ℕ) → cond (eqb (a p.variable) p.value) (joint_there m a) 0 ≡ joint_there (with_known p m) a
joint_known m p a =
    known_last (holds_there m.known a) (eqb (a p.variable) p.value) (product_there m a) ∙ ap (λ b. cond b (product_there m a) 0) (sym (known_more m.known p a))

-- sums over cells
pub whole_is : (m : Meaning) → whole_sum m ≡ plus_below ◌+◌ (cells_in (whole_scope m.network)) (λ c. product_there m (values_at (whole_scope m.network) c))
whole_is m =
    sum_by_is (λ s. product_there m (value_at s)) (states (sizes m.network)) ∙ states_are_cells m.network ◌+◌ sums_lawful (product_there m)

pub joint_at_most : (m : Meaning) (a : ℕ → ℕ) → joint_there m a ≤ product_there m a
joint_at_most m a = at (holds_there m.known a)
  where
    at : (b : Bool) → cond b (product_there m a) 0 ≤ product_there m a
    at true = le_refl (product_there m a)
    at false = omega arith
