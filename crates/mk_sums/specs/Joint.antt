-- The joint value over the list of all states, and the items of a tree that make it.
use Rattle.std.specs.Prelude.{ℕ, ◌≤◌, Bool, cond, ◌&&◌, ◌==◌, List, length}
use Rattle.std.specs.List.{list_all, filter}
use Rattle.mk_net.specs.declared.words.Pair.{Pair}
use Rattle.mk_states.specs.States.{states, numbers_below, plus_over, product_by}
use Rattle.mk_states.specs.InitialWeight.{value_at}
use Rattle.mk_states.specs.Events.{holds}
use Rattle.mk_sums.specs.Sums.{Within}

-- the exact plus, over all states where the known pairs and the event hold, of the product of all factors; 0, for absent, where no state does
abbrev pub joint : (ℕ → ℕ → ℕ) → List ℕ → List ((ℕ → ℕ) → ℕ) → List Pair → List Pair → ℕ
joint plus sizes factors known event =
    plus_over plus 0 (λ s. product_by (λ (f : (ℕ → ℕ) → ℕ). f (value_at s)) factors) (filter (λ s. holds known s && holds event s) (states sizes))

-- a pair as a factor: 1 where it holds, and absent elsewhere
abbrev pub where_has : Pair → (ℕ → ℕ) → ℕ
where_has p s = cond (s p.variable == p.value) 1 0

-- an event as a factor
abbrev pub where_holds : List Pair → (ℕ → ℕ) → ℕ
where_holds event s = cond (list_all (λ (p : Pair). s p.variable == p.value) event) 1 0

-- what is placed in one clique of a tree: a factor, or a known pair
pub record Item : Type 0 where
  pub clique : ℕ
  pub value : (ℕ → ℕ) → ℕ

-- the product of what is placed in clique k
abbrev pub placed_in : List Item → ℕ → (ℕ → ℕ) → ℕ
placed_in items k s = product_by (λ (i : Item). cond (i.clique == k) (i.value s) 1) items

-- an item lies in one of the cliques 1 to m, and reads only what this clique holds
pub record IsItem (m : ℕ) (clique : ℕ → ℕ → Bool) (item : Item) : Type 0 where
  pub first : 1 ≤ item.clique
  pub last : item.clique ≤ m
  pub fits : Within (clique item.clique) item.value

-- the variables of a list of sizes
abbrev pub variables : List ℕ → List ℕ
variables sizes = numbers_below (length sizes)
