-- What is kept of groups, where one group takes a ratio more.
use Rattle.std.proofs.Common.{◌≡◌, ℕ, ◌*◌, ◌<◌, true, false, if◌then◌else◌, ◌⊎◌, inl, inr}
use Rattle.std.proofs.Common.{List, [], ◌∷◌, ◌++◌, length, slice_index_or, slice_set, sym, ap}
use Rattle.std.proofs.Common.{subst, ◌∙◌, arith}
use Rattle.std.proofs.Math.ListN.{length-set}
use Rattle.std.proofs.lemmas.Bool.{cases_eq, cases_Bool}
use Rattle.std.proofs.lemmas.List.{get_or-set_same, get_or-set_other}
use Rattle.mk_net.specs.declared.words.Pair.{Pair}
use Rattle.mk_cell.specs.Cell.{StandsAt, IsOwnAt}
use Rattle.mk_cell.specs.Least.{least}
use Rattle.mk_cell.specs.Passes.{plus_below}
use Rattle.mk_user_engine.specs.declared.group.Group.{Group}
use Rattle.mk_user_engine.specs.declared.kept.KeptLeast.{KeptLeast}
use Rattle.mk_user_engine.specs.declared.narrow.PlacedRatio.{PlacedRatio}
use Rattle.mk_user_engine.specs.Names.{is_named, value_in, agrees}
use Rattle.mk_user_engine.specs.Narrow.{ratio_in, product_of, is_met}
use Rattle.mk_user_engine.specs.Grouped.{AreDisjoint, names_of, names}
use Rattle.mk_user_engine.specs.Kept.{HasGroupLeast, AreKept}
use Rattle.mk_user_engine.proofs.GroupProducts.{named_beside}
use Rattle.mk_user_engine.proofs.Joining.{names_at}

-- a group that does not name the ratio's variable has what it had
least_beside : (ts : List PlacedRatio) (ks : List Pair) (t : PlacedRatio) (g : Group)
    (l : KeptLeast) → is_named g.names.items (ratio_in t).variable ≡ false
    → HasGroupLeast ts ks g l → HasGroupLeast (ts ++ t ∷ []) ks g l
least_beside ts ks t g l e h =
    let least_by : List PlacedRatio → ℕ = λ rs. plus_below least g.cells
    (λ c. if agrees g.names.items ks c then product_of rs (value_in g.names.items c) else 0) in
    let same = sym (named_beside g.names.items ts t e) in
    record {
      stands = subst (λ (rs : List PlacedRatio). StandsAt (40 * length rs) l.least.digits
          l.least.exponent (least_by rs) (length rs)) same h.stands;
      own = λ u. subst (λ (rs : List PlacedRatio). IsOwnAt (40 * length rs) l.least.digits
          l.least.exponent (least_by rs) (length rs)) same (h.own u);
      met_is = λ u. subst (λ (rs : List PlacedRatio). (c : ℕ) × (c < g.cells)
          × (agrees g.names.items ks c ≡ true) × (is_met rs (value_in g.names.items c) ≡ true))
          same (h.met_is u);
    }

module _ (gs : List Group) (ts : List PlacedRatio) (ks : List Pair) (t : PlacedRatio)
    (place : ℕ) (within : place < length gs) (apart : AreDisjoint (names_of gs))
    (named : names gs place (ratio_in t).variable ≡ true) where
  other_named : (k : ℕ) → (k ≡ place → ⊥) → names gs k (ratio_in t).variable ≡ false
  other_named k d = at (cases_Bool (names gs k (ratio_in t).variable))
    where
      at : ((names gs k (ratio_in t).variable ≡ true) ⊎ (names gs k (ratio_in t).variable ≡ false))
          → names gs k (ratio_in t).variable ≡ false
      at (inl e) = absurd (d (apart (ratio_in t).variable k place e named))
      at (inr e) = e

  pub kept_taken : (ls : List KeptLeast) (l : KeptLeast) → AreKept gs ts ks ls
      → ((g : Group) → HasGroupLeast (ts ++ t ∷ []) ks (slice_index_or gs place g) l)
      → AreKept gs (ts ++ t ∷ []) ks (slice_set ls place l)
  kept_taken ls l are has = record {
    one_each = length-set ls place l ∙ are.one_each;
    each = λ k g m b. at k g m b (cases_eq k place);
  }
    where
      P : Group → KeptLeast → Type 0
      P h m = HasGroupLeast (ts ++ t ∷ []) ks h m

      at : (k : ℕ) (g : Group) (m : KeptLeast) → k < length gs
          → ((k ≡ place) ⊎ (k ≡ place → ⊥))
          → P (slice_index_or gs k g) (slice_index_or (slice_set ls place l) k m)
      at k g m b (inl e) =
          subst (λ y. P (slice_index_or gs k g) y)
          (sym (ap (λ i. slice_index_or (slice_set ls place l) i m) e
          ∙ get_or-set_same ls place l m (omega (arith, within, are.one_each))))
          (subst (λ i. P (slice_index_or gs i g) l) (sym e) (has g))
      at k g m b (inr d) =
          subst (λ y. P (slice_index_or gs k g) y) (sym (get_or-set_other ls place k l m d))
          (least_beside ts ks t (slice_index_or gs k g) (slice_index_or ls k m)
          (sym (names_at gs k g (ratio_in t).variable b) ∙ other_named k d) (are.each k g m b))
