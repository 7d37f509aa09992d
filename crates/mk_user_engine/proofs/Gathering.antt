-- Groups that keep what they name, one step after the other.
use Rattle.std.proofs.Common.{◌≡◌, ℕ, true, false, ◌||◌, ◌⊎◌, inl, inr, List, [], ◌∷◌, ◌++◌, All}
use Rattle.std.proofs.Common.{length}
use Rattle.std.proofs.Common.{Bool, refl, sym, ap, subst, ◌∙◌}
use Rattle.std.proofs.lemmas.Bool.{cases_Bool}
use Rattle.std.proofs.lemmas.List.Elements.{All-push, All-weaker}
use Rattle.mk_net.specs.declared.words.Pair.{Pair}
use Rattle.mk_net.specs.Network.{Variable, sizes}
use Rattle.mk_scope.specs.Scopes.{ScopeOf, HasSized}
use Rattle.mk_user_engine.specs.declared.group.Group.{Group}
use Rattle.mk_user_engine.specs.declared.groups.Groups.{Groups}
use Rattle.mk_user_engine.specs.Grouped.{names, AreJoined, IsNamedAt, HasGathered, HasGroups}
use Rattle.mk_user_engine.specs.GroupedNarrow.{GatheredStay}
use Rattle.mk_user_engine.proofs.Joining.{into, joined_keeps}

pub gathered_none : (gs : List Group) (place : ℕ) → HasGathered gs gs place
gathered_none gs place = record {
  together = λ j. (j, λ x e. e);
  here = λ x e. e;
  as_many = refl;
}

pub gathered_same : (old new : List Group) (place : ℕ) → length new ≡ length old
    → ((k x : ℕ) → names new k x ≡ names old k x) → HasGathered old new place
gathered_same old new place long same = record {
  together = λ j. (j, λ x e. same j x ∙ e);
  here = λ x e. same place x ∙ e;
  as_many = long;
}

pub gathered_named : (old new : List Group) (place variable : ℕ) → length new ≡ length old
    → IsNamedAt old new place variable → HasGathered old new place
gathered_named old new place variable long is = record {
  together = λ j. (j, λ x e. is.keeps j x e);
  here = λ x e. is.keeps place x e;
  as_many = long;
}

pub gathered_joined : (old new : List Group) (place other : ℕ) → AreJoined old new place other
    → HasGathered old new place
gathered_joined old new place other is = record {
  together = λ j. (into old new place other is j, λ x e. joined_keeps old new place other is j x e);
  here = λ x e. is.both x ∙ ap (λ b. b || names old other x) e;
  as_many = is.as_many;
}

pub gathered_more : (old now new : List Group) (place : ℕ) → HasGathered old now place
    → HasGathered now new place → HasGathered old new place
gathered_more old now new place first next = record {
  together = λ j.
      let a = first.together j in let b = next.together a.0 in
      (b.0, λ x e. b.1 x (a.1 x e));
  here = λ x e. next.here x (first.here x e);
  as_many = next.as_many ∙ first.as_many;
}

-- ---- by what a step says

pub gathered_by_name : (old new : List Group) (place variable : ℕ) (b : Bool)
    → length new ≡ length old → (b ≡ true → IsNamedAt old new place variable)
    → (b ≡ false → (k x : ℕ) → names new k x ≡ names old k x) → HasGathered old new place
gathered_by_name old new place variable b long taken left = at (cases_Bool b)
  where
    at : ((b ≡ true) ⊎ (b ≡ false)) → HasGathered old new place
    at (inl e) = gathered_named old new place variable long (taken e)
    at (inr e) = gathered_same old new place long (left e)

pub gathered_by_join : (old new : Groups) (place other : ℕ) (b : Bool)
    → (b ≡ true → AreJoined old.list.items new.list.items place other)
    → (b ≡ false → new ≡ old) → HasGathered old.list.items new.list.items place
gathered_by_join old new place other b taken left = at (cases_Bool b)
  where
    at : ((b ≡ true) ⊎ (b ≡ false)) → HasGathered old.list.items new.list.items place
    at (inl e) = gathered_joined old.list.items new.list.items place other (taken e)
    at (inr e) =
        subst (λ (gs : Groups). HasGathered old.list.items gs.list.items place) (sym (left e))
        (gathered_none old.list.items place)

-- ---- the variables of some pairs of a list

pub record HasGatheredPairs (scope : ScopeOf) (pairs passed : List Pair) (old new : Groups)
    (place : ℕ) : Type 0 where
  pub grown : (m : List Variable) → HasGroups (sizes m) old
      → All (λ (p : Pair). HasSized m scope p.variable) pairs → HasGroups (sizes m) new
  pub kept : HasGathered old.list.items new.list.items place
  pub named : All (λ (p : Pair). names new.list.items place p.variable ≡ true) passed

pub gathered_next : (scope : ScopeOf) (pairs passed : List Pair) (p : Pair) (old now new : Groups)
    (place : ℕ) → HasGatheredPairs scope pairs passed old now place
    → ((m : List Variable) → HasGroups (sizes m) old
    → All (λ (q : Pair). HasSized m scope q.variable) pairs → HasGroups (sizes m) new)
    → HasGathered now.list.items new.list.items place
    → names new.list.items place p.variable ≡ true
    → HasGatheredPairs scope pairs (passed ++ p ∷ []) old new place
gathered_next scope pairs passed p old now new place h grown kept named = record {
  grown = grown;
  kept = gathered_more old.list.items now.list.items new.list.items place h.kept kept;
  named = All-push (λ (q : Pair). names new.list.items place q.variable ≡ true) passed p
      (All-weaker (λ (q : Pair). names now.list.items place q.variable ≡ true)
      (λ (q : Pair). names new.list.items place q.variable ≡ true)
      (λ q e. kept.here q.variable e) passed h.named) named;
}

-- ---- a ratio

pub stays_gathered : GatheredStay
stays_gathered old new ratio keeps is =
    let to = keeps is.place in record {
      place = to.0;
      variable = to.1 ratio.variable is.variable;
      condition = All-weaker (λ (p : Pair). names old is.place p.variable ≡ true)
          (λ (p : Pair). names new to.0 p.variable ≡ true) (λ p e. to.1 p.variable e)
          ratio.condition is.condition;
    }
