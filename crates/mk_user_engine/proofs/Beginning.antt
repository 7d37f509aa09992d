-- What groups name, where one of them names a variable more.
use Rattle.std.proofs.Common.{◌≡◌, ℕ, suc, zero, ◌<◌, Bool, true, false, ◌||◌, ◌==◌}
use Rattle.std.proofs.Common.{◌⊎◌, inl, inr, List, [], ◌∷◌, ◌++◌, length, slice_index_or, slice_set}
use Rattle.std.proofs.Common.{refl, sym, ap, ◌∙◌, arith, eq-eqb}
use Rattle.std.proofs.lemmas.Bool.{cases_Bool, cases_eq, both_ways, eqb-true}
use Rattle.mk_user_engine.specs.declared.group.Group.{Group}
use Rattle.mk_user_engine.specs.Names.{is_named}
use Rattle.mk_user_engine.specs.Grouped.{names, names_of, AreDisjoint, IsFree, IsNamedAt}
use Rattle.mk_user_engine.proofs.Joining.{names_at, names_set, names_set_other}

-- no two groups name one variable, where a free one is named
pub apart_more : (old new : List Group) (place variable : ℕ) → IsNamedAt old new place variable
    → IsFree old variable → AreDisjoint (names_of old) → AreDisjoint (names_of new)
apart_more old new place variable is free apart x p q e f = at (is.from p x e) (is.from q x f)
  where
    torn : (k : ℕ) → variable ≡ x → names old k x ≡ true → ⊥
    torn k i h = both_ways (names old k x) (sym (ap (names old k) i) ∙ free k) h

    at : ((names old p x ≡ true) ⊎ ((p ≡ place) × (variable ≡ x)))
        → ((names old q x ≡ true) ⊎ ((q ≡ place) × (variable ≡ x))) → p ≡ q
    at (inl a) (inl b) = apart x p q a b
    at (inl a) (inr b) = absurd (torn p b.1 a)
    at (inr a) (inl b) = absurd (torn q a.1 b)
    at (inr a) (inr b) = a.0 ∙ sym b.0

either_or : (a b : Bool) → (a || b) ≡ true → (a ≡ true) ⊎ (b ≡ true)
either_or true b e = inl refl
either_or false b e = inr e

always : (b : Bool) → (b || true) ≡ true
always true = refl
always false = refl

-- in a group that is there
pub named_set : (gs : List Group) (place variable : ℕ) (old new : Group) → place < length gs
    → old ≡ slice_index_or gs place old
    → ((x : ℕ) → is_named new.names.items x ≡ (is_named old.names.items x || variable == x))
    → IsNamedAt gs (slice_set gs place new) place variable
named_set gs place variable old new l e more = record {
  named = here variable ∙ ap (λ b. names gs place variable || b) (eq-eqb variable variable refl)
      ∙ always (names gs place variable);
  keeps = λ k x h. kept k x h (cases_eq k place);
  from = λ k x h. came k x h (cases_eq k place);
}
  where
    here : (x : ℕ) → names (slice_set gs place new) place x ≡ (names gs place x || variable == x)
    here x = names_set gs place new x l ∙ more x
        ∙ ap (λ b. b || variable == x) (ap (λ (g : Group). is_named g.names.items x) e
        ∙ sym (names_at gs place old x l))

    kept : (k x : ℕ) → names gs k x ≡ true → ((k ≡ place) ⊎ (k ≡ place → ⊥))
        → names (slice_set gs place new) k x ≡ true
    kept k x h (inl i) = ap (λ q. names (slice_set gs place new) q x) i ∙ here x
        ∙ ap (λ b. b || variable == x) (sym (ap (λ q. names gs q x) i) ∙ h)
    kept k x h (inr d) = names_set_other gs place new k x d ∙ h

    came : (k x : ℕ) → names (slice_set gs place new) k x ≡ true
        → ((k ≡ place) ⊎ (k ≡ place → ⊥))
        → (names gs k x ≡ true) ⊎ ((k ≡ place) × (variable ≡ x))
    came k x h (inl i) = split (either_or (names gs place x) (variable == x)
        (sym (here x) ∙ sym (ap (λ q. names (slice_set gs place new) q x) i) ∙ h))
      where
        split : ((names gs place x ≡ true) ⊎ ((variable == x) ≡ true))
            → (names gs k x ≡ true) ⊎ ((k ≡ place) × (variable ≡ x))
        split (inl a) = inl (ap (λ q. names gs q x) i ∙ a)
        split (inr b) = inr (i, eqb-true variable x b)
    came k x h (inr d) = inl (sym (names_set_other gs place new k x d) ∙ h)

pub names_set_same : (gs : List Group) (place : ℕ) (old new : Group) → place < length gs
    → old ≡ slice_index_or gs place old → new ≡ old → (k x : ℕ)
    → names (slice_set gs place new) k x ≡ names gs k x
names_set_same gs place old new l e same k x = at (cases_eq k place)
  where
    at : ((k ≡ place) ⊎ (k ≡ place → ⊥)) → names (slice_set gs place new) k x ≡ names gs k x
    at (inl i) = ap (λ q. names (slice_set gs place new) q x) i ∙ names_set gs place new x l
        ∙ ap (λ (g : Group). is_named g.names.items x) (same ∙ e)
        ∙ sym (names_at gs place old x l) ∙ sym (ap (λ q. names gs q x) i)
    at (inr d) = names_set_other gs place new k x d

-- in a group more
names_front : (gs : List Group) (g : Group) (k x : ℕ) → names gs k x ≡ true
    → names (gs ++ g ∷ []) k x ≡ true
names_front [] g k x h = absurd (cc)
names_front (h ∷ gs) g zero x e = e
names_front (h ∷ gs) g (suc k) x e = names_front gs g k x e

names_last : (gs : List Group) (g : Group) (x : ℕ)
    → names (gs ++ g ∷ []) (length gs) x ≡ is_named g.names.items x
names_last [] g x = refl
names_last (h ∷ gs) g x = names_last gs g x

names_push : (gs : List Group) (g : Group) (k x : ℕ) → names (gs ++ g ∷ []) k x ≡ true
    → (names gs k x ≡ true) ⊎ ((k ≡ length gs) × (is_named g.names.items x ≡ true))
names_push [] g zero x e = inr (refl, e)
names_push [] g (suc k) x e = absurd (cc)
names_push (h ∷ gs) g zero x e = inl e
names_push (h ∷ gs) g (suc k) x e = at (names_push gs g k x e)
  where
    at : ((names gs k x ≡ true) ⊎ ((k ≡ length gs) × (is_named g.names.items x ≡ true)))
        → (names (h ∷ gs) (suc k) x ≡ true)
        ⊎ ((suc k ≡ length (h ∷ gs)) × (is_named g.names.items x ≡ true))
    at (inl a) = inl a
    at (inr b) = let i = b.0 in inr (omega (arith, i), b.1)

pub named_push : (gs : List Group) (variable : ℕ) (new : Group)
    → ((x : ℕ) → is_named new.names.items x ≡ (variable == x))
    → IsNamedAt gs (gs ++ new ∷ []) (length gs) variable
named_push gs variable new only = record {
  named = names_last gs new variable ∙ only variable ∙ eq-eqb variable variable refl;
  keeps = λ k x h. names_front gs new k x h;
  from = λ k x h. at k x (names_push gs new k x h);
}
  where
    at : (k x : ℕ)
        → ((names gs k x ≡ true) ⊎ ((k ≡ length gs) × (is_named new.names.items x ≡ true)))
        → (names gs k x ≡ true) ⊎ ((k ≡ length gs) × (variable ≡ x))
    at k x (inl a) = inl a
    at k x (inr b) = inr (b.0, eqb-true variable x (sym (only x) ∙ b.1))

-- by what a test says
pub apart_by : (new : List Group) (b : Bool) → (b ≡ true → AreDisjoint (names_of new))
    → (b ≡ false → AreDisjoint (names_of new)) → AreDisjoint (names_of new)
apart_by new b passed failed = at (cases_Bool b)
  where
    at : ((b ≡ true) ⊎ (b ≡ false)) → AreDisjoint (names_of new)
    at (inl e) = passed e
    at (inr e) = failed e
