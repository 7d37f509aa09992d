-- What groups name, with one of them written anew, and with two of them joined.
use Rattle.std.proofs.Common.{◌≡◌, ◌≢◌, ℕ, suc, zero, ◌+◌, ◌<◌, Bool, true, false, cond, ◌||◌, eqb}
use Rattle.std.proofs.Common.{◌⊎◌, inl, inr, List, [], ◌∷◌, length, slice_index_or, slice_set}
use Rattle.std.proofs.Common.{refl, sym, ap, ◌∙◌, arith, eq-eqb, ne_eqb}
use Rattle.std.proofs.lemmas.Bool.{cases_Bool, cases_eq, both_ways}
use Rattle.mk_user_engine.specs.declared.group.Group.{Group}
use Rattle.mk_user_engine.specs.Names.{is_named}
use Rattle.mk_user_engine.specs.Grouped.{names, names_of, AreDisjoint, AreJoined}

-- ---- what one group names

pub names_at : (gs : List Group) (k : ℕ) (d : Group) (x : ℕ) → k < length gs
    → names gs k x ≡ is_named (slice_index_or gs k d).names.items x
names_at [] k d x l = absurd (omega arith)
names_at (g ∷ gs) zero d x l = refl
names_at (g ∷ gs) (suc k) d x l = names_at gs k d x (omega arith)

pub names_set : (gs : List Group) (k : ℕ) (g : Group) (x : ℕ) → k < length gs
    → names (slice_set gs k g) k x ≡ is_named g.names.items x
names_set [] k g x l = absurd (omega arith)
names_set (h ∷ gs) zero g x l = refl
names_set (h ∷ gs) (suc k) g x l = names_set gs k g x (omega arith)

pub names_set_other : (gs : List Group) (j : ℕ) (g : Group) (k x : ℕ) → k ≢ j
    → names (slice_set gs j g) k x ≡ names gs k x
names_set_other [] zero g k x differ = refl
names_set_other [] (suc j) g k x differ = refl
names_set_other (h ∷ gs) zero g zero x differ = absurd (differ refl)
names_set_other (h ∷ gs) zero g (suc k) x differ = refl
names_set_other (h ∷ gs) (suc j) g zero x differ = refl
names_set_other (h ∷ gs) (suc j) g (suc k) x differ =
    names_set_other gs j g k x (λ e. differ (ap suc e))

-- one group more does not name a variable
pub none_next : (gs : List Group) (n x : ℕ) → ((k : ℕ) → k < n → names gs k x ≡ false)
    → names gs n x ≡ false → (k : ℕ) → k < n + 1 → names gs k x ≡ false
none_next gs n x before here k l = at (cases_eq k n)
  where
    at : ((k ≡ n) ⊎ (k ≡ n → ⊥)) → names gs k x ≡ false
    at (inl e) = ap (λ i. names gs i x) e ∙ here
    at (inr d) = before k (omega (arith, d, l))

-- ---- two groups joined

pub joined_names : (gs : List Group) (j k : ℕ) (none made first second : Group)
    → j < length gs → k < length gs → length (slice_set gs k none) ≡ length gs → j ≢ k
    → first ≡ slice_index_or (slice_set gs k none) j first → second ≡ slice_index_or gs k second
    → ((x : ℕ) → is_named none.names.items x ≡ false)
    → ((x : ℕ) → is_named made.names.items x
    ≡ (is_named first.names.items x || is_named second.names.items x))
    → length (slice_set (slice_set gs k none) j made) ≡ length gs
    → AreJoined gs (slice_set (slice_set gs k none) j made) j k
joined_names gs j k none made first second lj lk long differ e f nothing both as_many = record {
  as_many = as_many;
  both = λ x.
      names_set (slice_set gs k none) j made x (omega (arith, lj, long))
      ∙ both x
      ∙ ap (λ b. b || is_named second.names.items x)
      (ap (λ (g : Group). is_named g.names.items x) e
      ∙ sym (names_at (slice_set gs k none) j first x (omega (arith, lj, long)))
      ∙ names_set_other gs k none j x differ)
      ∙ ap (λ b. names gs j x || b)
      (ap (λ (g : Group). is_named g.names.items x) f ∙ sym (names_at gs k second x lk));
  nothing = λ x. names_set_other (slice_set gs k none) j made k x (λ i. differ (sym i))
      ∙ names_set gs k none x lk ∙ nothing x;
  others = λ i x d f. names_set_other (slice_set gs k none) j made i x d
      ∙ names_set_other gs k none i x f;
}

module _ (old new : List Group) (j k : ℕ) (is : AreJoined old new j k) where
  -- the group that a group went into
  abbrev pub into : ℕ → ℕ
  into o = cond (eqb o k) j o

  into_first : into j ≡ j
  into_first = at (eqb j k)
    where
      at : (b : Bool) → cond b j j ≡ j
      at true = refl
      at false = refl

  into_second : into k ≡ j
  into_second = ap (λ b. cond b j k) (eq-eqb k k refl)

  into_other : (o : ℕ) → o ≢ k → into o ≡ o
  into_other o d = ap (λ b. cond b j o) (ne_eqb o k d)

  abbrev From : ℕ → ℕ → Type 0
  From p x = (o : ℕ) × (names old o x ≡ true) × (p ≡ into o)

  -- what a group names one that went into it did
  named_from : (p x : ℕ) → names new p x ≡ true → From p x
  named_from p x e = by_first (cases_eq p j)
    where
      either : p ≡ j → ((names old j x ≡ true) ⊎ (names old j x ≡ false)) → From p x
      either i (inl h) = (j, h, i ∙ sym into_first)
      either i (inr h) = (
        k,
        sym (ap (λ q. names new q x) i ∙ is.both x ∙ ap (λ b. b || names old k x) h) ∙ e,
        i ∙ sym into_second,
      )

      by_second : p ≢ j → ((p ≡ k) ⊎ (p ≡ k → ⊥)) → From p x
      by_second d (inl i) =
          absurd (both_ways (names new p x) (ap (λ q. names new q x) i ∙ is.nothing x) e)
      by_second d (inr f) = (p, sym (is.others p x d f) ∙ e, sym (into_other p f))

      by_first : ((p ≡ j) ⊎ (p ≡ j → ⊥)) → From p x
      by_first (inl i) = either i (cases_Bool (names old j x))
      by_first (inr d) = by_second d (cases_eq p k)

  pub joined_apart : AreDisjoint (names_of old) → AreDisjoint (names_of new)
  joined_apart apart x p q e f =
      let a = named_from p x e in let b = named_from q x f in
      a.2 ∙ ap into (apart x a.0 b.0 a.1 b.1) ∙ sym b.2

  -- what a group named the one does that it went into
  pub joined_keeps : (o x : ℕ) → names old o x ≡ true → names new (into o) x ≡ true
  joined_keeps o x e = by_second (cases_eq o k)
    where
      always : (b : Bool) → (b || true) ≡ true
      always true = refl
      always false = refl

      by_first : o ≢ k → ((o ≡ j) ⊎ (o ≡ j → ⊥)) → names new (into o) x ≡ true
      by_first f (inl i) =
          ap (λ q. names new q x) (into_other o f ∙ i) ∙ is.both x
          ∙ ap (λ b. b || names old k x) (sym (ap (λ q. names old q x) i) ∙ e)
      by_first f (inr d) = ap (λ q. names new q x) (into_other o f) ∙ is.others o x d f ∙ e

      by_second : ((o ≡ k) ⊎ (o ≡ k → ⊥)) → names new (into o) x ≡ true
      by_second (inl i) =
          ap (λ q. names new q x) (ap into i ∙ into_second) ∙ is.both x
          ∙ ap (λ b. names old j x || b) (sym (ap (λ q. names old q x) i) ∙ e)
          ∙ always (names old j x)
      by_second (inr f) = by_first f (cases_eq o j)
