-- The numbers of names, beside one variable more, and names that are all different.
use Rattle.std.proofs.Common.{◌≡◌, ◌≢◌, ℕ, zero, suc, ◌+◌, ◌<◌, ◌≤◌, Bool, true, false, cond, ◌||◌}
use Rattle.std.proofs.Common.{List, [], ◌∷◌, ◌++◌, length, Option, Some, None}
use Rattle.std.proofs.Common.{refl, sym, ap, ◌∙◌, subst, arith}
use Rattle.std.specs.Prelude.{⊤, ◌==◌, option_map, find, is_some}
use Rattle.std.specs.List.{AllByRecursion, list_any, enumerate_from, filter_map, cons_option}
use Rattle.std.proofs.lemmas.Bool.{eq-eqb, eqb-true, or_right}
use Rattle.std.proofs.lemmas.List.Elements.{All-from_recursion}
use Rattle.mk_net.specs.Network.{Variable, names, AreDistinct}
use Rattle.mk_net.specs.Named.{variable_named, variable_at}
use Rattle.mk_names.specs.Texts.{same_text}
use Rattle.mk_names.specs.inner.TextLaws.{same_text_of_equal, equal_of_same_text}
use Rattle.mk_rules.specs.Additions.{number_named}
use Rattle.mk_rules.specs.Refusals.{first_repeat}
use Rattle.mk_rules.proofs.Apart.{Occurs, occurs_longer, occurs_first, later_names}

abbrev first : ℕ × Variable → ℕ
first numbered = numbered.0

-- the first of a name among variables that are counted from n on, and its number
abbrev found : ℕ → List Variable → List ℕ → Option (ℕ × Variable)
found n vs name =
    find (λ (numbered : ℕ × Variable). same_text name (numbered.1).name) (enumerate_from n vs)

abbrev number_from : ℕ → List Variable → List ℕ → Option ℕ
number_from n vs name = option_map first (found n vs name)

-- the variable there has the name
HasName : ℕ → List Variable → List ℕ → ℕ → Type 0
HasName n vs name k = (j : ℕ) × (n + j ≡ k) × (j < length vs) × ((variable_at vs j).name ≡ name)

has_name : (n : ℕ) (vs : List Variable) (name : List ℕ) (k : ℕ) → number_from n vs name ≡ Some k
    → HasName n vs name k
unfolding HasName
has_name n [] name k h = cc
has_name n (v ∷ vs) name k h = at (same_text name v.name) refl (has_name (n + 1) vs name k) h
  where
    at : (b : Bool) → same_text name v.name ≡ b
        → (number_from (n + 1) vs name ≡ Some k → HasName (n + 1) vs name k)
        → option_map first (cond b (Some (n, v)) (found (n + 1) vs name)) ≡ Some k
        → HasName n (v ∷ vs) name k
    at true e later h =
        let same : n ≡ k = cc in
        (0, omega (arith, same), omega arith, sym (equal_of_same_text name v.name e))
    at false e later h =
        let there = later h in
        (suc there.0, omega (arith, there.1), omega (arith, there.2), there.3)

-- a number of some variables, or else that of the one behind them
abbrev or_last : Option ℕ → Bool → ℕ → Option ℕ
or_last None same last = cond same (Some last) None
or_last (Some k) same last = Some k

number_longer : (n : ℕ) (vs : List Variable) (v : Variable) (name : List ℕ)
    → number_from n (vs ++ v ∷ []) name
    ≡ or_last (number_from n vs name) (same_text name v.name) (n + length vs)
number_longer n [] v name = at (same_text name v.name)
  where
    at : (b : Bool) → option_map first (cond b (Some (n, v)) None) ≡ cond b (Some (n + 0)) None
    at true = let same : n ≡ n + 0 = omega arith in ap (λ k. Some k) same
    at false = refl
number_longer n (w ∷ vs) v name = at (same_text name w.name) (number_longer (n + 1) vs v name)
  where
    at : (b : Bool) → number_from (n + 1) (vs ++ v ∷ []) name
        ≡ or_last (number_from (n + 1) vs name) (same_text name v.name) (n + 1 + length vs)
        → option_map first (cond b (Some (n, w)) (found (n + 1) (vs ++ v ∷ []) name))
        ≡ or_last (option_map first (cond b (Some (n, w)) (found (n + 1) vs name)))
        (same_text name v.name) (n + length (w ∷ vs))
    at true later = refl
    at false later =
        let same : n + 1 + length vs ≡ n + length (w ∷ vs) = omega arith in
        later ∙ ap (or_last (number_from (n + 1) vs name) (same_text name v.name)) same

-- a number is that of a variable with the name
pub number_below : (network : List Variable) (name : List ℕ) (k : ℕ)
    → number_named network name ≡ Some k → k < length network
unfolding HasName
number_below network name k h =
    let there = has_name 0 network name k h in
    omega (arith, there.1, there.2)

number_name : (network : List Variable) (name : List ℕ) (k : ℕ)
    → number_named network name ≡ Some k → (variable_at network k).name ≡ name
unfolding HasName
number_name network name k h =
    let there = has_name 0 network name k h in
    let same : there.0 ≡ k = omega (arith, there.1) in
    subst (λ j. (variable_at network j).name ≡ name) same there.3

-- two names of one number are the same
pub one_name : (network : List Variable) (a b : List ℕ) (k : ℕ) → number_named network a ≡ Some k
    → number_named network b ≡ Some k → a ≡ b
one_name network a b k h i = sym (number_name network a k h) ∙ number_name network b k i

module _ (network : List Variable) (v : Variable) where
  abbrev longer : List Variable
  longer = network ++ v ∷ []

  -- what was known has its number, the one behind has the last, and no other name has one
  pub number_kept : (name : List ℕ) (k : ℕ) → number_named network name ≡ Some k
      → number_named longer name ≡ Some k
  number_kept name k h =
      number_longer 0 network v name
      ∙ ap (λ o. or_last o (same_text name v.name) (0 + length network)) h

  pub number_last : (name : List ℕ) → number_named network name ≡ None → name ≡ v.name
      → number_named longer name ≡ Some (length network)
  number_last name h e =
      let last : 0 + length network ≡ length network = omega arith in
      number_longer 0 network v name
      ∙ ap (λ o. or_last o (same_text name v.name) (0 + length network)) h
      ∙ ap (λ (b : Bool). cond b (Some (0 + length network)) None)
      (same_text_of_equal name v.name e)
      ∙ ap (λ k. Some k) last

  pub number_before : (name : List ℕ) (x : ℕ) → number_named longer name ≡ Some x
      → x ≢ length network → number_named network name ≡ Some x
  number_before name x h other =
      at (number_named network name) refl (same_text name v.name)
      (sym (number_longer 0 network v name) ∙ h)
    where
      at : (o : Option ℕ) → number_named network name ≡ o → (b : Bool)
          → or_last o b (0 + length network) ≡ Some x → number_named network name ≡ Some x
      at (Some k) e b h = e ∙ h
      at None e true h =
          let same : 0 + length network ≡ x = cc in absurd (other (omega (arith, same)))
      at None e false h = cc

-- a name that no variable has is without a number
pub not_numbered : (network : List Variable) (name : List ℕ)
    → is_some (variable_named network name) ≡ false → number_named network name ≡ None
not_numbered network name h = at (variable_named network name) h
  where
    at : (o : Option (ℕ × Variable)) → is_some o ≡ false
        → option_map first o ≡ None
    at None e = refl
    at (Some found) e = cc

-- and differs from theirs
pub name_is_new : (n : ℕ) (vs : List Variable) (name : List ℕ) → is_some (found n vs name) ≡ false
    → AllByRecursion (λ other. name ≢ other) (names vs)
name_is_new n [] name h = tt
name_is_new n (v ∷ vs) name h =
    at (same_text name v.name) refl h (name_is_new (n + 1) vs name)
  where
    at : (b : Bool) → same_text name v.name ≡ b
        → is_some (cond b (Some (n, v)) (found (n + 1) vs name)) ≡ false
        → (is_some (found (n + 1) vs name) ≡ false
        → AllByRecursion (λ other. name ≢ other) (names vs))
        → AllByRecursion (λ other. name ≢ other) (names (v ∷ vs))
    at true e h later = cc
    at false e h later =
        (λ same. absurd (let alike = same_text_of_equal name v.name same in cc), later h)

module _ (f : List ℕ → Option ℕ) where
  -- the numbers of a name among others are among theirs
  pub numbers_have : (names : List (List ℕ)) (name : List ℕ) (k : ℕ)
      → list_any (same_text name) names ≡ true → f name ≡ Some k
      → list_any (λ n. n == k) (filter_map f names) ≡ true
  numbers_have [] name k h e = absurd (cc)
  numbers_have (other ∷ names) name k h e =
      at (same_text name other) refl h (λ later. numbers_have names name k later e)
    where
      own : (o : Option ℕ) → o ≡ Some k
          → list_any (λ n. n == k) (cons_option o (filter_map f names)) ≡ true
      own None i = cc
      own (Some n) i = let same : n ≡ k = cc in rw (eq-eqb n k same) refl

      behind : (o : Option ℕ) → list_any (λ n. n == k) (filter_map f names) ≡ true
          → list_any (λ n. n == k) (cons_option o (filter_map f names)) ≡ true
      behind None i = i
      behind (Some n) i = or_right (n == k) (list_any (λ n. n == k) (filter_map f names)) i

      at : (b : Bool) → same_text name other ≡ b → (b || list_any (same_text name) names) ≡ true
          → (list_any (same_text name) names ≡ true
          → list_any (λ n. n == k) (filter_map f names) ≡ true)
          → list_any (λ n. n == k) (filter_map f (other ∷ names)) ≡ true
      at true s h later = own (f other) (ap f (sym (equal_of_same_text name other s)) ∙ e)
      at false s h later = behind (f other) (later h)

  -- and each of theirs is that of one
  pub number_of_name : (Q : List ℕ → Type 0) (names : List (List ℕ)) (x : ℕ)
      → AllByRecursion Q names → list_any (λ n. n == x) (filter_map f names) ≡ true
      → (name : List ℕ) × Q name × (f name ≡ Some x)
  number_of_name Q [] x q h = absurd (cc)
  number_of_name Q (name ∷ names) x q h =
      at (f name) refl h (number_of_name Q names x q.1)
    where
      at : (o : Option ℕ) → f name ≡ o
          → list_any (λ n. n == x) (cons_option o (filter_map f names)) ≡ true
          → (list_any (λ n. n == x) (filter_map f names) ≡ true
          → (name : List ℕ) × Q name × (f name ≡ Some x))
          → (name : List ℕ) × Q name × (f name ≡ Some x)
      at None e h later = later h
      at (Some n) e h later = own (n == x) refl h
        where
          own : (b : Bool) → (n == x) ≡ b
              → (b || list_any (λ n. n == x) (filter_map f names)) ≡ true
              → (name : List ℕ) × Q name × (f name ≡ Some x)
          own true s h = (name, q.0, e ∙ ap (λ k. Some k) (eqb-true n x s))
          own false s h = later h

  pub each_number_has : (P : ℕ → Type 0) (Q : List ℕ → Type 0)
      → ((name : List ℕ) (k : ℕ) → Q name → f name ≡ Some k → P k) → (names : List (List ℕ))
      → AllByRecursion Q names → AllByRecursion P (filter_map f names)
  each_number_has P Q gives [] q = tt
  each_number_has P Q gives (name ∷ names) q =
      at (f name) refl (each_number_has P Q gives names q.1)
    where
      at : (o : Option ℕ) → f name ≡ o → AllByRecursion P (filter_map f names)
          → AllByRecursion P (cons_option o (filter_map f names))
      at None e later = later
      at (Some k) e later = (gives name k q.0 e, later)

  pub no_more_numbers : (names : List (List ℕ)) → length (filter_map f names) ≤ length names
  no_more_numbers [] = omega arith
  no_more_numbers (name ∷ names) = at (f name) (no_more_numbers names)
    where
      at : (o : Option ℕ) → length (filter_map f names) ≤ length names
          → length (cons_option o (filter_map f names)) ≤ length (name ∷ names)
      at None later = omega (arith, later)
      at (Some k) later = omega (arith, later)

-- no item of a list is one behind it
abbrev AreApart : {X : Type 0} → List X → Type 0
AreApart [] = ⊤
AreApart (x ∷ xs) = AllByRecursion (λ y. x ≢ y) xs × AreApart xs

apart_distinct : {X : Type 0} (xs : List X) → AreApart xs → AreDistinct xs
apart_distinct [] h i j d p q = absurd (omega (arith, q))
apart_distinct (x ∷ xs) h zero zero d p q = absurd (omega (arith, p))
apart_distinct (x ∷ xs) h zero (suc j) d p q =
    All-from_recursion (λ y. x ≢ y) xs h.0 j d (omega (arith, q))
apart_distinct (x ∷ xs) h (suc i) zero d p q = absurd (omega (arith, p))
apart_distinct (x ∷ xs) h (suc i) (suc j) d p q =
    apart_distinct xs h.1 i j d (omega (arith, p)) (omega (arith, q))

-- a name that stood before is none of those where none repeats one before
none_again : (name : List ℕ) (before names : List (List ℕ)) → Occurs name before
    → first_repeat before names ≡ None → AllByRecursion (λ other. name ≢ other) names
unfolding Occurs
none_again name before [] there h = tt
none_again name before (other ∷ names) there h =
    let later = later_names before other names h in (
      λ same. clash (there (same_text other) (same_text_of_equal other name (sym same))) later.0,
      none_again name (other ∷ before) names (occurs_longer name other before there) later.1,
    )
  where
    clash : list_any (same_text other) before ≡ true → list_any (same_text other) before ≡ false
        → ⊥
    clash found_there missing = absurd (cc)

apart_names : (before names : List (List ℕ)) → first_repeat before names ≡ None → AreApart names
apart_names before [] h = tt
apart_names before (name ∷ names) h =
    let later = later_names before name names h in (
      none_again name (name ∷ before) names (occurs_first name before) later.1,
      apart_names (name ∷ before) names later.1,
    )

-- names of which none repeats one before are different
pub names_distinct : (names : List (List ℕ)) → first_repeat [] names ≡ None → AreDistinct names
names_distinct names h = apart_distinct names (apart_names [] names h)

apart_numbers : (f : List ℕ → Option ℕ) → ((a b : List ℕ) (k : ℕ) → f a ≡ Some k → f b ≡ Some k
    → a ≡ b) → (names : List (List ℕ)) → AreApart names → AreApart (filter_map f names)
apart_numbers f one [] h = tt
apart_numbers f one (name ∷ names) h = at (f name) refl (apart_numbers f one names h.1)
  where
    at : (o : Option ℕ) → f name ≡ o → AreApart (filter_map f names)
        → AreApart (cons_option o (filter_map f names))
    at None e later = later
    at (Some k) e later = (
      each_number_has f (λ n. k ≢ n) (λ other. name ≢ other)
          (λ other n differs named same.
          differs (one name other k e (named ∙ ap (λ m. Some m) (sym same))))
          names h.0,
      later,
    )

-- and so are their numbers, where no two names have one
pub numbers_distinct : (f : List ℕ → Option ℕ) → ((a b : List ℕ) (k : ℕ) → f a ≡ Some k
    → f b ≡ Some k → a ≡ b) → (names : List (List ℕ)) → first_repeat [] names ≡ None
    → AreDistinct (filter_map f names)
numbers_distinct f one names h =
    apart_distinct (filter_map f names) (apart_numbers f one names (apart_names [] names h))
