-- Where no variable occurs twice in a question, its pairs give none two values.
use Rattle.std.proofs.Common.{◌≡◌, ℕ, Bool, true, false, cond, ◌||◌, List, [], ◌∷◌, Option, Some, None, refl, sym, ap, ap₂, ◌∙◌}
use Rattle.std.specs.Prelude.{◌==◌}
use Rattle.std.specs.List.{list_any}
use Rattle.std.proofs.lemmas.Bool.{eqb-true}
use Rattle.mk_net.specs.declared.words.Pair.{Pair}
use Rattle.mk_net.specs.declared.words.PairText.{PairText}
use Rattle.mk_net.specs.declared.words.QuestionText.{QuestionText}
use Rattle.mk_net.specs.Events.{speaks_of, AreApart}
use Rattle.mk_net.specs.Network.{Variable}
use Rattle.mk_net.specs.Named.{pair_named, variable_at}
use Rattle.mk_names.specs.Texts.{same_text}
use Rattle.mk_names.specs.inner.TextLaws.{same_text_of_equal}
use Rattle.mk_net.proofs.Named.{pair_variable_name}
use Rattle.mk_rules.specs.Refusals.{pairs_of, names_in, known_pairs, first_repeat, twice}
use Rattle.mk_rules.proofs.Unrefused.{not_mapped}

-- a name occurs in a list: each test that it passes is passed by some name there
unfoldable pub Occurs : List ℕ → List (List ℕ) → Type 0
Occurs name before = (test : List ℕ → Bool) → test name ≡ true → list_any test before ≡ true

pub occurs_longer : (name other : List ℕ) (before : List (List ℕ)) → Occurs name before → Occurs name (other ∷ before)
unfolding Occurs
occurs_longer name other before h test e = at (test other) (h test e)
  where
    at : (b : Bool) → list_any test before ≡ true → (b || list_any test before) ≡ true
    at true i = refl
    at false i = i

pub occurs_first : (name : List ℕ) (before : List (List ℕ)) → Occurs name (name ∷ before)
unfolding Occurs
occurs_first name before test e = rw e refl

-- the names behind the first, where none repeats one before
pub later_names : (before : List (List ℕ)) (name : List ℕ) (ns : List (List ℕ)) → first_repeat before (name ∷ ns) ≡ None
    → (list_any (same_text name) before ≡ false) × (first_repeat (name ∷ before) ns ≡ None)
later_names before name ns h = at (list_any (same_text name) before) h
  where
    at : (b : Bool) → cond b (Some name) (first_repeat (name ∷ before) ns) ≡ None → (b ≡ false) × (first_repeat (name ∷ before) ns ≡ None)
    at true e = cc
    at false e = (refl, e)

module _ (network : List Variable) where
  same_name : (a b : PairText) (x y : Pair) → pair_named network a ≡ Some x → pair_named network b ≡ Some y → x.variable ≡ y.variable → same_text b.variable a.variable ≡ true
  same_name a b x y e f h =
      let first = pair_variable_name network a x (sym e) in
      let second = pair_variable_name network b y (sym f) in
      same_text_of_equal b.variable a.variable (sym second ∙ ap (λ (k : ℕ). (variable_at network k).name) (sym h) ∙ first)

  not_spoken : (words : PairText) (x : Pair) → pair_named network words ≡ Some x → (ps : List PairText) (before : List (List ℕ))
      → Occurs words.variable before → first_repeat before (names_in ps) ≡ None → speaks_of (known_pairs network ps) x.variable ≡ false
  unfolding Occurs
  not_spoken words x named [] before occurs h = refl
  not_spoken words x named (p ∷ ps) before occurs h =
      let later = later_names before p.variable (names_in ps) h in
      at (pair_named network p) refl (not_spoken words x named ps (p.variable ∷ before) (occurs_longer words.variable p.variable before occurs) later.1) later.0
    where
      differ : (y : Pair) (b : Bool) → pair_named network p ≡ Some y → (x.variable == y.variable) ≡ b → list_any (same_text p.variable) before ≡ false → b ≡ false
      differ y false e f g = refl
      differ y true e f g = let there = occurs (same_text p.variable) (same_name words p x y named e (eqb-true x.variable y.variable f)) in cc

      at : (o : Option Pair) → pair_named network p ≡ o → speaks_of (known_pairs network ps) x.variable ≡ false → list_any (same_text p.variable) before ≡ false
          → speaks_of (known_pairs network (p ∷ ps)) x.variable ≡ false
      at None e rest g = rw e rest
      at (Some y) e rest g = rw e (ap₂ (λ a b. a || b) (differ y (x.variable == y.variable) e refl g) rest)

  apart_of : (ps : List PairText) (before : List (List ℕ)) → first_repeat before (names_in ps) ≡ None → AreApart (known_pairs network ps)
  apart_of [] before h = tt
  apart_of (p ∷ ps) before h =
      let later = later_names before p.variable (names_in ps) h in
      at (pair_named network p) refl later.1 (apart_of ps (p.variable ∷ before) later.1)
    where
      at : (o : Option Pair) → pair_named network p ≡ o → first_repeat (p.variable ∷ before) (names_in ps) ≡ None → AreApart (known_pairs network ps)
          → AreApart (known_pairs network (p ∷ ps))
      at None e h rest = rw e rest
      at (Some y) e h rest = rw e (not_spoken p y e ps (p.variable ∷ before) (occurs_first p.variable before) h, rest)

  -- where no variable occurs twice, the condition gives none twice, and does not speak of the target's
  pub condition_apart : (q : QuestionText) → twice (names_in (pairs_of q)) ≡ None → AreApart (known_pairs network q.condition.items)
  condition_apart q h = apart_of q.condition.items (q.target.variable ∷ []) (not_mapped _ _ h)

  pub target_apart : (q : QuestionText) (target : Pair) → pair_named network q.target ≡ Some target → twice (names_in (pairs_of q)) ≡ None
      → speaks_of (known_pairs network q.condition.items) target.variable ≡ false
  target_apart q target e h = not_spoken q.target target e q.condition.items (q.target.variable ∷ []) (occurs_first q.target.variable []) (not_mapped _ _ h)
