-- What the words of a call ask, as the program sees them.
use Rattle.std.proofs.Common.{◌≡◌, ℕ, List, Option, Some, None, option_map, refl, sym, ap, ◌∙◌}
use Rattle.daggre.specs.Words.{Asked, asked_of}

pub asked_here : (known : Option (List (List ℕ))) (words texts : List (List ℕ))
    (asked : Option Asked) → known ≡ Some words → texts ≡ words
    → option_map asked_of known ≡ Some asked → asked_of texts ≡ asked
asked_here known words texts asked is same asks =
    let here : option_map asked_of known ≡ Some (asked_of words) = ap (option_map asked_of) is in
    let there : asked_of texts ≡ asked_of words = ap asked_of same in
    cc

pub named_here : (named : Option Asked → Option (List ℕ)) (known : Option (List (List ℕ)))
    (words texts : List (List ℕ)) (name : Option (List ℕ)) → known ≡ Some words → texts ≡ words
    → option_map named (option_map asked_of known) ≡ Some name → named (asked_of texts) ≡ name
named_here named known words texts name is same asks =
    let here : option_map named (option_map asked_of known) ≡ Some (named (asked_of words)) =
    ap (λ (o : Option (List (List ℕ))). option_map named (option_map asked_of o)) is in
    let there : named (asked_of texts) ≡ named (asked_of words) =
    ap (λ (ws : List (List ℕ)). named (asked_of ws)) same in
    cc

-- where no name is asked for, there is none
none_of : (o : Option (List ℕ)) → ((name : List ℕ) → o ≡ Some name → ⊥) → o ≡ None
none_of None never = refl
none_of (Some name) never = absurd (never name refl)

pub nothing_here : (named : Option Asked → Option (List ℕ)) (known : Option (List (List ℕ)))
    (words texts : List (List ℕ)) → known ≡ Some words → texts ≡ words
    → ((name : List ℕ) → option_map named (option_map asked_of known) ≡ Some (Some name) → ⊥)
    → named (asked_of texts) ≡ None
nothing_here named known words texts is same never = none_of (named (asked_of texts))
    (λ name e. never name
    (ap (λ (o : Option (List (List ℕ))). option_map named (option_map asked_of o)) is
    ∙ ap (λ (ws : List (List ℕ)). Some (named (asked_of ws))) (sym same)
    ∙ ap (λ (o : Option (List ℕ)). Some o) e))
