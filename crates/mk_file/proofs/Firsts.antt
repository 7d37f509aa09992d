-- The first fault of a list, item by item.
use Rattle.std.proofs.Common.{◌≡◌, ℕ, ◌+◌, ◌<◌, List, [], ◌∷◌, ◌++◌, map, length, take, drop, get_or, Option, Some, None, sym, ap, ◌∙◌, drop-cons, add-one}
use Rattle.std.proofs.lemmas.List.{map-append, take_more}
use Rattle.mk_net.specs.Firsts.{or_else, first_in}

pub dropped_at : {X : Type 0} (xs : List X) (i : ℕ) (d : X) → i < length xs → drop i xs ≡ get_or xs i d ∷ drop (i + 1) xs
dropped_at xs i d within = rw add-one (drop-cons xs i d within)

pub dropped : {X : Type 0} (xs : List X) (i : ℕ) (x : X) → i < length xs → x ≡ get_or xs i x → drop i xs ≡ x ∷ drop (i + 1) xs
dropped xs i x within read = dropped_at xs i x within ∙ ap (λ y. y ∷ drop (i + 1) xs) (sym read)

pub taken : {X : Type 0} (xs : List X) (i : ℕ) (x : X) → i < length xs → x ≡ get_or xs i x → take (i + 1) xs ≡ take i xs ++ x ∷ []
taken xs i x within read = take_more xs i x within ∙ ap (λ y. take i xs ++ y ∷ []) (sym read)

pub pushed : {X Y : Type 0} (f : X → Y) (read new : List Y) (done more : List X) (x : X) (y : Y) → read ≡ map f done → new ≡ read ++ y ∷ [] → y ≡ f x
    → more ≡ done ++ x ∷ [] → new ≡ map f more
pushed f read new done more x y was now is front =
    now ∙ ap (λ ys. ys ++ y ∷ []) was ∙ ap (λ z. map f done ++ z ∷ []) is ∙ sym (ap (λ xs. map f xs) front ∙ map-append f done (x ∷ []))

pub first_passes : {X F : Type 0} (fault : ℕ → X → Option F) (k : ℕ) (xs left : List X) (x : X) → xs ≡ x ∷ left → fault k x ≡ None
    → first_in fault k xs ≡ first_in fault (k + 1) left
first_passes fault k xs left x front fine = ap (λ ys. first_in fault k ys) front ∙ ap (λ o. or_else o (first_in fault (k + 1) left)) fine

pub first_stops : {X F : Type 0} (fault : ℕ → X → Option F) (k : ℕ) (xs left : List X) (x : X) (e : F) → xs ≡ x ∷ left → fault k x ≡ Some e
    → first_in fault k xs ≡ Some e
first_stops fault k xs left x e front bad = ap (λ ys. first_in fault k ys) front ∙ ap (λ o. or_else o (first_in fault (k + 1) left)) bad
