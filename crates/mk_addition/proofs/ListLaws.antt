-- Lists with a separator between their things: each is read from its text, and from no other.
use Rattle.std.specs.Prelude.{◌≡◌, ℕ, ◌+◌, ◌≤◌, List, [], ◌∷◌, ◌++◌, length, Bool, false, Some}
use Rattle.std.proofs.Common.{sym, ap, ◌∙◌, subst, arith, append_assoc}
use Rattle.std.proofs.lemmas.Option.{option_and_then_some}
use Rattle.std.proofs.lemmas.List.Elements.{All-cons, All-head, All-tail}
use Rattle.mk_text.specs.Joined.{items_text}
use Rattle.mk_text.specs.Reading.{Read}
use Rattle.mk_text.proofs.ReadingLaws.{Took, took_same, Reads, Added, EndsItems}
use Rattle.mk_text.proofs.ReadingLaws.{items_takes, items_again}
use Rattle.mk_addition.specs.Adds.{joined, AreBetween}
use Rattle.mk_addition.specs.Reading.{more, read_list}

-- where a list ends: what may follow a thing follows, and no thing more
pub record EndsJoined (V : List ℕ → Type 0) (stops : List ℕ → Bool) (separator rest : List ℕ)
    : Type 0 where
  pub follows : V rest
  pub ends : EndsItems stops separator rest

-- what goes on behind a separator
abbrev pub GoesOn : {X : Type 0} → (List ℕ → Bool) → List ℕ → (X → List ℕ) → (X → Type 0) → Type 0
GoesOn {X} stops separator t F =
    (x : X) (rest : List ℕ) → F x → stops (separator ++ (t x ++ rest)) ≡ false

list_took : {X : Type 0} (separator : List ℕ) (t : X → List ℕ) (F : X → Type 0) (count : ℕ)
    (bytes middle : List ℕ) (x : X) (xs : List X) (rest : List ℕ) →
    Took t F bytes x middle → Added separator t F count (x ∷ []) middle xs rest →
    Took (joined separator t) (AreBetween 1 (count + 1) F) bytes xs rest
list_took {X} separator t F count bytes middle x xs rest took added =
    let others = items_text separator t (added.more) in
    let all = ap (λ (all : List X). (all, rest)) (sym (added.joined)) in
    took_same (joined separator t) (AreBetween 1 (count + 1) F) bytes (x ∷ added.more, rest)
    (xs, rest) all (record {
      begins = took.begins ∙ ap (λ (left : List ℕ). t x ++ left) (added.begins)
          ∙ sym (append_assoc (t x) others rest);
      fits = record {
        enough = omega arith;
        few = omega (arith, added.few);
        each = All-cons F x (added.more) (took.fits) (added.fits);
      };
    })

-- what follows a thing of a list
follows_thing : {X : Type 0} (separator : List ℕ) (t : X → List ℕ) (V : List ℕ → Type 0) →
    ((rest : List ℕ) → V (separator ++ rest)) →
    (xs : List X) (rest : List ℕ) → V rest → V (items_text separator t xs ++ rest)
follows_thing separator t V behind [] rest here = here
follows_thing separator t V behind (x ∷ xs) rest here =
    let others = items_text separator t xs in
    let regrouped : separator ++ (t x ++ (others ++ rest)) ≡ ((separator ++ t x) ++ others) ++ rest
    = simp append_assoc in
    subst V regrouped (behind (t x ++ (others ++ rest)))

list_again : {X : Type 0} {read : Read X} {t : X → List ℕ} {F : X → Type 0}
    {V : List ℕ → Type 0} → Reads read t F V → (stops : List ℕ → Bool) (separator : List ℕ)
    (count : ℕ) → ((rest : List ℕ) → V (separator ++ rest)) → GoesOn stops separator t F →
    (xs : List X) (rest : List ℕ) → AreBetween 1 (count + 1) F xs →
    EndsJoined V stops separator rest →
    read_list stops separator read count (joined separator t xs ++ rest) ≡ Some (xs, rest)
unfolding read_list more
list_again a stops separator count behind goes [] rest fits ends =
    absurd (omega (arith, fits.enough))
list_again {X} {read} {t} {F} {V} a stops separator count behind goes (x ∷ xs) rest fits ends =
    let others = items_text separator t xs in
    let first : F x = All-head F x xs (fits.each) in
    let few : length xs ≤ count = omega (arith, fits.few) in
    let further = items_again a stops separator behind goes count (x ∷ []) xs rest few
    (All-tail F x xs (fits.each)) (ends.follows) (ends.ends) in
    let follows = follows_thing separator t V behind xs rest (ends.follows) in
    rw (append_assoc (t x) others rest, a.again x (others ++ rest) first follows) further

pub joined_reads : {X : Type 0} {read : Read X} {t : X → List ℕ} {F : X → Type 0}
    {V : List ℕ → Type 0} → Reads read t F V → (stops : List ℕ → Bool) (separator : List ℕ)
    (count : ℕ) → ((rest : List ℕ) → V (separator ++ rest)) → GoesOn stops separator t F →
    Reads (read_list stops separator read count) (joined separator t)
    (AreBetween 1 (count + 1) F) (EndsJoined V stops separator)
unfolding read_list more
joined_reads {X} {read} {t} {F} a stops separator count behind goes = record {
  takes = λ bytes xs rest e. option_and_then_some _ (read bytes) (xs, rest) e (λ x was e1.
      list_took separator t F count bytes (x.1) (x.0) xs rest (a.takes bytes (x.0) (x.1) was)
      (items_takes a stops separator count ((x.0) ∷ []) (x.1) xs rest e1));
  again = list_again a stops separator count behind goes;
}
