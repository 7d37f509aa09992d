-- Laws of reading: what is read was written at the front, and what was written is read again.
use Rattle.std.specs.Prelude.{◌≡◌, ℕ, zero, suc, ◌-◌, ◌≤◌, ◌<◌, List, [], ◌∷◌, ◌++◌, length, Bool, true, false, All, Option, Some, None, cond, ◌⊎◌, IfSome, ◌==◌}
use Rattle.std.specs.List.{AllByRecursion}
use Rattle.std.proofs.Common.{refl, sym, ap, ◌∙◌, subst, arith, append_assoc, append-nil, inl, inr}
use Rattle.std.proofs.lemmas.Option.{none-some, same_Some, option_and_then_some, some_pair_parts}
use Rattle.std.proofs.lemmas.Bool.{eqb-true}
use Rattle.std.proofs.lemmas.List.Elements.{All-nil, All-cons, All-head, All-tail}
use Rattle.mk_text.specs.Joined.{items_text, perhaps_text}
use Rattle.mk_text.specs.Words.{after}
use Rattle.mk_text.specs.Reading.{Read, both, behind, made, passed, either, at_text, given, never, nothing, items, perhaps, choose}
use Rattle.mk_text.proofs.WordLemmas.{after_text, after_begins}

-- a thing was read: its text stands at the front, and it is one that has a text
pub record Took {X : Type 0} (text : X → List ℕ) (Fits : X → Type 0) (bytes : List ℕ) (x : X) (rest : List ℕ) : Type 0 where
  pub begins : bytes ≡ text x ++ rest
  pub fits : Fits x

-- a reader finds just the things that fit, by their texts, where certain bytes follow
pub record Reads {X : Type 0} (read : Read X) (text : X → List ℕ) (Fits : X → Type 0) (Follows : List ℕ → Type 0) : Type 0 where
  pub takes : (bytes : List ℕ) (x : X) (rest : List ℕ) → read bytes ≡ Some (x, rest) → Took text Fits bytes x rest
  pub again : (x : X) (rest : List ℕ) → Fits x → Follows rest → read (text x ++ rest) ≡ Some (x, rest)

-- what is read of an equal pair
pub took_same : {X : Type 0} (text : X → List ℕ) (Fits : X → Type 0) (bytes : List ℕ) (a b : X × List ℕ) → a ≡ b →
    Took text Fits bytes (a.0) (a.1) → Took text Fits bytes (b.0) (b.1)
took_same {X} text Fits bytes a b e took = subst (λ (p : X × List ℕ). Took text Fits bytes (p.0) (p.1)) e took

-- one thing and then another
abbrev pub both_text : {X Y : Type 0} → (X → List ℕ) → (Y → List ℕ) → X × Y → List ℕ
both_text t u p = t (p.0) ++ u (p.1)

abbrev pub BothFit : {X Y : Type 0} → (X → Type 0) → (Y → Type 0) → X × Y → Type 0
BothFit F G p = F (p.0) × G (p.1)

both_took : {X Y : Type 0} (t : X → List ℕ) (u : Y → List ℕ) (F : X → Type 0) (G : Y → Type 0) (bytes middle rest : List ℕ) (x : X) (y : Y) →
    Took t F bytes x middle → Took u G middle y rest → Took (both_text t u) (BothFit F G) bytes (x, y) rest
both_took t u F G bytes middle rest x y first second = record {
  begins = first.begins ∙ ap (λ (left : List ℕ). t x ++ left) (second.begins) ∙ sym (append_assoc (t x) (u y) rest);
  fits = (first.fits, second.fits);
}

pub both_reads : {X Y : Type 0} {first : Read X} {second : Read Y} {t : X → List ℕ} {u : Y → List ℕ}
    {F : X → Type 0} {G : Y → Type 0} {V W : List ℕ → Type 0} → Reads first t F V → Reads second u G W →
    ((y : Y) (rest : List ℕ) → G y → W rest → V (u y ++ rest)) → Reads (both first second) (both_text t u) (BothFit F G) W
both_reads {X} {Y} {first} {second} {t} {u} {F} {G} {V} {W} a b follows = record {
  takes = λ bytes p rest e. option_and_then_some _ (first bytes) (p, rest) e (λ x was e'.
      option_and_then_some _ (second (x.1)) (p, rest) e' (λ y was' e''.
      took_same (both_text t u) (BothFit F G) bytes ((x.0, y.0), y.1) (p, rest) (same_Some ((x.0, y.0), y.1) (p, rest) e'')
      (both_took t u F G bytes (x.1) (y.1) (x.0) (y.0) (a.takes bytes (x.0) (x.1) was) (b.takes (x.1) (y.0) (y.1) was'))));
  again = λ p rest fits w.
      rw (append_assoc (t (p.0)) (u (p.1)) rest, a.again (p.0) (u (p.1) ++ rest) (fits.0) (follows (p.1) rest (fits.1) w), b.again (p.1) rest (fits.1) w) refl;
}

-- a thing behind a text
abbrev pub behind_text : {X : Type 0} → List ℕ → (X → List ℕ) → X → List ℕ
behind_text text t x = text ++ t x

pub behind_reads : {X : Type 0} {read : Read X} {t : X → List ℕ} {F : X → Type 0} {W : List ℕ → Type 0} (text : List ℕ) →
    Reads read t F W → Reads (behind text read) (behind_text text t) F W
behind_reads {X} {read} {t} {F} {W} text a = record {
  takes = λ bytes x rest e. option_and_then_some read (after text bytes) (x, rest) e (λ left was e'.
      let took = a.takes left x rest e' in record {
        begins = after_begins text bytes left was ∙ ap (λ (left : List ℕ). text ++ left) (took.begins) ∙ sym (append_assoc text (t x) rest);
        fits = took.fits;
      });
  again = λ x rest fits w. rw (append_assoc text (t x) rest, after_text text (t x ++ rest)) (a.again x rest fits w);
}

-- a thing made of what is read, which can be taken apart again
pub record IsMade {X Y : Type 0} (t : X → List ℕ) (F : X → Type 0) (make : X → Y) (split : Y → X) (text : Y → List ℕ) (Fits : Y → Type 0) : Type 0 where
  pub spelled : (x : X) → F x → t x ≡ text (make x)
  pub fits : (x : X) → F x → Fits (make x)
  pub parts_fit : (y : Y) → Fits y → F (split y)
  pub whole : (y : Y) → Fits y → make (split y) ≡ y

pub made_reads : {X Y : Type 0} {read : Read X} {t : X → List ℕ} {F : X → Type 0} {W : List ℕ → Type 0}
    {make : X → Y} {split : Y → X} {text : Y → List ℕ} {Fits : Y → Type 0} → Reads read t F W → IsMade t F make split text Fits →
    Reads (made make read) text Fits W
made_reads {X} {Y} {read} {t} {F} {W} {make} {split} {text} {Fits} a m = record {
  takes = λ bytes y rest e. option_and_then_some _ (read bytes) (y, rest) e (λ x was e'.
      let took = a.takes bytes (x.0) (x.1) was in
      took_same text Fits bytes (make (x.0), x.1) (y, rest) (same_Some (make (x.0), x.1) (y, rest) e') (record {
        begins = took.begins ∙ ap (λ (front : List ℕ). front ++ x.1) (m.spelled (x.0) (took.fits));
        fits = m.fits (x.0) (took.fits);
      }));
  again = λ y rest fits w.
      let parts : F (split y) = m.parts_fit y fits in
      let spelled : text y ≡ t (split y) = ap text (sym (m.whole y fits)) ∙ sym (m.spelled (split y) parts) in
      rw (spelled, a.again (split y) rest parts w) (ap (λ (made : Y). Some (made, rest)) (m.whole y fits));
}

-- a thing that passes a test
abbrev pub Passes : {X : Type 0} → (X → Type 0) → (X → Bool) → X → Type 0
Passes F test x = F x × (test x ≡ true)

pub passing : {X : Type 0} (test : Bool) (a b : X × List ℕ) → cond test (Some a) None ≡ Some b → (test ≡ true) × (a ≡ b)
passing true a b e = (refl, same_Some a b e)
passing false a b e = absurd (none-some b e)

pub passed_reads : {X : Type 0} {read : Read X} {t : X → List ℕ} {F : X → Type 0} {W : List ℕ → Type 0} (test : X → Bool) →
    Reads read t F W → Reads (passed test read) t (Passes F test) W
passed_reads {X} {read} {t} {F} {W} test a = record {
  takes = λ bytes x rest e. option_and_then_some _ (read bytes) (x, rest) e (λ y was e'.
      let picked = passing (test (y.0)) y (x, rest) e' in
      let took = a.takes bytes (y.0) (y.1) was in
      took_same t (Passes F test) bytes y (x, rest) (picked.1) (record { begins = took.begins; fits = (took.fits, picked.0) }));
  again = λ x rest fits w. rw (a.again x rest (fits.0) w, fits.1) refl;
}

-- a thing behind a text, or another where the text does not stand
either_found : {X : Type 0} (text : List ℕ) (read other : Read X) (bytes : List ℕ) (found : Option (List ℕ)) (r : Option (X × List ℕ)) (P : Type 0) →
    after text bytes ≡ found → at_text text read other bytes found ≡ r →
    ((left : List ℕ) → bytes ≡ text ++ left → read left ≡ r → P) → (other bytes ≡ r → P) → P
either_found text read other bytes None r P was e here else_ = else_ e
either_found text read other bytes (Some left) r P was e here else_ = here left (after_begins text bytes left was) e

pub either_cases : {X : Type 0} (text : List ℕ) (read other : Read X) (bytes : List ℕ) (r : Option (X × List ℕ)) (P : Type 0) →
    either text read other bytes ≡ r → ((left : List ℕ) → bytes ≡ text ++ left → read left ≡ r → P) → (other bytes ≡ r → P) → P
either_cases text read other bytes r P e here else_ = either_found text read other bytes (after text bytes) r P refl e here else_

pub either_here : {X : Type 0} (text : List ℕ) (read other : Read X) (left : List ℕ) →
    either text read other (text ++ left) ≡ read left
either_here text read other left = rw (after_text text left) refl

pub either_else : {X : Type 0} (text : List ℕ) (read other : Read X) (bytes : List ℕ) → after text bytes ≡ None →
    either text read other bytes ≡ other bytes
either_else text read other bytes missing = rw missing refl

-- one item more, or none
pub items_none_more : {X : Type 0} (separator : List ℕ) (read : Read X) (count : ℕ) (found : List X) (bytes : List ℕ) →
    after separator bytes ≡ None → items never separator read count found bytes ≡ Some (found, bytes)
unfolding items
items_none_more separator read zero found bytes missing = refl
items_none_more separator read (suc count) found bytes missing = rw missing refl

pub items_stuck : {X : Type 0} (separator : List ℕ) (read : Read X) (count : ℕ) (found : List X) (bytes left : List ℕ) → 0 < count →
    after separator bytes ≡ Some left → read left ≡ None → items never separator read count found bytes ≡ None
unfolding items
items_stuck separator read zero found bytes left some here missing = absurd (omega arith)
items_stuck separator read (suc count) found bytes left some here missing = rw (here, missing) refl

pub items_read : {X : Type 0} (separator : List ℕ) (read : Read X) (count : ℕ) (found : List X) (bytes left rest : List ℕ) (x : X) → 0 < count →
    after separator bytes ≡ Some left → read left ≡ Some (x, rest) →
    items never separator read count found bytes ≡ items never separator read (count - 1) (found ++ x ∷ []) rest
unfolding items
items_read separator read zero found bytes left rest x some here there = absurd (omega arith)
items_read separator read (suc count) found bytes left rest x some here there =
    let fewer : suc count - 1 ≡ count = omega arith in rw (here, there, fewer) refl

pub items_all : {X : Type 0} (separator : List ℕ) (read : Read X) (count : ℕ) (found : List X) (bytes : List ℕ) → count ≡ 0 →
    items never separator read count found bytes ≡ Some (found, bytes)
unfolding items
items_all separator read zero found bytes all = refl
items_all separator read (suc count) found bytes all = absurd (omega arith)

regrouped : (a b c d : List ℕ) → a ++ (b ++ (c ++ d)) ≡ ((a ++ b) ++ c) ++ d
regrouped a b c d = simp append_assoc

pub fronted : (a b c d : List ℕ) → a ++ (b ++ (c ++ d)) ≡ (a ++ (b ++ c)) ++ d
fronted a b c d = simp append_assoc

-- where a list of items ends
pub record EndsItems (stops : List ℕ → Bool) (separator rest : List ℕ) : Type 0 where
  pub stopped : (stops rest ≡ true) ⊎ (after separator rest ≡ None)

-- items that were read behind those found before
pub record Added {X : Type 0} (separator : List ℕ) (text : X → List ℕ) (Fits : X → Type 0) (count : ℕ) (found : List X) (bytes : List ℕ) (all : List X) (rest : List ℕ) : Type 0 where
  pub more : List X
  pub joined : all ≡ found ++ more
  pub few : length more ≤ count
  pub fits : All Fits more
  pub begins : bytes ≡ items_text separator text more ++ rest

none_added : {X : Type 0} (separator : List ℕ) (text : X → List ℕ) (Fits : X → Type 0) (count : ℕ) (found all : List X) (bytes rest : List ℕ) →
    ◌≡◌ {A = Option (List X × List ℕ)} (Some (found, bytes)) (Some (all, rest)) → Added separator text Fits count found bytes all rest
none_added {X} separator text Fits count found all bytes rest e =
    let parts = some_pair_parts found all bytes rest e in record {
      more = [];
      joined = sym (parts.0) ∙ sym (append-nil found);
      few = omega arith;
      fits = All-nil Fits;
      begins = parts.1;
    }

one_added : {X : Type 0} (separator : List ℕ) (text : X → List ℕ) (Fits : X → Type 0) (count : ℕ) (found all : List X) (bytes left middle rest : List ℕ) (x : X) →
    bytes ≡ separator ++ left → Took text Fits left x middle → Added separator text Fits count (found ++ x ∷ []) middle all rest →
    Added separator text Fits (suc count) found bytes all rest
one_added separator text Fits count found all bytes left middle rest x begins took added = record {
  more = x ∷ added.more;
  joined = added.joined ∙ append_assoc found (x ∷ []) (added.more);
  few = omega (arith, added.few);
  fits = All-cons Fits x (added.more) (took.fits) (added.fits);
  begins = begins ∙ ap (λ (left : List ℕ). separator ++ left) (took.begins ∙ ap (λ (middle : List ℕ). text x ++ middle) (added.begins))
      ∙ regrouped separator (text x) (items_text separator text (added.more)) rest;
}

by_test : {R : Type 0} (test : Bool) (here other r : R) (P : Type 0) → cond test here other ≡ r → (here ≡ r → P) → (other ≡ r → P) → P
by_test true here other r P e first second = first e
by_test false here other r P e first second = second e

pub items_takes : {X : Type 0} {read : Read X} {t : X → List ℕ} {F : X → Type 0} {V : List ℕ → Type 0} →
    Reads read t F V → (stops : List ℕ → Bool) (separator : List ℕ) (count : ℕ) (found : List X) (bytes : List ℕ) (all : List X) (rest : List ℕ) →
    items stops separator read count found bytes ≡ Some (all, rest) → Added separator t F count found bytes all rest
unfolding items
items_takes {X} {read} {t} {F} a stops separator zero found bytes all rest e = none_added separator t F zero found all bytes rest e
items_takes {X} {read} {t} {F} a stops separator (suc count) found bytes all rest e =
    by_test (stops bytes) _ _ _ _ e (none_added separator t F (suc count) found all bytes rest)
    (λ e1. either_cases separator _ (given found) bytes (Some (all, rest)) _ e1
    (λ left begins e2. option_and_then_some _ (read left) (all, rest) e2 (λ x was e3.
    one_added separator t F count found all bytes left (x.1) rest (x.0) begins (a.takes left (x.0) (x.1) was)
    (items_takes a stops separator count (found ++ (x.0) ∷ []) (x.1) all rest e3)))
    (none_added separator t F (suc count) found all bytes rest))

-- what follows an item
follows_item : {X : Type 0} (separator : List ℕ) (text : X → List ℕ) (V : List ℕ → Type 0) → ((rest : List ℕ) → V (separator ++ rest)) →
    (ys : List X) (rest : List ℕ) → V rest → V (items_text separator text ys ++ rest)
follows_item separator text V behind [] rest here = here
follows_item separator text V behind (y ∷ ys) rest here =
    subst V (regrouped separator (text y) (items_text separator text ys) rest) (behind (text y ++ (items_text separator text ys ++ rest)))

same_either : {R : Type 0} (test : Bool) (r : R) → cond test r r ≡ r
same_either true r = refl
same_either false r = refl

items_end : {X : Type 0} (read : Read X) (stops : List ℕ → Bool) (separator : List ℕ) (count : ℕ) (found : List X) (rest : List ℕ) →
    (stops rest ≡ true) ⊎ (after separator rest ≡ None) → items stops separator read (suc count) found rest ≡ Some (found, rest)
unfolding items
items_end read stops separator count found rest (inl stopped) = rw stopped refl
items_end read stops separator count found rest (inr missing) = rw missing (same_either (stops rest) _)

-- a list is over where it stops or no separator stands; else it goes on with what is read behind that
pub items_over : {X : Type 0} (read : Read X) (stops : List ℕ → Bool) (separator : List ℕ) (count : ℕ) (found : List X) (bytes : List ℕ) →
    (stops bytes ≡ true) ⊎ (after separator bytes ≡ None) → items stops separator read count found bytes ≡ Some (found, bytes)
unfolding items
items_over read stops separator zero found bytes over = refl
items_over read stops separator (suc count) found bytes over = items_end read stops separator count found bytes over

pub items_halted : {X : Type 0} (read : Read X) (stops : List ℕ → Bool) (separator : List ℕ) (count : ℕ) (found : List X) (bytes left : List ℕ) → 0 < count →
    stops bytes ≡ false → after separator bytes ≡ Some left → read left ≡ None → items stops separator read count found bytes ≡ None
unfolding items
items_halted read stops separator zero found bytes left some goes here missing = absurd (omega arith)
items_halted read stops separator (suc count) found bytes left some goes here missing = rw (goes, here, missing) refl

pub items_next : {X : Type 0} (read : Read X) (stops : List ℕ → Bool) (separator : List ℕ) (count : ℕ) (found : List X) (bytes left rest : List ℕ) (x : X) → 0 < count →
    stops bytes ≡ false → after separator bytes ≡ Some left → read left ≡ Some (x, rest) →
    items stops separator read count found bytes ≡ items stops separator read (count - 1) (found ++ x ∷ []) rest
unfolding items
items_next read stops separator zero found bytes left rest x some goes here there = absurd (omega arith)
items_next read stops separator (suc count) found bytes left rest x some goes here there =
    let fewer : suc count - 1 ≡ count = omega arith in rw (goes, here, there, fewer) refl

pub items_full : {X : Type 0} (read : Read X) (stops : List ℕ → Bool) (separator : List ℕ) (count : ℕ) (found : List X) (bytes : List ℕ) → count ≡ 0 →
    items stops separator read count found bytes ≡ Some (found, bytes)
unfolding items
items_full read stops separator zero found bytes all = refl
items_full read stops separator (suc count) found bytes all = absurd (omega arith)

pub items_again : {X : Type 0} {read : Read X} {t : X → List ℕ} {F : X → Type 0} {V : List ℕ → Type 0} →
    Reads read t F V → (stops : List ℕ → Bool) (separator : List ℕ) → ((rest : List ℕ) → V (separator ++ rest)) →
    ((x : X) (rest : List ℕ) → F x → stops (separator ++ (t x ++ rest)) ≡ false) →
    (count : ℕ) (found ys : List X) (rest : List ℕ) → length ys ≤ count → All F ys → V rest → EndsItems stops separator rest →
    items stops separator read count found (items_text separator t ys ++ rest) ≡ Some (found ++ ys, rest)
unfolding items
items_again a stops separator behind goes_on zero found [] rest few fits follows ends = rw (append-nil found) refl
items_again a stops separator behind goes_on zero found (y ∷ ys) rest few fits follows ends = absurd (omega arith)
items_again {X} {read} a stops separator behind goes_on (suc count) found [] rest few fits follows ends =
    items_end read stops separator count found rest (ends.stopped) ∙ rw (append-nil found) refl
items_again {X} {read} {t} {F} {V} a stops separator behind goes_on (suc count) found (y ∷ ys) rest few fits follows ends =
    let others = items_text separator t ys in
    let here : F y = All-head F y ys fits in
    let left = items_again a stops separator behind goes_on count (found ++ y ∷ []) ys rest (omega arith) (All-tail F y ys fits) follows ends in
    rw (
      ← regrouped separator (t y) others rest,
      goes_on y (others ++ rest) here,
      after_text separator (t y ++ (others ++ rest)),
      a.again y (others ++ rest) here (follows_item separator t V behind ys rest follows),
      left,
      append_assoc found (y ∷ []) ys,
    ) refl

-- where a list ends
pub record EndsList (V : List ℕ → Type 0) (separator rest : List ℕ) : Type 0 where
  pub follows : V rest
  pub missing : after separator rest ≡ None

-- a list of at most so many things
pub record AreItems {X : Type 0} (Fits : X → Type 0) (count : ℕ) (xs : List X) : Type 0 where
  pub few : length xs ≤ count
  pub each : All Fits xs

list_took : {X : Type 0} (separator : List ℕ) (text : X → List ℕ) (Fits : X → Type 0) (count : ℕ) (bytes : List ℕ) (all : List X) (rest : List ℕ) →
    Added separator text Fits count [] bytes all rest → Took (items_text separator text) (AreItems Fits count) bytes all rest
list_took {X} separator text Fits count bytes all rest added =
    took_same (items_text separator text) (AreItems Fits count) bytes (added.more, rest) (all, rest) (ap (λ (xs : List X). (xs, rest)) (sym (added.joined)))
    (record { begins = added.begins; fits = record { few = added.few; each = added.fits } })

pub list_reads : {X : Type 0} {read : Read X} {t : X → List ℕ} {F : X → Type 0} {V : List ℕ → Type 0} →
    Reads read t F V → (separator : List ℕ) (count : ℕ) → ((rest : List ℕ) → V (separator ++ rest)) →
    Reads (items never separator read count []) (items_text separator t) (AreItems F count) (EndsList V separator)
list_reads {X} {read} {t} {F} {V} a separator count behind = record {
  takes = λ bytes xs rest e. list_took separator t F count bytes xs rest (items_takes a never separator count [] bytes xs rest e);
  again = λ xs rest fits ends. items_again a never separator behind (λ x rest fits. refl) count [] xs rest (fits.few) (fits.each) (ends.follows)
      (record { stopped = inr (ends.missing) });
}

-- a reader of the same things, which are told apart by another name
pub reads_same : {X : Type 0} {read : Read X} {t : X → List ℕ} {F G : X → Type 0} {W : List ℕ → Type 0} →
    Reads read t F W → ((x : X) → F x → G x) → ((x : X) → G x → F x) → Reads read t G W
reads_same {X} {read} {t} {F} {G} {W} a there back = record {
  takes = λ bytes x rest e. let took = a.takes bytes x rest e in record { begins = took.begins; fits = there x (took.fits) };
  again = λ x rest fits w. a.again x rest (back x fits) w;
}

-- a thing that may stand behind a text
pub record MayFollow (text : List ℕ) (Follows : List ℕ → Type 0) (rest : List ℕ) : Type 0 where
  pub follows : Follows rest
  pub missing : after text rest ≡ None

perhaps_takes : {X : Type 0} {read : Read X} {t : X → List ℕ} {F : X → Type 0} {W : List ℕ → Type 0} (text : List ℕ) →
    Reads read t F W → (bytes : List ℕ) (x : Option X) (rest : List ℕ) → perhaps text read bytes ≡ Some (x, rest) →
    Took (perhaps_text text t) (λ x. IfSome x F) bytes x rest
perhaps_takes {X} {read} {t} {F} {W} text a bytes x rest e = either_cases text (made (λ x. Some x) read) (given None) bytes (Some (x, rest)) _ e
    (λ left begins e1. option_and_then_some _ (read left) (x, rest) e1 (λ y was e2.
    let took = a.takes left (y.0) (y.1) was in
    took_same (perhaps_text text t) (λ x. IfSome x F) bytes (Some (y.0), y.1) (x, rest) (same_Some (Some (y.0), y.1) (x, rest) e2) (record {
      begins = begins ∙ ap (λ (left : List ℕ). text ++ left) (took.begins) ∙ sym (append_assoc text (t (y.0)) (y.1));
      fits = took.fits;
    })))
    (λ e1. took_same (perhaps_text text t) (λ x. IfSome x F) bytes (None, bytes) (x, rest) (same_Some (None, bytes) (x, rest) e1)
    (record { begins = refl; fits = tt }))

perhaps_again : {X : Type 0} {read : Read X} {t : X → List ℕ} {F : X → Type 0} {W : List ℕ → Type 0} (text : List ℕ) →
    Reads read t F W → (x : Option X) (rest : List ℕ) → IfSome x F → MayFollow text W rest →
    perhaps text read (perhaps_text text t x ++ rest) ≡ Some (x, rest)
perhaps_again {X} {read} text a None rest fits may = either_else text (made (λ x. Some x) read) (given None) rest (may.missing)
perhaps_again {X} {read} {t} text a (Some x) rest fits may =
    rw (append_assoc text (t x) rest, either_here text (made (λ x. Some x) read) (given None) (t x ++ rest), a.again x rest fits (may.follows)) refl

pub perhaps_reads : {X : Type 0} {read : Read X} {t : X → List ℕ} {F : X → Type 0} {W : List ℕ → Type 0} (text : List ℕ) →
    Reads read t F W → Reads (perhaps text read) (perhaps_text text t) (λ x. IfSome x F) (MayFollow text W)
perhaps_reads text a = record { takes = perhaps_takes text a; again = perhaps_again text a }

-- a form: a text by which it is known, and the text of what is read behind that
pub record Spelled {X : Type 0} (text : X → List ℕ) (Fits : X → Type 0) (form : List ℕ × Read X) : Type 0 where
  pub takes : (left : List ℕ) (x : X) (rest : List ℕ) → form.1 left ≡ Some (x, rest) → Took text Fits (form.0 ++ left) x rest

-- the form of what is read by its parts
pub spelled_by : {X Y : Type 0} {read : Read X} {t : X → List ℕ} {F : X → Type 0} {W : List ℕ → Type 0}
    {text : Y → List ℕ} {Fits : Y → Type 0} (word : List ℕ) (make : X → Y) → Reads read t F W →
    ((x : X) → F x → (word ++ t x ≡ text (make x)) × Fits (make x)) → Spelled text Fits (word, made make read)
spelled_by {X} {Y} {read} {t} {F} {W} {text} {Fits} word make a made_of = record {
  takes = λ left y rest e. option_and_then_some _ (read left) (y, rest) e (λ x was e1.
      let took = a.takes left (x.0) (x.1) was in
      let own = made_of (x.0) (took.fits) in
      took_same text Fits (word ++ left) (make (x.0), x.1) (y, rest) (same_Some (make (x.0), x.1) (y, rest) e1) (record {
        begins = ap (λ (left : List ℕ). word ++ left) (took.begins) ∙ sym (append_assoc word (t (x.0)) (x.1)) ∙ ap (λ (front : List ℕ). front ++ x.1) (own.0);
        fits = own.1;
      }));
}

-- a form without parts
pub spelled_alone : {Y : Type 0} (text : Y → List ℕ) (Fits : Y → Type 0) (word : List ℕ) (y : Y) → word ≡ text y → Fits y →
    Spelled text Fits (word, given y)
spelled_alone text Fits word y same fits = record {
  takes = λ left x rest e. took_same text Fits (word ++ left) (y, left) (x, rest) (same_Some (y, left) (x, rest) e)
      (record { begins = ap (λ (front : List ℕ). front ++ left) same; fits = fits });
}

-- what one of several forms reads
pub choose_takes : {X : Type 0} (text : X → List ℕ) (Fits : X → Type 0) (forms : List (List ℕ × Read X))
    (other : Read X) → AllByRecursion (Spelled text Fits) forms →
    ((bytes : List ℕ) (x : X) (rest : List ℕ) → other bytes ≡ Some (x, rest) → Took text Fits bytes x rest) →
    (bytes : List ℕ) (x : X) (rest : List ℕ) → choose forms other bytes ≡ Some (x, rest) → Took text Fits bytes x rest
choose_takes text Fits [] other spelled others bytes x rest e = others bytes x rest e
choose_takes text Fits (form ∷ forms) other spelled others bytes x rest e = either_cases (form.0) (form.1) (choose forms other) bytes (Some (x, rest)) _ e
    (λ left begins e1. let took = spelled.0.takes left x rest e1 in record { begins = begins ∙ took.begins; fits = took.fits })
    (λ e1. choose_takes text Fits forms other (spelled.1) others bytes x rest e1)

-- nothing is read
pub nothing_takes : {X : Type 0} (text : X → List ℕ) (Fits : X → Type 0) (bytes : List ℕ) (x : X) (rest : List ℕ) →
    nothing bytes ≡ Some (x, rest) → Took text Fits bytes x rest
nothing_takes text Fits bytes x rest e = absurd (none-some (x, rest) e)

nothing_left : (rest : List ℕ) → length rest ≡ 0 → rest ≡ []
nothing_left [] empty = refl
nothing_left (b ∷ rest) empty = absurd (omega arith)

-- a reader that finds a thing wherever the bytes are its text
pub record Tells {X : Type 0} (read : Read X) (text : X → List ℕ) (Fits : X → Type 0) : Type 0 where
  pub takes : (bytes : List ℕ) (x : X) (rest : List ℕ) → read bytes ≡ Some (x, rest) → Took text Fits bytes x rest
  pub last : (x : X) → Fits x → read (text x) ≡ Some (x, [])

whole_begins : {X : Type 0} (text : X → List ℕ) (bytes : List ℕ) (x : X) (rest : List ℕ) → rest ≡ [] → bytes ≡ text x ++ rest → bytes ≡ text x
whole_begins text bytes x rest none begins = begins ∙ ap (λ (left : List ℕ). text x ++ left) none ∙ append-nil (text x)

-- what is read whole has the bytes as its text
pub whole_found : {X : Type 0} {read : Read X} {text : X → List ℕ} {Fits : X → Type 0} → Tells read text Fits →
    (bytes : List ℕ) (x : X) (rest : List ℕ) → read bytes ≡ Some (x, rest) → (length rest == 0) ≡ true → Fits x × (bytes ≡ text x)
whole_found {X} {read} {text} a bytes x rest found none =
    let took = a.takes bytes x rest found in
    (took.fits, whole_begins text bytes x rest (nothing_left rest (eqb-true (length rest) 0 none)) (took.begins))

-- where nothing is read, or bytes are left, they are the text of nothing
pub whole_nothing : {X : Type 0} {read : Read X} {text : X → List ℕ} {Fits : X → Type 0} → Tells read text Fits →
    (bytes : List ℕ) → read bytes ≡ None → (x : X) → Fits x → bytes ≡ text x → ⊥
whole_nothing {X} {read} a bytes nothing x fits same = none-some (x, []) (sym nothing ∙ ap read same ∙ a.last x fits)

left_apart : (rest : List ℕ) → (length rest == 0) ≡ false → rest ≡ [] → ⊥
left_apart rest some none = let empty : (length rest == 0) ≡ true = rw none refl in cc

pub whole_left : {X : Type 0} {read : Read X} {text : X → List ℕ} {Fits : X → Type 0} → Tells read text Fits →
    (bytes : List ℕ) (x : X) (rest : List ℕ) → read bytes ≡ Some (x, rest) → (length rest == 0) ≡ false → (y : X) → Fits y → bytes ≡ text y → ⊥
whole_left {X} {read} a bytes x rest found some y fits same =
    left_apart rest some ((some_pair_parts x y rest [] (sym found ∙ ap read same ∙ a.last y fits)).1)

-- no two things share a text
pub whole_one : {X : Type 0} {read : Read X} {text : X → List ℕ} {Fits : X → Type 0} → Tells read text Fits →
    (x y : X) → Fits x → Fits y → text x ≡ text y → x ≡ y
whole_one {X} {read} a x y fits fits' same =
    (some_pair_parts x y [] [] (sym (a.last x fits) ∙ ap read same ∙ a.last y fits')).0

-- what is read at the end
pub read_last : {X : Type 0} {read : Read X} {t : X → List ℕ} {F : X → Type 0} {W : List ℕ → Type 0} →
    Reads read t F W → (x : X) → F x → W [] → read (t x) ≡ Some (x, [])
read_last {X} {read} {t} a x fits ends = ap read (sym (append-nil (t x))) ∙ a.again x [] fits ends

pub made_last : {X Y : Type 0} {read : Read X} {t : X → List ℕ} {F : X → Type 0} {W : List ℕ → Type 0} (make : X → Y) →
    Reads read t F W → (x : X) → F x → W [] → made make read (t x) ≡ Some (make x, [])
made_last make a x fits ends = rw (read_last a x fits ends) refl
