-- Each added question is read from its text, and from no other.
use Rattle.std.specs.Prelude.{◌≡◌, ◌≢◌, ℕ, ◌+◌, List, [], ◌∷◌, ◌++◌, length, nat_le}
use Rattle.std.specs.Prelude.{Some, None, codes, decimal, Result, Ok, Err, IfOk, OnErr, MatchResult}
use Rattle.std.proofs.Common.{Bor, refl, sym, ap, ◌∙◌, arith, append_assoc, inl, inr, lit<}
use Rattle.std.proofs.lemmas.Option.{same_Some}
use Rattle.std.proofs.lemmas.Bool.{leb-true, le-leb}
use Rattle.std.proofs.lemmas.List.Elements.{All-nil}
use Rattle.mk_names.specs.Name.{IsName}
use Rattle.mk_net.specs.declared.words.Syntax.{Syntax}
use Rattle.mk_text.specs.Numbers.{IsShort}
use Rattle.mk_text.specs.Words.{after, EndsWord}
use Rattle.mk_text.specs.Reading.{both, given, never}
use Rattle.mk_text.proofs.ReadingLaws.{Took, took_same, Reads, Tells, BothFit, IsMade}
use Rattle.mk_text.proofs.ReadingLaws.{both_text, behind_text, both_reads, behind_reads, made_reads}
use Rattle.mk_text.proofs.ReadingLaws.{passed_reads, reads_same, read_last, whole_one}
use Rattle.mk_text.proofs.ReadingLaws.{either_cases, either_here, either_else}
use Rattle.mk_text.proofs.PartLaws.{name_reads, short_reads, number_no_word}
use Rattle.mk_addition.specs.Adds.{names_text, parents_text, row_text, rows_text, addition_text}
use Rattle.mk_addition.specs.Adds.{add_text, AreBetween, IsAddText}
use Rattle.mk_addition.specs.declared.add.AddText.{AddText}
use Rattle.mk_addition.specs.Reading.{read_names, read_values, read_parents, before_clique}
use Rattle.mk_addition.specs.Reading.{read_row, read_rows, read_place, read_shares}
use Rattle.mk_addition.specs.Reading.{Parts, add_of, read_parts, read_addition, read_add}
use Rattle.mk_addition.proofs.ListLaws.{EndsJoined, GoesOn, joined_reads}

-- names
abbrev AreNames : ℕ → ℕ → List (List ℕ) → Type 0
AreNames least most = AreBetween least most IsName

abbrev EndsNames : List ℕ → Type 0
EndsNames = EndsJoined EndsWord never (codes ",")

names_reads : (count : ℕ) →
    Reads (read_names count) names_text (AreNames 1 (count + 1)) EndsNames
names_reads count =
    joined_reads name_reads never (codes ",") count (λ rest. refl) (λ name rest fits. refl)

values_reads : Reads read_values names_text (AreNames 2 16) EndsNames
unfolding read_values
values_reads = reads_same (passed_reads (λ values. nat_le 2 (length values)) (names_reads 15))
    (λ values fits. record {
      enough = leb-true 2 (length values) (fits.1);
      few = fits.0.few;
      each = fits.0.each;
    })
    (λ values fits. (
      record { enough = omega (arith, fits.enough); few = fits.few; each = fits.each },
      le-leb 2 (length values) (fits.enough),
    ))

-- where parents end: no word goes on, and neither do names
pub record EndsParents (rest : List ℕ) : Type 0 where
  pub names : EndsNames rest
  pub bar : after (codes " | ") rest ≡ None

some_parents : (bytes left : List ℕ) (names : List (List ℕ)) (rest : List ℕ) →
    bytes ≡ codes " | " ++ left → Took names_text (AreNames 1 8) left names rest →
    Took parents_text (AreNames 0 8) bytes names rest
some_parents bytes left [] rest begins took = absurd (omega (arith, took.fits.enough))
some_parents bytes left (name ∷ names) rest begins took = record {
  begins = begins ∙ ap (λ (left : List ℕ). codes " | " ++ left) (took.begins)
      ∙ sym (append_assoc (codes " | ") (names_text (name ∷ names)) rest);
  fits = record { enough = omega arith; few = took.fits.few; each = took.fits.each };
}

no_parents : AreNames 0 8 []
no_parents = record { enough = omega arith; few = omega arith; each = All-nil IsName }

parents_takes : (bytes : List ℕ) (names : List (List ℕ)) (rest : List ℕ) →
    read_parents bytes ≡ Some (names, rest) → Took parents_text (AreNames 0 8) bytes names rest
unfolding read_parents
parents_takes bytes names rest e =
    either_cases (codes " | ") (read_names 7) (given []) bytes (Some (names, rest)) _ e
    (λ left begins e1.
    some_parents bytes left names rest begins ((names_reads 7).takes left names rest e1))
    (λ e1. took_same parents_text (AreNames 0 8) bytes ([], bytes) (names, rest)
    (same_Some ([], bytes) (names, rest) e1) (record { begins = refl; fits = no_parents }))

parents_again : (names : List (List ℕ)) (rest : List ℕ) → AreNames 0 8 names →
    EndsParents rest → read_parents (parents_text names ++ rest) ≡ Some (names, rest)
unfolding read_parents
parents_again [] rest fits ends =
    either_else (codes " | ") (read_names 7) (given []) rest (ends.bar)
parents_again (name ∷ names) rest fits ends =
    let own : AreNames 1 8 (name ∷ names)
    = record { enough = omega arith; few = fits.few; each = fits.each } in
    let text = names_text (name ∷ names) in
    ap read_parents (append_assoc (codes " | ") text rest)
    ∙ either_here (codes " | ") (read_names 7) (given []) (text ++ rest)
    ∙ (names_reads 7).again (name ∷ names) rest own (ends.names)

parents_reads : Reads read_parents parents_text (AreNames 0 8) EndsParents
parents_reads = record { takes = parents_takes; again = parents_again }

-- rows
abbrev IsRow : List ℕ → Type 0
IsRow = AreBetween 1 16 IsShort

abbrev EndsRow : List ℕ → Type 0
EndsRow = EndsJoined EndsWord before_clique (codes " ")

-- a number is no clique
number_goes_on : GoesOn before_clique (codes " ") decimal IsShort
unfolding after
number_goes_on n rest short =
    rw (number_no_word 105 (codes "n ") n rest (lit< tt) (omega (arith, short))) refl

row_reads : Reads read_row row_text IsRow EndsRow
row_reads = joined_reads short_reads before_clique (codes " ") 15 (λ rest. refl) number_goes_on

abbrev AreRows : List (List ℕ) → Type 0
AreRows = AreBetween 1 64 IsRow

abbrev EndsRows : List ℕ → Type 0
EndsRows = EndsJoined EndsRow never (codes ", ")

before_row : (rest : List ℕ) → EndsRow (codes ", " ++ rest)
unfolding after
before_row rest = record { follows = refl; ends = record { stopped = inr refl } }

rows_reads : Reads read_rows rows_text AreRows EndsRows
rows_reads = joined_reads row_reads never (codes ", ") 63 before_row (λ row rest fits. refl)

-- the clique and its link
abbrev Place : Type 0
Place = List (List ℕ) × ℕ

abbrev linked_text : Place → List ℕ
linked_text = both_text names_text (behind_text (codes " to ") decimal)

abbrev PlaceFits : Place → Type 0
PlaceFits = BothFit (AreNames 1 13) IsShort

before_link : (rest : List ℕ) → EndsNames (codes " to " ++ rest)
unfolding after
before_link rest = record { follows = refl; ends = record { stopped = inr refl } }

place_reads : Reads read_place linked_text PlaceFits EndsWord
unfolding read_place
place_reads = both_reads (names_reads 12) (behind_reads (codes " to ") short_reads)
    (λ link rest fits ends. before_link (decimal link ++ rest))

-- rows, and then the clique
abbrev Shares : Type 0
Shares = List (List ℕ) × Place

abbrev placed_text : Shares → List ℕ
placed_text = both_text rows_text (behind_text (codes " in ") linked_text)

abbrev SharesFit : Shares → Type 0
SharesFit = BothFit AreRows PlaceFits

before_place : (rest : List ℕ) → EndsRows (codes " in " ++ rest)
unfolding after
before_place rest = record {
  follows = record { follows = refl; ends = record { stopped = inl refl } };
  ends = record { stopped = inr refl };
}

shares_reads : Reads read_shares (behind_text (codes " : ") placed_text) SharesFit EndsWord
unfolding read_shares
shares_reads =
    let placed = behind_reads (codes " in ") place_reads in
    behind_reads (codes " : ") (both_reads rows_reads placed
    (λ place rest fits ends. before_place (linked_text place ++ rest)))

-- parents, and then rows and clique
abbrev asked_text : List (List ℕ) × Shares → List ℕ
asked_text = both_text parents_text (behind_text (codes " : ") placed_text)

abbrev AskedFit : List (List ℕ) × Shares → Type 0
AskedFit = BothFit (AreNames 0 8) SharesFit

before_shares : (rest : List ℕ) → EndsParents (codes " : " ++ rest)
unfolding after
before_shares rest = record {
  names = record { follows = refl; ends = record { stopped = inr refl } };
  bar = refl;
}

asked_reads : Reads (both read_parents read_shares) asked_text AskedFit EndsWord
asked_reads = both_reads parents_reads shares_reads
    (λ shares rest fits ends. before_shares (placed_text shares ++ rest))

-- no name goes on before them
before_asked : (names : List (List ℕ)) (text rest : List ℕ) →
    EndsNames ((parents_text names ++ (codes " : " ++ text)) ++ rest)
unfolding after
before_asked [] text rest = record { follows = refl; ends = record { stopped = inr refl } }
before_asked (name ∷ names) text rest =
    record { follows = refl; ends = record { stopped = inr refl } }

valued_reads : Reads (both read_values (both read_parents read_shares))
    (both_text names_text asked_text) (BothFit (AreNames 2 16) AskedFit) EndsWord
valued_reads = both_reads values_reads asked_reads
    (λ asked rest fits ends. before_asked (asked.0) (placed_text (asked.1)) rest)

abbrev parts_text : Parts → List ℕ
parts_text =
    both_text (λ (name : List ℕ). name) (behind_text (codes "=") (both_text names_text asked_text))

abbrev PartsFit : Parts → Type 0
PartsFit = BothFit IsName (BothFit (AreNames 2 16) AskedFit)

parts_reads : Reads read_parts parts_text PartsFit EndsWord
parts_reads = both_reads name_reads (behind_reads (codes "=") valued_reads)
    (λ parts rest fits ends. refl)

abbrev parts_of : AddText → Parts
parts_of add =
    let place : Place = (add.clique.items, add.link) in
    (add.variable, (add.values.items, (add.parents.items, (add.rows.items, place))))

add_made : IsMade parts_text PartsFit add_of parts_of addition_text IsAddText
add_made = record {
  spelled = λ parts fits. refl;
  fits = λ parts fits. record {
    variable = fits.0;
    values = fits.1.0;
    parents = fits.1.1.0;
    rows = fits.1.1.1.0;
    clique = fits.1.1.1.1.0;
    link = fits.1.1.1.1.1;
  };
  parts_fit = λ add fits.
      (fits.variable, (fits.values, (fits.parents, (fits.rows, (fits.clique, fits.link)))));
  whole = λ add fits. refl;
}

-- what stands behind the word
pub addition_reads : Reads read_addition addition_text IsAddText EndsWord
unfolding read_addition
addition_reads = made_reads parts_reads add_made

add_reads : Reads read_add add_text IsAddText EndsWord
unfolding read_add
add_reads = behind_reads (codes "add ") addition_reads

pub add_tells : Tells read_add add_text IsAddText
add_tells =
    record { takes = add_reads.takes; last = λ add fits. read_last add_reads add fits refl }

-- an added question is the one whose text was read
abbrev pub IsFound : List ℕ → Result (Bor AddText) Syntax → Type 0
IsFound line read = IfOk read (λ a. IsAddText a.now × (line ≡ add_text a.now))

abbrev pub IsMissed : List ℕ → Result (Bor AddText) Syntax → Type 0
IsMissed line read = OnErr read ((a : AddText) → IsAddText a → line ≢ add_text a)

-- what is read of an added question's text
pub read_again : (line : List ℕ) (add : AddText) (read : Result (Bor AddText) Syntax) →
    IsAddText add → line ≡ add_text add → IsFound line read → IsMissed line read →
    MatchResult read (λ a. a.now ≡ add) (λ _. ⊥)
read_again line add (Ok a) fits same found none =
    whole_one add_tells a.now add (found.0) fits (sym (found.1) ∙ same)
read_again line add (Err e) fits same found none = none add fits same
