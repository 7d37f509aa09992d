-- The lines of a stream, of which one was cut.
use Rattle.std.proofs.Common.{◌≡◌, ℕ, ◌+◌, ◌-◌, ◌<◌, ◌≤◌, List, [], ◌∷◌, ◌++◌, length, map, Option, Some, None, IfSome, Bool, true, false, cond, eqb, ltb, refl, sym, ap, subst, inl, inr, ◌∙◌, length-append, length-take, arith}
use Rattle.std.specs.Prelude.{◌≢◌, All}
use Rattle.std.proofs.lemmas.Bool.{ne_eqb, le-ltb, lt-ltb}
use Rattle.std.proofs.lemmas.List.{append-nil, take_all}
use Rattle.std.proofs.lemmas.List.Elements.{All-head, All-tail}
use Rattle.mk_io.specs.declared.lines.Next.{Next}
use Rattle.mk_io.specs.declared.lines.Next.TheVariants.{Line, Long, End, TooMany}
use Rattle.mk_io.specs.declared.cut.Cut.TheVariants.{Whole, Last, Full}
use Rattle.mk_io.specs.Outside.{prepend_known, IsAtEnd}
use Rattle.mk_io.specs.Stream.{StreamLine, text, long, parts, onto_first, line_of, stream_lines, without_last_cr, max_stream_lines, max_stream_bytes}
use Rattle.mk_io.proofs.Told.{prepend_known_twice}
use Rattle.mk_io.specs.Cutting.{Cutting, GivesLine, TakesPiece, IsTooMuch, IsFreshAnswer, first_size, stream_left}
use Rattle.mk_io.specs.inner.Cut.{front, Settles, CutsLine}
use Rattle.mk_io.specs.inner.Giving.{GivesText}

abbrev NoLf : List ℕ → Type 0
NoLf part = All (λ b. b ≢ 10) part

not_lf : (b : ℕ) (part : List ℕ) → NoLf (b ∷ part) → eqb b 10 ≡ false
not_lf b part no_lf = ne_eqb b 10 (All-head (λ x. x ≢ 10) b part no_lf)

no_lf_after : (b : ℕ) (part : List ℕ) → NoLf (b ∷ part) → NoLf part
no_lf_after b part no_lf = All-tail (λ x. x ≢ 10) b part no_lf

pub parts_whole : (part rest : List ℕ) → NoLf part → parts ((part ++ 10 ∷ []) ++ rest) ≡ part ∷ parts rest
parts_whole [] rest no_lf = refl
parts_whole (b ∷ part) rest no_lf =
    rw (not_lf b part no_lf, parts_whole part rest (no_lf_after b part no_lf)) refl

pub parts_last : (b : ℕ) (part : List ℕ) → NoLf (b ∷ part) → parts (b ∷ part) ≡ (b ∷ part) ∷ []
parts_last b [] no_lf = rw (not_lf b [] no_lf) refl
parts_last b (c ∷ part) no_lf =
    rw (not_lf b (c ∷ part) no_lf) (ap (onto_first b) (parts_last c part (no_lf_after b (c ∷ part) no_lf)))

line_whole : (part : List ℕ) → NoLf part → stream_lines (part ++ 10 ∷ []) ≡ line_of part ∷ []
line_whole part no_lf =
    ap stream_lines (sym (append-nil (part ++ 10 ∷ []))) ∙ ap (map line_of) (parts_whole part [] no_lf)

-- where a byte was there, the last part is not empty
line_last : (old part : List ℕ) (source before after : Option (List ℕ)) → NoLf part → 0 < length old → before ≡ prepend_known old source → before ≡ prepend_known part after → IsAtEnd after → IfSome after (λ _. stream_lines part ≡ line_of part ∷ [])
line_last old part source before None no_lf some was taken end = tt
line_last old [] None before (Some rest) no_lf some was taken end = absurd (cc)
line_last old [] (Some more) before (Some rest) no_lf some was taken end =
    let same : old ++ more ≡ rest = cc in
    absurd (omega (arith, length-append old more, ap length same, ap length end))
line_last old (b ∷ part) source before (Some rest) no_lf some was taken end = ap (map line_of) (parts_last b part no_lf)

where_told : (P : Type 0) (told : Option (List ℕ)) → P → IfSome told (λ _. P)
where_told P None holds = tt
where_told P (Some bytes) holds = holds

-- the line of a part whose first bytes, one more than a line may have, were settled
abbrev line_within : ℕ → List ℕ → StreamLine
line_within limit part = cond (ltb limit (length part)) long (text (without_last_cr part))

pub settled_line : (limit : ℕ) (part old new : List ℕ) (is_short : Bool) → old ≡ front (limit + 1) part → Settles limit old new is_short → line_within limit part ≡ cond is_short (text new) long
unfolding front
settled_line limit part old new true kept settles =
    let short = settles.short refl in
    let size : length part ≤ limit = omega (arith, short.0, ap length kept, length-take (limit + 1) part) in
    let same : old ≡ part = kept ∙ take_all (limit + 1) part (omega arith) in
    ap (λ test. cond test long (text (without_last_cr part))) (le-ltb limit (length part) size) ∙ ap text (ap without_last_cr (sym same) ∙ sym short.1)
settled_line limit part old new false kept settles =
    let size : limit < length part = omega (arith, (settles.long refl).0, ap length kept, length-take (limit + 1) part) in
    ap (λ test. cond test long (text (without_last_cr part))) (lt-ltb limit (length part) size)

first_size_some : (b : ℕ) (rest : List ℕ) → 0 < first_size (b ∷ rest)
first_size_some b rest = elim (eqb b 10) as (λ test. 0 < cond test 1 (1 + first_size rest)) [ true ↦ omega arith | false ↦ omega arith ]

pub first_size_past : (part : List ℕ) (b : ℕ) (rest : List ℕ) → NoLf part → length part < first_size ((part ++ b ∷ []) ++ rest)
first_size_past [] b rest no_lf = first_size_some b rest
first_size_past (x ∷ part) b rest no_lf =
    rw (not_lf x part no_lf) (omega (arith, first_size_past part b rest (no_lf_after x part no_lf)))

pub full_too_much : (old : Cutting) (part : List ℕ) (b : ℕ) (before after : Option (List ℕ)) → NoLf part → before ≡ prepend_known (part ++ b ∷ []) after → length part ≡ max_stream_bytes - old.spent → old.spent ≤ max_stream_bytes → IfSome before (IsTooMuch old)
full_too_much old part b None after no_lf taken full within = tt
full_too_much old part b (Some bytes) None no_lf taken full within = cc
full_too_much old part b (Some bytes) (Some rest) no_lf taken full within =
    let same : bytes ≡ (part ++ b ∷ []) ++ rest = cc in
    record {
      more = rw same (omega (arith, length-append (part ++ b ∷ []) rest, length-append part (b ∷ [])));
      past = inr (rw same (omega (arith, first_size_past part b rest no_lf)));
    }

pub lines_too_much : (old : Cutting) (source : Option (List ℕ)) → 0 < length old.left → old.given ≡ max_stream_lines → IfSome (stream_left old source) (IsTooMuch old)
lines_too_much old None some full = tt
lines_too_much old (Some rest) some full =
    record { more = omega (arith, length-append old.left rest); past = inl full }

-- the answer where a line was cut
gives_cases : (is_short : Bool) (line : StreamLine) (old new : Cutting) (result : Next) (source rest : Option (List ℕ)) → result ≡ cond is_short Line Long → line ≡ cond is_short (text new.line) long → (is_short ≡ false → new.line ≡ []) → GivesLine line old new (stream_left old source) (stream_left new rest) → IsFreshAnswer result old new source rest
gives_cases true line old new result source rest answer is empty gives =
    subst (λ r. IsFreshAnswer r old new source rest) (sym answer) (subst (λ l. GivesLine l old new (stream_left old source) (stream_left new rest)) is gives)
gives_cases false line old new result source rest answer is empty gives =
    subst (λ r. IsFreshAnswer r old new source rest) (sym answer) (subst (λ l. GivesLine l old new (stream_left old source) (stream_left new rest)) is gives, empty refl)

gives_line : (part piece : List ℕ) (old mid new : Cutting) (size : ℕ) (last : Option Next) (result : Next) (source rest : Option (List ℕ)) → mid.line ≡ front 1025 part → GivesText mid new size last result → mid.given ≡ old.given → mid.spent ≡ old.spent → size ≡ length piece → stream_left old source ≡ prepend_known piece (stream_left mid rest) → IfSome (stream_left mid rest) (λ _. stream_lines piece ≡ line_of part ∷ []) → TakesPiece piece last (stream_left mid rest) → IsFreshAnswer result old new source rest
gives_line part piece old mid new size last result source rest kept gives given spent sized taken one ends =
    let left : stream_left mid rest ≡ stream_left new rest = ap (λ bytes. prepend_known bytes rest) (sym gives.left) in
    gives_cases gives.is_short (line_of part) old new result source rest gives.answer (settled_line 1024 part mid.line new.line gives.is_short kept gives.settles) (λ e. (gives.settles.long e).1) (record {
      piece = piece;
      taken = taken ∙ ap (prepend_known piece) left;
      is_line = subst (λ told. IfSome told (λ _. stream_lines piece ≡ line_of part ∷ [])) left one;
      ends = subst (λ stays. TakesPiece piece stays (stream_left new rest)) (sym gives.last) (subst (λ told. TakesPiece piece last told) left ends);
      given = gives.given ∙ ap (λ n. n + 1) given;
      spent = omega (arith, gives.spent);
    })

-- where the line ended at its LF
pub gives_whole : (old mid new : Cutting) (size room : ℕ) (result : Next) (source rest : Option (List ℕ)) → CutsLine (Whole size) 1025 mid.line room (stream_left old source) mid.left rest → GivesText mid new size None result → mid.given ≡ old.given → mid.spent ≡ old.spent → IsFreshAnswer result old new source rest
gives_whole old mid new size room result source rest cut gives given spent =
    let sized : size ≡ length (cut.part ++ 10 ∷ []) = omega (arith, cut.ends.size, length-append cut.part (10 ∷ [])) in
    let one = where_told (stream_lines (cut.part ++ 10 ∷ []) ≡ line_of cut.part ∷ []) (stream_left mid rest) (line_whole cut.part cut.no_lf) in
    gives_line cut.part (cut.part ++ 10 ∷ []) old mid new size None result source rest cut.kept gives given spent sized cut.ends.taken one (inl (record { front = cut.part; ended = refl }, refl))

-- where the line ended with the stream
pub gives_last : (old mid new : Cutting) (size room : ℕ) (result : Next) (source rest : Option (List ℕ)) → CutsLine (Last size) 1025 mid.line room (stream_left old source) mid.left rest → GivesText mid new size (Some End) result → mid.given ≡ old.given → mid.spent ≡ old.spent → 0 < length old.left → IsFreshAnswer result old new source rest
gives_last old mid new size room result source rest cut gives given spent there =
    let one = line_last old.left cut.part source (stream_left old source) (stream_left mid rest) cut.no_lf there refl cut.ends.taken cut.ends.at_end in
    gives_line cut.part cut.part old mid new size (Some End) result source rest cut.kept gives given spent cut.ends.size cut.ends.taken one (inr (cut.ends.at_end, refl))

-- where there was a byte too many
pub stops_full : (old new : Cutting) (limit : ℕ) (kept left : List ℕ) (room : ℕ) (source rest : Option (List ℕ)) → CutsLine Full limit kept room (stream_left old source) left rest → old.spent + room ≡ max_stream_bytes → new.last ≡ Some TooMany → new.line ≡ [] → IsFreshAnswer TooMany old new source rest
stops_full old new limit kept left room source rest cut within stays empty =
    record {
      part = (cut.part ++ cut.ends.byte ∷ []) ++ left;
      taken = cut.ends.taken ∙ prepend_known_twice (cut.part ++ cut.ends.byte ∷ []) left rest;
      no_line = empty;
      stays = stays;
      much = full_too_much old cut.part cut.ends.byte (stream_left old source) (prepend_known left rest) cut.no_lf cut.ends.taken (omega (arith, cut.ends.size)) (omega arith);
    }
