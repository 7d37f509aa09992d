-- What the bytes of a store mean, in one way.
use Rattle.std.proofs.Common.{◌≡◌, ◌≢◌, inl, inr, ⊎_elim, ℕ, ◌+◌, ◌<◌, List, [], ◌∷◌, ◌++◌, length, take, drop, eqb, Some, None, refl, sym, ◌∙◌, ap, arith, length-append, append_assoc}
use Rattle.std.specs.Int.{w32, to_be_bytes}
use Rattle.std.proofs.lemmas.Bool.{eq-eqb, cond-true}
use Rattle.std.proofs.lemmas.List.{take_at, drop_at, append_cancel_left}
use Rattle.std.proofs.lemmas.List.Elements.{All-head, All-tail}
use Rattle.mk_journal.specs.Store.{IsLength, AreRecords, NoRecord, framed, opened, header, foreign_from, IsUnstarted, IsStarted, StandsFor, IsForeign, IsBroken, IsHonest}
use Rattle.mk_journal.proofs.Spelling.{length-header}
use Rattle.mk_journal.proofs.Parsing.{length_at}

same_record : (r t x y : List ℕ) → IsLength (length r) → IsLength (length t) → framed r ++ x ≡ framed t ++ y → (r ≡ t) × (x ≡ y)
unfolding framed
same_record r t x y is_length_r is_length_t same =
    let size : length r ≡ length t = sym (length_at (framed r ++ x) r x (omega (arith, is_length_r.most)) refl) ∙ length_at (framed r ++ x) t y (omega (arith, is_length_t.most)) same in
    let parts : to_be_bytes w32 (length r) ++ (r ++ x) ≡ to_be_bytes w32 (length t) ++ (t ++ y) = sym (append_assoc (to_be_bytes w32 (length r)) r x) ∙ same ∙ append_assoc (to_be_bytes w32 (length t)) t y in
    let rests : r ++ x ≡ t ++ y =
    sym (drop_at (to_be_bytes w32 (length r)) (r ++ x) 4 refl) ∙ ap (drop 4) parts ∙ drop_at (to_be_bytes w32 (length t)) (t ++ y) 4 refl in (
      sym (take_at r x (length r) refl) ∙ ap (take (length r)) rests ∙ take_at t y (length r) (sym size),
      sym (drop_at r x (length r) refl) ∙ ap (drop (length r)) rests ∙ drop_at t y (length r) (sym size),
    )

tails : (a b : ℕ) (x y : List ℕ) → a ∷ x ≡ b ∷ y → (a ≡ b) × (x ≡ y)
tails a b x y same = (cc, cc)

pub same_records : (records others : List (List ℕ)) (g h : ℕ) (rest behind : List ℕ) → g ≢ 1 → h ≢ 1 → AreRecords records → AreRecords others → opened records ++ g ∷ rest ≡ opened others ++ h ∷ behind → records ≡ others
same_records [] [] g h rest behind closed shut are there same = refl
same_records [] (t ∷ others) g h rest behind closed shut are there same = absurd (closed (tails _ _ _ _ same).0)
same_records (r ∷ records) [] g h rest behind closed shut are there same = absurd (shut (sym (tails _ _ _ _ same).0))
same_records (r ∷ records) (t ∷ others) g h rest behind closed shut are there same =
    let inner = sym (append_assoc (framed r) (opened records) (g ∷ rest)) ∙ (tails _ _ _ _ same).1 ∙ append_assoc (framed t) (opened others) (h ∷ behind) in
    let is_length = λ (x : List ℕ). IsLength (length x) in
    let both = same_record r t _ _ (All-head is_length r records are) (All-head is_length t others there) inner in
    let more = same_records records others g h rest behind closed shut (All-tail is_length r records are) (All-tail is_length t others there) both.1 in
    λ i. both.0 i ∷ more i

pub holds_or_breaks : (records others : List (List ℕ)) (g : ℕ) (rest behind : List ℕ) → g ≢ 1 → AreRecords records → AreRecords others → NoRecord behind → opened records ++ g ∷ rest ≡ opened others ++ 1 ∷ behind → ⊥
holds_or_breaks [] [] g rest behind closed are there none same = closed (tails _ _ _ _ same).0
holds_or_breaks [] (t ∷ others) g rest behind closed are there none same = closed (tails _ _ _ _ same).0
holds_or_breaks (r ∷ records) [] g rest behind closed are there none same =
    none r (opened records ++ g ∷ rest) (All-head (λ (x : List ℕ). IsLength (length x)) r records are) (omega (arith, length-append (opened records) (g ∷ rest)))
    (sym (tails _ _ _ _ same).1 ∙ append_assoc (framed r) (opened records) (g ∷ rest))
holds_or_breaks (r ∷ records) (t ∷ others) g rest behind closed are there none same =
    let inner = sym (append_assoc (framed r) (opened records) (g ∷ rest)) ∙ (tails _ _ _ _ same).1 ∙ append_assoc (framed t) (opened others) (1 ∷ behind) in
    let is_length = λ (x : List ℕ). IsLength (length x) in
    let both = same_record r t _ _ (All-head is_length r records are) (All-head is_length t others there) inner in
    holds_or_breaks records others g rest behind closed (All-tail is_length r records are) (All-tail is_length t others there) none both.1

own_header : (at : ℕ) (head : List ℕ) (bytes : List ℕ) → 0 < length bytes → foreign_from at head (head ++ bytes) ≡ None
own_header at [] [] some = absurd (omega arith)
own_header at [] (b ∷ bytes) some = refl
own_header at (h ∷ head) bytes some = cond-true (eqb h h) _ _ (eq-eqb h h refl) ∙ own_header (at + 1) head bytes some

-- a file with this market's header and something behind it is not foreign
own_file : (market file bytes : List ℕ) (at : ℕ) → file ≡ 1 ∷ (header market ++ bytes) → 0 < length bytes → IsForeign market file at → ⊥
own_file market file bytes at is some (inl other) = other.0.closed (tails _ _ _ _ (sym other.0.file_is ∙ is)).0
own_file market file bytes at is some (inr another) =
    let rest : another.rest ≡ header market ++ bytes = (tails _ _ _ _ (sym another.file_is ∙ is)).1 in
    let none : foreign_from 1 (header market) another.rest ≡ None = ap (foreign_from 1 (header market)) rest ∙ own_header 1 (header market) bytes some in
    let both = sym another.differs ∙ none in
    cc

started_honest : (market : List ℕ) (records : List (List ℕ)) (file : List ℕ) → IsStarted market records file → IsHonest market file
started_honest market records file s = record {
  own = λ at. own_file market file s.rest at s.file_is (omega (arith, ap length s.holds.bytes_are, length-append (opened records) (s.holds.gate ∷ s.holds.rest)));
  whole = λ others broken.
      let rests : s.rest ≡ broken.rest = append_cancel_left (header market) s.rest broken.rest (tails _ _ _ _ (sym s.file_is ∙ broken.file_is)).1 in
      holds_or_breaks records others s.holds.gate s.holds.rest broken.breaks.rest s.holds.closed s.holds.are broken.breaks.are broken.breaks.none (sym s.holds.bytes_are ∙ rests ∙ broken.breaks.bytes_are);
}

-- a file that begins with an open gate has its header
open_unstarted : (market file rest : List ℕ) → IsUnstarted market file → 0 < length rest → file ≡ 1 ∷ rest → ⊥
open_unstarted market file rest (inl short) some is = omega (arith, ap length is)
open_unstarted market file rest (inr (inl cleared)) some is = let both = sym cleared.file_is ∙ is in cc
open_unstarted market file rest (inr (inr written)) some is = written.closed (tails _ _ _ _ (sym written.file_is ∙ is)).0

unstarted_honest : (market file : List ℕ) → IsUnstarted market file → IsHonest market file
unstarted_honest market file unstarted = record {
  own = λ at foreign. ⊎_elim (λ other. other.0.not_new unstarted) (λ another. open_unstarted market file another.rest unstarted another.some another.file_is) foreign;
  whole = λ records broken. open_unstarted market file (header market ++ broken.rest) unstarted (omega (arith, length-append (header market) broken.rest, length-header market)) broken.file_is;
}

pub stands_honest : (market : List ℕ) (records : List (List ℕ)) (file : List ℕ) → StandsFor market records file → IsHonest market file
stands_honest market records file (inl unstarted) = unstarted_honest market file unstarted.0
stands_honest market records file (inr s) = started_honest market records file s

-- a file is refused at one place
pub one_place : (market f : List ℕ) (at other : ℕ) → IsForeign market f at → IsForeign market f other → at ≡ other
one_place market f at other (inl here) (inl there) = here.1 ∙ sym there.1
one_place market f at other (inl here) (inr there) = absurd (here.0.closed (tails _ _ _ _ (sym here.0.file_is ∙ there.file_is)).0)
one_place market f at other (inr here) (inl there) = absurd (there.0.closed (tails _ _ _ _ (sym there.0.file_is ∙ here.file_is)).0)
one_place market f at other (inr here) (inr there) =
    let rests : here.rest ≡ there.rest = (tails _ _ _ _ (sym here.file_is ∙ there.file_is)).1 in
    let both : Some at ≡ Some other = sym here.differs ∙ ap (foreign_from 1 (header market)) rests ∙ there.differs in
    cc

pub broken_own : (market f : List ℕ) (records : List (List ℕ)) (at : ℕ) → IsBroken market records f → IsForeign market f at → ⊥
broken_own market f records at broken =
    own_file market f broken.rest at broken.file_is (omega (arith, ap length broken.breaks.bytes_are, length-append (opened records) (1 ∷ broken.breaks.rest)))
