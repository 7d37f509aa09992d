-- A line that is taken at once: the bytes up to the first LF among those that were read.
use Rattle.std.proofs.Common.{◌≡◌, ℕ, ◌+◌, ◌-◌, ◌<◌, ◌≤◌, min, List, [], ◌∷◌, ◌++◌, length, get_or, take, drop, Option, Some, sym, ap, subst, ◌∙◌, length-take, take-append-drop, get_or-take, eq-eqb, arith}
use Rattle.std.specs.Prelude.{◌≢◌, All}
use Rattle.std.proofs.lemmas.Bool.{eqb-true}
use Rattle.std.proofs.lemmas.List.{drop-drop, drop-take, get_or_default, take_at, take_min, take_more}
use Rattle.memchr.specs.Find.{IsFirstByte, is_byte}
use Rattle.mk_io.specs.declared.cut.Cut.TheVariants.{Whole}
use Rattle.mk_io.specs.Outside.{prepend_known}
use Rattle.mk_io.specs.inner.Cut.{front, CutsLine}
use Rattle.mk_io.proofs.Told.{prepend_known_twice}

-- what `pass` leaves
pub passed_over : (buf view : List ℕ) (from to count : ℕ) → take (to - from) (drop from buf) ≡ view → count ≤ length view → take (to - (from + count)) (drop (from + count) buf) ≡ drop count view
passed_over buf view from to count is within =
    let size : count ≤ to - from = omega (arith, ap length is, length-take (to - from) (drop from buf)) in
    let parts : to - from ≡ count + (to - (from + count)) = omega arith in
    sym (ap (drop count) (sym is ∙ ap (λ n. take n (drop from buf)) parts) ∙ drop-take count (to - (from + count)) (drop from buf) ∙ ap (take (to - (from + count))) (drop-drop count from buf))

-- what `put` leaves
pub put_front : (limit count : ℕ) (bytes copied rest : List ℕ) → copied ≡ take count bytes → count ≡ min (length bytes) limit → take count (copied ++ rest) ≡ front limit bytes
unfolding front
put_front limit count bytes copied rest copy least =
    let sized : length copied ≡ count = omega (arith, ap length copy, length-take count bytes) in
    let fewer : count ≡ min limit (length bytes) = omega arith in
    take_at copied rest count sized ∙ copy ∙ ap (λ n. take n bytes) fewer ∙ take_min limit bytes

no_lf_before : (old : List ℕ) (end : ℕ) → IsFirstByte (is_byte 10) old (Some end) → All (λ b. b ≢ 10) (take end old)
no_lf_before old end first k d below is =
    let early : k < end = omega (arith, length-take end old) in
    let inside : k < length old = omega (arith, length-take end old) in
    first.0.before k (omega arith) early (eq-eqb (get_or old k 0) 10 (get_or_default old k 0 d inside ∙ sym (get_or-take end old k d early) ∙ is))

cut_at : (old : List ℕ) (end : ℕ) → IsFirstByte (is_byte 10) old (Some end) → old ≡ (take end old ++ 10 ∷ []) ++ drop (end + 1) old
cut_at old end first =
    let lf : get_or old end 0 ≡ 10 = eqb-true (get_or old end 0) 10 first.1 in
    sym (take-append-drop (end + 1) old) ∙ ap (λ xs. xs ++ drop (end + 1) old) (take_more old end 0 first.0.high ∙ ap (λ b. take end old ++ b ∷ []) lf)

cuts_first : (limit room end : ℕ) (text old new : List ℕ) (rest : Option (List ℕ)) → IsFirstByte (is_byte 10) old (Some end) → end < room → text ≡ front limit (take end old) → new ≡ drop (end + 1) old → CutsLine (Whole (end + 1)) limit text room (prepend_known old rest) new rest
cuts_first limit room end text old new rest first fits put passed =
    let inside : end < length old = first.0.high in
    record {
      part = take end old;
      no_lf = no_lf_before old end first;
      kept = put;
      ends = record {
        size = omega (arith, length-take end old);
        fits = omega arith;
        taken = ap (λ xs. prepend_known xs rest) (cut_at old end first ∙ ap (λ xs. (take end old ++ 10 ∷ []) ++ xs) (sym passed)) ∙ sym (prepend_known_twice (take end old ++ 10 ∷ []) new rest);
      };
    }

-- the bytes were seen twice: for the search, and for the text
pub cuts_at_once : (limit room end : ℕ) (text old new searched seen : List ℕ) (rest : Option (List ℕ)) → searched ≡ old → seen ≡ old → IsFirstByte (is_byte 10) searched (Some end) → end < room → text ≡ front limit (take end seen) → new ≡ drop (end + 1) old → CutsLine (Whole (end + 1)) limit text room (prepend_known old rest) new rest
cuts_at_once limit room end text old new searched seen rest search_same seen_same first fits put passed =
    cuts_first limit room end text old new rest
    (subst (λ (xs : List ℕ). IsFirstByte (is_byte 10) xs (Some end)) search_same first) fits
    (put ∙ ap (λ xs. front limit (take end xs)) seen_same) passed
