-- The word at the front, and what follows a text.
use Rattle.std.specs.Prelude.{◌≡◌, ℕ, ◌+◌, ◌<◌, ◌≤◌, List, [], ◌∷◌, ◌++◌, length, get_or, Bool, true, false, ◌&&◌, not, cond, Option, Some, None, eqb}
use Rattle.std.specs.List.{prefix_len, list_all}
use Rattle.std.proofs.Common.{refl, sym, arith}
use Rattle.std.proofs.Math.Seq.{take-append_seam, drop-append_seam}
use Rattle.std.proofs.lemmas.List.{take-append-drop}
use Rattle.std.proofs.lemmas.List.Sums.{prefix_len_is}
use Rattle.std.proofs.lemmas.Option.{none-some, same_Some}
use Rattle.std.proofs.lemmas.Bool.{eqb-true, eq-eqb, ne_eqb}
use Rattle.mk_names.specs.Name.{is_name_byte}
use Rattle.mk_text.specs.Words.{word_len, word, behind_word, EndsWord, after}

pub both_true : (p q : Bool) → p && q ≡ true → (p ≡ true) × (q ≡ true)
both_true true true h = (refl, refl)
both_true true false h = cc
both_true false q h = cc

-- the word and what stands behind it are all there is
pub word_splits : (bytes : List ℕ) → word bytes ++ behind_word bytes ≡ bytes
unfolding word behind_word
word_splits bytes = take-append-drop (word_len bytes) bytes

passed_over : (named : Bool) (n : ℕ) → not named ≡ true → cond named (1 + n) 0 ≡ 0
passed_over true n e = cc
passed_over false n e = refl

no_word_here : (rest : List ℕ) → EndsWord rest → prefix_len is_name_byte rest ≡ 0
no_word_here [] ends = refl
no_word_here (b ∷ rest) ends = passed_over (is_name_byte b) (prefix_len is_name_byte rest) ends

word_len_of : (w rest : List ℕ) → list_all is_name_byte w ≡ true → EndsWord rest → prefix_len is_name_byte (w ++ rest) ≡ length w
word_len_of [] rest named ends = no_word_here rest ends
word_len_of (b ∷ w) rest named ends =
    let parts = both_true (is_name_byte b) (list_all is_name_byte w) named in
    let more : prefix_len is_name_byte (w ++ rest) ≡ length w = word_len_of w rest (parts.1) ends in
    rw (parts.0, more) (omega arith)

-- a word is read whole where none goes on behind it
pub word_of : (w rest : List ℕ) → list_all is_name_byte w ≡ true → EndsWord rest → word (w ++ rest) ≡ w
unfolding word word_len
word_of w rest named ends = rw (word_len_of w rest named ends) (take-append_seam w rest)

pub behind_word_of : (w rest : List ℕ) → list_all is_name_byte w ≡ true → EndsWord rest → behind_word (w ++ rest) ≡ rest
unfolding behind_word word_len
behind_word_of w rest named ends = rw (word_len_of w rest named ends) (drop-append_seam w rest)

-- a word ends at the first other byte
pub word_ends : (bytes : List ℕ) (i : ℕ) → i ≤ length bytes → ((k : ℕ) → k < i → is_name_byte (get_or bytes k 0) ≡ true) →
    (i < length bytes → is_name_byte (get_or bytes i 0) ≡ false) → i ≡ word_len bytes
unfolding word_len
word_ends bytes i within before here = sym (prefix_len_is is_name_byte bytes i 0 within before here)

-- what follows a text
pub after_text : (text rest : List ℕ) → after text (text ++ rest) ≡ Some rest
unfolding after
after_text [] rest = refl
after_text (b ∷ text) rest = rw (eq-eqb b b refl) (after_text text rest)

behind_first : (b c : ℕ) (text bytes rest : List ℕ) (same : Bool) → eqb b c ≡ same → (after text bytes ≡ Some rest → bytes ≡ text ++ rest) →
    cond same (after text bytes) None ≡ Some rest → c ∷ bytes ≡ b ∷ (text ++ rest)
behind_first b c text bytes rest true same more e = let first : b ≡ c = eqb-true b c same in let others : bytes ≡ text ++ rest = more e in cc
behind_first b c text bytes rest false same more e = absurd (none-some rest e)

pub after_begins : (text bytes rest : List ℕ) → after text bytes ≡ Some rest → bytes ≡ text ++ rest
unfolding after
after_begins [] bytes rest e = same_Some bytes rest e
after_begins (b ∷ text) [] rest e = absurd (none-some rest e)
after_begins (b ∷ text) (c ∷ bytes) rest e = behind_first b c text bytes rest (eqb b c) refl (after_begins text bytes rest) e

nothing_behind : (text bytes : List ℕ) (found : Option (List ℕ)) → after text bytes ≡ found →
    ((rest : List ℕ) → bytes ≡ text ++ rest → ⊥) → found ≡ None
nothing_behind text bytes None e without = refl
nothing_behind text bytes (Some rest) e without = absurd (without rest (after_begins text bytes rest e))

-- a text that does not stand at the front
pub after_nothing : (text bytes : List ℕ) → ((rest : List ℕ) → bytes ≡ text ++ rest → ⊥) → after text bytes ≡ None
after_nothing text bytes without = nothing_behind text bytes (after text bytes) refl without

not_behind_first : (text bytes : List ℕ) (same : Bool) → same ≡ false → cond same (after text bytes) None ≡ None
not_behind_first text bytes true h = cc
not_behind_first text bytes false h = refl

-- nothing follows a text that begins with another byte
pub after_otherwise : (text bytes : List ℕ) → 0 < length text → 0 < length bytes → (get_or bytes 0 0 ≡ get_or text 0 0 → ⊥) → after text bytes ≡ None
unfolding after
after_otherwise [] bytes some there other = absurd (omega arith)
after_otherwise (b ∷ text) [] some there other = absurd (omega arith)
after_otherwise (b ∷ text) (c ∷ bytes) some there other = not_behind_first text bytes (eqb b c) (ne_eqb b c (λ same. other (sym same)))
