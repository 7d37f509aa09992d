-- The text of one line: its first bytes, and the CR at its end.
use Rattle.std.proofs.Common.{◌≡◌, ℕ, ◌+◌, ◌-◌, ◌<◌, ◌≤◌, List, [], ◌∷◌, ◌++◌, suc, zero, length, get_or, take, set, Bool, true, false, cond, eqb, refl, sym, ap, subst, ◌∙◌, length-append, length-take, arith, add-one}
use Rattle.std.proofs.Math.Numerals.{sub-one}
use Rattle.std.proofs.lemmas.Bool.{true≢false, ne_eqb}
use Rattle.std.proofs.lemmas.List.{take_all, take_at, take_more, take_more_set}
use Rattle.mk_io.specs.inner.Cut.{front, Settles}
use Rattle.mk_io.specs.Stream.{without_last_cr}

-- a byte behind the first bytes, and the first bytes of all
pub front_push : (limit : ℕ) (bytes : List ℕ) (b : ℕ) → front limit (front limit bytes ++ b ∷ []) ≡ front limit (bytes ++ b ∷ [])
unfolding front
front_push zero bytes b = refl
front_push (suc limit) [] b = refl
front_push (suc limit) (x ∷ bytes) b = ap (λ xs. x ∷ xs) (front_push limit bytes b)

pub front_none : (limit : ℕ) → [] ≡ front limit []
unfolding front
front_none zero = refl
front_none (suc limit) = refl

-- what `push` leaves where there is room, and where there is none
pub front_with_room : (limit : ℕ) (buf text : List ℕ) (len b : ℕ) → length buf ≡ limit → len < limit → take len buf ≡ text → take (len + 1) (set buf len b) ≡ front limit (text ++ b ∷ [])
unfolding front
front_with_room limit buf text len b size room view =
    let more = take_more_set buf len b (omega arith) in
    let same = ap (λ xs. xs ++ b ∷ []) view in
    let short : length (text ++ b ∷ []) ≤ limit = rw (← view) (omega (arith, length-append (take len buf) (b ∷ []), length-take len buf)) in
    more ∙ same ∙ sym (take_all limit (text ++ b ∷ []) short)

pub front_without_room : (limit : ℕ) (buf text : List ℕ) (len b : ℕ) → length buf ≡ limit → limit ≤ len → len ≤ limit → take len buf ≡ text → text ≡ front limit (text ++ b ∷ [])
unfolding front
front_without_room limit buf text len b size full within view =
    let whole : length text ≡ limit = rw (← view) (omega (arith, length-take len buf)) in
    sym (take_at text (b ∷ []) limit whole)

cond_cons : (test : Bool) (x : ℕ) (a b : List ℕ) → x ∷ cond test a b ≡ cond test (x ∷ a) (x ∷ b)
cond_cons true x a b = refl
cond_cons false x a b = refl

pub without_last_cr-push : (text : List ℕ) (b : ℕ) → without_last_cr (text ++ b ∷ []) ≡ cond (eqb b 13) text (text ++ b ∷ [])
without_last_cr-push [] b = refl
without_last_cr-push (x ∷ []) b = cond_cons (eqb b 13) x [] (b ∷ [])
without_last_cr-push (x ∷ y ∷ text) b =
    ap (λ xs. x ∷ xs) (without_last_cr-push (y ∷ text) b) ∙ cond_cons (eqb b 13) x (y ∷ text) (y ∷ (text ++ b ∷ []))

-- what `settle` leaves: a text without its last byte, which was a CR, or the same text
pub settles_without : (limit : ℕ) (buf text : List ℕ) (len : ℕ) → take len buf ≡ text → 0 < len → len ≤ limit → len ≤ length buf → get_or buf (len - 1) 0 ≡ 13 → Settles limit text (take (len - 1) buf) true
settles_without limit buf text len view some short within cr =
    let before : len - 1 < length buf = omega arith in
    let next : len - 1 + 1 ≡ len = omega arith in
    let parts : take len buf ≡ take (len - 1) buf ++ 13 ∷ [] = subst (λ n. take n buf ≡ take (len - 1) buf ++ 13 ∷ []) next (take_more buf (len - 1) 0 before ∙ ap (λ b. take (len - 1) buf ++ b ∷ []) cr) in
    record {
      short = λ _. (rw (← view) (omega (arith, length-take len buf)), sym (ap without_last_cr (sym view ∙ parts) ∙ without_last_cr-push (take (len - 1) buf) 13));
      long = λ e. absurd (true≢false e);
      within = omega (arith, length-take (len - 1) buf);
    }

same_without : (limit : ℕ) (buf text : List ℕ) (len : ℕ) → take len buf ≡ text → len ≤ length buf → (0 < len → get_or buf (len - 1) 0 ≡ 13 → ⊥) → text ≡ without_last_cr text
same_without limit buf text zero view within no_cr = sym view ∙ ap without_last_cr view
same_without limit buf text (suc n) view within no_cr =
    let parts : take (suc n) buf ≡ take n buf ++ get_or buf n 0 ∷ [] = rw (← add-one) (take_more buf n 0 within) in
    let other : eqb (get_or buf n 0) 13 ≡ false = ne_eqb (get_or buf n 0) 13 (λ e. no_cr (omega arith) (rw sub-one e)) in
    sym view ∙ parts ∙ sym (ap without_last_cr (sym view ∙ parts) ∙ without_last_cr-push (take n buf) (get_or buf n 0) ∙ ap (λ test. cond test (take n buf) (take n buf ++ get_or buf n 0 ∷ [])) other)

pub settles_same : (limit : ℕ) (buf text : List ℕ) (len : ℕ) → take len buf ≡ text → len ≤ limit → len ≤ length buf → (0 < len → get_or buf (len - 1) 0 ≡ 13 → ⊥) → Settles limit text text true
settles_same limit buf text len view short within no_cr =
    let size : length text ≤ limit = rw (← view) (omega (arith, length-take len buf)) in
    record {
      short = λ _. (size, same_without limit buf text len view within no_cr);
      long = λ e. absurd (true≢false e);
      within = size;
    }
