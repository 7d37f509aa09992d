-- What is left when parts at the front are read one after the other.
use Rattle.std.proofs.Common.{◌≡◌, ℕ, List, [], ◌++◌, refl, sym, ap, ◌∙◌, append_assoc}
use Rattle.mk_text.specs.Words.{word, behind_word, IsRestOf}
use Rattle.mk_text.proofs.WordLemmas.{word_splits}

pub rest_all : (bytes : List ℕ) → IsRestOf bytes bytes
unfolding IsRestOf
rest_all bytes = ([], refl)

pub rest_of_rest : (bytes left more : List ℕ) → IsRestOf left bytes → IsRestOf more left → IsRestOf more bytes
unfolding IsRestOf
rest_of_rest bytes left more (front, e) (later, f) = (front ++ later, e ∙ ap (λ (b : List ℕ). front ++ b) f ∙ sym (append_assoc front later more))

pub rest_behind : (text bytes left : List ℕ) → bytes ≡ text ++ left → IsRestOf left bytes
unfolding IsRestOf
rest_behind text bytes left e = (text, e)

pub rest_of_word : (bytes left : List ℕ) → left ≡ behind_word bytes → IsRestOf left bytes
unfolding IsRestOf
rest_of_word bytes left e = (word bytes, sym (word_splits bytes) ∙ ap (λ (b : List ℕ). word bytes ++ b) (sym e))
