-- What writes leave of a file that is split at a byte.
use Rattle.std.proofs.Common.{◌≡◌, ℕ, ◌+◌, List, [], ◌∷◌, ◌++◌, length, get_or, take, drop, sym, ◌∙◌, ap, arith, length-append, take-append-drop, append_assoc}
use Rattle.std.proofs.lemmas.List.{take_at, drop_at, drop_more, drop-drop}
use Rattle.mk_disk.specs.Disk.{Torn, overwritten}

module _ (front : List ℕ) (g : ℕ) (rest : List ℕ) (at : ℕ) (place : length front ≡ at) where
  abbrev file : List ℕ
  file = front ++ g ∷ rest

  length-front : length (front ++ g ∷ []) ≡ at + 1
  length-front = omega (arith, length-append front (g ∷ []))

  length-file : length file ≡ at + 1 + length rest
  length-file = omega (arith, length-append front (g ∷ rest))

  split : file ≡ (front ++ g ∷ []) ++ rest
  split = sym (append_assoc front (g ∷ []) rest)

  front_of : take (at + 1) file ≡ front ++ g ∷ []
  front_of = ap (take (at + 1)) split ∙ take_at (front ++ g ∷ []) rest (at + 1) length-front

  back_of : drop (at + 1) file ≡ rest
  back_of = ap (drop (at + 1)) split ∙ drop_at (front ++ g ∷ []) rest (at + 1) length-front

  -- a write behind the byte leaves it as it is
  pub torn_behind : (n : ℕ) (c : List ℕ) → Torn (at + 1) n file c → c ≡ front ++ g ∷ drop (at + 1) c
  torn_behind n c torn =
      sym (take-append-drop (at + 1) c) ∙ ap (λ (l : List ℕ). l ++ drop (at + 1) c) (torn.before ∙ front_of) ∙ append_assoc front (g ∷ []) (drop (at + 1) c)

  pub written_behind : (bytes : List ℕ) → overwritten (at + 1) bytes file ≡ front ++ g ∷ (bytes ++ drop (length bytes) rest)
  written_behind bytes =
      ap (λ (l : List ℕ). l ++ bytes ++ drop (at + 1 + length bytes) file) front_of
      ∙ ap (λ (l : List ℕ). (front ++ g ∷ []) ++ bytes ++ l) (sym (drop-drop (length bytes) (at + 1) file) ∙ ap (drop (length bytes)) back_of)
      ∙ append_assoc (front ++ g ∷ []) bytes (drop (length bytes) rest)
      ∙ append_assoc front (g ∷ []) (bytes ++ drop (length bytes) rest)

  -- a write of the byte alone leaves all else
  pub torn_at : (c : List ℕ) → Torn at 1 file c → c ≡ front ++ get_or c at 0 ∷ rest
  torn_at c torn =
      let front_is : take at c ≡ front = torn.before ∙ take_at front (g ∷ rest) at place in
      let back : drop at c ≡ get_or c at 0 ∷ rest = drop_more c at 0 (omega (arith, torn.no_shorter, length-file)) ∙ ap (λ (l : List ℕ). get_or c at 0 ∷ l) (torn.after ∙ back_of) in
      sym (take-append-drop at c) ∙ ap (λ (l : List ℕ). l ++ drop at c) front_is ∙ ap (λ (l : List ℕ). front ++ l) back

  pub written_at : (b : ℕ) → overwritten at (b ∷ []) file ≡ front ++ b ∷ rest
  written_at b =
      ap (λ (l : List ℕ). l ++ (b ∷ []) ++ drop (at + 1) file) (take_at front (g ∷ rest) at place)
      ∙ ap (λ (l : List ℕ). front ++ (b ∷ []) ++ l) back_of
      ∙ append_assoc front (b ∷ []) rest
