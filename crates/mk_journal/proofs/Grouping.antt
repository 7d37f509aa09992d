-- Groups of records in a buffer.
use Rattle.std.proofs.Common.{◌≡◌, ℕ, zero, suc, ◌+◌, ◌-◌, ◌<◌, List, [], ◌∷◌, ◌++◌, length, take, drop, true, false, eqb, Option, refl, sym, ◌∙◌, ap, subst, arith, append_assoc}
use Rattle.std.specs.Int.{w32, to_be_bytes}
use Rattle.std.proofs.lemmas.List.{append-nil, take_all, length-drop}
use Rattle.std.proofs.lemmas.Bool.{eqb-true}
use Rattle.mk_journal.specs.Store.{framed, opened, chained}
use Rattle.mk_journal.specs.Kept.{IsSettled}

-- a group whose records have no byte has none
pub nothing : (group : List (List ℕ)) → opened group ≡ [] → group ≡ []
nothing [] e = refl
nothing (r ∷ group) e = absurd (omega (arith, ap length e))

-- the first record of a group, and the others
pub record IsSplit (group : List (List ℕ)) : Type 0 where
  pub first : List ℕ
  pub others : List (List ℕ)
  pub parts : group ≡ first ∷ others

pub split : (group : List (List ℕ)) (bytes : List ℕ) → bytes ≡ opened group → 0 < length bytes → IsSplit group
split [] bytes is some = absurd (omega (arith, ap length is))
split (r ∷ group) bytes is some = record { first = r; others = group; parts = refl }

-- what an append writes of a group: all but the first gate, and the next gate closed
pub behind_gate : (r : List ℕ) (group : List (List ℕ)) (bytes : List ℕ) → bytes ≡ opened (r ∷ group) ++ 0 ∷ [] → take (length bytes - 1) (drop 1 bytes) ≡ chained r group
behind_gate r group bytes is =
    take_all (length bytes - 1) (drop 1 bytes) (omega (arith, length-drop 1 bytes)) ∙ ap (drop 1) is ∙ append_assoc (framed r) (opened group) (0 ∷ [])

-- a record behind others
pub put_behind : (old one two now front entry : List ℕ) → one ≡ old ++ 1 ∷ [] → front ≡ to_be_bytes w32 (length entry) → two ≡ one ++ front → now ≡ two ++ entry → now ≡ old ++ 1 ∷ framed entry
unfolding framed
put_behind old one two now front entry gate size_is size_behind entry_behind =
    entry_behind
    ∙ ap (λ (l : List ℕ). l ++ entry) (size_behind ∙ ap (λ (l : List ℕ). l ++ front) gate)
    ∙ append_assoc (old ++ 1 ∷ []) front entry
    ∙ append_assoc old (1 ∷ []) (front ++ entry)
    ∙ ap (λ (l : List ℕ). old ++ 1 ∷ (l ++ entry)) size_is

-- whether some bytes are there, by their number
pub not_empty : (n : ℕ) → eqb n 0 ≡ false → 0 < n
not_empty zero e = absurd (cc e)
not_empty (suc n) e = omega arith

pub is_nothing : (n : ℕ) → eqb n 0 ≡ true → n ≡ 0
is_nothing n e = eqb-true n 0 e

-- a group of none leaves the file as it is
pub settled_none : {file : Option (List ℕ)} {may_leave : List ℕ → Type 0} {market : List ℕ} {gate : ℕ} (records group : List (List ℕ)) (bytes : List ℕ) → length bytes ≡ 0 → bytes ≡ opened group → IsSettled file may_leave market records gate → IsSettled file may_leave market (records ++ group) gate
settled_none {file} {may_leave} {market} {gate} records [] bytes none is settled = subst (λ (l : List (List ℕ)). IsSettled file may_leave market l gate) (sym (append-nil records)) settled
settled_none records (r ∷ group) bytes none is settled = absurd (omega (arith, ap length is))

-- and another is behind it
pub settled_some : {file : Option (List ℕ)} {may_leave : List ℕ → Type 0} {market : List ℕ} (records group : List (List ℕ)) (r : List ℕ) (others : List (List ℕ)) (gate size next : ℕ) → group ≡ r ∷ others → size ≡ next → IsSettled file may_leave market (records ++ r ∷ others) (gate + size) → IsSettled file may_leave market (records ++ group) (gate + next)
settled_some {file} {may_leave} {market} records group r others gate size next parts same settled =
    subst (λ (l : List (List ℕ)). IsSettled file may_leave market (records ++ l) (gate + next)) (sym parts) (subst (λ k. IsSettled file may_leave market (records ++ r ∷ others) (gate + k)) same settled)
