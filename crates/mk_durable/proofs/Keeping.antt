-- One change more, behind those that are kept.
use Rattle.std.proofs.Common.{◌≡◌, ℕ, ◌≤◌, List, [], ◌∷◌, ◌++◌, length, sym, ap, subst, ◌∙◌, arith}
use Rattle.std.proofs.lemmas.List.{append-nil}
use Rattle.mk_journal.specs.Market.{IsFront}
use Rattle.mk_journal.specs.inner.HeldLaws.{front_fewer}

-- a front of some records is one of more, with fewer for certain
front_of : (bytes : List ℕ) (all more total : List (List ℕ)) (least fewer : ℕ) (c : List ℕ)
    → fewer ≤ least → all ++ more ≡ total → IsFront bytes all least c → IsFront bytes total fewer c
front_of bytes all more total least fewer c less parts front =
    subst (λ (rs : List (List ℕ)). IsFront bytes rs fewer c) parts (front_fewer more less front)

module _ (bytes : List ℕ) (records : List (List ℕ)) (taken change : List ℕ)
    (is : taken ≡ change) where
  -- before the change waits, and while it waits or is kept
  pub front_before : (c : List ℕ) → IsFront bytes (records ++ []) (length records) c
      → IsFront bytes (records ++ change ∷ []) (length records) c
  front_before c front = front_of bytes (records ++ []) (change ∷ []) (records ++ change ∷ [])
      (length records) (length records) c (omega arith)
      (ap (λ (rs : List (List ℕ)). rs ++ change ∷ []) (append-nil records)) front

  module _ (kept waiting : List (List ℕ))
      (parts : records ++ ([] ++ taken ∷ []) ≡ kept ++ waiting) where
    pub all_of : kept ++ waiting ≡ records ++ change ∷ []
    all_of = sym parts ∙ ap (λ (r : List ℕ). records ++ r ∷ []) is

    pub front_behind : length records ≤ length kept → (c : List ℕ)
        → IsFront bytes (kept ++ waiting) (length kept) c
        → IsFront bytes (records ++ change ∷ []) (length records) c
    front_behind no_fewer c front = front_of bytes (kept ++ waiting) []
        (records ++ change ∷ []) (length kept) (length records) c no_fewer
        (append-nil (kept ++ waiting) ∙ all_of) front
