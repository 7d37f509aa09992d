-- The plus of chosen cells, by blocks.
use Rattle.std.proofs.Common.{◌≡◌, ℕ, zero, suc, ◌+◌, ◌-◌, ◌*◌, ◌<◌, ◌≤◌, min, List, [], ◌∷◌, ◌++◌, length, take, drop, slice_index, slice_set, All, length-take-le, length-drop, ◌⊎◌, inl, inr, get_or-set_other, get_or-set_same, refl, sym, ap, subst, ◌∙◌, arith, add-one, zero-mul}
use Rattle.std.proofs.Math.Nat.{suc-mul}
use Rattle.std.proofs.Math.Seq.{take-add}
use Rattle.std.proofs.lemmas.List.{take_more, take_all, get_or-take, length-take}
use Rattle.std.proofs.lemmas.Bool.{cases_eq, cases_lt}
use Rattle.std.proofs.lemmas.List.Elements.{All-take, All-drop, All-weaker}
use Rattle.mk_states.specs.Lawful.{Lawful}
use Rattle.mk_states.specs.States.{plus_over}
use Rattle.mk_states.proofs.Sums.{IsPlus, plus_over-append}
use Rattle.mk_cell.specs.Passes.{plus_below}
use Rattle.mk_cell.specs.Cell.{AllStand, AreCells, IsCell, StandsAt}
use Rattle.mk_cell.specs.inner.Laws.{all_have_room}
use Rattle.mk_passes.specs.Parts.{HaveRoom, StandListed, block_of}

module _ (plus : ℕ → ℕ → ℕ) (law : Lawful plus) where
  pub is_plus : IsPlus plus 0
  is_plus = record { assoc = law.associates; comm = law.commutes; neutral = law.neutral }

  pub plus_over_push : (f : ℕ → ℕ) (xs : List ℕ) (x : ℕ) → plus (plus_over plus 0 f xs) (f x) ≡ plus_over plus 0 f (xs ++ x ∷ [])
  plus_over_push f xs x =
      ap (plus (plus_over plus 0 f xs)) (sym (law.commutes (f x) 0 ∙ law.neutral (f x))) ∙ sym (plus_over-append plus 0 is_plus f xs (x ∷ []))

  gathered : (f : ℕ → ℕ) (xs : List ℕ) (i : ℕ) → i ≤ length xs → plus_below plus i (λ k. f (slice_index xs k)) ≡ plus_over plus 0 f (take i xs)
  gathered f xs zero h = refl
  gathered f xs (suc i) h =
      ap (λ n. plus n (f (slice_index xs i))) (gathered f xs i (omega arith)) ∙ plus_over_push f (take i xs) (slice_index xs i)
      ∙ ap (plus_over plus 0 f) (sym (take_more xs i 0 (omega arith)) ∙ ap (λ n. take n xs) (add-one i))

  -- the plus below the length of a list, of what stands in it
  pub gathered_all : (f : ℕ → ℕ) (xs : List ℕ) → plus_below plus (length xs) (λ k. f (slice_index xs k)) ≡ plus_over plus 0 f xs
  gathered_all f xs = gathered f xs (length xs) (omega arith) ∙ ap (plus_over plus 0 f) (take_all (length xs) xs (omega arith))

  blocks : (f : ℕ → ℕ) (xs : List ℕ) (b : ℕ) → plus_below plus b (λ i. plus_over plus 0 f (block_of xs i)) ≡ plus_over plus 0 f (take (b * 64) xs)
  blocks f xs zero = ap (λ n. plus_over plus 0 f (take n xs)) (sym (zero-mul 64))
  blocks f xs (suc b) =
      ap (λ n. plus n (plus_over plus 0 f (block_of xs b))) (blocks f xs b) ∙ sym (plus_over-append plus 0 is_plus f (take (b * 64) xs) (block_of xs b))
      ∙ ap (plus_over plus 0 f) (sym (take-add (b * 64) 64 xs) ∙ ap (λ n. take n xs) (sym (suc-mul b 64)))

  -- the plus of the plus of each block
  pub blocks_all : (f : ℕ → ℕ) (xs : List ℕ) (b : ℕ) → length xs ≤ b * 64 → plus_below plus b (λ i. plus_over plus 0 f (block_of xs i)) ≡ plus_over plus 0 f xs
  blocks_all f xs b h = blocks f xs b ∙ ap (plus_over plus 0 f) (take_all (b * 64) xs h)

-- ---- cells that are gathered

pub block_within : (P : ℕ → Type 0) (xs : List ℕ) (b : ℕ) → All P xs → All P (block_of xs b)
block_within P xs b h = All-take P 64 (drop (b * 64) xs) (All-drop P (b * 64) xs h)

-- the first cells of two arrays are those at some places of two others
pub record AreGathered (at : ℕ → ℕ) (count : ℕ) (digits exponents gathered_digits gathered_exponents : List ℕ) : Type 0 where
  pub long : length gathered_digits ≡ count
  pub long_too : length gathered_exponents ≡ count
  pub within : (k : ℕ) → k < count → at k < length digits
  pub digits_are : (k : ℕ) → k < count → slice_index gathered_digits k ≡ slice_index digits (at k)
  pub exponents_are : (k : ℕ) → k < count → slice_index gathered_exponents k ≡ slice_index exponents (at k)

pub gathered_first : (at : ℕ → ℕ) (count : ℕ) (d e gd ge : List ℕ) → count ≤ length gd → count ≤ length ge → ((k : ℕ) → k < count → at k < length d)
    → ((k : ℕ) → k < count → slice_index gd k ≡ slice_index d (at k)) → ((k : ℕ) → k < count → slice_index ge k ≡ slice_index e (at k))
    → AreGathered at count d e (take count gd) (take count ge)
gathered_first at count d e gd ge l m within are are_too = record {
  long = length-take-le count gd l;
  long_too = length-take-le count ge m;
  within = within;
  digits_are = λ k p. get_or-take count gd k 0 p ∙ are k p;
  exponents_are = λ k p. get_or-take count ge k 0 p ∙ are_too k p;
}

pub gathered_stand : (at : ℕ → ℕ) (count : ℕ) (d e gd ge : List ℕ) → AreGathered at count d e gd ge → (k : ℕ) (f : ℕ → ℕ) (n : ℕ)
    → ((i : ℕ) → i < count → StandsAt k (slice_index d (at i)) (slice_index e (at i)) (f (at i)) n) → AllStand k gd ge (λ i. f (at i)) n
gathered_stand at count d e gd ge h k f n a = record {
  each = λ i l.
      let p : i < count = omega (arith, h.long) in
      subst (λ y. StandsAt k y (slice_index ge i) (f (at i)) n) (sym (h.digits_are i p))
      (subst (λ y. StandsAt k (slice_index d (at i)) y (f (at i)) n) (sym (h.exponents_are i p)) (a i p));
}

-- where all cells stand, those that are listed do
pub all_listed : (k : ℕ) (d e : List ℕ) (f : ℕ → ℕ) (n base : ℕ) (offsets : List ℕ) → All (λ c. base + c < length d) offsets → AllStand k d e f n → StandListed k d e f n base offsets
all_listed k d e f n base offsets within a = record {
  listed = All-weaker (λ c. base + c < length d) (λ c. StandsAt k (slice_index d (base + c)) (slice_index e (base + c)) (f (base + c)) n) (λ c l. a.each (base + c) l) offsets within;
}

pub gathered_cells : (at : ℕ → ℕ) (count : ℕ) (d e gd ge : List ℕ) → AreGathered at count d e gd ge → AreCells d e → AreCells gd ge
gathered_cells at count d e gd ge h a = record {
  same_length = h.long_too ∙ sym h.long;
  each = λ i l.
      let p : i < count = omega (arith, h.long) in
      subst (λ y. IsCell y (slice_index ge i)) (sym (h.digits_are i p)) (subst (λ y. IsCell (slice_index d (at i)) y) (sym (h.exponents_are i p)) (a.each (at i) (h.within i p)));
}

-- what stands with room to spare is cells
pub cells_of_room : (k more : ℕ) (d e : List ℕ) → HaveRoom k d e more → AreCells d e
cells_of_room k more d e room =
    let f = room.few_steps in
    all_have_room k d e room.numbers room.steps (let s = room.small_shift in omega (arith, s)) (omega arith) room.same_length room.stand

-- the first cells of two arrays
pub first_stand : (k : ℕ) (d e : List ℕ) (f : ℕ → ℕ) (n count : ℕ) → count ≤ length d → ((i : ℕ) → i < count → StandsAt k (slice_index d i) (slice_index e i) (f i) n) → AllStand k (take count d) (take count e) f n
first_stand k d e f n count l h = record {
  each = λ i m.
      let p : i < count = omega (arith, length-take-le count d l) in
      subst (λ y. StandsAt k y (slice_index (take count e) i) (f i) n) (sym (get_or-take count d i 0 p))
      (subst (λ y. StandsAt k (slice_index d i) y (f i) n) (sym (get_or-take count e i 0 p)) (h i p));
}

pub first_cells : (d e : List ℕ) (count : ℕ) → count ≤ length d → count ≤ length e → ((i : ℕ) → i < count → IsCell (slice_index d i) (slice_index e i)) → AreCells (take count d) (take count e)
first_cells d e count l m h = record {
  same_length = length-take-le count e m ∙ sym (length-take-le count d l);
  each = λ i n.
      let p : i < count = omega (arith, n, length-take-le count d l) in
      subst (λ y. IsCell y (slice_index (take count e) i)) (sym (get_or-take count d i 0 p)) (subst (λ y. IsCell (slice_index d i) y) (sym (get_or-take count e i 0 p)) (h i p));
}

-- one more cell of two arrays that are made one after the other
pub written_next : (S : ℕ → ℕ → ℕ → Type 0) (n q x : ℕ) (d e : List ℕ) → n < length d → n < length e → ((b : ℕ) → b < n → S b (slice_index d b) (slice_index e b)) → S n q x
    → (b : ℕ) → b < n + 1 → S b (slice_index (slice_set d n q) b) (slice_index (slice_set e n x) b)
written_next S n q x d e l m h made b p = at (cases_eq b n)
  where
    at : ((b ≡ n) ⊎ (b ≡ n → ⊥)) → S b (slice_index (slice_set d n q) b) (slice_index (slice_set e n x) b)
    at (inl i) =
        subst (λ j. S j (slice_index (slice_set d n q) j) (slice_index (slice_set e n x) j)) (sym i)
        (subst (λ y. S n y (slice_index (slice_set e n x) n)) (sym (get_or-set_same d n q 0 l)) (subst (λ y. S n q y) (sym (get_or-set_same e n x 0 m)) made))
    at (inr i) =
        subst (λ y. S b y (slice_index (slice_set e n x) b)) (sym (get_or-set_other d n b q 0 i))
        (subst (λ y. S b (slice_index d b) y) (sym (get_or-set_other e n b x 0 i)) (h b (omega (arith, i))))

pub block_few : (xs : List ℕ) (b : ℕ) → length (block_of xs b) ≤ length xs
block_few xs b = let a = length-take 64 (drop (b * 64) xs) in let d = length-drop (b * 64) xs in omega (arith, a, d)

pub block_at_most : (xs : List ℕ) (b : ℕ) → length (block_of xs b) ≤ 64
block_at_most xs b = let a = length-take 64 (drop (b * 64) xs) in omega (arith, a)

pub cut_block : (xs : List ℕ) (start m : ℕ) → m ≡ min 64 (length (take (length xs - start) (drop start xs))) → take m (take (length xs - start) (drop start xs)) ≡ take 64 (drop start xs)
cut_block xs start m f = ap (take m) (take_all (length xs - start) (drop start xs) (omega (arith, length-drop start xs))) ∙ at (cases_lt (length xs - start) 64)
  where
    e : m ≡ min 64 (length xs - start)
    e = let a = length-take (length xs - start) (drop start xs) in let d = length-drop start xs in omega (arith, f, a, d)

    at : ((length xs - start < 64) ⊎ (64 ≤ length xs - start)) → take m (drop start xs) ≡ take 64 (drop start xs)
    at (inl l) = take_all m (drop start xs) (omega (arith, length-drop start xs, e, l)) ∙ sym (take_all 64 (drop start xs) (omega (arith, length-drop start xs, l)))
    at (inr l) = let i : m ≡ 64 = omega (arith, e, l) in ap (λ n. take n (drop start xs)) i
