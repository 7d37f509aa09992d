-- The plus of products: each chosen cell of a table times the cell of another that has its values.
use Rattle.std.proofs.Common.{◌≡◌, ℕ, ◌+◌, ◌*◌, ◌<◌, ◌≤◌, List, [], ◌∷◌, length, get_or, take, drop, slice_index, All, refl, sym, ap, subst, ◌∙◌, arith, zero-add, ◌-◌}
use Rattle.std.proofs.Math.Nat.{mul_comm}
use Rattle.std.proofs.lemmas.List.{take-map, drop-map}
use Rattle.mk_states.specs.Lawful.{Lawful}
use Rattle.mk_states.specs.States.{plus_over}
use Rattle.mk_states.proofs.Sums.{plus_over-map}
use Rattle.mk_cell.specs.Passes.{plus_below}
use Rattle.mk_cell.specs.Cell.{IsCell, StandsAt, AllStand}
use Rattle.mk_cell.specs.inner.Laws.{stands_with_more, has_room}
use Rattle.std.proofs.lemmas.List.Elements.{All-map}
use Rattle.mk_passes.specs.Blank.{one_digits, one_exponent, filled}
use Rattle.mk_passes.specs.Parts.{StandPairs, StandListed, MakesPlusOfPairs, HaveRoom, block_of}
use Rattle.mk_scope.specs.Runs.{cells_at}
use Rattle.mk_passes.proofs.Blocked.{AreGathered, block_within, gathered_all}
use Rattle.mk_passes.proofs.Filled.{one_at, filled_full}
use Rattle.mk_passes.proofs.OnesSum.{times_one}
use Rattle.mk_scope.proofs.Reached.{All_unmap}

-- ---- what is gathered

-- by the places of a list
pub gathered_each : (at : ℕ → ℕ) (count : ℕ) (d e gd ge : List ℕ) → AreGathered at count d e gd ge → (k : ℕ) (v : ℕ → ℕ) (n : ℕ)
    → ((i : ℕ) → i < count → StandsAt k (slice_index d (at i)) (slice_index e (at i)) (v i) n) → AllStand k gd ge v n
gathered_each at count d e gd ge h k v n a = record {
  each = λ i l.
      let p : i < count = omega (arith, h.long, l) in
      subst (λ y. StandsAt k y (slice_index ge i) (v i) n) (sym (h.digits_are i p)) (subst (λ y. StandsAt k (slice_index d (at i)) y (v i) n) (sym (h.exponents_are i p)) (a i p));
}

-- ---- cells that lie so far from a base

-- so far from the first
pub cells_zero : (xs : List ℕ) → cells_at 0 xs ≡ xs
cells_zero [] = refl
cells_zero (x ∷ xs) = ap (λ y. y ∷ cells_at 0 xs) (zero-add x) ∙ ap (λ (ys : List ℕ). x ∷ ys) (cells_zero xs)

pub gathered_at : (plus : ℕ → ℕ → ℕ) → Lawful plus → (f : ℕ → ℕ) (base : ℕ) (xs : List ℕ) → plus_below plus (length xs) (λ k. f (base + slice_index xs k)) ≡ plus_over plus 0 f (cells_at base xs)
gathered_at plus law f base xs = gathered_all plus law (λ c. f (base + c)) xs ∙ sym (plus_over-map plus 0 f (λ c. base + c) xs)

pub block_at : (base : ℕ) (xs : List ℕ) (b : ℕ) (ys : List ℕ) → ys ≡ block_of xs b → cells_at base ys ≡ block_of (cells_at base xs) b
block_at base xs b ys e =
    ap (cells_at base) e ∙ sym (take-map (λ c. base + c) 64 (drop (b * 64) xs)) ∙ ap (take 64) (sym (drop-map (λ c. base + c) (b * 64) xs))

-- ---- cells of 1

-- a table's cell times the cell of 1
pub times_one_stands : (j k d e q x v w n p : ℕ) → q ≡ one_digits → x ≡ one_exponent → StandsAt j d e v n → StandsAt k q x w p → StandsAt (j + k) d e (v * w) (n + p + 1)
times_one_stands j k d e q x v w n p h i s t =
    ((times_one d e s.form).times k w p (subst (λ y. StandsAt k y one_exponent w p) h (subst (λ y. StandsAt k q y w p) i t))).stands j v n s

pub one_times_stands : (j k d e q x v w n p : ℕ) → d ≡ one_digits → e ≡ one_exponent → StandsAt j d e v n → StandsAt k q x w p → StandsAt (j + k) q x (v * w) (n + p + 1)
one_times_stands j k d e q x v w n p h i s t =
    let shift : k + j ≡ j + k = omega arith in
    let steps : p + n + 1 ≡ n + p + 1 = omega arith in
    subst (λ y. StandsAt y q x (v * w) (n + p + 1)) shift (subst (λ y. StandsAt (k + j) q x y (n + p + 1)) (mul_comm w v)
    (subst (λ y. StandsAt (k + j) q x (w * v) y) steps (times_one_stands k j q x d e w v p n h i t s)))

-- of a blank table the other's cells stand for the products
pub blank_pairs : (count : ℕ) (d e md me chosen : List ℕ) (onto : ℕ → ℕ) → length d ≡ 0 → length e ≡ 0 → All (λ c. c < count) chosen → (j k : ℕ) (f g : ℕ → ℕ) (n p : ℕ)
    → StandPairs j k (filled one_digits count d) (filled one_exponent count e) md me onto f g n p chosen
    → All (λ c. StandsAt (j + k) (slice_index md (onto c)) (slice_index me (onto c)) (f c * g c) (n + p + 1)) chosen
blank_pairs count d e md me chosen onto h t within j k f g n p pairs = λ i z l.
    let c = get_or chosen i z in
    one_times_stands j k (slice_index (filled one_digits count d) c) (slice_index (filled one_exponent count e) c) (slice_index md (onto c)) (slice_index me (onto c)) (f c) (g c) n p
    (one_at one_digits count c d h (within i z l)) (one_at one_exponent count c e t (within i z l)) (pairs.left i z l) (pairs.right i z l)

pub others_made : (plus : ℕ → ℕ → ℕ) (count : ℕ) (d e md me : List ℕ) (onto : ℕ → ℕ) (base : ℕ) (xs : List ℕ) → length d ≡ 0 → length e ≡ 0 → All (λ c. base + c < count) xs → (q x : ℕ)
    → ((k : ℕ) (f : ℕ → ℕ) (n : ℕ) → All (λ c. StandsAt k (slice_index md (onto c)) (slice_index me (onto c)) (f c) n) (cells_at base xs) → StandsAt k q x (plus_over plus 0 f (cells_at base xs)) (n + length xs))
    → MakesPlusOfPairs plus (filled one_digits count d) (filled one_exponent count e) md me onto (cells_at base xs) (2 * length xs + 1) q x
others_made plus count d e md me onto base xs h t within q x made = λ j k f g n p pairs.
    let product : ℕ → ℕ = λ c. f c * g c in
    stands_with_more (j + k) q x (plus_over plus 0 product (cells_at base xs)) (n + p + 1 + length xs) (n + p + (2 * length xs + 1)) (omega arith)
    (made (j + k) product (n + p + 1) (blank_pairs count d e md me (cells_at base xs) onto h t (All-map (λ c. c < count) (λ c. base + c) xs within) j k f g n p pairs))

-- and of a blank message the table's own
pub blank_products : (d e md me chosen : List ℕ) (onto : ℕ → ℕ) (count : ℕ) (xs ys : List ℕ) → md ≡ filled one_digits count xs → me ≡ filled one_exponent count ys → length xs ≡ 0 → length ys ≡ 0
    → All (λ c. onto c < count) chosen → (j k : ℕ) (f g : ℕ → ℕ) (n p : ℕ)
    → StandPairs j k d e md me onto f g n p chosen → All (λ c. StandsAt (j + k) (slice_index d c) (slice_index e c) (f c * g c) (n + p + 1)) chosen
blank_products d e md me chosen onto count xs ys a b h t within j k f g n p pairs = λ i z l.
    let c = get_or chosen i z in
    times_one_stands j k (slice_index d c) (slice_index e c) (slice_index md (onto c)) (slice_index me (onto c)) (f c) (g c) n p
    (ap (λ (zs : List ℕ). slice_index zs (onto c)) a ∙ one_at one_digits count (onto c) xs h (within i z l)) (ap (λ (zs : List ℕ). slice_index zs (onto c)) b ∙ one_at one_exponent count (onto c) ys t (within i z l))
    (pairs.left i z l) (pairs.right i z l)

pub blank_others : (d e md me chosen : List ℕ) (onto : ℕ → ℕ) (count : ℕ) (xs ys : List ℕ) → md ≡ filled one_digits count xs → me ≡ filled one_exponent count ys → length xs ≡ 0 → length ys ≡ 0
    → All (λ c. onto c < count) chosen → (j k : ℕ) (f g : ℕ → ℕ) (n p : ℕ)
    → StandPairs j k d e md me onto f g n p chosen → StandListed (j + k) d e (λ c. f c * g c) (n + p + 1) 0 chosen
blank_others d e md me chosen onto count xs ys a b h t within j k f g n p pairs = record {
  listed = λ i z l.
      let moved : get_or chosen i z ≡ 0 + get_or chosen i z = omega arith in
      subst (λ y. StandsAt (j + k) (slice_index d y) (slice_index e y) (f y * g y) (n + p + 1)) moved
      (blank_products d e md me chosen onto count xs ys a b h t within j k f g n p pairs i z l);
}

-- ---- some of the pairs

pub made_of_full : (plus : ℕ → ℕ → ℕ) (count : ℕ) (d e md me : List ℕ) (onto : ℕ → ℕ) (chosen : List ℕ) (more q x : ℕ) → count ≤ length d → count ≤ length e
    → MakesPlusOfPairs plus d e md me onto chosen more q x → MakesPlusOfPairs plus (filled one_digits count d) (filled one_exponent count e) md me onto chosen more q x
made_of_full plus count d e md me onto chosen more q x l m made =
    subst (λ (ys : List ℕ). MakesPlusOfPairs plus ys (filled one_exponent count e) md me onto chosen more q x) (sym (filled_full one_digits count d l))
    (subst (λ (ys : List ℕ). MakesPlusOfPairs plus d ys md me onto chosen more q x) (sym (filled_full one_exponent count e m)) made)

-- the pairs of equal arrays and lists
pairs_moved : (d e md me d' e' md' me' : List ℕ) (onto goes : ℕ → ℕ) (xs ys : List ℕ) → d' ≡ d → e' ≡ e → md' ≡ md → me' ≡ me → xs ≡ ys → All (λ c. onto c ≡ goes c) ys
    → (j k : ℕ) (f g : ℕ → ℕ) (n p : ℕ) → StandPairs j k d e md me goes f g n p ys → StandPairs j k d' e' md' me' onto f g n p xs
pairs_moved d e md me d' e' md' me' onto goes xs ys di ei mdi mei xi onto_is j k f g n p h =
    subst (λ (zs : List ℕ). StandPairs j k zs e' md' me' onto f g n p xs) (sym di)
    (subst (λ (zs : List ℕ). StandPairs j k d zs md' me' onto f g n p xs) (sym ei)
    (subst (λ (zs : List ℕ). StandPairs j k d e zs me' onto f g n p xs) (sym mdi)
    (subst (λ (zs : List ℕ). StandPairs j k d e md zs onto f g n p xs) (sym mei)
    (subst (λ (zs : List ℕ). StandPairs j k d e md me onto f g n p zs) (sym xi) (record {
      left = h.left;
      right = λ i z l. subst (λ y. StandsAt k (slice_index md y) (slice_index me y) (g (get_or ys i z)) p) (sym (onto_is i z l)) (h.right i z l);
    })))))

-- by the arrays and the lists that the code reads
pub full_made : (plus : ℕ → ℕ → ℕ) (d e md me : List ℕ) (goes : ℕ → ℕ) (base : ℕ) (offsets chosen : List ℕ) → cells_at base offsets ≡ chosen → (count : ℕ) → length offsets ≡ count → (q x : ℕ)
    → (d' e' md' me' onto : List ℕ) → d' ≡ d → e' ≡ e → md' ≡ md → me' ≡ me → All (λ c. slice_index onto c ≡ goes c) chosen
    → MakesPlusOfPairs plus d' e' md' me' (slice_index onto) (cells_at base offsets) (2 * length offsets + 1) q x → MakesPlusOfPairs plus d e md me goes chosen (2 * count + 1) q x
full_made plus d e md me goes base offsets chosen listed count long q x d' e' md' me' onto di ei mdi mei onto_is made = λ j k f g n p pairs.
    let product : ℕ → ℕ = λ c. f c * g c in
    subst (λ m. StandsAt (j + k) q x (plus_over plus 0 product chosen) (n + p + (2 * m + 1))) long
    (subst (λ (zs : List ℕ). StandsAt (j + k) q x (plus_over plus 0 product zs) (n + p + (2 * length offsets + 1))) listed
    (made j k f g n p (pairs_moved d e md me d' e' md' me' (slice_index onto) goes (cells_at base offsets) chosen di ei mdi mei listed onto_is j k f g n p pairs)))

-- the pairs of a block
pub block_pairs : (d e md me xs : List ℕ) (onto : ℕ → ℕ) (b j k : ℕ) (f g : ℕ → ℕ) (n p : ℕ) → StandPairs j k d e md me onto f g n p xs → StandPairs j k d e md me onto f g n p (block_of xs b)
block_pairs d e md me xs onto b j k f g n p h = record {
  left = block_within (λ c. StandsAt j (slice_index d c) (slice_index e c) (f c) n) xs b h.left;
  right = block_within (λ c. StandsAt k (slice_index md (onto c)) (slice_index me (onto c)) (g c) p) xs b h.right;
}

-- of chosen pairs a cell stands for the plus of those that are listed
abbrev pub MakesPairs : (ℕ → ℕ → ℕ) → List ℕ → List ℕ → List ℕ → List ℕ → List ℕ → List ℕ → List ℕ → ℕ → ℕ → Type 0
MakesPairs plus digits exponents onto other_digits other_exponents chosen listed q x =
    (j k : ℕ) (f g : ℕ → ℕ) (n p : ℕ)
    → StandPairs j k (filled one_digits (length onto) digits) (filled one_exponent (length onto) exponents) other_digits other_exponents (slice_index onto) f g n p chosen
    → StandsAt (j + k) q x (plus_over plus 0 (λ c. f c * g c) listed) (n + p + 129)

-- with room on both sides, what pairs there are
pub room_pairs : (d e md me xs : List ℕ) (onto : ℕ → ℕ) (j k more others : ℕ) → (r : HaveRoom j d e more) → (s : HaveRoom k md me others) → All (λ c. c < length d) xs → All (λ c. onto c < length md) xs
    → StandPairs j k d e md me onto r.numbers (λ c. s.numbers (onto c)) r.steps s.steps xs
room_pairs d e md me xs onto j k more others r s within there = record {
  left = λ i z l. r.stand.each (get_or xs i z) (within i z l);
  right = λ i z l. s.stand.each (onto (get_or xs i z)) (there i z l);
}

pub onto_there : (xs onto : List ℕ) (count : ℕ) → All (λ d. d < count) onto → All (λ c. c < length onto) xs → All (λ c. slice_index onto c < count) xs
onto_there xs onto count h within = λ i z l. h (get_or xs i z) 0 (within i z l)

-- what a block's pairs make is a cell
pub made_cell : (d e md me : List ℕ) (j k more : ℕ) → 130 ≤ more → (r : HaveRoom j d e more) → (s : HaveRoom k md me 1) → (q x v : ℕ) → StandsAt (j + k) q x v (r.steps + s.steps + 129) → IsCell q x
made_cell d e md me j k more many r s q x v h =
    let a = r.few_steps in let b = s.few_steps in let y = r.small_shift in let z = s.small_shift in
    has_room (j + k) q x v (r.steps + s.steps + 129) (omega (arith, y, z)) (omega (arith, a, b, many)) h

module _ (plus : ℕ → ℕ → ℕ) (d e md me : List ℕ) (goes : ℕ → ℕ) (base : ℕ) (offsets onto : List ℕ) (onto_is : cells_at base offsets ≡ onto) (beside : ℕ) (long : length offsets ≡ beside) (q x : ℕ) where
  pub blank_made : (count : ℕ) (xs ys : List ℕ) → md ≡ filled one_digits count xs → me ≡ filled one_exponent count ys → length xs ≡ 0 → length ys ≡ 0 → All (λ c. goes c < count) onto
      → ((k : ℕ) (f : ℕ → ℕ) (n : ℕ) → StandListed k d e f n base offsets → StandsAt k q x (plus_over plus 0 (λ c. f (base + c)) offsets) (n + (2 * length offsets - 1)))
      → MakesPlusOfPairs plus d e md me goes onto (2 * beside + 1) q x
  blank_made count xs ys a b h t within made = λ j k f g n p pairs.
      let product : ℕ → ℕ = λ c. f c * g c in
      let all = blank_products d e md me onto goes count xs ys a b h t within j k f g n p pairs in
      let P : ℕ → Type 0 = λ c. StandsAt (j + k) (slice_index d c) (slice_index e c) (product c) (n + p + 1) in
      let listed : StandListed (j + k) d e product (n + p + 1) base offsets = record { listed = All_unmap P (λ c. base + c) offsets (subst (λ (zs : List ℕ). All P zs) (sym onto_is) all) } in
      let same : plus_over plus 0 (λ c. product (base + c)) offsets ≡ plus_over plus 0 product onto = sym (plus_over-map plus 0 product (λ c. base + c) offsets) ∙ ap (plus_over plus 0 product) onto_is in
      stands_with_more (j + k) q x (plus_over plus 0 product onto) (n + p + 1 + (2 * length offsets - 1)) (n + p + (2 * beside + 1)) (omega (arith, long))
      (subst (λ v. StandsAt (j + k) q x v (n + p + 1 + (2 * length offsets - 1))) same (made (j + k) product (n + p + 1) listed))
