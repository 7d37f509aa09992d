-- One table of a board is put anew: it stands in one of the five lists, and the others are as they
-- were.
use Rattle.std.proofs.Common.{◌≡◌, ◌≢◌, ℕ, ◌+◌, ◌-◌, ◌*◌, ◌<◌, ◌≤◌, cond, ltb, Bool, ◌⊎◌, inl, inr, List}
use Rattle.std.proofs.Common.{[], ◌∷◌, zero, suc, length, take, drop}
use Rattle.std.proofs.Common.{refl, sym, ap, subst, ◌∙◌, arith, lt-ltb, le-ltb}
use Rattle.std.specs.Prelude.{slice_index_or, slice_set}
use Rattle.std.proofs.Math.Seq.{take-set-lt}
use Rattle.std.proofs.lemmas.Bool.{cases_lt}
use Rattle.std.proofs.lemmas.List.{drop-set-add, drop-set-lt, take-set-le, get_or-take, get_or-drop}
use Rattle.std.proofs.lemmas.List.{length-take-le, length-drop, set-get_or, set-set}
use Rattle.mk_table.specs.Tables.{TableOf}
use Rattle.mk_propagate.specs.Flows.{no_table}
use Rattle.mk_propagate.specs.inner.Boards.{BoardOf, part, board_of, IsBoard, core_place}
use Rattle.mk_propagate.specs.inner.Boards.{product_place}
use Rattle.mk_propagate.specs.inner.Boards.{message_place, table_of, core_of, product_of}
use Rattle.mk_propagate.specs.inner.Boards.{message_of, HasClique}
use Rattle.mk_propagate.specs.inner.Boards.{with_table, with_core, with_product, with_upward}
use Rattle.mk_propagate.specs.inner.Boards.{with_downward, with_message}
use Rattle.mk_propagate.specs.inner.Boards.{Slot, Table, Core, Product, Message, IsPut}
use Rattle.mk_propagate.specs.inner.Boards.{place_of, HasSlot, slot_of, with_slot}

-- ---- parts of a list

part_set : (first count j i : ℕ) (ts : List TableOf) (t : TableOf) → i ≡ first + j → j < count
    → part first count (slice_set ts i t) ≡ slice_set (part first count ts) j t
part_set first count j i ts t e l =
    ap (λ n. part first count (slice_set ts n t)) e ∙ ap (take count) (drop-set-add first ts j t)
    ∙ take-set-lt count (drop first ts) j t l

part_before : (first count i : ℕ) (ts : List TableOf) (t : TableOf) → i < first
    → part first count (slice_set ts i t) ≡ part first count ts
part_before first count i ts t l = ap (take count) (drop-set-lt first ts i t l)

part_after : (first count i : ℕ) (ts : List TableOf) (t : TableOf) → first + count ≤ i
    → part first count (slice_set ts i t) ≡ part first count ts
part_after first count i ts t l =
    let e : i ≡ first + (i - first) = omega arith in
    let m : count ≤ i - first = omega arith in
    ap (λ n. part first count (slice_set ts n t)) e
    ∙ ap (take count) (drop-set-add first ts (i - first) t)
    ∙ take-set-le count (drop first ts) (i - first) t m

pub part_get : (first count j i : ℕ) (ts : List TableOf) → i ≡ first + j → j < count
    → slice_index_or (part first count ts) j no_table ≡ slice_index_or ts i no_table
part_get first count j i ts e l =
    get_or-take count (drop first ts) j no_table l ∙ get_or-drop first ts j no_table
    ∙ ap (λ n. slice_index_or ts n no_table) (sym e)

pub part_length : (first count : ℕ) (ts : List TableOf) → first + count ≤ length ts
    → length (part first count ts) ≡ count
part_length first count ts l =
    let e = length-drop first ts in length-take-le count (drop first ts) (omega (arith, e, l))

-- ---- the five lists of a board

-- boards with the same lists
same_board : (a b : BoardOf) → a.tables ≡ b.tables → a.cores ≡ b.cores → a.products ≡ b.products
    → a.upward ≡ b.upward → a.downward ≡ b.downward → a ≡ b
same_board a b t c p u d =
    let from : List TableOf → List TableOf → List TableOf → List TableOf → List TableOf → BoardOf =
    λ x y z v w. record { tables = x; cores = y; products = z; upward = v; downward = w } in
    ap (λ x. from x a.cores a.products a.upward a.downward) t
    ∙ ap (λ x. from b.tables x a.products a.upward a.downward) c
    ∙ ap (λ x. from b.tables b.cores x a.upward a.downward) p
    ∙ ap (λ x. from b.tables b.cores b.products x a.downward) u
    ∙ ap (λ x. from b.tables b.cores b.products b.upward x) d

-- A table of a board stands at a number of the list: it is read there, and put there.
pub record StandsAt (n i : ℕ) (at : BoardOf → TableOf) (put : BoardOf → TableOf → BoardOf) : Type 0
  where
    pub read : (ts : List TableOf) → at (board_of n ts) ≡ slice_index_or ts i no_table
    pub set : (ts : List TableOf) (t : TableOf)
        → board_of n (slice_set ts i t) ≡ put (board_of n ts) t

module _ (n k : ℕ) (first : 1 ≤ k) (last : k ≤ n) where
  pub table_stands : StandsAt n (k - 1) (λ b. table_of b k) (λ b t. with_table b k t)
  table_stands = record {
    read = λ ts. part_get 0 n (k - 1) (k - 1) ts (omega arith) (omega arith);
    set = λ ts t.
        same_board (board_of n (slice_set ts (k - 1) t)) (with_table (board_of n ts) k t)
        (part_set 0 n (k - 1) (k - 1) ts t (omega arith) (omega arith))
        (part_before n n (k - 1) ts t (omega arith))
        (part_before (2 * n) n (k - 1) ts t (omega arith))
        (part_before (3 * n) (n - 1) (k - 1) ts t (omega arith))
        (part_before (4 * n - 1) (n - 1) (k - 1) ts t (omega arith));
  }

  module _ (i : ℕ) (e : i ≡ core_place n k) where
    pub core_stands : StandsAt n i (λ b. core_of b k) (λ b t. with_core b k t)
    core_stands = record {
      read = λ ts. part_get n n (k - 1) i ts e (omega arith);
      set = λ ts t.
          same_board (board_of n (slice_set ts i t)) (with_core (board_of n ts) k t)
          (part_after 0 n i ts t (omega (arith, e))) (part_set n n (k - 1) i ts t e (omega arith))
          (part_before (2 * n) n i ts t (omega (arith, e)))
          (part_before (3 * n) (n - 1) i ts t (omega (arith, e)))
          (part_before (4 * n - 1) (n - 1) i ts t (omega (arith, e)));
    }

  module _ (i : ℕ) (e : i ≡ product_place n k) where
    pub product_stands : StandsAt n i (λ b. product_of b k) (λ b t. with_product b k t)
    product_stands = record {
      read = λ ts. part_get (2 * n) n (k - 1) i ts e (omega arith);
      set = λ ts t.
          same_board (board_of n (slice_set ts i t)) (with_product (board_of n ts) k t)
          (part_after 0 n i ts t (omega (arith, e))) (part_after n n i ts t (omega (arith, e)))
          (part_set (2 * n) n (k - 1) i ts t e (omega arith))
          (part_before (3 * n) (n - 1) i ts t (omega (arith, e)))
          (part_before (4 * n - 1) (n - 1) i ts t (omega (arith, e)));
    }

-- the message from a to b
module _ (n a b : ℕ) (a_first : 1 ≤ a) (a_last : a ≤ n) (b_first : 1 ≤ b) (b_last : b ≤ n)
    (apart : a ≢ b) (i : ℕ) where
  up_stands : b < a → i ≡ 3 * n + (a - 2)
      → StandsAt n i (λ s. slice_index_or s.upward (a - 2) no_table) (λ s t. with_upward s a t)
  up_stands l e = record {
    read = λ ts. part_get (3 * n) (n - 1) (a - 2) i ts e (omega arith);
    set = λ ts t.
        same_board (board_of n (slice_set ts i t)) (with_upward (board_of n ts) a t)
        (part_after 0 n i ts t (omega (arith, e))) (part_after n n i ts t (omega (arith, e)))
        (part_after (2 * n) n i ts t (omega (arith, e)))
        (part_set (3 * n) (n - 1) (a - 2) i ts t e (omega arith))
        (part_before (4 * n - 1) (n - 1) i ts t (omega (arith, e)));
  }

  down_stands : a < b → i ≡ 4 * n - 1 + (b - 2)
      → StandsAt n i (λ s. slice_index_or s.downward (b - 2) no_table) (λ s t. with_downward s b t)
  down_stands l e = record {
    read = λ ts. part_get (4 * n - 1) (n - 1) (b - 2) i ts e (omega arith);
    set = λ ts t.
        same_board (board_of n (slice_set ts i t)) (with_downward (board_of n ts) b t)
        (part_after 0 n i ts t (omega (arith, e))) (part_after n n i ts t (omega (arith, e)))
        (part_after (2 * n) n i ts t (omega (arith, e)))
        (part_after (3 * n) (n - 1) i ts t (omega (arith, e)))
        (part_set (4 * n - 1) (n - 1) (b - 2) i ts t e (omega arith));
  }

  -- whichever way it leads
  abbrev place_by : Bool → ℕ
  place_by up = cond up (3 * n + (a - 2)) (4 * n - 1 + (b - 2))

  abbrev StandsBy : Bool → Type 0
  StandsBy up =
      StandsAt n i
      (λ s. cond up (slice_index_or s.upward (a - 2) no_table)
      (slice_index_or s.downward (b - 2) no_table))
      (λ s t. cond up (with_upward s a t) (with_downward s b t))

  pub message_stands : i ≡ message_place n a b
      → StandsAt n i (λ s. message_of s a b) (λ s t. with_message s a b t)
  message_stands e = at (cases_lt b a)
    where
      at : ((b < a) ⊎ (a ≤ b)) → StandsBy (ltb b a)
      at (inl l) =
          let c = lt-ltb b a l in subst StandsBy (sym c) (up_stands l (e ∙ ap place_by c))
      at (inr l) =
          let c = le-ltb b a l in
          subst StandsBy (sym c) (down_stands (omega (arith, l, apart)) (e ∙ ap place_by c))

-- ---- a call on one table of a list that is seen as a board

module _ {n : ℕ} {ts : List TableOf} {now : BoardOf} (is : IsBoard n ts) (view : board_of n ts ≡ now)
  where
    last_of : (k : ℕ) → HasClique now k → k ≤ n
    last_of k h =
        let one_each = ap (λ (b : BoardOf). length b.tables) (sym view)
        ∙ part_length 0 n ts (omega (arith, is.long, is.some)) in
        omega (arith, h.last, one_each)

    stands : (slot : Slot) → HasSlot now slot
        → StandsAt n (place_of n slot) (λ b. slot_of b slot) (λ b t. with_slot b slot t)
    stands (Table k) h = table_stands n k h.first (last_of k h)
    stands (Core k) h = core_stands n k h.first (last_of k h) (core_place n k) refl
    stands (Product k) h = product_stands n k h.first (last_of k h) (product_place n k) refl
    stands (Message a b) h =
        message_stands n a b h.one.first (last_of a h.one) h.other.first (last_of b h.other) h.apart
        (message_place n a b) refl

    module _ (slot : Slot) (h : HasSlot now slot) {i : ℕ} (e : i ≡ place_of n slot) where
      read_slot : slot_of now slot ≡ slice_index_or ts i no_table
      read_slot =
          ap (λ (b : BoardOf). slot_of b slot) (sym view) ∙ (stands slot h).read ts
          ∙ ap (λ (j : ℕ). slice_index_or ts j no_table) (sym e)

      -- what is known of the list's table holds of the board's
      pub seen : (P : TableOf → Type 0) → P (slice_index_or ts i no_table) → P (slot_of now slot)
      seen P h = subst P (sym read_slot) h

      -- it is put anew
      pub puts : (new : List TableOf) → new ≡ slice_set ts i (slice_index_or new i no_table)
          → (P : TableOf → TableOf → Type 0)
          → P (slice_index_or ts i no_table) (slice_index_or new i no_table)
          → IsPut P slot now (board_of n new)
      puts new only P made =
          let there : slot_of (board_of n new) slot ≡ slice_index_or new i no_table =
          (stands slot h).read new ∙ ap (λ (j : ℕ). slice_index_or new j no_table) (sym e) in
          record {
            only =
                ap (board_of n) (only ∙ ap (λ (j : ℕ). slice_set ts j (slice_index_or new i no_table)) e)
                ∙ (stands slot h).set ts (slice_index_or new i no_table)
                ∙ ap (λ (b : BoardOf). with_slot b slot (slice_index_or new i no_table)) view
                ∙ ap (with_slot now slot) (sym there);
            made = subst (P (slot_of now slot)) (sym there)
                (seen (λ t. P t (slice_index_or new i no_table)) made);
          }

    -- so too where another table says what it is made of
    pub puts_of : (from : Slot) → HasSlot now from → {j : ℕ} → j ≡ place_of n from → (slot : Slot)
        → HasSlot now slot → {i : ℕ} → i ≡ place_of n slot → (new : List TableOf)
        → new ≡ slice_set ts i (slice_index_or new i no_table)
        → (Q : TableOf → TableOf → TableOf → Type 0)
        → Q (slice_index_or ts j no_table) (slice_index_or ts i no_table)
        (slice_index_or new i no_table) → IsPut (Q (slot_of now from)) slot now (board_of n new)
    puts_of from is_there {j} f slot h e new only Q made =
        seen from is_there f (λ t. IsPut (Q t) slot now (board_of n new))
        (puts slot h e new only (Q (slice_index_or ts j no_table)) made)

-- ---- boards

pub core_same : (b : BoardOf) (k : ℕ) → b ≡ with_core b k (core_of b k)
core_same b k =
    same_board b (with_core b k (core_of b k)) refl (sym (set-get_or b.cores (k - 1) no_table)) refl
    refl refl

pub product_same : (b : BoardOf) (k : ℕ) → b ≡ with_product b k (product_of b k)
product_same b k =
    same_board b (with_product b k (product_of b k)) refl refl
    (sym (set-get_or b.products (k - 1) no_table)) refl refl

-- a product that was put anew is put anew once more
pub product_again : (first between after : BoardOf) (k : ℕ) (t : TableOf)
    → between ≡ with_product first k t → after ≡ with_product between k (product_of after k)
    → after ≡ with_product first k (product_of after k)
product_again first between after k t e f =
    f ∙ ap (λ b. with_product b k (product_of after k)) e
    ∙ same_board (with_product (with_product first k t) k (product_of after k))
    (with_product first k (product_of after k)) refl refl
    (set-set first.products (k - 1) t (product_of after k)) refl refl

-- a table as it is read, whatever stands past the end
pub read_there : (ts : List TableOf) (i : ℕ) → slice_index_or ts i no_table ≡ slice_index_or ts i
    (slice_index_or ts i no_table)
read_there [] i = refl
read_there (t ∷ ts) zero = refl
read_there (t ∷ ts) (suc i) = read_there ts i

-- a table of a board that another was made of, which has the same tables there
pub read_of : (ts new : List TableOf) (i : ℕ) → new ≡ ts
    → slice_index_or new i no_table ≡ slice_index_or ts i (slice_index_or new i no_table)
read_of ts new i e =
    read_there new i ∙ ap (λ (xs : List TableOf). slice_index_or xs i
    (slice_index_or new i no_table)) e

-- what holds of a board with another message, upward or downward
pub sent : (P : BoardOf → Type 0) (board : BoardOf) (a b : ℕ) (t : TableOf)
    → (b < a → P (with_upward board a t)) → (a ≤ b → P (with_downward board b t))
    → P (with_message board a b t)
sent P board a b t up down = at (cases_lt b a)
  where
    at : ((b < a) ⊎ (a ≤ b)) → P (with_message board a b t)
    at (inl l) =
        subst P
        (sym (ap (λ x. cond x (with_upward board a t) (with_downward board b t)) (lt-ltb b a l)))
        (up l)
    at (inr l) =
        subst P
        (sym (ap (λ x. cond x (with_upward board a t) (with_downward board b t)) (le-ltb b a l)))
        (down l)

module _ (board : BoardOf) (a b : ℕ) where
  abbrev above : TableOf
  above = slice_index_or board.upward (a - 2) no_table

  abbrev below : TableOf
  below = slice_index_or board.downward (b - 2) no_table

  pub message_upward : b < a → message_of board a b ≡ above
  message_upward l = ap (λ x. cond x above below) (lt-ltb b a l)

  pub message_downward : a ≤ b → message_of board a b ≡ below
  message_downward l = ap (λ x. cond x above below) (le-ltb b a l)

  pub read_upward : b < a → message_of board a b ≡ slice_index_or board.upward (a - 2)
      (message_of board a b)
  read_upward l =
      let e = message_upward l in
      e ∙ read_there board.upward (a - 2) ∙ ap (λ t. slice_index_or board.upward (a - 2) t) (sym e)

  pub read_downward : a ≤ b → message_of board a b ≡ slice_index_or board.downward (b - 2)
      (message_of board a b)
  read_downward l =
      let e = message_downward l in
      e ∙ read_there board.downward (b - 2) ∙ ap (λ t. slice_index_or board.downward (b - 2) t) (sym e)
