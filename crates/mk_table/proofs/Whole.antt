-- What the calls of a table do to the numbers that its cells stand for.
use Rattle.std.proofs.Common.{◌≡◌, ℕ, ◌+◌, ◌-◌, ◌*◌, ◌/◌, ◌^◌, ◌<◌, ◌≤◌, Bool, true, cond, ◌==◌, List, length, slice_index, All, sym, ap, subst, ◌∙◌, arith, zero-add}
use Rattle.std.proofs.Math.Path.{fun_ext}
use Rattle.std.specs.Prelude.{Vec, Option, Some, vec_len}
use Rattle.std.specs.Vec.{with_items}
use Rattle.std.proofs.lemmas.Bool.{eqb-true}
use Rattle.std.proofs.lemmas.List.Elements.{All-weaker}
use Rattle.mk_net.specs.declared.words.Pair.{Pair}
use Rattle.mk_net.specs.Asked.{TradeRatio}
use Rattle.mk_states.specs.Lawful.{Lawful}
use Rattle.mk_states.specs.States.{plus_over}
use Rattle.mk_states.specs.Ratios.{units_of}
use Rattle.mk_sums.specs.There.{holds_there, ratio_there}
use Rattle.mk_cell.specs.Cell.{AllStand, StandsAt, IsOwnAt}
use Rattle.mk_cell.specs.inner.Laws.{stands_with_more}
use Rattle.mk_scope.specs.Scopes.{ScopeOf, LiesIn, cells_in}
use Rattle.mk_scope.specs.Cells.{values_at, cell_in, cells_where}
use Rattle.mk_table.specs.Tables.{TableOf, HasNumbers, HasRoom, touches, is_untouched_by}
use Rattle.mk_passes.specs.Parts.{IsFull, HaveRoom, IsTimes, IsTimesCell, IsChanged, IsRestricted, StandListed}
use Rattle.mk_scope.specs.Runs.{IsAmong}
use Rattle.mk_table.specs.inner.Numbers.{AreNumbers}
use Rattle.mk_passes.specs.Blank.{one_digits, one_exponent, filled}
use Rattle.mk_table.specs.inner.Touched.{HasTouched, IsEither, IsBeside}
use Rattle.mk_scope.proofs.Kept.{cell_within}
use Rattle.mk_passes.proofs.Filled.{held_items}
use Rattle.mk_table.proofs.Untouched.{touched_in, untouched_there, false_before}
use Rattle.mk_table.proofs.Owned.{rows_are, some_are, cells_are, kept_are, own_over}
use Rattle.mk_scope.proofs.Chosen.{among_chosen, none_among, chosen_pass}

-- a table's parts, as a call takes them
pub record AreParts (t : TableOf) (scope : ScopeOf) (shift : ℕ) (digits exponents : List ℕ) : Type 0 where
  pub scope_is : scope ≡ t.scope
  pub shift_is : shift ≡ t.shift
  pub digits_are : digits ≡ t.digits
  pub exponents_are : exponents ≡ t.exponents
  pub full : IsFull t.scope t.digits t.exponents
  pub there : HasTouched t.scope t.touched

-- the parts of a table whose view is v, as its code reads them
pub parts_of : (v t : TableOf) (scope : ScopeOf) (digits exponents : List ℕ) → v ≡ t → IsFull v.scope v.digits v.exponents → HasTouched v.scope v.touched
    → scope ≡ v.scope → digits ≡ v.digits → exponents ≡ v.exponents → AreParts t scope v.shift digits exponents
parts_of v t scope digits exponents e full there s d x = record {
  scope_is = s ∙ ap (λ (u : TableOf). u.scope) e;
  shift_is = ap (λ (u : TableOf). u.shift) e;
  digits_are = d ∙ ap (λ (u : TableOf). u.digits) e;
  exponents_are = x ∙ ap (λ (u : TableOf). u.exponents) e;
  full = subst (λ (u : TableOf). IsFull u.scope u.digits u.exponents) e full;
  there = subst (λ (u : TableOf). HasTouched u.scope u.touched) e there;
}

-- what ratios may have touched, cell by cell
abbrev pub touched_cells : Option (List Pair) → ScopeOf → ℕ → Bool
touched_cells touched scope c = touches touched (values_at scope c)

module _ (t : TableOf) (scope : ScopeOf) (shift : ℕ) (od oe : List ℕ) (are : AreParts t scope shift od oe) where
  pub parts_numbers : (f : ℕ → ℕ) (n : ℕ) → HasNumbers t f n → AreNumbers (touched_cells t.touched scope) shift od oe f n
  parts_numbers f n h =
      subst (λ (s : ScopeOf). AreNumbers (touched_cells t.touched s) shift od oe f n) (sym are.scope_is)
      (subst (λ k. AreNumbers (touched_cells t.touched t.scope) k od oe f n) (sym are.shift_is)
      (subst (λ (ys : List ℕ). AreNumbers (touched_cells t.touched t.scope) t.shift ys oe f n) (sym are.digits_are)
      (subst (λ (ys : List ℕ). AreNumbers (touched_cells t.touched t.scope) t.shift t.digits ys f n) (sym are.exponents_are) (record { stand = h.stand; own = h.own }))))

  pub parts_full : IsFull scope od oe
  parts_full =
      subst (λ (s : ScopeOf). IsFull s od oe) (sym are.scope_is) (subst (λ (ys : List ℕ). IsFull t.scope ys oe) (sym are.digits_are) (subst (λ (ys : List ℕ). IsFull t.scope t.digits ys) (sym are.exponents_are) are.full))

  pub parts_room : (most more : ℕ) → HasRoom t most → more ≤ most → (k : ℕ) × HaveRoom k od oe more
  parts_room most more r l = (
    t.shift,
    record {
      same_length = let f = parts_full in f.as_many_exponents ∙ sym f.as_many_digits;
      numbers = r.numbers;
      steps = r.steps;
      stand = subst (λ (ys : List ℕ). AllStand t.shift ys oe r.numbers r.steps) (sym are.digits_are) (subst (λ (ys : List ℕ). AllStand t.shift t.digits ys r.numbers r.steps) (sym are.exponents_are) r.has.stand);
      few_steps = let h = r.few_steps in omega (arith, h, l);
      small_shift = r.small_shift;
    },
  )

  pub parts_there : HasTouched scope t.touched
  parts_there = subst (λ (s : ScopeOf). HasTouched s t.touched) (sym are.scope_is) are.there

  pub rows_numbers : (share : ScopeOf → ℕ → ℕ) (nd ne : List ℕ) → IsChanged (λ c d e x y. IsTimes d e 0 (share scope c) 0 x y) (λ c. c < cells_in scope) od oe nd ne
      → (f : ℕ → ℕ) (n : ℕ) → HasNumbers t f n → AreNumbers (touched_cells t.touched t.scope) shift nd ne (λ c. f c * share t.scope c) (n + 1)
  rows_numbers share nd ne h f n has =
      let z : shift + 0 ≡ shift = omega arith in
      let full = parts_full in
      subst (λ (s : ScopeOf). AreNumbers (touched_cells t.touched s) shift nd ne (λ c. f c * share s c) (n + 1)) are.scope_is
      (subst (λ k. AreNumbers (touched_cells t.touched scope) k nd ne (λ c. f c * share scope c) (n + 1)) z
      (rows_are (touched_cells t.touched scope) (share scope) od oe nd ne (cells_in scope) full.as_many_digits h shift f n (parts_numbers f n has)))

  pub ratio_numbers : (ratio : TradeRatio) (chosen nd ne : List ℕ) (touched : Option (List Pair)) → chosen ≡ cells_where scope ratio.condition
      → IsChanged (λ c d e x y. IsTimes d e 40 (units_of ratio (values_at scope c ratio.variable)) 0 x y) (IsAmong chosen (length chosen)) od oe nd ne
      → IsEither t.touched (Some ratio.condition) touched
      → (f : ℕ → ℕ) (n : ℕ) → HasNumbers t f n → AreNumbers (touched_cells touched t.scope) (shift + 40) nd ne (λ c. f c * ratio_there ratio (values_at t.scope c)) (n + 1)
  ratio_numbers ratio chosen nd ne touched e h either f n has =
      let full = parts_full in
      subst (λ (s : ScopeOf). AreNumbers (touched_cells touched s) (shift + 40) nd ne (λ c. f c * ratio_there ratio (values_at s c)) (n + 1)) are.scope_is
      (some_are (touched_cells t.touched scope) (touched_cells touched scope) passes (λ c. units_of ratio (values_at scope c ratio.variable)) (IsAmong chosen (length chosen)) od oe nd ne
      (λ c l o. (false_before (touched_cells t.touched scope c) (touched_cells touched scope c) (either.of_first (values_at scope c)) o, false_before (passes c) (touched_cells touched scope c) (either.of_second (values_at scope c)) o))
      (λ c l p. subst (λ (ys : List ℕ). IsAmong ys (length ys) c) (sym e) (among_chosen passes (cells_in scope) c (omega (arith, l, full.as_many_digits)) p))
      (λ c p k. none_among passes (cells_in scope) c p (subst (λ (ys : List ℕ). IsAmong ys (length ys) c) e k))
      h shift f n (parts_numbers f n has))
    where
      passes : ℕ → Bool
      passes c = holds_there ratio.condition (values_at scope c)

  pub kept_numbers : (pair : Pair) (nd ne : List ℕ) (touched : Option (List Pair)) → IsChanged (λ c d e x y. IsRestricted (values_at scope c pair.variable == pair.value) d e x y) (λ c. c < cells_in scope) od oe nd ne
      → IsBeside pair t.touched touched
      → (f : ℕ → ℕ) (n : ℕ) → HasNumbers t f n → AreNumbers (touched_cells touched t.scope) shift nd ne (λ c. cond (values_at t.scope c pair.variable == pair.value) (f c) 0) n
  kept_numbers pair nd ne touched h beside f n has =
      let full = parts_full in
      subst (λ (s : ScopeOf). AreNumbers (touched_cells touched s) shift nd ne (λ c. cond (values_at s c pair.variable == pair.value) (f c) 0) n) are.scope_is
      (kept_are (touched_cells t.touched scope) (touched_cells touched scope) (λ c. values_at scope c pair.variable == pair.value) od oe nd ne (cells_in scope) full.as_many_digits
      (λ c l k o. false_before (touched_cells t.touched scope c) (touched_cells touched scope c) (beside.holds (values_at scope c) (eqb-true (values_at scope c pair.variable) pair.value k)) o)
      h shift f n (parts_numbers f n has))

  pub message_numbers : (m : TableOf) (part : ScopeOf) (k : ℕ) (md me : List ℕ) → AreParts m part k md me → (nd ne : List ℕ) (touched : Option (List Pair)) → LiesIn m.scope t.scope
      → IsChanged (λ c d e x y. IsTimesCell d e (slice_index md (cell_in part scope c)) (slice_index me (cell_in part scope c)) x y) (λ c. c < cells_in scope) od oe nd ne
      → IsEither t.touched m.touched touched
      → (f g : ℕ → ℕ) (n p : ℕ) → HasNumbers t f n → HasNumbers m g p → AreNumbers (touched_cells touched t.scope) (shift + k) nd ne (λ c. f c * g (cell_in m.scope t.scope c)) (n + p + 1)
  message_numbers m part k md me others nd ne touched lies h either f g n p has other =
      let full = parts_full in
      subst (λ (s : ScopeOf). AreNumbers (touched_cells touched s) (shift + k) nd ne (λ c. f c * g (cell_in m.scope s c)) (n + p + 1)) are.scope_is
      (subst (λ (s : ScopeOf). AreNumbers (touched_cells touched scope) (shift + k) nd ne (λ c. f c * g (cell_in s scope c)) (n + p + 1)) others.scope_is
      (cells_are (touched_cells t.touched scope) (touched_cells touched scope) (touched_cells m.touched part) (λ c. cell_in part scope c) md me od oe nd ne (cells_in scope) full.as_many_digits
      (λ c l. omega (arith, other_full.as_many_digits, cell_within part scope lies_too c l))
      (λ c l o. (
        false_before (touched_cells t.touched scope c) (touched_cells touched scope c) (either.of_first (values_at scope c)) o,
        touched_in part scope m.touched lies_too other_there c l ∙ false_before (touched_cells m.touched scope c) (touched_cells touched scope c) (either.of_second (values_at scope c)) o,
      ))
      h shift k f g n p (parts_numbers f n has) message))
    where
      lies_too : LiesIn part scope
      lies_too = subst (λ (s : ScopeOf). LiesIn s scope) (sym others.scope_is) (subst (λ (s : ScopeOf). LiesIn m.scope s) (sym are.scope_is) lies)

      other_there : HasTouched part m.touched
      other_there = subst (λ (s : ScopeOf). HasTouched s m.touched) (sym others.scope_is) others.there

      other_full : IsFull part md me
      other_full =
          subst (λ (s : ScopeOf). IsFull s md me) (sym others.scope_is) (subst (λ (ys : List ℕ). IsFull m.scope ys me) (sym others.digits_are) (subst (λ (ys : List ℕ). IsFull m.scope m.digits ys) (sym others.exponents_are) others.full))

      message : AreNumbers (touched_cells m.touched part) k md me g p
      message =
          subst (λ (s : ScopeOf). AreNumbers (touched_cells m.touched s) k md me g p) (sym others.scope_is)
          (subst (λ j. AreNumbers (touched_cells m.touched m.scope) j md me g p) (sym others.shift_is)
          (subst (λ (ys : List ℕ). AreNumbers (touched_cells m.touched m.scope) m.shift ys me g p) (sym others.digits_are)
          (subst (λ (ys : List ℕ). AreNumbers (touched_cells m.touched m.scope) m.shift m.digits ys g p) (sym others.exponents_are) (record { stand = other.stand; own = other.own }))))

-- each cell is a message's cell
pub put_numbers : (m : TableOf) (part : ScopeOf) (k : ℕ) (md me : List ℕ) → AreParts m part k md me → (s scope : ScopeOf) → scope ≡ s → LiesIn m.scope s → (nd ne : List ℕ) → length nd ≡ cells_in scope
    → ((c : ℕ) → c < cells_in scope → slice_index nd c ≡ slice_index md (cell_in part scope c)) → ((c : ℕ) → c < cells_in scope → slice_index ne c ≡ slice_index me (cell_in part scope c))
    → (g : ℕ → ℕ) (p : ℕ) → HasNumbers m g p → AreNumbers (touched_cells m.touched s) k nd ne (λ c. g (cell_in m.scope s c)) p
put_numbers m part k md me others s scope same lies nd ne long digits_are exponents_are g p has =
    subst (λ (t : ScopeOf). AreNumbers (touched_cells m.touched t) k nd ne (λ c. g (cell_in m.scope t c)) p) same
    (subst (λ (t : ScopeOf). AreNumbers (touched_cells m.touched scope) k nd ne (λ c. g (cell_in t scope c)) p) others.scope_is
    (record {
      stand = record {
        each = λ c l.
            let i : c < cells_in scope = omega (arith, l, long) in let d = cell_in part scope c in
            subst (λ y. StandsAt k y (slice_index ne c) (g d) p) (sym (digits_are c i)) (subst (λ y. StandsAt k (slice_index md d) y (g d) p) (sym (exponents_are c i)) (message.stand.each d (within c i)));
      };
      own = λ c l t.
          let i : c < cells_in scope = omega (arith, l, long) in let d = cell_in part scope c in
          subst (λ y. IsOwnAt k y (slice_index ne c) (g d) p) (sym (digits_are c i))
          (subst (λ y. IsOwnAt k (slice_index md d) y (g d) p) (sym (exponents_are c i)) (message.own d (within c i) (touched_in part scope m.touched lies_too (parts_there m part k md me others) c i ∙ t)));
    }))
  where
    lies_too : LiesIn part scope
    lies_too = subst (λ (t : ScopeOf). LiesIn t scope) (sym others.scope_is) (subst (λ (t : ScopeOf). LiesIn m.scope t) (sym same) lies)

    message : AreNumbers (touched_cells m.touched part) k md me g p
    message = parts_numbers m part k md me others g p has

    within : (c : ℕ) → c < cells_in scope → cell_in part scope c < length md
    within c l = let full = parts_full m part k md me others in omega (arith, full.as_many_digits, cell_within part scope lies_too c l)

-- each of two arrays' cells is the plus of the cells that lie so far from its base
abbrev pub ArePluses : (ℕ → ℕ → ℕ) → List ℕ → List ℕ → List ℕ → List ℕ → List ℕ → List ℕ → Type 0
ArePluses plus bases offsets od oe nd ne =
    (b : ℕ) → b < length bases → (k : ℕ) (f : ℕ → ℕ) (n : ℕ) → StandListed k od oe f n (slice_index bases b) offsets
    → StandsAt k (slice_index nd b) (slice_index ne b) (plus_over plus 0 (λ c. f (slice_index bases b + c)) offsets) (n + (2 * length offsets - 1))

module _ (plus : ℕ → ℕ → ℕ) (law : Lawful plus) where
  -- the cells of an event that no ratio touched
  pub total_own : (scope : ScopeOf) (event : List Pair) (touched : Option (List Pair)) (od oe : List ℕ) → IsFull scope od oe → is_untouched_by touched event ≡ true
      → (k : ℕ) (f : ℕ → ℕ) (n : ℕ) → AreNumbers (touched_cells touched scope) k od oe f n → (q x m : ℕ)
      → ((j : ℕ) (g : ℕ → ℕ) → StandListed j od oe g n 0 (cells_where scope event) → StandsAt j q x (plus_over plus 0 g (cells_where scope event)) m)
      → IsOwnAt k q x (plus_over plus 0 f (cells_where scope event)) m
  total_own scope event touched od oe full untouched k f n a q x m made =
      subst (λ (g : ℕ → ℕ). IsOwnAt k q x (plus_over plus 0 g (cells_where scope event)) m) (fun_ext (λ c. ap f (zero-add c)))
      (own_over plus law k od oe f n 0 (cells_where scope event) q x m listed
      (λ s. subst (λ (g : ℕ → ℕ). StandsAt 0 q x (plus_over plus 0 g (cells_where scope event)) m) (sym (fun_ext (λ c. ap (λ i. f i / 2 ^ k) (zero-add c)))) (made 0 (λ c. f c / 2 ^ k) s)))
    where
      cell_own : (c : ℕ) → holds_there event (values_at scope c) ≡ true → c < cells_in scope → IsOwnAt k (slice_index od (0 + c)) (slice_index oe (0 + c)) (f (0 + c)) n
      cell_own c h l =
          subst (λ i. IsOwnAt k (slice_index od i) (slice_index oe i) (f i) n) (sym (zero-add c))
          (a.own c (omega (arith, l, full.as_many_digits)) (untouched_there touched event (values_at scope c) untouched h))

      listed : All (λ c. IsOwnAt k (slice_index od (0 + c)) (slice_index oe (0 + c)) (f (0 + c)) n) (cells_where scope event)
      listed =
          All-weaker (λ c. (holds_there event (values_at scope c) ≡ true) × (c < cells_in scope)) (λ c. IsOwnAt k (slice_index od (0 + c)) (slice_index oe (0 + c)) (f (0 + c)) n) (λ c h. cell_own c h.0 h.1)
          (cells_where scope event) (chosen_pass (λ c. holds_there event (values_at scope c)) (cells_in scope))

pub total_stands : (plus : ℕ → ℕ → ℕ) (k q x : ℕ) (chosen : List ℕ) (count : ℕ) (f : ℕ → ℕ) (n : ℕ) → length chosen ≤ count
    → StandsAt k q x (plus_over plus 0 (λ c. f (0 + c)) chosen) (n + 2 * length chosen) → StandsAt k q x (plus_over plus 0 f chosen) (n + 2 * count)
total_stands plus k q x chosen count f n few h =
    stands_with_more k q x (plus_over plus 0 f chosen) (n + 2 * length chosen) (n + 2 * count) (omega arith)
    (subst (λ (g : ℕ → ℕ). StandsAt k q x (plus_over plus 0 g chosen) (n + 2 * length chosen)) (fun_ext (λ c. ap f (zero-add c))) h)

-- so has the table that has these arrays
pub has_written : (v t : TableOf) → v ≡ t → (nd ne : List ℕ) (touched : Option (List Pair)) (k : ℕ) (f : ℕ → ℕ) (n : ℕ) → AreNumbers (touched_cells touched t.scope) k nd ne f n
    → HasNumbers (record { scope = v.scope; shift = k; digits = nd; exponents = ne; touched = touched }) f n
has_written v t e nd ne touched k f n h =
    let i = subst (λ (s : ScopeOf). AreNumbers (touched_cells touched s) k nd ne f n) (sym (ap (λ (u : TableOf). u.scope) e)) h in
    record { stand = i.stand; own = i.own }

-- two vectors that were filled, and then written by a call
pub record AreWritten (cells digits_len exponents_len : ℕ) (nd ne : List ℕ) : Type 0 where
  pub digits : length nd ≡ digits_len
  pub exponents : length ne ≡ exponents_len
  pub all_digits : digits_len ≡ cells
  pub all_exponents : exponents_len ≡ cells

-- the table that keeps the arrays which a call wrote
abbrev pub kept_table : {Y Z : Type 0} → ScopeOf → ℕ → Vec ℕ Y → List ℕ → Vec ℕ Z → List ℕ → Option (List Pair) → TableOf
kept_table scope k a nd b ne touched = record {
  scope = scope;
  shift = k;
  digits = filled one_digits (cells_in scope) (with_items a nd).items;
  exponents = filled one_exponent (cells_in scope) (with_items b ne).items;
  touched = touched;
}

-- and the table that keeps them
pub has_after : {Y Z : Type 0} (v t : TableOf) → v ≡ t → (a : Vec ℕ Y) (b : Vec ℕ Z) (nd ne : List ℕ) → AreWritten (cells_in v.scope) (vec_len a) (vec_len b) nd ne → (touched : Option (List Pair)) (k : ℕ) (f : ℕ → ℕ) (n : ℕ)
    → AreNumbers (touched_cells touched t.scope) k nd ne f n
    → HasNumbers (kept_table v.scope k a nd b ne touched) f n
has_after v t e a b nd ne w touched k f n h =
    has_written v t e (filled one_digits (cells_in v.scope) (with_items a nd).items) (filled one_exponent (cells_in v.scope) (with_items b ne).items) touched k f n
    (subst (λ (ys : List ℕ). AreNumbers (touched_cells touched t.scope) k ys (filled one_exponent (cells_in v.scope) (with_items b ne).items) f n) (sym (held_items one_digits (cells_in v.scope) a nd w.digits w.all_digits))
    (subst (λ (ys : List ℕ). AreNumbers (touched_cells touched t.scope) k nd ys f n) (sym (held_items one_exponent (cells_in v.scope) b ne w.exponents w.all_exponents)) h))

-- and one whose touched cells are as they were
pub has_kept : {Y Z : Type 0} (v t : TableOf) → v ≡ t → (a : Vec ℕ Y) (b : Vec ℕ Z) (nd ne : List ℕ) → AreWritten (cells_in v.scope) (vec_len a) (vec_len b) nd ne → (k : ℕ) (f : ℕ → ℕ) (n : ℕ)
    → AreNumbers (touched_cells t.touched t.scope) k nd ne f n
    → HasNumbers (record {
      scope = v.scope;
      shift = k;
      digits = filled one_digits (cells_in v.scope) (with_items a nd).items;
      exponents = filled one_exponent (cells_in v.scope) (with_items b ne).items;
      touched = v.touched;
    }) f n
has_kept v t e a b nd ne w k f n h =
    has_after v t e a b nd ne w v.touched k f n (subst (λ (o : Option (List Pair)). AreNumbers (touched_cells o t.scope) k nd ne f n) (sym (ap (λ (u : TableOf). u.touched) e)) h)
