-- Margins of tables, by the cells of their parts.
use Rattle.std.proofs.Common.{◌≡◌, ℕ, ◌+◌, ◌-◌, ◌*◌, ◌/◌, ◌^◌, ◌<◌, Bool, true, false, ◌==◌, ◌⊎◌, inl, inr, List, length, slice_index, All, refl, sym, ap, subst, ◌∙◌, arith}
use Rattle.std.specs.Prelude.{Option, Some, Vec, vec_len}
use Rattle.std.specs.Vec.{with_items}
use Rattle.std.proofs.lemmas.Bool.{cases_Bool, eqb-true}
use Rattle.std.proofs.lemmas.List.Elements.{All-weaker}
use Rattle.mk_net.specs.declared.words.Pair.{Pair}
use Rattle.mk_states.specs.Lawful.{Lawful}
use Rattle.mk_states.specs.States.{plus_over}
use Rattle.mk_states.proofs.Sums.{plus_over-map}
use Rattle.mk_sums.specs.There.{holds_there}
use Rattle.mk_cell.specs.Cell.{StandsAt, IsOwnAt}
use Rattle.mk_scope.specs.Scopes.{ScopeOf, LiesIn, HasEvent, cells_in}
use Rattle.mk_scope.specs.Cells.{values_at, cell_in, cells_onto, cells_beside, cells_where}
use Rattle.mk_table.specs.Tables.{TableOf, HasNumbers, touches, is_touched}
use Rattle.mk_table.specs.Margins.{IsMarginBut}
use Rattle.mk_scope.specs.Runs.{IsAmong}
use Rattle.mk_passes.specs.Parts.{StandListed, AreMadeAnew}
use Rattle.mk_table.specs.inner.Numbers.{AreNumbers}
use Rattle.mk_scope.specs.Places.{ArePlaces}
use Rattle.mk_passes.specs.Blank.{one_digits, one_exponent, filled}
use Rattle.mk_table.specs.inner.Touched.{HasTouched, IsPart, IsEither, IsWithin}
use Rattle.mk_scope.proofs.Chosen.{among_chosen, none_among, chosen_pass}
use Rattle.mk_scope.proofs.Onto.{places_beside}
use Rattle.mk_table.proofs.Owned.{own_is, own_stands, plus_scaled}
use Rattle.mk_table.proofs.Untouched.{touched_in, part_holds, false_before}
use Rattle.mk_table.proofs.Whole.{AreParts, AreWritten, ArePluses, touched_cells, kept_table, has_after}
use Rattle.mk_scope.proofs.Reached.{All_unmap}

-- ---- tables by their parts

-- the table that has a table's parts is that table
parts_same : (t : TableOf) (scope : ScopeOf) (shift : ℕ) (d e : List ℕ) → AreParts t scope shift d e → record { scope = scope; shift = shift; digits = d; exponents = e; touched = t.touched } ≡ t
parts_same t scope shift d e are =
    ap (λ (s : ScopeOf). record { scope = s; shift = shift; digits = d; exponents = e; touched = t.touched }) are.scope_is
    ∙ ap (λ k. record { scope = t.scope; shift = k; digits = d; exponents = e; touched = t.touched }) are.shift_is
    ∙ ap (λ (ys : List ℕ). record { scope = t.scope; shift = t.shift; digits = ys; exponents = e; touched = t.touched }) are.digits_are
    ∙ ap (λ (ys : List ℕ). record { scope = t.scope; shift = t.shift; digits = t.digits; exponents = ys; touched = t.touched }) are.exponents_are

-- ---- the cells of a whole that have the values of one cell of a part

onto_each : (P : ℕ → Type 0) (part whole : ScopeOf) (d : ℕ) → ((c : ℕ) → c < cells_in whole → cell_in part whole c ≡ d → P c) → All P (cells_onto part whole d)
onto_each P part whole d h =
    All-weaker (λ c. ((cell_in part whole c == d) ≡ true) × (c < cells_in whole)) P (λ c p. h c p.1 (eqb-true (cell_in part whole c) d p.0)) (cells_onto part whole d)
    (chosen_pass (λ c. cell_in part whole c == d) (cells_in whole))

-- where a cell of a part does not count as touched, no cell with its values does in a whole
free_onto : (part whole : ScopeOf) (before after : Option (List Pair)) → LiesIn part whole → HasTouched part after → ((a : ℕ → ℕ) → touches before a ≡ true → touches after a ≡ true) → (d : ℕ) → touched_cells after part d ≡ false
    → (c : ℕ) → c < cells_in whole → cell_in part whole c ≡ d → touched_cells before whole c ≡ false
free_onto part whole before after lies there holds d o c l e =
    false_before (touched_cells before whole c) (touched_cells after whole c) (holds (values_at whole c)) (sym (touched_in part whole after lies there c l) ∙ ap (touched_cells after part) e ∙ o)

-- ---- margins

-- a cell of a part stands for the plus of the whole's cells that have its values, whatever numbers those stand for
abbrev StandsForPlus : (ℕ → ℕ → ℕ) → TableOf → TableOf → ℕ → Type 0
StandsForPlus plus whole part d =
    (k : ℕ) (f : ℕ → ℕ) (n : ℕ) → All (λ c. StandsAt k (slice_index whole.digits c) (slice_index whole.exponents c) (f c) n) (cells_onto part.scope whole.scope d)
    → StandsAt k (slice_index part.digits d) (slice_index part.exponents d) (plus_over plus 0 f (cells_onto part.scope whole.scope d)) (n + (2 * cells_beside part.scope whole.scope - 1))

module _ (plus : ℕ → ℕ → ℕ) where
  -- a cell that is the plus of the cells that lie so far from its base
  plus_onto : (whole part : TableOf) (bases offsets : List ℕ) (run : ℕ) → ArePlaces part.scope whole.scope bases offsets run → (d : ℕ) → d < cells_in part.scope
      → ((k : ℕ) (f : ℕ → ℕ) (n : ℕ) → StandListed k whole.digits whole.exponents f n (slice_index bases d) offsets
      → StandsAt k (slice_index part.digits d) (slice_index part.exponents d) (plus_over plus 0 (λ c. f (slice_index bases d + c)) offsets) (n + (2 * length offsets - 1)))
      → StandsForPlus plus whole part d
  plus_onto whole part bases offsets run are d l made k f n a =
      subst (λ m. StandsAt k (slice_index part.digits d) (slice_index part.exponents d) (plus_over plus 0 f (cells_onto part.scope whole.scope d)) (n + (2 * m - 1)))
      (places_beside part.scope whole.scope bases offsets run are)
      (subst (λ v. StandsAt k (slice_index part.digits d) (slice_index part.exponents d) v (n + (2 * length offsets - 1))) sum_is (made k f n (record { listed = listed })))
    where
      sum_is : plus_over plus 0 (λ c. f (slice_index bases d + c)) offsets ≡ plus_over plus 0 f (cells_onto part.scope whole.scope d)
      sum_is = sym (plus_over-map plus 0 f (λ c. slice_index bases d + c) offsets) ∙ ap (plus_over plus 0 f) (are.onto d l)

      listed : All (λ c. StandsAt k (slice_index whole.digits (slice_index bases d + c)) (slice_index whole.exponents (slice_index bases d + c)) (f (slice_index bases d + c)) n) offsets
      listed =
          All_unmap (λ c. StandsAt k (slice_index whole.digits c) (slice_index whole.exponents c) (f c) n) (λ c. slice_index bases d + c) offsets
          (subst (λ (ys : List ℕ). All (λ c. StandsAt k (slice_index whole.digits c) (slice_index whole.exponents c) (f c) n) ys) (sym (are.onto d l)) a)

  -- whatever numbers a whole has, a cell that is a plus stands for the plus of them
  module _ (law : Lawful plus) (whole part : TableOf) (full : length whole.digits ≡ cells_in whole.scope) (f : ℕ → ℕ) (n : ℕ) (has : HasNumbers whole f n) (d : ℕ) (made : StandsForPlus plus whole part d) where
    plus_stands : StandsAt whole.shift (slice_index part.digits d) (slice_index part.exponents d) (plus_over plus 0 f (cells_onto part.scope whole.scope d)) (n + (2 * cells_beside part.scope whole.scope - 1))
    plus_stands =
        made whole.shift f n
        (onto_each (λ c. StandsAt whole.shift (slice_index whole.digits c) (slice_index whole.exponents c) (f c) n) part.scope whole.scope d (λ c m e. has.stand.each c (omega (arith, m, full))))

    -- and for one of its own where no ratio touched the cells that have its values
    plus_own : ((c : ℕ) → c < cells_in whole.scope → cell_in part.scope whole.scope c ≡ d → is_touched whole c ≡ false)
        → IsOwnAt whole.shift (slice_index part.digits d) (slice_index part.exponents d) (plus_over plus 0 f (cells_onto part.scope whole.scope d)) (n + (2 * cells_beside part.scope whole.scope - 1))
    plus_own free = record {
      own = plus_over plus 0 (λ c. f c / 2 ^ whole.shift) (cells_onto part.scope whole.scope d);
      scaled = sym (plus_scaled plus law f (λ c. f c / 2 ^ whole.shift) (2 ^ whole.shift) (cells_onto part.scope whole.scope d)
          (onto_each (λ c. f c / 2 ^ whole.shift * 2 ^ whole.shift ≡ f c) part.scope whole.scope d (λ c m e. own_is whole.shift (slice_index whole.digits c) (slice_index whole.exponents c) (f c) n (cell_own c m e))));
      stands = made 0 (λ c. f c / 2 ^ whole.shift) n
          (onto_each (λ c. StandsAt 0 (slice_index whole.digits c) (slice_index whole.exponents c) (f c / 2 ^ whole.shift) n) part.scope whole.scope d
          (λ c m e. own_stands whole.shift (slice_index whole.digits c) (slice_index whole.exponents c) (f c) n (cell_own c m e)));
    }
      where
        cell_own : (c : ℕ) → c < cells_in whole.scope → cell_in part.scope whole.scope c ≡ d → IsOwnAt whole.shift (slice_index whole.digits c) (slice_index whole.exponents c) (f c) n
        cell_own c m e = has.own c (omega (arith, m, full)) (free c m e)

  -- so does each cell of a margin
  pub margin_numbers : Lawful plus → (t : TableOf) (whole part : ScopeOf) (k : ℕ) (od oe nd ne bases offsets : List ℕ) (run : ℕ) (after : Option (List Pair)) → AreParts t whole k od oe → ArePlaces part whole bases offsets run
      → length nd ≡ cells_in part → IsWithin part t.touched after → ArePluses plus bases offsets od oe nd ne → (f : ℕ → ℕ) (n : ℕ) → HasNumbers t f n
      → HasNumbers (record { scope = part; shift = k; digits = nd; exponents = ne; touched = after }) (λ d. plus_over plus 0 f (cells_onto part t.scope d)) (n + (2 * cells_beside part t.scope - 1))
  margin_numbers law t whole part k od oe nd ne bases offsets run after parts are long within pluses f n =
      subst (λ (u : TableOf). HasNumbers u f n → HasNumbers to (λ d. plus_over plus 0 f (cells_onto part u.scope d)) (n + (2 * cells_beside part u.scope - 1))) (parts_same t whole k od oe parts)
      (λ has. record {
        stand = record { each = λ d l. plus_stands law from to full f n has d (plus_at d l) };
        own = λ d l o. plus_own law from to full f n has d (plus_at d l) (free_onto part whole t.touched after are.lies_in within.there within.holds d o);
      })
    where
      from : TableOf
      from = record { scope = whole; shift = k; digits = od; exponents = oe; touched = t.touched }

      to : TableOf
      to = record { scope = part; shift = k; digits = nd; exponents = ne; touched = after }

      full : length od ≡ cells_in whole
      full = ap (λ (ys : List ℕ). length ys) parts.digits_are ∙ parts.full.as_many_digits ∙ ap cells_in (sym parts.scope_is)

      plus_at : (d : ℕ) → d < length nd → StandsForPlus plus from to d
      plus_at d l = plus_onto from to bases offsets run are d (omega (arith, l, long)) (pluses d (omega (arith, l, long, are.one_each)))

  -- Where the cells that an event allows are made anew, and the others have their pluses already, all have them. What ratios touched of the whole, or before, counts as touched.
  again_numbers : Lawful plus → (whole old : TableOf) → length whole.digits ≡ cells_in whole.scope → (event allowed : List Pair) (bases offsets chosen : List ℕ) (run : ℕ)
      → ArePlaces old.scope whole.scope bases offsets run → IsPart allowed event → HasEvent old.scope allowed → chosen ≡ cells_where old.scope allowed
      → (nd ne : List ℕ) → length nd ≡ cells_in old.scope
      → AreMadeAnew plus whole.digits whole.exponents bases offsets (2 * length offsets - 1) chosen (length chosen) old.digits old.exponents nd ne
      → (within after : Option (List Pair)) → IsWithin old.scope whole.touched within → HasTouched old.scope old.touched → IsEither old.touched within after
      → (f : ℕ → ℕ) (n : ℕ) → HasNumbers whole f n → IsMarginBut plus event whole old f n
      → AreNumbers (touched_cells after old.scope) whole.shift nd ne (λ d. plus_over plus 0 f (cells_onto old.scope whole.scope d)) (n + (2 * cells_beside old.scope whole.scope - 1))
  again_numbers law whole old full event allowed bases offsets chosen run are is_part named is nd ne long made within after is_within there either f n has but = record {
    stand = record { each = λ d l. stand d (omega (arith, l, long)) (cases_Bool (allows d)) };
    own = λ d l o. own d (omega (arith, l, long)) o (cases_Bool (allows d));
  }
    where
      allows : ℕ → Bool
      allows d = holds_there allowed (values_at old.scope d)

      part : TableOf
      part = record { scope = old.scope; shift = whole.shift; digits = nd; exponents = ne; touched = after }

      sum : ℕ → ℕ
      sum d = plus_over plus 0 f (cells_onto old.scope whole.scope d)

      steps : ℕ
      steps = n + (2 * cells_beside old.scope whole.scope - 1)

      plus_at : (d : ℕ) → d < cells_in old.scope → allows d ≡ true → StandsForPlus plus whole part d
      plus_at d l holds =
          plus_onto whole part bases offsets run are d l
          (made.stand d (subst (λ (ys : List ℕ). IsAmong ys (length ys) d) (sym is) (among_chosen allows (cells_in old.scope) d l holds)))

      new : (d : ℕ) → allows d ≡ false → IsAmong chosen (length chosen) d → ⊥
      new d bars k = none_among allows (cells_in old.scope) d bars (subst (λ (ys : List ℕ). IsAmong ys (length ys) d) is k)

      -- where the kept pairs do not hold, the event holds nowhere in the whole
      outside : (d : ℕ) → allows d ≡ false → All (λ c. holds_there event (values_at whole.scope c) ≡ false) (cells_onto old.scope whole.scope d)
      outside d bars =
          onto_each (λ c. holds_there event (values_at whole.scope c) ≡ false) old.scope whole.scope d
          (λ c l e.
          false_before (holds_there event (values_at whole.scope c)) (holds_there allowed (values_at whole.scope c)) (part_holds allowed event (values_at whole.scope c) is_part)
          (sym (touched_in old.scope whole.scope (Some allowed) are.lies_in named c l) ∙ ap allows e ∙ bars))

      stand : (d : ℕ) → d < cells_in old.scope → ((allows d ≡ true) ⊎ (allows d ≡ false)) → StandsAt whole.shift (slice_index nd d) (slice_index ne d) (sum d) steps
      stand d l (inl holds) = plus_stands law whole part full f n has d (plus_at d l holds)
      stand d l (inr bars) =
          subst (λ y. StandsAt whole.shift y (slice_index ne d) (sum d) steps) (sym (made.digits_left d (new d bars)))
          (subst (λ y. StandsAt whole.shift (slice_index old.digits d) y (sum d) steps) (sym (made.exponents_left d (new d bars))) (but.stand d l (outside d bars)))

      own : (d : ℕ) → d < cells_in old.scope → touched_cells after old.scope d ≡ false → ((allows d ≡ true) ⊎ (allows d ≡ false)) → IsOwnAt whole.shift (slice_index nd d) (slice_index ne d) (sum d) steps
      own d l o (inl holds) = plus_own law whole part full f n has d (plus_at d l holds)
          (free_onto old.scope whole.scope whole.touched after are.lies_in (either.variables old.scope there is_within.there) (λ a t. either.of_second a (is_within.holds a t)) d o)
      own d l o (inr bars) =
          subst (λ y. IsOwnAt whole.shift y (slice_index ne d) (sum d) steps) (sym (made.digits_left d (new d bars)))
          (subst (λ y. IsOwnAt whole.shift (slice_index old.digits d) y (sum d) steps) (sym (made.exponents_left d (new d bars)))
          (but.own d l (outside d bars) (false_before (is_touched old d) (touched_cells after old.scope d) (either.of_first (values_at old.scope d)) o)))

  -- so has the table that keeps the arrays that a call wrote
  pub again_after : {Y Z : Type 0} → Lawful plus → (t v o : TableOf) → v ≡ o → (event allowed : List Pair) (bases offsets chosen : List ℕ) (run : ℕ) → ArePlaces v.scope t.scope bases offsets run
      → IsPart allowed event → HasEvent v.scope allowed → chosen ≡ cells_where v.scope allowed
      → (td te od oe : List ℕ) → td ≡ t.digits → te ≡ t.exponents → length t.digits ≡ cells_in t.scope → od ≡ v.digits → oe ≡ v.exponents
      → (a : Vec ℕ Y) (b : Vec ℕ Z) (nd ne : List ℕ) → AreWritten (cells_in v.scope) (vec_len a) (vec_len b) nd ne
      → AreMadeAnew plus td te bases offsets (2 * length offsets - 1) chosen (length chosen) od oe nd ne
      → (k : ℕ) (within after : Option (List Pair)) → k ≡ t.shift → IsWithin v.scope t.touched within → HasTouched v.scope v.touched → IsEither v.touched within after
      → (f : ℕ → ℕ) (n : ℕ) → HasNumbers t f n → IsMarginBut plus event t o f n
      → HasNumbers (kept_table v.scope k a nd b ne after) (λ d. plus_over plus 0 f (cells_onto o.scope t.scope d)) (n + (2 * cells_beside o.scope t.scope - 1))
  again_after law t v o e event allowed bases offsets chosen run are is_part named is td te od oe i j full x y a b nd ne w made k within after same_shift is_within there either f n has but =
      subst (λ (s : ScopeOf). HasNumbers table (sum s) (steps s)) (ap (λ (u : TableOf). u.scope) e)
      (has_after v v refl a b nd ne w after k (sum v.scope) (steps v.scope)
      (subst (λ m. AreNumbers (touched_cells after v.scope) m nd ne (sum v.scope) (steps v.scope)) (sym same_shift)
      (again_numbers law t v full event allowed bases offsets chosen run are is_part named is nd ne (w.digits ∙ w.all_digits) anew within after is_within there either f n has
      (subst (λ (u : TableOf). IsMarginBut plus event t u f n) (sym e) but))))
    where
      sum : ScopeOf → ℕ → ℕ
      sum s d = plus_over plus 0 f (cells_onto s t.scope d)

      steps : ScopeOf → ℕ
      steps s = n + (2 * cells_beside s t.scope - 1)

      table : TableOf
      table = record {
        scope = v.scope;
        shift = k;
        digits = filled one_digits (cells_in v.scope) (with_items a nd).items;
        exponents = filled one_exponent (cells_in v.scope) (with_items b ne).items;
        touched = after;
      }

      Anew : List ℕ → List ℕ → List ℕ → List ℕ → Type 0
      Anew ds es ods oes = AreMadeAnew plus ds es bases offsets (2 * length offsets - 1) chosen (length chosen) ods oes nd ne

      anew : Anew t.digits t.exponents v.digits v.exponents
      anew =
          subst (λ (ys : List ℕ). Anew ys t.exponents v.digits v.exponents) i
          (subst (λ (ys : List ℕ). Anew td ys v.digits v.exponents) j (subst (λ (ys : List ℕ). Anew td te ys v.exponents) x (subst (λ (ys : List ℕ). Anew td te od ys) y made)))
