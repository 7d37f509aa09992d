-- A call that changes the table of one clique: `old` is the flow as its parts give it, and `now` as contracts see it.
use Rattle.std.proofs.Common.{◌≡◌, ℕ, ◌+◌, ◌-◌, ◌*◌, ◌<◌, ◌≤◌, Bool, true, false, ◌==◌, if◌then◌else◌, List, length, All, get_or, slice_index_or, slice_set, refl, sym, ap, subst, ◌∙◌, arith}
use Rattle.std.specs.Prelude.{Some, None}
use Rattle.std.proofs.lemmas.Bool.{both_ways}
use Rattle.std.proofs.lemmas.List.{get_or-set_same, get_or-set_other, length-set}
use Rattle.mk_net.specs.declared.words.Pair.{Pair}
use Rattle.mk_net.specs.Network.{Variable, sizes}
use Rattle.mk_net.specs.Named.{variable_at}
use Rattle.mk_net.specs.Asked.{TradeRatio, ratio_pairs}
use Rattle.mk_states.specs.Lawful.{Lawful}
use Rattle.mk_scope.specs.Scopes.{cells_in, has_variable, HasEvent, HasOneEach, HasSized}
use Rattle.mk_scope.specs.Cells.{values_at}
use Rattle.mk_table.specs.Tables.{TableOf, HasNumbers, HasRoom}
use Rattle.mk_table.specs.Ratios.{KeepsPairs, HasRatios}
use Rattle.mk_table.proofs.RatiosKept.{same_ratios, one_ratio_more}
use Rattle.mk_tree.specs.Given.{holds}
use Rattle.mk_engine.specs.Meaning.{Factor, RowsOf, RatioOf, is_ratio, max_factors, factor_there}
use Rattle.mk_propagate.specs.declared.gathered.Gathered.{Gathered}
use Rattle.mk_propagate.specs.declared.gathered.Gathered.TheVariants.{Nothing}
use Rattle.mk_plan.specs.Shapes.{ShapeOf, IsShapeFor, IsClique, clique_scope, scope_within, no_scope}
use Rattle.mk_propagate.specs.Placings.{Placing, with_factor_in, with_pair_in, placed_there, factors_in, ratios_in, IsPlacedFactor, IsPlacedPair, IsCommon}
use Rattle.mk_propagate.specs.Flows.{FlowOf, table_at, no_table, HasCells, HasSums, HasPlaced, KeepsMessages, Places}
use Rattle.mk_propagate.specs.inner.Gathered.{IsFollowed, IsPlacedIn}
use Rattle.mk_propagate.specs.inner.Boards.{BoardOf, HasClique, table_of, with_table as put_table}
use Rattle.mk_propagate.proofs.Boards.{read_there}
use Rattle.mk_propagate.specs.inner.Kept.{IsKept, IsGathered, AreMarked, AreOverCores, IsFlow}
use Rattle.mk_propagate.proofs.Ratios.{no_ratio_here, ratio_here, common_before, common_to_it}
use Rattle.mk_propagate.proofs.Placed.{AreOthersKept, with_table, table_read, factor_placed, pair_placed, kept_with}
use Rattle.mk_propagate.proofs.Messages.{core_room_one, table_room}
use Rattle.mk_propagate.proofs.Sending.{core_is, core_put, cores_still, mark_is, mark_put, mark_within, others_set, read_back}
use Rattle.mk_propagate.proofs.Placed as placed
use Rattle.mk_plan.proofs.Required as required
use Rattle.mk_states.proofs.Alike.{pair_same, ratio_same}

-- a flow over a board
abbrev pub flow_over : ShapeOf → List Bool → ℕ → ℕ → BoardOf → FlowOf
flow_over shape summed factors computed board = record {
  shape = shape;
  tables = board.tables;
  cores = board.cores;
  summed = summed;
  upward = board.upward;
  downward = board.downward;
  factors = factors;
  computed = computed;
}

-- a flow over another board
abbrev pub flow_on : FlowOf → BoardOf → List Bool → ℕ → FlowOf
flow_on old board summed factors = flow_over old.shape summed factors old.computed board

pub kept_messages : (old now after : FlowOf) → old ≡ now → after.shape ≡ old.shape → after.upward ≡ old.upward → after.downward ≡ old.downward → after.computed ≡ old.computed → KeepsMessages now after
kept_messages old now after view s u d n =
    subst (λ (f : FlowOf). KeepsMessages f after) view (record { same_shape = s; same_upward = u; same_downward = d; same_count = n })

-- what was read of a table that was put there
pub put_there : (before after : BoardOf) (k : ℕ) → after ≡ put_table before k (table_of after k)
    → table_of after k ≡ slice_index_or (slice_set before.tables (k - 1) (table_of after k)) (k - 1) (table_of after k)
put_there before after k only = read_there after.tables (k - 1) ∙ ap (λ (b : BoardOf). slice_index_or b.tables (k - 1) (table_of after k)) only

-- what a table asks before a variable's rows, or their support, are placed in it, and before a ratio is
pub record TakesRows (board : BoardOf) (clique : ℕ) (read : TableOf) (network : List Variable) (x : ℕ) : Type 0 where
  pub there : HasClique board clique
  pub family : HasSized network read.scope x
  pub parents : All (HasSized network read.scope) (variable_at network x).parents
  pub room : HasRoom read 1

pub record TakesRatio (board : BoardOf) (clique : ℕ) (read : TableOf) (ratio : TradeRatio) : Type 0 where
  pub there : HasClique board clique
  pub event : HasEvent read.scope (ratio_pairs ratio)
  pub one_each : HasOneEach read.scope ratio
  pub room : HasRoom read 1

module _ (plus : ℕ → ℕ → ℕ) (old now : FlowOf) (view : old ≡ now) (products : List TableOf) (cells : ℕ) (kept : IsKept old products cells)
    (p : Placing) (h : HasPlaced plus now p) (clique : ℕ) (is : IsClique now.shape.tree clique) (read : TableOf) (value : read ≡ get_or old.tables (clique - 1) read) where
  placed_old : HasPlaced plus old p
  placed_old = subst (λ (o : FlowOf). HasPlaced plus o p) (sym view) h

  pub clique_old : IsClique old.shape.tree clique
  clique_old = subst (λ (o : FlowOf). IsClique o.shape.tree clique) (sym view) is

  pub clique_there : (board : BoardOf) → board.tables ≡ old.tables → HasClique board clique
  clique_there board same = let at = clique_old in let e = ap (λ (ts : List TableOf). length ts) same in record { first = at.first; last = omega (arith, at.last, kept.one_each, e) }

  within : clique - 1 < length old.tables
  within = let at = clique_old in omega (arith, at.first, at.last, kept.one_each)

  reads : table_at old clique ≡ read
  reads = table_read old.tables (clique - 1) read within value

  -- the table lies over the clique's scope in each network of the shape
  pub scope_of_read : (network : List Variable) → IsShapeFor now.shape network → read.scope ≡ scope_within network (holds now.shape.tree clique)
  scope_of_read network shape =
      ap (λ (u : TableOf). u.scope) (sym reads) ∙ (placed_old.tables clique clique_old).scope_is
      ∙ ap (λ (o : FlowOf). slice_index_or o.shape.cliques (clique - 1) no_scope) view ∙ shape.clique_scopes clique is

  room : HasRoom read 1
  room =
      placed.has_room read _ p clique (subst (λ (u : TableOf). HasCells u (clique_scope old.shape clique) (placed_there p clique) (factors_in p clique)
      (factors_in p clique) (ratios_in p clique) (IsCommon p)) reads (placed_old.tables clique clique_old)) h.placing.few

  pub takes_rows : (board : BoardOf) → board.tables ≡ old.tables → (network : List Variable) → p.network ≡ network → (x : ℕ)
      → IsPlacedFactor network now.shape.tree (record { clique = clique; factor = RowsOf x })
      → TakesRows board clique read network x
  takes_rows board same network e x f =
      let shape = subst (IsShapeFor now.shape) e h.shape_is in let scope = scope_of_read network shape in
      record {
        there = clique_there board same;
        family = required.has_family network now.shape.tree clique read.scope scope x f.fits.0 f.fits.1;
        parents = required.has_parents network now.shape.tree clique read.scope scope shape.legal x f.fits.0 f.fits.1;
        room = room;
      }

  pub takes_ratio : (board : BoardOf) → board.tables ≡ old.tables → (ratio : TradeRatio)
      → IsPlacedFactor p.network now.shape.tree (record { clique = clique; factor = RatioOf ratio })
      → TakesRatio board clique read ratio
  takes_ratio board same ratio f =
      let scope = scope_of_read p.network h.shape_is in
      let event = required.has_ratio p.network now.shape.tree clique read.scope scope h.shape_is.legal ratio f.fits.0 f.fits.1 in
      record {
        there = clique_there board same;
        event = event;
        one_each =
            required.has_one_each p.network now.shape.tree clique read.scope scope ratio f.fits.0
            (required.has_target p.network now.shape.tree clique read.scope scope ratio event);
        room = room;
      }

  pub pair_variable : (q : Pair) → IsPlacedPair p.network now.shape.tree (record { clique = clique; pair = q }) → has_variable read.scope q.variable ≡ true
  pair_variable q f = required.has_pair p.network now.shape.tree clique read.scope (scope_of_read p.network h.shape_is) q f.in_range f.holds_it

  module _ (t : TableOf) (scope : t.scope ≡ read.scope) where
    table_there : slice_index_or (slice_set old.tables (clique - 1) t) (clique - 1) no_table ≡ t
    table_there = get_or-set_same old.tables (clique - 1) t no_table within

    -- it is read where it was put
    pub table_again : (table : TableOf) → table ≡ slice_index_or (slice_set old.tables (clique - 1) t) (clique - 1) table → table ≡ t
    table_again table f = read_back old.tables (clique - 1) t table within f

    -- with others over the cores
    module _ (cores : List TableOf) (summed : List Bool) (others : AreOthersKept old clique cores summed) where
      pub flow_with : (count : ℕ) (gathered : List Gathered) → AreMarked Gathered old.shape.tree Nothing (IsGathered plus old) products gathered → AreOverCores old cores → length summed ≡ length old.summed
          → (slice_index_or summed (clique - 1) false ≡ true → (slice_index_or cores (clique - 1) no_table).shift ≡ t.shift) → IsFlow plus (with_table old clique t cores summed count) products gathered cells
      flow_with count gathered marked over marks shift = record {
        kept = kept_with old products cells clique count read t cores summed kept over marks others shift clique_old.first within reads scope;
        gathered_are = record { one_mark_each = marked.one_mark_each; marked_is = marked.marked_is };
      }

      pub places_factor : (f : Factor) → IsPlacedFactor p.network now.shape.tree (record { clique = clique; factor = f }) → now.factors < max_factors → t.shift ≤ read.shift + 40
          → ((g : ℕ → ℕ) (n : ℕ) → HasNumbers read g n → HasNumbers t (λ c. g c * factor_there p.network f (values_at read.scope c)) (n + 1))
          → (HasRatios read (ratios_in p clique) (IsCommon p) → HasRatios t (ratios_in (with_factor_in clique f p) clique) (IsCommon (with_factor_in clique f p)))
          → (slice_index_or summed (clique - 1) false ≡ true → HasSums plus old.shape (with_factor_in clique f p) clique (slice_index_or cores (clique - 1) no_table))
          → Places plus now (with_table old clique t cores summed (old.factors + 1)) clique p (with_factor_in clique f p)
      places_factor f fits few shift numbers ratios sums =
          subst (λ (o : FlowOf). Places plus o (with_table old clique t cores summed (old.factors + 1)) clique p (with_factor_in clique f p)) view
          (factor_placed plus old p clique read t cores summed placed_old clique_old within reads scope others f
          (subst (λ (o : FlowOf). IsPlacedFactor p.network o.shape.tree (record { clique = clique; factor = f })) (sym view) fits)
          (let e = ap (λ (o : FlowOf). o.factors) view in omega (arith, few, e)) shift numbers ratios sums)

    -- what is not summed
    not_summed : slice_index_or (slice_set old.summed (clique - 1) false) (clique - 1) false ≡ true → ⊥
    not_summed marked = both_ways (slice_index_or (slice_set old.summed (clique - 1) false) (clique - 1) false) (get_or-set_same old.summed (clique - 1) false false (mark_within old products cells kept clique clique_old)) marked

    unmarked : AreOthersKept old clique old.cores (slice_set old.summed (clique - 1) false)
    unmarked k at apart = (refl, get_or-set_other old.summed (clique - 1) (k - 1) false false (λ e. apart (let here = clique_old in omega (arith, e, at.first, here.first))))

    flow_unmarked : (count : ℕ) (gathered : List Gathered) → AreMarked Gathered old.shape.tree Nothing (IsGathered plus old) products gathered
        → IsFlow plus (with_table old clique t old.cores (slice_set old.summed (clique - 1) false) count) products gathered cells
    flow_unmarked count gathered marked =
        flow_with old.cores (slice_set old.summed (clique - 1) false) unmarked count gathered marked kept.cores_are (length-set old.summed (clique - 1) false) (λ m. absurd (not_summed m))

    places_unmarked : (f : Factor) → IsPlacedFactor p.network now.shape.tree (record { clique = clique; factor = f }) → now.factors < max_factors → t.shift ≤ read.shift + 40
        → ((g : ℕ → ℕ) (n : ℕ) → HasNumbers read g n → HasNumbers t (λ c. g c * factor_there p.network f (values_at read.scope c)) (n + 1))
        → (HasRatios read (ratios_in p clique) (IsCommon p) → HasRatios t (ratios_in (with_factor_in clique f p) clique) (IsCommon (with_factor_in clique f p)))
        → Places plus now (with_table old clique t old.cores (slice_set old.summed (clique - 1) false) (old.factors + 1)) clique p (with_factor_in clique f p)
    places_unmarked f fits few shift numbers ratios = places_factor old.cores (slice_set old.summed (clique - 1) false) unmarked f fits few shift numbers ratios (λ m. absurd (not_summed m))

    -- a factor that is no ratio leaves them as they were
    no_ratio_more : (f : Factor) → is_ratio f ≡ false → t.shift ≡ read.shift → t.touched ≡ read.touched
        → HasRatios read (ratios_in p clique) (IsCommon p) → HasRatios t (ratios_in (with_factor_in clique f p) clique) (IsCommon (with_factor_in clique f p))
    no_ratio_more f none shift touched had =
        same_ratios read t scope (ratios_in p clique) (IsCommon p) had shift touched (ratios_in (with_factor_in clique f p) clique) (no_ratio_here p clique f none) (IsCommon (with_factor_in clique f p)) (common_before p clique f)

    -- so it is placed, with the table's mark off
    places_plain : (f : Factor) → is_ratio f ≡ false → IsPlacedFactor p.network now.shape.tree (record { clique = clique; factor = f })
        → now.factors < max_factors
        → t.shift ≡ read.shift → t.touched ≡ read.touched
        → ((g : ℕ → ℕ) (n : ℕ) → HasNumbers read g n → HasNumbers t (λ c. g c * factor_there p.network f (values_at read.scope c)) (n + 1))
        → Places plus now (with_table old clique t old.cores (slice_set old.summed (clique - 1) false) (old.factors + 1)) clique p (with_factor_in clique f p)
    places_plain f none fits few shift touched numbers = places_unmarked f fits few (omega (arith, shift)) numbers (no_ratio_more f none shift touched)

    ratio_more : (ratio : TradeRatio) → t.shift ≡ read.shift + 40 → KeepsPairs read.scope read.touched (Some ratio.condition) t.touched
        → HasRatios read (ratios_in p clique) (IsCommon p) → HasRatios t (ratios_in (with_factor_in clique (RatioOf ratio) p) clique) (IsCommon (with_factor_in clique (RatioOf ratio) p))
    ratio_more ratio shift touched had =
        one_ratio_more read t scope (ratios_in p clique) (IsCommon p) had shift ratio.condition touched (ratios_in (with_factor_in clique (RatioOf ratio) p) clique) (ratio_here p clique (RatioOf ratio) refl)
        (IsCommon (with_factor_in clique (RatioOf ratio) p)) (common_before p clique (RatioOf ratio)) (common_to_it p clique (RatioOf ratio))

    places_pair : (q : Pair) → IsPlacedPair p.network now.shape.tree (record { clique = clique; pair = q }) → t.shift ≡ read.shift
        → ((g : ℕ → ℕ) (n : ℕ) → HasNumbers read g n → HasNumbers t (λ c. if values_at read.scope c q.variable == q.value then g c else 0) n)
        → KeepsPairs read.scope read.touched None t.touched → Places plus now (with_table old clique t old.cores (slice_set old.summed (clique - 1) false) old.factors) clique p (with_pair_in clique q p)
    places_pair q fits shift numbers touched =
        subst (λ (o : FlowOf). Places plus o (with_table old clique t old.cores (slice_set old.summed (clique - 1) false) old.factors) clique p (with_pair_in clique q p)) view
        (pair_placed plus old p clique read t old.cores (slice_set old.summed (clique - 1) false) placed_old clique_old within reads scope unmarked q
        (subst (λ (o : FlowOf). IsPlacedPair p.network o.shape.tree (record { clique = clique; pair = q })) (sym view) fits) shift numbers touched not_summed)

    -- with a ratio more the table has what is placed there, and room to be summed
    module _ (law : Lawful plus) (ratio : TradeRatio)
        (fits : IsPlacedFactor p.network now.shape.tree (record { clique = clique; factor = RatioOf ratio })) (few : now.factors < max_factors)
        (shift : t.shift ≡ read.shift + 40) (touched : KeepsPairs read.scope read.touched (Some ratio.condition) t.touched)
        (numbers : (g : ℕ → ℕ) (n : ℕ) → HasNumbers read g n
        → HasNumbers t (λ c. g c * factor_there p.network (RatioOf ratio) (values_at read.scope c)) (n + 1)) where
      abbrev with_ratio : Placing
      with_ratio = with_factor_in clique (RatioOf ratio) p

      placed_with : IsPlacedIn old.shape with_ratio clique t
      placed_with =
          let has = (places_unmarked (RatioOf ratio) fits few (omega (arith, shift)) numbers (ratio_more ratio shift touched)).placed in
          record {
            shape_is = has.shape_is;
            placing = has.placing;
            cells = subst (λ (u : TableOf). HasCells u (clique_scope old.shape clique) (placed_there with_ratio clique)
                (factors_in with_ratio clique) (factors_in with_ratio clique) (ratios_in with_ratio clique) (IsCommon with_ratio)) table_there (has.tables clique clique_old);
          }

      pub room_with : HasRoom t (2 * cells_in t.scope)
      room_with = table_room old.shape with_ratio placed_with.shape_is placed_with.placing plus law clique clique_old t placed_with.cells

    -- the sums over its core follow it
    module _ (was core : TableOf) (e : was ≡ slice_index_or old.cores (clique - 1) was) (same : core.scope ≡ was.scope) (mark_was mark : Bool) (m : mark_was ≡ slice_index_or old.summed (clique - 1) mark_was)
        (table : TableOf) (again : table ≡ slice_index_or (slice_set old.tables (clique - 1) t) (clique - 1) table) where
      core_there : slice_index_or (slice_set old.cores (clique - 1) core) (clique - 1) no_table ≡ core
      core_there = core_put old products cells kept clique clique_old was core e same mark

      mark_there : slice_index_or (slice_set old.summed (clique - 1) mark) (clique - 1) false ≡ mark
      mark_there = mark_put old products cells kept clique clique_old was core e same mark

      abbrev others : AreOthersKept old clique (slice_set old.cores (clique - 1) core) (slice_set old.summed (clique - 1) mark)
      others = others_set old clique clique_old.first core mark

      pub flow_followed : (mark ≡ true → core.shift ≡ table.shift) → (count : ℕ) (gathered : List Gathered) → AreMarked Gathered old.shape.tree Nothing (IsGathered plus old) products gathered
          → IsFlow plus (with_table old clique t (slice_set old.cores (clique - 1) core) (slice_set old.summed (clique - 1) mark) count) products gathered cells
      flow_followed shift count gathered marked =
          flow_with (slice_set old.cores (clique - 1) core) (slice_set old.summed (clique - 1) mark) others count gathered marked
          (cores_still old old.cores kept.cores_are clique clique_old was core e same) (length-set old.summed (clique - 1) mark)
          (λ here. ap (λ (u : TableOf). u.shift) core_there ∙ shift (sym mark_there ∙ here) ∙ ap (λ (u : TableOf). u.shift) (table_again table again))

      had_sums : mark_was ≡ true → HasSums plus old.shape p clique was
      had_sums marked =
          subst (λ (u : TableOf). HasSums plus old.shape p clique u) (core_is old old.cores kept.cores_are clique clique_old was e)
          (placed_old.sums clique clique_old (mark_is old products cells kept clique clique_old mark_was m ∙ marked))

      pub core_had_room : Lawful plus → mark_was ≡ true → HasRoom was 1
      core_had_room law marked = core_room_one old.shape p placed_old.shape_is placed_old.placing plus law clique clique_old was (had_sums marked)

      module _ (law : Lawful plus) (ratio : TradeRatio)
          (fits : IsPlacedFactor p.network now.shape.tree (record { clique = clique; factor = RatioOf ratio })) (few : now.factors < max_factors)
          (shift : t.shift ≡ read.shift + 40) (touched : KeepsPairs read.scope read.touched (Some ratio.condition) t.touched)
          (numbers : (g : ℕ → ℕ) (n : ℕ) → HasNumbers read g n
          → HasNumbers t (λ c. g c * factor_there p.network (RatioOf ratio) (values_at read.scope c)) (n + 1)) where
        pub places_followed : (shape : ShapeOf) → shape ≡ old.shape → (mark ≡ true → mark_was ≡ true) → (mark ≡ true → IsFollowed plus shape clique ratio table was core)
            → Places plus now (with_table old clique t (slice_set old.cores (clique - 1) core) (slice_set old.summed (clique - 1) mark) (old.factors + 1)) clique p (with_factor_in clique (RatioOf ratio) p)
        places_followed shape s were followed =
            places_factor (slice_set old.cores (clique - 1) core) (slice_set old.summed (clique - 1) mark) others (RatioOf ratio) fits few
            (omega (arith, shift)) numbers (ratio_more ratio shift touched) (λ here. sums (sym mark_there ∙ here))
          where
            fits_old : IsPlacedFactor p.network old.shape.tree (record { clique = clique; factor = RatioOf ratio })
            fits_old = subst (λ (o : FlowOf). IsPlacedFactor p.network o.shape.tree (record { clique = clique; factor = RatioOf ratio })) (sym view) fits

            follows : mark ≡ true → IsFollowed plus old.shape clique ratio t was core
            follows marked =
                subst (λ (u : TableOf). IsFollowed plus old.shape clique ratio u was core) (table_again table again)
                (subst (λ (x : ShapeOf). IsFollowed plus x clique ratio table was core) s (followed marked))

            sums : mark ≡ true → HasSums plus old.shape (with_factor_in clique (RatioOf ratio) p) clique (slice_index_or (slice_set old.cores (clique - 1) core) (clique - 1) no_table)
            sums marked =
                subst (λ (u : TableOf). HasSums plus old.shape (with_factor_in clique (RatioOf ratio) p) clique u) (sym core_there)
                (follows marked p fits_old (placed_with law ratio fits few shift touched numbers) (had_sums (were marked)))

-- a call that changes one table of a board, after which its core is not summed
module _ (plus : ℕ → ℕ → ℕ) (shape : ShapeOf) (summed : List Bool) (factors computed cells : ℕ) (board after : BoardOf) (now : FlowOf)
    (view : flow_over shape summed factors computed board ≡ now) (kept : IsKept (flow_over shape summed factors computed board) board.products cells)
    (p : Placing) (h : HasPlaced plus now p) (k : ℕ) (is : IsClique now.shape.tree k)
    (only : after ≡ put_table board k (table_of after k)) (scope : (table_of after k).scope ≡ (table_of board k).scope) where
  abbrev before : FlowOf
  before = flow_over shape summed factors computed board

  abbrev called : ℕ → BoardOf → FlowOf
  called count x = flow_over shape (slice_set summed (k - 1) false) count computed x

  pub flow_called : (count : ℕ) (gathered : List Gathered) → AreMarked Gathered shape.tree Nothing (IsGathered plus before) board.products gathered
      → IsFlow plus (called count after) after.products gathered cells
  flow_called count gathered marked =
      subst (λ (x : BoardOf). IsFlow plus (called count x) x.products gathered cells) (sym only)
      (flow_unmarked plus before now view board.products cells kept p h k is (table_of board k) (read_there board.tables (k - 1)) (table_of after k) scope
      count gathered marked)

  pub messages_called : (count : ℕ) → KeepsMessages now (called count after)
  messages_called count =
      kept_messages before now (called count after) view refl (ap (λ (x : BoardOf). x.upward) only)
      (ap (λ (x : BoardOf). x.downward) only) refl

  pub factor_called : (f : Factor) → is_ratio f ≡ false → IsPlacedFactor p.network now.shape.tree (record { clique = k; factor = f })
      → now.factors < max_factors
      → (table_of after k).shift ≡ (table_of board k).shift → (table_of after k).touched ≡ (table_of board k).touched
      → ((g : ℕ → ℕ) (n : ℕ) → HasNumbers (table_of board k) g n
      → HasNumbers (table_of after k) (λ c. g c * factor_there p.network f (values_at (table_of board k).scope c)) (n + 1))
      → Places plus now (called (factors + 1) after) k p (with_factor_in k f p)
  factor_called f none fits few shift touched numbers =
      subst (λ (x : BoardOf). Places plus now (called (factors + 1) x) k p (with_factor_in k f p)) (sym only)
      (places_plain plus before now view board.products cells kept p h k is (table_of board k) (read_there board.tables (k - 1)) (table_of after k) scope
      f none fits few shift touched numbers)

  pub pair_called : (q : Pair) → IsPlacedPair p.network now.shape.tree (record { clique = k; pair = q })
      → (table_of after k).shift ≡ (table_of board k).shift
      → ((g : ℕ → ℕ) (n : ℕ) → HasNumbers (table_of board k) g n
      → HasNumbers (table_of after k) (λ c. if values_at (table_of board k).scope c q.variable == q.value then g c else 0) n)
      → KeepsPairs (table_of board k).scope (table_of board k).touched None (table_of after k).touched
      → Places plus now (called factors after) k p (with_pair_in k q p)
  pair_called q fits shift numbers touched =
      subst (λ (x : BoardOf). Places plus now (called factors x) k p (with_pair_in k q p)) (sym only)
      (places_pair plus before now view board.products cells kept p h k is (table_of board k) (read_there board.tables (k - 1)) (table_of after k) scope
      q fits shift numbers touched)

-- what fits one placing of a flow fits each
module _ (plus : ℕ → ℕ → ℕ) (now : FlowOf) (p q : Placing) (h : HasPlaced plus now p) (other : HasPlaced plus now q) where
  sized_alike : sizes p.network ≡ sizes q.network
  sized_alike = required.same_sizes now.shape p.network q.network h.shape_is other.shape_is

  pub ratio_fits_each : (clique : ℕ) (ratio : TradeRatio) → IsPlacedFactor p.network now.shape.tree (record { clique = clique; factor = RatioOf ratio })
      → IsPlacedFactor q.network now.shape.tree (record { clique = clique; factor = RatioOf ratio })
  ratio_fits_each clique ratio f = record { clique_is = f.clique_is; fits = (ratio_same p.network q.network sized_alike ratio f.fits.0, f.fits.1) }

  pub pair_fits_each : (clique : ℕ) (pair : Pair) → IsPlacedPair p.network now.shape.tree (record { clique = clique; pair = pair })
      → IsPlacedPair q.network now.shape.tree (record { clique = clique; pair = pair })
  pair_fits_each clique pair f = record { clique_is = f.clique_is; in_range = pair_same p.network q.network sized_alike pair f.in_range; holds_it = f.holds_it }
