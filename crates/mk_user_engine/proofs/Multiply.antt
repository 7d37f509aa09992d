-- The least product over groups is the product of their least values: they are joined, one by one,
-- to one list of names.
use Rattle.std.proofs.Common.{◌≡◌, ℕ, suc, ◌*◌, Bool, true, false, cond, ◌||◌}
use Rattle.std.proofs.Common.{◌⊎◌, inl, inr, List, [], ◌∷◌, ◌++◌, map}
use Rattle.std.proofs.Common.{slice_index_or, refl, sym, ap, ◌∙◌, arith}
use Rattle.std.specs.List.{AllByRecursion}
use Rattle.std.proofs.lemmas.Bool.{cases_Bool}
use Rattle.std.proofs.lemmas.List.Elements.{All-from_recursion, recursion_from_All}
use Rattle.mk_net.specs.declared.words.Pair.{Pair}
use Rattle.mk_states.specs.States.{product_by}
use Rattle.mk_sums.specs.Sums.{Within}
use Rattle.mk_cell.specs.Least.{least, least-zero}
use Rattle.mk_cell.specs.Passes.{plus_below}
use Rattle.mk_user_engine.specs.declared.names.Named.{Named}
use Rattle.mk_user_engine.specs.Names.{is_named, value_in, agrees, AreStrided, IsSized}
use Rattle.mk_user_engine.specs.Groups.{GroupFactor, IsGroupFactor, least_of}
use Rattle.mk_user_engine.specs.Grouped.{AreDisjoint, widened}
use Rattle.mk_user_engine.specs.Groups.{GroupsMultiply}
use Rattle.mk_user_engine.proofs.Join.{is_named_joined, strided_joined, sized_joined, joins}
use Rattle.mk_user_engine.proofs.Drop.{drops}

abbrev lists : List GroupFactor → List (List Named)
lists gs = map (λ (g : GroupFactor). g.names) gs

-- ---- all groups as one

abbrev all_names : List GroupFactor → List Named
all_names [] = []
all_names (g ∷ gs) = g.names ++ widened g.cells (all_names gs)

abbrev all_cells : List GroupFactor → ℕ
all_cells [] = 1
all_cells (g ∷ gs) = g.cells * all_cells gs

abbrev product_in : List GroupFactor → (ℕ → ℕ) → ℕ
product_in gs a = product_by (λ (g : GroupFactor). g.factor a) gs

all_strided : (sizes : List ℕ) (gs : List GroupFactor) → AllByRecursion (IsGroupFactor sizes) gs
    → AreStrided 1 (all_names gs) (all_cells gs)
all_strided sizes [] h = refl
all_strided sizes (g ∷ gs) h =
    let is = h.0 in
    strided_joined g.names (all_names gs) g.cells (all_cells gs) is.strided
    (all_strided sizes gs h.1)

all_sized : (sizes : List ℕ) (gs : List GroupFactor) → AllByRecursion (IsGroupFactor sizes) gs
    → AllByRecursion (IsSized sizes) (all_names gs)
all_sized sizes [] h = tt
all_sized sizes (g ∷ gs) h =
    let is = h.0 in
    sized_joined sizes g.names (all_names gs) g.cells
    (recursion_from_All (IsSized sizes) g.names is.sized) (all_sized sizes gs h.1)

named_first : (g : GroupFactor) (gs : List GroupFactor) (x : ℕ) → is_named g.names x ≡ true
    → is_named (all_names (g ∷ gs)) x ≡ true
named_first g gs x e = is_named_joined g.names (all_names gs) g.cells x
    ∙ ap (λ b. b || is_named (all_names gs) x) e

named_later : (g : GroupFactor) (gs : List GroupFactor) (x : ℕ)
    → is_named (all_names gs) x ≡ true → is_named (all_names (g ∷ gs)) x ≡ true
named_later g gs x e = is_named_joined g.names (all_names gs) g.cells x
    ∙ ap (λ b. is_named g.names x || b) e ∙ always (is_named g.names x)
  where
    always : (b : Bool) → (b || true) ≡ true
    always true = refl
    always false = refl

all_reads : (sizes : List ℕ) (gs : List GroupFactor) → AllByRecursion (IsGroupFactor sizes) gs
    → Within (is_named (all_names gs)) (product_in gs)
all_reads sizes [] h a b same = refl
all_reads sizes (g ∷ gs) h a b same =
    let is = h.0 in
    ap (λ k. k * product_in gs a) (is.reads a b (λ x e. same x (named_first g gs x e)))
    ∙ ap (λ k. g.factor b * k)
    (all_reads sizes gs h.1 a b (λ x e. same x (named_later g gs x e)))

-- ---- what is named is named in one of the groups

has_list : (gs : List GroupFactor) (x : ℕ) → is_named (all_names gs) x ≡ true
    → (k : ℕ) × (is_named (slice_index_or (lists gs) k []) x ≡ true)
has_list [] x e = absurd (cc)
has_list (g ∷ gs) x e = at (cases_Bool (is_named g.names x)) (has_list gs x)
  where
    at : ((is_named g.names x ≡ true) ⊎ (is_named g.names x ≡ false))
        → (is_named (all_names gs) x ≡ true
        → (k : ℕ) × (is_named (slice_index_or (lists gs) k []) x ≡ true))
        → (k : ℕ) × (is_named (slice_index_or (lists (g ∷ gs)) k []) x ≡ true)
    at (inl h) later = (0, h)
    at (inr h) later =
        let r : is_named (all_names gs) x ≡ true =
        sym (is_named_joined g.names (all_names gs) g.cells x
        ∙ ap (λ b. b || is_named (all_names gs) x) h) ∙ e in
        let found = later r in (suc found.0, found.1)

apart_first : (g : GroupFactor) (gs : List GroupFactor) → AreDisjoint (lists (g ∷ gs)) → (x : ℕ)
    → is_named g.names x ≡ true → is_named (all_names gs) x ≡ true → ⊥
apart_first g gs apart x e h =
    let found = has_list gs x h in
    let same = apart x 0 (suc found.0) e found.1 in
    absurd (omega (arith, same))

apart_rest : (g : GroupFactor) (gs : List GroupFactor) → AreDisjoint (lists (g ∷ gs))
    → AreDisjoint (lists gs)
apart_rest g gs apart x j k e h =
    let same = apart x (suc j) (suc k) e h in omega (arith, same)

-- ---- the law

nothing_agrees : (pairs : List Pair) → agrees [] pairs 0 ≡ true
nothing_agrees [] = refl
nothing_agrees (p ∷ ps) = nothing_agrees ps

below_all : (sizes : List ℕ) (pairs : List Pair) (gs : List GroupFactor)
    → AllByRecursion (IsGroupFactor sizes) gs → AreDisjoint (lists gs)
    → plus_below least (all_cells gs) (λ c. cond (agrees (all_names gs) pairs c)
    (product_in gs (value_in (all_names gs) c)) 0)
    ≡ product_by (least_of pairs) gs
below_all sizes pairs [] h apart =
    least-zero (cond (agrees [] pairs 0) 1 0)
    ∙ ap (λ b. cond b 1 0) (nothing_agrees pairs)
below_all sizes pairs (g ∷ gs) h apart =
    let is = h.0 in
    joins g.names (all_names gs) g.cells (all_cells gs) pairs g.factor (product_in gs) is.strided
    is.reads (all_reads sizes gs h.1) (apart_first g gs apart)
    ∙ ap (λ k. least_of pairs g * k) (below_all sizes pairs gs h.1 (apart_rest g gs apart))

pub multiply : GroupsMultiply
multiply sizes gs pairs some are apart own agree =
    let h = recursion_from_All (IsGroupFactor sizes) gs are in
    drops sizes (all_names gs) (all_cells gs) pairs (product_in gs) some (all_strided sizes gs h)
    (All-from_recursion (IsSized sizes) (all_names gs) (all_sized sizes gs h))
    (all_reads sizes gs h) own agree
    ∙ below_all sizes pairs gs h apart
