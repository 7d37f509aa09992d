-- The least product of ratios, from what the groups have.
use Rattle.std.proofs.Common.{◌≡◌, ℕ, ◌*◌, true, false, cond, ◌&&◌, ◌⊎◌, inl, inr}
use Rattle.std.proofs.Common.{eqb, List, [], ◌∷◌, All, map, slice_index_or}
use Rattle.std.proofs.Common.{refl, sym, ap, subst, ◌∙◌}
use Rattle.std.specs.List.{AllByRecursion}
use Rattle.std.proofs.Math.Path.{fun_ext}
use Rattle.std.proofs.lemmas.Bool.{cases_Bool}
use Rattle.std.proofs.lemmas.List.Elements.{recursion_from_All, All-map}
use Rattle.mk_net.specs.declared.words.Pair.{Pair}
use Rattle.mk_states.specs.States.{states, plus_over}
use Rattle.mk_states.specs.InitialWeight.{value_at}
use Rattle.mk_states.specs.Events.{holds}
use Rattle.mk_states.specs.Ratios.{unit, units_of}
use Rattle.mk_states.proofs.Sums.{plus_over-map}
use Rattle.mk_sums.specs.Sums.{Within}
use Rattle.mk_sums.specs.There.{holds_there, ratio_there}
use Rattle.mk_cell.specs.Least.{least}
use Rattle.mk_user_engine.specs.declared.group.Group.{Group}
use Rattle.mk_user_engine.specs.declared.narrow.PlacedRatio.{PlacedRatio}
use Rattle.mk_user_engine.specs.declared.names.Named.{Named}
use Rattle.mk_user_engine.specs.Names.{is_named}
use Rattle.mk_user_engine.specs.Narrow.{ratio_in, product_of}
use Rattle.mk_user_engine.specs.Grouped.{AreDisjoint, names_of, names, IsGathered}
use Rattle.mk_user_engine.specs.Groups.{GroupFactor, IsGroupFactor, least_of}
use Rattle.mk_user_engine.specs.Shared.{ratios_of}
use Rattle.mk_user_engine.specs.LeastShared.{LeastIsShared}
use Rattle.mk_user_engine.proofs.Joining.{names_at}
use Rattle.mk_user_engine.proofs.Multiply.{multiply}
use Rattle.mk_user_engine.proofs.Sharing.{shared}

module _ (ns : List Named) (a b : ℕ → ℕ) (same : (x : ℕ) → is_named ns x ≡ true → a x ≡ b x)
  where
    holds_reads : (ps : List Pair) → AllByRecursion (λ (p : Pair). is_named ns p.variable ≡ true) ps
        → holds_there ps a ≡ holds_there ps b
    holds_reads [] h = refl
    holds_reads (p ∷ ps) h =
        ap (λ v. eqb v p.value && holds_there ps a) (same p.variable h.0)
        ∙ ap (λ t. eqb (b p.variable) p.value && t) (holds_reads ps h.1)

    pub ratio_reads : (t : PlacedRatio) → is_named ns (ratio_in t).variable ≡ true
        → All (λ (p : Pair). is_named ns p.variable ≡ true) (ratio_in t).condition
        → ratio_there (ratio_in t) a ≡ ratio_there (ratio_in t) b
    ratio_reads t v h =
        let r = ratio_in t in
        ap (λ c. cond c (units_of r (a r.variable)) unit) (holds_reads r.condition
        (recursion_from_All (λ (p : Pair). is_named ns p.variable ≡ true) r.condition h))
        ∙ ap (λ n. cond (holds_there r.condition b) (units_of r n) unit) (same r.variable v)

module _ (groups : List Group) (apart : AreDisjoint (names_of groups)) (k : ℕ) (g : Group)
    (there : (x : ℕ) → names groups k x ≡ is_named g.names.items x)
  where
    reads_each : (ts : List PlacedRatio)
        → AllByRecursion (λ (t : PlacedRatio). IsGathered groups (ratio_in t)) ts
        → Within (is_named g.names.items) (product_of (ratios_of ts g))
    reads_each [] h a b same = refl
    reads_each (t ∷ ts) h a b same =
        at (cases_Bool (is_named g.names.items (ratio_in t).variable)) (reads_each ts h.1 a b same)
        h.0
      where
        named : IsGathered groups (ratio_in t) → is_named g.names.items (ratio_in t).variable ≡ true
            → All (λ (p : Pair). is_named g.names.items p.variable ≡ true) (ratio_in t).condition
        named is e = λ i d l.
            let r = ratio_in t in
            let here : is.place ≡ k = apart r.variable is.place k is.variable
            (there r.variable ∙ e) in
            let q : Pair = slice_index_or r.condition i d in
            sym (there q.variable) ∙ ap (λ j. names groups j q.variable) (sym here)
            ∙ is.condition i d l

        at : ((is_named g.names.items (ratio_in t).variable ≡ true)
            ⊎ (is_named g.names.items (ratio_in t).variable ≡ false))
            → product_of (ratios_of ts g) a ≡ product_of (ratios_of ts g) b
            → IsGathered groups (ratio_in t)
            → product_of (ratios_of (t ∷ ts) g) a ≡ product_of (ratios_of (t ∷ ts) g) b
        at (inl e) rest is =
            ap (λ c. product_of (cond c (t ∷ ratios_of ts g) (ratios_of ts g)) a) e
            ∙ ap (λ n. n * product_of (ratios_of ts g) a)
            (ratio_reads g.names.items a b same t e (named is e))
            ∙ ap (λ n. ratio_there (ratio_in t) b * n) rest
            ∙ sym (ap (λ c. product_of (cond c (t ∷ ratios_of ts g) (ratios_of ts g)) b) e)
        at (inr e) rest is =
            ap (λ c. product_of (cond c (t ∷ ratios_of ts g) (ratios_of ts g)) a) e
            ∙ rest
            ∙ sym (ap (λ c. product_of (cond c (t ∷ ratios_of ts g) (ratios_of ts g)) b) e)

abbrev factor_of : List PlacedRatio → Group → GroupFactor
factor_of trades g = record {
  names = g.names.items;
  cells = g.cells;
  factor = product_of (ratios_of trades g);
}

lists_same : (trades : List PlacedRatio) (gs : List Group)
    → map (λ (h : GroupFactor). h.names) (map (factor_of trades) gs) ≡ names_of gs
lists_same trades [] = refl
lists_same trades (g ∷ gs) = ap (λ (ls : List (List Named)). g.names.items ∷ ls)
    (lists_same trades gs)

pub least_shared : LeastIsShared
least_shared sizes groups trades pairs some are apart gathered own agree =
    let by_each = recursion_from_All (λ (t : PlacedRatio). IsGathered groups (ratio_in t)) trades
    gathered in
    let factors : All (λ (g : Group). IsGroupFactor sizes (factor_of trades g)) groups =
    λ k d l. let is = are k d l in record {
      strided = is.strided;
      sized = is.sized;
      reads = reads_each groups apart k (slice_index_or groups k d)
          (λ x. names_at groups k d x l) trades by_each;
    } in
    ap (λ (f : List ℕ → ℕ). plus_over least 0 f (states sizes)) (fun_ext (λ s. ap
    (λ n. cond (holds pairs s) n 0) (sym (shared groups trades (value_at s) apart gathered)
    ∙ sym (plus_over-map ◌*◌ 1 (λ (h : GroupFactor). h.factor (value_at s)) (factor_of trades)
    groups))))
    ∙ multiply sizes (map (factor_of trades) groups) pairs some
    (All-map (IsGroupFactor sizes) (factor_of trades) groups factors)
    (subst (λ (ls : List (List Named)). AreDisjoint ls) (sym (lists_same trades groups)) apart)
    own agree
    ∙ plus_over-map ◌*◌ 1 (least_of pairs) (factor_of trades) groups
