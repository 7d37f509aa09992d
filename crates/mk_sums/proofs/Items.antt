-- Items of a tree: what is placed in all cliques is the product of all items, and known pairs are factors.
use Rattle.std.proofs.Common.{◌≡◌, ℕ, suc, zero, ◌*◌, ◌<◌, ◌≤◌, Bool, true, false, cond, ◌&&◌, ◌⊎◌, inl, inr, eqb, List, [], ◌∷◌, ◌++◌, map, slice_index, All, refl, sym, ap, ◌∙◌, arith, mul-one, one-mul, mul_comm, mul_assoc, mul-zero, zero-mul, eq-eqb, ne_eqb}
use Rattle.std.proofs.Math.Path.{fun_ext}
use Rattle.std.specs.List.{list_all, AllByRecursion}
use Rattle.std.proofs.lemmas.List.Elements.{recursion_from_All}
use Rattle.std.proofs.lemmas.Bool.{cases_eq}
use Rattle.mk_net.specs.declared.words.Pair.{Pair}
use Rattle.mk_states.specs.States.{states, plus_over, product_by}
use Rattle.mk_states.specs.InitialWeight.{value_at}
use Rattle.mk_states.specs.Events.{holds}
use Rattle.mk_states.proofs.Sums.{plus_over-filter, plus_over-map, product_by-append}
use Rattle.mk_states.specs.Lawful.{Lawful}
use Rattle.mk_sums.specs.Sums.{over, Within}
use Rattle.mk_sums.specs.Trees.{times_of, Links, Running, Covers, right_message, linked_to}
use Rattle.mk_sums.specs.Joint.{joint, where_has, where_holds, Item, placed_in, IsItem, variables}
use Rattle.mk_sums.proofs.States.{is_plus, states_nest}
use Rattle.mk_sums.proofs.Groups.{read_law}

swapped : (p q r t : ℕ) → (p * q) * (r * t) ≡ (p * r) * (q * t)
swapped p q r t = mul_assoc p q (r * t) ∙ ap (λ n. p * n) (sym (mul_assoc q r t) ∙ ap (λ n. n * t) (mul_comm q r) ∙ mul_assoc r q t) ∙ sym (mul_assoc p r (q * t))

all_times : (m : ℕ) (f g : ℕ → (ℕ → ℕ) → ℕ) (s : ℕ → ℕ) → times_of (λ j. true) m (λ k t. f k t * g k t) s ≡ times_of (λ j. true) m f s * times_of (λ j. true) m g s
all_times zero f g s = refl
all_times (suc k) f g s = ap (λ n. n * (f (suc k) s * g (suc k) s)) (all_times k f g s) ∙ swapped (times_of (λ j. true) k f s) (times_of (λ j. true) k g s) (f (suc k) s) (g (suc k) s)

all_ones : (m : ℕ) (s : ℕ → ℕ) → times_of (λ j. true) m (λ k t. 1) s ≡ 1
all_ones zero s = refl
all_ones (suc k) s = ap (λ n. n * 1) (all_ones k s)

all_one : (c m : ℕ) (v : (ℕ → ℕ) → ℕ) (s : ℕ → ℕ) → 1 ≤ c → c ≤ m → times_of (λ j. true) m (λ k t. cond (eqb c k) (v t) 1) s ≡ v s
all_one c zero v s p q = absurd (omega arith)
all_one c (suc k) v s p q = at (cases_eq c (suc k)) (all_one c k v s p)
  where
    none : (n : ℕ) → n < c → times_of (λ j. true) n (λ k t. cond (eqb c k) (v t) 1) s ≡ 1
    none zero h = refl
    none (suc n) h = ap (λ i. i * cond (eqb c (suc n)) (v s) 1) (none n (omega arith)) ∙ ap (λ b. 1 * cond b (v s) 1) (ne_eqb c (suc n) (λ e. omega arith))

    at : ((c ≡ suc k) ⊎ (c ≡ suc k → ⊥)) → (c ≤ k → times_of (λ j. true) k (λ k t. cond (eqb c k) (v t) 1) s ≡ v s) → times_of (λ j. true) k (λ k t. cond (eqb c k) (v t) 1) s * cond (eqb c (suc k)) (v s) 1 ≡ v s
    at (inl e) ih = ap (λ i. i * cond (eqb c (suc k)) (v s) 1) (none k (omega arith)) ∙ ap (λ b. 1 * cond b (v s) 1) (eq-eqb c (suc k) e) ∙ one-mul (v s)
    at (inr d) ih = ap (λ b. times_of (λ j. true) k (λ k t. cond (eqb c k) (v t) 1) s * cond b (v s) 1) (ne_eqb c (suc k) d) ∙ mul-one _ ∙ ih (omega arith)

pub items_placed : (m : ℕ) (clique : ℕ → ℕ → Bool) (items : List Item) → AllByRecursion (IsItem m clique) items → (s : ℕ → ℕ)
    → times_of (λ j. true) m (placed_in items) s ≡ product_by (λ (i : Item). i.value s) items
items_placed m clique [] h s = all_ones m s
items_placed m clique (i ∷ is) h s =
    all_times m (λ k t. cond (eqb i.clique k) (i.value t) 1) (placed_in is) s
    ∙ ap (λ n. n * times_of (λ j. true) m (placed_in is) s) (all_one i.clique m i.value s h.0.first h.0.last)
    ∙ ap (λ n. i.value s * n) (items_placed m clique is h.1 s)

pub items_fit : (m : ℕ) (clique : ℕ → ℕ → Bool) (items : List Item) → AllByRecursion (IsItem m clique) items → (k : ℕ) → Within (clique k) (placed_in items k)
items_fit m clique [] h k a b e = refl
items_fit m clique (i ∷ is) h k a b e =
    ap (λ n. n * placed_in is k a) (at (cases_eq i.clique k)) ∙ ap (λ n. cond (eqb i.clique k) (i.value b) 1 * n) (items_fit m clique is h.1 k a b e)
  where
    at : ((i.clique ≡ k) ⊎ (i.clique ≡ k → ⊥)) → cond (eqb i.clique k) (i.value a) 1 ≡ cond (eqb i.clique k) (i.value b) 1
    at (inl f) = ap (λ n. cond (eqb i.clique k) n 1) (h.0.fits a b (λ x p. e x (ap (λ j. clique j x) (sym f) ∙ p)))
    at (inr d) = rw (ne_eqb i.clique k d)

event_fits : (clique : ℕ → Bool) (event : List Pair) → AllByRecursion (λ (p : Pair). clique p.variable ≡ true) event → Within clique (where_holds event)
event_fits clique event h a b e = ap (λ t. cond t 1 0) (same event h)
  where
    same : (event : List Pair) → AllByRecursion (λ (p : Pair). clique p.variable ≡ true) event → list_all (λ (p : Pair). eqb (a p.variable) p.value) event ≡ list_all (λ (p : Pair). eqb (b p.variable) p.value) event
    same [] h = refl
    same (p ∷ ps) h =
        ap (λ n. eqb n p.value && list_all (λ (p : Pair). eqb (a p.variable) p.value) ps) (e p.variable h.0)
        ∙ ap (λ t. eqb (b p.variable) p.value && t) (same ps h.1)

cond_times : (b : Bool) (n : ℕ) → cond b n 0 ≡ cond b 1 0 * n
cond_times true n = sym (one-mul n)
cond_times false n = sym (zero-mul n)

pub joint_is_read : (plus : ℕ → ℕ → ℕ) (sizes : List ℕ) (clique : ℕ → ℕ → Bool) (items : List Item) (link : ℕ → ℕ) (m : ℕ)
    → Lawful plus → Links link m → Running link m clique → Covers m clique (variables sizes) → All (IsItem m clique) items
    → (a : ℕ) → 1 ≤ a → a ≤ m → (event : List Pair) → All (λ (p : Pair). clique a p.variable ≡ true) event
    → joint plus sizes (map (λ (i : Item). i.value) items) [] event
    ≡ over plus (slice_index sizes) (clique a) (variables sizes)
    (λ t. where_holds event t * (placed_in items a t * times_of (linked_to link m a) m (λ i. right_message plus (slice_index sizes) (variables sizes) clique (placed_in items) link m i a) t)) (λ x. 0)
joint_is_read plus sizes clique items link m law links running covers fits a p q event inside =
    plus_over-filter plus 0 (is_plus plus law) (λ (s : List ℕ). product_by (λ (f : (ℕ → ℕ) → ℕ). f (value_at s)) (map (λ (i : Item). i.value) items)) (λ s. holds [] s && holds event s) (states sizes)
    ∙ ap (λ (g : List ℕ → ℕ). plus_over plus 0 g (states sizes)) (fun_ext each)
    ∙ states_nest plus law sizes (λ t. where_holds event t * times_of (λ j. true) m (placed_in items) t)
    ∙ read_law plus (slice_index sizes) (variables sizes) clique (placed_in items) link m law
    (record { links = links; running = running; fits = λ k _ _. items_fit m clique items every k }) a covers p q (where_holds event)
    (event_fits (clique a) event (recursion_from_All (λ (p : Pair). clique a p.variable ≡ true) event inside)) (λ x. 0)
  where
    every : AllByRecursion (IsItem m clique) items
    every = recursion_from_All (IsItem m clique) items fits

    each : (s : List ℕ) → cond (holds [] s && holds event s) (product_by (λ (f : (ℕ → ℕ) → ℕ). f (value_at s)) (map (λ (i : Item). i.value) items)) 0
        ≡ where_holds event (value_at s) * times_of (λ j. true) m (placed_in items) (value_at s)
    each s =
        cond_times (holds event s) _
        ∙ ap (λ n. where_holds event (value_at s) * n)
        (plus_over-map ◌*◌ 1 (λ (f : (ℕ → ℕ) → ℕ). f (value_at s)) (λ (i : Item). i.value) items ∙ sym (items_placed m clique items every (value_at s)))

pub known_are_factors : (plus : ℕ → ℕ → ℕ) → Lawful plus → (sizes : List ℕ) (factors : List ((ℕ → ℕ) → ℕ)) (known event : List Pair)
    → joint plus sizes factors known event ≡ joint plus sizes (factors ++ map where_has known) [] event
known_are_factors plus law sizes factors known event =
    plus_over-filter plus 0 (is_plus plus law) (λ (s : List ℕ). product_by (λ (f : (ℕ → ℕ) → ℕ). f (value_at s)) factors) (λ s. holds known s && holds event s) (states sizes)
    ∙ ap (λ (g : List ℕ → ℕ). plus_over plus 0 g (states sizes)) (fun_ext each)
    ∙ sym (plus_over-filter plus 0 (is_plus plus law) (λ (s : List ℕ). product_by (λ (f : (ℕ → ℕ) → ℕ). f (value_at s)) (factors ++ map where_has known)) (λ s. holds [] s && holds event s) (states sizes))
  where
    pairs : (s : List ℕ) (known : List Pair) → product_by (λ (p : Pair). where_has p (value_at s)) known ≡ cond (holds known s) 1 0
    pairs s [] = refl
    pairs s (p ∷ ps) = ap (λ n. where_has p (value_at s) * n) (pairs s ps) ∙ both (eqb (value_at s p.variable) p.value) (holds ps s)
      where
        both : (b c : Bool) → cond b 1 0 * cond c 1 0 ≡ cond (b && c) 1 0
        both true true = refl
        both true false = refl
        both false true = refl
        both false false = refl

    chosen : (b c : Bool) (n : ℕ) → cond (b && c) n 0 ≡ cond c (n * cond b 1 0) 0
    chosen true true n = sym (mul-one n)
    chosen true false n = refl
    chosen false true n = sym (mul-zero n)
    chosen false false n = refl

    each : (s : List ℕ) → cond (holds known s && holds event s) (product_by (λ (f : (ℕ → ℕ) → ℕ). f (value_at s)) factors) 0
        ≡ cond (holds [] s && holds event s) (product_by (λ (f : (ℕ → ℕ) → ℕ). f (value_at s)) (factors ++ map where_has known)) 0
    each s =
        chosen (holds known s) (holds event s) (product_by (λ (f : (ℕ → ℕ) → ℕ). f (value_at s)) factors)
        ∙ ap (λ n. cond (holds event s) n 0)
        (ap (λ n. product_by (λ (f : (ℕ → ℕ) → ℕ). f (value_at s)) factors * n) (sym (plus_over-map ◌*◌ 1 (λ (f : (ℕ → ℕ) → ℕ). f (value_at s)) where_has known ∙ pairs s known))
        ∙ sym (product_by-append (λ (f : (ℕ → ℕ) → ℕ). f (value_at s)) factors (map where_has known)))
