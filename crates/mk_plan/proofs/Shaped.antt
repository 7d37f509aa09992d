-- One clique more of what a shape keeps, and the next cliques on the ways.
use Rattle.std.proofs.Common.{◌≡◌, ◌≢◌, ℕ, suc, ◌+◌, ◌-◌, ◌<◌, ◌≤◌, Bool, true, false, cond, ◌⊎◌, inl, inr, List, [], ◌∷◌, ◌++◌, map, filter, length, slice_index, slice_index_or, get_or, set, take, refl, sym, ap, subst, ◌∙◌, arith, length-append, length-set, get_or-set_other, get_or-take}
use Rattle.std.proofs.lemmas.Grind.{get_or-set_at}
use Rattle.std.specs.List.{range_with_len}
use Rattle.std.proofs.lemmas.Bool.{cases_eq}
use Rattle.std.proofs.lemmas.List.{length-map, length-take-le, length_push, get_or_push, get_or_default}
use Rattle.std.proofs.lemmas.List.FromFn.{map-range_with_len_more, get_or-map-range_with_len, length-map-range_with_len}
use Rattle.std.proofs.Math.ListN.{get_or-map, get_or-append}
use Rattle.mk_sums.proofs.Hops.{IsChild, ends, hop_linked, hop_near, hop_up, hop_step}
use Rattle.mk_scope.proofs.Members.{range_more}
use Rattle.mk_tree.specs.Given.{GivenTree, link_of, holds}
use Rattle.mk_tree.specs.Given as given
use Rattle.mk_tree.specs.Checked.{IsTreeOf}
use Rattle.mk_net.specs.Network.{Variable, IsNetwork}
use Rattle.mk_scope.specs.Scopes.{ScopeOf, PlacesOf, LiesIn}
use Rattle.mk_plan.specs.Shapes.{ShapeOf, IsClique, AreNextTo, IsShapeFor, clique_scope, core_scope, separator_scope, next_on_way, scope_within, in_core, shares, no_scope, scopes_of}
use Rattle.mk_plan.specs.inner.Shaped.{AreWays, AreStarts, IsShaped, CanPlaceSeparators, CanPlaceCores, scopes_of_cliques, scopes_of_cores, scopes_of_separators, lists_of_neighbours, shape_of, whole_of, places_of, core_places_of}
use Rattle.mk_plan.proofs.Cores.{shared_lies_in_core, shared_lies_in_link_core, core_lies_in}

map_push : {A B : Type 0} (f : A → B) (xs : List A) (y : A) → map f (xs ++ y ∷ []) ≡ map f xs ++ f y ∷ []
map_push f [] y = refl
map_push f (x ∷ xs) y = ap (λ ys. f x ∷ ys) (map_push f xs y)

-- one item more of a list that is a function of the numbers from a on
pub one_more : {A B : Type 0} (f : A → B) (g : ℕ → B) (xs ys : List A) (y : A) (a n j : ℕ) → map f xs ≡ map g (range_with_len a n) → ys ≡ xs ++ y ∷ [] → f y ≡ g j → a + n ≡ j
    → map f ys ≡ map g (range_with_len a (n + 1))
one_more f g xs ys y a n j h pushed e at =
    ap (map f) pushed ∙ map_push f xs y ∙ ap (λ zs. zs ++ f y ∷ []) h ∙ ap (λ z. map g (range_with_len a n) ++ z ∷ []) e ∙ sym (map-range_with_len_more g a n j at)

-- the same of a list that is one of the function's values
pub one_more_listed : {B : Type 0} (g : ℕ → B) (xs ys : List B) (y : B) (a n j : ℕ) → xs ≡ map g (range_with_len a n) → ys ≡ xs ++ y ∷ [] → y ≡ g j → a + n ≡ j
    → ys ≡ map g (range_with_len a (n + 1))
one_more_listed g xs ys y a n j h pushed e at =
    pushed ∙ ap (λ zs. zs ++ y ∷ []) h ∙ ap (λ z. map g (range_with_len a n) ++ z ∷ []) e ∙ sym (map-range_with_len_more g a n j at)

filter_push : (p : ℕ → Bool) (xs : List ℕ) (y : ℕ) → filter p (xs ++ y ∷ []) ≡ filter p xs ++ cond (p y) (y ∷ []) []
filter_push p [] y = refl
filter_push p (x ∷ xs) y = at (p x) (filter_push p xs y)
  where
    at : (b : Bool) → filter p (xs ++ y ∷ []) ≡ filter p xs ++ cond (p y) (y ∷ []) []
        → cond b (x ∷ filter p (xs ++ y ∷ [])) (filter p (xs ++ y ∷ [])) ≡ cond b (x ∷ filter p xs) (filter p xs) ++ cond (p y) (y ∷ []) []
    at true ih = ap (λ ys. x ∷ ys) ih
    at false ih = ih

append_none : (xs : List ℕ) → xs ++ [] ≡ xs
append_none [] = refl
append_none (x ∷ xs) = ap (λ ys. x ∷ ys) (append_none xs)

filter_range : (p : ℕ → Bool) (a n j : ℕ) → a + n ≡ j → filter p (range_with_len a (n + 1)) ≡ filter p (range_with_len a n) ++ cond (p j) (j ∷ []) []
filter_range p a n j at =
    let e : n + 1 ≡ suc n = omega arith in
    ap (λ k. filter p (range_with_len a k)) e ∙ ap (filter p) (range_more a n ∙ ap (λ x. range_with_len a n ++ x ∷ []) at) ∙ filter_push p (range_with_len a n) j

pub filter_in : (p : ℕ → Bool) (a n j : ℕ) → a + n ≡ j → p j ≡ true → filter p (range_with_len a (n + 1)) ≡ filter p (range_with_len a n) ++ j ∷ []
filter_in p a n j at h = filter_range p a n j at ∙ ap (λ b. filter p (range_with_len a n) ++ cond b (j ∷ []) []) h

pub filter_out : (p : ℕ → Bool) (a n j : ℕ) → a + n ≡ j → p j ≡ false → filter p (range_with_len a (n + 1)) ≡ filter p (range_with_len a n)
filter_out p a n j at h = filter_range p a n j at ∙ ap (λ b. filter p (range_with_len a n) ++ cond b (j ∷ []) []) h ∙ append_none (filter p (range_with_len a n))

-- an item of a list that is a function of the numbers from a on
pub item_of : {A B : Type 0} (f : A → B) (g : ℕ → B) (xs : List A) (a n i j : ℕ) (d : A) (e : B) → map f xs ≡ map g (range_with_len a n) → i < n → a + i ≡ j → f (get_or xs i d) ≡ g j
item_of f g xs a n i j d e h l at =
    let long = ap length h in
    let m : i < length xs = omega (arith, long, length-map xs f, length-map-range_with_len g a n) in
    sym (get_or-map f xs i d) ∙ ap (λ ys. get_or ys i (f d)) h ∙ get_or-map-range_with_len g a n i j (f d) l at

pub long_of : {A B : Type 0} (f : A → B) (g : ℕ → B) (xs : List A) (a n : ℕ) → map f xs ≡ map g (range_with_len a n) → length xs ≡ n
long_of f g xs a n h = sym (length-map xs f) ∙ ap length h ∙ length-map-range_with_len g a n

-- ---- ways

module _ (tree : GivenTree) (linked : given.AreLinked tree) (from : ℕ) (is : IsClique tree from) where
  -- to an earlier clique the way goes up
  pub next_up : (to : ℕ) → to < from → link_of tree from ≡ next_on_way tree from to
  next_up to l = sym (hop_up (link_of tree) (length tree.cliques) from to l is.last)

  child : (to : ℕ) → 1 < to → to ≤ length tree.cliques → IsChild (link_of tree) (length tree.cliques) to (link_of tree to)
  child to p q = record { later = p; within = q; link_is = refl }

  -- from the link of a clique it goes there
  pub next_near : (to : ℕ) → 1 < to → to ≤ length tree.cliques → link_of tree to ≡ from → to ≡ next_on_way tree from to
  next_near to p q e = sym (hop_near (link_of tree) (length tree.cliques) to from linked.earlier (inl (record { later = p; within = q; link_is = e })))

  -- to a later clique it goes as to its link
  pub next_down : (to : ℕ) → 1 < to → to ≤ length tree.cliques → from < to → link_of tree to ≢ from → next_on_way tree from (link_of tree to) ≡ next_on_way tree from to
  next_down to p q l d =
      sym (hop_step (link_of tree) (length tree.cliques) from to (link_of tree to) linked.earlier (inl (child to p q)) is.first is.last (λ e. omega arith) (λ e. d (sym e)))

  -- the next clique is a clique
  pub next_is_clique : (to : ℕ) → IsClique tree to → from ≢ to → IsClique tree (next_on_way tree from to)
  next_is_clique to at d =
      let l = hop_linked (link_of tree) (length tree.cliques) from to linked.earlier is.first is.last at.first at.last (λ e. d (sym e)) in
      let n = ends (link_of tree) (length tree.cliques) (next_on_way tree from to) from linked.earlier l in
      record { first = n.0; last = n.1 }

-- one clique more of the ways to one
pub next_more : (tree : GivenTree) (to count next : ℕ) (old new : List ℕ) → AreNextTo tree to count old → new ≡ old ++ next ∷ []
    → (count + 1 ≢ to → next ≡ next_on_way tree (count + 1) to) → AreNextTo tree to (count + 1) new
next_more tree to count next old new h pushed last = record {
  long = ap length pushed ∙ length_push old next ∙ ap (λ n. n + 1) h.long;
  next_is = λ from p q d. at from p q d (cases_eq from (count + 1));
}
  where
    at : (from : ℕ) → 1 ≤ from → from ≤ count + 1 → from ≢ to → ((from ≡ count + 1) ⊎ (from ≡ count + 1 → ⊥)) → slice_index new (from - 1) ≡ next_on_way tree from to
    at from p q d (inl e) =
        let i : from - 1 ≡ count = omega arith in
        ap (λ ns. slice_index ns (from - 1)) pushed ∙ ap (slice_index (old ++ next ∷ [])) i ∙ get_or_push old next 0 count h.long
        ∙ last (λ f. d (e ∙ f)) ∙ ap (λ k. next_on_way tree k to) (sym e)
    at from p q d (inr f) =
        let l : from - 1 < length old = omega (arith, h.long) in
        ap (λ ns. slice_index ns (from - 1)) pushed ∙ get_or-append old (next ∷ []) 0 (from - 1) l ∙ h.next_is from p (omega arith) d

-- to the first clique no way from an earlier one goes
pub next_at_first : (tree : GivenTree) (next : ℕ) → AreNextTo tree 1 1 (next ∷ [])
next_at_first tree next = record { long = refl; next_is = λ from p q d. absurd (d (omega (arith, p, q))) }

-- to a later one the ways from earlier ones go as to its link, but from the link itself
pub next_earlier : (tree : GivenTree) (linked : given.AreLinked tree) (to above : ℕ) → 1 < to → to ≤ length tree.cliques → link_of tree to ≡ above → 1 ≤ above → above < to
    → (old : List ℕ) → AreNextTo tree above (length tree.cliques) old → AreNextTo tree to to (set (take to old) (above - 1) to)
next_earlier tree linked to above later within up first below old h = record {
  long = length-set (take to old) (above - 1) to ∙ long;
  next_is = λ from p q d. at from p q d (cases_eq from above);
}
  where
    long : length (take to old) ≡ to
    long = length-take-le to old (omega (arith, h.long, within))

    at : (from : ℕ) → 1 ≤ from → from ≤ to → from ≢ to → ((from ≡ above) ⊎ (from ≡ above → ⊥)) → slice_index (set (take to old) (above - 1) to) (from - 1) ≡ next_on_way tree from to
    at from p q d (inl e) =
        let is : IsClique tree from = record { first = p; last = omega (arith, q, within) } in
        get_or-set_at (take to old) (above - 1) (from - 1) to 0 (omega (arith, e)) (omega (arith, long, first, below))
        ∙ next_near tree linked from is to later within (up ∙ sym e)
    at from p q d (inr f) =
        let is : IsClique tree from = record { first = p; last = omega (arith, q, within) } in
        get_or-set_other (take to old) (above - 1) (from - 1) to 0 (λ e. f (omega (arith, e, p, first)))
        ∙ get_or-take to old (from - 1) 0 (omega (arith, p, q))
        ∙ h.next_is from p (omega (arith, q, within)) f ∙ ap (next_on_way tree from) (sym up)
        ∙ next_down tree linked from is to later within (omega (arith, q, d)) (λ e. f (sym e ∙ up))

-- the ways to one clique more
pub ways_more : (tree : GivenTree) (count : ℕ) (old new : List (List ℕ)) (next : List ℕ) → AreWays tree count old → new ≡ old ++ next ∷ []
    → AreNextTo tree (count + 1) (length tree.cliques) next → AreWays tree (count + 1) new
ways_more tree count old new next h pushed last = record {
  long = ap length pushed ∙ length_push old next ∙ ap (λ n. n + 1) h.long;
  way_is = λ to p q. at to p q (cases_eq to (count + 1));
}
  where
    at : (to : ℕ) → 1 ≤ to → to ≤ count + 1 → ((to ≡ count + 1) ⊎ (to ≡ count + 1 → ⊥)) → AreNextTo tree to (length tree.cliques) (slice_index_or new (to - 1) [])
    at to p q (inl e) =
        let i : to - 1 ≡ count = omega arith in
        let r : slice_index_or new (to - 1) [] ≡ next = ap (λ (ns : List (List ℕ)). slice_index_or ns (to - 1) []) pushed
        ∙ ap (λ (k : ℕ). slice_index_or (old ++ next ∷ []) k []) i ∙ get_or_push old next [] count h.long in
        subst (λ (ns : List ℕ). AreNextTo tree to (length tree.cliques) ns) (sym r) (subst (λ (k : ℕ). AreNextTo tree k (length tree.cliques) next) (sym e) last)
    at to p q (inr f) =
        let l : to - 1 < length old = omega (arith, h.long) in
        let r : slice_index_or new (to - 1) [] ≡ slice_index_or old (to - 1) [] = ap (λ (ns : List (List ℕ)). slice_index_or ns (to - 1) []) pushed
        ∙ get_or-append old (next ∷ []) [] (to - 1) l in
        subst (λ (ns : List ℕ). AreNextTo tree to (length tree.cliques) ns) (sym r) (h.way_is to p (omega arith))

-- ways as they are kept: a list of vectors
pub ways_push : {A : Type 0} (f : A → List ℕ) (tree : GivenTree) (count : ℕ) (old new : List A) (next : A) → AreWays tree count (map f old)
    → new ≡ old ++ next ∷ [] → AreNextTo tree (count + 1) (length tree.cliques) (f next) → AreWays tree (count + 1) (map f new)
ways_push f tree count old new next h pushed last = ways_more tree count (map f old) (map f new) (f next) h (ap (map f) pushed ∙ map_push f old next) last

-- how many vectors there are, and how long each is
pub ways_long : {A : Type 0} (f : A → List ℕ) (tree : GivenTree) (count : ℕ) (ways : List A) → AreWays tree count (map f ways) → length ways ≡ count
ways_long f tree count ways h = sym (length-map ways f) ∙ h.long

pub way_of : {A : Type 0} (f : A → List ℕ) (tree : GivenTree) (count : ℕ) (ways : List A) → AreWays tree count (map f ways) → (to : ℕ) → 1 ≤ to → to ≤ count
    → (way : A) → way ≡ get_or ways (to - 1) way → AreNextTo tree to (length tree.cliques) (f way)
way_of f tree count ways h to p q way e =
    let long = ways_long f tree count ways h in
    let r : get_or (map f ways) (to - 1) [] ≡ f way =
    get_or_default (map f ways) (to - 1) [] (f way) (omega (arith, h.long)) ∙ get_or-map f ways (to - 1) way ∙ ap f (sym e) in
    subst (AreNextTo tree to (length tree.cliques)) r (h.way_is to p q)

-- what is read of them
pub next_read : {A : Type 0} (f : A → List ℕ) (tree : GivenTree) (count : ℕ) (ways : List A) → AreWays tree count (map f ways) → (from to : ℕ) → IsClique tree from → 1 ≤ to → to ≤ count → from ≢ to
    → (way : A) (next : ℕ) → way ≡ get_or ways (to - 1) way → next ≡ get_or (f way) (from - 1) next → next ≡ next_on_way tree from to
next_read f tree count ways h from to is p q d way next e g =
    let w = way_of f tree count ways h to p q way e in
    g ∙ get_or_default (f way) (from - 1) next 0 (omega (arith, w.long, is.first, is.last)) ∙ w.next_is from is.first is.last d

-- ---- a shape

module _ (shape : ShapeOf) (network : List Variable) (tree : GivenTree) (tree_is : shape.tree ≡ tree)
    (cliques : shape.cliques ≡ scopes_of_cliques network tree (length tree.cliques)) (cores : shape.cores ≡ scopes_of_cores network tree (length tree.cliques))
    (separators : shape.separators ≡ scopes_of_separators network tree (length tree.cliques - 1)) where
  counts : length shape.tree.cliques ≡ length tree.cliques
  counts = ap (λ (t : GivenTree). length t.cliques) tree_is

  one_each : length shape.cliques ≡ length shape.tree.cliques
  one_each = ap length cliques ∙ length-map-range_with_len (λ k. scope_within network (holds tree k)) 1 (length tree.cliques) ∙ sym counts

  one_core_each : length shape.cores ≡ length shape.tree.cliques
  one_core_each = ap length cores ∙ length-map-range_with_len (λ k. scope_within network (in_core tree k)) 1 (length tree.cliques) ∙ sym counts

  one_less : given.AreLinked tree → length shape.separators + 1 ≡ length shape.tree.cliques
  one_less linked =
      let n = ap length separators ∙ length-map-range_with_len (λ k. scope_within network (shares tree k)) 2 (length tree.cliques - 1) in
      omega (arith, n, counts, linked.some)

  pub shaped : given.AreLinked tree → (in_cliques in_links in_whole in_itself : List PlacesOf) → in_cliques ≡ places_of (shape_of tree [] shape.cores shape.separators) false (length tree.cliques - 1)
      → in_links ≡ places_of (shape_of tree [] shape.cores shape.separators) true (length tree.cliques - 1)
      → in_whole ≡ core_places_of (shape_of tree shape.cliques shape.cores []) (length tree.cliques)
      → in_itself ≡ core_places_of (shape_of tree shape.cores shape.cores []) (length tree.cliques)
      → (lists ways : List (List ℕ)) → lists ≡ lists_of_neighbours tree (length tree.cliques) → AreWays tree (length tree.cliques) ways
      → (starts : List ℕ) → AreStarts tree starts → (scopes : List ScopeOf) → scopes ≡ scopes_of shape → IsShaped shape scopes in_cliques in_links in_whole in_itself lists ways starts
  shaped linked in_cliques in_links in_whole in_itself p q w o lists ways l r starts s scopes e = record {
    linked = subst given.AreLinked (sym tree_is) linked;
    scopes_are = e;
    in_cliques_are = subst (λ (t : GivenTree). in_cliques ≡ places_of (shape_of t [] shape.cores shape.separators) false (length t.cliques - 1)) (sym tree_is) p;
    in_links_are = subst (λ (t : GivenTree). in_links ≡ places_of (shape_of t [] shape.cores shape.separators) true (length t.cliques - 1)) (sym tree_is) q;
    in_whole_are = subst (λ (t : GivenTree). in_whole ≡ core_places_of (shape_of t shape.cliques shape.cores []) (length t.cliques)) (sym tree_is) w;
    in_itself_are = subst (λ (t : GivenTree). in_itself ≡ core_places_of (shape_of t shape.cores shape.cores []) (length t.cliques)) (sym tree_is) o;
    one_each = one_each;
    one_core_each = one_core_each;
    one_less = one_less linked;
    neighbours_are = subst (λ (t : GivenTree). lists ≡ lists_of_neighbours t (length t.cliques)) (sym tree_is) l;
    ways_are = subst (λ (t : GivenTree). AreWays t (length t.cliques) ways) (sym tree_is) r;
    starts_are = subst (λ (t : GivenTree). AreStarts t starts) (sym tree_is) s;
  }

  -- there are few enough of all scopes
  pub few_scopes : given.AreLinked tree → {A : Type 0} (f : A → ScopeOf) (items : List A) → map f items ≡ scopes_of shape → length items ≤ 4096
  few_scopes linked f items e =
      let all = simp length-append at (ap (λ (xs : List ScopeOf). length xs) e) in let same = length-map items f in
      omega (arith, all, same, one_each, one_core_each, one_less linked, ap (λ (t : GivenTree). length t.cliques) tree_is, linked.few)

  pub shape_for : IsNetwork network → IsTreeOf network tree → IsShapeFor shape network
  shape_for legal is = record {
    legal = legal;
    tree_is = subst (IsTreeOf network) (sym tree_is) is;
    one_each = one_each;
    one_core_each = one_core_each;
    one_less = one_less is.linked;
    clique_scopes = λ k at.
        ap (λ (ss : List ScopeOf). slice_index_or ss (k - 1) no_scope) cliques
        ∙ get_or-map-range_with_len (λ i. scope_within network (holds tree i)) 1 (length tree.cliques) (k - 1) k no_scope (omega (arith, at.first, at.last, counts)) (omega (arith, at.first))
        ∙ ap (λ (t : GivenTree). scope_within network (holds t k)) (sym tree_is);
    core_scopes = λ k at.
        ap (λ (ss : List ScopeOf). slice_index_or ss (k - 1) no_scope) cores
        ∙ get_or-map-range_with_len (λ i. scope_within network (in_core tree i)) 1 (length tree.cliques) (k - 1) k no_scope (omega (arith, at.first, at.last, counts)) (omega (arith, at.first))
        ∙ ap (λ (t : GivenTree). scope_within network (in_core t k)) (sym tree_is);
    separator_scopes = λ k at more.
        ap (λ (ss : List ScopeOf). slice_index_or ss (k - 2) no_scope) separators
        ∙ get_or-map-range_with_len (λ i. scope_within network (shares tree i)) 2 (length tree.cliques - 1) (k - 2) k no_scope (omega (arith, at.first, at.last, counts)) (omega arith)
        ∙ ap (λ (t : GivenTree). scope_within network (shares t k)) (sym tree_is);
  }

  -- each separator lies in the cores at its ends
  pub can_place : IsNetwork network → IsTreeOf network tree → (in_link : Bool) → CanPlaceSeparators (shape_of shape.tree [] shape.cores shape.separators) in_link
  can_place legal is in_link = record {
    one_each = for.one_core_each;
    one_less = for.one_less;
    lie = λ k at more.
        subst (λ (part : ScopeOf). LiesIn part (core_scope shape (whole_of shape.tree in_link k))) (sym (for.separator_scopes k at more)) (lies in_link k at more);
  }
    where
      for : IsShapeFor shape network
      for = shape_for legal is

      lies : (b : Bool) (k : ℕ) → IsClique shape.tree k → 1 < k → LiesIn (scope_within network (shares shape.tree k)) (core_scope shape (whole_of shape.tree b k))
      lies false k at more = subst (LiesIn (scope_within network (shares shape.tree k))) (sym (for.core_scopes k at)) (shared_lies_in_core network shape.tree for.tree_is.linked k at more)
      lies true k at more =
          let l = for.tree_is.linked.earlier k more at.last in
          subst (LiesIn (scope_within network (shares shape.tree k))) (sym (for.core_scopes (link_of shape.tree k) (record { first = l.0; last = omega (arith, l.1, at.last) })))
          (shared_lies_in_link_core network shape.tree for.tree_is.linked k at more)

  -- and each core in its clique
  pub can_place_cores : IsNetwork network → IsTreeOf network tree → CanPlaceCores (shape_of shape.tree shape.cliques shape.cores [])
  can_place_cores legal is = record {
    one_each = for.one_each;
    one_core_each = for.one_core_each;
    lie = λ k at.
        subst (λ (part : ScopeOf). LiesIn part (clique_scope shape k)) (sym (for.core_scopes k at))
        (subst (LiesIn (scope_within network (in_core shape.tree k))) (sym (for.clique_scopes k at)) (core_lies_in network shape.tree k));
  }
    where
      for : IsShapeFor shape network
      for = shape_for legal is

  pub can_place_in_itself : IsNetwork network → IsTreeOf network tree → CanPlaceCores (shape_of shape.tree shape.cores shape.cores [])
  can_place_in_itself legal is = record {
    one_each = (shape_for legal is).one_core_each;
    one_core_each = (shape_for legal is).one_core_each;
    lie = λ k at x h. (h, refl);
  }

-- ---- the places of separators

-- a scope that is read of those that are kept
pub scope_read : {A : Type 0} (f : A → ScopeOf) (xs : List A) (i j : ℕ) (x : A) → i < length xs → i ≡ j → x ≡ get_or xs i x → f x ≡ slice_index_or (map f xs) j no_scope
scope_read f xs i j x l same e =
    ap f e ∙ sym (get_or-map f xs i x) ∙ get_or_default (map f xs) i (f x) no_scope (let m = length-map xs f in omega (arith, l, m)) ∙ ap (λ n. slice_index_or (map f xs) n no_scope) same

-- one more
pub place_more : (shape : ShapeOf) (in_link : Bool) (passed whole : ℕ) (old new : List PlacesOf) (places : PlacesOf) (in_whole in_part : ScopeOf) → old ≡ places_of shape in_link passed → new ≡ old ++ places ∷ []
    → whole ≡ whole_of shape.tree in_link (passed + 2) → in_whole ≡ core_scope shape whole → in_part ≡ separator_scope shape (passed + 2)
    → places ≡ record { whole = in_whole; part = in_part } → new ≡ places_of shape in_link (passed + 1)
place_more shape in_link passed whole old new places in_whole in_part h pushed is w p e =
    one_more_listed (λ k. record { whole = core_scope shape (whole_of shape.tree in_link k); part = separator_scope shape k }) old new places 2 passed (passed + 2) h pushed
    (e ∙ ap (λ (s : ScopeOf). record { whole = s; part = in_part }) (w ∙ ap (core_scope shape) is) ∙ ap (λ (s : ScopeOf). record { whole = core_scope shape (whole_of shape.tree in_link (passed + 2)); part = s }) p)
    (omega arith)

-- how many there are
pub places_long : (shape : ShapeOf) (in_link : Bool) (count : ℕ) (places : List PlacesOf) → places ≡ places_of shape in_link count → length places ≡ count
places_long shape in_link count places h = ap length h ∙ length-map-range_with_len (λ k. record { whole = core_scope shape (whole_of shape.tree in_link k); part = separator_scope shape k }) 2 count

-- what is read of them
pub places_read : (shape : ShapeOf) (in_link : Bool) (count : ℕ) (places : List PlacesOf) → places ≡ places_of shape in_link count → (k : ℕ) → 1 < k → k - 2 < count
    → (read : PlacesOf) → read ≡ get_or places (k - 2) read → read ≡ record { whole = core_scope shape (whole_of shape.tree in_link k); part = separator_scope shape k }
places_read shape in_link count places h k more l read e =
    e ∙ ap (λ (ps : List PlacesOf). get_or ps (k - 2) read) h
    ∙ get_or-map-range_with_len (λ i. record { whole = core_scope shape (whole_of shape.tree in_link i); part = separator_scope shape i }) 2 count (k - 2) k read l (omega arith)

-- one core more
pub core_place_more : (shape : ShapeOf) (passed : ℕ) (old new : List PlacesOf) (places : PlacesOf) (in_whole in_part : ScopeOf) → old ≡ core_places_of shape passed → new ≡ old ++ places ∷ []
    → in_whole ≡ clique_scope shape (passed + 1) → in_part ≡ core_scope shape (passed + 1) → places ≡ record { whole = in_whole; part = in_part } → new ≡ core_places_of shape (passed + 1)
core_place_more shape passed old new places in_whole in_part h pushed w p e =
    one_more_listed (λ k. record { whole = clique_scope shape k; part = core_scope shape k }) old new places 1 passed (passed + 1) h pushed
    (e ∙ ap (λ (s : ScopeOf). record { whole = s; part = in_part }) w ∙ ap (λ (s : ScopeOf). record { whole = clique_scope shape (passed + 1); part = s }) p)
    (omega arith)

-- the core's places that are read of them
pub core_places_long : (shape : ShapeOf) (count : ℕ) (places : List PlacesOf) → places ≡ core_places_of shape count → length places ≡ count
core_places_long shape count places h = ap length h ∙ length-map-range_with_len (λ k. record { whole = clique_scope shape k; part = core_scope shape k }) 1 count

pub core_places_read : (shape : ShapeOf) (count : ℕ) (places : List PlacesOf) → places ≡ core_places_of shape count → (k : ℕ) → 1 ≤ k → k - 1 < count
    → (read : PlacesOf) → read ≡ get_or places (k - 1) read → read ≡ record { whole = clique_scope shape k; part = core_scope shape k }
core_places_read shape count places h k first l read e =
    e ∙ ap (λ (ps : List PlacesOf). get_or ps (k - 1) read) h
    ∙ get_or-map-range_with_len (λ i. record { whole = clique_scope shape i; part = core_scope shape i }) 1 count (k - 1) k read l (omega (arith, first))
