-- The clique of an added question, in the numbers of a network, and its cells.
use Rattle.std.proofs.Common.{◌≡◌, ℕ, zero, suc, ◌+◌, ◌-◌, ◌*◌, ◌<◌, ◌≤◌, ◌⊎◌, inl, inr, Bool}
use Rattle.std.proofs.Common.{true, false}
use Rattle.std.proofs.Common.{cond, not, ◌&&◌, ◌||◌, leb, List, [], ◌∷◌, ◌++◌, length, map, filter}
use Rattle.std.proofs.Common.{slice_index, slice_index_or, Option, Some, None, refl, sym, ap, ap₂}
use Rattle.std.proofs.Common.{◌∙◌}
use Rattle.std.proofs.Common.{subst, arith, mul_assoc}
use Rattle.std.specs.Prelude.{◌==◌, sum_by, find, option_map}
use Rattle.std.specs.List.{AllByRecursion, list_any, filter_map, cons_option, range_with_len}
use Rattle.std.proofs.lemmas.Bool.{cases_eq, eqb-true, ne_eqb, and_cases, and_parts, not-false}
use Rattle.std.proofs.lemmas.Bool.{false_from_ne_true, le-leb}
use Rattle.std.proofs.lemmas.List.{get_or-map}
use Rattle.std.proofs.lemmas.List.Elements.{recursion_from_All, filter-append}
use Rattle.std.proofs.lemmas.List.Sums.{sum_by-cons}
use Rattle.mk_net.specs.Bounds.{max_clique_cells}
use Rattle.mk_net.specs.Network.{Variable, IsNetwork, sizes, choices}
use Rattle.mk_sets.specs.Sets.{VarSet, is_member, no_variables}
use Rattle.mk_names.specs.Texts.{same_text}
use Rattle.mk_names.specs.inner.TextLaws.{equal_of_same_text}
use Rattle.mk_net.proofs.Networks.{two_values}
use Rattle.mk_net.proofs.Behind.{choices_same, size_before, size_last, filter_below}
use Rattle.mk_states.specs.States.{numbers_below}
use Rattle.mk_states.proofs.Sums.{each_weaker}
use Rattle.mk_tree.specs.Given.{clique_at}
use Rattle.mk_tree.specs.Checked.{IsTreeOf}
use Rattle.mk_tree.specs.Tests.{members, cells_of}
use Rattle.mk_file.specs.declared.market_file.MarketFile.{MarketFile}
use Rattle.mk_file.specs.MarketOf.{market_of}
use Rattle.mk_addition.specs.declared.add.AddText.{AddText}
use Rattle.mk_reply.specs.declared.refusal.Refusal.TheVariants.{Uncovered, NotRunning}
use Rattle.mk_rules.specs.Additions.{number_named, numbers_named, is_among, added_variable}
use Rattle.mk_rules.specs.Additions.{longer_network, added_clique, taken, uncovered}
use Rattle.mk_rules.specs.Additions.{holds_named, not_running}
use Rattle.mk_rules.proofs.Unrefused.{not_faulted, not_mapped}
use Rattle.mk_rules.proofs.Spreads.{none_found}
use Rattle.mk_rules.proofs.Naming.{number_kept, number_last, number_before}
use Rattle.mk_rules.proofs.Naming.{not_numbered, numbers_have, number_of_name, no_more_numbers}
use Rattle.mk_rules.proofs.Cells.{choices_within, kept_below}
use Rattle.mk_admission.proofs.Numbered.{is_in, numbers_below_length}

-- ---- its variables, in rising order

range_more : (a n : ℕ) → range_with_len a (suc n) ≡ range_with_len a n ++ (a + n) ∷ []
range_more a zero = let same : a ≡ a + 0 = omega arith in ap (λ k. k ∷ []) same
range_more a (suc n) =
    let same : a + 1 + n ≡ a + suc n = omega arith in
    ap (λ xs. a ∷ xs) (range_more (a + 1) n ∙ ap (λ k. range_with_len (a + 1) n ++ k ∷ []) same)

below_more : (n : ℕ) → numbers_below (n + 1) ≡ numbers_below n ++ n ∷ []
below_more n =
    let next : n + 1 ≡ suc n = omega arith in
    let last : 0 + n ≡ n = omega arith in
    ap numbers_below next ∙ range_more 0 n ∙ ap (λ k. numbers_below n ++ k ∷ []) last

-- what names name among the earlier variables
names_alike : (network : List Variable) (v : Variable) (x : ℕ) → x < length network
    → (names : List (List ℕ))
    → is_in (numbers_named (network ++ v ∷ []) names) x ≡ is_in (numbers_named network names) x
names_alike network v x within [] = refl
names_alike network v x within (name ∷ names) =
    at (number_named network name) (number_named (network ++ v ∷ []) name) refl refl
    (names_alike network v x within names)
  where
    last : (y : ℕ) → number_named network name ≡ None
        → number_named (network ++ v ∷ []) name ≡ Some y → (y == x) ≡ false
    last y e f = split (cases_eq y (length network))
      where
        split : ((y ≡ length network) ⊎ (y ≡ length network → ⊥)) → (y == x) ≡ false
        split (inl same) = ne_eqb y x (λ i. omega (arith, i, same, within))
        split (inr other) = let known = number_before network v name y f other in absurd (cc)

    at : (o p : Option ℕ) → number_named network name ≡ o
        → number_named (network ++ v ∷ []) name ≡ p
        → is_in (numbers_named (network ++ v ∷ []) names) x ≡ is_in (numbers_named network names) x
        → is_in (cons_option p (numbers_named (network ++ v ∷ []) names)) x
        ≡ is_in (cons_option o (numbers_named network names)) x
    at (Some k) p e f rest =
        let same : p ≡ Some k = sym f ∙ number_kept network v name k e in
        ap (λ o. is_in (cons_option o (numbers_named (network ++ v ∷ []) names)) x) same
        ∙ ap (λ (b : Bool). (k == x) || b) rest
    at None None e f rest = rest
    at None (Some y) e f rest =
        ap (λ (b : Bool). b || is_in (numbers_named (network ++ v ∷ []) names) x) (last y e f)
        ∙ rest

module _ (network : List Variable) (add : AddText) (others : VarSet)
    (untaken : taken network add.variable ≡ None)
    (covered : is_among add.clique.items add.variable ≡ true)
    (named : (x : ℕ) → is_member others x ≡ is_in (numbers_named network add.clique.items) x) where
  abbrev v : Variable
  v = added_variable network add

  abbrev longer : List Variable
  longer = longer_network network add

  not_known : number_named network add.variable ≡ None
  not_known = not_numbered network add.variable (not_faulted _ _ untaken)

  own : is_in (numbers_named longer add.clique.items) (length network) ≡ true
  own =
      numbers_have (number_named longer) add.clique.items add.variable (length network) covered
      (number_last network v add.variable not_known refl)

  abbrev in_clique : ℕ → Bool
  in_clique x = is_in (numbers_named longer add.clique.items) x

  -- the clique is the others, and then the added one
  pub clique_is : members network others ++ length network ∷ [] ≡ added_clique network add
  clique_is =
      ap₂ (λ xs ys. xs ++ ys)
      (filter_below (is_member others) in_clique (length network) 0
      (λ x low high. named x ∙ sym (names_alike network v x (omega (arith, high))
      add.clique.items)))
      (sym (ap (λ (b : Bool). cond b (length network ∷ []) []) own))
      ∙ sym (filter-append in_clique (numbers_below (length network)) (length network ∷ []))
      ∙ sym (ap (filter in_clique) (below_more (length network)))

-- ---- how many there are

one_out : (p : ℕ → Bool) (z n a : ℕ)
    → length (filter p (range_with_len a n))
    ≤ 1 + length (filter (λ x. p x && not (x == z)) (range_with_len a n))
one_out p z zero a = omega arith
one_out p z (suc n) a = at (p a) (a == z) refl (one_out p z n (a + 1))
  where
    and_true : (b : Bool) → b ≡ (b && true)
    and_true true = refl
    and_true false = refl

    test : ℕ → Bool
    test x = p x && not (x == z)

    agree : a ≡ z → (k : ℕ) → a + 1 ≤ k → k < a + 1 + n → p k ≡ test k
    agree same k low high = rw (ne_eqb k z (λ e. omega (arith, e, same, low))) (and_true (p k))

    at : (b c : Bool) → (a == z) ≡ c
        → length (filter p (range_with_len (a + 1) n))
        ≤ 1 + length (filter test (range_with_len (a + 1) n))
        → length (cond b (a ∷ filter p (range_with_len (a + 1) n))
        (filter p (range_with_len (a + 1) n)))
        ≤ 1 + length (cond (b && not c) (a ∷ filter test (range_with_len (a + 1) n))
        (filter test (range_with_len (a + 1) n)))
    at false c s rest = rest
    at true false s rest = omega (arith, rest)
    at true true s rest =
        let alike : filter p (range_with_len (a + 1) n) ≡ filter test (range_with_len (a + 1) n) =
        filter_below p test n (a + 1) (agree (eqb-true a z s)) in
        let same : length (filter p (range_with_len (a + 1) n))
        ≡ length (filter test (range_with_len (a + 1) n)) = ap length alike in
        omega (arith, same)

none_kept : (p : ℕ → Bool) → ((x : ℕ) → p x ≡ false) → (xs : List ℕ) → filter p xs ≡ []
none_kept p none [] = refl
none_kept p none (x ∷ xs) = rw (none x) (none_kept p none xs)

few_held : (zs : List ℕ) (p : ℕ → Bool) (n a : ℕ)
    → ((x : ℕ) → p x ≡ true → is_in zs x ≡ true)
    → length (filter p (range_with_len a n)) ≤ length zs
few_held [] p n a within =
    let none = none_kept p (λ x. false_from_ne_true (p x) (λ e. let i = within x e in absurd (cc)))
    (range_with_len a n) in
    let empty : length (filter p (range_with_len a n)) ≡ 0 = ap length none in
    omega (arith, empty)
few_held (z ∷ zs) p n a within =
    omega (arith, one_out p z n a, few_held zs (λ x. p x && not (x == z)) n a held)
  where
    later : (x : ℕ) (b : Bool) → (x == z) ≡ b → not b ≡ true → ((z == x) || is_in zs x) ≡ true
        → is_in zs x ≡ true
    later x true e h i = cc
    later x false e h i =
        rw (ne_eqb z x (λ same. let e2 = eqb_same x z (sym same) in absurd (cc))) at i
      where
        eqb_same : (a b : ℕ) → a ≡ b → (a == b) ≡ true
        eqb_same a b same = grind (arith, same)

    held : (x : ℕ) → (p x && not (x == z)) ≡ true → is_in zs x ≡ true
    held x e =
        let parts = and_parts (p x) (not (x == z)) e in
        later x (x == z) refl parts.1 (within x parts.0)

-- a name without a number is among them
fewer_numbers : (f : List ℕ → Option ℕ) (names : List (List ℕ)) (name : List ℕ)
    → is_among names name ≡ true → f name ≡ None
    → length (filter_map f names) + 1 ≤ length names
fewer_numbers f [] name h e = cc
fewer_numbers f (other ∷ names) name h e =
    at (same_text name other) refl h (λ i. fewer_numbers f names name i e)
  where
    without : f other ≡ None → length (filter_map f (other ∷ names)) + 1 ≤ length (other ∷ names)
    without i =
        let same : length (filter_map f (other ∷ names)) ≡ length (filter_map f names) =
        ap (λ (o : Option ℕ). length (cons_option o (filter_map f names))) i in
        omega (arith, same, no_more_numbers f names)

    more : (o : Option ℕ) → length (filter_map f names) + 1 ≤ length names
        → length (cons_option o (filter_map f names)) + 1 ≤ length (other ∷ names)
    more None i = omega (arith, i)
    more (Some k) i = omega (arith, i)

    at : (b : Bool) → same_text name other ≡ b → (b || is_among names name) ≡ true
        → (is_among names name ≡ true → length (filter_map f names) + 1 ≤ length names)
        → length (filter_map f (other ∷ names)) + 1 ≤ length (other ∷ names)
    at true s i later = without (ap f (sym (equal_of_same_text name other s)) ∙ e)
    at false s i later = more (f other) (later i)

pub members_few : (network : List Variable) (add : AddText) (others : VarSet)
    → taken network add.variable ≡ None → is_among add.clique.items add.variable ≡ true
    → ((x : ℕ) → is_member others x ≡ is_in (numbers_named network add.clique.items) x)
    → length add.clique.items ≤ 13 → length (members network others) < 13
members_few network add others untaken covered named few =
    omega (
      arith,
      few,
      few_held (numbers_named network add.clique.items) (is_member others) (length network) 0
          (λ x e. sym (named x) ∙ e),
      fewer_numbers (number_named network) add.clique.items add.variable covered
          (not_numbered network add.variable (not_faulted _ _ untaken)),
    )

-- ---- the refusals of its clique

uncovered_is : (add : AddText) (clique parents : List (List ℕ)) → clique ≡ add.clique.items
    → parents ≡ add.parents.items → is_among clique add.variable ≡ true
    → uncovered add ≡ option_map Uncovered (find (λ name. not (is_among clique name)) parents)
uncovered_is add clique parents e f h =
    ap (λ (b : Bool). option_map Uncovered (cond (not b) (Some add.variable)
    (find (λ name. not (is_among add.clique.items name)) add.parents.items)))
    (ap (λ names. is_among names add.variable) (sym e) ∙ h)
    ∙ sym (ap₂ (λ names ps. option_map Uncovered (find (λ name. not (is_among names name)) ps)) e f)

-- so the refusal is of what is found among the parents
pub uncovered_by : (add : AddText) (clique parents : List (List ℕ)) → clique ≡ add.clique.items
    → parents ≡ add.parents.items → is_among clique add.variable ≡ true
    → (left : Option (List ℕ)) → find (λ name. not (is_among clique name)) parents ≡ left
    → option_map Uncovered left ≡ uncovered add
uncovered_by add clique parents e f h left is =
    sym (uncovered_is add clique parents e f h ∙ ap (option_map Uncovered) is)

pub uncovered_own : (add : AddText) (clique : List (List ℕ)) → clique ≡ add.clique.items
    → is_among clique add.variable ≡ false → Some (Uncovered add.variable) ≡ uncovered add
uncovered_own add clique e h =
    sym (ap (λ (b : Bool). option_map Uncovered (cond (not b) (Some add.variable)
    (find (λ name. not (is_among add.clique.items name)) add.parents.items)))
    (ap (λ names. is_among names add.variable) (sym e) ∙ h))

-- the clique holds its variable where nothing is uncovered
pub own_is_covered : (add : AddText) → uncovered add ≡ None
    → is_among add.clique.items add.variable ≡ true
own_is_covered add h = at (is_among add.clique.items add.variable) h
  where
    at : (b : Bool) → option_map Uncovered (cond (not b) (Some add.variable)
        (find (λ name. not (is_among add.clique.items name)) add.parents.items)) ≡ None
        → b ≡ true
    at true i = refl
    at false i = cc

linked_is : (file : MarketFile) (link : ℕ) → 1 ≤ link → link ≤ length file.tree.cliques
    → slice_index_or (market_of file).cliques (link - 1) []
    ≡ members file.net (clique_at file.tree link)
linked_is file link first last =
    get_or-map (members file.net) file.tree.cliques (link - 1) no_variables []
    (omega (arith, first, last))

-- the test by which the first name is found that the linked clique does not hold
abbrev pub is_outside : List Variable → List ℕ → List ℕ → List ℕ → Bool
is_outside network linked own name =
    not (same_text name own) && not (holds_named network linked name)

pub running_is : (file : MarketFile) (add : AddText) (names : List (List ℕ)) (set : VarSet)
    → names ≡ add.clique.items → set ≡ clique_at file.tree add.link → 1 ≤ add.link
    → add.link ≤ length file.tree.cliques
    → not_running (market_of file) add ≡ option_map NotRunning
    (find (is_outside file.net (members file.net set) add.variable) names)
running_is file add names set e f first last =
    ap₂ (λ linked ns. option_map NotRunning (find (is_outside file.net linked add.variable) ns))
    (linked_is file add.link first last ∙ ap (members file.net) (sym f)) (sym e)

-- the linked clique holds the others, where none runs out of it
shared_held : (network : List Variable) (own : List ℕ) (linked : List ℕ) (names : List (List ℕ))
    → number_named network own ≡ None
    → find (is_outside network linked own) names ≡ None
    → (x : ℕ) → is_in (numbers_named network names) x ≡ true → is_in linked x ≡ true
shared_held network own linked names none found x h =
    let name = number_of_name (number_named network)
    (λ name. is_outside network linked own name ≡ false) names x
    (none_found (is_outside network linked own) names found) h in
    at (name.0) (name.2)
    (and_cases (not (same_text (name.0) own)) (not (holds_named network linked (name.0))) (name.1))
  where
    alone : (b : Bool) → (b || false) ≡ true → b ≡ true
    alone true i = refl
    alone false i = cc

    at : (name : List ℕ) → number_named network name ≡ Some x
        → ((not (same_text name own) ≡ false) ⊎ (not (holds_named network linked name) ≡ false))
        → is_in linked x ≡ true
    at name e (inl same) =
        let alike = equal_of_same_text name own (not-false (same_text name own) same) in
        let known : number_named network own ≡ Some x = ap (number_named network) (sym alike) ∙ e in
        absurd (cc)
    at name e (inr held) =
        alone (is_in linked x)
        (subst (λ (o : Option ℕ). list_any (is_in linked) (cons_option o []) ≡ true) e
        (not-false (holds_named network linked name) held))

-- ---- its cells

choices_push : (ns xs : List ℕ) (k : ℕ)
    → choices ns xs * slice_index ns k ≡ choices ns (xs ++ k ∷ [])
choices_push ns [] k = omega arith
choices_push ns (x ∷ xs) k =
    mul_assoc (slice_index ns x) (choices ns xs) (slice_index ns k)
    ∙ ap (λ m. slice_index ns x * m) (choices_push ns xs k)

members_below : (network : List Variable) (set : VarSet)
    → AllByRecursion (λ x. x < length network) (members network set)
members_below network set = kept_below (is_member set) (length network)

-- the cells of earlier cliques stay as they are
cells_stay : (network : List Variable) (v : Variable) (set : VarSet)
    → choices (sizes (network ++ v ∷ [])) (members network set) ≡ cells_of network set
cells_stay network v set =
    choices_same (sizes network) (sizes (network ++ v ∷ [])) (length network)
    (size_before network v) (members network set) (members_below network set)

sum_stays : (network : List Variable) (v : Variable) (sets : List VarSet)
    → sum_by (cells_of network) sets
    ≡ sum_by (choices (sizes (network ++ v ∷ []))) (map (members network) sets)
sum_stays network v [] = refl
sum_stays network v (set ∷ sets) =
    sum_by-cons (cells_of network) set sets
    ∙ ap₂ (λ m n. m + n) (sym (cells_stay network v set)) (sum_stays network v sets)
    ∙ sym (sum_by-cons (choices (sizes (network ++ v ∷ []))) (members network set)
    (map (members network) sets))

pub total_is : (file : MarketFile) (add : AddText) (total : ℕ)
    → total ≡ sum_by (cells_of file.net) file.tree.cliques
    → total ≡ sum_by (choices (sizes (longer_network file.net add))) (market_of file).cliques
total_is file add total e =
    e ∙ sum_stays file.net (added_variable file.net add) file.tree.cliques

-- what holds of each number of a list holds of one that is in it
in_has : (P : ℕ → Type 0) (xs : List ℕ) (x : ℕ) → AllByRecursion P xs → is_in xs x ≡ true → P x
in_has P [] x all h = cc
in_has P (y ∷ ys) x all h = at (y == x) refl h (in_has P ys x all.1)
  where
    at : (b : Bool) → (y == x) ≡ b → (b || is_in ys x) ≡ true → (is_in ys x ≡ true → P x) → P x
    at true e i later = subst P (eqb-true y x e) all.0
    at false e i later = later i

-- a set of known variables has these alone
pub set_below : (network : List Variable) (names : List (List ℕ)) (set : VarSet)
    → ((x : ℕ) → is_member set x ≡ is_in (numbers_named network names) x)
    → (x : ℕ) → is_member set x ≡ true → x < length network
set_below network names set named x h =
    in_has (λ v. v < length network) (numbers_named network names) x
    (recursion_from_All (λ v. v < length network) (numbers_named network names)
    (numbers_below_length network names)) (sym (named x) ∙ h)

module _ (file : MarketFile) (add : AddText) (others : VarSet) (net : IsNetwork file.net)
    (tree : IsTreeOf file.net file.tree)
    (untaken : taken file.net add.variable ≡ None) (first : 1 ≤ add.link)
    (last : add.link ≤ length file.tree.cliques)
    (running : not_running (market_of file) add ≡ None)
    (named : (x : ℕ) → is_member others x ≡ is_in (numbers_named file.net add.clique.items) x) where
  abbrev linked : VarSet
  linked = clique_at file.tree add.link

  held : (x : ℕ) → is_member others x ≡ true → is_in (members file.net linked) x ≡ true
  held x e =
      shared_held file.net add.variable (members file.net linked) add.clique.items
      (not_numbered file.net add.variable (not_faulted _ _ untaken))
      (not_mapped _ _ (sym (running_is file add add.clique.items linked refl refl first last)
      ∙ running)) x (sym (named x) ∙ e)

  some_values : AllByRecursion (λ x. 1 ≤ slice_index (sizes file.net) x) (members file.net linked)
  some_values =
      each_weaker (λ x. x < length file.net) (λ x. 1 ≤ slice_index (sizes file.net) x)
      (λ x inside. omega (arith, two_values file.net x net inside)) (members file.net linked)
      (members_below file.net linked)

  -- the others have no more cells than the linked clique
  pub others_few : cells_of file.net others ≤ max_clique_cells
  others_few =
      let most : cells_of file.net linked ≤ max_clique_cells =
      tree.small_cliques (add.link - 1) no_variables (omega (arith, first, last)) in
      omega (
        arith,
        most,
        choices_within (sizes file.net) (members file.net linked)
            (is_member others) (length file.net) 0 some_values held,
      )

  -- with the added variable they have as many as the clique
  pub own_is : (covered : is_among add.clique.items add.variable ≡ true) (cells values : ℕ)
      → cells ≡ cells_of file.net others → values ≡ length add.values.items
      → cells * values ≡ choices (sizes (longer_network file.net add)) (added_clique file.net add)
  own_is covered cells values e f =
      let v = added_variable file.net add in
      ap₂ (λ m n. m * n) (e ∙ sym (cells_stay file.net v others)) (f ∙ sym (size_last file.net v))
      ∙ choices_push (sizes (longer_network file.net add)) (members file.net others)
      (length file.net)
      ∙ ap (choices (sizes (longer_network file.net add)))
      (clique_is file.net add others untaken covered named)

-- the count of few cells is what was asked for
pub counted_cells : (o : Option ℕ) (cells most : ℕ) → o ≡ cond (leb cells most) (Some cells) None
    → cells ≤ most → o ≡ Some cells
counted_cells o cells most e few =
    e ∙ ap (λ (b : Bool). cond b (Some cells) None) (le-leb cells most few)
