-- A question that is added and meets no refusal: it extends the network, its clique may stand
-- behind the others, and the market is one with it.
use Rattle.std.proofs.Common.{◌≡◌, ◌≢◌, ℕ, ◌+◌, ◌-◌, ◌<◌, ◌≤◌, ◌⊎◌, inl, inr, Bool, true}
use Rattle.std.proofs.Common.{false, not, cond, ◌&&◌, ◌||◌, leb, ltb, List, [], ◌∷◌, ◌++◌, length}
use Rattle.std.proofs.Common.{sum, slice_index, slice_index_or, Option, Some, None, refl, sym, ap}
use Rattle.std.proofs.Common.{◌∙◌, subst, arith}
use Rattle.std.specs.Prelude.{⊤, ◌==◌, sum_by, All}
use Rattle.std.specs.List.{AllByRecursion, list_any, enumerate_from, flat_map, cons_option}
use Rattle.std.proofs.Math.Nat.{mul-le-mul}
use Rattle.std.proofs.lemmas.Bool.{leb-false, ltb-false, eqb-true, not-false, and_cases, or_parts}
use Rattle.std.proofs.lemmas.Bool.{cases_eq, eq-eqb, or_right, and_parts, leb-true, cases_Bool}
use Rattle.std.proofs.lemmas.Bool.{false_from_ne_true, both_ways}
use Rattle.std.proofs.lemmas.List.{length_push}
use Rattle.std.proofs.lemmas.List.Elements.{All-from_recursion}
use Rattle.std.proofs.lemmas.List.Sums.{sum_by_push}
use Rattle.mk_net.specs.Bounds.{max_variables, max_clique_cells, max_cells, million}
use Rattle.mk_net.specs.Network.{Variable, IsNetwork, names, sizes, choices}
use Rattle.mk_net.specs.Zeros.{HasNoZeros}
use Rattle.mk_names.specs.Texts.{same_text}
use Rattle.mk_names.specs.inner.TextLaws.{equal_of_same_text}
use Rattle.mk_net.specs.Additions.{CanExtend}
use Rattle.mk_net.specs.declared.addition.Addition.{Addition as Extension}
use Rattle.mk_net.proofs.Networks.{two_values}
use Rattle.mk_net.proofs.Behind.{choices_same, size_before, size_last}
use Rattle.mk_net.proofs.Behind.{extended_is_network, extended_has_no_zeros}
use Rattle.mk_states.specs.States.{numbers_below}
use Rattle.mk_states.proofs.Sums.{each-append, each_weaker, each_always, sum_by_each}
use Rattle.mk_exact.specs.History.{Entry, Add as Adds}
use Rattle.mk_exact.specs.Market.{Market, with_entry}
use Rattle.mk_addition.specs.Adds.{IsAddText}
use Rattle.mk_addition.specs.declared.add.AddText.{AddText}
use Rattle.mk_command.specs.declared.command.Command.TheVariants.{Add}
use Rattle.mk_rules.specs.Additions.{number_named, numbers_named, is_among, added_variable}
use Rattle.mk_rules.specs.Additions.{longer_network, added_clique, addition_of, taken}
use Rattle.mk_rules.specs.Additions.{uncovered, holds_named, not_running, most_share}
use Rattle.mk_rules.specs.Additions.{shares_of, too_large}
use Rattle.mk_rules.specs.Refusals.{least_share, refusals, first_refusal}
use Rattle.mk_rules.specs.Standings.{IsMarket}
use Rattle.mk_rules.proofs.Unrefused.{none_applies, not_faulted, not_mapped}
use Rattle.mk_rules.proofs.Spreads.{none_found, numbers_in_range}
use Rattle.mk_rules.proofs.Naming.{number_below, one_name, number_kept, number_last, number_before}
use Rattle.mk_rules.proofs.Naming.{not_numbered, name_is_new, numbers_have, number_of_name}
use Rattle.mk_rules.proofs.Naming.{each_number_has, no_more_numbers, names_distinct}
use Rattle.mk_rules.proofs.Naming.{numbers_distinct}
use Rattle.mk_rules.proofs.Cells.{is_in, kept_passes, passing_kept, choices_within, item_has}
use Rattle.mk_rules.proofs.Cells.{item_in_sum, kept_below}

-- what is added, as a network is extended by it
abbrev pub extension_of : List Variable → AddText → Extension
extension_of network add = record {
  variable = add.variable;
  values = add.values;
  parents = record { items = numbers_named network add.parents.items };
  rows = add.rows;
}

-- the clique to which its clique is linked
abbrev pub linked_clique : Market → AddText → List ℕ
linked_clique market add = slice_index_or market.cliques (add.link - 1) []

-- the cells of some variables, with the added one
abbrev pub longer_cells : Market → AddText → List ℕ → ℕ
longer_cells market add = choices (sizes (longer_network market.network add))

-- its clique may stand behind the market's, linked to the clique that is named
pub record IsPlaced (market : Market) (add : AddText) : Type 0 where
  -- the link is the number of a clique
  pub first : 1 ≤ add.link
  pub last : add.link ≤ length market.cliques
  -- the clique holds the variable
  pub own : is_in (added_clique market.network add) (length market.network) ≡ true
  -- it holds the variable's parents
  pub parents : All (λ p. is_in (added_clique market.network add) p ≡ true)
      (added_variable market.network add).parents
  -- the linked clique holds its other variables
  pub shared : (x : ℕ) → is_in (added_clique market.network add) x ≡ true
      → x ≢ length market.network → is_in (linked_clique market add) x ≡ true
  -- it has as few cells as a clique may have
  pub small : longer_cells market add (added_clique market.network add) ≤ max_clique_cells
  -- with it there are as few cells as there may be
  pub room : sum_by (choices (sizes market.network)) market.cliques
      + longer_cells market add (added_clique market.network add) ≤ max_cells

-- what holds of items that are counted holds of them
counted_have : {X : Type 0} (P : X → Type 0) (n : ℕ) (xs : List X)
    → AllByRecursion (λ (numbered : ℕ × X). P (numbered.1)) (enumerate_from n xs)
    → AllByRecursion P xs
counted_have P n [] h = tt
counted_have P n (x ∷ xs) h = (h.0, counted_have P (n + 1) xs h.1)

front_has : {X : Type 0} (P : X → Type 0) (xs ys : List X) → AllByRecursion P (xs ++ ys)
    → AllByRecursion P xs × AllByRecursion P ys
front_has P [] ys h = (tt, h)
front_has P (x ∷ xs) ys h =
    let rest = front_has P xs ys h.1 in ((h.0, rest.0), rest.1)

-- what holds of all numbers of some rows holds of each row's
pub rows_have : (P : ℕ → Type 0) (rows : List (List ℕ))
    → AllByRecursion P (flat_map (λ row. row) rows) → AllByRecursion (All P) rows
rows_have P [] h = tt
rows_have P (row ∷ rows) h =
    let parts = front_has P row (flat_map (λ row. row) rows) h in
    (All-from_recursion P row parts.0, rows_have P rows parts.1)

module _ (market : Market) (add : AddText) where
  abbrev network : List Variable
  network = market.network

  abbrev v : Variable
  v = added_variable network add

  abbrev longer : List Variable
  longer = longer_network network add

  abbrev clique : List ℕ
  clique = added_clique network add

  -- the added name has the last number
  own_number : taken network add.variable ≡ None
      → number_named longer add.variable ≡ Some (length network)
  own_number free =
      number_last network v add.variable (not_numbered network add.variable (not_faulted _ _ free))
      refl

  -- the clique holds the numbers of its names
  pub clique_members : (x : ℕ)
      → is_in clique x ≡ is_in (numbers_named longer add.clique.items) x
  clique_members x = at (cases_Bool (is_in (numbers_named longer add.clique.items) x))
    where
      inside : is_in (numbers_named longer add.clique.items) x ≡ true → x < length network + 1
      inside e =
          let name = number_of_name (number_named longer) (λ name. ⊤) add.clique.items x
          (each_always (λ name. ⊤) (λ name. tt) add.clique.items) e in
          omega (arith, number_below longer (name.0) x (name.2), length_push network v)

      at : ((is_in (numbers_named longer add.clique.items) x ≡ true)
          ⊎ (is_in (numbers_named longer add.clique.items) x ≡ false))
          → is_in clique x ≡ is_in (numbers_named longer add.clique.items) x
      at (inl e) =
          passing_kept (λ y. is_in (numbers_named longer add.clique.items) y)
          (length network + 1) 0 x (omega arith) (omega (arith, inside e)) e ∙ sym e
      at (inr e) =
          false_from_ne_true (is_in clique x) (λ kept.
          both_ways (is_in (numbers_named longer add.clique.items) x) e
          (kept_passes (λ y. is_in (numbers_named longer add.clique.items) y)
          (numbers_below (length network + 1)) x kept)) ∙ sym e

  clique_has : (name : List ℕ) (k : ℕ) → is_among add.clique.items name ≡ true
      → number_named longer name ≡ Some k → is_in clique k ≡ true
  clique_has name k among e =
      clique_members k ∙ numbers_have (number_named longer) add.clique.items name k among e

  -- nothing behind the added variable is among them
  clique_known : AllByRecursion (λ x. x < length longer) clique
  clique_known =
      each_weaker (λ x. x < length network + 1) (λ x. x < length longer)
      (λ x low. omega (arith, low, length_push network v)) clique
      (kept_below (λ x. is_in (numbers_named longer add.clique.items) x) (length network + 1))

  -- the variable and its parents are among the clique's names
  covered : uncovered add ≡ None
      → AllByRecursion (λ name. is_among add.clique.items name ≡ true)
      (add.variable ∷ add.parents.items)
  covered h =
      each_weaker (λ name. not (is_among add.clique.items name) ≡ false)
      (λ name. is_among add.clique.items name ≡ true)
      (λ name. not-false (is_among add.clique.items name)) (add.variable ∷ add.parents.items)
      (none_found (λ name. not (is_among add.clique.items name))
      (add.variable ∷ add.parents.items) (not_mapped _ _ h))

  parents_held : uncovered add ≡ None → All (λ p. is_in clique p ≡ true) v.parents
  parents_held h =
      All-from_recursion (λ p. is_in clique p ≡ true) v.parents
      (each_number_has (number_named network) (λ p. is_in clique p ≡ true)
      (λ name. is_among add.clique.items name ≡ true)
      (λ name k among e. clique_has name k among (number_kept network v name k e))
      add.parents.items (covered h).1)

  abbrev linked : List ℕ
  linked = linked_clique market add

  -- a name of the clique is the added one, or the linked clique holds its variable
  abbrev Runs : List ℕ → Type 0
  Runs name = (not (same_text name add.variable) && not (holds_named network linked name)) ≡ false

  held_there : (name : List ℕ) (x : ℕ) → number_named network name ≡ Some x
      → holds_named network linked name ≡ true → is_in linked x ≡ true
  held_there name x e h =
      alone (is_in linked x)
      (subst (λ (o : Option ℕ). list_any (λ y. is_in linked y) (cons_option o []) ≡ true) e h)
    where
      alone : (b : Bool) → (b || false) ≡ true → b ≡ true
      alone true i = refl
      alone false i = cc

  -- so the linked clique holds the others
  others_named : taken network add.variable ≡ None → not_running market add ≡ None
      → (x : ℕ) → is_in (numbers_named longer add.clique.items) x ≡ true → x ≢ length network
      → is_in linked x ≡ true
  others_named free running x named other =
      let run : AllByRecursion Runs add.clique.items =
      none_found (λ name. not (same_text name add.variable)
      && not (holds_named network linked name)) add.clique.items (not_mapped _ _ running) in
      let name = number_of_name (number_named longer) Runs add.clique.items x run named in
      at (name.0) (name.2)
      (and_cases (not (same_text (name.0) add.variable)) (not (holds_named network linked (name.0)))
      (name.1))
    where
      last_number : (name : List ℕ) → number_named longer name ≡ Some x → name ≡ add.variable
          → x ≡ length network
      last_number name e same =
          let k : Some x ≡ Some (length network) =
          sym e ∙ ap (number_named longer) same ∙ own_number free in cc

      at : (name : List ℕ) → number_named longer name ≡ Some x
          → ((not (same_text name add.variable) ≡ false)
          ⊎ (not (holds_named network linked name) ≡ false)) → is_in linked x ≡ true
      at name e (inl same) =
          let alike = equal_of_same_text name add.variable
          (not-false (same_text name add.variable) same) in
          absurd (other (last_number name e alike))
      at name e (inr held) =
          held_there name x (number_before network v name x e other)
          (not-false (holds_named network linked name) held)

  others_shared : taken network add.variable ≡ None → not_running market add ≡ None
      → (x : ℕ) → is_in clique x ≡ true → x ≢ length network → is_in linked x ≡ true
  others_shared free running x h other =
      others_named free running x
      (sym (clique_members x) ∙ h) other

  -- the cells of the earlier cliques stay
  cells_stay : IsMarket market
      → sum_by (longer_cells market add) market.cliques
      ≡ sum_by (choices (sizes network)) market.cliques
  cells_stay legal =
      sum_by_each (longer_cells market add) (choices (sizes network)) market.cliques
      (each_weaker (AllByRecursion (λ x. x < length network))
      (λ xs. longer_cells market add xs ≡ choices (sizes network) xs)
      (choices_same (sizes network) (sizes longer) (length network) (size_before network v))
      market.cliques legal.cliques_known)

  within_limits : too_large market add ≡ None
      → (sum_by (longer_cells market add) market.cliques + longer_cells market add clique
      ≤ max_cells) × (longer_cells market add clique ≤ max_clique_cells)
  within_limits h =
      let total = sum_by (longer_cells market add) market.cliques
      + longer_cells market add clique in
      let parts = or_parts (ltb max_cells total)
      (ltb max_clique_cells (longer_cells market add clique)) (not_faulted _ _ h) in (
        ltb-false max_cells total parts.0,
        ltb-false max_clique_cells (longer_cells market add clique) parts.1,
      )

  -- before they are counted they are few, since the linked clique holds the others
  pub cells_bounded : IsMarket market → IsAddText add → taken network add.variable ≡ None
      → not_running market add ≡ None
      → sum_by (longer_cells market add) market.cliques + longer_cells market add clique
      ≤ 557072
  cells_bounded legal text free running =
      let known = item_has (λ x. x < length network) market.cliques (add.link - 1)
      legal.cliques_known in
      let some : AllByRecursion (λ z. 1 ≤ slice_index (sizes longer) z) linked =
      each_weaker (λ x. x < length network) (λ z. 1 ≤ slice_index (sizes longer) z) positive linked
      known in
      let last = size_last network v in
      let fewer = choices_within (sizes longer) (length network ∷ linked)
      (λ x. is_in (numbers_named longer add.clique.items) x) (length network + 1) 0
      (omega (arith, last, text.values.enough), some) held in
      let same : choices (sizes longer) linked ≡ choices (sizes network) linked =
      choices_same (sizes network) (sizes longer) (length network) (size_before network v) linked
      known in
      let one = item_in_sum (choices (sizes network)) market.cliques (add.link - 1) in
      let values : slice_index (sizes longer) (length network) ≤ 16 =
      omega (arith, last, text.values.few) in
      let cells : choices (sizes longer) linked ≤ 32769 =
      omega (arith, same, one, legal.few_cells) in
      omega (arith, fewer, mul-le-mul values cells, cells_stay legal, legal.few_cells)
    where
      positive : (x : ℕ) → x < length network → 1 ≤ slice_index (sizes longer) x
      positive x inside = omega (
        arith,
        size_before network v x inside,
        two_values network x legal.network inside,
      )

      held : (x : ℕ) → is_in (numbers_named longer add.clique.items) x ≡ true
          → is_in (length network ∷ linked) x ≡ true
      held x h = at (cases_eq (length network) x)
        where
          at : ((length network ≡ x) ⊎ (length network ≡ x → ⊥))
              → is_in (length network ∷ linked) x ≡ true
          at (inl same) = rw (eq-eqb (length network) x same) refl
          at (inr other) =
              or_right (length network == x) (is_in linked x)
              (others_named free running x h (λ same. other (sym same)))

-- what is known of a question that meets no refusal
module _ (market : Market) (H : List Entry) (add : AddText) (legal : IsMarket market)
    (text : IsAddText add) (none : first_refusal market H (Add add) ≡ None) where
  refused : AllByRecursion (λ o. o ≡ None) (refusals market H (Add add))
  refused = none_applies (refusals market H (Add add)) none

  free : taken market.network add.variable ≡ None
  free = refused.1.1.0

  -- its rows are wide enough, and make a million each
  wide_rows : AllByRecursion (λ row. length row ≡ length add.values.items) add.rows.items
  wide_rows =
      counted_have (λ row. length row ≡ length add.values.items) 1 add.rows.items
      (each_weaker
      (λ (numbered : ℕ × List ℕ). not (length (numbered.1) == length add.values.items) ≡ false)
      (λ (numbered : ℕ × List ℕ). length (numbered.1) ≡ length add.values.items)
      (λ numbered h. eqb-true (length (numbered.1)) (length add.values.items)
      (not-false (length (numbered.1) == length add.values.items) h))
      (enumerate_from 1 add.rows.items)
      (none_found
      (λ (numbered : ℕ × List ℕ). not (length (numbered.1) == length add.values.items))
      (enumerate_from 1 add.rows.items)
      (not_mapped _ _ refused.1.1.1.1.1.1.1.1.1.1.1.1.0)))

  whole_rows : AllByRecursion (λ row. sum row ≡ million) add.rows.items
  whole_rows =
      each_weaker (λ row. not (sum row == million) ≡ false) (λ row. sum row ≡ million)
      (λ row h. eqb-true (sum row) million (not-false (sum row == million) h)) add.rows.items
      (none_found (λ row. not (sum row == million)) add.rows.items
      (not_mapped _ _ refused.1.1.1.1.1.1.1.1.1.1.1.1.1.1.0))

  -- the network may be extended by it
  pub can_extend : CanExtend market.network (extension_of market.network add)
  can_extend =
      let network = market.network in
      record {
        room = leb-false max_variables (length network) (not_faulted _ _ refused.1.0);
        untaken = All-from_recursion (λ name. add.variable ≢ name) (names network)
            (name_is_new 0 network add.variable (not_faulted _ _ free));
        two_values = text.values.enough;
        values_distinct = names_distinct add.values.items (not_mapped _ _ refused.1.1.1.0);
        parents_known = All-from_recursion (λ p. p < length network)
            (numbers_named network add.parents.items)
            (each_number_has (number_named network) (λ p. p < length network) (λ name. ⊤)
            (λ name k q e. number_below network name k e) add.parents.items
            (each_always (λ name. ⊤) (λ name. tt) add.parents.items));
        parents_distinct = numbers_distinct (number_named network) (one_name network)
            add.parents.items (not_mapped _ _ refused.1.1.1.1.1.1.0);
        one_row_each = eqb-true (length add.rows.items)
            (choices (sizes network) (numbers_named network add.parents.items))
            (not-false (length add.rows.items
            == choices (sizes network) (numbers_named network add.parents.items))
            (not_faulted _ _ refused.1.1.1.1.1.1.1.1.1.1.1.0));
        widths = All-from_recursion (λ row. length row ≡ length add.values.items) add.rows.items
            wide_rows;
        sums = All-from_recursion (λ row. sum row ≡ million) add.rows.items whole_rows;
      }

  -- and is one then
  pub longer_is_network : IsNetwork (longer_network market.network add)
  longer_is_network =
      let numbers = no_more_numbers (number_named market.network) add.parents.items in
      extended_is_network market.network (extension_of market.network add) legal.network can_extend
      text.variable text.values.each text.values.few (omega (arith, numbers, text.parents.few))

  -- without a share of nothing, where these do not occur
  pub longer_has_no_zeros : market.zeros ≡ false → HasNoZeros (longer_network market.network add)
  longer_has_no_zeros without =
      let least : least_share market ≡ 1 = ap (λ (b : Bool). cond b 0 1) without in
      let within = numbers_in_range (least_share market) (most_share market) (shares_of add)
      refused.1.1.1.1.1.1.1.1.1.1.1.1.1.0 in
      extended_has_no_zeros market.network (extension_of market.network add) legal.network
      can_extend (legal.shares without)
      (All-from_recursion (All (λ share. 1 ≤ share)) add.rows.items
      (rows_have (λ share. 1 ≤ share) add.rows.items
      (each_weaker (λ n. (least_share market ≤ n) × (n ≤ most_share market)) (λ share. 1 ≤ share)
      (λ n inside. omega (arith, least, inside.0)) (shares_of add) within)))

  -- its clique may stand behind the others
  pub is_placed : IsPlaced market add
  is_placed =
      let link = and_parts (leb 1 add.link) (leb add.link (length market.cliques))
      (not-false (leb 1 add.link && leb add.link (length market.cliques))
      (not_faulted _ _ refused.1.1.1.1.1.1.1.1.0)) in
      let cover = refused.1.1.1.1.1.1.1.1.1.0 in
      let limits = within_limits market add refused.1.1.1.1.1.1.1.1.1.1.1.1.1.1.1.0 in
      record {
        first = leb-true 1 add.link link.0;
        last = leb-true add.link (length market.cliques) link.1;
        own = clique_has market add add.variable (length market.network)
            (covered market add cover).0 (own_number market add free);
        parents = parents_held market add cover;
        shared = others_shared market add free refused.1.1.1.1.1.1.1.1.1.1.0;
        small = limits.1;
        room = omega (arith, limits.0, cells_stay market add legal);
      }

  -- and the market with it is one
  pub market_with : IsMarket (with_entry (Adds (addition_of market.network add)) market)
  market_with =
      let network = market.network in
      let longer = longer_network network add in
      let clique = added_clique network add in
      let inside = length_push network (added_variable network add) in
      let limits = within_limits market add refused.1.1.1.1.1.1.1.1.1.1.1.1.1.1.1.0 in
      record {
        network = longer_is_network;
        cliques_known = each-append (AllByRecursion (λ x. x < length longer)) market.cliques
            (clique ∷ [])
            (each_weaker (AllByRecursion (λ x. x < length network))
            (AllByRecursion (λ x. x < length longer))
            (each_weaker (λ x. x < length network) (λ x. x < length longer)
            (λ x low. omega (arith, low, inside))) market.cliques legal.cliques_known)
            (clique_known market add, tt);
        few_cells = omega (
          arith,
          limits.0,
          sum_by_push (longer_cells market add) market.cliques clique,
        );
        shares = longer_has_no_zeros;
        some_points = legal.some_points;
        few_points = legal.few_points;
        some_trades = legal.some_trades;
        few_trades = legal.few_trades;
        some_users = legal.some_users;
        few_users = legal.few_users;
        some_transfers = legal.some_transfers;
        few_transfers = legal.few_transfers;
      }
