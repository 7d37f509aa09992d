-- A question that nothing refuses may follow a file's, and what the file is with it.
use Rattle.std.specs.Prelude.{◌≡◌, ℕ, ◌+◌, ◌-◌, ◌<◌, zero, suc, List, [], ◌∷◌, ◌++◌, length}
use Rattle.std.specs.Prelude.{map, filter, Bool, true, false, cond, not, None, All}
use Rattle.std.specs.Prelude.{slice_index_or}
use Rattle.std.specs.List.{AllByRecursion}
use Rattle.std.proofs.Common.{refl, sym, ap, ap₂, ◌∙◌, arith, append-nil}
use Rattle.std.proofs.lemmas.Bool.{not-false}
use Rattle.std.proofs.lemmas.List.{map-id, map-append, length-map, length_push}
use Rattle.std.proofs.lemmas.List.FromFn.{map-range_with_len_more}
use Rattle.std.proofs.lemmas.List.Elements.{All-from_recursion, recursion_from_All, filter-append}
use Rattle.mk_sets.specs.Sets.{VarSet, is_member, no_variables}
use Rattle.mk_net.specs.Bounds.{max_variables}
use Rattle.mk_net.specs.Network.{Variable, IsNetwork, sizes, choices}
use Rattle.mk_net.specs.Additions.{CanExtend}
use Rattle.mk_net.proofs.Behind.{filter_below}
use Rattle.mk_states.specs.States.{numbers_below}
use Rattle.mk_states.proofs.Sums.{each_weaker}
use Rattle.mk_exact.specs.History.{Entry, Addition, Add as Adds}
use Rattle.mk_exact.specs.Market.{Market, with_entry}
use Rattle.mk_tree.specs.Given.{GivenTree, max_tree_cliques}
use Rattle.mk_tree.specs.Tests.{members, cells_of}
use Rattle.mk_tree.specs.Checked.{IsTreeOf}
use Rattle.mk_tree.specs.Grown.{with_clique, FitsBehind, IsBehind}
use Rattle.mk_file.specs.declared.market_file.MarketFile.{MarketFile}
use Rattle.mk_file.specs.MarketOf.{market_of}
use Rattle.mk_addition.specs.Adds.{IsAddText}
use Rattle.mk_addition.specs.declared.add.AddText.{AddText}
use Rattle.mk_command.specs.declared.command.Command.TheVariants.{Add}
use Rattle.mk_rules.specs.Additions.{addition_of, numbers_named}
use Rattle.mk_rules.specs.Additions.{longer_network, taken, is_among}
use Rattle.mk_rules.specs.Refusals.{refusals, first_refusal}
use Rattle.mk_rules.proofs.Unrefused.{none_applies, not_mapped}
use Rattle.mk_rules.proofs.Spreads.{none_found}
use Rattle.mk_rules.proofs.Cells.{is_in, kept_passes, passing_kept, kept_below, lists_cells}
use Rattle.mk_rules.proofs.Additions.{IsPlaced, longer_cells, can_extend, is_placed}
use Rattle.mk_rules.proofs.Additions.{longer_has_no_zeros}
use Rattle.mk_parts.specs.Adding.{longer_net, IsSetOf, extension_of, CanFollow}
use Rattle.mk_parts.proofs.Markets.{market_is}

numbers_more : (n : ℕ) → numbers_below (n + 1) ≡ numbers_below n ++ n ∷ []
numbers_more n =
    sym (map-id (numbers_below (n + 1))) ∙ map-range_with_len_more (λ k. k) 0 n n (omega arith)
    ∙ ap (λ ks. ks ++ n ∷ []) (map-id (numbers_below n))

-- a set of earlier variables has the members that it had
module _ (network : List Variable) (v : Variable) where
  members_same : (set : VarSet) → ((x : ℕ) → is_member set x ≡ true → x < length network)
      → members (network ++ v ∷ []) set ≡ members network set
  members_same set within =
      ap (λ k. filter (is_member set) (numbers_below k)) (length_push network v)
      ∙ ap (filter (is_member set)) (numbers_more (length network))
      ∙ filter-append (is_member set) (numbers_below (length network)) (length network ∷ [])
      ∙ ap (λ ys. members network set ++ ys)
      (left_out (is_member set (length network)) (within (length network)))
      ∙ append-nil (members network set)
    where
      left_out : (b : Bool) → (b ≡ true → length network < length network)
          → cond b (length network ∷ []) [] ≡ []
      left_out true h = absurd (let l = h refl in omega (arith, l))
      left_out false h = refl

  pub lists_same : (sets : List VarSet)
      → AllByRecursion (λ set. (x : ℕ) → is_member set x ≡ true → x < length network) sets
      → map (members (network ++ v ∷ [])) sets ≡ map (members network) sets
  lists_same [] h = refl
  lists_same (set ∷ sets) h =
      ap₂ (λ (own : List ℕ) (others : List (List ℕ)). own ∷ others) (members_same set h.0)
      (lists_same sets h.1)

-- two answers that say yes together are the same
together : (a b : Bool) → (a ≡ true → b ≡ true) → (b ≡ true → a ≡ true) → a ≡ b
together true b f g = sym (f refl)
together false true f g = g refl
together false false f g = refl

-- a set of the numbers that pass a test passes it
kept_is : (test : ℕ → Bool) (n x : ℕ) → x < n → is_in (filter test (numbers_below n)) x ≡ test x
kept_is test n x low =
    together (is_in (filter test (numbers_below n)) x) (test x)
    (kept_passes test (numbers_below n) x)
    (passing_kept test n 0 x (omega arith) (omega (arith, low)))

-- what a set's list holds the set does
list_holds : (network : List Variable) (sets : List VarSet) (k x : ℕ)
    → is_in (slice_index_or (map (members network) sets) k []) x ≡ true
    → is_member (slice_index_or sets k no_variables) x ≡ true
list_holds network [] k x h = absurd (cc)
list_holds network (set ∷ sets) zero x h =
    kept_passes (is_member set) (numbers_below (length network)) x h
list_holds network (set ∷ sets) (suc k) x h = list_holds network sets k x h

-- a file with other variables and another tree, as a market
abbrev pub parts_market : MarketFile → List Variable → GivenTree → Market
parts_market file net tree = record {
  network = net;
  cliques = map (members net) tree.cliques;
  points_per_bit = file.points_per_bit;
  max_trades = file.max_trades;
  max_users = file.max_users;
  max_transfers = file.max_transfers;
  zeros = file.zeros;
}

-- with a question behind all others, and its clique behind all cliques, it is the market with it
pub longer_market : (file : MarketFile) (a : Addition) (set : VarSet) → IsTreeOf file.net file.tree
    → members (longer_net file a) set ≡ a.clique
    → (net : List Variable) (tree : GivenTree) → net ≡ longer_net file a
    → tree ≡ with_clique file.tree set a.link
    → parts_market file net tree ≡ with_entry (Adds a) (market_of file)
longer_market file a set of_net rising net tree is_net is_tree =
    ap₂ (parts_market file) is_net is_tree
    ∙ ap with_cliques
    (map-append (members (longer_net file a)) file.tree.cliques (set ∷ [])
    ∙ ap₂ (λ (before : List (List ℕ)) (own : List ℕ). before ++ own ∷ [])
    (lists_same file.net a.variable file.tree.cliques
    (recursion_from_All _ file.tree.cliques of_net.of_network)) rising)
  where
    with_cliques : List (List ℕ) → Market
    with_cliques cliques = record {
      network = longer_net file a;
      cliques = cliques;
      points_per_bit = file.points_per_bit;
      max_trades = file.max_trades;
      max_users = file.max_users;
      max_transfers = file.max_transfers;
      zeros = file.zeros;
    }

-- a question that nothing refuses
module _ (file : MarketFile) (H : List Entry) (add : AddText) (legal : IsNetwork file.net)
    (tree : IsTreeOf file.net file.tree) (text : IsAddText add)
    (none : first_refusal (market_of file) H (Add add) ≡ None) where
  refused : AllByRecursion (λ o. o ≡ None) (refusals (market_of file) H (Add add))
  refused = none_applies (refusals (market_of file) H (Add add)) none

  -- its name is new, and its clique holds it
  pub is_untaken : taken file.net add.variable ≡ None
  is_untaken = refused.1.1.0

  pub is_covered : is_among add.clique.items add.variable ≡ true
  is_covered =
      let found = none_found (λ name. not (is_among add.clique.items name))
      (add.variable ∷ add.parents.items) (not_mapped _ _ refused.1.1.1.1.1.1.1.1.1.0) in
      not-false (is_among add.clique.items add.variable) found.0

  abbrev a : Addition
  a = addition_of file.net add

  extends : CanExtend file.net (extension_of a.variable)
  extends = can_extend (market_of file) H add (market_is file legal tree) text none

  placed : IsPlaced (market_of file) add
  placed = is_placed (market_of file) H add (market_is file legal tree) text none

  clique_below : AllByRecursion (λ x. x < length file.net + 1) a.clique
  clique_below =
      kept_below (λ x. is_in (numbers_named (longer_network file.net add) add.clique.items) x)
      (length file.net + 1)

  few : All (λ x. x < max_variables) a.clique
  few =
      All-from_recursion (λ x. x < max_variables) a.clique
      (each_weaker (λ x. x < length file.net + 1) (λ x. x < max_variables)
      (λ x low. omega (arith, low, extends.room)) a.clique clique_below)

  module _ (set : VarSet) (is : IsSetOf a.clique set) where
    rising : members (longer_net file a) set ≡ a.clique
    rising =
        ap (λ k. filter (is_member set) (numbers_below k)) (length_push file.net a.variable)
        ∙ filter_below (is_member set)
        (λ x. is_in (numbers_named (longer_network file.net add) add.clique.items) x)
        (length file.net + 1) 0
        (λ x low high. is x ∙ kept_is
        (λ y. is_in (numbers_named (longer_network file.net add) add.clique.items) y)
        (length file.net + 1) x (omega (arith, high)))

    own_cells : cells_of (longer_net file a) set ≡ longer_cells (market_of file) add a.clique
    own_cells = ap (choices (sizes (longer_net file a))) rising

    fits : length file.tree.cliques < max_tree_cliques
        → FitsBehind file.net a.variable file.tree set a.link
    fits room = record {
      few = room;
      first = placed.first;
      last = omega (arith, placed.last, length-map file.tree.cliques (members file.net));
      own = is (length file.net) ∙ placed.own;
      parents = All-from_recursion (λ p. is_member set p ≡ true) a.variable.parents
          (each_weaker (λ p. is_in a.clique p ≡ true) (λ p. is_member set p ≡ true)
          (λ p h. is p ∙ h) a.variable.parents
          (recursion_from_All (λ p. is_in a.clique p ≡ true) a.variable.parents placed.parents));
      shared = λ x held other.
          list_holds file.net file.tree.cliques (a.link - 1) x
          (placed.shared x (sym (is x) ∙ held) other);
      small = omega (arith, placed.small, own_cells);
      room = omega (
        arith,
        placed.room,
        own_cells,
        lists_cells (members file.net) (sizes file.net) file.tree.cliques,
      );
    }

    behind : length file.tree.cliques < max_tree_cliques
        → IsBehind (longer_net file a) file.tree set a.link
    behind room = record {
      earlier = file.net;
      added = a.variable;
      longer = refl;
      tree = tree;
      fits = fits room;
    }

  pub can_follow : CanFollow file a
  can_follow = record {
    tree = tree;
    extends = extends;
    few = few;
    behind = λ room set is. behind set is room;
    rising = rising;
    shares = longer_has_no_zeros (market_of file) H add (market_is file legal tree) text none;
  }
