-- The tree of a draft, over the network that was checked.
use Rattle.std.proofs.Common.{◌≡◌, ℕ, suc, ◌+◌, ◌-◌, ◌<◌, ◌≤◌, ℤ, pos, negsuc, List, [], ◌∷◌, map, length, get_or, Bool, true, false, not, ◌||◌, ◌==◌, nat_le, zero, Option, Some, None, option_map, Ok, Err, All, refl, sym, ap, subst, ◌∙◌, arith, T, SFits, Fits, w32, w64, to_z, of_z, to_z-of_z}
use lib.Signed.{non_neg}
use Rattle.std.specs.Prelude.{nat_abs}
use Rattle.std.specs.List.{list_all, position_or_len}
use Rattle.std.proofs.lemmas.Bool.{eqb-true, leb-true, not-false, and_parts}
use Rattle.std.proofs.lemmas.List.{length-map}
use Rattle.mk_names.specs.Name.{IsName}
use Rattle.mk_names.specs.Texts.{same_text}
use Rattle.mk_net.specs.Network.{Variable}
use Rattle.mk_net.specs.Drafts.{DraftOfVariable}
use Rattle.mk_sets.specs.Sets.{VarSet, set_of}
use Rattle.mk_net.specs.Firsts.{fault_if, or_else, first_in}
use Rattle.mk_net.specs.Checked.{is_within, number_of, has_double, checked_variable, checked_network, count_at, count_fault, later_fault as draft_later, first_fault}
use Rattle.mk_names.specs.declared.key.Key.{Key}
use Rattle.mk_net.specs.declared.fault.NetFault.{NetFault}
use Rattle.mk_net.specs.declared.fault.NetFault.TheVariants.{Count as NetCount}
use Rattle.mk_names.specs.declared.key.Key.TheVariants.{PointsPerBit, MaxTrades, MaxUsers, MaxTransfers, Variable as VariableKey, Cliques, Links}
use Rattle.mk_net.proofs.Checked.{checked_is_network}
use Rattle.mk_tree.specs.Given.{GivenTree, AreLinked}
use Rattle.mk_tree.specs.Tests.{tree_fault}
use Rattle.mk_tree.specs.declared.fault.TreeFault.{TreeFault}
use Rattle.mk_file.specs.declared.fault.FileFault.{FileFault}
use Rattle.mk_file.specs.declared.fault.FileFault.TheVariants.{Clique, Link, Count}
use Rattle.mk_file.specs.Walk.{DraftOfMarket}
use Rattle.mk_file.specs.Counts.{is_whole_within, whole_fault, items_fault, names_at, links_fault, counts_fault, variables_fault, of_net}
use Rattle.mk_file.specs.Cliques.{is_known, clique_at, link_at, given_tree, of_tree}
use Rattle.mk_file.specs.inner.Known.{number_in, is_known_in, clique_in, set_in, trees_fault}
use Rattle.mk_file.specs.File.{market_in, unless, of_draft}

none_of : {F : Type 0} (a b : Option F) → or_else a b ≡ None → (a ≡ None) × (b ≡ None)
none_of None b h = (refl, h)
none_of (Some e) b h = cc

passed : {F : Type 0} (test : Bool) (fault : F) → fault_if test fault ≡ None → test ≡ false
passed false fault h = refl
passed true fault h = cc

-- the names of a checked network are names
pub names_are : (zeros : Bool) (drafts : List DraftOfVariable) → first_fault zeros drafts ≡ None → All (λ (v : Variable). IsName v.name) (checked_network drafts)
names_are zeros drafts h = λ k d inside. ((checked_is_network zeros drafts h).each k d inside).name

-- the network has the numbers of the draft
placed : (all vs : List DraftOfVariable) (name : List ℕ)
    → position_or_len (λ (v : Variable). same_text name v.name) (map (checked_variable all) vs) ≡ position_or_len (λ (v : DraftOfVariable). same_text name v.name) vs
placed all [] name = refl
placed all (v ∷ vs) name = rw (placed all vs name) refl

number_same : (drafts : List DraftOfVariable) (name : List ℕ) → number_in (checked_network drafts) name ≡ number_of drafts name
number_same drafts name = placed drafts drafts name

known_same : (drafts : List DraftOfVariable) (names : List (List ℕ)) → list_all (is_known_in (checked_network drafts)) names ≡ list_all (is_known drafts) names
known_same drafts [] = refl
known_same drafts (name ∷ names) = rw (number_same drafts name, length-map drafts, known_same drafts names) refl

numbers_same : (drafts : List DraftOfVariable) (names : List (List ℕ)) → map (number_in (checked_network drafts)) names ≡ map (number_of drafts) names
numbers_same drafts [] = refl
numbers_same drafts (name ∷ names) = rw (number_same drafts name, numbers_same drafts names) refl

clique_same : (draft : DraftOfMarket) (k : ℕ) (names : List (List ℕ)) → clique_in (checked_network draft.variables) k names ≡ clique_at draft k names
clique_same draft k names = ap (λ (known : Bool). fault_if (not known || has_double names) (Clique k)) (known_same draft.variables names)

cliques_same : (draft : DraftOfMarket) (k : ℕ) (cliques : List (List (List ℕ)))
    → first_in (clique_in (checked_network draft.variables)) k cliques ≡ first_in (clique_at draft) k cliques
cliques_same draft k [] = refl
cliques_same draft k (names ∷ cliques) =
    ap (λ rest. or_else (clique_in (checked_network draft.variables) k names) rest) (cliques_same draft (k + 1) cliques)
    ∙ ap (λ first. or_else first (first_in (clique_at draft) (k + 1) cliques)) (clique_same draft k names)

sets_same : (drafts : List DraftOfVariable) (cliques : List (List (List ℕ)))
    → map (set_in (checked_network drafts)) cliques ≡ map (λ (names : List (List ℕ)). set_of (map (number_of drafts) names)) cliques
sets_same drafts [] = refl
sets_same drafts (names ∷ cliques) =
    ap (λ rest. set_in (checked_network drafts) names ∷ rest) (sets_same drafts cliques)
    ∙ ap (λ numbers. set_of numbers ∷ map (λ (names : List (List ℕ)). set_of (map (number_of drafts) names)) cliques) (numbers_same drafts names)

-- the links lead to earlier cliques
earlier : (from : ℕ) (z : ℤ) → link_at from z ≡ None → (1 ≤ nat_abs z) × (nat_abs z < from)
earlier from (pos n) h =
    let parts = and_parts (nat_le 1 n) (nat_le n (from - 1)) (not-false (is_whole_within 1 (from - 1) (pos n)) (passed (not (is_whole_within 1 (from - 1) (pos n))) (Link from) h)) in
    (omega (arith, leb-true 1 n parts.0), omega (arith, leb-true 1 n parts.0, leb-true n (from - 1) parts.1))
earlier from (negsuc n) h = cc

linked_from : (links : List ℤ) (from i : ℕ) → first_in link_at from links ≡ None → i < length links
    → (1 ≤ get_or (map nat_abs links) i 0) × (get_or (map nat_abs links) i 0 < from + i)
linked_from [] from i h within = absurd (omega (arith, within))
linked_from (z ∷ links) from zero h within =
    let first = earlier from z (none_of (link_at from z) (first_in link_at (from + 1) links) h).0 in
    (first.0, omega (arith, first.1))
linked_from (z ∷ links) from (suc i) h within =
    let rest = linked_from links (from + 1) i (none_of (link_at from z) (first_in link_at (from + 1) links) h).1 (omega (arith, within)) in
    (rest.0, omega (arith, rest.1))

items_within : (key : Key) (n : ℕ) → items_fault key 1 256 0 n ≡ None → (1 ≤ n) × (n ≤ 256)
items_within key n h =
    let parts = and_parts (nat_le 1 n) (nat_le n 256) (not-false (is_within 1 256 n) (passed (not (is_within 1 256 n)) (Count key 0 (pos n)) h)) in
    (leb-true 1 n parts.0, leb-true n 256 parts.1)

one_link_fewer : (cliques : List (List (List ℕ))) (links : List ℤ) → links_fault cliques links ≡ None → length links + 1 ≡ length cliques
one_link_fewer cliques links h =
    eqb-true (length links + 1) (length cliques)
    (not-false (length links + 1 == length cliques) (passed (not (length links + 1 == length cliques)) (Count Links 0 (pos (length links))) h))

-- none of the four numbers of the top has a fault
pub record AreTopPassed (draft : DraftOfMarket) : Type 0 where
  pub points : whole_fault PointsPerBit 1 1000000 draft.points_per_bit ≡ None
  pub trades : whole_fault MaxTrades 1 1000000 draft.max_trades ≡ None
  pub users : whole_fault MaxUsers 1 65536 draft.max_users ≡ None
  pub transfers : whole_fault MaxTransfers 1 1000000 draft.max_transfers ≡ None

-- the faults of a draft's items behind those of the top
abbrev items_part : DraftOfMarket → Option FileFault
items_part draft =
    or_else (items_fault VariableKey 1 256 0 (length draft.variables))
    (or_else (items_fault Cliques 1 256 0 (length draft.cliques))
    (or_else (links_fault draft.cliques draft.links)
    (or_else (option_map of_net (first_in count_at 1 draft.variables))
    (or_else (first_in names_at 1 draft.cliques) None))))

-- the numbers of the top and the items behind them
top_passed : (draft : DraftOfMarket) → counts_fault draft ≡ None
    → AreTopPassed draft × (items_part draft ≡ None)
top_passed draft counted =
    let wholes = none_of _ _ counted in
    let points = none_of _ _ wholes.0 in
    let trades = none_of _ _ points.1 in
    let users = none_of _ _ trades.1 in
    let transfers = none_of _ _ users.1 in
    (record { points = points.0; trades = trades.0; users = users.0; transfers = transfers.0 }, wholes.1)

lists_counted : (draft : DraftOfMarket) → counts_fault draft ≡ None
    → (items_fault Cliques 1 256 0 (length draft.cliques) ≡ None) × (links_fault draft.cliques draft.links ≡ None)
lists_counted draft counted =
    let variables = none_of _ _ (top_passed draft counted).1 in
    let cliques = none_of _ _ variables.1 in
    (cliques.0, (none_of _ _ cliques.1).0)

pub linked_tree : (draft : DraftOfMarket) (cliques : List VarSet) (links : List ℕ) → counts_fault draft ≡ None
    → length cliques ≡ length draft.cliques → links ≡ map nat_abs draft.links → first_in link_at 2 draft.links ≡ None
    → AreLinked (record { cliques = cliques; links = links })
linked_tree draft cliques links counted same read fine =
    let lists = lists_counted draft counted in
    let cliques_counted = items_within Cliques (length draft.cliques) lists.0 in
    let fewer = one_link_fewer draft.cliques draft.links lists.1 in
    let P : List ℕ → Type 0 = λ read. AreLinked (record { cliques = cliques; links = read }) in
    subst P (sym read) (record {
      some = omega (arith, cliques_counted.0, same);
      few = omega (arith, cliques_counted.1, same);
      one_link_each = rw (length-map draft.links) (fewer ∙ sym same);
      earlier = λ k above within.
          let there = linked_from draft.links 2 (k - 2) fine (omega (arith, fewer, same, above, within)) in
          (there.0, omega (arith, there.1, above));
    })

-- the first fault of the cliques, the links and the tree
abbrev tree_part : DraftOfMarket → Option FileFault
tree_part draft = or_else (option_map of_tree (tree_fault (checked_network draft.variables) (given_tree draft))) None

cliques_are : (draft : DraftOfMarket) (network : List Variable) (fault : Option FileFault) → network ≡ checked_network draft.variables
    → first_in (clique_in network) 1 draft.cliques ≡ fault → trees_fault draft ≡ or_else fault (or_else (first_in link_at 2 draft.links) (tree_part draft))
cliques_are draft network fault net is =
    ap (λ o. or_else o (or_else (first_in link_at 2 draft.links) (tree_part draft)))
    (sym (cliques_same draft 1 draft.cliques) ∙ ap (λ (n : List Variable). first_in (clique_in n) 1 draft.cliques) (sym net) ∙ is)

pub cliques_stop : (draft : DraftOfMarket) (network : List Variable) (fault : FileFault) → network ≡ checked_network draft.variables
    → first_in (clique_in network) 1 draft.cliques ≡ Some fault → trees_fault draft ≡ Some fault
cliques_stop draft network fault net bad = cliques_are draft network (Some fault) net bad

pub links_stop : (draft : DraftOfMarket) (network : List Variable) (fault : FileFault) → network ≡ checked_network draft.variables
    → first_in (clique_in network) 1 draft.cliques ≡ None → first_in link_at 2 draft.links ≡ Some fault → trees_fault draft ≡ Some fault
links_stop draft network fault net fine bad = cliques_are draft network None net fine ∙ ap (λ o. or_else o (tree_part draft)) bad

pub tree_is : (draft : DraftOfMarket) (network : List Variable) (cliques : List VarSet) (links : List ℕ) → network ≡ checked_network draft.variables
    → cliques ≡ map (set_in network) draft.cliques → links ≡ map nat_abs draft.links
    → ◌≡◌ {A = GivenTree} (record { cliques = cliques; links = links }) (given_tree draft)
tree_is draft network cliques links net sets read =
    let made : List VarSet → List ℕ → GivenTree = λ cliques links. record { cliques = cliques; links = links } in
    ap (λ (ls : List ℕ). made cliques ls) read
    ∙ ap (λ (cs : List VarSet). made cs (map nat_abs draft.links))
    (sets ∙ ap (λ (n : List Variable). map (set_in n) draft.cliques) net ∙ sets_same draft.variables draft.cliques)

pub trees_are : (draft : DraftOfMarket) (network : List Variable) (tree : GivenTree) (fault : Option TreeFault) → network ≡ checked_network draft.variables
    → first_in (clique_in network) 1 draft.cliques ≡ None → first_in link_at 2 draft.links ≡ None → tree ≡ given_tree draft
    → tree_fault network tree ≡ fault → trees_fault draft ≡ or_else (option_map of_tree fault) None
trees_are draft network tree fault net fine linked same is =
    let there : tree_fault (checked_network draft.variables) (given_tree draft) ≡ fault =
    ap (λ (n : List Variable). tree_fault n (given_tree draft)) (sym net) ∙ ap (λ (t : GivenTree). tree_fault network t) (sym same) ∙ is in
    cliques_are draft network None net fine ∙ ap (λ o. or_else o (tree_part draft)) linked ∙ ap (λ f. or_else (option_map of_tree f) None) there

-- what is wrong with the tree is what is wrong with the draft
pub judged : (draft : DraftOfMarket) (fault : Option FileFault) → counts_fault draft ≡ None
    → first_fault draft.zeros draft.variables ≡ None → trees_fault draft ≡ fault
    → of_draft (Ok draft) ≡ unless fault (market_in draft)
judged draft fault counted checked whole =
    let later = none_of (count_fault draft.variables) (draft_later draft.zeros draft.variables) checked in
    let fine : variables_fault draft ≡ None = ap (λ o. option_map of_net o) later.1 in
    let rest = trees_fault draft in
    ap (λ o. unless o (market_in draft))
    (ap (λ o. or_else o (or_else (variables_fault draft) rest)) counted ∙ ap (λ o. or_else o rest) fine ∙ whole)

-- and its network's first fault where its numbers have none
unmapped : (fault : Option NetFault) → option_map of_net fault ≡ None → fault ≡ None
unmapped None h = refl
unmapped (Some e) h = cc

variables_counted : (draft : DraftOfMarket) → counts_fault draft ≡ None → count_fault draft.variables ≡ None
variables_counted draft counted =
    let variables = none_of _ _ (top_passed draft counted).1 in
    let cliques = none_of _ _ variables.1 in
    let links = none_of _ _ cliques.1 in
    let count = length draft.variables in
    let few = passed (not (is_within 1 256 count)) (Count VariableKey 0 (pos count)) variables.0 in
    ap (λ test. or_else (fault_if test (NetCount VariableKey 0 (pos (length draft.variables)))) (first_in count_at 1 draft.variables)) few
    ∙ unmapped (first_in count_at 1 draft.variables) (none_of _ _ links.1).0

pub network_refused : (draft : DraftOfMarket) (fault : NetFault) → counts_fault draft ≡ None → first_fault draft.zeros draft.variables ≡ Some fault → of_draft (Ok draft) ≡ Err (of_net fault)
network_refused draft fault counted bad =
    let later : draft_later draft.zeros draft.variables ≡ Some fault = ap (λ o. or_else o (draft_later draft.zeros draft.variables)) (sym (variables_counted draft counted)) ∙ bad in
    let rest = or_else (first_in (clique_at draft) 1 draft.cliques) (or_else (first_in link_at 2 draft.links) (tree_part draft)) in
    ap (λ o. unless o (market_in draft)) (ap (λ o. or_else o (or_else (variables_fault draft) rest)) counted ∙ ap (λ o. or_else (option_map of_net o) rest) later)

-- a number of the top, as the program casts it
pub record IsCast (high : ℕ) (z : ℤ) : Type 0 where
  pub fits : T (non_neg z) × Fits w32 (nat_abs z)
  pub low : 1 ≤ nat_abs z
  pub top : nat_abs z ≤ high

cast_within : (key : Key) (high : ℕ) (z : ℤ) → high ≤ 1000000 → whole_fault key 1 high z ≡ None → IsCast high (to_z w64 (of_z w64 z))
cast_within key high (pos n) small h =
    let parts = and_parts (nat_le 1 n) (nat_le n high) (not-false (is_whole_within 1 high (pos n)) (passed (not (is_whole_within 1 high (pos n))) (Count key 0 (pos n)) h)) in
    let low : 1 ≤ n = leb-true 1 n parts.0 in
    let top : n ≤ high = leb-true n high parts.1 in
    let fits : SFits w64 (pos n) = record { sfits = omega (arith, small, top) } in
    subst (λ z. IsCast high z) (sym (to_z-of_z fits)) (record { fits = (_, omega (arith, small, top)); low = low; top = top })
cast_within key high (negsuc n) small h = cc

-- the four numbers of the top, as the program casts them
pub record AreCast (draft : DraftOfMarket) : Type 0 where
  pub points : IsCast 1000000 (to_z w64 (of_z w64 draft.points_per_bit))
  pub trades : IsCast 1000000 (to_z w64 (of_z w64 draft.max_trades))
  pub users : IsCast 65536 (to_z w64 (of_z w64 draft.max_users))
  pub transfers : IsCast 1000000 (to_z w64 (of_z w64 draft.max_transfers))

pub top_cast : (draft : DraftOfMarket) → counts_fault draft ≡ None → AreCast draft
top_cast draft counted =
    let top = (top_passed draft counted).0 in
    record {
      points = cast_within PointsPerBit 1000000 draft.points_per_bit (omega arith) top.points;
      trades = cast_within MaxTrades 1000000 draft.max_trades (omega arith) top.trades;
      users = cast_within MaxUsers 65536 draft.max_users (omega arith) top.users;
      transfers = cast_within MaxTransfers 1000000 draft.max_transfers (omega arith) top.transfers;
    }
