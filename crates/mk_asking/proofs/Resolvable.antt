-- A pair of a variable that is not resolved can be asked about, and where no share is nothing it can come.
use Rattle.std.proofs.Common.{◌≡◌, ℕ, ◌+◌, Bool, true, false, cond, not, ◌&&◌, eqb, List, [], ◌∷◌}
use Rattle.std.proofs.Common.{◌++◌, Option, Some, None, is_none, refl, sym, ap, ◌∙◌, eq-eqb}
use Rattle.std.proofs.Math.Path.{fun_ext}
use Rattle.std.specs.Prelude.{option_map, is_some}
use Rattle.std.specs.List.{AllByRecursion}
use Rattle.mk_net.specs.declared.words.Pair.{Pair}
use Rattle.mk_net.specs.Events.{speaks_of}
use Rattle.mk_net.specs.Network.{Variable}
use Rattle.mk_net.specs.Zeros.{with_zeros}
use Rattle.mk_net.proofs.Events.{neither}
use Rattle.mk_states.specs.Events.{has, holds}
use Rattle.mk_exact.specs.History.{Entry, resolutions}
use Rattle.mk_exact.specs.Laws.{AgreesWith}
use Rattle.mk_exact.specs.Weight.{cannot_come}
use Rattle.mk_exact.proofs.Coming.{comes_in}
use Rattle.mk_exact.proofs.Remains.{state_remains}
use Rattle.mk_exact.proofs.Zeros.{no_zeros}
use Rattle.mk_tree.specs.Given.{GivenTree}
use Rattle.mk_tree.proofs.Held.{home_is_held}
use Rattle.mk_engine.specs.Meaning.{Meaning}
use Rattle.mk_answers.specs.Calls.{CanSearch}
use Rattle.mk_answers.specs.Open.{IsOpen}
use Rattle.mk_answers.specs.Results.{first_impossible}
use Rattle.mk_record.specs.Refused.{CanBeResolved}
use Rattle.mk_asking.specs.Stopped.{CanAskOfPair}

-- ---- one pair as an event

one_more : (b : Bool) → (b && true) ≡ b
one_more true = refl
one_more false = refl

-- nothing and one pair more is that pair
pub only_one : (held event : List Pair) (pair : Pair) → held ≡ [] → event ≡ held ++ pair ∷ [] → event ≡ pair ∷ []
only_one held event pair none more = more ∙ ap (λ (front : List Pair). front ++ pair ∷ []) none

-- a state has one pair exactly where it holds the list of it
pub of_one : (network : List Variable) (H : List Entry) (pair : Pair) → cannot_come network H (holds (pair ∷ [])) ≡ cannot_come network H (has pair)
of_one network H pair = ap (cannot_come network H) (fun_ext (λ s. one_more (has pair s)))

-- no pair of one is the first that cannot come exactly where it can
pub none_impossible : (network : List Variable) (H : List Entry) (pair : Pair) → is_none (first_impossible network H [] (pair ∷ [])) ≡ not (cannot_come network H (has pair))
none_impossible network H pair = at (cannot_come network H (holds (pair ∷ []))) ∙ ap not (of_one network H pair)
  where
    at : (b : Bool) → is_none (cond b (Some 0) (option_map (λ k. k + 1) None)) ≡ not b
    at true = refl
    at false = refl

other_way : {X : Type 0} (o : Option X) (none : Bool) → is_some o ≡ not none → none ≡ is_none o
other_way None true e = refl
other_way None false e = absurd (cc)
other_way (Some x) true e = absurd (cc)
other_way (Some x) false e = refl

-- which is what a search for it says
pub one_first : (network : List Variable) (H : List Entry) (pair : Pair) (event : List Pair) → event ≡ pair ∷ [] → (found : Option ℕ) → found ≡ first_impossible network H [] event
    → (none : Bool) → is_some found ≡ not none → none ≡ not (cannot_come network H (has pair))
one_first network H pair event is found first none said =
    other_way found none said ∙ ap is_none (first ∙ ap (first_impossible network H []) is) ∙ none_impossible network H pair

module _ (network : List Variable) (H : List Entry) (pair : Pair) (can : CanBeResolved network H pair) where
  -- what is resolved agrees with it
  silent : (rs : List Pair) → speaks_of rs pair.variable ≡ false → AllByRecursion (AgreesWith pair) rs
  silent [] h = tt
  silent (r ∷ rs) h =
      let parts = neither (eqb pair.variable r.variable) (speaks_of rs pair.variable) h in
      (λ e. absurd (let t = eq-eqb pair.variable r.variable (sym e) in let f = parts.0 in cc), silent rs (parts.1))

  -- in a network without a share of nothing it can come
  pub pair_comes : (tree : GivenTree) → IsOpen network tree H → with_zeros network ≡ [] → cannot_come network H (has pair) ≡ false
  pair_comes tree is_open none =
      sym (of_one network H pair) ∙ comes_in network H (holds (pair ∷ []))
      (state_remains network H (pair ∷ []) is_open.legal (no_zeros network none) is_open.proper (can.in_range, tt) (refl, tt) (silent (resolutions H) can.unresolved, tt))

-- it can be searched for
pub can_search : {E : Type 0} (stands_for : E → Meaning
    → Type 0) (prices : E) (network : List Variable) (at : ℕ) (pair : Pair) (event : List Pair)
    → event ≡ pair ∷ []
    → CanAskOfPair stands_for prices network at pair → CanSearch stands_for prices at event
can_search stands_for prices network at pair event is can = rw is (record {
  network = network;
  tree = can.tree;
  history = can.history;
  stands = can.stands;
  is_open = can.is_open;
  in_range = (can.resolvable.in_range, tt);
  held = home_is_held can.tree at (pair ∷ []) can.at_home;
})
