-- What decides a question is the first refusal by what can come.
use Rattle.std.specs.Prelude.{◌≡◌, ℕ, List, [], ◌∷◌, true, false, Option, Some, None}
use Rattle.std.specs.Prelude.{option_and_then}
use Rattle.std.specs.List.{AllByRecursion}
use Rattle.std.proofs.Common.{refl, sym, ap, ◌∙◌, subst}
use Rattle.mk_net.specs.declared.words.Pair.{Pair}
use Rattle.mk_net.specs.declared.words.PairText.{PairText}
use Rattle.mk_net.specs.declared.words.QuestionText.{QuestionText}
use Rattle.mk_net.specs.Asked.{Asked}
use Rattle.mk_net.specs.Firsts.{fault_if, or_else, first_of}
use Rattle.mk_net.specs.Network.{Variable}
use Rattle.mk_states.specs.Events.{holds, with_target, without_target}
use Rattle.mk_exact.specs.History.{Entry}
use Rattle.mk_states.specs.OfNetwork.{IsPairOf}
use Rattle.mk_exact.specs.Weight.{cannot_come}
use Rattle.mk_net.specs.Events.{pairs_asked}
use Rattle.mk_tree.specs.Given.{GivenTree, home}
use Rattle.mk_tree.proofs.Held.{home_is_held}
use Rattle.mk_engine.specs.Meaning.{Meaning}
use Rattle.mk_beliefs.specs.Meanings.{weights_of}
use Rattle.mk_reply.specs.declared.refusal.Refusal.{Refusal}
use Rattle.mk_reply.specs.declared.refusal.Refusal.TheVariants.{Impossible, Sure}
use Rattle.mk_rules.specs.Refusals.{pairs_of, known_pairs, question_named, unknown}
use Rattle.mk_rules.specs.Refusals.{impossible_together, decided}
use Rattle.mk_answers.specs.Open.{IsOpen, CanBeAnswered}
use Rattle.mk_answers.specs.Results.{AreBothLeft}
use Rattle.mk_answers.proofs.Homes.{condition_is_held}
use Rattle.mk_asking.specs.Stopped.{IsAskedBy, IsConditionBy, CanRefuseCondition}
use Rattle.mk_record.proofs.Refusing.{pairs_are, slice_known}
use Rattle.mk_asking.proofs.Together.{none_together, condition_comes}

-- what each refusal asks
module _ {E : Type 0} (stands_for : E → Meaning → Type 0) (prices : E) (network : List Variable) (tree : GivenTree) (H : List Entry)
    (stands : stands_for prices (weights_of network tree H)) (is_open : IsOpen network tree H) (q : QuestionText) (asked : Asked)
    (named : question_named network q ≡ Some asked) (known : unknown network (pairs_of q) ≡ None) (answered : CanBeAnswered network tree H asked) where
  pub can_refuse_condition : (at : ℕ) → home tree (pairs_asked asked) ≡ Some at
      → (condition : List Pair) (words : List PairText) → condition ≡ asked.condition
      → words ≡ q.condition.items → cannot_come network H (holds asked.condition) ≡ true
      → CanRefuseCondition stands_for prices at condition words
  can_refuse_condition at at_home condition words e f cannot = record {
    network = network;
    tree = tree;
    history = H;
    stands = stands;
    is_open = is_open;
    condition_by = record { known = slice_known network q words f known; named = pairs_are network q asked condition words named e f };
    in_range = subst (AllByRecursion (IsPairOf network)) (sym e) answered.in_order.in_range.condition;
    held = condition_is_held tree at asked condition e (home_is_held tree at _ at_home);
    cannot = subst (λ (ps : List Pair). cannot_come network H (holds ps) ≡ true) (sym e) cannot;
  }

-- the first that applies of what can come
pub first_is : (one later : Option Refusal) (why : Refusal) → one ≡ Some why → or_else one later ≡ Some why
first_is None later why e = cc
first_is (Some x) later why e = e

module _ (network : List Variable) (H : List Entry) (q : QuestionText) (asked : Asked) (by : IsAskedBy network q asked) where
  pub never_at_all : (words : List PairText) (why : Refusal) → words ≡ q.condition.items → impossible_together network H words ≡ Some why
      → first_of (impossible_together network H q.condition.items ∷ decided network H q ∷ []) ≡ Some why
  never_at_all words why same e = first_is _ _ why (ap (impossible_together network H) (sym same) ∙ e)

  decided_is : decided network H q
      ≡ or_else (fault_if (cannot_come network H (with_target asked)) (Impossible q.target)) (fault_if (cannot_come network H (without_target asked)) (Sure q.target))
  decided_is = ap (option_and_then (λ (asked : Asked). or_else
      (fault_if (cannot_come network H (with_target asked)) (Impossible q.target)) (fault_if (cannot_come network H (without_target asked)) (Sure q.target)))) by.named

  condition_named : asked.condition ≡ known_pairs network q.condition.items
  condition_named = pairs_are network q asked asked.condition q.condition.items by.named refl refl

  pub never_refused : cannot_come network H (holds asked.condition) ≡ false → cannot_come network H (with_target asked) ≡ true
      → first_of (impossible_together network H q.condition.items ∷ decided network H q ∷ []) ≡ Some (Impossible q.target)
  never_refused comes never =
      rw (none_together network H q.condition.items asked.condition condition_named comes, decided_is, never) refl

  pub sure_refused : cannot_come network H (with_target asked) ≡ false → cannot_come network H (without_target asked) ≡ true
      → first_of (impossible_together network H q.condition.items ∷ decided network H q ∷ []) ≡ Some (Sure q.target)
  sure_refused hit miss =
      rw (none_together network H q.condition.items asked.condition condition_named (condition_comes network H asked hit), decided_is, hit, miss) refl

  -- where both sides are left nothing stops it
  pub none_stops : AreBothLeft network H asked → first_of (impossible_together network H q.condition.items ∷ decided network H q ∷ []) ≡ None
  none_stops left =
      rw (none_together network H q.condition.items asked.condition condition_named (condition_comes network H asked left.hit), decided_is, left.hit, left.miss) refl

  -- where its condition cannot come its pairs are refused
  pub impossible_by : (condition : List Pair) (words : List PairText) (why : Refusal) → condition ≡ asked.condition → words ≡ q.condition.items
      → cannot_come network H (holds asked.condition) ≡ true
      → (IsConditionBy network words condition → cannot_come network H (holds condition) ≡ true → impossible_together network H words ≡ Some why)
      → impossible_together network H q.condition.items ≡ Some why
  impossible_by condition words why e f cannot refused =
      ap (impossible_together network H) (sym f)
      ∙ refused (record { known = slice_known network q words f by.known; named = pairs_are network q asked condition words by.named e f })
      (subst (λ (ps : List Pair). cannot_come network H (holds ps) ≡ true) (sym e) cannot)
