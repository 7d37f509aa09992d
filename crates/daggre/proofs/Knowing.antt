-- Pairs in words, of which each is known or the first unknown one is found.
use Rattle.std.proofs.Common.{◌≡◌, ℕ, ◌+◌, ◌<◌, List, [], ◌∷◌, ◌++◌, length, drop, get_or, All}
use Rattle.std.proofs.Common.{Option, Some, None, is_none, cond, refl, sym, ap, ap₂, ◌∙◌}
use Rattle.std.proofs.Common.{length-append, drop-cons, add-one, append_assoc}
use Rattle.std.specs.Option.{option_or}
use Rattle.std.specs.List.{cons_option}
use Rattle.std.proofs.lemmas.List.Elements.{All-append, All-cons, All-nil}
use Rattle.std.proofs.lemmas.List.Folds.{find-append}
use Rattle.mk_net.specs.declared.words.Pair.{Pair}
use Rattle.mk_net.specs.declared.words.PairText.{PairText}
use Rattle.mk_net.specs.Network.{Variable}
use Rattle.mk_net.specs.Named.{pair_named}
use Rattle.mk_net.proofs.Named.{pair_variable_in_range, pair_value_in_range}
use Rattle.mk_states.specs.OfNetwork.{IsPairOf}
use Rattle.mk_rules.specs.Refusals.{known_pairs}
use Rattle.daggre.specs.declared.ask.Ask.{Ask}
use Rattle.daggre.specs.declared.ask.Ask.TheVariants.{Chance}
use Rattle.daggre.specs.LastLine.{first_unknown, pairs_in}

-- the first unknown pair of two lists: that of the first, or else that of the second
pub unknown_first : (network : List Variable) (want given : List PairText) (pair : PairText)
    → Some pair ≡ first_unknown network want → Some pair ≡ first_unknown network (want ++ given)
unknown_first network want given pair e =
    ap (λ (o : Option PairText). option_or o (first_unknown network given)) e
    ∙ sym (find-append (λ p. is_none (pair_named network p)) want given)

pub unknown_then : (network : List Variable) (want given : List PairText)
    → None ≡ first_unknown network want
    → first_unknown network given ≡ first_unknown network (want ++ given)
unknown_then network want given e =
    ap (λ (o : Option PairText). option_or o (first_unknown network given)) e
    ∙ sym (find-append (λ p. is_none (pair_named network p)) want given)

-- where both have none
none_of : {X : Type 0} (a b : Option X) → option_or a b ≡ None → (a ≡ None) × (b ≡ None)
none_of None b e = (refl, e)
none_of (Some x) b e = absurd (cc)

pub both_known : (network : List Variable) (want given : List PairText)
    → first_unknown network (want ++ given) ≡ None
    → (first_unknown network want ≡ None) × (first_unknown network given ≡ None)
both_known network want given e = none_of (first_unknown network want) (first_unknown network given)
    (sym (find-append (λ p. is_none (pair_named network p)) want given) ∙ e)

rest_at : (pairs : List PairText) (k : ℕ) (d : PairText) → k < length pairs
    → drop k pairs ≡ get_or pairs k d ∷ drop (k + 1) pairs
rest_at pairs k d h = rw (add-one, drop-cons pairs k d) refl

-- these are the known pairs of the words before a place, and no word behind it is unknown
pub record AreKnown (network : List Variable) (words : List PairText) (k : ℕ) (pairs : List Pair)
    : Type 0 where
  pub count : length pairs ≡ k
  pub same : pairs ++ known_pairs network (drop k words) ≡ known_pairs network words
  pub left : first_unknown network (drop k words) ≡ None
  pub fit : All (IsPairOf network) pairs

pub known_more : (network : List Variable) (words : List PairText) (k : ℕ) (d : PairText)
    (pairs : List Pair) (pair : Pair) → k < length words
    → Some pair ≡ pair_named network (get_or words k d) → AreKnown network words k pairs
    → AreKnown network words (k + 1) (pairs ++ pair ∷ [])
known_more network words k d pairs pair h named so_far = record {
  count = length-append pairs (pair ∷ []) ∙ ap (λ n. n + 1) so_far.count;
  same = append_assoc pairs (pair ∷ []) (known_pairs network (drop (k + 1) words))
      ∙ ap (λ (o : Option Pair). pairs ++ cons_option o
      (known_pairs network (drop (k + 1) words))) named
      ∙ ap (λ (ws : List PairText). pairs ++ known_pairs network ws) (sym (rest_at words k d h))
      ∙ so_far.same;
  left = ap (λ (o : Option Pair). cond (is_none o) (Some (get_or words k d))
      (first_unknown network (drop (k + 1) words))) named
      ∙ sym (ap (first_unknown network) (rest_at words k d h)) ∙ so_far.left;
  fit = All-append (IsPairOf network) pairs (pair ∷ []) so_far.fit
      (All-cons (IsPairOf network) pair [] (record {
        variable = pair_variable_in_range network (get_or words k d) pair named;
        value = pair_value_in_range network (get_or words k d) pair named;
      }) (All-nil (IsPairOf network)));
}

-- so the wanted pairs of what is asked are known, and the given ones
module _ (network same : List Variable) (ask : Ask) (want given pairs : List PairText)
    (is_same : same ≡ network) (chance : ask ≡ Chance want given)
    (known : first_unknown network (pairs_in ask) ≡ None) where
  both : (first_unknown network want ≡ None) × (first_unknown network given ≡ None)
  both = both_known network want given
      (ap (λ (a : Ask). first_unknown network (pairs_in a)) (sym chance) ∙ known)

  pub want_known : pairs ≡ want → first_unknown same pairs ≡ None
  want_known e = ap₂ (λ (n : List Variable) (ps : List PairText). first_unknown n ps) is_same e
      ∙ both.0

  pub given_known : pairs ≡ given → first_unknown same pairs ≡ None
  given_known e = ap₂ (λ (n : List Variable) (ps : List PairText). first_unknown n ps) is_same e
      ∙ both.1
