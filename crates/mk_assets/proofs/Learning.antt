-- What assets have learnt of what is known: all of it where they stand for a holding, and no less of it where a pair more is known.
use Rattle.std.proofs.Common.{◌≡◌, ℕ, ◌+◌, ◌-◌, ◌<◌, ◌≤◌, List, [], ◌∷◌, length, take, drop, get_or, sym, subst, ap, ◌∙◌, arith}
use Rattle.std.proofs.lemmas.List.{take_all, take_rest, take_more, take-append-le, get_or-drop, length-drop, length_push}
use Rattle.mk_net.specs.declared.words.Pair.{Pair}
use Rattle.mk_engine.specs.Meaning.{Meaning, with_known}
use Rattle.mk_assets.specs.declared.assets.Assets.{Assets}
use Rattle.mk_assets.specs.Holdings.{Holding, Holds, Owns, with_first_known}

-- with all that is known it is the meaning itself
pub all_known : (m : Meaning) (n : ℕ) → length m.known ≤ n → with_first_known n m ≡ m
all_known m n h = ap (λ (pairs : List Pair). record { network = m.network; tree = m.tree; factors = m.factors; known = pairs }) (take_all n m.known h)

-- a pair that comes to be known is none of the first
pub first_known_further : (m : Meaning) (pair : Pair) (n : ℕ) → n ≤ length m.known
    → with_first_known n (with_known pair m) ≡ with_first_known n m
first_known_further m pair n h = ap (λ (pairs : List Pair). record { network = m.network; tree = m.tree; factors = m.factors; known = pairs })
    (take-append-le n m.known (pair ∷ []) h)

-- one pair more of the first is the next that is known
pub first_known_more : (m : Meaning) (n : ℕ) (d : Pair) → n < length m.known
    → with_first_known (n + 1) m ≡ with_known (get_or m.known n d) (with_first_known n m)
first_known_more m n d h = ap (λ (pairs : List Pair). record { network = m.network; tree = m.tree; factors = m.factors; known = pairs })
    (take_more m.known n d h)

-- a pair among those that follow the first n is one of all
pub pair_further : (known : List Pair) (n i : ℕ) (d : Pair) → get_or (take (length known - n) (drop n known)) i d ≡ get_or known (n + i) d
pair_further known n i d = ap (λ (pairs : List Pair). get_or pairs i d) (take_rest known n) ∙ get_or-drop n known i d

-- how many those are
left_in : (known : List Pair) (n : ℕ) → length (take (length known - n) (drop n known)) ≡ length known - n
left_in known n = ap length (take_rest known n) ∙ length-drop n known

pub further_within : (known : List Pair) (n i : ℕ) → i < length (take (length known - n) (drop n known)) → n + i < length known
further_within known n i h = omega (arith, left_in known n, h)

pub further_past : (known : List Pair) (n i : ℕ) → length (take (length known - n) (drop n known)) ≤ i → length known ≤ n + i
further_past known n i h = omega (arith, left_in known n, h)

-- once the next of them is learnt, one pair more of the first is
pub learnt_more : (m : Meaning) (known : List Pair) (n i : ℕ) (d : Pair) → m.known ≡ known
    → i < length (take (length known - n) (drop n known))
    → with_known (get_or (take (length known - n) (drop n known)) i d) (with_first_known (n + i) m) ≡ with_first_known (n + (i + 1)) m
learnt_more m known n i d same h =
    let within : n + i < length m.known = omega (arith, further_within known n i h, ap length same) in
    let next : n + i + 1 ≡ n + (i + 1) = omega arith in
    ap (λ (pair : Pair). with_known pair (with_first_known (n + i) m)) (pair_further known n i d ∙ sym (ap (λ (pairs : List Pair). get_or pairs (n + i) d) same))
    ∙ (sym (first_known_more m (n + i) d within) ∙ ap (λ (k : ℕ). with_first_known k m) next)

-- assets that stand for a holding are those of it
pub owns_holds : {E P : Type 0} (stands_for : E → Meaning → Type 0) (assets : Assets E P) (h : Holding)
    → Owns stands_for assets h → Holds stands_for assets h
owns_holds stands_for assets h owns =
    let some : assets.learnt ≤ length h.meaning.known = omega (arith, owns.all_learnt) in
    let all : length h.meaning.known ≤ assets.learnt = omega (arith, owns.all_learnt) in
    record {
      stands = subst (stands_for assets.engine) (sym (all_known h.meaning assets.learnt all)) owns.stands;
      some_learnt = some;
      counted = owns.counted;
      net = owns.net;
      few_in = owns.few_in;
      few_out = owns.few_out;
    }

-- they are still those of it once a pair more is known
pub held_further : {E P : Type 0} (stands_for : E → Meaning → Type 0) (assets : Assets E P) (h : Holding) (pair : Pair)
    → Holds stands_for assets h
    → Holds stands_for assets (record { meaning = with_known pair h.meaning; deposited = h.deposited; withdrawn = h.withdrawn })
held_further stands_for assets h pair holds =
    record {
      stands = subst (stands_for assets.engine) (sym (first_known_further h.meaning pair assets.learnt holds.some_learnt)) holds.stands;
      some_learnt = omega (arith, holds.some_learnt, length_push h.meaning.known pair);
      counted = holds.counted;
      net = holds.net;
      few_in = holds.few_in;
      few_out = holds.few_out;
    }
