-- Questions in words: the pairs of a condition that are gathered, and the variable that is repeated first.
use Rattle.std.proofs.Common.{◌≡◌, ℕ, suc, zero, ◌+◌, ◌<◌, ◌≤◌, Bool, true, false, cond, ◌||◌, List, [], ◌∷◌, ◌++◌, length, length-append, take, drop, slice_index_or, Option, Some, None, IfSome, IfNone, is_none, refl, sym, ap, ap₂, subst, ◌∙◌, arith}
use Rattle.std.specs.Prelude.{◌==◌, find, option_map}
use Rattle.std.proofs.Math.Bool.{or_assoc, or_comm}
use Rattle.std.specs.List.{list_any, cons_option}
use Rattle.std.proofs.lemmas.Bool.{eqb-true, eq-eqb}
use Rattle.mk_net.specs.declared.words.Pair.{Pair}
use Rattle.mk_net.specs.declared.words.PairText.{PairText}
use Rattle.mk_net.specs.declared.words.QuestionText.{QuestionText}
use Rattle.mk_net.specs.Asked.{Asked}
use Rattle.mk_net.specs.Bounds.{max_condition}
use Rattle.mk_net.specs.Events.{speaks_of, AreApart}
use Rattle.mk_net.specs.Firsts.{fault_if, or_else}
use Rattle.mk_net.specs.Network.{Variable}
use Rattle.mk_net.specs.Named.{pair_named, variable_at, variable_named}
use Rattle.mk_names.specs.Texts.{same_text}
use Rattle.mk_net.proofs.Named.{pair_variable_in_range, pair_value_in_range}
use Rattle.mk_names.proofs.SameText.{same_text_of_equal, equal_of_same_text}
use Rattle.mk_states.specs.OfNetwork.{IsPairOf}
use Rattle.mk_reply.specs.declared.refusal.Refusal.{Refusal}
use Rattle.mk_reply.specs.declared.refusal.Refusal.TheVariants.{Unknown, Twice}
use Rattle.mk_rules.specs.Refusals.{pairs_of, names_in, known_pairs, question_named, first_repeat, unknown, twice}
use Rattle.mk_rules.proofs.Unrefused.{variable_known}
use Rattle.mk_record.specs.inner.Gathered.{IsGathered}
use Rattle.mk_record.proofs.KnownVariables.{IsNumberOf, name_of_number}

-- the variables of some pairs, the last first, before some names
unfoldable pub onto : List (List ℕ) → List PairText → List (List ℕ)
onto before [] = before
onto before (p ∷ ps) = onto (p.variable ∷ before) ps

onto_more : (before : List (List ℕ)) (ps : List PairText) (k : ℕ) (d : PairText) → k < length ps
    → onto before (take (suc k) ps) ≡ (slice_index_or ps k d).variable ∷ onto before (take k ps)
unfolding onto
onto_more before [] k d h = absurd (omega arith)
onto_more before (p ∷ ps) zero d h = refl
onto_more before (p ∷ ps) (suc k) d h = onto_more (p.variable ∷ before) ps k d (omega arith)

rest_at : (ps : List PairText) (k : ℕ) (d : PairText) → k < length ps → drop k ps ≡ slice_index_or ps k d ∷ drop (suc k) ps
rest_at [] k d h = absurd (omega arith)
rest_at (p ∷ ps) zero d h = refl
rest_at (p ∷ ps) (suc k) d h = rest_at ps k d (omega arith)

known_more : (network : List Variable) (ps : List PairText) (k : ℕ) (d : PairText) (y : Pair) → k < length ps → pair_named network (slice_index_or ps k d) ≡ Some y
    → known_pairs network (take (suc k) ps) ≡ known_pairs network (take k ps) ++ y ∷ []
known_more network [] k d y h named = absurd (omega arith)
known_more network (p ∷ ps) zero d y h named = ap (λ (o : Option Pair). cons_option o []) named
known_more network (p ∷ ps) (suc k) d y h named =
    ap (λ (rest : List Pair). cons_option (pair_named network p) rest) (known_more network ps k d y (omega arith) named) ∙ at (pair_named network p)
  where
    at : (o : Option Pair) → cons_option o (known_pairs network (take k ps) ++ y ∷ []) ≡ cons_option o (known_pairs network (take k ps)) ++ y ∷ []
    at None = refl
    at (Some z) = refl

pub speaks_more : (condition : List Pair) (y : Pair) (v : ℕ) → speaks_of (condition ++ y ∷ []) v ≡ (speaks_of condition v || (v == y.variable))
speaks_more [] y v = at (v == y.variable)
  where
    at : (b : Bool) → (b || false) ≡ b
    at true = refl
    at false = refl
speaks_more (x ∷ condition) y v = ap (λ (b : Bool). (v == x.variable) || b) (speaks_more condition y v) ∙ at (v == x.variable)
  where
    at : (b : Bool) → (b || (speaks_of condition v || (v == y.variable))) ≡ ((b || speaks_of condition v) || (v == y.variable))
    at true = refl
    at false = refl

-- where a list with one pair more gives no variable twice, the others do not speak of the last one's
pub last_unspoken : (condition : List Pair) (y : Pair) → AreApart (condition ++ y ∷ []) → speaks_of condition y.variable ≡ false
last_unspoken [] y h = refl
last_unspoken (x ∷ condition) y h = at (y.variable == x.variable) refl (speaks_of condition y.variable) (last_unspoken condition y h.1)
  where
    later : (a b : Bool) → (a || b) ≡ false → b ≡ false
    later true b h = cc
    later false b h = h

    at : (b : Bool) → (y.variable == x.variable) ≡ b → (rest : Bool) → rest ≡ false → (b || rest) ≡ false
    at true e rest i = absurd (let same = eq-eqb x.variable y.variable (sym (eqb-true y.variable x.variable e)) in
        let other = later (speaks_of condition x.variable) (x.variable == y.variable) (sym (speaks_more condition y x.variable) ∙ h.0) in cc)
    at false e rest i = i

module _ (network : List Variable) where
  -- known names are the same text exactly where they have the same number
  names_agree : (a b : List ℕ) (x y : ℕ) → IsNumberOf network a x → IsNumberOf network b y → same_text a b ≡ (x == y)
  names_agree a b x y e f = at (x == y) refl (same_text a b) refl
    where
      equal : x ≡ y → a ≡ b
      equal h = sym (name_of_number network a x e.0 e.1) ∙ ap (λ (k : ℕ). (variable_at network k).name) h ∙ name_of_number network b y f.0 f.1

      one_number : a ≡ b → x ≡ y
      one_number h = number (sym e.1 ∙ ap (variable_named network) h ∙ f.1)
        where
          number : {i j : ℕ} {v w : Variable} → ◌≡◌ {A = Option (ℕ × Variable)} (Some (i, v)) (Some (j, w)) → i ≡ j
          number {i = i} h = ap (λ (o : Option (ℕ × Variable)). elim o [ None ↦ i | Some r ↦ r.0 ]) h

      at : (s : Bool) → (x == y) ≡ s → (t : Bool) → same_text a b ≡ t → same_text a b ≡ s
      at true i t j = same_text_of_equal a b (equal (eqb-true x y i))
      at false i true j = absurd (let one = eq-eqb x y (one_number (equal_of_same_text a b j)) in cc)
      at false i false j = j

  -- a name that is known stands among the target's and the earlier ones exactly where its variable does
  pub AreMatched : List PairText → ℕ → List Pair → List ℕ → ℕ → Type 0
  AreMatched pairs k condition t x = (p : PairText) (z : Pair) → pair_named network p ≡ Some z
      → list_any (same_text p.variable) (onto (t ∷ []) (take k pairs)) ≡ ((z.variable == x) || speaks_of condition z.variable)

  -- the first repeat behind a target, where so many pairs were gathered
  pub FirstAt : List PairText → ℕ → List Pair → Option (List ℕ) → List ℕ → ℕ → Type 0
  FirstAt pairs k condition repeated t x = first_repeat (t ∷ []) (names_in pairs)
      ≡ cond (speaks_of condition x) (Some t) (or_else repeated (first_repeat (onto (t ∷ []) (take k pairs)) (names_in (drop k pairs))))

  -- what is gathered of the first k pairs, each of which is known
  pub record IsGatheredTo (pairs : List PairText) (k : ℕ) (condition : List Pair) (repeated : Option (List ℕ)) : Type 0 where
    pub few : length condition ≤ k
    pub unknown : find (λ p. is_none (pair_named network p)) (drop k pairs) ≡ find (λ p. is_none (pair_named network p)) pairs
    pub whole : IfNone repeated (condition ≡ known_pairs network (take k pairs))
    pub matched : (t : List ℕ) (x : ℕ) → IsNumberOf network t x → IfNone repeated (AreMatched pairs k condition t x)
    pub first : (t : List ℕ) (x : ℕ) → IsNumberOf network t x → FirstAt pairs k condition repeated t x

  pub gathered_none : (pairs : List PairText) → IsGatheredTo pairs 0 [] None
  unfolding AreMatched FirstAt onto
  gathered_none pairs = record {
    few = omega arith;
    unknown = refl;
    whole = refl;
    matched = λ t x e p z f. ap (λ (b : Bool). b || false) (names_agree p.variable t z.variable x (variable_known network p z f) e);
    first = λ t x e. refl;
  }

  -- the first repeat from a place on
  repeat_here : (before : List (List ℕ)) (pairs : List PairText) (k : ℕ) (d : PairText) → k < length pairs
      → first_repeat before (names_in (drop k pairs))
      ≡ cond (list_any (same_text (slice_index_or pairs k d).variable) before) (Some (slice_index_or pairs k d).variable)
      (first_repeat ((slice_index_or pairs k d).variable ∷ before) (names_in (drop (suc k) pairs)))
  repeat_here before pairs k d h = ap (λ (ps : List PairText). first_repeat before (names_in ps)) (rest_at pairs k d h)

  unknown_next : (pairs : List PairText) (k : ℕ) (d : PairText) (y : Pair) → k < length pairs → pair_named network (slice_index_or pairs k d) ≡ Some y
      → find (λ p. is_none (pair_named network p)) (drop (suc k) pairs) ≡ find (λ p. is_none (pair_named network p)) (drop k pairs)
  unknown_next pairs k d y h named = rw (rest_at pairs k d h) (rw named refl)

  whole_next : (pairs : List PairText) (k : ℕ) (d : PairText) (y : Pair) (condition : List Pair) → k < length pairs → pair_named network (slice_index_or pairs k d) ≡ Some y
      → condition ≡ known_pairs network (take k pairs) → condition ++ y ∷ [] ≡ known_pairs network (take (suc k) pairs)
  whole_next pairs k d y condition h named e = ap (λ (ps : List Pair). ps ++ y ∷ []) e ∙ sym (known_more network pairs k d y h named)

  matched_next : (pairs : List PairText) (k : ℕ) (d : PairText) (y : Pair) (condition : List Pair) (t : List ℕ) (x : ℕ) → k < length pairs
      → pair_named network (slice_index_or pairs k d) ≡ Some y → AreMatched pairs k condition t x → AreMatched pairs (suc k) (condition ++ y ∷ []) t x
  unfolding AreMatched
  matched_next pairs k d y condition t x h named matched p z f =
      ap (λ (names : List (List ℕ)). list_any (same_text p.variable) names) (onto_more (t ∷ []) pairs k d h)
      ∙ ap₂ (λ a b. a || b) (names_agree p.variable (slice_index_or pairs k d).variable z.variable y.variable (variable_known network p z f) (variable_known network (slice_index_or pairs k d) y named)) (matched p z f)
      ∙ swap (z.variable == y.variable) (z.variable == x) (speaks_of condition z.variable)
      ∙ ap (λ (b : Bool). (z.variable == x) || b) (sym (speaks_more condition y z.variable))
    where
      swap : (a b c : Bool) → (a || (b || c)) ≡ (b || (c || a))
      swap a b c = or_comm a (b || c) ∙ or_assoc b c a

  -- a pair whose variable stands already is repeated first, unless the target's was
  repeated_now : (pairs : List PairText) (k : ℕ) (d : PairText) (y : Pair) (condition : List Pair) (t : List ℕ) (x : ℕ) → k < length pairs
      → pair_named network (slice_index_or pairs k d) ≡ Some y → AreMatched pairs k condition t x → speaks_of condition y.variable ≡ true
      → FirstAt pairs k condition None t x → FirstAt pairs (suc k) condition (Some (slice_index_or pairs k d).variable) t x
  unfolding AreMatched FirstAt
  repeated_now pairs k d y condition t x h named matched spoken first =
      first ∙ ap (λ (o : Option (List ℕ)). cond (speaks_of condition x) (Some t) o)
      (repeat_here (onto (t ∷ []) (take k pairs)) pairs k d h
      ∙ ap (λ (b : Bool). cond b (Some (slice_index_or pairs k d).variable) (first_repeat ((slice_index_or pairs k d).variable ∷ onto (t ∷ []) (take k pairs)) (names_in (drop (suc k) pairs)))) stands)
    where
      always : (a b : Bool) → b ≡ true → (a || b) ≡ true
      always true b h = refl
      always false b h = h

      stands : list_any (same_text (slice_index_or pairs k d).variable) (onto (t ∷ []) (take k pairs)) ≡ true
      stands = matched (slice_index_or pairs k d) y named ∙ always (y.variable == x) (speaks_of condition y.variable) spoken

  -- a pair whose variable does not stand yet is put at the end
  put_now : (pairs : List PairText) (k : ℕ) (d : PairText) (y : Pair) (condition : List Pair) (t : List ℕ) (x : ℕ) → k < length pairs
      → IsNumberOf network t x → pair_named network (slice_index_or pairs k d) ≡ Some y → AreMatched pairs k condition t x → speaks_of condition y.variable ≡ false
      → FirstAt pairs k condition None t x → FirstAt pairs (suc k) (condition ++ y ∷ []) None t x
  unfolding AreMatched FirstAt
  put_now pairs k d y condition t x h target named matched unspoken first =
      first ∙ ap (λ (o : Option (List ℕ)). cond (speaks_of condition x) (Some t) o)
      (repeat_here (onto (t ∷ []) (take k pairs)) pairs k d h
      ∙ ap (λ (b : Bool). cond b (Some (slice_index_or pairs k d).variable) (first_repeat ((slice_index_or pairs k d).variable ∷ onto (t ∷ []) (take k pairs)) (names_in (drop (suc k) pairs)))) stands)
      ∙ at (speaks_of condition x) (y.variable == x) _ refl
      ∙ ap₂ (λ (b : Bool) (names : List (List ℕ)). cond b (Some t) (first_repeat names (names_in (drop (suc k) pairs)))) (sym (speaks_more condition y x))
      (sym (onto_more (t ∷ []) pairs k d h))
    where
      or_false : (a b : Bool) → b ≡ false → (a || b) ≡ a
      or_false true b h = refl
      or_false false b h = h

      stands : list_any (same_text (slice_index_or pairs k d).variable) (onto (t ∷ []) (take k pairs)) ≡ (y.variable == x)
      stands = matched (slice_index_or pairs k d) y named ∙ or_false (y.variable == x) (speaks_of condition y.variable) unspoken

      turned : (b : Bool) → (y.variable == x) ≡ b → (x == y.variable) ≡ b
      turned true e = eq-eqb x y.variable (sym (eqb-true y.variable x e))
      turned false e = other (x == y.variable) refl
        where
          other : (c : Bool) → (x == y.variable) ≡ c → (x == y.variable) ≡ false
          other true i = absurd (let same = eq-eqb y.variable x (sym (eqb-true x y.variable i)) in cc)
          other false i = i

      same_name : (y.variable == x) ≡ true → (slice_index_or pairs k d).variable ≡ t
      same_name e = equal_of_same_text (slice_index_or pairs k d).variable t (names_agree (slice_index_or pairs k d).variable t y.variable x (variable_known network (slice_index_or pairs k d) y named) target ∙ e)

      at : (a b : Bool) (later : Option (List ℕ)) → (y.variable == x) ≡ b
          → cond a (Some t) (cond b (Some (slice_index_or pairs k d).variable) later) ≡ cond (a || (x == y.variable)) (Some t) later
      at true b later e = refl
      at false true later e = rw (turned true e) (ap (λ (name : List ℕ). Some name) (same_name e))
      at false false later e = rw (turned false e) refl

  repeated_stays : (pairs : List PairText) (k : ℕ) (condition : List Pair) (name : List ℕ) (t : List ℕ) (x : ℕ)
      → FirstAt pairs k condition (Some name) t x → FirstAt pairs (suc k) condition (Some name) t x
  unfolding FirstAt
  repeated_stays pairs k condition name t x h = h

  -- what is gathered once the next pair was taken
  pub gathered_next : (pairs : List PairText) (k : ℕ) (d : PairText) (y : Pair) (condition new_condition : List Pair) (repeated new_repeated : Option (List ℕ)) → k < length pairs
      → pair_named network (slice_index_or pairs k d) ≡ Some y
      → new_repeated ≡ or_else repeated (fault_if (speaks_of condition y.variable) (slice_index_or pairs k d).variable)
      → new_condition ≡ cond (is_none new_repeated) (condition ++ y ∷ []) condition
      → IsGatheredTo pairs k condition repeated → IsGatheredTo pairs (suc k) new_condition new_repeated
  gathered_next pairs k d y condition new_condition (Some name) new_repeated h named e f g = rw (e, f ∙ ap (λ (o : Option (List ℕ)). cond (is_none o) (condition ++ y ∷ []) condition) e) (record {
    few = omega (arith, g.few);
    unknown = unknown_next pairs k d y h named ∙ g.unknown;
    whole = tt;
    matched = λ t x i. tt;
    first = λ t x i. repeated_stays pairs k condition name t x (g.first t x i);
  })
  gathered_next pairs k d y condition new_condition None new_repeated h named e f g = at (speaks_of condition y.variable) refl
    where
      at : (b : Bool) → speaks_of condition y.variable ≡ b → IsGatheredTo pairs (suc k) new_condition new_repeated
      at true spoken =
          let now : new_repeated ≡ Some (slice_index_or pairs k d).variable = e ∙ ap (λ (b : Bool). fault_if b (slice_index_or pairs k d).variable) spoken in
          let same : new_condition ≡ condition = f ∙ ap (λ (o : Option (List ℕ)). cond (is_none o) (condition ++ y ∷ []) condition) now in
          rw (now, same) (record {
            few = omega (arith, g.few);
            unknown = unknown_next pairs k d y h named ∙ g.unknown;
            whole = tt;
            matched = λ t x i. tt;
            first = λ t x i. repeated_now pairs k d y condition t x h named (g.matched t x i) spoken (g.first t x i);
          })
      at false unspoken =
          let now : new_repeated ≡ None = e ∙ ap (λ (b : Bool). fault_if b (slice_index_or pairs k d).variable) unspoken in
          let put : new_condition ≡ condition ++ y ∷ [] = f ∙ ap (λ (o : Option (List ℕ)). cond (is_none o) (condition ++ y ∷ []) condition) now in
          rw (now, put) (record {
            few = longer condition g.few;
            unknown = unknown_next pairs k d y h named ∙ g.unknown;
            whole = whole_next pairs k d y condition h named g.whole;
            matched = λ t x i. matched_next pairs k d y condition t x h named (g.matched t x i);
            first = λ t x i. put_now pairs k d y condition t x h i named (g.matched t x i) unspoken (g.first t x i);
          })
        where
          longer : (ps : List Pair) {n : ℕ} → length ps ≤ n → length (ps ++ y ∷ []) ≤ suc n
          longer ps h = omega (arith, length-append ps (y ∷ []), h)

  pub gathered_after : (pairs : List PairText) (k : ℕ) (words : PairText) (y : Pair) (condition new_condition : List Pair) (repeated new_repeated : Option (List ℕ)) → k < length pairs
      → words ≡ slice_index_or pairs k words → pair_named network words ≡ Some y
      → new_repeated ≡ or_else repeated (fault_if (speaks_of condition y.variable) words.variable)
      → new_condition ≡ cond (is_none new_repeated) (condition ++ y ∷ []) condition
      → IsGatheredTo pairs k condition repeated → IsGatheredTo pairs (k + 1) new_condition new_repeated
  gathered_after pairs k words y condition new_condition repeated new_repeated h at named e f g =
      let next : suc k ≡ k + 1 = omega arith in
      subst (λ (n : ℕ). IsGatheredTo pairs n new_condition new_repeated) next
      (gathered_next pairs k words y condition new_condition repeated new_repeated h (ap (pair_named network) (sym at) ∙ named)
      (e ∙ ap (λ (p : PairText). or_else repeated (fault_if (speaks_of condition y.variable) p.variable)) at) f g)

  pub gathered_all : (pairs : List PairText) (k : ℕ) (condition : List Pair) (repeated : Option (List ℕ)) → k ≡ length pairs → length pairs ≤ max_condition
      → IsGatheredTo pairs k condition repeated → IsGathered network pairs condition repeated
  unfolding FirstAt
  gathered_all pairs k condition repeated e short g = record {
    few = omega (arith, g.few);
    whole = ended repeated (ap (λ (ps : List PairText). known_pairs network ps) (ap (λ (n : ℕ). take n pairs) e ∙ take_all pairs)) g.whole;
    first = λ t x v i. g.first t x (v, i) ∙ ap (λ (o : Option (List ℕ)). cond (speaks_of condition x) (Some t) o) (last t repeated);
  }
    where
      ended : {before after : List Pair} (o : Option (List ℕ)) → before ≡ after → IfNone o (condition ≡ before) → IfNone o (condition ≡ after)
      ended None i j = j ∙ i
      ended (Some name) i j = tt

      take_all : (ps : List PairText) → take (length ps) ps ≡ ps
      take_all [] = refl
      take_all (p ∷ ps) = ap (λ (rest : List PairText). p ∷ rest) (take_all ps)

      drop_all : (ps : List PairText) → drop (length ps) ps ≡ []
      drop_all [] = refl
      drop_all (p ∷ ps) = drop_all ps

      last : (t : List ℕ) (o : Option (List ℕ)) → or_else o (first_repeat (onto (t ∷ []) (take k pairs)) (names_in (drop k pairs))) ≡ o
      last t None = ap (λ (ps : List PairText). first_repeat (onto (t ∷ []) (take k pairs)) (names_in ps)) (ap (λ (n : ℕ). drop n pairs) e ∙ drop_all pairs)
      last t (Some name) = refl

-- a pair that is known is one of the network
pub pair_of_network : (network : List Variable) (words : PairText) (o : Option Pair) → o ≡ pair_named network words → IfSome o (λ pair. IsPairOf network pair)
pair_of_network network words None e = tt
pair_of_network network words (Some pair) e = record { variable = pair_variable_in_range network words pair e; value = pair_value_in_range network words pair e }

pub all_known : (network : List Variable) (q : QuestionText) (target : Pair) (ps : List PairText) → pair_named network q.target ≡ Some target → ps ≡ q.condition.items
    → None ≡ unknown network ps → unknown network (pairs_of q) ≡ None
all_known network q target ps named same known =
    ap (λ (o : Option Pair). option_map Unknown (cond (is_none o) (Some q.target) (find (λ p. is_none (pair_named network p)) q.condition.items))) named
    ∙ ap (unknown network) (sym same) ∙ sym known

-- what a question is refused for, once its target and its condition are known
pub refused_for : (network : List Variable) (q : QuestionText) (target : Pair) (ps : List PairText) (condition : List Pair) (repeated : Option (List ℕ)) → pair_named network q.target ≡ Some target
    → ps ≡ q.condition.items → None ≡ unknown network ps → IsGathered network ps condition repeated
    → or_else (unknown network (pairs_of q)) (twice (names_in (pairs_of q))) ≡ option_map Twice (cond (speaks_of condition target.variable) (Some q.target.variable) repeated)
refused_for network q target ps condition repeated named same known g =
    ap (λ (o : Option Refusal). or_else o (twice (names_in (pairs_of q)))) (all_known network q target ps named same known)
    ∙ ap (λ (rest : List PairText). option_map Twice (first_repeat (q.target.variable ∷ []) (names_in rest))) (sym same)
    ∙ ap (option_map Twice) (g.first q.target.variable target.variable (variable_known network q.target target named).0 (variable_known network q.target target named).1)

pub question_is : (network : List Variable) (q : QuestionText) (target : Pair) (ps : List PairText) (asked : Asked) (condition : List Pair) (repeated : Option (List ℕ)) → pair_named network q.target ≡ Some target
    → ps ≡ q.condition.items → IsGathered network ps condition repeated → repeated ≡ None → asked ≡ record { target = target; condition = condition } → question_named network q ≡ Some asked
question_is network q target ps asked condition repeated named same g none is =
    rw is (ap (option_map (λ t. record { target = t; condition = known_pairs network q.condition.items })) named
    ∙ ap (λ (pairs : List Pair). Some (record { target = target; condition = pairs })) (ap (known_pairs network) (sym same) ∙ sym (subst (λ (o : Option (List ℕ)). IfNone o (condition ≡ known_pairs network ps)) none g.whole)))
