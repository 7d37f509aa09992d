-- Where searches of the cliques begin.
use Rattle.std.proofs.Common.{◌≡◌, ℕ, suc, ◌+◌, ◌<◌, Bool, true, false, cond, not, ◌&&◌}
use Rattle.std.proofs.Common.{◌==◌, ◌⊎◌, inl, inr, List, [], ◌++◌, length, get_or, set, take, drop}
use Rattle.std.proofs.Common.{refl, sym, ap, ◌∙◌, arith}
use Rattle.std.proofs.Common.{get_or-set_other, get_or-set_same, if◌then◌else◌, replicate}
use Rattle.std.proofs.Math.Seq.{drop-cons, drop-length}
use Rattle.std.proofs.lemmas.List.{get_or-replicate, drop_all, take_at, length-replicate}
use Rattle.std.proofs.lemmas.Bool.{cases_eq, eq-eqb, ne_eqb}
use Rattle.mk_sets.specs.Sets.{VarSet, is_member}
use Rattle.mk_net.specs.Bounds.{max_variables}
use Rattle.mk_tree.specs.inner.Starts.{AreStarts, first_holding}
use Rattle.mk_tree.proofs.Cells.{IsFirstOf}

-- once the variables that are left begin at the place, all of the clique's do
abbrev pub AreBegun : VarSet → VarSet → ℕ → List ℕ → List ℕ → Type 0
AreBegun clique left place before starts = (x : ℕ) → x < max_variables
    → (if is_member left x then place else get_or starts x 0)
    ≡ (if is_member clique x then place else get_or before x 0)

pub begun_more : (clique left rest : VarSet) (place v : ℕ) (before starts : List ℕ)
    → v < length starts → IsFirstOf left v rest → AreBegun clique left place before starts
    → AreBegun clique rest place before (set starts v place)
begun_more clique left rest place v before starts within first begun x small =
    at (cases_eq x v) ∙ begun x small
  where
    at : ((x ≡ v) ⊎ (x ≡ v → ⊥))
        → (if is_member rest x then place else get_or (set starts v place) x 0)
        ≡ (if is_member left x then place else get_or starts x 0)
    at (inl here) =
        let gone : is_member rest x ≡ false =
        first.others x ∙ last (is_member left x) (eq-eqb x v here) in
        let was : is_member left x ≡ true = ap (is_member left) here ∙ first.member in
        rw (gone, was, here) (get_or-set_same starts v place 0 within)
      where
        last : (b : Bool) → (x == v) ≡ true → (b && not (x == v)) ≡ false
        last true e = rw e refl
        last false e = refl
    at (inr other) =
        let same : is_member rest x ≡ is_member left x =
        first.others x ∙ kept (is_member left x) (ne_eqb x v other) in
        rw (same, get_or-set_other starts v x place 0 other) refl
      where
        kept : (b : Bool) → (x == v) ≡ false → (b && not (x == v)) ≡ b
        kept true e = rw e refl
        kept false e = refl

-- each start is that of the cliques from the place on
pub record StartFrom (cliques : List VarSet) (place : ℕ) (starts : List ℕ) : Type 0 where
  pub one_each : length starts ≡ max_variables
  pub first : (x : ℕ) → x < max_variables
      → get_or starts x 0 ≡ place + first_holding (drop place cliques) x

pub none_started : (cliques : List VarSet) (starts : List ℕ)
    → starts ≡ replicate max_variables (length cliques)
    → StartFrom cliques (length cliques) starts
none_started cliques starts e = record {
  one_each = ap length e ∙ length-replicate max_variables (length cliques);
  first = λ x small.
      let start = ap (λ (ns : List ℕ). get_or ns x 0) e
      ∙ get_or-replicate max_variables x (length cliques) 0 small in
      let none : first_holding (drop (length cliques) cliques) x ≡ 0 =
      ap (λ (sets : List VarSet). first_holding sets x) (drop-length cliques) in
      omega (arith, start, none);
}

pub more_started : (cliques : List VarSet) (place : ℕ) (d : VarSet) (before starts : List ℕ)
    → place < length cliques → StartFrom cliques (suc place) before
    → length starts ≡ max_variables
    → ((x : ℕ) → x < max_variables → get_or starts x 0
    ≡ (if is_member (get_or cliques place d) x then place else get_or before x 0))
    → StartFrom cliques place starts
more_started cliques place d before starts within later count begun = record {
  one_each = count;
  first = λ x small. begun x small
      ∙ at x (is_member (get_or cliques place d) x) (later.first x small)
      ∙ ap (λ (sets : List VarSet). place + first_holding sets x)
      (sym (drop-cons cliques place d within));
}
  where
    at : (x : ℕ) (b : Bool)
        → get_or before x 0 ≡ suc place + first_holding (drop (suc place) cliques) x
        → (if b then place else get_or before x 0)
        ≡ place + cond (not b) (1 + first_holding (drop (suc place) cliques) x) 0
    at x true e = omega arith
    at x false e = e ∙ grind arith

pub all_started : (cliques : List VarSet) (starts : List ℕ) → StartFrom cliques 0 starts
    → AreStarts cliques starts
all_started cliques starts from = record {
  one_each = from.one_each;
  first = λ x small. let e = from.first x small in omega (arith, e);
}

-- a list that is written over one as long
pub written_over : (n : ℕ) (new old : List ℕ) → length new ≡ n → length old ≡ n
    → take n (new ++ drop (length new) old) ≡ new
written_over n new old e f =
    ap (λ (rest : List ℕ). take n (new ++ rest)) (drop_all (length new) old (omega (arith, e, f)))
    ∙ take_at new [] n e
