-- What a nested sum reads: nothing that is summed, and nothing that its function does not read.
use Rattle.std.proofs.Common.{◌≡◌, ℕ, ◌≤◌, Bool, true, false, cond, not, ◌&&◌, ◌||◌, ◌⊎◌, inl, inr, List, [], ◌∷◌, refl, ap, ◌∙◌, eq-eqb, ne_eqb}
use Rattle.std.proofs.Math.Path.{fun_ext}
use Rattle.std.proofs.lemmas.Bool.{cases_eq, both_ways}
use Rattle.mk_sums.specs.Sums.{upd, plus_below, over, Within, listed}
use Rattle.mk_sums.specs.Trees.{times_of, held, behind, IsTree, right_message}
use Rattle.mk_sums.proofs.Sets.{times_within}
use Rattle.mk_sums.proofs.Sides.{holder}

pub over_reads : (plus : ℕ → ℕ → ℕ) (size : ℕ → ℕ) (set reads : ℕ → Bool) (xs : List ℕ) (f : (ℕ → ℕ) → ℕ) → Within reads f → (a b : ℕ → ℕ)
    → ((x : ℕ) → reads x ≡ true → (set x && listed xs x) ≡ false → a x ≡ b x) → over plus size set xs f a ≡ over plus size set xs f b
over_reads plus size set reads [] f h a b e = h a b (λ x p. e x p (none (set x)))
  where
    none : (c : Bool) → (c && false) ≡ false
    none true = refl
    none false = refl
over_reads plus size set reads (y ∷ ys) f h a b e = at (set y) refl (λ c d. over_reads plus size set reads ys f h c d)
  where
    rest : (x : ℕ) → (x ≡ y → ⊥) → (set x && listed ys x) ≡ false → (set x && listed (y ∷ ys) x) ≡ false
    rest x d q = ap (λ c. set x && (c || listed ys x)) (ne_eqb x y d) ∙ q

    unset : (x : ℕ) → x ≡ y → set y ≡ false → (set x && listed (y ∷ ys) x) ≡ false
    unset x g q = ap (λ c. c && listed (y ∷ ys) x) (ap set g ∙ q)

    at : (c : Bool) → set y ≡ c
        → ((c d : ℕ → ℕ) → ((x : ℕ) → reads x ≡ true → (set x && listed ys x) ≡ false → c x ≡ d x) → over plus size set ys f c ≡ over plus size set ys f d)
        → cond c (plus_below plus (size y) (λ v. over plus size set ys f (upd a y v))) (over plus size set ys f a)
        ≡ cond c (plus_below plus (size y) (λ v. over plus size set ys f (upd b y v))) (over plus size set ys f b)
    at true p ih = ap (plus_below plus (size y)) (fun_ext (λ v. ih (upd a y v) (upd b y v) (λ x q r. one x v q r (cases_eq x y))))
      where
        one : (x v : ℕ) → reads x ≡ true → (set x && listed ys x) ≡ false → ((x ≡ y) ⊎ (x ≡ y → ⊥)) → upd a y v x ≡ upd b y v x
        one x v q r (inl g) = rw (eq-eqb x y g)
        one x v q r (inr d) = rw (ne_eqb x y d) (e x q (rest x d r))
    at false p ih = ih a b (λ x q r. one x q r (cases_eq x y))
      where
        one : (x : ℕ) → reads x ≡ true → (set x && listed ys x) ≡ false → ((x ≡ y) ⊎ (x ≡ y → ⊥)) → a x ≡ b x
        one x q r (inl g) = e x q (unset x g p)
        one x q r (inr d) = e x q (rest x d r)

pub message_reads : (plus : ℕ → ℕ → ℕ) (size : ℕ → ℕ) (vars : List ℕ) (clique : ℕ → ℕ → Bool) (placed : ℕ → (ℕ → ℕ) → ℕ) (link : ℕ → ℕ) (m : ℕ)
    → IsTree link m clique placed → ((k x : ℕ) → 1 ≤ k → k ≤ m → clique k x ≡ true → listed vars x ≡ true)
    → (a b : ℕ) → Within (λ x. clique a x && clique b x) (right_message plus size vars clique placed link m a b)
message_reads plus size vars clique placed link m tree lists a b s t e =
    over_reads plus size (λ x. held (behind link m a b) m clique x && not (clique a x && clique b x)) (held (behind link m a b) m clique) vars (times_of (behind link m a b) m placed)
    (times_within placed clique (behind link m a b) m tree.fits) s t
    (λ x p q. let o = holder (behind link m a b) m clique x p in e x (shared (held (behind link m a b) m clique x) (clique a x && clique b x) (listed vars x) p (lists o.at x o.first o.last o.holds) q))
  where
    shared : (h b l : Bool) → h ≡ true → l ≡ true → ((h && not b) && l) ≡ false → b ≡ true
    shared h true l p q r = refl
    shared h false l p q r = absurd (both_ways ((h && true) && l) r (rw (p, q)))
