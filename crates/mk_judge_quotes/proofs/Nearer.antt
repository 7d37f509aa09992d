-- Numbers that are near by some steps are near by more.
use Rattle.std.proofs.Common.{ℕ, ◌≤◌, ◌⊎◌, inl, inr, List, arith}
use Rattle.mk_exact.specs.History.{Entry}
use Rattle.mk_exact.specs.Market.{Market}
use Rattle.mk_net.specs.Bounds.{max_values}
use Rattle.mk_scaled.specs.Near.{near_more}
use Rattle.mk_judge.specs.Compared.{AreNear}
use Rattle.mk_evidence.specs.Grades.{evidence_grade}

pub nearer : (a b i j : ℕ) → i ≤ j → AreNear a b i → AreNear a b j
nearer a b i j more near = record {
  upward = near_more a b i j more near.upward;
  downward = near_more b a i j more near.downward;
}

-- one of two, or of four
pub either_of : {A B C D : Type 0} → (A → C) → (B → D) → A ⊎ B → C ⊎ D
either_of first second (inl a) = inl (first a)
either_of first second (inr b) = inr (second b)

-- the grade of evidence has one step for each value that a variable may have
pub grade_room : (market : Market) (H : List Entry) → max_values ≤ evidence_grade market H
grade_room market H = omega arith
