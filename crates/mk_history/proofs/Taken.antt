-- The front of a list with one element more.
use Rattle.std.specs.Prelude.{◌≡◌, ℕ, suc, ◌+◌, ◌<◌, List, [], ◌∷◌, ◌++◌, length, take, get_or}
use Rattle.std.proofs.Common.{◌∙◌, sym, ap, arith}
use Rattle.std.proofs.Math.Seq.{take-suc}

pub take_next : {X : Type 0} (xs : List X) (k : ℕ) (x : X) → k < length xs → x ≡ get_or xs k x → take (k + 1) xs ≡ take k xs ++ x ∷ []
take_next xs k x below is =
    let next : k + 1 ≡ suc k = omega arith in
    ap (λ n. take n xs) next ∙ (take-suc xs k x below ∙ ap (λ y. take k xs ++ y ∷ []) (sym is))
