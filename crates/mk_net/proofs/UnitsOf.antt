-- The units of a question's ratio.
use Rattle.std.proofs.Common.{◌≡◌, ℕ, ◌+◌, ◌<◌, Bool, true, false, cond, [], ◌∷◌, ◌++◌, All, length, if◌then◌else◌, ◌==◌, arith, sym, subst}
use Rattle.std.proofs.lemmas.List.FromFn.{map-range_with_len_more, get_or-map-range_with_len, length-map-range_with_len}
use Rattle.mk_net.specs.Asked.{IsUnits, factors_of}

-- one value more, one number of units more
pub factors_more : (target values hit miss : ℕ) → factors_of target (values + 1) hit miss ≡ factors_of target values hit miss ++ (if values == target then hit else miss) ∷ []
factors_more target values hit miss = map-range_with_len_more (λ value. if value == target then hit else miss) 0 values values (omega arith)

-- there is one for each value
pub factors_length : (target values hit miss : ℕ) → length (factors_of target values hit miss) ≡ values
factors_length target values hit miss = length-map-range_with_len (λ value. if value == target then hit else miss) 0 values

one_of : (b : Bool) (hit miss : ℕ) → IsUnits hit → IsUnits miss → IsUnits (cond b hit miss)
one_of true hit miss h m = h
one_of false hit miss h m = m

-- each is a number of units
pub factors_are_units : (target values hit miss : ℕ) → IsUnits hit → IsUnits miss → All IsUnits (factors_of target values hit miss)
factors_are_units target values hit miss h m k d q =
    subst IsUnits (sym (get_or-map-range_with_len (λ value. if value == target then hit else miss) 0 values k k d (subst (λ (n : ℕ). k < n) (factors_length target values hit miss) q) (omega arith)))
    (one_of (k == target) hit miss h m)
