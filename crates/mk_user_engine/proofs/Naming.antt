-- The number of values that a name has.
use Rattle.std.proofs.Common.{◌≡◌, ℕ, zero, suc, ◌<◌, ◌≤◌, List, ◌∷◌, [], length}
use Rattle.std.proofs.Common.{slice_index, ◌∙◌, arith}
use Rattle.mk_net.specs.Network.{Variable, IsNetwork, sizes}
use Rattle.mk_net.specs.Asked.{TradeRatio}
use Rattle.mk_net.proofs.Networks.{two_values}
use Rattle.mk_states.specs.OfNetwork.{IsRatioOf}
use Rattle.mk_states.proofs.Listed.{as_many}
use Rattle.mk_scope.specs.Scopes.{ScopeOf, HasSized, size_in}
use Rattle.mk_user_engine.specs.Names.{IsSize}

-- a number that is there
within_by : (ns : List ℕ) (x : ℕ) → 1 ≤ slice_index ns x → x < length ns
within_by [] x h = absurd (omega (arith, h))
within_by (n ∷ ns) zero h = omega arith
within_by (n ∷ ns) (suc x) h = let l = within_by ns x h in omega (arith, l)

pub is_size : (m : List Variable) (scope : ScopeOf) (x n : ℕ) → HasSized m scope x
    → n ≡ size_in scope x → 1 ≤ n → IsSize (sizes m) x n
is_size m scope x n h e p =
    let s = h.sized in
    record { within = within_by (sizes m) x (omega (arith, s, e, p)); size_is = e ∙ s; some = p }

pub ratio_size : (m : List Variable) → IsNetwork m → (ratio : TradeRatio) → IsRatioOf m ratio
    → IsSize (sizes m) ratio.variable (length ratio.factors)
ratio_size m legal ratio is =
    let two = two_values m ratio.variable legal is.variable in let e = is.one_each
    in let v = is.variable in
    record { within = omega (arith, v, as_many m); size_is = e; some = omega (arith, e, two) }
