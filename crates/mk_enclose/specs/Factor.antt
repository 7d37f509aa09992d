-- What a factor stands for, and the whole bits that it leaves.
use Rattle.std.specs.Prelude.{◌≡◌, ℕ, suc, ℤ, pos, negsuc, ◌+◌, ◌*◌, ◌^◌, ◌≤◌}
use Rattle.mk_enclose.specs.declared.factor.Factor.{Factor}
use Rattle.mk_enclose.specs.Enclosure.{Encloses}

-- bits paid in and taken out on the whole: one of them is 0
abbrev pub paid_in : ℤ → ℕ
paid_in (pos n) = n
paid_in (negsuc n) = 0

abbrev pub taken_out : ℤ → ℕ
taken_out (pos n) = 0
taken_out (negsuc n) = suc n

-- num / den is the exact factor 2 ^ net * gain / (2 ^ 40) ^ trades of a gain that is enclosed
pub record StandsFor (factor : Factor) (num den : ℕ) : Type 0 where
  pub gain : ℕ
  pub encloses : Encloses factor.gain gain
  pub positive : 1 ≤ den
  pub same : num * (2 ^ taken_out factor.net * (2 ^ 40) ^ factor.trades) ≡ 2 ^ paid_in factor.net * gain * den

-- 2 ^ bits is at most 2 ^ net * gain / (2 ^ 40) ^ trades, at the gain's lower end
pub record BitsFit (f : Factor) (bits : ℕ) : Type 0 where
  pub fit : 2 ^ (bits + 40 * f.trades + taken_out f.net) ≤ f.gain.lo * 2 ^ paid_in f.net
