-- What a number cut to 64 bits is among the representable numbers.
use Rattle.std.proofs.Common.{◌≡◌, ℕ, suc, ◌+◌, ◌*◌, ◌^◌, ◌<◌, ◌≤◌, refl, sym, ap, ◌∙◌, arith, le_refl}
use Rattle.mk_scaled.specs.Form.{IsForm}
use Rattle.mk_scaled.specs.Rounding.{IsRepresentable, IsGreatestBelow, IsLeastAbove}
use Rattle.mk_scaled.specs.inner.UniqueForm.{two_pow-suc}
use Rattle.mk_scaled.specs.Rules.{fits_below, fits_above}

pub form_represents : (m e : ℕ) → IsForm m e → IsRepresentable (m * 2 ^ e)
form_represents m e f = record { mantissa = m; exponent = e; positive = f.positive; below = f.below; written = refl }

pub floor_is : (m e x : ℕ) → IsForm m e → m * 2 ^ e ≤ x → x < (m + 1) * 2 ^ e → IsGreatestBelow (m * 2 ^ e) x
floor_is m e x f l u = record {
  representable = form_represents m e f;
  below = l;
  greatest = λ k r h. rw r.written (fits_below r.mantissa r.exponent m e x r.below f.full u (rw (sym r.written) h));
}

-- Where something is left, the next mantissa is the least above; `form` is how that is written.
pub ceil_is : (m e n d x : ℕ) → IsForm m e → IsForm n d → n * 2 ^ d ≡ (m + 1) * 2 ^ e → m * 2 ^ e < x → x ≤ (m + 1) * 2 ^ e → IsLeastAbove (n * 2 ^ d) x
ceil_is m e n d x f g s l u = record {
  representable = form_represents n d g;
  above = rw s u;
  least = λ k r h. rw (s, r.written) (fits_above r.mantissa r.exponent m e x r.below f.full l (rw (sym r.written) h));
}

pub exact_is_greatest : (m e : ℕ) → IsForm m e → IsGreatestBelow (m * 2 ^ e) (m * 2 ^ e)
exact_is_greatest m e f = record { representable = form_represents m e f; below = le_refl _; greatest = λ k r h. h }

pub exact_is_least : (m e : ℕ) → IsForm m e → IsLeastAbove (m * 2 ^ e) (m * 2 ^ e)
exact_is_least m e f = record { representable = form_represents m e f; above = le_refl _; least = λ k r h. h }

-- the mantissa that would be 2 ^ 64 is 2 ^ 63 with the next exponent
pub carried : (m e : ℕ) → m + 1 ≡ 2 ^ 64 → 2 ^ 63 * 2 ^ (e + 1) ≡ (m + 1) * 2 ^ e
carried m e h =
    let s : 2 ^ (e + 1) ≡ 2 * 2 ^ e = let i : e + 1 ≡ suc e = omega arith in ap (λ k. 2 ^ k) i ∙ two_pow-suc e in
    rw (h, s) (omega arith)
