-- A kept name gives its fields back.
use Rattle.std.specs.Prelude.{◌≡◌, ℕ, List, length, take}
use Rattle.std.proofs.Common.{ap, ◌∙◌, arith, length-take}
use Rattle.mk_names.specs.inner.Padded.{IsPadded, padded}
use Rattle.mk_names.specs.declared.name.Name.TheInside.{Inside}

pub kept_length : (bytes : List ℕ) (n : ℕ) → IsPadded bytes n → length (take n bytes) ≡ n
kept_length bytes n h = grind (arith, length-take {A = ℕ}, h.whole, h.fits)

abbrev made : List ℕ → ℕ → Inside
made bytes size = record { bytes = bytes; size = size }

same_fields : (a b : Inside) → a.bytes ≡ b.bytes → a.size ≡ b.size → a ≡ b
same_fields a b e f = ap (λ (bytes : List ℕ). made bytes a.size) e ∙ ap (λ (size : ℕ). made b.bytes size) f

pub padded_inverse : (a b : Inside) → b.bytes ≡ padded (take a.size a.bytes) → b.size ≡ length (take a.size a.bytes) →
    IsPadded a.bytes a.size → b ≡ a
padded_inverse a b e f h = let g : length (take a.size a.bytes) ≡ a.size = kept_length a.bytes a.size h in
    same_fields b a (cc (h.zeros)) (cc)
