-- Bytes of a name, followed by zeros, are a kept name.
use Rattle.std.specs.Prelude.{◌≡◌, ℕ, ◌-◌, List, ◌++◌, length, take, drop, replicate}
use Rattle.std.proofs.Common.{ap, arith, length-append}
use Rattle.std.proofs.Math.Seq.{take-append_seam}
use Rattle.std.proofs.lemmas.List.{length-replicate, drop-replicate}
use Rattle.mk_names.specs.Name.{IsName, max_name_bytes}
use Rattle.mk_names.specs.inner.Padded.{IsPadded, padded}

pub padded_kept : (name : List ℕ) → IsName name → IsPadded (padded name) (length name)
padded_kept name h = let seam : take (length name) (padded name) ≡ name = take-append_seam name (replicate (max_name_bytes - length name) 0) in
    record {
      whole = simp (length-append, length-replicate) (omega (arith, h.short));
      fits = h.short;
      name = rw seam h;
      zeros = ap padded seam;
    }

pub copied_is_padded : (name copy zeros : List ℕ) → copy ≡ name → zeros ≡ replicate max_name_bytes 0 → IsName name →
    IsPadded (copy ++ drop (length name) zeros) (length name)
copied_is_padded name copy zeros same all_zeros h =
    rw (same, all_zeros, drop-replicate {X = ℕ} (length name) max_name_bytes 0) (padded_kept name h)
