-- The commands of a sample, beside what a stream may hold.
use Rattle.std.proofs.Common.{ℕ, suc, ◌≤◌, ◌==◌, List, [], ◌∷◌, length, Bool, true, false}
use Rattle.std.proofs.Common.{if◌then◌else◌, Result, Ok, Err, arith}
use Rattle.std.proofs.lemmas.List.{length-map}
use Rattle.mk_io.specs.Stream.{parts, onto_first, line_of, max_stream_lines}
use Rattle.mk_file.specs.declared.fault.FileFault.{FileFault}
use Rattle.mk_file.specs.File.{file_of}
use Rattle.mk_make.specs.Sample.{sample_file, sample_commands}
use Rattle.mk_make.proofs.LengthLemmas.{commands_length}
use Rattle.mk_session.specs.Complete.{AreWithin}
use Rattle.mk_tally.specs.declared.counts.TallyFault.TheVariants.{TooMany}
use Rattle.mk_tally.specs.Tally.{TallyEnds}
use Rattle.daggre.specs.Words.{max_sample}

one_part : (ends : Bool) (b : ℕ) (rest : List (List ℕ))
    → length (if ends then [] ∷ rest else onto_first b rest) ≤ suc (length rest)
one_part true b rest = omega arith
one_part false b [] = omega arith
one_part false b (part ∷ rest) = omega arith

-- no more lines than bytes
parts_length : (bytes : List ℕ) → length (parts bytes) ≤ length bytes
parts_length [] = omega arith
parts_length (b ∷ bytes) = omega (arith, one_part (b == 10) b (parts bytes), parts_length bytes)

few_bytes : (all : List ℕ) → length all ≤ max_stream_lines → AreWithin all
few_bytes all most =
    record {
      lines = omega (arith, length-map (parts all) line_of, parts_length all, most);
      bytes =
          omega (arith, most);
    }

pub sample_within : (n : ℕ) → 2 ≤ n → n ≤ max_sample → AreWithin (sample_commands n)
sample_within n least most = few_bytes (sample_commands n)
    (omega (arith, commands_length n least most))

many_by : (n : ℕ) (given : Result _ FileFault) → AreWithin (sample_commands n)
    → TallyEnds (Err TooMany) given (sample_commands n) → ⊥
many_by n (Ok market) within ends = ends within
many_by n (Err fault) within ends = ends

-- so a count of a sample never finds too many
pub never_too_many : (n : ℕ) → 2 ≤ n → n ≤ max_sample → TallyEnds (Err TooMany)
    (file_of (sample_file n)) (sample_commands n) → ⊥
never_too_many n least most = many_by n (file_of (sample_file n)) (sample_within n least most)
