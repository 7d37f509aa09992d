-- What the reads of inputs in memory give, and which file a name finds.
use Rattle.std.proofs.Common.{◌≡◌, ℕ, ◌+◌, ◌-◌, ◌<◌, ◌≤◌, List, [], ◌∷◌, ◌++◌, length, get_or, take, drop, map, Option, Some, None, Ok, Bool, true, false, cond, sym, ap, ◌∙◌, take-append-drop, length-drop, arith}
use Rattle.std.specs.Prelude.{bytes_eq, string_bytes}
use Rattle.std.proofs.lemmas.List.{drop-drop, drop_all, drop_more, take_rest, take_at, length-take-le, get_or-map}
use Rattle.mk_io.specs.declared.memory.NamedFile.{NamedFile}
use Rattle.mk_io.specs.Outside.{Reads}
use Rattle.mk_io.specs.Memory.{Called, MemoryOut, named, file_bytes, bytes_at, piece_of}

pub reads_piece : {E : Type 0} (bytes items old new : List ℕ) (at n piece : ℕ) → items ≡ bytes → 1 ≤ piece → 0 < length old → length new ≡ length old → n ≡ piece_of piece (length (take (length items - at) (drop at items))) (length old) → take n new ≡ take n (take (length items - at) (drop at items)) → Reads {E = E} (Some (drop at bytes)) (Some (drop (at + n) bytes)) (Ok n) new
reads_piece bytes items old new at n piece is some room same amount copied =
    let left : length (take (length items - at) (drop at items)) ≡ length bytes - at = ap length (take_rest items at) ∙ length-drop at items ∙ ap (λ xs. length xs - at) is in
    let front : take n new ≡ take n (drop at bytes) = copied ∙ ap (take n) (take_rest items at) ∙ ap (λ xs. take n (drop at xs)) is in
    record {
      bound = omega arith;
      taken = ap Some (sym (take-append-drop n (drop at bytes)) ∙ ap (λ xs. xs ++ drop n (drop at bytes)) (sym front) ∙ ap (λ rest. take n new ++ rest) (drop-drop n at bytes));
      at_end = λ none. drop_all (at + n) bytes (omega arith);
      failed = tt;
    }

-- the bytes of the opened file, as they are read
pub bytes_at_read : (files : List NamedFile) (opened : Option ℕ) (index : ℕ) (file : NamedFile) → opened ≡ Some index → index < length files → file ≡ get_or files index file → file.bytes.items ≡ bytes_at (map named files) opened
bytes_at_read files opened index file is within read =
    ap (λ (x : List ℕ × List ℕ). x.1) (ap named read ∙ sym (get_or-map named files index file ([], []) within)) ∙ ap (bytes_at (map named files)) (sym is)

file_bytes_first : (file : NamedFile) (files : List NamedFile) (name : List ℕ) (test : Bool) → bytes_eq (string_bytes file.name) name ≡ test → file_bytes (map named (file ∷ files)) name ≡ cond test (Some file.bytes.items) (file_bytes (map named files) name)
file_bytes_first file files name test is =
    ap (λ b. cond b (Some file.bytes.items) (file_bytes (map named files) name)) is

file_bytes_at : (files : List NamedFile) (i : ℕ) (file : NamedFile) (name : List ℕ) (test : Bool) → i < length files → file ≡ get_or files i file → bytes_eq (string_bytes file.name) name ≡ test → file_bytes (map named (drop i files)) name ≡ cond test (Some file.bytes.items) (file_bytes (map named (drop (i + 1) files)) name)
file_bytes_at files i file name test within is same =
    ap (λ xs. file_bytes (map named xs) name) (drop_more files i file within ∙ ap (λ x. x ∷ drop (i + 1) files) (sym is)) ∙ file_bytes_first file (drop (i + 1) files) name test same

-- the file at an index is not the one, and those after it are left
pub file_passed : (files : List NamedFile) (i : ℕ) (file : NamedFile) (name : List ℕ) → file_bytes (map named (drop i files)) name ≡ file_bytes (map named files) name → i < length files → file ≡ get_or files i file → bytes_eq (string_bytes file.name) name ≡ false → file_bytes (map named (drop (i + 1) files)) name ≡ file_bytes (map named files) name
file_passed files i file name far within is other =
    sym (file_bytes_at files i file name false within is other) ∙ far

-- the file at an index is the one
pub file_found : (files : List NamedFile) (i : ℕ) (file : NamedFile) (name : List ℕ) → file_bytes (map named (drop i files)) name ≡ file_bytes (map named files) name → i < length files → file ≡ get_or files i file → bytes_eq (string_bytes file.name) name ≡ true → file_bytes (map named files) name ≡ Some (bytes_at (map named files) (Some i))
file_found files i file name far within is one =
    sym far ∙ file_bytes_at files i file name true within is one ∙ ap Some (sym (ap (λ x. x.1) (get_or-map named files i file ([], []) within ∙ ap named (sym is))))

pub no_file : (files : List NamedFile) (i : ℕ) (name : List ℕ) → file_bytes (map named (drop i files)) name ≡ file_bytes (map named files) name → length files ≤ i → file_bytes (map named files) name ≡ None
no_file files i name far past = sym far ∙ ap (λ xs. file_bytes (map named xs) name) (drop_all i files past)

-- what a sink holds after a piece was put behind its bytes
pub written_more : (capacity len n : ℕ) (items held new bytes : List ℕ) → held ≡ items → length items ≡ capacity → length new ≡ length held → n ≤ length bytes → take (len + length (take n bytes)) new ≡ take len held ++ take n bytes → take (len + n) (take capacity (new ++ drop (length new) items)) ≡ take len items ++ take n bytes
written_more capacity len n items held new bytes is size same within put =
    let whole : take capacity (new ++ drop (length new) items) ≡ new = take_at new (drop (length new) items) capacity (omega (arith, ap length is)) in
    ap (take (len + n)) whole ∙ ap (λ k. take (len + k) new) (sym (length-take-le n bytes within)) ∙ put ∙ ap (λ xs. take len xs ++ take n bytes) is

abbrev out_of : ℕ → ℕ → Called → List ℕ → MemoryOut
out_of capacity piece calls written =
    record { written = written; capacity = capacity; piece = piece; calls = calls }

pub same_out : (written written' : List ℕ) (capacity piece : ℕ) (calls calls' : Called) → written ≡ written' → calls ≡ calls' → ◌≡◌ {A = MemoryOut} (record { written = written; capacity = capacity; piece = piece; calls = calls }) (record { written = written'; capacity = capacity; piece = piece; calls = calls' })
same_out written written' capacity piece calls calls' same counts =
    ap (out_of capacity piece calls) same ∙ ap (λ c. out_of capacity piece c written') counts
