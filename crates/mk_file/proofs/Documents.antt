-- The document of some bytes, once it is known whether they are text.
use Rattle.std.proofs.Common.{◌≡◌, ℕ, List, Bool, true, false, if◌then◌else◌, Option, Some, None, refl}
use Rattle.std.specs.Str.{IsUtf8, is_utf8}
use Rattle.std.proofs.lemmas.Str.{IsUtf8-from_is_utf8, is_utf8-from_IsUtf8}
use Rattle.toml.specs.Data.{Members}
use Rattle.toml.specs.Parse.{parse_document}
use Rattle.mk_file.specs.File.{document_of}

chosen : (test : Bool) (parsed read : Option Members) → test ≡ true → parsed ≡ read → (if test then parsed else None) ≡ read
chosen true parsed read h same = same
chosen false parsed read h same = cc

none_chosen : (test : Bool) (parsed : Option Members) → (test ≡ true → parsed ≡ None) → (if test then parsed else None) ≡ None
none_chosen true parsed none = none refl
none_chosen false parsed none = refl

pub document_read : (bytes : List ℕ) (document : Members) → IsUtf8 bytes → parse_document bytes ≡ Some document → document_of bytes ≡ Some document
document_read bytes document text parsed = chosen (is_utf8 bytes) (parse_document bytes) (Some document) (is_utf8-from_IsUtf8 bytes text) parsed

pub document_refused : (bytes : List ℕ) → (IsUtf8 bytes → parse_document bytes ≡ None) → document_of bytes ≡ None
document_refused bytes refused = none_chosen (is_utf8 bytes) (parse_document bytes) (λ yes. refused (IsUtf8-from_is_utf8 bytes yes))
