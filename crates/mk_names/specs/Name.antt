-- Names.
use Rattle.std.specs.Prelude.{ℕ, ◌≤◌, List, [], ◌∷◌, length, Bool, false, ◌&&◌, ◌||◌, ◌==◌, nat_le, IsTrue}
use Rattle.std.specs.List.{list_all}

abbrev pub max_name_bytes : ℕ
max_name_bytes = 32

abbrev pub is_lowercase : ℕ → Bool
is_lowercase b = nat_le 97 b && nat_le b 122

-- a letter, a digit or an underscore
abbrev pub is_name_byte : ℕ → Bool
is_name_byte b = is_lowercase b || ((nat_le 48 b && nat_le b 57) || (b == 95))

abbrev pub begins_with_letter : List ℕ → Bool
begins_with_letter [] = false
begins_with_letter (b ∷ bytes) = is_lowercase b

-- one letter from a to z, and then letters, digits and underscores: at most 32 bytes together
pub record IsName (bytes : List ℕ) : Type 0 where
  pub short : length bytes ≤ max_name_bytes
  pub first : IsTrue (begins_with_letter bytes)
  pub each : IsTrue (list_all is_name_byte bytes)

-- the same as a test
abbrev pub is_name : List ℕ → Bool
is_name bytes = nat_le (length bytes) max_name_bytes && (begins_with_letter bytes && list_all is_name_byte bytes)
