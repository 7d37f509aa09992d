-- Whose assets a call may touch.
use Rattle.std.specs.Prelude.{◌≡◌, ℕ, List, slice_get}
use Rattle.mk_record.specs.declared.users.Member.{Member}
use Rattle.mk_record.specs.Members.{assets_of}

-- all users but one own what they owned
abbrev pub OwnApart : {A Plan : Type 0} → ℕ → List (Member A Plan) → List (Member A Plan) → Type 0
OwnApart user old new = (u : ℕ) → (u ≡ user → ⊥)
    → slice_get (assets_of new) u ≡ slice_get (assets_of old) u
