-- What an opening finds in a store file, and its faults.
use Rattle.std.specs.Prelude.{◌≡◌, ℕ, List, map, Vec}
use Rattle.std.specs.declared.alloc.Global.{Global}
use Rattle.mk_disk.specs.Disk.{Rose}
use Rattle.mk_journal.specs.declared.read.End.{End}
use Rattle.mk_journal.specs.declared.read.End.TheVariants.{Gate, Malformed}
use Rattle.mk_journal.specs.declared.open.OpenFault.{OpenFault}
use Rattle.mk_journal.specs.declared.open.OpenFault.TheVariants.{Disk, Foreign, Memory}
use Rattle.mk_journal.specs.Store.{IsForeign}

-- the bytes of each record
abbrev pub contents : List (Vec ℕ Global) → List (List ℕ)
contents records = map (λ v. v.items) records

-- what is said of the place of a closed gate
abbrev pub IfGate : End → (ℕ → Type 0) → Type 0
IfGate (Gate at) P = P at
IfGate Malformed P = Unit {0}

-- what is said where a malformed record follows
abbrev pub IfMalformed : End → Type 0 → Type 0
IfMalformed (Gate at) P = Unit {0}
IfMalformed Malformed P = P

-- what is said where the file is refused
abbrev pub IfForeign : OpenFault → Type 0 → Type 0
IfForeign Disk P = Unit {0}
IfForeign (Foreign at) P = P
IfForeign Memory P = Unit {0}

-- a fault of the disk shows in its count, and no other fault does
abbrev pub IsCounted : ℕ → ℕ → OpenFault → Type 0
IsCounted before now Disk = Rose before now
IsCounted before now (Foreign at) = now ≡ before
IsCounted before now Memory = now ≡ before

-- a refusal by what the file is to the market
abbrev pub IsRefused : List ℕ → List ℕ → OpenFault → Type 0
IsRefused market file Disk = Unit {0}
IsRefused market file (Foreign at) = IsForeign market file at
IsRefused market file Memory = Unit {0}
