-- Faults that have texts: the first of several has one, where each has or where those before it do
-- not apply.
use Rattle.std.proofs.Common.{◌≡◌, ℕ, Bool, true, false, cond, List, [], ◌∷◌, ◌++◌}
use Rattle.std.proofs.Common.{Option, Some, None, IfSome, refl, arith}
use Rattle.std.specs.Prelude.{option_map, find}
use Rattle.std.specs.List.{AllByRecursion, list_any}
use Rattle.mk_names.specs.Name.{IsName}
use Rattle.mk_names.specs.Texts.{same_text}
use Rattle.mk_net.specs.Firsts.{fault_if, first_of}
use Rattle.mk_text.specs.Numbers.{IsShort}
use Rattle.mk_reply.specs.Refusals.{IsRefusal}
use Rattle.mk_reply.specs.declared.refusal.Refusal.{Refusal}
use Rattle.mk_reply.specs.declared.refusal.Refusal.TheVariants.{Range}
use Rattle.mk_rules.specs.Refusals.{first_repeat, ranges}

pub faulted : (test : Bool) (why : Refusal) → IsRefusal why → IfSome (fault_if test why) IsRefusal
faulted true why h = h
faulted false why h = tt

pub first_has : (faults : List (Option Refusal)) → AllByRecursion (λ o. IfSome o IsRefusal) faults
    → IfSome (first_of faults) IsRefusal
first_has [] h = tt
first_has (None ∷ later) h = first_has later h.1
first_has (Some why ∷ later) h = h.0

-- several faults before others
pub first_then : (faults later : List (Option Refusal))
    → AllByRecursion (λ o. IfSome o IsRefusal) faults → IfSome (first_of later) IsRefusal
    → IfSome (first_of (faults ++ later)) IsRefusal
first_then [] later h k = k
first_then (None ∷ faults) later h k = first_then faults later h.1 k
first_then (Some why ∷ faults) later h k = h.0

-- faults that come only where one does not apply
pub then_has : (o : Option Refusal) (later : List (Option Refusal)) → IfSome o IsRefusal
    → (o ≡ None → IfSome (first_of later) IsRefusal) → IfSome (first_of (o ∷ later)) IsRefusal
then_has None later h k = k refl
then_has (Some why) later h k = h

-- faults that come only where none of several applies
pub then_all : (faults later : List (Option Refusal))
    → AllByRecursion (λ o. IfSome o IsRefusal) faults
    → (AllByRecursion (λ o. o ≡ None) faults → IfSome (first_of later) IsRefusal)
    → IfSome (first_of (faults ++ later)) IsRefusal
then_all [] later h k = k tt
then_all (None ∷ faults) later h k = then_all faults later h.1 (λ none. k (refl, none))
then_all (Some why ∷ faults) later h k = h.0

-- the first that passes a test is one of the list
pub found_has : {X : Type 0} (P : X → Type 0) (test : X → Bool) (xs : List X) → AllByRecursion P xs
    → IfSome (find test xs) P
found_has P test [] h = tt
found_has P test (x ∷ xs) h = at (test x) (found_has P test xs h.1)
  where
    at : (b : Bool) → IfSome (find test xs) P → IfSome (cond b (Some x) (find test xs)) P
    at true later = h.0
    at false later = later

pub repeat_has : (before names : List (List ℕ)) → AllByRecursion IsName names
    → IfSome (first_repeat before names) IsName
repeat_has before [] h = tt
repeat_has before (name ∷ names) h =
    at (list_any (same_text name) before) (repeat_has (name ∷ before) names h.1)
  where
    at : (b : Bool) → IfSome (first_repeat (name ∷ before) names) IsName
        → IfSome (cond b (Some name) (first_repeat (name ∷ before) names)) IsName
    at true later = h.0
    at false later = later

pub name_fault : (f : List ℕ → Refusal) → ((name : List ℕ) → IsName name → IsRefusal (f name))
    → (o : Option (List ℕ)) → IfSome o IsName → IfSome (option_map f o) IsRefusal
name_fault f each None h = tt
name_fault f each (Some name) h = each name h

number_fault : (o : Option ℕ) → IfSome o IsShort → IfSome (option_map Range o) IsRefusal
number_fault None h = tt
number_fault (Some n) h = omega (arith, h)

pub ranges_have : (least most : ℕ) (numbers : List ℕ) → AllByRecursion IsShort numbers
    → IfSome (ranges least most numbers) IsRefusal
ranges_have least most numbers h = number_fault _ (found_has IsShort _ numbers h)
