-- Facts about values that may be absent.
use Rattle.std.proofs.Common.{◌≡◌, Option, Some, None, IsSomeAnd, MatchOption, refl, subst}

-- the value of which something holds
pub value_of : {X : Type 0} (P : X → Type 0) (o : Option X) → IsSomeAnd o P → (x : X) × (o ≡ Some x) × P x
value_of P None h = absurd h
value_of P (Some x) h = (x, refl, h)

-- what holds where there is no value
pub at_none : {A X : Type 0} (B : X → Type 0) (o : Option X) → o ≡ None → MatchOption o A B → A
at_none B None e h = h
at_none B (Some x) e h = cc

-- what holds of the value
pub at_some : {X : Type 0} (A : Type 0) (B : X → Type 0) (o : Option X) (x : X) → o ≡ Some x → MatchOption o A B → B x
at_some A B o x e h = subst (λ (o : Option _). MatchOption o A B) e h

pub at_value : {X : Type 0} (P : X → Type 0) (o : Option X) (x : X) → o ≡ Some x → IsSomeAnd o P → P x
at_value P o x e h = subst (λ (o : Option _). IsSomeAnd o P) e h
