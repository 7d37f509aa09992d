use Rattle.std.proofs.Common.{◌≡◌, ℕ, ◌<◌, ◌≤◌, ◌⊎◌, inl, inr, Bool, true, false, cond, List, ◌∷◌, Option, Some, None, is_none, sym, ap, ap₂, subst, ◌∙◌, arith}
use Rattle.std.specs.Prelude.{option_map}
use Rattle.mk_net.specs.declared.words.Pair.{Pair}
use Rattle.mk_net.specs.Events.{speaks_of}
use Rattle.mk_net.specs.Firsts.{fault_if, or_else}
use Rattle.mk_net.specs.Network.{Variable}
use Rattle.mk_reply.specs.declared.refusal.Refusal.TheVariants.{NoVariable, Twice}
use Rattle.mk_spread.specs.Spreads.{SpreadAsked}
use Rattle.mk_rules.specs.Refusals.{names_in, unknown, twice}
use Rattle.mk_rules.proofs.Spreads.{spread_is}
use Rattle.mk_quote.specs.Questions.{spread_in}
use Rattle.mk_record.proofs.KnownVariables.{variable_of_place}
use Rattle.mk_record.proofs.Refusing.{error_kept}
use Rattle.mk_record.proofs.SpreadRefusals.{spread_refused_for, spread_is_named, refused_by_pairs}
use Rattle.mk_record.proofs.asking.ask_spread.Goals as goal

spoken : (n : ℕ) (b : Bool) → n ≤ 8 → (8 < n) ⊎ (b ≡ true) → b ≡ true
spoken n b few (inl h) = absurd (omega arith)
spoken n b few (inr h) = h

unspoken : (spread : SpreadAsked) (number : ℕ) (condition : List Pair) → spread ≡ record { variable = number; condition = condition } → speaks_of spread.condition spread.variable ≡ false
    → speaks_of condition number ≡ false
unspoken spread number condition e apart = subst (λ (s : SpreadAsked). speaks_of s.condition s.variable ≡ false) e apart

pub returns-in_default-clause-refusal : goal.returns-in_default-clause-refusal
returns-in_default-clause-refusal c =
    let net = c.args.net.now in let name = c.args.variable.now in let ps = c.args.condition.now in
    sym (ap (λ (o : Option (ℕ × Variable)). or_else (fault_if (is_none o) (NoVariable name)) (or_else (unknown net ps) (twice (name ∷ names_in ps))))
    (variable_of_place net name None (sym c.in_default.is ∙ c.find_variable.ensures.first)))

pub returns-in_err-found-clause-refusal : goal.returns-in_err-found-clause-refusal
returns-in_err-found-clause-refusal c =
    let net = c.args.net.now in let name = c.args.variable.now in
    error_kept c.from_residual.result c.in_err-found.field-0.0 c.from_residual.ensures.1
    ∙ refused_by_pairs net name c.in-Some.number _ c.args.condition.now c.in_err-found.field-0.0 (variable_of_place net name _ c.in-Some.ensures.first) c.in_err-found.ensures.refusal

pub returns-in_default-make-clause-refusal : goal.returns-in_default-make-clause-refusal
returns-in_default-make-clause-refusal c =
    let net = c.args.net.now in let name = c.args.variable.now in let found = c.in_ok-found.found in
    let said = spoken _ (speaks_of found.condition c.in-Some.number) c.in_ok-found.ensures.gathered.few c.in_default-make.ensures.none in
    sym (spread_refused_for net name c.in-Some.number _ c.args.condition.now found.condition found.repeated (variable_of_place net name _ c.in-Some.ensures.first)
    c.in_ok-found.ensures.refusal c.in_ok-found.ensures.gathered
    ∙ ap (λ (b : Bool). option_map Twice (cond b (Some name) found.repeated)) said)

pub returns-in-Some-repeated-clause-refusal : goal.returns-in-Some-repeated-clause-refusal
returns-in-Some-repeated-clause-refusal c =
    let net = c.args.net.now in let name = c.args.variable.now in let found = c.in_ok-found.found in let asked = c.in-Some-make.asked in
    sym (spread_refused_for net name c.in-Some.number _ c.args.condition.now found.condition found.repeated (variable_of_place net name _ c.in-Some.ensures.first)
    c.in_ok-found.ensures.refusal c.in_ok-found.ensures.gathered
    ∙ ap₂ (λ (b : Bool) (o : Option (List ℕ)). option_map Twice (cond b (Some name) o)) (unspoken (spread_in asked) _ _ c.in-Some-make.ensures.some asked.apart) c.in-Some-repeated.is)

pub returns-in-None-clause-refusal : goal.returns-in-None-clause-refusal
returns-in-None-clause-refusal c =
    let net = c.args.net.now in let name = c.args.variable.now in let found = c.in_ok-found.found in let asked = c.in-Some-make.asked in
    sym (spread_refused_for net name c.in-Some.number _ c.args.condition.now found.condition found.repeated (variable_of_place net name _ c.in-Some.ensures.first)
    c.in_ok-found.ensures.refusal c.in_ok-found.ensures.gathered
    ∙ ap₂ (λ (b : Bool) (o : Option (List ℕ)). option_map Twice (cond b (Some name) o)) (unspoken (spread_in asked) _ _ c.in-Some-make.ensures.some asked.apart) c.in-None.is)

pub returns-in-None-clause-named : goal.returns-in-None-clause-named
returns-in-None-clause-named c =
    let net = c.args.net.now in let name = c.args.variable.now in let found = c.in_ok-found.found in
    spread_is_named net name c.in-Some.number _ c.args.condition.now found.condition found.repeated (spread_in c.in-Some-make.asked) (variable_of_place net name _ c.in-Some.ensures.first)
    c.in_ok-found.ensures.gathered c.in-None.is c.in-Some-make.ensures.some

pub returns-in-None-clause-in_range : goal.returns-in-None-clause-in_range
returns-in-None-clause-in_range c =
    let net = c.args.net.now in let name = c.args.variable.now in let found = c.in_ok-found.found in
    spread_is net name c.args.condition.now (spread_in c.in-Some-make.asked)
    (spread_is_named net name c.in-Some.number _ c.args.condition.now found.condition found.repeated (spread_in c.in-Some-make.asked) (variable_of_place net name _ c.in-Some.ensures.first)
    c.in_ok-found.ensures.gathered c.in-None.is c.in-Some-make.ensures.some)
