use Rattle.std.proofs.Common.{◌≡◌, ℕ, ◌*◌, ◌<◌, ap₂, sym, subst, ◌∙◌, arith}
use Rattle.std.specs.Int.{div_ceil}
use Rattle.mk_exact.specs.Weight.{IsSmall}
use Rattle.mk_enclose.specs.Enclosure.{lower_of, upper_of}
use Rattle.mk_best.proofs.Certified.{own_there, top_there, ends_present, ends_fit, certified}
use Rattle.mk_best.proofs.best_state.certificate.Goals as goal

units_are : (hi lo u l : ℕ) → hi ≡ u → lo ≡ l
    → div_ceil (hi * 10000000000) (lo * 1) ≡ div_ceil (u * 10000000000) l
units_are hi lo u l e f =
    ap₂ (λ a b. div_ceil (a * 10000000000) b) e (let i : lo * 1 ≡ l = omega (arith, f) in i)

pub unreachable-requires : goal.unreachable-requires
unreachable-requires c =
    let a = c.requires in
    own_there c.args.own.now c.args.top.now c.args.whole.now (IsSmall a.network a.history) a.state
    a.best a.all a.ends c.in_default.is

pub unreachable-requires-in_default-top : goal.unreachable-requires-in_default-top
unreachable-requires-in_default-top c =
    let a = c.requires in
    top_there c.args.own.now c.args.top.now c.args.whole.now (IsSmall a.network a.history) a.state
    a.best a.all a.ends c.in_default-top.is

pub unreachable-requires-in_default-div_ceil : goal.unreachable-requires-in_default-div_ceil
unreachable-requires-in_default-div_ceil c =
    let fits = (ends_fit {e = c.in-Present.own} {f = c.in-Present-top.top} c.requires
    c.in-Present.is c.in-Present-top.is).1 in
    c.in_default-div_ceil.ensures
    (subst (λ n. n < 9223372036854775808)
    (sym (units_are c.hi.result c.lo.result (upper_of c.in-Present-top.top)
    (lower_of c.args.whole.now) c.hi.ensures.value c.lo.ensures.value)) fits)

pub between-requires-clause-ordered : goal.between-requires-clause-ordered
between-requires-clause-ordered c =
    let fits = (ends_fit {e = c.in-Present.own} {f = c.in-Present-top.top} c.requires
    c.in-Present.is c.in-Present-top.is).0 in
    omega (arith, fits, c.lo-2.ensures.value, c.hi-2.ensures.value)

pub returns : goal.returns
returns c = λ network H v w t ends.
    let own = c.in-Present.own in
    let top = c.in-Present-top.top in
    let whole = c.args.whole.now in
    certified own top whole (IsSmall network H) v w t
    (ends_present c.args.own.now c.args.top.now whole (IsSmall network H) v w t ends own top
    c.in-Present.is c.in-Present-top.is) c.between.result c.in-Some.units
    (c.between.ensures.lower ∙ c.lo-2.ensures.value)
    (c.between.ensures.upper ∙ c.hi-2.ensures.value)
    (c.in-Some.ensures.1
    ∙ units_are c.hi.result c.lo.result (upper_of top) (lower_of whole) c.hi.ensures.value
    c.lo.ensures.value)
