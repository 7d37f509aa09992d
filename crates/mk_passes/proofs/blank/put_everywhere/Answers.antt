use Rattle.std.proofs.Common.{◌≡◌, ℕ, Bool, true, false, ◌==◌, ◌&&◌, List, [], replicate, length, inr, refl, arith, ap, sym, ◌∙◌}
use Rattle.std.proofs.lemmas.Bool.{eqb-true, false≢true}
use Rattle.std.proofs.lemmas.List.{length-replicate}
use Rattle.mk_passes.specs.Blank.{one_digits, one_exponent, filled}
use Rattle.mk_passes.proofs.Filled.{filled_full, filled_none, filled_empty}
use Rattle.mk_passes.proofs.blank.put_everywhere.Goals as goal

both_true : (a b : Bool) → (a && b) ≡ true → (a ≡ true) × (b ≡ true)
both_true true b h = (refl, h)
both_true false b h = absurd (false≢true h)

is_one : (q x : ℕ) (b : Bool) → b ≡ (q == one_digits && x == one_exponent) → b ≡ true → (q ≡ one_digits) × (x ≡ one_exponent)
is_one q x b h t =
    let both = both_true (q == one_digits) (x == one_exponent) (sym h ∙ t) in
    (eqb-true q one_digits both.0, eqb-true x one_exponent both.1)

-- an array that was empty is filled with one value
filled_with : (q n : ℕ) (xs ys : List ℕ) → ys ≡ filled q n xs → xs ≡ [] → ys ≡ replicate n q
filled_with q n xs ys h e = h ∙ ap (filled q n) e ∙ filled_empty q n

long_with : (q n : ℕ) (ys : List ℕ) → ys ≡ replicate n q → length ys ≡ n
long_with q n ys h = ap length h ∙ length-replicate n q

is_filled : (one q n : ℕ) (ys : List ℕ) → ys ≡ replicate n q → filled one n ys ≡ replicate n q
is_filled one q n ys h = filled_full one n ys (let l = long_with q n ys h in omega (arith, l)) ∙ h

pub returns-then-is_one-clause-digits : goal.returns-then-is_one-clause-digits
returns-then-is_one-clause-digits c =
    let e = is_one c.args.cell.digits c.args.cell.exponent c.is_one.result c.is_one.ensures c.if-is_one.true in
    filled_none one_digits c.args.cells c.clear.new.self.items (ap length c.clear.ensures.items) ∙ ap (replicate c.args.cells) (sym e.0)

pub returns-then-is_one-clause-exponents : goal.returns-then-is_one-clause-exponents
returns-then-is_one-clause-exponents c =
    let e = is_one c.args.cell.digits c.args.cell.exponent c.is_one.result c.is_one.ensures c.if-is_one.true in
    filled_none one_exponent c.args.cells c.clear-2.new.self.items (ap length c.clear-2.ensures.items) ∙ ap (replicate c.args.cells) (sym e.1)

pub returns-clause-digits : goal.returns-clause-digits
returns-clause-digits c =
    is_filled one_digits c.args.cell.digits c.args.cells c.append_until.new.values.items
    (filled_with c.args.cell.digits c.args.cells c.clear.new.self.items c.append_until.new.values.items c.append_until.ensures.items c.clear.ensures.items)

pub returns-clause-exponents : goal.returns-clause-exponents
returns-clause-exponents c =
    is_filled one_exponent c.args.cell.exponent c.args.cells c.append_until-2.new.values.items
    (filled_with c.args.cell.exponent c.args.cells c.clear-2.new.self.items c.append_until-2.new.values.items c.append_until-2.ensures.items c.clear-2.ensures.items)

pub returns-clause-held : goal.returns-clause-held
returns-clause-held c = record {
  whole = record {
    either = inr (
      long_with c.args.cell.digits c.args.cells c.append_until.new.values.items (filled_with c.args.cell.digits c.args.cells c.clear.new.self.items c.append_until.new.values.items c.append_until.ensures.items c.clear.ensures.items),
      long_with c.args.cell.exponent c.args.cells c.append_until-2.new.values.items (filled_with c.args.cell.exponent c.args.cells c.clear-2.new.self.items c.append_until-2.new.values.items c.append_until-2.ensures.items c.clear-2.ensures.items),
    );
  };
  digits_fit = omega (arith, c.append_until.ensures.room, c.clear.ensures.capacity, c.requires.digits_fit);
  exponents_fit = omega (arith, c.append_until-2.ensures.room, c.clear-2.ensures.capacity, c.requires.exponents_fit);
}
