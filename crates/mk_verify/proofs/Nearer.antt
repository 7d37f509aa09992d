-- What a judge of mk_judge leaves open of enclosures that have at most a grade is near by steps that
-- are enough for the grade.
use Rattle.std.proofs.Common.{ℕ, ◌+◌, ◌-◌, ◌*◌, ◌^◌, ◌≤◌, ◌⊎◌, Bool, arith}
use Rattle.std.proofs.Math.Nat.{mul-le-mul_left}
use Rattle.mk_exact.specs.Factors.{Fraction}
use Rattle.mk_exact.specs.Risk.{nearness}
use Rattle.mk_net.specs.Bounds.{million, sharpness}
use Rattle.mk_enclose.specs.declared.enclosure.Enclosure.{Enclosure}
use Rattle.mk_enclose.specs.declared.factor.Factor.{Factor}
use Rattle.mk_enclose.specs.Enclosure.{IsGradedWithin}
use Rattle.mk_judge.specs.declared.price.PriceBounds.{PriceBounds}
use Rattle.mk_judge.specs.declared.price.PriceBounds.TheVariants.{Never, Always, Between}
use Rattle.mk_judge.specs.Compared.{AreNear}
use Rattle.mk_judge.specs.Prices.{AreNearUnits, IsPriceNear}
use Rattle.mk_judge_points.specs.Cash.{ArePowersNear, IsCashNear, IsBitsNear, AreBitsNear, nearness as cash_nearness}
use Rattle.mk_judge_points.specs.Losses.{quotient, IsBoundNear}
use Rattle.mk_answers.specs.Evidence.{ArePriceGraded}
use Rattle.mk_judge_quotes.proofs.Nearer.{nearer, either_of}

pub units_nearer : (near : ℕ) (price : Fraction) (low high i j : ℕ) → i ≤ j
    → AreNearUnits near price low high i → AreNearUnits near price low high j
units_nearer near price low high i j more =
    either_of (nearer _ _ i j more) (either_of (nearer _ _ i j more)
    (either_of (nearer _ _ i j more) (nearer _ _ i j more)))

pub powers_nearer : (near : ℕ) (q : Fraction) (b low high i j : ℕ) → i ≤ j
    → ArePowersNear near q b low high i → ArePowersNear near q b low high j
powers_nearer near q b low high i j more =
    either_of (nearer _ _ i j more) (either_of (nearer _ _ i j more)
    (either_of (nearer _ _ i j more) (nearer _ _ i j more)))

-- ---- by a greatest grade

pub price_nearer : (parts : ℕ) (bounds : PriceBounds) (price : Fraction)
    (low high most steps : ℕ) → most + most + 2 ≤ steps → ArePriceGraded most bounds
    → IsPriceNear parts bounds price low high → AreNearUnits parts price low high steps
price_nearer parts Never price low high most steps room graded near = absurd near
price_nearer parts Always price low high most steps room graded near = absurd near
price_nearer parts (Between part whole) price low high most steps room graded near =
    let g = graded.0 in
    let h = graded.1 in
    units_nearer parts price low high (g.grade + h.grade + 2) steps
    (omega (arith, g.small, h.small, room)) (near g.grade h.grade g.has h.has)

pub cash_nearer : (small : Bool) (most_trades : ℕ) (factor : Factor) (q : Fraction)
    (b low high most steps : ℕ) → most + 8 ≤ steps → IsGradedWithin factor.gain most
    → IsCashNear small most_trades factor q b low high
    → ArePowersNear (cash_nearness small most_trades) q b low high (b * steps)
cash_nearer small most_trades factor q b low high most steps room graded near =
    powers_nearer (cash_nearness small most_trades) q b low high (b * (graded.grade + 8))
    (b * steps)
    (mul-le-mul_left b (omega (arith, graded.small, room))) (near.near graded.grade graded.has)

pub bits_nearer : (factor : Factor) (q : Fraction) (bits most steps : ℕ) → most ≤ steps
    → IsGradedWithin factor.gain most → IsBitsNear factor q bits → AreNear (2 ^ bits * q.den) q.num steps
bits_nearer factor q bits most steps room graded near =
    nearer _ _ graded.grade steps (omega (arith, graded.small, room))
    (near.near graded.grade graded.has)

pub most_nearer : (small : Bool) (most_trades : ℕ) (factor : Factor) (q : Fraction)
    (bits most steps : ℕ) → most + 1 ≤ steps → IsGradedWithin factor.gain most
    → AreBitsNear small most_trades factor q bits
    → AreNear (2 ^ bits * q.den) q.num steps
    ⊎ AreNear (2 ^ (bits + 1) * (2 * sharpness most_trades) * q.den)
    (q.num * (2 * sharpness most_trades - 1)) steps
most_nearer small most_trades factor q bits most steps room graded near =
    let more : graded.grade + 1 ≤ steps = omega (arith, graded.small, room) in
    either_of (nearer _ _ (graded.grade + 1) steps more) (nearer _ _ (graded.grade + 1) steps more)
    (near.near graded.grade graded.has)

pub bound_nearer : (least : Enclosure) (variables m b low high most steps : ℕ)
    → most + 4 * variables + 9 ≤ steps → IsGradedWithin least most
    → IsBoundNear least variables m b low high
    → ArePowersNear (nearness (million ^ variables)) (quotient (million ^ variables) m) b low high
    (b * steps)
bound_nearer least variables m b low high most steps room graded near =
    powers_nearer (nearness (million ^ variables)) (quotient (million ^ variables) m) b low high
    (b * (graded.grade + 4 * variables + 9)) (b * steps)
    (mul-le-mul_left b (omega (arith, graded.small, room))) (near graded.grade graded.has)
