use Rattle.std.proofs.Common.{◌≡◌, ◌+◌, ◌*◌, ◌<◌, ◌≤◌, ◌++◌, List, ℕ, length, map, take, All, arith, ap, subst, sym, ◌∙◌, suc}
use Rattle.std.proofs.Math.Nat.{suc-mul, mul-le-mul}
use Rattle.std.proofs.lemmas.List.Elements.{All-weaker}
use Rattle.std.proofs.lemmas.List.FromFn.{length-range_with_len}
use Rattle.mk_states.specs.States.{numbers_below}
use Rattle.mk_scope.specs.inner.Strides.{repeated}
use Rattle.mk_scope.proofs.Doubled.{length-repeated, repeated_more, take_repeated, moved_below}
use Rattle.mk_scope.proofs.strides.repeat.Goals as goal

-- the list so far, and once more
room_for : (stride size value count : ℕ) (low : List ℕ) → length low ≤ stride → size * stride ≤ 4096 → value < size → count ≡ length low
    → length (repeated stride (numbers_below value) low) + count ≤ 4096
room_for stride size value count low few fits l e =
    let a = length-repeated stride (numbers_below value) low in
    let b = length-range_with_len 0 value in
    let c' = ap (λ n. n * length low) b in
    let m : suc value * length low ≤ size * stride = mul-le-mul (omega arith) few in
    let s = suc-mul value (length low) in
    omega (arith, a, c', m, s, e, fits)

pub append_moved-requires-clause-room : goal.append_moved-requires-clause-room
append_moved-requires-clause-room c =
    let low = c.args.cells.now.items in
    let e : c.len-count.result ≡ length low = omega (arith, c.len-count.ensures) in
    rw c.loop-value.invariant (room_for c.args.stride c.args.size c.loop-value.value c.len-count.result low c.requires.few c.requires.fits c.loop-value-test.true e)

first_again : (stride value count : ℕ) (low items : List ℕ) → 1 ≤ value → count ≡ length low → items ≡ repeated stride (numbers_below value) low → take count items ≡ low
first_again stride value count low items h e i =
    ap (λ n. take n items) e ∙ ap (take (length low)) i ∙ take_repeated stride value low h

pub append_moved-requires-clause-below : goal.append_moved-requires-clause-below
append_moved-requires-clause-below c =
    let low = c.args.cells.now.items in
    let e : c.len-count.result ≡ length low = omega (arith, c.len-count.ensures) in
    let f = first_again c.args.stride c.loop-value.value c.len-count.result low c.loop-value.cells.items c.loop-value.auto.value e c.loop-value.invariant in
    subst (λ (ys : List ℕ). All (λ k. c.loop-value.value * c.args.stride + k < 4096) ys) (sym f)
    (All-weaker (λ k. k < c.args.stride) (λ k. c.loop-value.value * c.args.stride + k < 4096) (λ k l. moved_below c.loop-value.value c.args.size c.args.stride k c.loop-value-test.true l c.requires.fits) low c.requires.below)

pub loop-value-preserved : goal.loop-value-preserved
loop-value-preserved c =
    let low = c.args.cells.now.items in
    let stride = c.args.stride in let v = c.loop-value.value in
    let e : c.len-count.result ≡ length low = omega (arith, c.len-count.ensures) in
    let f = first_again stride v c.len-count.result low c.loop-value.cells.items c.loop-value.auto.value e c.loop-value.invariant in
    c.append_moved.ensures ∙ ap (λ (ys : List ℕ). ys ++ map (λ k. v * stride + k) (take c.len-count.result c.loop-value.cells.items)) c.loop-value.invariant
    ∙ ap (λ (ys : List ℕ). repeated stride (numbers_below v) low ++ map (λ k. v * stride + k) ys) f ∙ repeated_more stride v low
