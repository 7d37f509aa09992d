-- Columns written one after the other.
use Rattle.std.proofs.Common.{◌≡◌, ℕ, ◌+◌, ◌-◌, ◌*◌, ◌/◌, ◌%◌, ◌<◌, ◌≤◌, true, false, ◌||◌, ◌⊎◌, inl, inr, eqb, List, [], ◌∷◌, ◌++◌, length, get_or, set, take, drop, slice_index, All, refl, sym, ap, subst, ◌∙◌, arith, add-one}
use Rattle.std.proofs.Math.Nat.{mul-add-mod_self_right, le-mul_of_pos_right, mul-le-mul_right}
use Rattle.std.proofs.lemmas.Nat.{div-mul-add}
use Rattle.std.proofs.lemmas.Bool.{cases_eq, cases_lt, both_ways, or_cases, or_left, or_right, eqb-true}
use Rattle.std.proofs.lemmas.List.{drop_more, take_more, length-take-le, get_or-take, length-set, get_or-set_same, get_or-set_other}
use Rattle.std.proofs.lemmas.List.Elements.{All-head, All-tail}
use Rattle.mk_net.specs.Network.{Variable, sizes, IsNetwork}
use Rattle.mk_net.specs.Named.{nobody}
use Rattle.mk_states.proofs.Shares.{size_at, few_values_at}
use Rattle.mk_sums.specs.Sums.{listed}
use Rattle.mk_sums.specs.Cells.{cells, Apart}
use Rattle.mk_scope.specs.inner.Columns.{IsColumn, HaveColumns}
use Rattle.mk_scope.proofs.Values.{cells_pos, cells_split, place_at, listed_at, listed_drop, listed_take}

pub listed_all : (P : ℕ → Type 0) (xs : List ℕ) → All P xs → (x : ℕ) → listed xs x ≡ true → P x
listed_all P [] h x p = absurd (both_ways false refl p)
listed_all P (y ∷ xs) h x p = at (or_cases (eqb x y) (listed xs x) p) (listed_all P xs (All-tail P y xs h) x)
  where
    at : ((eqb x y ≡ true) ⊎ (listed xs x ≡ true)) → (listed xs x ≡ true → P x) → P x
    at (inl e) ih = subst P (sym (eqb-true x y e)) (All-head P y xs h)
    at (inr q) ih = ih q

-- each variable of a network has 2 to 16 values
pub two_values_at : (network : List Variable) → IsNetwork network → (x : ℕ) → x < length network → 2 ≤ slice_index (sizes network) x
two_values_at network net x h = omega (arith, size_at network net x h, (net.each x nobody h).two_values)

pub bounds_of : (network : List Variable) → IsNetwork network → (xs : List ℕ) → All (λ x. x < length network) xs → (x : ℕ) → listed xs x ≡ true
    → (2 ≤ slice_index (sizes network) x) × (slice_index (sizes network) x ≤ 16)
bounds_of network net xs h x p =
    let l = listed_all (λ y. y < length network) xs h x p in
    (two_values_at network net x l, few_values_at network net x l)

-- the cells from a place of the list on
pub cells_from : (size : ℕ → ℕ) (xs : List ℕ) (i d : ℕ) → i < length xs → cells size (drop i xs) ≡ size (get_or xs i d) * cells size (drop (i + 1) xs)
cells_from size xs i d h = ap (λ ys. cells size ys) (drop_more xs i d h)

-- a product so far
pub count_step : (size : ℕ → ℕ) (xs : List ℕ) (i n total : ℕ) → i < length xs → n * cells size (drop i xs) ≡ total
    → n * size (get_or xs i 0) * cells size (drop (i + 1) xs) ≡ total
count_step size xs i n total h e = let f = ap (λ k. n * k) (cells_from size xs i 0 h) in omega (arith, e, f)

pub count_small : (size : ℕ → ℕ) (xs : List ℕ) (i n total : ℕ) → ((x : ℕ) → listed xs x ≡ true → (2 ≤ size x) × (size x ≤ 16)) → i < length xs → n * cells size (drop i xs) ≡ total
    → n * size (get_or xs i 0) ≤ total
count_small size xs i n total bounds h e =
    let p : 1 ≤ cells size (drop (i + 1) xs) = cells_pos size (drop (i + 1) xs) (λ x q. let l = (bounds x (listed_drop xs (i + 1) x q)).0 in omega arith) in
    let l : n * size (get_or xs i 0) ≤ n * size (get_or xs i 0) * cells size (drop (i + 1) xs) = le-mul_of_pos_right (n * size (get_or xs i 0)) p in
    let f = count_step size xs i n total h e in
    omega (arith, l, f)

-- a multiple is divided without a rest
exact_div : (n k s : ℕ) → n ≡ k * s → 1 ≤ s → n / s * s ≡ n
exact_div n k s e p = ap (λ m. m / s * s) (omega (arith, e)) ∙ ap (λ m. m * s) (div-mul-add k s 0 p) ∙ sym e

-- what is written behind the columns so far
pub record IsWritten (count span stride : ℕ) (columns next : List ℕ) : Type 0 where
  pub long : length next ≡ length columns + count
  pub before : (c : ℕ) → c < length columns → slice_index next c ≡ slice_index columns c
  pub written : (c : ℕ) → c < count → slice_index next (length columns + c) ≡ c % span / stride

pub column_next : (start count span stride : ℕ) (old new : List ℕ) → start + count ≤ length old → length new ≡ length old
    → ((c : ℕ) → c < start → slice_index new c ≡ slice_index old c) → ((c : ℕ) → c < count → slice_index new (start + c) ≡ c % span / stride)
    → IsWritten count span stride (take start old) (take (start + count) new)
column_next start count span stride old new within long before written =
    let front : length (take start old) ≡ start = length-take-le start old (omega (arith, within)) in
    record {
      long = length-take-le (start + count) new (omega (arith, within, long)) ∙ ap (λ n. n + count) (sym front);
      before = λ c l.
          let m : c < start = omega (arith, l, front) in
          get_or-take (start + count) new c 0 (omega (arith, m)) ∙ before c m ∙ sym (get_or-take start old c 0 m);
      written = λ c l. ap (λ n. slice_index (take (start + count) new) (n + c)) front ∙ get_or-take (start + count) new (start + c) 0 (omega (arith, l)) ∙ written c l;
    }

-- one column more
module _ (size : ℕ → ℕ) (xs : List ℕ) (bounds : (x : ℕ) → listed xs x ≡ true → (2 ≤ size x) × (size x ≤ 16)) where
  pub record IsNext (i span stride : ℕ) : Type 0 where
    pub stride_is : stride ≡ cells size (drop (i + 1) xs)
    pub stride_pos : 1 ≤ stride
    pub few : span ≤ stride * 16
    pub some : 1 ≤ span
    pub exact : span / stride * stride ≡ span
    pub within : span ≤ cells size xs

  pub next_stride : (i span size_here : ℕ) → i < length xs → span ≡ cells size (drop i xs) → size_here ≡ size (get_or xs i 0) → IsNext i span (span / size_here)
  next_stride i span n h e f = rw (divided) (record { stride_is = refl; stride_pos = p; few = few; some = omega (arith, g, le-mul_of_pos_right (size (get_or xs i 0)) p, b.0); exact = exact_div span (size (get_or xs i 0)) (cells size (drop (i + 1) xs)) g p; within = omega (arith, e, cells_split size xs i, le-mul_of_pos_right (cells size (drop i xs)) front) })
    where
      p : 1 ≤ cells size (drop (i + 1) xs)
      p = cells_pos size (drop (i + 1) xs) (λ x q. let l = (bounds x (listed_drop xs (i + 1) x q)).0 in omega arith)

      b : (2 ≤ size (get_or xs i 0)) × (size (get_or xs i 0) ≤ 16)
      b = bounds (get_or xs i 0) (listed_at xs i 0 h)

      g : span ≡ size (get_or xs i 0) * cells size (drop (i + 1) xs)
      g = e ∙ cells_from size xs i 0 h

      front : 1 ≤ cells size (take i xs)
      front = cells_pos size (take i xs) (λ x q. let l = (bounds x (listed_take xs i x q)).0 in omega arith)

      few : span ≤ cells size (drop (i + 1) xs) * 16
      few = let l = mul-le-mul_right (cells size (drop (i + 1) xs)) b.1 in omega (arith, g, l)

      turned : span ≡ cells size (drop (i + 1) xs) * size (get_or xs i 0) + 0
      turned = omega (arith, g)

      divided : span / n ≡ cells size (drop (i + 1) xs)
      divided = ap (λ k. span / k) f ∙ ap (λ k. k / size (get_or xs i 0)) turned ∙ div-mul-add (cells size (drop (i + 1) xs)) (size (get_or xs i 0)) 0 (let l = b.0 in omega arith)

  listed_push : (ys : List ℕ) (x y : ℕ) → listed (ys ++ x ∷ []) y ≡ true → (y ≡ x → ⊥) → listed ys y ≡ true
  listed_push [] x y h d = at (or_cases (eqb y x) false h)
    where
      at : ((eqb y x ≡ true) ⊎ (false ≡ true)) → false ≡ true
      at (inl e) = absurd (d (eqb-true y x e))
      at (inr e) = e
  listed_push (z ∷ ys) x y h d = at (or_cases (eqb y z) (listed (ys ++ x ∷ []) y) h) (λ p. listed_push ys x y p d)
    where
      at : ((eqb y z ≡ true) ⊎ (listed (ys ++ x ∷ []) y ≡ true)) → (listed (ys ++ x ∷ []) y ≡ true → listed ys y ≡ true) → (eqb y z || listed ys y) ≡ true
      at (inl e) ih = or_left (eqb y z) (listed ys y) e
      at (inr p) ih = or_right (eqb y z) (listed ys y) (ih p)

  pub more_columns : Apart xs → (i span stride first : ℕ) (starts columns next : List ℕ) → i < length xs → span ≡ cells size (drop i xs) → stride ≡ cells size (drop (i + 1) xs)
      → first ≤ get_or xs i 0 → get_or xs i 0 - first < length starts → IsWritten (cells size xs) span stride columns next → HaveColumns size xs (take i xs) first starts columns
      → HaveColumns size xs (take (i + 1) xs) first (set starts (get_or xs i 0 - first) (length columns)) next
  more_columns apart i span stride first starts columns next h e f b l more have y c p q = at (cases_eq y x)
    where
      x : ℕ
      x = get_or xs i 0

      written : List ℕ
      written = set starts (x - first) (length columns)

      there : slice_index written (x - first) ≡ length columns
      there = get_or-set_same starts (x - first) (length columns) 0 l

      here : IsColumn size xs first written next x c
      here = record {
        reached = b;
        started = rw length-set l;
        within = omega (arith, there, more.long, q);
        value = ap (λ s. slice_index next (s + c)) there ∙ more.written c q
            ∙ ap (λ n. c % n / stride) e ∙ ap (λ n. c % cells size (drop i xs) / n) (f ∙ ap (λ k. cells size (drop k xs)) (add-one i)) ∙ sym (place_at size xs apart i c (λ y. 0) h q);
      }

      other : (y ≡ x → ⊥) → IsColumn size xs first written next y c
      other d =
          let o = have y c (listed_push (take i xs) x y (subst (λ (ys : List ℕ). listed ys y ≡ true) (take_more xs i 0 h) p) d) q in
          let elsewhere : y - first ≡ x - first → ⊥ = λ k. d (omega (arith, k, b, o.reached)) in
          let s : slice_index written (y - first) ≡ slice_index starts (y - first) = get_or-set_other starts (x - first) (y - first) (length columns) 0 elsewhere in
          let w = o.within in
          record {
            reached = o.reached;
            started = rw length-set o.started;
            within = omega (arith, s, more.long, w);
            value = ap (λ s. slice_index next (s + c)) s ∙ more.before (slice_index starts (y - first) + c) w ∙ o.value;
          }

      at : ((y ≡ x) ⊎ (y ≡ x → ⊥)) → IsColumn size xs first written next y c
      at (inl g) = subst (λ z. IsColumn size xs first written next z c) (sym g) here
      at (inr d) = other d

-- one value more of a column
pub values_more : (start stride value : ℕ) (before after : List ℕ) → ((c : ℕ) → c < value * stride → slice_index before (start + c) ≡ c / stride)
    → ((c : ℕ) → c < start + value * stride → slice_index after c ≡ slice_index before c)
    → ((c : ℕ) → c < stride → slice_index after (start + value * stride + c) ≡ value)
    → (c : ℕ) → c < (value + 1) * stride → slice_index after (start + c) ≡ c / stride
values_more start stride value before after written same more c l = at (cases_lt c (value * stride))
  where
    at : ((c < value * stride) ⊎ (value * stride ≤ c)) → slice_index after (start + c) ≡ c / stride
    at (inl m) = same (start + c) (omega (arith, m)) ∙ written c m
    at (inr m) =
        let j = c - value * stride in
        let next : (value + 1) * stride ≡ value * stride + stride = omega arith in
        let k : j < stride = omega (arith, l, m, next) in
        let there : start + value * stride + j ≡ start + c = omega (arith, m) in
        let parts : value * stride + j ≡ c = omega (arith, m) in
        ap (slice_index after) (sym there) ∙ more j k ∙ sym (ap (λ n. n / stride) (sym parts) ∙ div-mul-add value stride j k)

-- one cell more of a column, whose values come round
pub column_again : (start span stride n value : ℕ) (xs : List ℕ) → 1 ≤ span → span ≤ n → start + n < length xs → value ≡ slice_index xs (start + n - span)
    → ((c : ℕ) → c < n → slice_index xs (start + c) ≡ c % span / stride)
    → (c : ℕ) → c < n + 1 → slice_index (set xs (start + n) value) (start + c) ≡ c % span / stride
column_again start span stride n value xs some round l is written c m = at (cases_eq c n)
  where
    back : start + n - span ≡ start + (n - span)
    back = omega (arith, round)

    whole : 1 * span + (n - span) ≡ n
    whole = omega (arith, round)

    there : value ≡ n % span / stride
    there =
        is ∙ ap (slice_index xs) back ∙ written (n - span) (omega (arith, some, round))
        ∙ ap (λ k. k / stride) (sym (mul-add-mod_self_right 1 span (n - span)) ∙ ap (λ k. k % span) whole)

    at : ((c ≡ n) ⊎ (c ≡ n → ⊥)) → slice_index (set xs (start + n) value) (start + c) ≡ c % span / stride
    at (inl e) =
        ap (λ k. slice_index (set xs (start + n) value) (start + k)) e ∙ get_or-set_same xs (start + n) value 0 l ∙ there ∙ ap (λ k. k % span / stride) (sym e)
    at (inr d) = get_or-set_other xs (start + n) (start + c) value 0 (λ e. d (omega (arith, e))) ∙ written c (omega (arith, m, d))
