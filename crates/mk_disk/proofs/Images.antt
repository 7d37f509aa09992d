-- Each image that is said byte by byte is left by torn writes.
use Rattle.std.proofs.Common.{◌≡◌, inl, inr, ℕ, ◌+◌, ◌-◌, ◌<◌, ◌≤◌, min, max, List, [], ◌∷◌, ◌++◌, length, get_or, take, drop, refl, sym, ◌∙◌, ap, arith, length-append, length-take, length-drop, append_assoc}
use Rattle.std.proofs.lemmas.Bool.{cases_lt}
use Rattle.std.proofs.lemmas.List.{take_at, take_all, take-take, drop_at, drop_all, get_or_append_left, get_or-append_right, get_or-take, get_or-drop, ext_get_or}
use Rattle.mk_disk.specs.Disk.{Torn}
use Rattle.mk_disk.specs.Image.{IsImageOf, greatest, BeginWithin, IsDirectImage}
use Rattle.mk_disk.specs.inner.MemoryLaws.{torn_same}

no_less : (len : ℕ) (ranges : List (ℕ × ℕ)) → len ≤ greatest len ranges
no_less len [] = omega arith
no_less len (range ∷ ranges) = omega (arith, no_less len ranges)

-- the image c without the newest write, of a range that begins within c
module _ (durable c : List ℕ) (at n most : ℕ) (begins : at < length c) (long : length durable ≤ length c) where
  abbrev base : List ℕ
  base = durable ++ drop (length durable) c

  abbrev front : List ℕ
  front = take at c

  abbrev middle : List ℕ
  middle = take n (drop at base)

  abbrev back : List ℕ
  back = drop (at + n) c

  abbrev whole : List ℕ
  whole = front ++ (middle ++ back)

  abbrev len : ℕ
  len = min (length c) most

  abbrev before : List ℕ
  before = take len whole

  length-base : length base ≡ length c
  length-base = omega (arith, length-append durable (drop (length durable) c), length-drop (length durable) c)

  length-front : length front ≡ at
  length-front = omega (arith, length-take at c)

  length-middle : length middle ≡ min n (length c - at)
  length-middle = omega (arith, length-take n (drop at base), length-drop at base, length-base)

  length-whole : length whole ≡ length c
  length-whole = omega (arith, length-append front (middle ++ back), length-append middle back, length-front, length-middle, length-drop (at + n) c)

  length-before : length before ≡ len
  length-before = omega (arith, length-take len whole, length-whole)

  torn_after : length c ≤ max most (at + n) → drop (at + n) c ≡ drop (at + n) before
  torn_after bound = elim (cases_lt (at + n) (length c)) [
    | inl more ↦
        let all : before ≡ whole = take_all len whole (omega (arith, length-whole)) in
        let two : length (front ++ middle) ≡ at + n = omega (arith, length-append front middle, length-front, length-middle) in
        sym (ap (drop (at + n)) all ∙ ap (drop (at + n)) (sym (append_assoc front middle back)) ∙ drop_at (front ++ middle) back (at + n) two)
    | inr ended ↦ drop_all (at + n) c ended ∙ sym (drop_all (at + n) before (omega (arith, length-before)))
  ]

  torn_before : at ≤ most → take at c ≡ take at before
  torn_before within = sym (take-take at len whole (omega arith) ∙ take_at front (middle ++ back) at length-front)

  torn : at ≤ most → length c ≤ max most (at + n) → Torn at n before c
  torn within bound = record {
    before = torn_before within;
    after = torn_after bound;
    no_shorter = omega (arith, length-before);
    no_longer = omega (arith, length-before);
  }

  at_front : (i : ℕ) → i < at → i < len → get_or before i 0 ≡ get_or c i 0
  at_front i first within =
      get_or-take len whole i 0 within ∙ get_or_append_left front (middle ++ back) 0 i (omega (arith, length-front)) ∙ get_or-take at c i 0 first

  at_back : (i : ℕ) → at + n ≤ i → i < len → get_or before i 0 ≡ get_or c i 0
  at_back i last within =
      let place : at + n + (i - at - n) ≡ i = omega arith in
      get_or-take len whole i 0 within
      ∙ get_or-append_right front (middle ++ back) at i 0 length-front (omega arith)
      ∙ get_or-append_right middle back n (i - at) 0 (omega (arith, length-middle)) (omega arith)
      ∙ get_or-drop (at + n) c (i - at - n) 0
      ∙ ap (λ (k : ℕ). get_or c k 0) place

  at_middle : (i : ℕ) → at ≤ i → i < at + n → i < len → i < length durable → get_or before i 0 ≡ get_or durable i 0
  at_middle i first last within held =
      let place : at + (i - at) ≡ i = omega arith in
      get_or-take len whole i 0 within
      ∙ get_or-append_right front (middle ++ back) at i 0 length-front (omega arith)
      ∙ get_or_append_left middle back 0 (i - at) (omega (arith, length-middle))
      ∙ get_or-take n (drop at base) (i - at) 0 (omega arith)
      ∙ get_or-drop at base (i - at) 0
      ∙ ap (λ (k : ℕ). get_or base k 0) place
      ∙ get_or_append_left durable (drop (length durable) c) 0 i held

  direct : (ranges : List (ℕ × ℕ)) → most ≡ greatest (length durable) ranges → IsDirectImage durable ((at, n) ∷ ranges) c → IsDirectImage durable ranges before
  direct ranges is image = record {
    no_shorter = omega (arith, length-before, no_less (length durable) ranges);
    no_longer = omega (arith, length-before);
    stays = λ i held outside. let within : i < len = omega (arith, no_less (length durable) ranges) in
        elim (cases_lt i at) [
          | inl first ↦ at_front i first within ∙ image.stays i held (inl first, outside)
          | inr begun ↦ elim (cases_lt i (at + n)) [
            | inl inside ↦ at_middle i begun inside within held
            | inr ended ↦ at_back i ended within ∙ image.stays i held (inr ended, outside)
          ]
        ];
  }

pub each_image : (durable : List ℕ) (ranges : List (ℕ × ℕ)) (c : List ℕ) → BeginWithin (length durable) ranges → IsDirectImage durable ranges c → IsImageOf durable ranges c
each_image durable [] c begin image =
    let same : length c ≡ length durable = omega (arith, image.no_shorter, image.no_longer) in
    ext_get_or 0 c durable same (λ i within. image.stays i (omega arith) tt)
each_image durable (range ∷ ranges) c begin image = elim (cases_lt range.0 (length c)) [
  | inl begins ↦
      let most = greatest (length durable) ranges in (
        before durable c range.0 range.1 most begins image.no_shorter,
        each_image durable ranges (before durable c range.0 range.1 most begins image.no_shorter) begin.1 (direct durable c range.0 range.1 most begins image.no_shorter ranges refl image),
        torn durable c range.0 range.1 most begins image.no_shorter begin.0 image.no_longer,
      )
  | inr past ↦ (
    c,
    each_image durable ranges c begin.1 (record {
      no_shorter = image.no_shorter;
      no_longer = omega (arith, begin.0);
      stays = λ i held outside. image.stays i held (inl (omega (arith, image.no_shorter)), outside);
    }),
    torn_same range.0 range.1 c,
  )
]
