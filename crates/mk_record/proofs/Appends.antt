-- One entry comes to a list: what is found and counted in it then.
use Rattle.std.specs.Prelude.{◌≡◌, ◌+◌, List, [], ◌∷◌, ◌++◌, Bool, true, false, cond, ◌||◌, Option, Some, None, is_some, length}
use Rattle.std.specs.List.{filter_map, list_any, count_by}
use Rattle.std.proofs.Common.{refl, sym, ap, ◌∙◌, arith, append-nil, add-zero}
use Rattle.std.proofs.Math.Bool.{or-true}
use Rattle.std.proofs.lemmas.List.{length_push}
use Rattle.std.proofs.lemmas.List.Elements.{filter_map-append}
use Rattle.std.proofs.lemmas.List.Folds.{list_any-append}
use Rattle.std.proofs.lemmas.List.Sums.{sum_by-append}

module _ {X : Type 0} (xs : List X) (x : X) where
  pub not_found : {Y : Type 0} (f : X → Option Y) → f x ≡ None → filter_map f (xs ++ x ∷ []) ≡ filter_map f xs
  not_found f e = filter_map-append f xs (x ∷ []) ∙ rw e (append-nil (filter_map f xs))

  pub none_more : {Y : Type 0} (f : X → Option Y) → f x ≡ None
      → length (filter_map f (xs ++ x ∷ [])) ≡ length (filter_map f xs)
  none_more f e = ap length (not_found f e)

  pub found : {Y : Type 0} (f : X → Option Y) (y : Y) → f x ≡ Some y → filter_map f (xs ++ x ∷ []) ≡ filter_map f xs ++ y ∷ []
  found f y e = filter_map-append f xs (x ∷ []) ∙ rw e refl

  pub one_more : {Y : Type 0} (f : X → Option Y) (y : Y) → f x ≡ Some y → length (filter_map f (xs ++ x ∷ [])) ≡ length (filter_map f xs) + 1
  one_more f y e = rw (found f y e) (length_push (filter_map f xs) y)

  pub not_counted : (p : X → Bool) → p x ≡ false → count_by p (xs ++ x ∷ []) ≡ count_by p xs
  not_counted p e = sum_by-append (λ (y : X). cond (p y) 1 0) xs (x ∷ []) ∙ rw e (add-zero (count_by p xs))

  -- one more where the entry is of the kind that is counted
  pub length_more : {Y : Type 0} (f : X → Option Y) → cond (is_some (f x)) (length (filter_map f xs) + 1) (length (filter_map f xs)) ≡ length (filter_map f (xs ++ x ∷ []))
  length_more {Y = Y} f = choose (f x) refl
    where
      choose : (o : Option Y) → f x ≡ o → cond (is_some o) (length (filter_map f xs) + 1) (length (filter_map f xs)) ≡ length (filter_map f (xs ++ x ∷ []))
      choose None e = sym (none_more f e)
      choose (Some y) e = sym (one_more f y e)

  pub counted : (p : X → Bool) → p x ≡ true → count_by p (xs ++ x ∷ []) ≡ count_by p xs + 1
  counted p e = sum_by-append (λ (y : X). cond (p y) 1 0) xs (x ∷ []) ∙ rw e refl

  pub count_more : (p : X → Bool) → cond (p x) (count_by p xs + 1) (count_by p xs) ≡ count_by p (xs ++ x ∷ [])
  count_more p = choose (p x) refl
    where
      choose : (t : Bool) → p x ≡ t → cond t (count_by p xs + 1) (count_by p xs) ≡ count_by p (xs ++ x ∷ [])
      choose true e = sym (counted p e)
      choose false e = sym (not_counted p e)

  pub not_there : (p : X → Bool) → p x ≡ false → list_any p (xs ++ x ∷ []) ≡ list_any p xs
  not_there p e = grind (arith, list_any-append p xs (x ∷ []), e)

  pub there : (p : X → Bool) → p x ≡ true → list_any p (xs ++ x ∷ []) ≡ true
  there p e = list_any-append p xs (x ∷ []) ∙ rw e (or-true (list_any p xs))

  pub any_more : (p : X → Bool) → p x || list_any p xs ≡ list_any p (xs ++ x ∷ [])
  any_more p = choose (p x) refl
    where
      choose : (t : Bool) → p x ≡ t → t || list_any p xs ≡ list_any p (xs ++ x ∷ [])
      choose true e = sym (there p e)
      choose false e = sym (not_there p e)
