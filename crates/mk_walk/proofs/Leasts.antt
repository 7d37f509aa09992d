-- The least gain of a user, state by state.
use Rattle.std.proofs.Common.{◌≡◌, ℕ, ◌+◌, ◌-◌, ◌*◌, ◌^◌, ◌<◌, ◌≤◌, min, Bool, cond, ◌&&◌, eqb, true, false, List, [], ◌∷◌, ◌++◌, Option, Some, None, option_map, Vec, map, filter, length, get_or, take, take_all, refl, sym, ap, ap₂, ◌∙◌, arith}
use Rattle.std.proofs.Math.Path.{fun_ext}
use Rattle.std.specs.declared.alloc.Global.{Global}
use Rattle.std.proofs.lemmas.List.{map_more}
use Rattle.mk_net.specs.declared.words.Pair.{Pair}
use Rattle.mk_net.specs.Network.{Variable}
use Rattle.mk_states.specs.States.{plus_over, product_by}
use Rattle.mk_states.specs.InitialWeight.{all_states}
use Rattle.mk_states.specs.Events.{holds}
use Rattle.mk_states.specs.Ratios.{ratio_at}
use Rattle.mk_exact.specs.History.{Entry, UserTrade}
use Rattle.mk_exact.specs.Weight.{is_possible}
use Rattle.mk_exact.specs.Factors.{lesser, gain, least_gain}
use Rattle.mk_states.proofs.Sums.{IsPlus, plus_over-append, plus_over-filter, plus_over-map}
use Rattle.mk_walk.specs.declared.weight.WalkTrade.{WalkTrade}
use Rattle.mk_walk.specs.Lists.{lists}
use Rattle.mk_walk.specs.Walked.{user_trade, IsHistoryOf, capped, walked_gain, counted_gain}

least_assoc : (a b c : Option ℕ) → lesser (lesser a b) c ≡ lesser a (lesser b c)
least_assoc None b c = refl
least_assoc (Some a) None c = refl
least_assoc (Some a) (Some b) None = refl
least_assoc (Some a) (Some b) (Some c) = let same : min (min a b) c ≡ min a (min b c) = omega arith in ap (λ (n : ℕ). Some n) same

least_comm : (a b : Option ℕ) → lesser a b ≡ lesser b a
least_comm None None = refl
least_comm None (Some b) = refl
least_comm (Some a) None = refl
least_comm (Some a) (Some b) = let same : min a b ≡ min b a = omega arith in ap (λ (n : ℕ). Some n) same

pub leasts_are_plus : IsPlus lesser None
leasts_are_plus = record { assoc = least_assoc; comm = least_comm; neutral = λ a. refl }

right_none : (a : Option ℕ) → lesser a None ≡ a
right_none None = refl
right_none (Some a) = refl

capped_lesser : (a b : Option ℕ) → lesser (option_map capped a) (option_map capped b) ≡ option_map capped (lesser a b)
capped_lesser None b = refl
capped_lesser (Some a) None = refl
capped_lesser (Some a) (Some b) = let same : min (min a (2 ^ 128 - 1)) (min b (2 ^ 128 - 1)) ≡ min (min a b) (2 ^ 128 - 1) = omega arith in ap (λ (n : ℕ). Some n) same

-- one state more
pub more_least : (f : List ℕ → Option ℕ) (xs : List (Vec ℕ Global)) (i : ℕ) (x : Vec ℕ Global) (least g least' : Option ℕ) → i < length xs → x ≡ get_or xs i x
    → least ≡ option_map capped (plus_over lesser None f (lists (take i xs))) → g ≡ option_map capped (f x.items) → least' ≡ lesser least g
    → least' ≡ option_map capped (plus_over lesser None f (lists (take (i + 1) xs)))
more_least f xs i x least g least' h is p q r =
    r ∙ ap₂ lesser p q ∙ capped_lesser (plus_over lesser None f (lists (take i xs))) (f x.items)
    ∙ ap (option_map capped) (sym (ap (plus_over lesser None f) (map_more (λ (v : Vec ℕ Global). v.items) xs i x h ∙ ap (λ (v : Vec ℕ Global). lists (take i xs) ++ v.items ∷ []) (sym is))
    ∙ plus_over-append lesser None leasts_are_plus f (lists (take i xs)) (x.items ∷ []) ∙ ap (lesser (plus_over lesser None f (lists (take i xs)))) (right_none (f x.items))))

filter-map : {X Y : Type 0} (p : Y → Bool) (f : X → Y) (xs : List X) → filter p (map f xs) ≡ map f (filter (λ x. p (f x)) xs)
filter-map p f [] = refl
filter-map p f (x ∷ xs) = rw (filter-map p f xs) (kept (p (f x)))
  where
    kept : (b : Bool) → cond b (f x ∷ map f (filter (λ x. p (f x)) xs)) (map f (filter (λ x. p (f x)) xs)) ≡ map f (cond b (x ∷ filter (λ x. p (f x)) xs) (filter (λ x. p (f x)) xs))
    kept true = refl
    kept false = refl

-- the least gain of a history with these trades and resolutions
least_walked : (network : List Variable) (H : List Entry) (ts : List WalkTrade) (u : ℕ) (known event : List Pair) → IsHistoryOf H ts known
    → least_gain network H u (holds event) ≡ plus_over lesser None (counted_gain ts u known event) (all_states network)
least_walked network H ts u known event is =
    plus_over-filter lesser None leasts_are_plus (λ s. Some (gain H u s)) (λ s. is_possible H s && holds event s) (all_states network)
    ∙ ap (λ (f : List ℕ → Option ℕ). plus_over lesser None f (all_states network)) (fun_ext (λ s. ap₂ (λ (ps : List Pair) (n : ℕ). cond (holds ps s && holds event s) (Some n) None) is.resolutions_are (same_gain s)))
  where
    filter_map_user : (xs : List WalkTrade) → filter (λ (t : UserTrade). eqb t.user u) (map user_trade xs) ≡ map user_trade (filter (λ (t : WalkTrade). eqb t.user u) xs)
    filter_map_user xs = filter-map (λ (t : UserTrade). eqb t.user u) user_trade xs

    same_gain : (s : List ℕ) → gain H u s ≡ walked_gain ts u s
    same_gain s = ap (λ (us : List UserTrade). product_by (λ (t : UserTrade). ratio_at t.ratio s) (filter (λ (t : UserTrade). eqb t.user u) us)) is.trades_are
        ∙ ap (product_by (λ (t : UserTrade). ratio_at t.ratio s)) (filter_map_user ts)
        ∙ plus_over-map ◌*◌ 1 (λ (t : UserTrade). ratio_at t.ratio s) user_trade (filter (λ (t : WalkTrade). eqb t.user u) ts)

pub all_least : (network : List Variable) (ts : List WalkTrade) (u : ℕ) (known event : List Pair) (xs : List (Vec ℕ Global)) (i : ℕ) (least : Option ℕ) → lists xs ≡ all_states network → length xs ≤ i
    → least ≡ option_map capped (plus_over lesser None (counted_gain ts u known event) (lists (take i xs)))
    → (H : List Entry) → IsHistoryOf H ts known → least ≡ option_map capped (least_gain network H u (holds event))
all_least network ts u known event xs i least e h p H is = p
    ∙ ap (λ (vs : List (Vec ℕ Global)). option_map capped (plus_over lesser None (counted_gain ts u known event) (lists vs))) (take_all i xs h)
    ∙ ap (λ (ls : List (List ℕ)). option_map capped (plus_over lesser None (counted_gain ts u known event) ls)) e
    ∙ ap (option_map capped) (sym (least_walked network H ts u known event is))
