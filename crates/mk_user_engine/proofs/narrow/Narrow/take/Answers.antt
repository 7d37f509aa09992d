use Rattle.std.proofs.Common.{◌≡◌, ℕ, ◌<◌, List, [], ◌∷◌, ◌++◌, length, slice_index_or, Some, refl, sym, ap, subst, ◌∙◌, arith}
use Rattle.std.proofs.lemmas.Bool.{both_ways}
use Rattle.std.proofs.lemmas.List.{get_or_default}
use Rattle.mk_net.specs.declared.words.Pair.{Pair}
use Rattle.mk_net.specs.Trades.{trade_ratio}
use Rattle.mk_engine.specs.Meaning.{Meaning, RatioOf, with_factor}
use Rattle.mk_user_engine.specs.declared.group.Group.{Group}
use Rattle.mk_user_engine.specs.declared.narrow.Narrow.{Narrow}
use Rattle.mk_user_engine.specs.declared.narrow.PlacedRatio.{PlacedRatio}
use Rattle.mk_user_engine.specs.Narrow.{ratio_in}
use Rattle.mk_user_engine.specs.GroupedNarrow.{AreGrouped}
use Rattle.mk_user_engine.specs.GroupProducts.{AreListedBy}
use Rattle.mk_user_engine.specs.Kept.{HasGroupLeast, AreKept}
use Rattle.mk_user_engine.specs.NarrowForm.{CanHold, IsHeldIn}
use Rattle.mk_user_engine.proofs.GroupProducts.{append_none}
use Rattle.mk_user_engine.proofs.GroupsBelieved.{listed_each}
use Rattle.mk_user_engine.proofs.Growing.{grouped_push}
use Rattle.mk_user_engine.proofs.Taking.{kept_taken}
use Rattle.mk_user_engine.proofs.narrow.Narrow.take.Goals.{After-push_reserved}
use Rattle.mk_user_engine.proofs.narrow.Narrow.take.Goals as goal

-- the lists with the ratio
more : (n : Narrow) (at place : ℕ) (t : PlacedRatio) (m : Meaning) → CanHold n at (ratio_in t) m
    → t.home ≡ at → IsHeldIn n.groups.list.items place (ratio_in t)
    → length n.trades.items < 128
    → AreGrouped n.groups (n.trades.items ++ t ∷ []) n.known.items n.homes.items (with_factor (RatioOf (ratio_in t)) m)
more n at place t m can here held few =
    grouped_push n.groups n.trades.items n.known.items n.homes.items m t (ratio_in t) refl
    (can.home_is ∙ ap Some (sym here)) can.of_network
    (record { place = place; variable = held.variable; condition = held.condition }) few can.stands.grouped

-- the ratio as it is placed
abbrev placed : After-push_reserved → PlacedRatio
placed c = record { home = c.args.at; ratio = c.copy_of.result }

-- what stands of the lists in each meaning that may have it
module _ (c : After-push_reserved) (m : Meaning)
    (given : CanHold c.args.self.now c.args.at (trade_ratio c.args.ratio.now) m) where
  grouped : AreGrouped c.args.self.now.groups (c.args.self.now.trades.items ++ placed c ∷ [])
      c.args.self.now.known.items c.args.self.now.homes.items
      (with_factor (RatioOf (ratio_in (placed c))) m)
  grouped =
      let n = c.args.self.now in let same = sym c.copy_of.ensures in
      let can = subst (λ q. CanHold n c.args.at q m) same given in
      let held = subst (λ q. IsHeldIn n.groups.list.items c.args.place q) same c.requires.place in
      more n c.args.at c.args.place (placed c) m can refl held c.requires.few

  -- in the words of the ratio that is given
  taken : AreGrouped c.args.self.now.groups c.push_reserved.new.self.items
      c.args.self.now.known.items c.args.self.now.homes.items
      (with_factor (RatioOf (trade_ratio c.args.ratio.now)) m)
  taken =
      let n = c.args.self.now in
      subst (λ (us : List PlacedRatio). AreGrouped n.groups us n.known.items n.homes.items
      (with_factor (RatioOf (trade_ratio c.args.ratio.now)) m))
      (sym c.push_reserved.ensures.items)
      (subst (λ q. AreGrouped n.groups (n.trades.items ++ placed c ∷ []) n.known.items n.homes.items
      (with_factor (RatioOf q) m)) c.copy_of.ensures grouped)

pub least_of-requires-clause-listed : goal.least_of-requires-clause-listed
least_of-requires-clause-listed c =
    let n = c.args.self.now in let s = (goal.at.least_of-requires-clause-listed
    c).After-push_reserved in let r = c.requires.range in
    let listed = listed_each n.groups (n.trades.items ++ placed s ∷ []) n.known.items n.homes.items
    (with_factor (RatioOf (ratio_in (placed s))) r.0) (grouped s r.0 r.1) in
    subst (λ (ts : List PlacedRatio). AreListedBy c.index-group.result.now.names.items ts) (sym (c.deref.ensures.value ∙ c.push_reserved.ensures.items))
    (subst (λ (g : Group). AreListedBy g.names.items (n.trades.items ++ placed s ∷ []))
    (sym c.index-group.ensures)
    (listed c.args.place c.index-group.result.now c.requires.place.within))

pub returns-then-self : goal.returns-then-self
returns-then-self c = λ m given.
    let n = c.args.self.now in let gs = n.groups.list.items in let place = c.args.place in
    let s = (goal.at.returns-then-self c).After-push_reserved in let pushed =
    c.push_reserved.ensures in
    let held = subst (λ q. IsHeldIn gs place q) (sym c.copy_of.ensures) c.requires.place in
    let room = given.stands.room in let l = c.least_of.result in
    let ts = n.trades.items ++ placed s ∷ [] in
    let has : (g : Group) → HasGroupLeast ts n.known.items (slice_index_or gs place g) l = λ g.
    subst (λ (h : Group). HasGroupLeast ts n.known.items h l)
    (c.index-group.ensures ∙ get_or_default gs place c.index-group.result.now g held.within)
    (subst (λ (ks : List Pair). HasGroupLeast ts ks c.index-group.result.now l)
    (append_none c.deref-then-self.result.now ∙ c.deref-then-self.ensures.value)
    (subst (λ (us : List PlacedRatio). HasGroupLeast us (c.deref-then-self.result.now ++ []) c.index-group.result.now l)
    (c.deref.ensures.value ∙ pushed.items) c.least_of.ensures)) in
    record {
      grouped = taken s m given;
      kept = λ e. rw pushed.items (kept_taken gs n.trades.items n.known.items (placed s) place
          held.within (grouped s m given).groups.apart held.variable n.kept.items l
          (given.stands.kept c.if-self.true) has);
      room = record {
        kept = room.kept;
        trades = omega (arith, room.trades, pushed.capacity);
        known = room.known;
        homes = room.homes;
      };
    }

pub returns-else-self : goal.returns-else-self
returns-else-self c = λ m given.
    let n = c.args.self.now in let pushed = c.push_reserved.ensures in let room =
    given.stands.room in
    record {
      grouped = taken (goal.at.returns-else-self c).After-push_reserved m given;
      kept = λ e. absurd {A = AreKept n.groups.list.items c.push_reserved.new.self.items
          n.known.items n.kept.items} (both_ways n.is_kept c.if-self.false e);
      room = record {
        kept = room.kept;
        trades = omega (arith, room.trades, pushed.capacity);
        known = room.known;
        homes = room.homes;
      };
    }
