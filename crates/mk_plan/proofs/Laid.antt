-- Where a separator lies in the cliques at its ends, as a shape hands it out.
use Rattle.std.proofs.Common.{◌≡◌, ℕ, ◌-◌, ◌<◌, ◌≤◌, inl, inr, true, false, List, [], length, get_or, max, sym, ap, ◌∙◌, arith}
use Rattle.mk_sums.proofs.Hops.{IsChild, AreLinked, are_linked}
use Rattle.mk_scope.specs.Scopes.{ScopeOf, PlacesOf}
use Rattle.mk_tree.specs.Given.{link_of}
use Rattle.mk_plan.specs.Shapes.{ShapeOf, IsClique, are_linked as is_linked, clique_scope, core_scope, separator_scope, separator_between}
use Rattle.mk_plan.specs.inner.Shaped.{IsShaped, shape_of}
use Rattle.mk_plan.proofs.Shaped.{places_long, places_read, core_places_long, core_places_read}

module _ (shape : ShapeOf) (scopes : List ScopeOf) (in_cliques in_links in_whole in_itself : List PlacesOf) (lists next : List (List ℕ)) (starts : List ℕ) (h : IsShaped shape scopes in_cliques in_links in_whole in_itself lists next starts) (a b : ℕ) (linked_too : is_linked shape.tree a b ≡ true) where
  -- the end that is linked to the other
  child_up : b < a → AreLinked (link_of shape.tree) (length shape.tree.cliques) a b → IsChild (link_of shape.tree) (length shape.tree.cliques) a b
  child_up l (inl c) = c
  child_up l (inr c) = let k = h.linked.earlier b c.later c.within in absurd (omega (arith, l, k.1, c.link_is))

  child_down : a ≤ b → AreLinked (link_of shape.tree) (length shape.tree.cliques) a b → IsChild (link_of shape.tree) (length shape.tree.cliques) b a
  child_down l (inl c) = let k = h.linked.earlier a c.later c.within in absurd (omega (arith, l, k.1, c.link_is))
  child_down l (inr c) = c

  up : b < a → IsChild (link_of shape.tree) (length shape.tree.cliques) a b
  up l = child_up l (are_linked (link_of shape.tree) (length shape.tree.cliques) a b linked_too)

  down : a ≤ b → IsChild (link_of shape.tree) (length shape.tree.cliques) b a
  down l = child_down l (are_linked (link_of shape.tree) (length shape.tree.cliques) a b linked_too)

  pub later_up : b < a → 1 < a
  later_up l = (up l).later

  pub later_down : a ≤ b → 1 < b
  later_down l = (down l).later

  pub within_clique : b < a → a - 2 < length in_cliques
  within_clique l = let c = up l in let n = places_long shape false (length shape.tree.cliques - 1) in_cliques h.in_cliques_are in omega (arith, c.later, c.within, n)

  pub within_link : a ≤ b → b - 2 < length in_links
  within_link l = let c = down l in let n = places_long shape true (length shape.tree.cliques - 1) in_links h.in_links_are in omega (arith, c.later, c.within, n)

  pub read_in_clique : b < a → (places : PlacesOf) → places ≡ get_or in_cliques (a - 2) places → places ≡ record { whole = core_scope shape a; part = separator_between shape a b }
  read_in_clique l places e =
      let c = up l in let m : max a b ≡ a = omega arith in
      places_read shape false (length shape.tree.cliques - 1) in_cliques h.in_cliques_are a c.later (omega (arith, c.later, c.within)) places e
      ∙ ap (λ k. record { whole = core_scope shape a; part = separator_scope shape k }) (sym m)

  pub read_in_link : a ≤ b → (places : PlacesOf) → places ≡ get_or in_links (b - 2) places → places ≡ record { whole = core_scope shape a; part = separator_between shape a b }
  read_in_link l places e =
      let c = down l in let m : max a b ≡ b = omega arith in
      places_read shape true (length shape.tree.cliques - 1) in_links h.in_links_are b c.later (omega (arith, c.later, c.within)) places e
      ∙ ap (λ k. record { whole = core_scope shape k; part = separator_scope shape b }) c.link_is
      ∙ ap (λ k. record { whole = core_scope shape a; part = separator_scope shape k }) (sym m)

-- where a core lies in its clique
module _ (shape : ShapeOf) (scopes : List ScopeOf) (in_cliques in_links in_whole in_itself : List PlacesOf) (lists next : List (List ℕ)) (starts : List ℕ) (h : IsShaped shape scopes in_cliques in_links in_whole in_itself lists next starts) (k : ℕ) (clique : IsClique shape.tree k) where
  pub within_whole : k - 1 < length in_whole
  within_whole = let n = core_places_long shape (length shape.tree.cliques) in_whole h.in_whole_are in omega (arith, n, clique.first, clique.last)

  pub read_in_whole : (places : PlacesOf) → places ≡ get_or in_whole (k - 1) places → places ≡ record { whole = clique_scope shape k; part = core_scope shape k }
  read_in_whole places e = core_places_read shape (length shape.tree.cliques) in_whole h.in_whole_are k clique.first (omega (arith, clique.first, clique.last)) places e

  -- and in itself
  pub within_itself : k - 1 < length in_itself
  within_itself = let n = core_places_long (shape_of shape.tree shape.cores shape.cores []) (length shape.tree.cliques) in_itself h.in_itself_are in omega (arith, n, clique.first, clique.last)

  pub read_in_itself : (places : PlacesOf) → places ≡ get_or in_itself (k - 1) places → places ≡ record { whole = core_scope shape k; part = core_scope shape k }
  read_in_itself places e =
      core_places_read (shape_of shape.tree shape.cores shape.cores []) (length shape.tree.cliques) in_itself h.in_itself_are k clique.first (omega (arith, clique.first, clique.last)) places e
