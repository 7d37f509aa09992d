use Rattle.std.proofs.Common.{◌≡◌, ◌||◌, ◌==◌, ◌++◌, ◌∷◌, [], List, length, sym, ap, subst, ◌∙◌}
use Rattle.std.proofs.Common.{arith, length-append}
use Rattle.std.proofs.lemmas.List.Elements.{All-push}
use Rattle.mk_user_engine.specs.declared.group.Group.{Group}
use Rattle.mk_user_engine.specs.Grouped.{IsGroup, IsNamedAt}
use Rattle.mk_user_engine.proofs.Beginning.{named_push, apart_more}
use Rattle.mk_user_engine.proofs.groups.Groups.begin.Goals as goal

pub name-requires : goal.name-requires
name-requires c =
    let h = c.requires.groups in let made = c.none-group.ensures in (h.0, made.group h.0, h.2)

pub returns-clause-named : goal.returns-clause-named
returns-clause-named c = λ _.
    let gs = c.args.self.now.list.items in
    let empty = c.none-group.ensures in let made = c.name.ensures in
    let pushed = c.push_reserved.ensures in
    subst (λ (hs : List Group). IsNamedAt gs hs (length gs) c.args.variable) (sym pushed.items)
    (named_push gs c.args.variable c.name.new.self (λ x. made.named c.if-not-name.false x
    ∙ ap (λ b. b || c.args.variable == x) (empty.named x)))

pub returns-clause-grown : goal.returns-clause-grown
returns-clause-grown c = λ sizes is size.
    let gs = c.args.self.now.list.items in let new = c.name.new.self in
    let empty = c.none-group.ensures in let made = c.name.ensures in
    let pushed = c.push_reserved.ensures in
    let e : c.push_reserved.new.self.items ≡ gs ++ new ∷ [] = pushed.items in
    let named : IsNamedAt gs (gs ++ new ∷ []) (length gs) c.args.variable =
    named_push gs c.args.variable new (λ x. made.named c.if-not-name.false x
    ∙ ap (λ b. b || c.args.variable == x) (empty.named x)) in record {
      each = rw e (All-push (IsGroup sizes) gs new is.each
          (made.grown sizes (empty.group sizes) size));
      apart = rw e (apart_more gs (gs ++ new ∷ []) (length gs) c.args.variable named
          c.requires.free is.apart);
      room = omega (arith, is.room, pushed.capacity);
      few = rw e (omega (
        arith,
        length-append gs (new ∷ []),
        c.if-len-ge-MAX_GROUPS.false,
        c.len.ensures,
        c.args.self.now.list.ok,
      ));
    }
