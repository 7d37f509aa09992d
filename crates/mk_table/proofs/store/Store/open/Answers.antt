use Rattle.std.proofs.Common.{◌≡◌, List, length, replicate, arith, ap, sym, subst, ◌∙◌}
use Rattle.std.specs.Prelude.{vec_len, vec_capacity}
use Rattle.std.proofs.lemmas.Bool.{eqb-true}
use Rattle.std.proofs.lemmas.List.{length-replicate, nil_from_length}
use Rattle.mk_table.specs.declared.store.Head.{Head}
use Rattle.mk_table.specs.inner.Store.{IsStore, no_head, head_in, tables_of}
use Rattle.mk_table.proofs.Stored.{no_heads, opened_store, opened_tables}
use Rattle.mk_table.proofs.store.Store.open.Goals as goal

pub returns-then-is_empty-clause-same : goal.returns-then-is_empty-clause-same
returns-then-is_empty-clause-same c =
    let s = c.args.self.now in let scopes = c.args.scopes.now in
    let none : vec_len s.heads ≡ 0 = eqb-true (vec_len s.heads) 0 (sym c.is_empty.ensures ∙ c.if-is_empty.true) in
    let heads : c.put_heads.new.heads.items ≡ replicate (length scopes) no_head = c.put_heads.ensures.heads ∙ ap (λ n. replicate n no_head) c.count.ensures in
    let store = subst (λ (hs : List Head). IsStore scopes hs s.digits.items s.exponents.items (vec_capacity c.put_heads.new.heads) (vec_capacity s.digits) (vec_capacity s.exponents)) (sym heads)
    (subst (λ r. IsStore scopes (replicate (length scopes) no_head) s.digits.items s.exponents.items r (vec_capacity s.digits) (vec_capacity s.exponents)) (sym c.put_heads.ensures.room)
    (opened_store scopes s.heads.items s.digits.items s.exponents.items _ _ _ (omega (arith, none, s.heads.ok.0)) c.requires)) in
    record {
      opened = record { store = store; heads = ap (λ (hs : List Head). length hs) heads ∙ length-replicate (length scopes) no_head };
      tables = ap (λ (hs : List Head). tables_of scopes hs s.digits.items s.exponents.items) heads ∙ opened_tables scopes s.heads.items s.digits.items s.exponents.items (omega (arith, none, s.heads.ok.0));
    }

pub returns-then-is_empty-clause-kept : goal.returns-then-is_empty-clause-kept
returns-then-is_empty-clause-kept c = λ k.
    let s = c.args.self.now in let scopes = c.args.scopes.now in
    let none : vec_len s.heads ≡ 0 = eqb-true (vec_len s.heads) 0 (sym c.is_empty.ensures ∙ c.if-is_empty.true) in
    let heads : c.put_heads.new.heads.items ≡ replicate (length scopes) no_head = c.put_heads.ensures.heads ∙ ap (λ n. replicate n no_head) c.count.ensures in
    ap (λ (hs : List Head). head_in hs k) heads ∙ no_heads (length scopes) k ∙ ap (λ (hs : List Head). head_in hs k) (sym (nil_from_length s.heads.items (omega (arith, none, s.heads.ok.0))))
