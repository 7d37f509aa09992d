use Rattle.std.proofs.Common.{arith, ◌≡◌, ◌-◌, suc, subst, sym, ap, ◌∙◌, get_or, rules}
use Rattle.std.specs.Prelude.{if◌then◌else◌}
use Rattle.std.proofs.lemmas.List.{get_or_default}
use Rattle.mk_sets.specs.Sets.{VarSet, is_member, no_variables}
use Rattle.mk_tree.proofs.Begun.{StartFrom, none_started, more_started, all_started, written_over}
use Rattle.mk_tree.proofs.starts.find_starts.Goals as goal

pub loop-place-init : goal.loop-place-init
loop-place-init c =
    none_started c.args.cliques.now c.in_ok-starts.starts.items (search rules)

pub begin_at-requires : goal.begin_at-requires
begin_at-requires c =
    let count = c.loop-place.invariant.one_each in
    record { one_each = omega (arith, c.deref_mut.ensures.len, c.loop-place.starts.ok.0, count) }

pub loop-place-preserved : goal.loop-place-preserved
loop-place-preserved c =
    let last : suc (c.loop-place.place - 1) ≡ c.loop-place.place = omega arith in
    let later : StartFrom c.args.cliques.now (suc (c.loop-place.place - 1))
    c.deref_mut.result.now =
    rw (last, c.deref_mut.ensures.value) c.loop-place.invariant in
    let count = c.loop-place.invariant.one_each in
    let whole = written_over c.loop-place.starts.len c.begin_at.new.starts
    c.loop-place.starts.items
    (omega (arith, c.begin_at.ensures.one_each, count, c.loop-place.starts.ok.0))
    (sym c.loop-place.starts.ok.0) in
    let own : c.index-cliques-place.result ≡ get_or c.args.cliques.now (c.loop-place.place - 1) no_variables =
    c.index-cliques-place.is ∙ get_or_default c.args.cliques.now (c.loop-place.place - 1) c.index-cliques-place.result no_variables (omega arith) in
    rw whole (more_started c.args.cliques.now (c.loop-place.place - 1) no_variables
    c.deref_mut.result.now c.begin_at.new.starts (omega arith) later
    c.begin_at.ensures.one_each (λ x small. c.begin_at.ensures.begun x small
    ∙ ap (λ (set : VarSet). if is_member set x then c.loop-place.place - 1 else get_or c.deref_mut.result.now x 0) own))

pub returns : goal.returns
returns c =
    let all : c.loop-place.place ≡ 0 = omega arith in
    record {
      starts = all_started c.args.cliques.now c.loop-place.starts.items
          (subst (λ n. StartFrom c.args.cliques.now n c.loop-place.starts.items) all
          c.loop-place.invariant);
    }
