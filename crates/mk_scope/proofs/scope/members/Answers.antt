use Rattle.std.proofs.Common.{◌≡◌, ◌<◌, Bool, ◌∷◌, [], ◌++◌, List, ℕ, length, ap, sym, ◌∙◌, arith, append_assoc}
use Rattle.std.proofs.lemmas.List.{length-map, append-nil}
use Rattle.mk_sets.specs.Sets.{is_member}
use Rattle.mk_net.specs.Network.{Variable, sizes}
use Rattle.mk_sums.specs.Cells.{keep}
use Rattle.mk_sums.specs.Joint.{variables}
use Rattle.mk_scope.proofs.Members.{IsFirstOf, first_taken, first_kept, first_within, none_kept}
use Rattle.mk_scope.proofs.scope.members.Goals as goal

-- the first variable that is left, and those behind it
taken : (network : List Variable) (left rest : ℕ → Bool) (x : ℕ) → IsFirstOf left x rest → x < length network → keep left (variables (sizes network)) ≡ x ∷ keep rest (variables (sizes network))
taken network left rest x first within =
    let as_many : length (sizes network) ≡ length network = length-map network (λ (v : Variable). length v.values) in
    first_kept left rest 0 (length (sizes network)) x (omega arith) (omega (arith, as_many, within)) first

pub loop-variable-smaller : goal.loop-variable-smaller
loop-variable-smaller c =
    let x = c.in-Some.variable in
    let first = first_taken (is_member c.empty.result) (is_member c.with.result) (is_member c.loop-variable.left) (is_member c.without-left.result) x
    c.in-Some.ensures.member c.in-Some.ensures.least c.empty.ensures.members c.with.ensures.members c.without-left.ensures in
    let more = ap length (taken c.args.net.now _ _ x first (c.loop-variable.invariant.inside x c.in-Some.ensures.member)) in
    omega (arith, more)

pub loop-variable-preserved : goal.loop-variable-preserved
loop-variable-preserved c =
    let x = c.in-Some.variable in let before = c.loop-variable.members.items in
    let first = first_taken (is_member c.empty.result) (is_member c.with.result) (is_member c.loop-variable.left) (is_member c.without-left.result) x
    c.in-Some.ensures.member c.in-Some.ensures.least c.empty.ensures.members c.with.ensures.members c.without-left.ensures in
    let after = keep (is_member c.without-left.result) (variables (sizes c.args.net.now)) in
    record {
      all = ap (λ (ys : List ℕ). ys ++ after) c.in_ok-push.ensures.items ∙ append_assoc before (x ∷ []) after
          ∙ ap (λ (ys : List ℕ). before ++ ys) (sym (taken c.args.net.now _ _ x first (c.loop-variable.invariant.inside x c.in-Some.ensures.member))) ∙ c.loop-variable.invariant.all;
      inside = λ y member. c.loop-variable.invariant.inside y (first_within _ _ x first y member);
    }

pub returns : goal.returns
returns c =
    let before = c.loop-variable.members.items in
    sym (append-nil before) ∙ ap (λ (ys : List ℕ). before ++ ys) (sym (none_kept (is_member c.loop-variable.left) 0 (length (sizes c.args.net.now)) c.in_default.ensures.none)) ∙ c.loop-variable.invariant.all
