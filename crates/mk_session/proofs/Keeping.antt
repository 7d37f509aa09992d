-- How the changes of a run add up, line by line, and what is told of them.
use Rattle.std.proofs.Common.{◌≡◌, ℕ, zero, suc, ◌+◌, ◌-◌, ◌<◌, ◌≤◌, List, [], ◌∷◌, ◌++◌}
use Rattle.std.proofs.Common.{length, take, Option, Result, Ok, Err}
use Rattle.std.proofs.Common.{OnOk, MatchResult}
use Rattle.std.proofs.Common.{◌⊎◌, inl, inr, refl, sym, ap, subst, ◌∙◌, arith, append_assoc}
use Rattle.std.proofs.Common.{length-append}
use Rattle.std.specs.List.{flat_map}
use Rattle.std.proofs.lemmas.Bool.{cases_lt}
use Rattle.std.proofs.lemmas.List.{append-nil, take-append-le, length-take-le}
use Rattle.std.proofs.lemmas.List.Concat.{flat_map-cons}
use Rattle.std.proofs.lemmas.Grind.{flat_map-append}
use Rattle.std.proofs.Math.Seq.{take-append-add}
use Rattle.mk_exact.specs.Market.{Market, present}
use Rattle.mk_reply.specs.declared.reply.Reply.{Reply}
use Rattle.mk_reply.specs.Replies.{reply_text}
use Rattle.mk_rules.specs.Transcript.{Standing, Line}
use Rattle.mk_rules.specs.Transcript.{after, Run}
use Rattle.mk_restore.specs.Restoring.{Changes, change_of, changes_of}
use Rattle.mk_session.specs.declared.waiting.TellFault.{TellFault}
use Rattle.mk_session.specs.declared.waiting.TellFault.TheVariants.{Disk, Sink}
use Rattle.mk_session.specs.Texts.{reply_line}
use Rattle.mk_session.specs.Outcome.{IsFrontOf}
use Rattle.mk_session.specs.Transcript.{Start}
use Rattle.mk_session.specs.Left.{changes_from, AreTold, LeavesSince}
use Rattle.mk_session.specs.inner.Keeping.{HoldsSince, Tells}
use Rattle.mk_journal.specs.Keepers.{Holds}
use Rattle.mk_session.proofs.Spoken.{still}

-- as many lines are asked as get replies
pub same_number : (market : Market) (old new : Standing) (asked : List Line) (replies : List Reply)
    → Run market old asked replies new → length asked ≡ length replies
same_number market old new [] [] run = refl
same_number market old new [] (r ∷ rs) run = absurd run
same_number market old new (x ∷ xs) [] run = absurd run
same_number market old new (x ∷ xs) (r ∷ rs) run =
    ap suc (same_number market (after (present market old.history) old x r) new xs rs run.1)

-- the changes of lines behind others
pub changes_behind : (market : Market) (old mid : Standing) (xs ys : List Line) (rs ss : List Reply)
    → Run market old xs rs mid
    → changes_of market old (xs ++ ys) (rs ++ ss)
    ≡ changes_of market old xs rs ++ changes_of market mid ys ss
changes_behind market old mid [] ys [] ss run =
    ap (λ (s : Standing). changes_of market s ys ss) (sym run)
changes_behind market old mid [] ys (r ∷ rs) ss run = absurd run
changes_behind market old mid (x ∷ xs) ys [] ss run = absurd run
changes_behind market old mid (x ∷ xs) ys (r ∷ rs) ss run =
    let here : Market = present market old.history in
    let first : Changes = change_of here old.history x r in
    let next : Standing = after here old x r in
    ap (λ (cs : Changes). first ++ cs) (changes_behind market next mid xs ys rs ss run.1)
    ∙ sym (append_assoc first (changes_of market next xs rs) (changes_of market mid ys ss))

no_lines : (market : Market) (now : Standing) (xs : List Line) → changes_of market now xs [] ≡ []
no_lines market now [] = refl
no_lines market now (x ∷ xs) = refl

-- lines that got no reply make no change
unanswered_lines : (market : Market) (now : Standing) (xs ys : List Line) (rs : List Reply)
    → length rs ≤ length xs → changes_of market now (xs ++ ys) rs ≡ changes_of market now xs rs
unanswered_lines market now [] ys [] few = no_lines market now ys
unanswered_lines market now [] ys (r ∷ rs) few = absurd (omega arith)
unanswered_lines market now (x ∷ xs) ys [] few = refl
unanswered_lines market now (x ∷ xs) ys (r ∷ rs) few =
    let here : Market = present market now.history in
    ap (λ (cs : Changes). change_of here now.history x r ++ cs)
    (unanswered_lines market (after here now x r) xs ys rs (omega arith))

-- the first replies have no more changes than all
fewer_changes : (market : Market) (now : Standing) (xs : List Line) (n : ℕ) (rs : List Reply)
    → length (changes_of market now xs (take n rs)) ≤ length (changes_of market now xs rs)
fewer_changes market now xs zero rs = omega (
  arith,
  ap (λ (cs : Changes). length cs)
      (no_lines market now xs),
)
fewer_changes market now xs (suc n) [] = omega arith
fewer_changes market now [] (suc n) (r ∷ rs) = omega arith
fewer_changes market now (x ∷ xs) (suc n) (r ∷ rs) =
    let here : Market = present market now.history in
    let first : Changes = change_of here now.history x r in
    let next : Standing = after here now x r in
    omega (
      arith,
      fewer_changes market next xs n rs,
      length-append first (changes_of market next xs (take n rs)),
      length-append first (changes_of market next xs rs),
    )

-- each reply has a line
some_bytes : (k : ℕ) (rs : List Reply) → 1 ≤ k → k ≤ length rs
    → 1 ≤ length (flat_map reply_line (take k rs))
some_bytes zero rs some few = absurd (omega arith)
some_bytes (suc k) [] some few = absurd (omega arith)
some_bytes (suc k) (r ∷ rs) some few =
    omega (
      arith,
      ap (λ (bytes : List ℕ). length bytes) (flat_map-cons reply_line r (take k rs)),
      length-append (reply_line r) (flat_map reply_line (take k rs)),
      length-append (reply_text r) (10 ∷ []),
    )

-- lines more are answered, whose replies are not written
pub told_more : (start : Start) (asked more : List Line) (replies others : List Reply)
    (bytes waits : List ℕ) (first least : ℕ) → length asked ≡ length replies
    → bytes ++ waits ≡ start.head ++ flat_map reply_line replies
    → AreTold start asked replies (λ text. length text ≤ length bytes) first least
    → AreTold start (asked ++ more) (replies ++ others) (λ text. length text ≤ length bytes)
    first least
told_more start asked more replies others bytes waits first least number printed told n few
    whole = at (cases_lt (length replies) n)
  where
    at : ((length replies < n) ⊎ (n ≤ length replies))
        → first + length (changes_from start (asked ++ more) (take n (replies ++ others)))
        ≤ least
    at (inr within) =
        let same : take n (replies ++ others) ≡ take n replies =
        take-append-le n replies others within in
        let size : length (take n replies) ≡ n = length-take-le n replies within in
        let fewer : length (take n replies) ≤ length asked = omega arith in
        let text : length (start.head ++ flat_map reply_line (take n replies))
        ≤ length bytes = subst (λ (rs : List Reply).
        length (start.head ++ flat_map reply_line rs) ≤ length bytes) same whole in
        subst (λ (rs : List Reply).
        first + length (changes_from start (asked ++ more) rs) ≤ least) (sym same)
        (subst (λ (cs : Changes). first + length cs ≤ least)
        (sym (unanswered_lines start.market start.standing asked more (take n replies) fewer))
        (told n within text))
    at (inl beyond) =
        let k : ℕ = n - length replies in
        let sum : n ≡ length replies + k = omega arith in
        let parts : take n (replies ++ others) ≡ replies ++ take k others =
        ap (λ (m : ℕ). take m (replies ++ others)) sum
        ∙ take-append-add replies others k in
        let some : 1 ≤ k = omega arith in
        let enough : k ≤ length others = omega (arith, length-append replies others) in
        absurd (omega (
          arith,
          whole,
          ap (λ (rs : List Reply). length (start.head ++ flat_map reply_line rs)) parts,
          length-append start.head (flat_map reply_line (replies ++ take k others)),
          ap (λ (text : List ℕ). length text) (flat_map-append reply_line replies (take k others)),
          length-append (flat_map reply_line replies) (flat_map reply_line (take k others)),
          some_bytes k others some enough,
          ap (λ (text : List ℕ). length text) printed,
          length-append start.head (flat_map reply_line replies),
          length-append bytes waits,
        ))

-- where all changes count, so do those of the first replies
pub all_told : (start : Start) (asked : List Line) (replies : List Reply)
    (stands : List ℕ → Type 0) (first least : ℕ)
    → first + length (changes_from start asked replies) ≤ least
    → AreTold start asked replies stands first least
all_told start asked replies stands first least enough n few whole =
    omega (arith, enough, fewer_changes start.market start.standing asked n replies)

-- what stands whole in the output is no longer than it
pub told_in_front : (start : Start) (asked : List Line) (replies : List Reply) (bytes : List ℕ)
    (first least : ℕ)
    → AreTold start asked replies (λ text. length text ≤ length bytes) first least
    → AreTold start asked replies (IsFrontOf bytes) first least
told_in_front start asked replies bytes first least told n few front =
    told n few (omega (
      arith,
      ap (λ (text : List ℕ). length text) front.parts,
      length-append (start.head ++ flat_map reply_line (take n replies)) front.rest,
    ))

-- where telling fails, it does not matter what waits
pub fails_alike : (T U : Type 0) (fault : TellFault) (before after : Option (List ℕ))
    (waited more others waits left : List ℕ) (least most : ℕ) (holds held leaves : ℕ → Type 0)
    → Tells {T = T} (Err fault) before after waited more waits least most holds leaves
    → Tells {T = U} (Err fault) before after waited others left least most held leaves
fails_alike T U Disk before now waited more others waits left least most holds held leaves tells =
    tells
fails_alike T U Sink before now waited more others waits left least most holds held leaves tells =
    tells

-- what passed so far, and at a call of the keeper, passes of more records
pub passes_on : (past step passes : List (List ℕ) → ℕ → Type 0)
    → ((all : List (List ℕ)) (least : ℕ) → past all least → step all least → passes all least)
    → ((all more : List (List ℕ)) (least fewer : ℕ) → fewer ≤ least → past all least
    → past (all ++ more) fewer)
    → ((all more : List (List ℕ)) (least fewer : ℕ) → fewer ≤ least → step all least
    → step (all ++ more) fewer)
    → (holds : List (List ℕ) → List (List ℕ) → Type 0) (first least : ℕ)
    (all more : List (List ℕ)) → (since : HoldsSince holds past first least all)
    → step (since.held.kept ++ since.held.waiting) (length since.held.kept)
    → passes (all ++ more) first
passes_on past step passes then fewer_past fewer_step holds first least all more since moved =
    let held = since.held in
    then (all ++ more) first (fewer_past all more first first (omega arith) since.passed)
    (still step fewer_step held.kept held.waiting all (all ++ more) more first held.parts
    (omega (arith, since.no_fewer, held.no_fewer)) refl moved)

-- a change was taken, or a crash leaves it or not
pub taken_or_left : {T E : Type 0} (said : Result T E)
    (holds holds' : List (List ℕ) → List (List ℕ) → Type 0)
    (past passes leaves : List (List ℕ) → ℕ → Type 0) (first least : ℕ) (all : List (List ℕ))
    (change taken : List ℕ) → change ≡ taken
    → ((all more : List (List ℕ)) (least fewer : ℕ) → fewer ≤ least → leaves all least
    → leaves (all ++ more) fewer)
    → (since : HoldsSince holds past first least all)
    → OnOk said (Holds holds' (length since.held.kept)
    (since.held.kept ++ (since.held.waiting ++ change ∷ [])))
    → leaves (since.held.kept ++ since.held.waiting) (length since.held.kept)
    → passes (all ++ change ∷ []) first
    → MatchResult said (λ _. HoldsSince holds' passes first least (all ++ taken ∷ []))
    (λ _. LeavesSince leaves passes first (all ++ taken ∷ []) least)
taken_or_left (Ok v) holds holds' past passes leaves first least all change taken same fewer since
    next left passed =
    let held = since.held in
    subst (λ (r : List ℕ). HoldsSince holds' passes first least (all ++ r ∷ [])) same (record {
      held = record {
        kept = next.kept;
        waiting = next.waiting;
        no_fewer = omega (arith, held.no_fewer, next.no_fewer);
        parts = ap (λ (l : List (List ℕ)). l ++ change ∷ []) held.parts
            ∙ append_assoc held.kept held.waiting (change ∷ []) ∙ next.parts;
        held = next.held;
      };
      no_fewer = since.no_fewer;
      passed = passed;
    })
taken_or_left (Err e) holds holds' past passes leaves first least all change taken same fewer since
    next left passed =
    let held = since.held in
    subst (λ (r : List ℕ). LeavesSince leaves passes first (all ++ r ∷ []) least) same (record {
      now = still leaves fewer held.kept held.waiting all (all ++ change ∷ []) (change ∷ []) least
          held.parts held.no_fewer refl left;
      any_moment = passed;
    })

-- all that were held are kept
pub kept_since : (holds holds' : List (List ℕ) → List (List ℕ) → Type 0)
    (past passes : List (List ℕ) → ℕ → Type 0) (first least : ℕ) (all : List (List ℕ))
    → (since : HoldsSince holds past first least all)
    → holds' (since.held.kept ++ since.held.waiting) [] → passes (all ++ []) first
    → HoldsSince holds' passes first (length all) all
kept_since holds holds' past passes first least all since kept passed =
    let held = since.held in
    record {
      held = record {
        kept = held.kept ++ held.waiting;
        waiting = [];
        no_fewer = omega (arith, ap (λ (l : List (List ℕ)). length l) held.parts);
        parts = held.parts ∙ sym (append-nil (held.kept ++ held.waiting));
        held = kept;
      };
      no_fewer = omega (
        arith,
        since.no_fewer,
        held.no_fewer,
        ap (λ (l : List (List ℕ)). length l) held.parts,
        length-append held.kept held.waiting,
      );
      passed = subst (λ (l : List (List ℕ)). passes l first) (append-nil all) passed;
    }

-- none more is kept, and a crash leaves what it left
pub left_since : (holds : List (List ℕ) → List (List ℕ) → Type 0)
    (past passes leaves : List (List ℕ) → ℕ → Type 0) (first least : ℕ) (all : List (List ℕ))
    → ((all more : List (List ℕ)) (least fewer : ℕ) → fewer ≤ least → leaves all least
    → leaves (all ++ more) fewer)
    → (since : HoldsSince holds past first least all)
    → leaves (since.held.kept ++ since.held.waiting) (length since.held.kept)
    → passes (all ++ []) first
    → LeavesSince leaves passes first all least
left_since holds past passes leaves first least all fewer since left passed =
    let held = since.held in
    record {
      now = still leaves fewer held.kept held.waiting all all [] least held.parts held.no_fewer
          (sym (append-nil all)) left;
      any_moment = subst (λ (l : List (List ℕ)). passes l first) (append-nil all) passed;
    }
