-- A transcript that is wrong at some line is none that the market allows.
use Rattle.std.proofs.Common.{◌≡◌, ℕ, List, [], ◌∷◌, ◌++◌, filter, true, refl, sym, ap, subst, ◌∙◌}
use Rattle.std.proofs.Common.{append_assoc}
use Rattle.std.specs.List.{AllZip, flat_map}
use Rattle.std.proofs.lemmas.List.{append_cancel_left}
use Rattle.std.proofs.lemmas.List.Elements.{filter-append}
use Rattle.mk_io.specs.Stream.{StreamLine, is_not_blank}
use Rattle.mk_exact.specs.Market.{Market, present}
use Rattle.mk_reply.specs.declared.reply.Reply.{Reply}
use Rattle.mk_rules.specs.Standings.{IsMarket}
use Rattle.mk_rules.specs.Transcript.{Standing, opening, Line, IsAllowedFor, after, Run}
use Rattle.mk_session.specs.Texts.{ready_line, reply_line}
use Rattle.mk_session.specs.Transcript.{Asks, from_opening, Transcript}
use Rattle.mk_session.specs.Begins.{CanBegin}
use Rattle.mk_session.specs.Outcome.{IsFrontOf}
use Rattle.mk_session.proofs.Answering.{no_more, opening_begins}
use Rattle.mk_audit.specs.Verdicts.{IsRightFront, IsWrongNext, IsTooLong, IsWrongAt}
use Rattle.mk_audit.specs.Verdicts.{Unready, Disallowed, Longer}
use Rattle.mk_audit.specs.Laws.{WrongIsNone}
use Rattle.mk_audit.proofs.OneRun.{asks_one, first_and, one_first, one_run, behind_ready}

-- the reply of a longer run to the line behind those of a shorter one
record IsNextReply (market : Market) (now : Standing) (asked : Line) (behind : List ℕ) : Type
    0 where
  pub reply : Reply
  pub allowed : IsAllowedFor (present market now.history) now asked reply
  pub stands : IsFrontOf behind (reply_line reply)

next_reply : (market : Market) (old now last : Standing) → CanBegin market old
    → (ls ms : List StreamLine) (line : StreamLine) (asked : Line) (xs ys : List Line)
    (rs ss : List Reply) (u v : List ℕ) → AllZip Asks ls xs → AllZip Asks (ls ++ line ∷ ms) ys
    → Asks line asked → Run market old xs rs now → Run market old ys ss last
    → flat_map reply_line rs ++ u ≡ flat_map reply_line ss ++ v → IsNextReply market now asked u
next_reply market old now last begins [] ms line asked [] [] [] ss u v a b asks run other e =
    absurd b
next_reply market old now last begins [] ms line asked [] (y ∷ ys) [] [] u v a b asks run other e =
    absurd other
next_reply market old now last begins [] ms line asked [] (y ∷ ys) [] (s ∷ ss) u v a b asks run
    other e = record {
      reply = s;
      allowed = subst (λ (n : Standing). IsAllowedFor (present market n.history) n asked s)
          (sym run) (subst (λ (q : Line). IsAllowedFor (present market old.history) old q s)
          (asks_one line y asked b.0 asks) other.0);
      stands = record { rest = flat_map reply_line ss ++ v; parts = e ∙ first_and s ss v };
    }
next_reply market old now last begins [] ms line asked [] ys (r ∷ rs) ss u v a b asks run other e =
    absurd run
next_reply market old now last begins [] ms line asked (x ∷ xs) ys rs ss u v a b asks run other e =
    absurd a
next_reply market old now last begins (l ∷ ls) ms line asked [] ys rs ss u v a b asks run other e =
    absurd a
next_reply market old now last begins (l ∷ ls) ms line asked (x ∷ xs) [] rs ss u v a b asks run
    other e = absurd b
next_reply market old now last begins (l ∷ ls) ms line asked (x ∷ xs) (y ∷ ys) [] ss u v a b asks
    run other e = absurd run
next_reply market old now last begins (l ∷ ls) ms line asked (x ∷ xs) (y ∷ ys) (r ∷ rs) [] u v a b
    asks run other e = absurd other
next_reply market old now last begins (l ∷ ls) ms line asked (x ∷ xs) (y ∷ ys) (r ∷ rs) (s ∷ ss) u v
    a b asks run other e =
    let both = one_first market old last begins l x y ys r s rs ss u v a.0 b.0 run.0 other e in
    next_reply market (after (present market old.history) old x r) now last both.begins ls ms line
    asked xs ys rs ss u v a.1 b.1 asks run.1 both.run both.behind_both

-- a transcript's replies, behind the ready line
transcript_behind : (market : Market) (lines : List StreamLine) (transcript : List ℕ)
    → (allowed : Transcript (from_opening market) lines transcript)
    → transcript ≡ ready_line market ++ (flat_map reply_line allowed.replies ++ [])
transcript_behind market lines transcript allowed = allowed.printed
    ∙ ap (λ (bytes : List ℕ). ready_line market ++ bytes)
    (sym (no_more (flat_map reply_line allowed.replies)))

-- a right front and the transcript have the same bytes behind the ready line
same_behind : (market : Market) (lines done : List StreamLine) (transcript front rest : List ℕ)
    (now : Standing) (n : ℕ) (right : IsRightFront market done now front n)
    (allowed : Transcript (from_opening market) lines transcript) → transcript ≡ front ++ rest
    → flat_map reply_line right.replies ++ rest ≡ flat_map reply_line allowed.replies ++ []
same_behind market lines done transcript front rest now n right allowed parts =
    append_cancel_left (ready_line market) (flat_map reply_line right.replies ++ rest)
    (flat_map reply_line allowed.replies ++ [])
    (sym (behind_ready market right.replies front rest transcript right.printed parts)
    ∙ transcript_behind market lines transcript allowed)

busy_behind : (done rest : List StreamLine) (line : StreamLine) → is_not_blank line ≡ true
    → filter is_not_blank (done ++ line ∷ rest)
    ≡ filter is_not_blank done ++ line ∷ filter is_not_blank rest
busy_behind done rest line busy = filter-append is_not_blank done (line ∷ rest)
    ∙ ap (λ (ls : List StreamLine). filter is_not_blank done ++ ls) (rw busy refl)

disallowed : (market : Market) (lines : List StreamLine) (transcript : List ℕ) (n : ℕ)
    → IsMarket market → IsWrongNext market lines transcript n
    → Transcript (from_opening market) lines transcript → ⊥
disallowed market lines transcript n is_market wrong allowed =
    let replied = allowed.run.replied in
    let asks : AllZip Asks (filter is_not_blank wrong.done ++ wrong.line ∷
    filter is_not_blank wrong.rest) replied.asked =
    subst (λ (ls : List StreamLine). AllZip Asks ls replied.asked)
    (ap (λ (ls : List StreamLine). filter is_not_blank ls) wrong.parts
    ∙ busy_behind wrong.done wrong.rest wrong.line wrong.not_blank) replied.asks in
    let right = wrong.right in
    let next = next_reply market opening wrong.now allowed.after (opening_begins market is_market)
    (filter is_not_blank wrong.done) (filter is_not_blank wrong.rest) wrong.line wrong.there.0
    right.replied.asked replied.asked right.replies allowed.replies wrong.begins.rest []
    right.replied.asks asks wrong.there.1 right.replied.run replied.run
    (same_behind market lines wrong.done transcript wrong.front wrong.begins.rest wrong.now n right
    allowed wrong.begins.parts) in
    wrong.there.2 (record {
      reply = next.reply;
      allowed = next.allowed;
      stands = record {
        rest = next.stands.rest;
        parts = wrong.begins.parts
            ∙ ap (λ (bytes : List ℕ). wrong.front ++ bytes) next.stands.parts
            ∙ sym (append_assoc wrong.front (reply_line next.reply) next.stands.rest);
      };
    })

too_long : (market : Market) (lines : List StreamLine) (transcript : List ℕ) (n : ℕ)
    → IsMarket market → IsTooLong market lines transcript n
    → Transcript (from_opening market) lines transcript → ⊥
too_long market lines transcript n is_market long allowed =
    let replied = allowed.run.replied in
    let right = long.right in
    let run = one_run market opening long.now allowed.after (opening_begins market is_market)
    (filter is_not_blank lines) right.replied.asked replied.asked right.replies allowed.replies
    long.rest [] right.replied.asks replied.asks right.replied.run replied.run
    (same_behind market lines lines transcript long.front long.rest long.now n right allowed
    long.parts) in
    long.more run.behind_both

pub wrong_is_none : WrongIsNone
wrong_is_none market lines transcript n is_market wrong allowed = at n wrong
  where
    at : (n : ℕ) → IsWrongAt market lines transcript n → ⊥
    at _ (Unready begins_not) = begins_not (record {
      rest = flat_map reply_line allowed.replies;
      parts = allowed.printed;
    })
    at _ (Disallowed m next) = disallowed market lines transcript m is_market next allowed
    at _ (Longer m more) = too_long market lines transcript m is_market more allowed
