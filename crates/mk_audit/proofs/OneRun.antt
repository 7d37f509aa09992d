-- Two runs of the same lines whose texts are in front of the same bytes are one.
use Rattle.std.proofs.Common.{◌≡◌, ℕ, ◌+◌, List, [], ◌∷◌, ◌++◌, length, filter}
use Rattle.std.proofs.Common.{refl, sym, ap, ap₂, subst, ◌∙◌, append_assoc}
use Rattle.std.specs.List.{AllZip, flat_map}
use Rattle.std.proofs.lemmas.List.{append_cancel_left}
use Rattle.std.proofs.lemmas.List.Concat.{flat_map-cons}
use Rattle.mk_io.specs.Stream.{StreamLine, text, long, is_not_blank}
use Rattle.mk_exact.specs.Market.{Market, present}
use Rattle.mk_command.specs.declared.command.Command.{Command}
use Rattle.mk_command.proofs.CommandLaws.{form_tells}
use Rattle.mk_text.proofs.ReadingLaws.{whole_one}
use Rattle.mk_reply.specs.declared.reply.Reply.{Reply}
use Rattle.mk_reply.specs.Replies.{IsReply}
use Rattle.mk_rules.specs.Bounded.{IsLine, IsBounded}
use Rattle.mk_rules.specs.Standings.{IsReady}
use Rattle.mk_rules.specs.Transcript.{Standing, opening, Line, OfCommand, NoCommand, LongLine}
use Rattle.mk_rules.specs.Transcript.{IsAllowedFor, after, Run}
use Rattle.mk_rules.proofs.Ready.{step_keeps_ready}
use Rattle.mk_rules.proofs.Bounds.{IsLimited}
use Rattle.mk_rules.proofs.Follows.{bounded_keeps, bounded_in}
use Rattle.mk_rules.proofs.Texts.{replies_have_texts}
use Rattle.mk_session.specs.Texts.{ready_line, reply_line}
use Rattle.mk_session.specs.Transcript.{Asks}
use Rattle.mk_session.specs.Begins.{CanBegin}
use Rattle.mk_session.proofs.Answering.{opening_begins}
use Rattle.mk_session.proofs.Records.{line_asked}
use Rattle.mk_audit.specs.Laws.{RightFrontIsOne}
use Rattle.mk_audit.proofs.OneLine.{one_reply}

-- a line asks one thing
pub asks_one : (line : StreamLine) (a b : Line) → Asks line a → Asks line b → a ≡ b
asks_one (text bytes) (OfCommand c) (OfCommand d) h k =
    ap (λ (e : Command). OfCommand e) (whole_one form_tells c d h.0 k.0 (sym h.1 ∙ k.1))
asks_one (text bytes) (OfCommand c) NoCommand h k = absurd (k c h.0 h.1)
asks_one (text bytes) (OfCommand c) LongLine h k = absurd k
asks_one (text bytes) NoCommand (OfCommand d) h k = absurd (h d k.0 k.1)
asks_one (text bytes) NoCommand NoCommand h k = refl
asks_one (text bytes) NoCommand LongLine h k = absurd k
asks_one (text bytes) LongLine b h k = absurd h
asks_one long LongLine LongLine h k = refl
asks_one long LongLine NoCommand h k = absurd k
asks_one long LongLine (OfCommand d) h k = absurd k
asks_one long NoCommand b h k = absurd h
asks_one long (OfCommand c) b h k = absurd h

-- an allowed reply to a line of the stream has a text
pub has_text : (market : Market) (now : Standing) → IsReady market now
    → IsBounded market now.history → (line : StreamLine) (asked : Line) (reply : Reply)
    → Asks line asked → IsAllowedFor market now asked reply → IsReply reply
has_text market now ready bounded line asked reply asks allowed =
    replies_have_texts market now asked reply ready.stands.legal ready bounded
    (line_asked line asked asks) allowed

-- in a run, where the market is the file's with what was added so far
bounded_here : (market : Market) (now : Standing) → CanBegin market now
    → IsBounded (present market now.history) now.history
bounded_here market now begins =
    bounded_in market (present market now.history) now.history refl refl refl begins.bounded

run_has_text : (market : Market) (now : Standing) → CanBegin market now → (line : StreamLine)
    (asked : Line) (reply : Reply) → Asks line asked
    → IsAllowedFor (present market now.history) now asked reply → IsReply reply
run_has_text market now begins =
    has_text (present market now.history) now begins.ready (bounded_here market now begins)

-- and behind it the run can go on
begins_after : (market : Market) (now : Standing) → CanBegin market now → (asked : Line)
    (reply : Reply) → IsLine asked
    → IsAllowedFor (present market now.history) now asked reply
    → CanBegin market (after (present market now.history) now asked reply)
begins_after market now begins asked reply line allowed =
    let here = present market now.history in
    let next = after here now asked reply in
    let is = begins.is_market in
    let few : IsLimited here = record {
      few_points = is.few_points;
      few_trades = is.few_trades;
      few_transfers = is.few_transfers;
    } in
    record {
      is_market = begins.is_market;
      ready = step_keeps_ready market now asked reply begins.ready allowed;
      bounded = bounded_in here market next.history refl refl refl
          (bounded_keeps here now asked reply few line (bounded_here market now begins) allowed);
    }

-- the first of some replies in front of the others
pub first_and : (reply : Reply) (replies : List Reply) (behind : List ℕ)
    → flat_map reply_line (reply ∷ replies) ++ behind
    ≡ reply_line reply ++ (flat_map reply_line replies ++ behind)
first_and reply replies behind =
    ap (λ (bytes : List ℕ). bytes ++ behind) (flat_map-cons reply_line reply replies)
    ∙ append_assoc (reply_line reply) (flat_map reply_line replies) behind

-- a first line of two runs in one standing: both ask the same, and have the same reply
record IsOneStep (x y : Line) (r s : Reply) (behind rest : List ℕ) : Type 0 where
  pub asked : y ≡ x
  pub reply : s ≡ r
  pub behind_both : behind ≡ rest

one_step : (market : Market) (now : Standing) → CanBegin market now → (line : StreamLine)
    (x y : Line) (r s : Reply) (behind rest : List ℕ) → Asks line x → Asks line y
    → IsAllowedFor (present market now.history) now x r
    → IsAllowedFor (present market now.history) now y s
    → reply_line r ++ behind ≡ reply_line s ++ rest → IsOneStep x y r s behind rest
one_step market now begins line x y r s behind rest first second allowed also e =
    let same = one_reply r s behind rest (run_has_text market now begins line x r first allowed)
    (run_has_text market now begins line y s second also) e in
    record {
      asked = asks_one line y x second first;
      reply = sym same.0;
      behind_both = same.1;
    }

-- two runs in one standing whose first line is one: behind it both go on in one standing
pub record IsOneFirst (market : Market) (now then : Standing) (ys : List Line) (r s : Reply)
    (ss : List Reply) (behind rest : List ℕ) : Type 0 where
  pub reply : s ≡ r
  pub begins : CanBegin market now
  pub run : Run market now ys ss then
  pub behind_both : behind ≡ rest

pub one_first : (market : Market) (old then : Standing) → CanBegin market old
    → (line : StreamLine) (x y : Line) (ys : List Line) (r s : Reply) (rs ss : List Reply)
    (u v : List ℕ) → Asks line x → Asks line y
    → IsAllowedFor (present market old.history) old x r
    → Run market old (y ∷ ys) (s ∷ ss) then
    → flat_map reply_line (r ∷ rs) ++ u ≡ flat_map reply_line (s ∷ ss) ++ v
    → IsOneFirst market (after (present market old.history) old x r) then ys r s ss
    (flat_map reply_line rs ++ u) (flat_map reply_line ss ++ v)
one_first market old then begins line x y ys r s rs ss u v asks also allowed run e =
    let step = one_step market old begins line x y r s (flat_map reply_line rs ++ u)
    (flat_map reply_line ss ++ v) asks also allowed run.0
    (sym (first_and r rs u) ∙ e ∙ first_and s ss v) in
    let here = present market old.history in
    record {
      reply = step.reply;
      begins = begins_after market old begins x r (line_asked line x asks) allowed;
      run = subst (λ (q : Reply). Run market (after here old x q) ys ss then) step.reply
          (subst (λ (q : Line). Run market (after here old q s) ys ss then) step.asked run.1);
      behind_both = step.behind_both;
    }

-- all lines of two such runs
pub record IsOneRun (rs ss : List Reply) (new then : Standing) (behind rest : List ℕ) : Type 0 where
  pub replies : rs ≡ ss
  pub stands : new ≡ then
  pub behind_both : behind ≡ rest

pub one_run : (market : Market) (old new then : Standing) → CanBegin market old
    → (ls : List StreamLine) (xs ys : List Line) (rs ss : List Reply) (u v : List ℕ)
    → AllZip Asks ls xs → AllZip Asks ls ys → Run market old xs rs new → Run market old ys ss then
    → flat_map reply_line rs ++ u ≡ flat_map reply_line ss ++ v → IsOneRun rs ss new then u v
one_run market old new then begins [] [] [] [] [] u v a b run other e =
    record { replies = refl; stands = run ∙ sym other; behind_both = e }
one_run market old new then begins [] [] [] [] (s ∷ ss) u v a b run other e = absurd other
one_run market old new then begins [] [] [] (r ∷ rs) ss u v a b run other e = absurd run
one_run market old new then begins [] [] (y ∷ ys) rs ss u v a b run other e = absurd b
one_run market old new then begins [] (x ∷ xs) ys rs ss u v a b run other e = absurd a
one_run market old new then begins (l ∷ ls) [] ys rs ss u v a b run other e = absurd a
one_run market old new then begins (l ∷ ls) (x ∷ xs) [] rs ss u v a b run other e = absurd b
one_run market old new then begins (l ∷ ls) (x ∷ xs) (y ∷ ys) [] ss u v a b run other e = absurd run
one_run market old new then begins (l ∷ ls) (x ∷ xs) (y ∷ ys) (r ∷ rs) [] u v a b run other e =
    absurd other
one_run market old new then begins (l ∷ ls) (x ∷ xs) (y ∷ ys) (r ∷ rs) (s ∷ ss) u v a b run other
    e =
    let both = one_first market old then begins l x y ys r s rs ss u v a.0 b.0 run.0 other e in
    let later = one_run market (after (present market old.history) old x r) new then both.begins ls
    xs ys rs ss u v a.1 b.1 run.1 both.run both.behind_both in
    record {
      replies = ap₂ (λ (q : Reply) (qs : List Reply). q ∷ qs) (sym both.reply) later.replies;
      stands = later.stands;
      behind_both = later.behind_both;
    }

-- what stands behind the ready line
pub behind_ready : (market : Market) (replies : List Reply) (front rest transcript : List ℕ)
    → front ≡ ready_line market ++ flat_map reply_line replies → transcript ≡ front ++ rest
    → transcript ≡ ready_line market ++ (flat_map reply_line replies ++ rest)
behind_ready market replies front rest transcript printed parts =
    parts ∙ ap (λ (bytes : List ℕ). bytes ++ rest) printed
    ∙ append_assoc (ready_line market) (flat_map reply_line replies) rest

pub right_front_is_one : RightFrontIsOne
right_front_is_one market lines transcript first second now then m n is_market one other front
    also =
    let same = append_cancel_left (ready_line market)
    (flat_map reply_line one.replies ++ front.rest)
    (flat_map reply_line other.replies ++ also.rest)
    (sym (behind_ready market one.replies first front.rest transcript one.printed front.parts)
    ∙ behind_ready market other.replies second also.rest transcript other.printed also.parts) in
    let run = one_run market opening now then (opening_begins market is_market)
    (filter is_not_blank lines) one.replied.asked other.replied.asked one.replies other.replies
    front.rest also.rest one.replied.asks other.replied.asks one.replied.run other.replied.run
    same in (
      run.replies,
      run.stands,
      one.printed
          ∙ ap (λ (rs : List Reply). ready_line market ++ flat_map reply_line rs) run.replies
          ∙ sym other.printed,
      one.counted ∙ ap (λ (rs : List Reply). 1 + length rs) run.replies ∙ sym other.counted,
    )
