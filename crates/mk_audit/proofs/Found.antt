-- What is found of one line: from the bytes that stand next, and from the reply that is read.
use Rattle.std.proofs.Common.{◌≡◌, ◌≢◌, ℕ, ◌+◌, List, [], ◌∷◌, ◌++◌, length, drop, Bool, true}
use Rattle.std.proofs.Common.{Option, Some, None, Result, Ok, Err, IfNone}
use Rattle.std.proofs.Common.{refl, sym, ap, ap₂, subst, ◌∙◌, arith, append_assoc, All}
use Rattle.std.proofs.Common.{false, length-append}
use Rattle.std.proofs.lemmas.List.{drop-drop, drop_at}
use Rattle.std.proofs.lemmas.List.Concat.{flat_map-cons}
use Rattle.std.specs.List.{list_all}
use Rattle.std.specs.Prelude.{◌==◌}
use Rattle.mk_io.specs.Stream.{StreamLine, text, long, is_not_blank}
use Rattle.mk_exact.specs.History.{Entry, Join, Deposit, Withdraw, Trade, Resolve, Settle, Add}
use Rattle.mk_exact.specs.Market.{Market, present}
use Rattle.mk_command.specs.declared.command.Command.{Command}
use Rattle.mk_command.specs.declared.command.Command.TheVariants.{Price}
use Rattle.mk_command.specs.Commands.{IsCommand, command_text}
use Rattle.mk_reply.specs.declared.reply.Reply.{Reply}
use Rattle.mk_reply.specs.declared.reply.Reply.TheVariants.{Price as Priced, Refused}
use Rattle.mk_reply.specs.declared.refusal.Refusal.TheVariants.{Syntax, Long}
use Rattle.mk_reply.specs.Replies.{IsReply, reply_text}
use Rattle.mk_market.specs.Trading.{Trading, IsAt, IsOnlyAsked}
use Rattle.mk_rules.specs.Answers.{IsAllowed, entry_of, next_history, next_quotes}
use Rattle.mk_rules.specs.Quotes.{Quotes}
use Rattle.mk_rules.specs.Transcript.{Standing, Line, OfCommand, NoCommand, LongLine}
use Rattle.mk_rules.specs.Transcript.{IsAllowedFor, after, with_entries, market_after}
use Rattle.mk_rules.specs.Standings.{IsReady}
use Rattle.mk_rules.specs.Bounded.{IsBounded}
use Rattle.mk_rules.proofs.Keeps.{present_with}
use Rattle.mk_rules.proofs.Ready.{ready_keeps}
use Rattle.mk_rules.proofs.Bounds.{limits_of}
use Rattle.mk_rules.proofs.Follows.{bounded_keeps, bounded_in}
use Rattle.mk_session.specs.Texts.{reply_line}
use Rattle.mk_session.specs.Transcript.{Asks}
use Rattle.mk_session.specs.Outcome.{IsFrontOf}
use Rattle.mk_session.specs.Priced.{IsPriced}
use Rattle.mk_session.proofs.Answering.{no_more}
use Rattle.mk_verify.specs.Clear.{IsOpen}
use Rattle.mk_known.specs.Known.{Knowledge, IsKnown, standing_with}
use Rattle.mk_audit.specs.declared.verdict.Verdict.{Verdict}
use Rattle.mk_audit.specs.declared.verdict.Verdict.TheVariants.{Yes, No, Unsure}
use Rattle.mk_audit.specs.declared.verdict.AuditFault.{AuditFault}
use Rattle.mk_audit.specs.declared.verdict.AuditFault.TheVariants.{Read, TooMany, Memory}
use Rattle.mk_audit.specs.declared.front.Front.{Front}
use Rattle.mk_audit.specs.inner.Progress.{IsFirstLine, StandsAt, standing_at, left_of}
use Rattle.mk_audit.specs.inner.Progress.{HoldsBytes}
use Rattle.mk_audit.specs.inner.Progress.{HoldsReply, GoesOnBy, IsPassed, IsStuck, EndsAt}
use Rattle.mk_audit.specs.inner.Progress.{Holds}
use Rattle.mk_audit.proofs.OneLine.{line_and, reply_is_first, one_reply, no_line}
use Rattle.mk_audit.proofs.OneRun.{has_text}

-- some bytes stand next, and what is left begins behind them
pub bytes_passed : (transcript bytes : List ℕ) (before after : Front)
    → left_of transcript before ≡ bytes ++ drop (length bytes) (left_of transcript before)
    → after.place ≡ before.place + length bytes
    → left_of transcript before ≡ bytes ++ left_of transcript after
bytes_passed transcript bytes before after stands passed =
    stands ∙ ap (λ (xs : List ℕ). bytes ++ xs) (drop-drop (length bytes) before.place transcript
    ∙ ap (λ n. drop n transcript) (sym passed))

-- or they do not
pub not_front : (bytes line : List ℕ) (test : Bool)
    → ((rest : List ℕ) → bytes ≡ line ++ rest → test ≡ true) → test ≡ false
    → ¬ IsFrontOf bytes line
not_front bytes line test begins fails front = let holds = begins front.rest front.parts in cc

-- a blank line has no reply
pub blank_passed : (market : Market) (now : Standing) (line : StreamLine) (left : List ℕ)
    (count : ℕ) → is_not_blank line ≡ false → IsPassed market now now line left left count count
blank_passed market now line left count blank = record {
  replies = [];
  replied = (blank, refl);
  stand = refl;
  counted = omega arith;
}

-- a reply that stands next is one right line more
reply_passed : (market : Market) (old new : Standing) (line : StreamLine) (asked : Line)
    (reply : Reply) (left rest : List ℕ) (before count : ℕ) → is_not_blank line ≡ true
    → Asks line asked → IsAllowedFor market old asked reply → new ≡ after market old asked reply
    → left ≡ reply_line reply ++ rest → count ≡ before + 1
    → IsPassed market old new line left rest before count
reply_passed market old new line asked reply left rest before count busy asks allowed same stands
    more = record {
      replies = reply ∷ [];
      replied = record {
        not_blank = busy;
        asked = asked;
        asks = asks;
        allowed = allowed;
        leads = same;
      };
      stand = stands ∙ ap (λ (bytes : List ℕ). bytes ++ rest)
          (sym (flat_map-cons reply_line reply [] ∙ no_more (reply_line reply)));
      counted = more;
    }

-- the one reply to a line that is no command
bytes_found : (ended : Option (Result Verdict AuditFault)) (market : Market) (now : Standing)
    (line : StreamLine) (asked : Line) (reply : Reply) (transcript : List ℕ)
    (before behind : Front) → is_not_blank line ≡ true → Asks line asked
    → ((now : Standing) → IsAllowedFor market now asked reply)
    → ((now : Standing) (other : Reply) → IsAllowedFor market now asked other → other ≡ reply)
    → ((now : Standing) → now ≡ after market now asked reply)
    → behind.known ≡ before.known
    → HoldsBytes ended (reply_line reply) transcript before behind
    → Holds ended market now now line transcript before behind
bytes_found None market now line asked reply transcript before behind busy asks allowed one stays
    known found =
    let old = standing_at now before in
    let new = standing_at now behind in
    reply_passed market old new line asked reply (left_of transcript before)
    (left_of transcript behind) before.right behind.right busy asks (allowed old)
    (ap (λ (k : Knowledge). standing_with now.history k) known ∙ stays old) found.0 found.1
bytes_found (Some end) market now line asked reply transcript before behind busy asks allowed one
    stays known found =
    let old = standing_at now before in
    let left = left_of transcript before in
    let stuck : IsStuck market old line left = record {
      not_blank = busy;
      asked = asked;
      asks = asks;
      none = λ other also front. found.1 (subst (λ (r : Reply). IsFrontOf left (reply_line r))
          (one old other also) front);
    } in
    subst (λ (e : Result Verdict AuditFault). EndsAt e market old line left before.right)
    (sym found.0) (refl, stuck)

pub long_found : (ended : Option (Result Verdict AuditFault)) (market : Market) (now : Standing)
    (transcript : List ℕ) (before behind : Front) → behind.known ≡ before.known
    → HoldsBytes ended (reply_line (Refused Long)) transcript before behind
    → Holds ended market now now long transcript before behind
long_found ended market now transcript before behind known found =
    bytes_found ended market now long LongLine (Refused Long) transcript before behind refl tt
    (λ now. refl) (λ now other same. same) (λ now. refl) known found

-- a line that is not blank, as a test says
pub busy_line : (line : List ℕ) → list_all (λ b. b == 32) line ≡ false
    → is_not_blank (text line) ≡ true
busy_line line busy = rw busy refl

pub syntax_found : (ended : Option (Result Verdict AuditFault)) (market : Market) (now : Standing)
    (line transcript : List ℕ) (before behind : Front)
    → list_all (λ b. b == 32) line ≡ false
    → ((command : Command) → IsCommand command → line ≢ command_text command)
    → behind.known ≡ before.known
    → HoldsBytes ended (reply_line (Refused Syntax)) transcript before behind
    → Holds ended market now now (text line) transcript before behind
syntax_found ended market now line transcript before behind busy none known found =
    bytes_found ended market now (text line) NoCommand (Refused Syntax) transcript before behind
    (busy_line line busy) none (λ now. refl) (λ now other same. same) (λ now. refl) known found

-- a line with no LF, or one that is no reply's text
unread_stuck : (market : Market) (now : Standing) (front : Front) (line : StreamLine)
    (command : Command) (left : List ℕ) → StandsAt market now front → is_not_blank line ≡ true
    → Asks line (OfCommand command)
    → ((reply : Reply) → IsReply reply → ¬ IsFrontOf left (reply_line reply))
    → IsStuck market (standing_at now front) line left
unread_stuck market now front line command left stands busy asks none = record {
  not_blank = busy;
  asked = OfCommand command;
  asks = asks;
  none = λ reply allowed. none reply (has_text market (standing_at now front) stands.ready
      stands.bounded line (OfCommand command) reply asks allowed);
}

pub no_line_stuck : (market : Market) (now : Standing) (front : Front) (line : StreamLine)
    (command : Command) (left : List ℕ) → StandsAt market now front → is_not_blank line ≡ true
    → Asks line (OfCommand command) → All (λ b. b ≢ 10) left
    → IsStuck market (standing_at now front) line left
no_line_stuck market now front line command left stands busy asks none =
    unread_stuck market now front line command left stands busy asks
    (λ reply is front. no_line reply left front.rest none front.parts)

pub no_reply_stuck : (market : Market) (now : Standing) (front : Front) (line : StreamLine)
    (command : Command) (left first : List ℕ) → StandsAt market now front
    → is_not_blank line ≡ true → Asks line (OfCommand command) → IsFirstLine first left
    → ((reply : Reply) → IsReply reply → first ≢ reply_text reply)
    → IsStuck market (standing_at now front) line left
no_reply_stuck market now front line command left first stands busy asks is_first none =
    unread_stuck market now front line command left stands busy asks
    (λ reply is front. none reply is (reply_is_first reply first is_first.rest front.rest is
    is_first.no_lf (sym is_first.parts ∙ front.parts)))

-- a first line that is a reply's text
read_stands : (first left : List ℕ) (reply : Reply) (is_first : IsFirstLine first left)
    → first ≡ reply_text reply → left ≡ reply_line reply ++ is_first.rest
read_stands first left reply is_first told =
    is_first.parts ∙ ap (λ (xs : List ℕ). xs ++ 10 ∷ is_first.rest) told
    ∙ sym (line_and reply is_first.rest)

-- what is behind it, where its bytes are passed
rest_behind : (first transcript : List ℕ) (place behind : ℕ)
    (is_first : IsFirstLine first (drop place transcript)) → behind ≡ place + (length first + 1)
    → is_first.rest ≡ drop behind transcript
rest_behind first transcript place behind is_first passed =
    let size : length (first ++ 10 ∷ []) ≡ length first + 1 = length-append first (10 ∷ []) in
    sym (drop_at (first ++ 10 ∷ []) is_first.rest (length first + 1) size)
    ∙ ap (λ (xs : List ℕ). drop (length first + 1) xs)
    (append_assoc first (10 ∷ []) is_first.rest ∙ sym is_first.parts)
    ∙ drop-drop (length first + 1) place transcript
    ∙ ap (λ n. drop n transcript) (sym passed)

-- the reply that was read is the only one that stands there
pub read_found : (ended : Option (Result Verdict AuditFault)) (market : Market)
    (now then : Standing) (line : StreamLine) (command : Command) (reply : Reply)
    (first transcript : List ℕ) (before behind : Front)
    → StandsAt market now before → is_not_blank line ≡ true
    → Asks line (OfCommand command) → IsFirstLine first (left_of transcript before)
    → IsReply reply → first ≡ reply_text reply
    → IfNone ended (behind.place ≡ before.place + (length first + 1))
    → IfNone ended (behind.right ≡ before.right + 1)
    → HoldsReply ended market (standing_at now before) (standing_at then behind) command reply
    before.right
    → Holds ended market now then line transcript before behind
read_found None market now then line command reply first transcript before behind stands busy asks
    is_first is told passed more found =
    reply_passed market (standing_at now before) (standing_at then behind) line (OfCommand command)
    reply (left_of transcript before) (left_of transcript behind) before.right behind.right busy
    asks found.0 found.1
    (read_stands first (left_of transcript before) reply is_first told
    ∙ ap (λ (xs : List ℕ). reply_line reply ++ xs)
    (rest_behind first transcript before.place behind.place is_first passed)) more
read_found (Some (Ok (Yes n))) market now then line command reply first transcript before behind
    stands busy asks is_first is told passed more found = absurd found
read_found (Some (Ok (No n))) market now then line command reply first transcript before behind
    stands busy asks is_first is told passed more found =
    let left = left_of transcript before in
    let old = standing_at now before in
    let stuck : IsStuck market old line left = record {
      not_blank = busy;
      asked = OfCommand command;
      asks = asks;
      none = λ other also front.
          let same = one_reply reply other is_first.rest front.rest is
          (has_text market old stands.ready stands.bounded line (OfCommand command) other asks also)
          (sym (read_stands first left reply is_first told) ∙ front.parts) in
          found.1 (subst (λ (r : Reply). IsAllowed market old.history old.quotes command r)
          (sym same.0) also);
    } in
    (found.0, stuck)
read_found (Some (Ok (Unsure n))) market now then line command reply first transcript before behind
    stands busy asks is_first is told passed more found = (
      found.0,
      record {
        not_blank = busy;
        command = command;
        reply = reply;
        asks = asks;
        is_reply = is;
        stands = record {
          rest = is_first.rest;
          parts = read_stands first (left_of transcript before) reply is_first told;
        };
        is_open = found.1;
      },
    )
read_found (Some (Err Read)) market now then line command reply first transcript before behind
    stands busy asks is_first is told passed more found = absurd found
read_found (Some (Err TooMany)) market now then line command reply first transcript before behind
    stands busy asks is_first is told passed more found = absurd found
read_found (Some (Err Memory)) market now then line command reply first transcript before behind
    stands busy asks is_first is told passed more found = tt

abbrev standing_of : List Entry → Quotes → Standing
standing_of h q = record { history = h; quotes = q }

-- behind an allowed reply the audit stands where its next history and quotes lead
pub stands_next : (market : Market) (now then : Standing) (before behind : Front)
    (command : Command) (reply : Reply)
    → then.history ≡ next_history market now.history command reply
    → behind.known.quotes ≡ next_quotes market now.history before.known.quotes command reply
    → standing_at then behind ≡ after market (standing_at now before) (OfCommand command) reply
stands_next market now then before behind command reply history quotes =
    ap₂ (λ (h : List Entry) (q : Quotes). standing_of h q) history quotes

-- what is added leaves the most users, trades and transfers
record HasSameLimits (market later : Market) : Type 0 where
  pub users : market.max_users ≡ later.max_users
  pub trades : market.max_trades ≡ later.max_trades
  pub transfers : market.max_transfers ≡ later.max_transfers

limits_stay : (o : Option Entry) (market : Market) → HasSameLimits market (with_entries o market)
limits_stay None market = record { users = refl; trades = refl; transfers = refl }
limits_stay (Some (Join name)) market = record { users = refl; trades = refl; transfers = refl }
limits_stay (Some (Deposit user bits)) market =
    record { users = refl; trades = refl; transfers = refl }
limits_stay (Some (Withdraw user bits)) market =
    record { users = refl; trades = refl; transfers = refl }
limits_stay (Some (Trade user ratio)) market =
    record { users = refl; trades = refl; transfers = refl }
limits_stay (Some (Resolve pair)) market = record { users = refl; trades = refl; transfers = refl }
limits_stay (Some (Settle payments)) market =
    record { users = refl; trades = refl; transfers = refl }
limits_stay (Some (Add addition)) market = record { users = refl; trades = refl; transfers = refl }

stands_behind : (market other : Market) (now then : Standing) (before behind : Front)
    (command : Command) (reply : Reply) → IsCommand command
    → IsAllowed market now.history before.known.quotes command reply
    → StandsAt market now before → other ≡ market_after market now (OfCommand command) reply
    → standing_at then behind ≡ after market (standing_at now before) (OfCommand command) reply
    → IsKnown other then.history behind.known → StandsAt other then behind
stands_behind market other now then before behind command reply is allowed stands leads next known =
    let old = standing_at now before in
    let same = subst (λ (m : Market). HasSameLimits market m) (sym leads)
    (limits_stay (entry_of market now.history command reply) market) in
    record {
      known = known;
      ready = subst (λ (m : Market). IsReady m (standing_at then behind)) (sym leads)
          (subst (λ (s : Standing). IsReady (market_after market now (OfCommand command) reply) s)
          (sym next) (ready_keeps market old (OfCommand command) reply stands.ready allowed));
      bounded = bounded_in market other then.history same.trades same.users same.transfers
          (subst (λ (s : Standing). IsBounded market s.history) (sym next)
          (bounded_keeps market old (OfCommand command) reply
          (limits_of market stands.ready.stands.legal) is stands.bounded allowed));
    }

-- a market that stands as it did is still the file's with what was added so far
pub still_at : {Own : Type 0} (old new : Trading Own) → new.market ≡ old.market
    → new.standing ≡ old.standing → (start : Market) → IsAt start old → IsAt start new
still_at old new same stays start at =
    same ∙ at ∙ ap (λ (s : Standing). present start s.history) (sym stays)

-- a reply of which a market was asked was judged, and the audit goes on behind it
module _ {Own : Type 0} (old asked new : Trading Own) (same : IsOnlyAsked old asked)
    (before behind : Front) (command : Command) (reply : Reply)
    (allowed : IsAllowed old.market old.standing.history before.known.quotes command reply) where
  -- it leads where it leads from the market as it stood
  leads : GoesOnBy None asked new before behind command reply
      → GoesOnBy None old new before behind command reply
  leads next = rw (same.market, same.standing) at next

  -- the reply was allowed
  pub goes_on_by : (ended : Option (Result Verdict AuditFault))
      → GoesOnBy ended asked new before behind command reply
      → HoldsReply ended old.market (standing_at old.standing before)
      (standing_at new.standing behind) command reply before.right
  goes_on_by None next = (allowed, (leads next allowed).1)
  goes_on_by (Some end) is =
      subst (λ (e : Result Verdict AuditFault). HoldsReply (Some e) old.market
      (standing_at old.standing before) (standing_at new.standing behind) command reply
      before.right) (sym is.0) tt

  -- there each line has an allowed reply
  pub stands_by : (ended : Option (Result Verdict AuditFault)) → IsCommand command
      → StandsAt old.market old.standing before
      → GoesOnBy ended asked new before behind command reply
      → IfNone ended (StandsAt new.market new.standing behind)
  stands_by None is stands next =
      let goes = leads next allowed in
      stands_behind old.market new.market old.standing new.standing before behind command reply is
      allowed stands goes.0 goes.1 goes.2
  stands_by (Some end) is stands next = tt

  -- and the market is still the file's with what was added so far
  pub at_by : (ended : Option (Result Verdict AuditFault))
      → GoesOnBy ended asked new before behind command reply
      → (start : Market) → IsAt start old → IsAt start new
  at_by None next start at =
      let goes = leads next allowed in
      let entry = entry_of old.market old.standing.history command reply in
      goes.0 ∙ ap (with_entries entry) at ∙ sym (present_with start old.standing.history entry)
      ∙ ap (λ (s : Standing). present start s.history) (sym goes.1)
  at_by (Some end) next start at =
      subst (IsAt start) (sym next.1) (still_at old asked same.market same.standing start at)

-- a market that told a price stands as before
pub price_leaves : {Own : Type 0} (old new : Trading Own) (command : Command) (bytes : List ℕ)
    → IsPriced old new command bytes → new.standing ≡ old.standing
price_leaves old new command bytes priced =
    priced.answered.next
    ∙ ap (λ (h : List Entry). standing_of h old.standing.quotes) (no_more old.standing.history)

-- the price that the market told stands next, and is one right line more
pub price_passed : {Own : Type 0} (old new : Trading Own) (line : StreamLine) (command : Command)
    (bytes transcript : List ℕ) (before behind : Front) → StandsAt old.market old.standing before
    → is_not_blank line ≡ true → Asks line (OfCommand command) → IsPriced old new command bytes
    → behind.known ≡ before.known
    → left_of transcript before ≡ bytes ++ left_of transcript behind
    → behind.right ≡ before.right + 1
    → Holds None old.market old.standing new.standing line transcript before behind
price_passed old new line command bytes transcript before behind at busy asks priced known stands
    more =
    let q = priced.question in
    let reply = Priced priced.low priced.high in
    reply_passed old.market (standing_at old.standing before) (standing_at new.standing behind) line
    (OfCommand (Price q)) reply (left_of transcript before) (left_of transcript behind) before.right
    behind.right busy (subst (λ (c : Command). Asks line (OfCommand c)) priced.asked asks)
    (priced.answered.allowed at.ready.stands.sound)
    (stands_next old.market old.standing new.standing before behind (Price q) reply
    (ap (λ (s : Standing). s.history) priced.answered.next)
    (ap (λ (k : Knowledge). k.quotes) known))
    (stands ∙ ap (λ (xs : List ℕ). xs ++ left_of transcript behind) priced.printed) more

-- the same market and history
still_stands : (market other : Market) (now : Standing) (before behind : Front) → other ≡ market
    → behind.known ≡ before.known → StandsAt market now before → StandsAt other now behind
still_stands market other now before behind same known stands =
    subst (λ (m : Market). StandsAt m now behind) (sym same) (record {
      known = subst (λ (k : Knowledge). IsKnown market now.history k) (sym known) stands.known;
      ready = subst (λ (k : Knowledge). IsReady market (standing_with now.history k)) (sym known)
          stands.ready;
      bounded = stands.bounded;
    })

-- and at the same standing
pub still_there : (market other : Market) (now then : Standing) (before behind : Front)
    → other ≡ market → then ≡ now → behind.known ≡ before.known → StandsAt market now before
    → StandsAt other then behind
still_there market other now then before behind same stays known stands =
    subst (λ (s : Standing). StandsAt other s behind) (sym stays)
    (still_stands market other now before behind same known stands)

-- what is found from the same market and place is found from here
pub found_there : (ended : Option (Result Verdict AuditFault)) (market other : Market)
    (now then new : Standing) (line : StreamLine) (transcript : List ℕ)
    (before same_front behind : Front) → other ≡ market → then ≡ now → same_front ≡ before
    → Holds ended other then new line transcript same_front behind
    → Holds ended market now new line transcript before behind
found_there ended market other now then new line transcript before same_front behind same stays
    front found =
    subst (λ (m : Market). Holds ended m now new line transcript before behind) same
    (subst (λ (s : Standing). Holds ended other s new line transcript before behind) stays
    (subst (λ (f : Front). Holds ended other then new line transcript f behind) front found))

pub still_if : (ended : Option (Result Verdict AuditFault)) (market : Market) (now : Standing)
    (before behind : Front) → behind.known ≡ before.known → StandsAt market now before
    → IfNone ended (StandsAt market now behind)
still_if None market now before behind known stands =
    still_stands market market now before behind refl known stands
still_if (Some end) market now before behind known stands = tt

-- a verdict by its number
pub stuck_ends : (verdict : Verdict) (market : Market) (now : Standing) (line : StreamLine)
    (left : List ℕ) (count : ℕ) → verdict ≡ No (count + 1) → IsStuck market now line left
    → EndsAt (Ok verdict) market now line left count
stuck_ends verdict market now line left count is stuck =
    subst (λ (v : Verdict). EndsAt (Ok v) market now line left count) (sym is) (refl, stuck)

pub wrong_ends : (verdict : Verdict) (market : Market) (old new : Standing) (command : Command)
    (reply : Reply) (count : ℕ) → verdict ≡ No (count + 1)
    → ¬ IsAllowed market old.history old.quotes command reply
    → HoldsReply (Some (Ok verdict)) market old new command reply count
wrong_ends verdict market old new command reply count is wrong =
    subst (λ (v : Verdict). HoldsReply (Some (Ok v)) market old new command reply count) (sym is)
    (refl, wrong)

pub unsure_ends : (verdict : Verdict) (market : Market) (old new : Standing) (command : Command)
    (reply : Reply) (count : ℕ) → verdict ≡ Unsure (count + 1)
    → IsOpen market old.history old.quotes command reply
    → HoldsReply (Some (Ok verdict)) market old new command reply count
unsure_ends verdict market old new command reply count is near =
    subst (λ (v : Verdict). HoldsReply (Some (Ok v)) market old new command reply count) (sym is)
    (refl, near)
