use Rattle.std.proofs.Common.{◌≡◌, ℕ, ◌+◌, ◌<◌, ◌⊎◌, List, [], length, take, drop, Some, IfSome, IfOk, inl, inr, sym, ◌∙◌, ap, subst}
use Rattle.std.proofs.lemmas.Result.{err_from_is_err_and}
use Rattle.mk_journal.specs.Store.{begun, IsUnstarted, StandsFor, IsBroken}
use Rattle.mk_journal.specs.Moments.{LeavesOnly}
use Rattle.mk_journal.specs.Kept.{IsKept, IsSettled}
use Rattle.mk_journal.specs.Opening.{contents, IfGate, IfMalformed}
use Rattle.mk_journal.specs.inner.Reading.{IsKind, IsUnstartedAs, IsOwn, IsRead}
use Rattle.mk_journal.proofs.Reopening.{loaded_kept, unstarted_as, if_ok, read_told, own_within, stands_read, broken_read, settled_read, place_read}
use Rattle.mk_journal.specs.inner.MomentLaws.{weaken, then}
use Rattle.mk_journal.proofs.Heads.{told_of}
use Rattle.mk_journal.proofs.open.open_store.Given.{Over}
use Rattle.mk_journal.proofs.open.open_store.Goals.{After-kind_of, After-begin, After-load_records}
use Rattle.mk_journal.proofs.open.open_store.Goals as goal

-- what was loaded of the file that stood there
module _ (g : Over) (c : After-kind_of g) (n : List ℕ) where
  len_is : (f : List ℕ) → n ≡ g.K.Disk.open_name c.args.disk.now
      → g.K.Disk.file c.args.disk.now n ≡ Some f → c.in_ok-front.front.len ≡ length f
  len_is f named told = told_of (g.K.Disk.file c.args.disk.now) n _ f
      (λ f. c.in_ok-front.front.len ≡ length f) named told c.in_ok-front.ensures.len

  kind_is : (market f : List ℕ) → n ≡ g.K.Disk.open_name c.args.disk.now
      → c.args.header.now ≡ begun market → g.K.Disk.file c.args.disk.now n ≡ Some f
      → IsKind market f c.kind_of.result
  kind_is market f named is told =
      let front = told_of (g.K.Disk.file c.args.disk.now) n _ f
      (λ f. c.in_ok-front.front.bytes.items ≡ take (length c.args.header.now + 1) f) named told
      c.in_ok-front.ensures.bytes in
      c.kind_of.ensures.kind market f is (c.deref.ensures.value ∙ front) (len_is f named told)

  still_kept : (f : List ℕ) → n ≡ g.K.Disk.open_name c.args.disk.now
      → g.K.Disk.file c.args.disk.now n ≡ Some f
      → IsKept (g.K.Disk.file c.load_front.new.disk n) (g.K.Disk.may_leave c.load_front.new.disk n)
      f
  still_kept f named told =
      loaded_kept (g.K.Disk.file c.args.disk.now) (g.K.Disk.file c.load_front.new.disk)
      (g.K.Disk.may_leave c.load_front.new.disk) n _ f named told (c.load_front.ensures.files n)
      c.in_ok-front.ensures.durable

-- what a crash leaves, where a header is written
begins : (g : Over) (c : After-begin g) (n market f : List ℕ)
    → n ≡ g.K.Disk.open_name c.args.disk.now → c.args.header.now ≡ begun market
    → IsUnstartedAs market f c.in-New.unstarted
    → IsKept (g.K.Disk.file c.load_front.new.disk n) (g.K.Disk.may_leave c.load_front.new.disk n) f
    → LeavesOnly (g.K.Disk.moment c.args.disk.now) (g.K.Disk.moment c.begin.new.disk)
    (g.K.Disk.left_since c.args.disk.now n) (g.K.Disk.left_since c.begin.new.disk n)
    (λ b. g.K.Disk.may_leave c.args.disk.now n b ⊎ (IsUnstarted market f
    × StandsFor market [] b))
begins g c n market f named is unstarted kept =
    then (weaken (λ b left. inl left) (c.load_front.ensures.any_moment n))
    (weaken (λ b stands. inr (unstarted_as market f c.in-New.unstarted unstarted, stands))
    (c.begin.ensures.any_moment n market f (named ∙ sym c.load_front.ensures.stays_name) is
    unstarted kept))

-- what was read behind this market's header
own_read : (g : Over) (c : After-load_records g) (n market f : List ℕ)
    → n ≡ g.K.Disk.open_name c.args.disk.now → g.K.Disk.file c.args.disk.now n ≡ Some f
    → IsOwn market f → length c.args.header.now ≡ length (begun market)
    → c.in_ok-front.front.len ≡ length f
    → IfOk c.load_records.result (IsRead (length c.args.header.now)
    (drop (length c.args.header.now) f))
own_read g c n market f named told own place len =
    let there : g.K.Disk.file c.load_front.new.disk (g.K.Disk.open_name c.load_front.new.disk) ≡
    Some f =
    ap (g.K.Disk.file c.load_front.new.disk) (c.load_front.ensures.stays_name ∙ sym named)
    ∙ c.load_front.ensures.files n ∙ told in
    read_told c.load_records.result _ f c.in_ok-front.front.len (length c.args.header.now) there
    c.load_records.ensures.found len (own_within market f own (length c.args.header.now) place)

pub returns-in_err-front-clause-refused : goal.returns-in_err-front-clause-refused
returns-in_err-front-clause-refused g c n market f named is told =
    let p = err_from_is_err_and c.from_residual.result c.from_residual.ensures.1 in
    rw (p.1, p.2) (c.in_err-front.ensures.plain market f)

pub returns-in_err-front-clause-any_moment : goal.returns-in_err-front-clause-any_moment
returns-in_err-front-clause-any_moment g c n market f named is told = weaken (λ b left. inl left) (c.load_front.ensures.any_moment n)

pub returns-in_err-begin-in-New-clause-any_moment :
    goal.returns-in_err-begin-in-New-clause-any_moment
returns-in_err-begin-in-New-clause-any_moment g c n market f named is told =
    let before = (goal.at.returns-in_err-begin-in-New-clause-any_moment g c).After-kind_of in
    let unstarted = rw c.in-New.is at (kind_is g before n market f named is told) in
    begins g (goal.at.returns-in_err-begin-in-New-clause-any_moment g c).After-begin n market f
    named is unstarted (still_kept g before n f named told)

pub returns-in-New-clause-settled : goal.returns-in-New-clause-settled
returns-in-New-clause-settled g c n market f named is told =
    let before = (goal.at.returns-in-New-clause-settled g c).After-kind_of in
    let unstarted = rw c.in-New.is at (kind_is g before n market f named is told) in
    let none : contents c.new.result.items ≡ [] = ap contents c.new.ensures.items in
    subst (λ records. IsSettled (g.K.Disk.file c.begin.new.disk n) (g.K.Disk.may_leave c.begin.new.disk n) market records (length c.args.header.now)) (sym none)
    (c.in_ok-begin-in-New.ensures.settled n market f (named ∙ sym c.load_front.ensures.stays_name)
    is unstarted (still_kept g before n f named told))

pub returns-in-New-clause-any_moment : goal.returns-in-New-clause-any_moment
returns-in-New-clause-any_moment g c n market f named is told =
    let before = (goal.at.returns-in-New-clause-any_moment g c).After-kind_of in
    let unstarted = rw c.in-New.is at (kind_is g before n market f named is told) in
    begins g (goal.at.returns-in-New-clause-any_moment g c).After-begin n market f named is
    unstarted (still_kept g before n f named told)

pub returns-in-Own-clause-refused : goal.returns-in-Own-clause-refused
returns-in-Own-clause-refused g c n market f named is told = c.load_records.ensures.plain market f

-- what the records that were read stand for
own_ends : (g : Over) (c : After-load_records g) (n market f : List ℕ)
    → n ≡ g.K.Disk.open_name c.args.disk.now → c.args.header.now ≡ begun market
    → g.K.Disk.file c.args.disk.now n ≡ Some f → IsKind market f c.kind_of.result
    → c.in_ok-front.front.len ≡ length f
    → IfOk c.load_records.result (λ found. IfGate found.end
    (λ gate. StandsFor market (contents found.records.items) f)
    × IfMalformed found.end (IsBroken market (contents found.records.items) f))
own_ends g c n market f named is told kind len =
    let own = rw c.in-Own.is at kind in
    if_ok c.load_records.result (own_read g c n market f named told own (ap length is) len)
    (λ found is_read. (
      stands_read market f own (length c.args.header.now) (ap length is)
          (contents found.records.items) found.end is_read,
      broken_read market f own (length c.args.header.now) (ap length is)
          (contents found.records.items) found.end is_read,
    ))

pub returns-in-Own-clause-stands : goal.returns-in-Own-clause-stands
returns-in-Own-clause-stands g c n market f named is told =
    if_ok c.load_records.result (own_ends g
    (goal.at.returns-in-Own-clause-stands g c).After-load_records n market f named is told
    (kind_is g (goal.at.returns-in-Own-clause-stands g c).After-kind_of n market f named is
    told) (len_is g (goal.at.returns-in-Own-clause-stands g c).After-kind_of n f named told))
    (λ found both. both.0)

pub returns-in-Own-clause-broken : goal.returns-in-Own-clause-broken
returns-in-Own-clause-broken g c n market f named is told =
    if_ok c.load_records.result (own_ends g
    (goal.at.returns-in-Own-clause-broken g c).After-load_records n market f named is told
    (kind_is g (goal.at.returns-in-Own-clause-broken g c).After-kind_of n market f named is
    told) (len_is g (goal.at.returns-in-Own-clause-broken g c).After-kind_of n f named told))
    (λ found both. both.1)

pub returns-in-Own-clause-settled : goal.returns-in-Own-clause-settled
returns-in-Own-clause-settled g c n market f named is told =
    let kept = still_kept g (goal.at.returns-in-Own-clause-settled g c).After-kind_of n f named
    told in
    let own = rw c.in-Own.is at (kind_is g (goal.at.returns-in-Own-clause-settled g c).After-kind_of
    n market f named is told) in
    let place : length c.args.header.now ≡ length (begun market) = ap length is in
    let read = own_read g (goal.at.returns-in-Own-clause-settled g c).After-load_records n market f
    named told own place (len_is g (goal.at.returns-in-Own-clause-settled g c).After-kind_of n f
    named told) in
    let still : IsKept (g.K.Disk.file c.load_records.new.disk n) (g.K.Disk.may_leave c.load_records.new.disk n) f = record {
      told = c.load_records.ensures.files n ∙ kept.told;
      only = λ b left. kept.only b (c.load_records.ensures.images n b left);
    } in
    if_ok c.load_records.result read (λ found is_read. settled_read market f own (length c.args.header.now) place still (contents found.records.items) found.end is_read)

pub returns-in-Own-clause-place : goal.returns-in-Own-clause-place
returns-in-Own-clause-place g c =
    let long = rw c.in-Own.is at c.kind_of.ensures.long in
    let name = c.load_front.ensures.stays_name in
    let same = c.load_records.ensures.files (g.K.Disk.open_name c.args.disk.now) ∙ c.load_front.ensures.files (g.K.Disk.open_name c.args.disk.now) in
    let read = subst (λ o. IfOk c.load_records.result (λ found. IfSome o (λ f. c.in_ok-front.front.len ≡ length f → length c.args.header.now < length f → IsRead (length c.args.header.now) (drop (length c.args.header.now) f) found)))
    (ap (g.K.Disk.file c.load_front.new.disk) name ∙ c.load_front.ensures.files (g.K.Disk.open_name c.args.disk.now)) c.load_records.ensures.found in
    place_read c.load_records.result _ _ c.in_ok-front.front.len (length c.args.header.now) (length c.args.header.now + 1) c.in_ok-front.front.bytes.items same c.in_ok-front.ensures.bytes c.in_ok-front.ensures.len
    (subst (λ l. length c.args.header.now < length l) c.deref.ensures.value long) read

pub returns-in-Own-clause-any_moment : goal.returns-in-Own-clause-any_moment
returns-in-Own-clause-any_moment g c n market f named is told =
    then (weaken (λ b left. inl left) (c.load_front.ensures.any_moment n)) (weaken (λ b left. inl (c.load_front.ensures.images n b left)) (c.load_records.ensures.any_moment n))

pub returns-clause-any_moment : goal.returns-clause-any_moment
returns-clause-any_moment g c n market f named is told = weaken (λ b left. inl left) (c.load_front.ensures.any_moment n)
