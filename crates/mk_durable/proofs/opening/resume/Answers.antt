use Rattle.std.proofs.Common.{◌≡◌, ◌⊎◌, inl, ℕ, ◌<◌, List, [], length, Some, IsTrue, IfSome, refl}
use Rattle.std.proofs.Common.{sym, ap, subst, ◌∙◌, arith}
use Rattle.std.proofs.lemmas.List.{length-map}
use Rattle.std.proofs.lemmas.List.Elements.{All-nil}
use Rattle.std.proofs.lemmas.Result.{err_from_is_err_and}
use Rattle.mk_rules.specs.Transcript.{Standing}
use Rattle.mk_journal.specs.Opening.{contents}
use Rattle.mk_journal.specs.Store.{begun, IsLength, IsUnstarted, StandsFor}
use Rattle.mk_journal.specs.Keepers.{StoreOf, IsReady}
use Rattle.mk_durable.specs.Recovery.{AreTakenBack}
use Rattle.mk_durable.specs.Resuming.{IsResumed}
use Rattle.mk_session.proofs.Present.{at_first}
use Rattle.mk_durable.proofs.Numbers.{few_changes, few_additions}
use Rattle.mk_durable.proofs.Found.{has_records, records_refused, from_opening}
use Rattle.mk_durable.proofs.Found.{fault_from_opening, as_many, as_told}
use Rattle.mk_durable.proofs.opening.resume.Given.{Over}
use Rattle.mk_durable.proofs.opening.resume.Goals as goal
use Rattle.mk_durable.proofs.opening.resume.Goals.{After-open_store, After-revision-count}

-- the count is that of the changes of the market
counts_changes : (g : Over) (c : After-revision-count g)
    → c.revision-count.result ≡ length c.restore_all.new.market.standing.history
counts_changes g c =
    as_told c.revision-count.result _ _ c.revision-count.ensures c.history.ensures.same

-- those are taken back from the records that were found
all_taken : (g : Over) (c : After-revision-count g)
    → AreTakenBack c.args.market.now.market [] (contents c.in_ok-found.found.records.items)
    c.restore_all.new.market.standing.history
all_taken g c =
    let market = c.args.market.now.market in
    from_opening market c.args.market.now.standing.history
    c.restore_all.new.market.standing.history c.in_ok-found.found.records.items c.deref.result.now
    (ap (λ (s : Standing). s.history) c.requires.opening) c.deref.ensures.value
    (c.in_ok-restore_all.ensures.taken market (at_first c.args.market.now c.requires.opening))

-- so the count is that of the records too
counts_records : (g : Over) (c : After-revision-count g)
    → c.revision-count.result ≡ length c.in_ok-found.found.records.items
counts_records g c =
    counts_changes g c
    ∙ as_many c.args.market.now.market c.restore_all.new.market.standing.history
    c.in_ok-found.found.records.items (all_taken g c)

counts_contents : (g : Over) (c : After-revision-count g)
    → c.revision-count.result ≡ length (contents c.in_ok-found.found.records.items)
counts_contents g c =
    counts_records g c ∙ sym (length-map c.in_ok-found.found.records.items (λ (v : _). v.items))

-- each image is one from before the call, or stands for no record as the file did
old_or_empty : (g : Over) (c : After-open_store g) (n bytes f image : List ℕ)
    → n ≡ g.K.Disk.open_name c.args.disk.now → c.args.header.now ≡ begun bytes
    → g.K.Disk.file c.args.disk.now n ≡ Some f
    → g.K.Disk.may_leave c.open_store.new.disk n image
    → g.K.Disk.may_leave c.args.disk.now n image
    ⊎ (IsUnstarted bytes f × StandsFor bytes [] image)
old_or_empty g c n bytes f image named is told left =
    let moments = c.open_store.ensures.any_moment n bytes f named is told in
    moments.each image (g.met.K.Disk.counts_now c.open_store.new.disk n
    (g.K.Disk.moment c.args.disk.now) image moments.later left)

pub overflow_add-result : goal.overflow_add-result
overflow_add-result g c =
    let size : c.revision-count.result ≡ length c.restore_all.new.market.standing.history =
    counts_changes g (goal.at.overflow_add-result g c).After-revision-count in
    let few = few_changes c.restore_all.new.market.market
    c.restore_all.new.market.standing.history c.history.ensures.safe in
    let added = few_additions c.restore_all.new.market.market
    c.restore_all.new.market.standing.history c.history.ensures.safe in
    omega (arith, few, added, size)

pub returns-in-Gate-clause-few : goal.returns-in-Gate-clause-few
returns-in-Gate-clause-few g c =
    let size : c.revision-count.result ≡ length c.restore_all.new.market.standing.history =
    counts_changes g (goal.at.returns-in-Gate-clause-few g c).After-revision-count in
    let few = few_changes c.restore_all.new.market.market
    c.restore_all.new.market.standing.history c.history.ensures.safe in
    omega (arith, few, size)

pub returns-in_err-restore_all-clause-refused : goal.returns-in_err-restore_all-clause-refused
returns-in_err-restore_all-clause-refused g c n bytes f named is told =
    let market = c.args.market.now.market in
    let found = c.in_ok-found.found in
    let p = err_from_is_err_and c.from_residual-in_err-restore_all.result
    c.from_residual-in_err-restore_all.ensures.1 in
    rw (p.1, p.2) (records_refused market bytes f (contents found.records.items)
    c.in_err-restore_all.field-0.0
    (has_records bytes f (contents found.records.items) found.end
    (c.in_ok-found.ensures.stands n bytes f named is told)
    (c.in_ok-found.ensures.broken n bytes f named is told))
    (fault_from_opening market c.args.market.now.standing.history
    found.records.items c.deref.result.now c.in_err-restore_all.field-0.0
    (ap (λ (s : Standing). s.history) c.requires.opening) c.deref.ensures.value
    (c.in_err-restore_all.ensures.fault market
    (at_first c.args.market.now c.requires.opening))))

pub returns-in-Gate-clause-resumed : goal.returns-in-Gate-clause-resumed
returns-in-Gate-clause-resumed g c n bytes f named is told =
    let path = (goal.at.returns-in-Gate-clause-resumed g c).After-revision-count in
    subst (λ (store : StoreOf). IsResumed c.args.market.now.market bytes f
    c.restore_all.new.market.standing.history
    (g.K.Disk.file c.open_store.new.disk n) (g.K.Disk.may_leave c.open_store.new.disk n) store
    c.revision-count.result) (sym c.new.ensures) (record {
      records = contents c.in_ok-found.found.records.items;
      gives = record {
        stands_for = rw c.in-Gate.is at (c.in_ok-found.ensures.stands n bytes f named is told);
        taken = all_taken g path;
      };
      number = counts_contents g path;
      held = record {
        settled = rw c.in-Gate.is at (c.in_ok-found.ensures.settled n bytes f named is told);
        bytes = refl;
        are = All-nil (λ (r : List ℕ). IsLength (length r));
      };
    })

pub returns-in-Gate-clause-ready : goal.returns-in-Gate-clause-ready
returns-in-Gate-clause-ready g c =
    let number : c.revision-count.result ≡ length c.in_ok-found.found.records.items =
    counts_records g (goal.at.returns-in-Gate-clause-ready g c).After-revision-count in
    let near = rw c.in-Gate.is at c.in_ok-found.ensures.near in
    subst (λ (store : StoreOf). IsReady (g.K.Disk.is_open c.open_store.new.disk)
    (g.K.Disk.file c.open_store.new.disk (g.K.Disk.open_name c.open_store.new.disk)) store
    c.revision-count.result) (sym c.new.ensures) (record {
      open_file = subst IsTrue (sym c.open_store.ensures.stays) c.requires.is_open;
      place = subst (λ (name : List ℕ). IfSome (g.K.Disk.file c.open_store.new.disk name)
          (λ f. c.in-Gate.gate < length f)) (sym c.open_store.ensures.stays_name)
          (rw c.in-Gate.is at c.in_ok-found.ensures.place);
      near = omega (arith, near, number, c.requires.size);
    })

pub returns-in-Malformed-clause-refused : goal.returns-in-Malformed-clause-refused
returns-in-Malformed-clause-refused g c n bytes f named is told =
    let path = (goal.at.returns-in-Malformed-clause-refused g c).After-revision-count in
    let number : c.revision-count.result ≡ length (contents c.in_ok-found.found.records.items) =
    counts_contents g path in
    inl (record {
      before = contents c.in_ok-found.found.records.items;
      broken = rw c.in-Malformed.is at (c.in_ok-found.ensures.broken n bytes f named is told);
      place = omega (arith, number);
      history = c.restore_all.new.market.standing.history;
      taken = all_taken g path;
    })

pub returns-in_err-found-clause-images : goal.returns-in_err-found-clause-images
returns-in_err-found-clause-images g c =
    old_or_empty g (goal.at.returns-in_err-found-clause-images g c).After-open_store

pub returns-in_err-restore_all-clause-images : goal.returns-in_err-restore_all-clause-images
returns-in_err-restore_all-clause-images g c =
    old_or_empty g (goal.at.returns-in_err-restore_all-clause-images g c).After-open_store

pub returns-in-Gate-clause-images : goal.returns-in-Gate-clause-images
returns-in-Gate-clause-images g c =
    old_or_empty g (goal.at.returns-in-Gate-clause-images g c).After-open_store

pub returns-in-Malformed-clause-images : goal.returns-in-Malformed-clause-images
returns-in-Malformed-clause-images g c =
    old_or_empty g (goal.at.returns-in-Malformed-clause-images g c).After-open_store

pub returns-in_err-found-clause-market : goal.returns-in_err-found-clause-market
returns-in_err-found-clause-market g c = at_first c.args.market.now c.requires.opening

pub returns-in_err-restore_all-clause-market : goal.returns-in_err-restore_all-clause-market
returns-in_err-restore_all-clause-market g c =
    c.restore_all.ensures.market c.args.market.now.market
    (at_first c.args.market.now c.requires.opening)

pub returns-in-Gate-clause-market : goal.returns-in-Gate-clause-market
returns-in-Gate-clause-market g c =
    c.restore_all.ensures.market c.args.market.now.market
    (at_first c.args.market.now c.requires.opening)

pub returns-in-Malformed-clause-market : goal.returns-in-Malformed-clause-market
returns-in-Malformed-clause-market g c =
    c.restore_all.ensures.market c.args.market.now.market
    (at_first c.args.market.now c.requires.opening)

pub returns-in-Gate-clause-few_added : goal.returns-in-Gate-clause-few_added
returns-in-Gate-clause-few_added g c =
    few_additions c.restore_all.new.market.market c.restore_all.new.market.standing.history
    c.history.ensures.safe
