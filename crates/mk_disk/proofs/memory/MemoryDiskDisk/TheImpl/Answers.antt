use Rattle.std.proofs.Common.{ap, is_some, rules}
use Rattle.mk_disk.specs.Memory.{MemoryState, opened_name}
use Rattle.mk_disk.proofs.Telling.{caused, same_seen, same_left, same_time, durable_of, synced_seen, synced_left, synced_time, written_of, wrote_torn, others_seen, others_left, wrote_time, opened_of, named_of, still_open, still_named}
use Rattle.mk_disk.proofs.memory.MemoryDiskDisk.TheImpl.Goals as goal

pub open-tells : goal.open-tells
open-tells c =
    let old = c.args.self.now in
    let new = c.new.self.now in
    record {
      cause = caused old.calls new.calls c.result c.ensures.called;
      opened = opened_of new c.args.name.now c.result c.ensures.opened;
      opened_name = named_of new c.args.name.now c.result c.ensures.opened;
      not_opened = still_open old new c.result c.ensures.not_opened;
      not_opened_name = still_named old new c.result c.ensures.not_opened;
      files = λ n. same_seen old.events new.events n c.ensures.events;
      images = λ n. same_left old.events new.events n c.ensures.events;
      time = λ n. same_time old.events new.events n c.ensures.events;
    }

pub length-tells : goal.length-tells
length-tells c =
    let old = c.args.self.now in
    let new = c.new.self.now in
    let events = ap (λ (d : MemoryState). d.events) c.ensures.same in
    record {
      cause = caused old.calls new.calls c.result c.ensures.called;
      amount = c.ensures.amount;
      stays = ap (λ (d : MemoryState). is_some d.opened) c.ensures.same;
      stays_name = ap opened_name c.ensures.same;
      files = λ n. same_seen old.events new.events n events;
      images = λ n. same_left old.events new.events n events;
      time = λ n. same_time old.events new.events n events;
    }

pub read_at-tells : goal.read_at-tells
read_at-tells c =
    let old = c.args.self.now in
    let new = c.new.self.now in
    let events = ap (λ (d : MemoryState). d.events) c.ensures.same in
    record {
      cause = caused old.calls new.calls c.result c.ensures.called;
      bound = c.ensures.bound;
      reads = c.ensures.reads;
      stays = ap (λ (d : MemoryState). is_some d.opened) c.ensures.same;
      stays_name = ap opened_name c.ensures.same;
      files = λ n. same_seen old.events new.events n events;
      images = λ n. same_left old.events new.events n events;
      time = λ n. same_time old.events new.events n events;
    }

pub write_at-tells : goal.write_at-tells
write_at-tells c =
    let old = c.args.self.now in
    let new = c.new.self.now in
    let name = opened_name c.args.self.now in
    let within = c.requires.place in
    let written = c.ensures.written in
    let failed = c.ensures.failed in
    record {
      cause = caused old.calls new.calls c.result c.ensures.called;
      written = written_of name old.events new.events c.args.at c.args.bytes.now within c.result written;
      told = search rules;
      torn = wrote_torn name old.events new.events c.args.at c.args.bytes.now within _ c.result written failed;
      stays = ap is_some c.ensures.opened;
      stays_name = ap (λ o. opened_name (record old { opened = o })) c.ensures.opened;
      others = others_seen name old.events new.events c.args.at c.args.bytes.now _ c.result written failed;
      other_images = others_left name old.events new.events c.args.at c.args.bytes.now _ c.result written failed;
      time = wrote_time name old.events new.events c.args.at c.args.bytes.now _ c.result written failed;
    }

pub sync-tells : goal.sync-tells
sync-tells c =
    let old = c.args.self.now in
    let new = c.new.self.now in
    let name = opened_name c.args.self.now in
    record {
      cause = caused old.calls new.calls c.result c.ensures.called;
      durable = durable_of name old.events new.events c.result c.ensures.synced;
      stays = ap is_some c.ensures.opened;
      stays_name = ap (λ o. opened_name (record old { opened = o })) c.ensures.opened;
      files = synced_seen name old.events new.events c.result c.ensures.synced c.ensures.unchanged;
      images = synced_left name old.events new.events c.result c.ensures.synced c.ensures.unchanged;
      time = synced_time name old.events new.events c.result c.ensures.synced c.ensures.unchanged;
    }
