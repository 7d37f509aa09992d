use Rattle.std.proofs.Common.{ap, sym, ◌∙◌}
use Rattle.std.proofs.lemmas.List.{length-set}
use Rattle.mk_table.specs.declared.store.Head.{Head}
use Rattle.mk_table.proofs.Stored.{head_is, blank_store, blank_tables, blank_already}
use Rattle.mk_table.proofs.store.Store.blank.Goals as goal

pub returns-in-Written : goal.returns-in-Written
returns-in-Written c =
    let s = c.requires.opened.store in let all = c.requires.opened.heads in let within = c.requires.table in
    let same = head_is _ _ _ _ _ _ _ s all c.args.k within c.index_mut.result.now c.index_mut.ensures.value in
    let place = ap (λ (h : Head). h.place) (same ∙ sym (head_is _ _ _ _ _ _ _ s all c.args.k within c.index.result.now c.index.ensures)) ∙ c.in-Written.is in
    record {
      opened = record {
        store = blank_store _ _ _ _ _ _ _ s all c.args.k within c.index_mut.result.now c.index_mut.ensures.value c.in-Written.first place;
        heads = length-set c.args.self.now.heads.items c.args.k _ ∙ all;
      };
      tables = blank_tables _ _ _ _ _ _ _ s all c.args.k within c.index_mut.result.now c.index_mut.ensures.value c.in-Written.first place;
    }

pub returns-in_default : goal.returns-in_default
returns-in_default c =
    let read = head_is _ _ _ _ _ _ _ c.requires.opened.store c.requires.opened.heads c.args.k c.requires.table c.index.result.now c.index.ensures in
    record {
      opened = c.requires.opened;
      tables = blank_already _ _ _ _ c.args.k c.requires.table (λ g w. c.in_default.not-Written g (ap (λ (h : Head). h.place) read ∙ w));
    }
