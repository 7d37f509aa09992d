use Rattle.std.proofs.Common.{◌∙◌}
use Rattle.mk_reply.proofs.ReplyLaws.{read_again}
use Rattle.mk_reply.proofs.laws.read_printed.Goals as goal

pub returns : goal.returns
returns c = read_again _ c.args.reply.now c.read_reply.result c.requires
    (c.as_bytes.ensures.value ∙ c.deref.ensures.0 ∙ c.print_reply.ensures.text) c.read_reply.ensures.found c.read_reply.ensures.unread
