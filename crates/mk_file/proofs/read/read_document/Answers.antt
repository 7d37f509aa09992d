use Rattle.std.proofs.Common.{refl, rules}
use Rattle.toml.specs.Errors.{IsMemory}
use Rattle.toml.specs.View.{table_view}
use Rattle.mk_file.proofs.Documents.{document_read, document_refused}
use Rattle.mk_file.proofs.read.read_document.Goals as goal

pub returns-in-Ok-clause-document : goal.returns-in-Ok-clause-document
returns-in-Ok-clause-document c =
    document_read c.args.bytes.now (table_view c.in-Ok.document) c.in-Ok.ensures.ok.0 c.in-Ok.ensures.ok.1

pub returns-in-Err-2-clause-refused : goal.returns-in-Err-2-clause-refused
returns-in-Err-2-clause-refused c _ =
    let other : ¬ IsMemory c.in-Err.error = search rules in
    (refl, document_refused c.args.bytes.now (c.in-Err.ensures.refused other))
