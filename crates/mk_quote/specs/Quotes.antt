-- What a quote keeps.
use Rattle.std.specs.Prelude.{◌≡◌, ℕ, Option}
use Rattle.mk_net.specs.Asked.{Asked}
use Rattle.mk_quote.specs.declared.bounds.Bounds.{Bounds}
use Rattle.mk_quote.specs.declared.quote.Quote.{Quote}
use Rattle.mk_quote.specs.Bounds.{limits_for}

abbrev pub user_of : Quote → ℕ
user_of quote = quote.user

abbrev pub question_of : Quote → Asked
question_of quote = quote.question

abbrev pub revision_of : Quote → ℕ
revision_of quote = quote.revision

abbrev pub bounds_of : Quote → Bounds
bounds_of quote = quote.bounds

abbrev pub limits_of : Quote → Option (ℕ × ℕ)
limits_of quote = limits_for (bounds_of quote)

-- it was made for this question, at this revision
pub record IsFor (quote : Quote) (asked : Asked) (revision : ℕ) : Type 0 where
  pub same_question : question_of quote ≡ asked
  pub same_revision : revision_of quote ≡ revision
