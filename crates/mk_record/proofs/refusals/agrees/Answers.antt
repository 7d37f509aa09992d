use Rattle.std.proofs.Common.{ℕ, [], Some, sym, ap, ◌∙◌}
use Rattle.std.specs.Prelude.{option_map, slice_index_or}
use Rattle.mk_net.specs.declared.words.PairText.{PairText}
use Rattle.mk_reply.specs.declared.refusal.Refusal.TheVariants.{Impossible}
use Rattle.mk_record.proofs.Refusing.{contradicted_is}
use Rattle.mk_record.proofs.refusals.agrees.Goals as goal

pub returns-in-Some : goal.returns-in-Some
returns-in-Some c network known pairs =
    let words = c.args.words.now in let d = c.index-words-place.result in
    ap (λ (p : PairText). Some (Impossible p)) c.index-words-place.is
    ∙ ap (option_map (λ (k : ℕ). Impossible (slice_index_or words k d))) c.in-Some.ensures.first
    ∙ sym (contradicted_is network c.args.journal.now.history words c.pairs.result.now d known (c.pairs.ensures.pairs ∙ pairs))

pub returns-in-None : goal.returns-in-None
returns-in-None c network known pairs =
    let words = c.args.words.now in
    ap (option_map (λ (k : ℕ). Impossible (slice_index_or words k no_words))) c.in-None.ensures.first
    ∙ sym (contradicted_is network c.args.journal.now.history words c.pairs.result.now no_words known (c.pairs.ensures.pairs ∙ pairs))
  where
    no_words : PairText
    no_words = record { variable = []; value = [] }
