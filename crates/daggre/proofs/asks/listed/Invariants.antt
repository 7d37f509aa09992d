use Rattle.daggre.proofs.Listing.{IsListing}
use Rattle.daggre.proofs.asks.listed.Given as goal

abbrev pub invariant-loop-word : goal.invariant-loop-word
invariant-loop-word l = IsListing (λ w. w.now) l.words l.word-index l.pairs
