use Rattle.std.proofs.Common.{◌≡◌, ℕ, List, ◌++◌, subst, ◌∙◌}
use Rattle.mk_command.specs.Commands.{command_of}
use Rattle.mk_audit.specs.inner.Progress.{left_of}
use Rattle.mk_audit.proofs.Found.{price_leaves, price_passed}
use Rattle.mk_audit.proofs.front.Front.passes_price.Goals as goal

pub returns-then-print_plain_price-clause-market : goal.returns-then-print_plain_price-clause-market
returns-then-print_plain_price-clause-market c =
    (c.print_plain_price.ensures.priced c.if-print_plain_price.true).answered.market

pub returns-then-print_plain_price-clause-standing :
    goal.returns-then-print_plain_price-clause-standing
returns-then-print_plain_price-clause-standing c =
    price_leaves c.args.market.now c.print_plain_price.new.market (command_of c.args.command.now)
    c.print_plain_price.new.print.bytes
    (c.print_plain_price.ensures.priced c.if-print_plain_price.true)

pub returns-then-print_plain_price-clause-passed :
    goal.returns-then-print_plain_price-clause-passed
returns-then-print_plain_price-clause-passed c = λ yes line busy asks.
    let passed = c.passes.ensures.passed yes in
    let self = c.args.self.now in
    price_passed c.args.market.now c.print_plain_price.new.market line
    (command_of c.args.command.now) c.print_plain_price.new.print.bytes c.args.transcript.now self
    c.passes.new.self c.requires.known busy asks
    (c.print_plain_price.ensures.priced c.if-print_plain_price.true) c.passes.ensures.known
    (subst (λ (bytes : List ℕ). left_of c.args.transcript.now self
    ≡ bytes ++ left_of c.args.transcript.now c.passes.new.self)
    (c.as_bytes.ensures.value ∙ c.deref.ensures.0) passed.0)
    passed.1
