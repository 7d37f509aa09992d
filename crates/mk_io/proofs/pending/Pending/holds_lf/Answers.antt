use Rattle.std.proofs.Common.{◌≡◌, Some, None, take, subst, true, false}
use Rattle.std.proofs.lemmas.Bool.{le-leb, leb-true}
use Rattle.memchr.specs.Find.{IsLastByte, is_byte}
use Rattle.mk_io.proofs.LastLf.{rest_left, some_left, not_later, not_none}
use Rattle.mk_io.proofs.pending.Pending.holds_lf.Goals as goal

pub returns-in-Some : goal.returns-in-Some
returns-in-Some c =
    let p = c.self.inside in
    let all = take p.to p.buf in
    let is = rest_left p.buf c.args.self.now p.from p.to c.self.invariant.0 c.self.view_is in
    let last : IsLastByte (is_byte 10) all (Some c.in-Some.at) =
    subst (IsLastByte (is_byte 10) all) c.in-Some.is c.self.invariant.2 in (
      (λ before. some_left all c.args.self.now p.from c.in-Some.at is last
          (leb-true p.from c.in-Some.at before)),
      (λ has. le-leb p.from c.in-Some.at
          (not_later all c.args.self.now p.from is has c.in-Some.at last)),
    )

pub returns-in-None : goal.returns-in-None
returns-in-None c =
    let p = c.self.inside in
    let all = take p.to p.buf in
    let is = rest_left p.buf c.args.self.now p.from p.to c.self.invariant.0 c.self.view_is in
    let none : IsLastByte (is_byte 10) all None =
    subst (IsLastByte (is_byte 10) all) c.in-None.is c.self.invariant.2 in (
      (λ e. absurd (let no : false ≡ true = e in cc)),
      (λ has. absurd (not_none all c.args.self.now p.from is has none)),
    )
