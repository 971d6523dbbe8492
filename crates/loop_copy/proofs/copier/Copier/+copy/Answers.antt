use Rattle.std.proofs.Common.{◌<◌, refl, ap, ◌∙◌, length, arith}
use Rattle.std.specs.Vec.{with_item}
use Rattle.hh_term.specs.ProgramView.{kernel_of}
use Rattle.hh_term.specs.Views.{statement_of}
use Rattle.loop_copy.specs.Renaming.{numbers_in}
use Rattle.loop_copy.specs.Numbered.{numbered}
use Rattle.loop_copy.proofs.Copying.{copies_local}
use Rattle.loop_copy.proofs.copier.Copier.+copy.Goals as goal

pub scope-returns : goal.scope-returns
scope-returns t c =
    let K = kernel_of c.args.program.now in
    let before = c.args.self.now in
    let known = c.requires.known in
    let lies = c.requires.lies.0 in
    let there : c.args.signal < length before.numbers.items = omega (arith, known, lies) in
    let after = record c.statement.new.self {
      numbers = with_item c.statement.new.self.numbers c.args.signal c.number_in-outer.result;
    } in
    copies_local K (numbered before) (numbered c.declare.new.self) (numbered c.statement.new.self) (numbered after)
    c.args.signal c.in_ok-number.number c.number_in-outer.result (statement_of c.args.body.now) (statement_of c.in_ok-body.body)
    there c.in_ok-number.ensures c.in_ok-body.ensures
    (c.number_in-outer.ensures ∙ ap (λ ns. numbers_in ns c.args.signal) c.deref.ensures.value) refl refl refl
