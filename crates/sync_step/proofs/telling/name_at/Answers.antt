use Rattle.std.proofs.Common.{ap, sym, ◌∙◌, refl, slice_get}
use Rattle.hh_term.specs.ProgramView.{kernel_of}
use Rattle.status_table.proofs.Reading.{read_here}
use Rattle.sync_step.proofs.Named.{none_at_all, none_more, one_name}
use Rattle.sync_step.proofs.telling.name_at.Goals as goal

pub loop-declared-preserved : goal.loop-declared-preserved
loop-declared-preserved c =
    let ds = c.signals-declared-items.result.now in
    let n = c.loop-declared.declared-index in
    none_more ds c.args.pos n c.declared-item.result c.loop-declared.invariant
    (read_here ds n c.declared-item.result c.declared-item.result c.loop-declared-test.true c.declared-item.is refl)
    c.if-declared-pos.false

pub returns-then-declared-pos : goal.returns-then-declared-pos
returns-then-declared-pos c s d here at =
    let ds = c.signals-declared-items.result.now in
    let n = c.loop-declared.declared-index in
    let x = c.declared-item.result in
    c.in_ok-name.ensures
    ∙ one_name (kernel_of c.args.program.now) n s x d c.args.program.now.rules
    (ap (λ z. slice_get z n) (sym c.signals-declared-items.ensures)
    ∙ read_here ds n x x c.loop-declared-test.true c.declared-item.is refl) here (c.if-declared-pos.true ∙ sym at)

pub returns : goal.returns
returns c s d here at =
    absurd (none_at_all c.signals-declared-items.result.now c.args.pos c.loop-declared.declared-index
    c.loop-declared-test.false c.loop-declared.invariant s d
    (ap (λ z. slice_get z s) c.signals-declared-items.ensures ∙ here) at)
