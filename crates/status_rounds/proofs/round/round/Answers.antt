use Rattle.std.proofs.Common.{◌≡◌, refl, ap, length, not, arith, vec_len}
use Rattle.hh_term.specs.ProgramView.{kernel_of}
use Rattle.hh_term.specs.Views.{control_in}
use Rattle.status_table.specs.declared.state.Pass.{Pass}
use Rattle.status_rounds.proofs.Declared.{rules_declared}
use Rattle.status_rounds.proofs.Going.{table_fits, raises_in, raises_none, raises_some, round_went}
use Rattle.status_rounds.proofs.Going.{round_ready}
use Rattle.status_rounds.proofs.round.round.Goals as goal

pub visit-requires-clause-fits : goal.visit-requires-clause-fits
visit-requires-clause-fits c = table_fits (kernel_of c.args.program.now) c.args.table.now c.args.pass.now
    c.args.pass.now c.requires refl c.args.program.now.rules

pub conclude_all-requires-clause-cells : goal.conclude_all-requires-clause-cells
conclude_all-requires-clause-cells c =
    let d = rules_declared (kernel_of c.args.program.now) c.args.program.now.rules in
    let e = ap length c.in_ok-visit.ensures.signals in
    let f = c.requires.signals in
    omega (arith, d, e, f)

pub conclude_all-requires-clause-tallies : goal.conclude_all-requires-clause-tallies
conclude_all-requires-clause-tallies c =
    let d = rules_declared (kernel_of c.args.program.now) c.args.program.now.rules in
    let e = c.in_ok-visit.ensures.tallies.count in
    let f = c.in_ok-give.ensures.count in
    let g = c.requires.tallies in
    omega (arith, d, e, f, g)

pub put_raises-requires : goal.put_raises-requires
put_raises-requires c =
    let b0 = c.args.pass.now in
    let b1 : Pass = record { cells = b0.cells; tallies = c.give.new.tallies; raised = b0.raised } in
    raises_in (kernel_of c.args.program.now) (control_in c.args.marked.now) c.args.inputs.now c.args.table.now
    b0
    b1 c.visit.new.pass c.conclude_all.new.pass c.args.program.now.rules c.requires refl refl
    c.in_ok-give.ensures c.in_ok-visit.ensures c.in_ok-changed.ensures.raised

pub returns-clause-ready : goal.returns-clause-ready
returns-clause-ready c =
    let b0 = c.args.pass.now in
    let b1 : Pass = record { cells = b0.cells; tallies = c.give.new.tallies; raised = b0.raised } in
    let b3 = c.conclude_all.new.pass in
    let r = c.is_empty-raises.result in
    let len : length b3.raised.items ≡ vec_len b3.raised = omega (arith, b3.raised.ok) in
    round_ready (kernel_of c.args.program.now) (control_in c.args.marked.now) c.args.inputs.now
    c.args.table.now b0
    b1 c.visit.new.pass b3 c.args.program.now.rules c.requires refl refl c.in_ok-give.ensures
    c.in_ok-visit.ensures c.in_ok-changed.ensures.raised c.put_raises.new.table c.in_ok-changed.changed
    (not r)
    c.in_ok-changed.ensures c.put_raises.ensures.taken
    (raises_none b3.raised.items (vec_len b3.raised) r len c.is_empty-raises.ensures)
    (raises_some b3.raised.items (vec_len b3.raised) r len c.is_empty-raises.ensures)
    (record { cells = b3.cells; tallies = b3.tallies; raised = c.put_raises.new.raised }) refl refl refl
    c.put_raises.ensures.none refl c.put_raises.ensures.shape

pub returns-clause-went : goal.returns-clause-went
returns-clause-went c =
    let b0 = c.args.pass.now in
    let b1 : Pass = record { cells = b0.cells; tallies = c.give.new.tallies; raised = b0.raised } in
    let b3 = c.conclude_all.new.pass in
    let r = c.is_empty-raises.result in
    let len : length b3.raised.items ≡ vec_len b3.raised = omega (arith, b3.raised.ok) in
    round_went (kernel_of c.args.program.now) (control_in c.args.marked.now) c.args.inputs.now
    c.args.table.now b0
    b1 c.visit.new.pass b3 c.args.program.now.rules c.requires refl refl c.in_ok-give.ensures
    c.in_ok-visit.ensures c.in_ok-changed.ensures.raised c.put_raises.new.table c.in_ok-changed.changed
    (not r)
    c.in_ok-changed.ensures c.put_raises.ensures.taken
    (raises_none b3.raised.items (vec_len b3.raised) r len c.is_empty-raises.ensures)
    (raises_some b3.raised.items (vec_len b3.raised) r len c.is_empty-raises.ensures)
