use Rattle.hh_term.specs.ProgramView.{kernel_of}
use Rattle.term_reactor.specs.Standing.{state_at}
use Rattle.term_reactor.proofs.Pumping.{not_empty, waits_first, waits_second, pump_turn}
use Rattle.term_reactor.proofs.machine.events.TermMachineReactor.pump.Goals.{else-is_empty-via-then-is_empty+else-is_empty-2, else-is_empty-via-else-is_empty}
use Rattle.term_reactor.proofs.machine.events.TermMachineReactor.pump.Goals as goal

pub take-requires : goal.take-requires
take-requires c =
    let K = kernel_of c.args.self.now.program in
    pump_turn K (state_at K c.args.self.now.stand) c.args.took.now c.in_ok-copy_answers.field-0 c.in_ok-turn.turn c.in_ok-copy_answers.ensures
    (elim c.else-is_empty.branch [
      | else-is_empty-via-then-is_empty+else-is_empty-2 w ↦ waits_first c.args.self.now.stand.pending c.args.took.now (not_empty w.is_empty-then-is_empty.result c.args.self.now.stand.pending w.if-is_empty-2.false w.is_empty-then-is_empty.ensures)
      | else-is_empty-via-else-is_empty w ↦ waits_second c.args.self.now.stand.pending c.args.took.now (not_empty c.is_empty.result c.args.took.now w.if-is_empty.false c.is_empty.ensures)
    ])
    c.in_ok-turn.ensures
