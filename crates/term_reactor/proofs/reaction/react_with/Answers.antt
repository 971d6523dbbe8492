use Rattle.std.proofs.Common.{arith}
use Rattle.hh_term.specs.ProgramView.{kernel_of}
use Rattle.term_reactor.proofs.Turning.{asks_interface, asks_room, refuses, completes, from_nothing}
use Rattle.term_reactor.proofs.reaction.react_with.Goals as goal

pub ending_of-requires : goal.ending_of-requires
ending_of-requires c =
    asks_interface (kernel_of c.args.program.now) c.args.stand.now c.args.inputs.now c.enter.new.self.instances c.args.last c.in_ok-end.end c.in_ok-end.ensures c.requires.keeps.lasts

pub completed-requires : goal.completed-requires
completed-requires c =
    asks_room (kernel_of c.args.program.now) c.args.stand.now c.args.kinds.now c.args.inputs.now c.args.waiting c.args.last c.in_ok-instances.instances c.enter.new.self c.in_ok-end.end c.in_ok-reply.field-0
    c.in_ok-instances.ensures c.in_ok-enter.ensures.ok c.requires.kinds c.requires.last c.in_ok-end.ensures c.in_ok-reply.ensures
    c.in-Finished.finish c.args.program.now.rules c.requires.keeps.stands c.requires.fresh (omega (arith, c.ranges.last.fits)) c.in-Finished.is

pub returns-in-Refused : goal.returns-in-Refused
returns-in-Refused c =
    refuses (kernel_of c.args.program.now) c.args.stand.now c.args.kinds.now c.args.inputs.now c.args.waiting c.args.last c.in_ok-instances.instances c.enter.new.self c.in_ok-end.end c.in_ok-reply.field-0
    c.in_ok-instances.ensures c.in_ok-enter.ensures.ok c.requires.kinds c.requires.last c.in_ok-end.ensures c.in_ok-reply.ensures
    c.in-Refused.reply c.refused.result c.in-Refused.is c.refused.ensures

pub returns-in-Finished : goal.returns-in-Finished
returns-in-Finished c =
    completes (kernel_of c.args.program.now) c.args.stand.now c.args.kinds.now c.args.inputs.now c.args.waiting c.args.last c.in_ok-instances.instances c.enter.new.self c.in_ok-end.end c.in_ok-reply.field-0
    c.in_ok-instances.ensures c.in_ok-enter.ensures.ok c.requires.kinds c.requires.last c.in_ok-end.ensures c.in_ok-reply.ensures
    c.in-Finished.finish c.enter.new.out.items c.completed.result c.in-Finished.is (from_nothing c.enter.new.out.items c.new-told.result.items _ c.in_ok-enter.ensures.told c.new-told.ensures.items) c.completed.ensures
