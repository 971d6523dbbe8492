use Rattle.hh_term.specs.ProgramView.{kernel_of}
use Rattle.term_reactor.proofs.Declared.{none_unnamed, name_is}
use Rattle.term_reactor.proofs.ending.name_of.Goals as goal

pub unreachable-requires : goal.unreachable-requires
unreachable-requires c = none_unnamed (kernel_of c.args.program.now) c.signals.result.now c.args.signal c.index-signals-signal.result c.args.program.now.rules c.signals.ensures c.requires c.in-None.is

pub returns : goal.returns
returns c = name_is (kernel_of c.args.program.now) c.signals.result.now c.args.signal c.index-signals-signal.result c.in-Some.name c.in_ok-copy-in-Some.field-0 c.args.program.now.rules c.signals.ensures c.requires c.in-Some.is c.in_ok-copy-in-Some.ensures
