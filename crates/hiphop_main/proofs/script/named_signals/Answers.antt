use Rattle.hh_term.specs.ProgramView.{kernel_of}
use Rattle.hiphop_main.proofs.Scripts.{named}
use Rattle.hiphop_main.proofs.script.named_signals.Goals as goal

pub returns-clause-names : goal.returns-clause-names
returns-clause-names c =
    named (kernel_of c.args.program.now) c.signals.result.now c.interface_len-count.result c.signals.ensures c.interface_len-count.ensures c.interface_len-count.type_inv c.args.program.now.rules
