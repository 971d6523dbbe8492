use Rattle.std.proofs.Common.{List, ℕ, Option}
use Rattle.std.specs.Prelude.{option_map}
use Rattle.net_text.specs.Lines.{signal_line}
use Rattle.net_line.specs.Formed.{IsSignalForm}
use Rattle.net_line.specs.SignalReading.{signal_row, named}
use Rattle.net_line.proofs.Signals.{reads_signal}
use Rattle.net_line.proofs.Taking.{seen}
use Rattle.net_line.proofs.unread.Unread.signal.Goals as goal

pub returns-clause-takes : goal.returns-clause-takes
returns-clause-takes c =
    seen c.signal_row.result (λ s. named s.1 (option_map (λ w. w.now) s.0)) signal_row signal_line
    IsSignalForm
    reads_signal c.args.self.now c.signal_row.new.self c.signal_row.ensures
