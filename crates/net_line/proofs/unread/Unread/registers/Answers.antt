use Rattle.std.proofs.Common.{List, ℕ, codes}
use Rattle.net_text.specs.Lines.{gate_line, register_line}
use Rattle.net_text.specs.NetText.{section}
use Rattle.net_line.specs.Formed.{IsGateForm, IsRegisterForm, IsSectionForm}
use Rattle.net_line.specs.GateReading.{gate_line_of, register_line_of, section_of}
use Rattle.net_line.proofs.Taking.{seen, reads_registers, reads_gates}
use Rattle.net_line.proofs.unread.Unread.registers.Goals as goal

pub returns : goal.returns
returns c =
    seen c.register_rows.result (λ v. v.items) (section_of (codes "registers") register_line_of) (section
    (codes "registers") register_line)
    (IsSectionForm IsRegisterForm) reads_registers c.args.self.now c.register_rows.new.self
    c.register_rows.ensures
