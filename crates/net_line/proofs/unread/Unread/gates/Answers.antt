use Rattle.std.proofs.Common.{List, ℕ, codes}
use Rattle.net_text.specs.Lines.{gate_line, register_line}
use Rattle.net_text.specs.NetText.{section}
use Rattle.net_line.specs.Formed.{IsGateForm, IsRegisterForm, IsSectionForm}
use Rattle.net_line.specs.GateReading.{gate_line_of, register_line_of, section_of}
use Rattle.net_line.proofs.Taking.{seen, reads_registers, reads_gates}
use Rattle.net_line.proofs.unread.Unread.gates.Goals as goal

pub returns : goal.returns
returns c =
    seen c.gate_rows.result (λ v. v.items) (section_of (codes "gates") (gate_line_of c.args.parts))
    (section (codes "gates") gate_line)
    (IsSectionForm (IsGateForm c.args.parts)) (reads_gates c.args.parts) c.args.self.now
    c.gate_rows.new.self c.gate_rows.ensures
