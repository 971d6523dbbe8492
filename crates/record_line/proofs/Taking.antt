-- What is read as it is written is taken.
use Rattle.std.proofs.Common.{ℕ, List, Bool, Result}
use Rattle.net_list.specs.declared.record.NetTest.{NetTest}
use Rattle.net_list.specs.declared.record.NetEmit.{NetEmit}
use Rattle.net_list.specs.declared.record.NetExec.{NetExec}
use Rattle.net_text.specs.Lines.{test_line, emit_line, exec_line}
use Rattle.net_line.specs.declared.fault.LineFault.{LineFault}
use Rattle.net_line.specs.Reading.{Reads}
use Rattle.net_line.specs.Taken.{Takes}
use Rattle.net_line.proofs.Taking.{taken}
use Rattle.record_line.specs.RecordForm.{version_of, IsTestForm, IsEmitForm, IsExecForm}
use Rattle.record_line.specs.RecordReading.{test_row, emit_row, exec_row}
use Rattle.record_line.proofs.Rows.{reads_test, reads_emit, reads_exec}

pub test_taken : (later : Bool) (old : List ℕ) (result : Result NetTest LineFault) (new : List ℕ)
    → Reads (test_row later old) result new
    → Takes (test_line (version_of later)) (IsTestForm later) old result new
test_taken later = taken (test_row later) (test_line (version_of later)) (IsTestForm later) (reads_test later)

pub emit_taken : (later : Bool) (old : List ℕ) (result : Result NetEmit LineFault) (new : List ℕ)
    → Reads (emit_row later old) result new
    → Takes (emit_line (version_of later)) (IsEmitForm later) old result new
emit_taken later = taken (emit_row later) (emit_line (version_of later)) (IsEmitForm later) (reads_emit later)

pub exec_taken : (later : Bool) (old : List ℕ) (result : Result NetExec LineFault) (new : List ℕ)
    → Reads (exec_row later old) result new
    → Takes (exec_line (version_of later)) (IsExecForm later) old result new
exec_taken later = taken (exec_row later) (exec_line (version_of later)) (IsExecForm later) (reads_exec later)
