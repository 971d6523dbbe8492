-- The gates and records of a statement. (After Berry's translation, The Constructive Semantics of Pure
-- Esterel; the order of gates, and those for asyncs, values and previous statuses, are this project's own.)
use Rattle.std.specs.Prelude.{ℕ, suc, false, ◌==◌, cond, Option, Some, None, List, [], ◌∷◌, length}
use Rattle.std.specs.Prelude.{option_to_list, slice_get}
use Rattle.hh_base.specs.declared.value.Pos.{Pos}
use Rattle.host_expr.specs.declared.expr.Expr.{Expr}
use Rattle.hh_term.specs.declared.program.SignalDecl.{SignalDecl}
use Rattle.hh_term.specs.declared.program.Site.{Site}
use Rattle.hh_term.specs.Placed.{Placed, PlacedKernel, Nothing, Pause, Emit, If, Suspend, Seq, Par, Loop}
use Rattle.hh_term.specs.Placed.{Trap, Exit, Local, Async}
use Rattle.net_list.specs.declared.gate.NetGate.{NetGate}
use Rattle.net_list.specs.declared.gate.NetGate.TheVariants as gate
use Rattle.net_list.specs.declared.gate.NetGate.TheVariants.{Not, And, Or, Reg}
use Rattle.net_list.specs.declared.record.Sent.{Sent}
use Rattle.net_list.specs.declared.record.Sent.TheVariants as sent
use Rattle.net_list.specs.declared.record.NetSignal.{NetSignal}
use Rattle.net_list.specs.declared.record.NetEmit.{NetEmit}
use Rattle.net_list.specs.declared.record.NetExec.{NetExec}
use Rattle.net_block.specs.declared.ends.Controls.{Controls}
use Rattle.net_block.specs.Parts.{up, Parts, From, only_gates, ◌⊕◌, past, behind}
use Rattle.net_block.specs.Written.{written, written_site}
use Rattle.net_block.specs.Codes.{CodeGates, code_gate, gate_or_zero, only_code, without_end, side_by_side}
use Rattle.net_block.specs.Codes.{merged, synchronized, trapped, suspended}

-- its gates and records, the gate of its selection, and those of its completion codes
pub record Block : Type 0 where
  pub parts : Parts
  pub sel : ℕ
  pub codes : CodeGates

-- the gates that are 1 where signal s is emitted
abbrev pub emitters : ℕ → List NetEmit → List ℕ
emitters s [] = []
emitters s (e ∷ es) = cond (e.signal == s) (e.control ∷ emitters s es) (emitters s es)

abbrev pub sent_value : Option (Expr ℕ) → Sent
sent_value (Some e) = sent.Computed (written e)
sent_value None = sent.Nothing

-- a statement that never rests, and ends with code c at once
abbrev pub instant : ℕ → ℕ → Block
instant c go = record { parts = only_gates []; sel = 0; codes = only_code c go }

abbrev pub emit_block : Pos → ℕ → Option (Expr ℕ) → Controls → Block
emit_block at s e w =
    let made : NetEmit = record { control = w.go; signal = s; sent = sent_value e; pos = at } in
    record {
      parts = record (only_gates []) { emits = made ∷ [] };
      sel = 0;
      codes = only_code 0 w.go;
    }

abbrev pub pause_block : From → Controls → Block
pause_block n w =
    let rests = n.gate in
    let ends = up 1 n.gate in
    record {
      parts =
          record (only_gates (
          Reg n.register ∷ And (rests ∷ w.resume ∷ []) ∷ And (rests ∷ w.suspend ∷ [])
          ∷ Or (w.go ∷ up 2 n.gate ∷ []) ∷ Not w.kill ∷ And (up 3 n.gate ∷ up 4 n.gate ∷ []) ∷ []
          )) {
            registers = (false, up 5 n.gate) ∷ [];
          };
      sel = rests;
      codes = Some ends ∷ Some w.go ∷ [];
    }

-- an answer ends it where it is the last one (`Answer`), and is used where it is not (`Part`)
abbrev pub async_gates : ℕ → From → Controls → List NetGate
async_gates x n w =
    Reg n.register ∷ gate.Answer x ∷ gate.Part x ∷ And (n.gate ∷ w.resume ∷ [])
    ∷ And (up 3 n.gate ∷ up 1 n.gate ∷ []) ∷ And (up 3 n.gate ∷ up 2 n.gate ∷ [])
    ∷ Not (up 1 n.gate) ∷ And (up 3 n.gate ∷ up 6 n.gate ∷ [])
    ∷ Or (w.go ∷ up 7 n.gate ∷ []) ∷ And (n.gate ∷ w.suspend ∷ [])
    ∷ Or (up 8 n.gate ∷ up 9 n.gate ∷ []) ∷ Not w.kill
    ∷ And (up 10 n.gate ∷ up 11 n.gate ∷ []) ∷ Or (up 4 n.gate ∷ up 5 n.gate ∷ []) ∷ []

abbrev pub async_record : Pos → Site → From → Controls → NetExec
async_record at site n w =
    record {
      site = written_site site;
      go = w.go;
      reg = n.gate;
      end = up 4 n.gate;
      used = up 5 n.gate;
      held = up 9 n.gate;
      resumed = up 7 n.gate;
      next = up 12 n.gate;
      pos = at;
    }

-- the answers of site x are sent to this signal
abbrev pub answers : Pos → ℕ → ℕ → ℕ → NetEmit
answers at x control s = record { control = control; signal = s; sent = sent.Answer x; pos = at }

abbrev pub optional : {A B : Type 0} → (A → B) → Option A → List B
optional f (Some x) = f x ∷ []
optional f None = []

abbrev pub target_of : Option Site → Option ℕ
target_of (Some a) = a.signal
target_of None = None

abbrev pub async_block : Pos → ℕ → Option Site → From → Controls → Block
async_block at x site n w =
    record {
      parts =
          record (only_gates (async_gates x n w)) {
            registers = (false, up 12 n.gate) ∷ [];
            emits = optional (answers at x (up 13 n.gate)) (target_of site);
            execs = optional (λ a. async_record at a n w) site;
          };
      sel = n.gate;
      codes = Some (up 4 n.gate) ∷ Some (up 8 n.gate) ∷ [];
    }

-- a test whose control is a gate
abbrev pub test_parts : Pos → ℕ → Expr ℕ → List NetGate → Parts
test_parts at control e gates =
    record (only_gates gates) { tests = record { control = control; expr = written e; pos = at } ∷ [] }

-- one part behind the other, and what joins them: the gate of the selection, and the gates of the codes
abbrev pub joined_blocks : Parts → Block → Block → List NetGate → ℕ → CodeGates → Block
joined_blocks head a b gates sel codes =
    record { parts = head ⊕ (a.parts ⊕ (b.parts ⊕ only_gates gates)); sel = sel; codes = codes }

-- the block of the statement with numbers from n on
abbrev pub block : PlacedKernel → Placed → From → Controls → Block
block K (Nothing at) n w = instant 0 w.go
block K (Pause at) n w = pause_block n w
block K (Emit at s e) n w = emit_block at s e w
block K (Exit at k) n w = instant (suc (suc k)) w.go
block K (Async at x) n w = async_block at x (slice_get K.sites x) n w
block K (If at e p q) n w =
    let test = n.gate in
    let then = up 1 n.gate in
    let not = up 2 n.gate in
    let other = up 3 n.gate in
    let head = test_parts at w.go e
    (gate.Test n.test ∷ And (w.go ∷ test ∷ []) ∷ Not test ∷ And (w.go ∷ not ∷ []) ∷ []) in
    let a = block K p (past 4 0 1 n) (record w { go = then }) in
    let m = behind a.parts (past 4 0 1 n) in
    let b = block K q m (record w { go = other }) in
    let sel = up (length b.parts.gates) m.gate in
    let codes = merged (up 1 sel) (side_by_side a.codes b.codes) in
    joined_blocks head a b (Or (a.sel ∷ b.sel ∷ []) ∷ codes.1) sel codes.0
block K (Seq at p q) n w =
    let a = block K p n w in
    let m = behind a.parts n in
    let b = block K q m (record w { go = gate_or_zero (code_gate a.codes 0) }) in
    let sel = up (length b.parts.gates) m.gate in
    let codes = merged (up 1 sel) (side_by_side (without_end a.codes) b.codes) in
    joined_blocks (only_gates []) a b (Or (a.sel ∷ b.sel ∷ []) ∷ codes.1) sel codes.0
block K (Par at p q) n w =
    let a = block K p n w in
    let m = behind a.parts n in
    let b = block K q m w in
    let sel = up (length b.parts.gates) m.gate in
    let left_dead = up 2 sel in
    let right_dead = up 4 sel in
    let codes = synchronized (up 5 sel) left_dead right_dead (side_by_side a.codes b.codes) in
    joined_blocks (only_gates []) a b (
    Or (a.sel ∷ b.sel ∷ []) ∷ Not a.sel ∷ And (sel ∷ up 1 sel ∷ []) ∷ Not b.sel
    ∷ And (sel ∷ up 3 sel ∷ []) ∷ codes.1
    ) sel codes.0
block K (Loop at p) n w =
    let start = n.gate in
    let a = block K p (past 1 0 0 n) (record w { go = start }) in
    record {
      parts = only_gates (Or (w.go ∷ option_to_list (code_gate a.codes 0)) ∷ []) ⊕ a.parts;
      sel = a.sel;
      codes = without_end a.codes;
    }
block K (Trap at p) n w =
    let kill = n.gate in
    let a = block K p (past 1 0 0 n) (record w { kill = kill }) in
    let codes = trapped (up (length a.parts.gates) (up 1 n.gate)) a.codes in
    record {
      parts =
          only_gates (Or (w.kill ∷ option_to_list (code_gate a.codes 2)) ∷ [])
          ⊕ (a.parts ⊕ only_gates codes.1);
      sel = a.sel;
      codes = codes.0;
    }
block K (Suspend at e p) n w =
    let test = n.gate in
    let not = up 1 n.gate in
    let runs = up 2 n.gate in
    let holds = up 3 n.gate in
    let suspends = up 4 n.gate in
    let a = block K p (past 5 0 1 n) (record w { resume = runs; suspend = suspends }) in
    let control = up (length a.parts.gates) (up 5 n.gate) in
    let held = up 1 control in
    let codes = suspended (up 2 control) held a.codes in
    let head = test_parts at control e
    (gate.Test n.test ∷ Not test ∷ And (w.resume ∷ not ∷ []) ∷ And (w.resume ∷ test ∷ [])
    ∷ Or (w.suspend ∷ holds ∷ []) ∷ []) in
    record {
      parts =
          head
          ⊕ (a.parts ⊕ only_gates (And (a.sel ∷ w.resume ∷ []) ∷ And (a.sel ∷ holds ∷ []) ∷ codes.1));
      sel = a.sel;
      codes = codes.0;
    }
block K (Local at s p) n w =
    let status = n.gate in
    let was = up 1 n.gate in
    let a = block K p (past 2 1 0 n) w in
    let pre = up (length a.parts.gates) (up 2 n.gate) in
    let next = up 2 pre in
    let signal : SignalDecl → NetSignal
    = λ d. record { decl = d; status = status; pre = pre; sel = a.sel } in
    let head : Parts = record (only_gates (Or (emitters s a.parts.emits) ∷ Reg n.register ∷ [])) {
      registers = (false, next) ∷ [];
      signals = optional signal (slice_get K.signals s);
    } in
    record {
      parts = head ⊕ (a.parts ⊕ only_gates (
          And (was ∷ a.sel ∷ []) ∷ And (a.sel ∷ w.suspend ∷ was ∷ []) ∷ Or (status ∷ up 1 pre ∷ []) ∷ []
          ));
      sel = a.sel;
      codes = a.codes;
    }
