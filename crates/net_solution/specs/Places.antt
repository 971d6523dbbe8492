-- What the values of the code say: a lent question, and a valuation with what is known of each signal.
-- (This project's own.)
use Rattle.std.specs.Prelude.{◌≡◌, ℕ, false, List, [], map, get_or}
use Rattle.host_expr.specs.declared.cell.SigCell.{SigCell}
use Rattle.host_expr.specs.Environment.{env_of}
use Rattle.net_list.specs.declared.record.NetRecords.{NetRecords}
use Rattle.net_solution.specs.declared.question.Asked.{Asked}
use Rattle.net_solution.specs.declared.valuation.Before.{Before}
use Rattle.net_solution.specs.declared.valuation.Valuation.{Valuation as Place}
use Rattle.net_solution.specs.Question.{Question}
use Rattle.net_solution.specs.Seen.{View}
use Rattle.net_solution.specs.Equations.{Statuses}
use Rattle.net_solution.specs.Solution.{Valuation, statuses, view_of}

abbrev pub question_of : Asked → Question
question_of a =
    record {
      registers = a.registers.now;
      cells = a.cells.now.signals.items;
      answered = a.answered.now;
      given = a.given.now;
    }

abbrev pub neither : Before
neither = record { pre = false; base = false }

abbrev pub known_by : List Before → ℕ → Before
known_by before s = get_or before s neither

abbrev pub seen_by : List SigCell → List Before → View
seen_by cells before s = record { cell = env_of cells s; known = known_by before s }

abbrev pub seen_in : Place → View
seen_in v = seen_by v.cells.signals.items v.before.items

abbrev pub valuation_of : Place → Valuation
valuation_of v =
    record { gates = v.gates.items; values = map (λ c. c.value) v.cells.signals.items }

abbrev pub statuses_in : Place → Statuses
statuses_in v = statuses (valuation_of v)

-- what is known of signals is what the valuation says of them, and expressions read no parameters
pub record IsExact (N : NetRecords) (Q : Question) (v : Place) : Type 0 where
  pub view : (s : ℕ) → seen_in v s ≡ view_of N Q (valuation_of v) s
  pub args : v.cells.args.items ≡ []
