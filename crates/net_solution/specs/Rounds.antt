-- What a round gives, and how much is unknown. (This project's own.)
use Rattle.std.specs.Prelude.{ℕ, Bool, ◌||◌, not, List, length, filter, nat_lt}
use Rattle.hh_base.specs.declared.value.Tri.{Tri}
use Rattle.host_expr.specs.declared.cell.Cell.{Cell}
use Rattle.host_expr.specs.declared.cell.SigCell.{SigCell}
use Rattle.host_expr.specs.Environment.{is_decided, is_known}
use Rattle.net_list.specs.declared.record.NetSignal.{NetSignal}
use Rattle.net_list.specs.declared.record.NetRecords.{NetRecords}
use Rattle.net_solution.specs.declared.valuation.Before.{Before}
use Rattle.net_solution.specs.Question.{Question}
use Rattle.net_solution.specs.Seen.{View}
use Rattle.net_solution.specs.Equations.{Statuses, signal_value, seen_signal}
use Rattle.net_solution.specs.Solution.{Valuation}

-- the cell of signal s: its value from the round before, over γ and V, and the statuses of this round, δ
abbrev pub cell_given : NetRecords → Question → Statuses → View → Statuses → ℕ → NetSignal → SigCell
cell_given N Q γ V δ s d = (seen_signal Q δ (signal_value N Q γ V s d) s d).cell

abbrev pub known_given : Statuses → NetSignal → Before
known_given δ d = record { pre = is_decided (δ d.pre); base = is_decided (δ d.sel) }

abbrev pub open_gates : List Tri → ℕ
open_gates gates = length (filter (λ t. not (is_decided t)) gates)

abbrev pub open_values : List Cell → ℕ
open_values values = length (filter (λ c. not (is_known c)) values)

-- of these cells
abbrev pub open_cells : List SigCell → ℕ
open_cells cells = length (filter (λ c. not (is_known c.value)) cells)

-- fewer gates, or fewer values, are unknown in the first
abbrev pub has_more : Valuation → Valuation → Bool
has_more w v =
    nat_lt (open_gates w.gates) (open_gates v.gates) || nat_lt (open_values w.values) (open_values v.values)
