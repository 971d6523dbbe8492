-- The equation of each gate and of each signal's value in a reaction. (Scott propagation: three-valued gates,
-- of which unknown is the least; values, tests and async answers are this project's own.)
use Rattle.std.specs.Prelude.{ℕ, Bool, true, false, cond, ◌==◌, Option, Some, None, List, []}
use Rattle.std.specs.Prelude.{◌∷◌, ◌++◌, map, slice_get}
use Rattle.std.specs.List.{list_any, list_all, flat_map}
use Rattle.hh_base.specs.declared.value.Kind.{Kind}
use Rattle.hh_base.specs.declared.value.Value.{Value}
use Rattle.hh_base.specs.declared.value.Value.TheVariants as value
use Rattle.hh_base.specs.declared.value.Tri.{Tri}
use Rattle.hh_base.specs.declared.value.Tri.TheVariants.{Unknown, Zero, One}
use Rattle.hh_base.specs.declared.value.CombineWord.{CombineWord}
use Rattle.host_expr.specs.declared.cell.Cell.{Cell}
use Rattle.host_expr.specs.declared.cell.Cell.TheVariants as cell
use Rattle.host_expr.specs.Environment.{is_decided, is_known, is_present, env_of, unsolved}
use Rattle.host_expr.specs.Expression.{expression_of}
use Rattle.host_expr.specs.Evaluation.{truth}
use Rattle.host_expr.specs.Combination.{combined, counts_as}
use Rattle.net_list.specs.declared.gate.NetGate.{NetGate}
use Rattle.net_list.specs.declared.gate.NetGate.TheVariants as gate
use Rattle.net_list.specs.declared.record.Sent.{Sent}
use Rattle.net_list.specs.declared.record.Sent.TheVariants as sent
use Rattle.net_list.specs.declared.record.NetSignal.{NetSignal}
use Rattle.net_list.specs.declared.record.NetTest.{NetTest}
use Rattle.net_list.specs.declared.record.NetEmit.{NetEmit}
use Rattle.net_list.specs.declared.record.NetRecords.{NetRecords}
use Rattle.net_solution.specs.Question.{Question, state_of, first_item, is_last_item, is_part_item}
use Rattle.net_solution.specs.Question.{item_value}
use Rattle.net_solution.specs.Question.{is_given}
use Rattle.net_solution.specs.Seen.{Seen, View, base_seen, expression_value}

-- a status for each gate
abbrev pub Statuses : Type 0
Statuses = ℕ → Tri

abbrev pub is_absent : Tri → Bool
is_absent Zero = true
is_absent _ = false

abbrev pub status_of_truth : Bool → Tri
status_of_truth true = One
status_of_truth false = Zero

abbrev pub opposite : Tri → Tri
opposite Zero = One
opposite One = Zero
opposite Unknown = Unknown

-- one 0 decides an `and`, and one 1 an `or`
abbrev pub and_over : Statuses → List ℕ → Tri
and_over γ gs =
    cond (list_any (λ g. is_absent (γ g)) gs) Zero
    (cond (list_all (λ g. is_present (γ g)) gs) One Unknown)

abbrev pub or_over : Statuses → List ℕ → Tri
or_over γ gs =
    cond (list_any (λ g. is_present (γ g)) gs) One
    (cond (list_all (λ g. is_absent (γ g)) gs) Zero Unknown)

-- the truth of its value, and 0 where it faults
abbrev pub test_status : Cell → Tri
test_status cell.Unknown = Unknown
test_status (cell.Known v) = status_of_truth (truth v)
test_status (cell.Faulted p k) = Zero

abbrev pub tested : View → Option NetTest → Cell
tested V (Some t) = expression_value (expression_of t.expr) V
tested V None = cell.Unknown

-- the equation of a gate, over the statuses of the others and what is known of signals
abbrev pub gate_value : NetRecords → Question → Statuses → View → NetGate → Tri
gate_value N Q γ V gate.Zero = Zero
gate_value N Q γ V gate.One = One
gate_value N Q γ V (gate.Not g) = opposite (γ g)
gate_value N Q γ V (gate.And gs) = and_over γ gs
gate_value N Q γ V (gate.Or gs) = or_over γ gs
gate_value N Q γ V (gate.Reg r) = status_of_truth (state_of Q r)
gate_value N Q γ V (gate.Test t) = test_status (tested V (slice_get N.tests t))
gate_value N Q γ V (gate.Input s) = status_of_truth (is_given Q s)
gate_value N Q γ V (gate.Answer x) = status_of_truth (is_last_item (first_item Q x))
gate_value N Q γ V (gate.Part x) = status_of_truth (is_part_item (first_item Q x))

-- whether an emission is made, and what it carries
abbrev pub Emission : Type 0
Emission = Tri × Cell

abbrev pub carried : Question → View → Kind → Sent → Cell
carried Q V k sent.Nothing = cell.Known value.Unit
carried Q V k (sent.Computed e) = expression_value (expression_of e) V
carried Q V k (sent.Answer x) = cell.Known (item_value k (first_item Q x))

abbrev pub emission_of : Question → Statuses → View → Kind → ℕ → NetEmit → List Emission
emission_of Q γ V k s e = cond (e.signal == s) ((γ e.control, carried Q V k e.sent) ∷ []) []

-- a given input is one emission of its signal
abbrev pub input_of : ℕ → ℕ × Value → List Emission
input_of s g = cond (g.0 == s) ((One, cell.Known g.1) ∷ []) []

-- the emissions of signal s, of this kind
abbrev pub emissions_of : NetRecords → Question → Statuses → View → Kind → ℕ → List Emission
emissions_of N Q γ V k s =
    flat_map (input_of s) Q.given ++ flat_map (emission_of Q γ V k s) N.emits

-- an emission is not made, or it is made and what it carries is known
abbrev pub is_settled : Emission → Bool
is_settled (Zero, c) = true
is_settled (One, c) = is_known c
is_settled (Unknown, c) = false

-- what those carry that are made
abbrev pub made : List Emission → List Cell
made [] = []
made ((One, c) ∷ es) = c ∷ made es
made (_ ∷ es) = made es

abbrev pub value_made : Kind → Option CombineWord → Cell → List Cell → Cell
value_made k w base [] = base
value_made k w base (c ∷ cs) = cell.Known (combined k w (map (counts_as k) (c ∷ cs)))

-- the value that emissions make over a base value, known as all of them are settled
abbrev pub value_by_emissions : Kind → Option CombineWord → Cell → List Emission → Cell
value_by_emissions k w base es = cond (list_all is_settled es) (value_made k w base (made es)) cell.Unknown

-- the equation of the value of signal s
abbrev pub signal_value : NetRecords → Question → Statuses → View → ℕ → NetSignal → Cell
signal_value N Q γ V s d =
    value_by_emissions d.decl.kind d.decl.combine (base_seen (V s)) (emissions_of N Q γ V d.decl.kind s)

-- a signal's last value
abbrev pub last_value : Question → ℕ → Value
last_value Q s = (env_of Q.cells s).preval

-- the base value: the last value where the sel gate is 1, the first value where it is 0
abbrev pub base_value : Tri → Value → Value → Value
base_value One first last = last
base_value Zero first last = first
base_value Unknown first last = value.Unit

-- what is known of signal s: the statuses of its gates, its value, and its base value
abbrev pub seen_signal : Question → Statuses → Cell → ℕ → NetSignal → Seen
seen_signal Q γ c s d =
    record {
      cell =
          record {
            status = γ d.status;
            value = c;
            pre = is_present (γ d.pre);
            preval = base_value (γ d.sel) d.decl.first (last_value Q s);
          };
      known = record { pre = is_decided (γ d.pre); base = is_decided (γ d.sel) };
    }

abbrev pub nothing_seen : Seen
nothing_seen =
    record { cell = unsolved false value.Unit; known = record { pre = false; base = false } }
