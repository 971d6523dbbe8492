-- Where the walk stops, the line is the first out of range; where it comes to the end, all are in range.
use Rattle.std.proofs.Common.{◌≡◌, ◌+◌, ◌++◌, ◌∷◌, [], ℕ, List, Bool, true, false, length, map, refl, ap, arith}
use Rattle.std.proofs.Common.{Ok, Err}
use Rattle.std.specs.List.{list_all}
use Rattle.host_expr.proofs.Truths.{and_both, and_first, and_second}
use Rattle.net_list.specs.declared.record.NetRecords.{NetRecords}
use Rattle.net_list.specs.Range.{AllInRange, is_in, signal_in_range, body_in_range, register_in_range}
use Rattle.net_list.specs.Range.{gate_in_range, test_in_range, emit_in_range, exec_in_range}
use Rattle.net_range.specs.RuledLines.{section, all_true, IsFirstRefused, past}
use Rattle.net_range.specs.LinesInRange.{lines_in_range}

-- the same of lines that are numbered from n on
record IsFirstFrom (n : ℕ) (lines : List Bool) (k : ℕ) : Type 0 where
  before : List Bool
  behind : List Bool
  lines_are : lines ≡ before ++ false ∷ behind
  kept : all_true before ≡ true
  counted : k ≡ length before + n

first_from : (n k : ℕ) (lines : List Bool) → past n lines ≡ Err k → IsFirstFrom n lines k
first_from n k [] h = absurd (let clash : ⊥ = cc in clash)
first_from n k (true ∷ lines) h =
    let rest = first_from (n + 1) k lines h in
    record {
      before = true ∷ rest.before;
      behind = rest.behind;
      lines_are = ap (λ l. true ∷ l) rest.lines_are;
      kept = rest.kept;
      counted = omega (arith, rest.counted);
    }
first_from n k (false ∷ lines) h =
    let number : k ≡ n = cc in
    record { before = []; behind = lines; lines_are = refl; kept = refl; counted = omega (arith, number) }

pub is_first : (k : ℕ) (lines : List Bool) → past 1 lines ≡ Err k → IsFirstRefused lines k
is_first k lines h =
    let first = first_from 1 k lines h in
    record {
      before = first.before;
      behind = first.behind;
      lines_are = first.lines_are;
      kept = first.kept;
      counted = first.counted;
    }

pub all_held : (n m : ℕ) (lines : List Bool) → past n lines ≡ Ok m → all_true lines ≡ true
all_held n m [] h = refl
all_held n m (true ∷ lines) h = all_held (n + 1) m lines h
all_held n m (false ∷ lines) h = cc

pub front : (xs ys : List Bool) → all_true (xs ++ ys) ≡ true → all_true xs ≡ true
front [] ys h = refl
front (true ∷ xs) ys h = front xs ys h
front (false ∷ xs) ys h = cc

pub back : (xs ys : List Bool) → all_true (xs ++ ys) ≡ true → all_true ys ≡ true
back [] ys h = h
back (true ∷ xs) ys h = back xs ys h
back (false ∷ xs) ys h = cc

pub each : {X : Type 0} (f : X → Bool) (xs : List X) → all_true (map f xs) ≡ true → list_all f xs ≡ true
each f [] h = refl
each f (x ∷ xs) h = and_both (f x) (list_all f xs) (and_first (f x) _ h) (each f xs (and_second (f x) _ h))

pub all_in_range : (N : NetRecords) → all_true (lines_in_range N) ≡ true → AllInRange N
all_in_range N h =
    let signals : List Bool = (true ∷ []) ++ section (signal_in_range N) N.signals in
    let bodies : List Bool = signals ++ section body_in_range N.bodies in
    let registers : List Bool = bodies ++ section (register_in_range N) N.registers in
    let gates : List Bool = registers ++ section (gate_in_range N) N.gates in
    let tests : List Bool = gates ++ section (test_in_range N) N.tests in
    let emits : List Bool = tests ++ section (emit_in_range N) N.emits in
    let execs : List Bool = emits ++ section (exec_in_range N) N.execs in
    let to_execs : all_true execs ≡ true = front execs (is_in N.gates N.done ∷ true ∷ []) h in
    let to_emits : all_true emits ≡ true = front emits (section (exec_in_range N) N.execs) to_execs in
    let to_tests : all_true tests ≡ true = front tests (section (emit_in_range N) N.emits) to_emits in
    let to_gates : all_true gates ≡ true = front gates (section (test_in_range N) N.tests) to_tests in
    let to_registers : all_true registers ≡ true =
    front registers (section (gate_in_range N) N.gates) to_gates in
    let to_bodies : all_true bodies ≡ true =
    front bodies (section (register_in_range N) N.registers) to_registers in
    let to_signals : all_true signals ≡ true = front signals (section body_in_range N.bodies) to_bodies in
    record {
      signals =
          each (signal_in_range N) N.signals
          (back (true ∷ []) (section (signal_in_range N) N.signals) to_signals);
      bodies = each body_in_range N.bodies (back signals (section body_in_range N.bodies) to_bodies);
      registers =
          each (register_in_range N) N.registers
          (back bodies (section (register_in_range N) N.registers) to_registers);
      gates =
          each (gate_in_range N) N.gates (back registers (section (gate_in_range N) N.gates) to_gates);
      tests = each (test_in_range N) N.tests (back gates (section (test_in_range N) N.tests) to_tests);
      emits = each (emit_in_range N) N.emits (back tests (section (emit_in_range N) N.emits) to_emits);
      execs = each (exec_in_range N) N.execs (back emits (section (exec_in_range N) N.execs) to_execs);
      done = and_first _ true (back execs (is_in N.gates N.done ∷ true ∷ []) h);
    }
