-- Worked programs, expanded by hand, and what each of their reactions gives, by computation from the
-- definitions alone.
use Rattle.std.proofs.Common.{◌≡◌, refl, true, false, Some, None, [], ◌∷◌}
use Rattle.std.specs.Prelude.{pos}
use Rattle.hh_base.specs.declared.value.CombineWord.TheVariants.{Plus}
use Rattle.hh_base.specs.declared.value.FaultKind.TheVariants.{Overflow}
use Rattle.host_expr.specs.declared.expr.Op.TheVariants.{Add}
use Rattle.host_expr.specs.declared.expr.Rel.TheVariants.{Eq}
use Rattle.host_expr.specs.Expression.{Int, Now, NowVal, PreVal, Neg, Arith, Compare}
use Rattle.hh_term.specs.Statement.{Nothing, Pause, Emit, If, Suspend, Seq, Par, Loop, Trap, Exit, Local}
use Rattle.hh_term.specs.Statement.{Async}
use Rattle.hh_term.specs.Kernel.{Kernel}
use Rattle.hh_term.specs.Reaction.{Undecided, Doubled, Faulted}
use Rattle.hh_term.specs.Codes.{static_codes}
use Rattle.hh_term.proofs.Runs.{Refuses, pauses, ends, is_over, runs, input, output, number, hidden}
use Rattle.hh_term.proofs.Runs.{program, emit, emit_number, position, on, is, halt, sustain, await, abort}
use Rattle.hh_term.proofs.Runs.{weak_abort}

-- ---- the first language

-- module M() {}
empty_module : runs (program [] [] Nothing) ([] ∷ [] ∷ []) ≡ ends [] ∷ is_over [] ∷ []
empty_module = refl

-- module M(in A, out O) { pause; if (A.now) { emit O; } }
pause_then_test :
    runs (program (input 12 ∷ output 19 ∷ []) [] (Seq Pause (If (Now 0) (emit 1) Nothing)))
    ([] ∷ (on 0 ∷ []) ∷ (on 0 ∷ []) ∷ [])
    ≡ pauses [] ∷ ends (on 1 ∷ []) ∷ is_over [] ∷ []
pause_then_test = refl

-- module M(in A, out P, out Q) { if (A.now) { emit P; } else { emit Q; } pause; emit P; }
test_then_pause :
    runs (program (input 12 ∷ output 19 ∷ output 26 ∷ []) []
    (Seq (Seq (If (Now 0) (emit 1) (emit 2)) Pause) (emit 1))) ((on 0 ∷ []) ∷ [] ∷ [])
    ≡ pauses (on 1 ∷ []) ∷ ends (on 1 ∷ []) ∷ []
test_then_pause = refl

-- ---- traps, parallels and loops

-- module ABRO(in A, in B, in R, out O) { do { fork { await (A.now); } par { await (B.now); } emit O; }
-- every (R.now); }
abbrev abro : Kernel
abro = program (input 15 ∷ input 21 ∷ input 27 ∷ output 34 ∷ []) []
    (Loop (abort (Now 2) (Seq (Seq (Par (await (Now 0)) (await (Now 1))) (emit 3)) halt)))

-- O comes with the last of A and B, once, and anew after R
abro_runs :
    runs abro
    ([] ∷ (on 0 ∷ []) ∷ (on 1 ∷ []) ∷ (on 0 ∷ on 1 ∷ []) ∷ (on 2 ∷ on 0 ∷ on 1 ∷ [])
    ∷ (on 0 ∷ on 1 ∷ []) ∷ [])
    ≡ pauses [] ∷ pauses [] ∷ pauses (on 3 ∷ []) ∷ pauses [] ∷ pauses [] ∷ pauses (on 3 ∷ []) ∷ []
abro_runs = refl

-- module M(out P, out Q) { loop { signal S { if (S.now) { emit P; } else { emit Q; } pause; emit S; } } }
-- Reincarnation: the S that is emitted is not the S that is tested.
reincarnation :
    runs (program (output 13 ∷ output 20 ∷ []) (hidden 39 ∷ [])
    (Loop (Local 2 (Seq (Seq (If (Now 2) (emit 0) (emit 1)) Pause) (emit 2))))) ([] ∷ [] ∷ [])
    ≡ pauses (on 1 ∷ []) ∷ pauses (on 1 ∷ []) ∷ []
reincarnation = refl

-- module M(in A, out N: int combine plus) { loop { fork { trap T { loop { emit N(1); if (A.now) { break
-- T; } pause; } } } par { pause; } } }
-- With A the inner loop emits at its resumption and leaves, the outer body ends and starts, and emits again.
levels :
    runs (program (input 12 ∷ number (Some Plus) 19 ∷ []) []
    (Loop (Par
    (Trap (Loop (Seq (Seq (emit_number 1 1) (If (Now 0) (Exit 0) Nothing)) Pause))) Pause)))
    ([] ∷ (on 0 ∷ []) ∷ [] ∷ [] ∷ [])
    ≡ pauses (is 1 1 ∷ []) ∷ pauses (is 1 2 ∷ []) ∷ pauses (is 1 1 ∷ []) ∷ pauses (is 1 1 ∷ []) ∷ []
levels = refl

-- module M(out X) { fork { pause; emit X; } par {} }, and with the branches the other way round
one_branch_left :
    runs (program (output 13 ∷ []) [] (Par (Seq Pause (emit 0)) Nothing)) ([] ∷ [] ∷ [])
    ≡ pauses [] ∷ ends (on 0 ∷ []) ∷ []
one_branch_left = refl

other_branch_left :
    runs (program (output 13 ∷ []) [] (Par Nothing (Seq Pause (emit 0)))) ([] ∷ [] ∷ [])
    ≡ pauses [] ∷ ends (on 0 ∷ []) ∷ []
other_branch_left = refl

-- module M(in A, out X) { abort (A.now) { sustain X; } }
strong_abort :
    runs (program (input 12 ∷ output 19 ∷ []) [] (abort (Now 0) (sustain 1))) ([] ∷ (on 0 ∷ []) ∷ [])
    ≡ pauses (on 1 ∷ []) ∷ ends [] ∷ []
strong_abort = refl

-- module M(in A, out X) { weakabort (A.now) { sustain X; } }
weak_abort_emits :
    runs (program (input 12 ∷ output 19 ∷ []) [] (weak_abort (Now 0) (sustain 1))) ([] ∷ (on 0 ∷ []) ∷ [])
    ≡ pauses (on 1 ∷ []) ∷ ends (on 1 ∷ []) ∷ []
weak_abort_emits = refl

-- ---- causality

-- module M(out S) { if (S.now) {} else { emit S; } }
no_solution :
    runs (program (output 13 ∷ []) [] (If (Now 0) Nothing (emit 0))) ([] ∷ [])
    ≡ Refuses (Undecided (0 ∷ [])) ∷ []
no_solution = refl

-- module M() { signal S { if (S.now) {} else { emit S; } } }
no_solution_local :
    runs (program [] (hidden 20 ∷ []) (Local 0 (If (Now 0) Nothing (emit 0)))) ([] ∷ [])
    ≡ Refuses (Undecided []) ∷ []
no_solution_local = refl

-- module M(out S) { if (S.now) { emit S; } }
two_solutions :
    runs (program (output 13 ∷ []) [] (If (Now 0) (emit 0) Nothing)) ([] ∷ [])
    ≡ Refuses (Undecided (0 ∷ [])) ∷ []
two_solutions = refl

-- module M(out X, out Y) { fork { if (Y.now) { emit X; } } par { emit Y; } }
parallel_decides :
    runs (program (output 13 ∷ output 20 ∷ []) [] (Par (If (Now 1) (emit 0) Nothing) (emit 1))) ([] ∷ [])
    ≡ ends (on 0 ∷ on 1 ∷ []) ∷ []
parallel_decides = refl

-- module M(out X, out Y) { if (Y.now) { emit X; } emit Y; }
sequence_waits :
    runs (program (output 13 ∷ output 20 ∷ []) [] (Seq (If (Now 1) (emit 0) Nothing) (emit 1))) ([] ∷ [])
    ≡ Refuses (Undecided (0 ∷ 1 ∷ [])) ∷ []
sequence_waits = refl

-- module M(out X) { if (X.now) { signal T { emit T; if (T.now) {} else { emit X; } } } }
-- T may not be set present: its statement is not known to be executed.
not_known_to_run :
    runs (program (output 13 ∷ []) (hidden 39 ∷ [])
    (If (Now 0) (Local 1 (Seq (emit 1) (If (Now 1) Nothing (emit 0)))) Nothing)) ([] ∷ [])
    ≡ Refuses (Undecided (0 ∷ [])) ∷ []
not_known_to_run = refl

-- module M(out X) { suspend (X.now) { pause; signal T { emit T; if (T.now) {} else { emit X; } } } }
-- Nor where a guard is unknown.
not_known_to_resume :
    runs (program (output 13 ∷ []) (hidden 52 ∷ [])
    (Suspend (Now 0) (Seq Pause (Local 1 (Seq (emit 1) (If (Now 1) Nothing (emit 0)))))))
    ([] ∷ [] ∷ [])
    ≡ pauses [] ∷ Refuses (Undecided (0 ∷ [])) ∷ []
not_known_to_resume = refl

-- ---- values

-- module M(out V: int combine plus) { emit V(1); emit V(2); emit V(3); }
sum_of_emissions :
    runs (program (number (Some Plus) 13 ∷ []) []
    (Seq (Seq (emit_number 0 1) (emit_number 0 2)) (emit_number 0 3))) ([] ∷ [])
    ≡ ends (is 0 6 ∷ []) ∷ []
sum_of_emissions = refl

-- the same with the emissions 9223372036854775807 and 1
sum_overflows :
    runs (program (number (Some Plus) 13 ∷ []) []
    (Seq (emit_number 0 9223372036854775807) (emit_number 0 1))) ([] ∷ [])
    ≡ Refuses (Faulted (position 13) Overflow) ∷ []
sum_overflows = refl

-- the same with the emissions 9223372036854775807, 1 and -1: it is the whole sum that counts
sum_comes_back :
    runs (program (number (Some Plus) 13 ∷ []) []
    (Seq (Seq (emit_number 0 9223372036854775807) (emit_number 0 1))
    (Emit 0 (Some (Neg (position 83) (Int (pos 1))))))) ([] ∷ [])
    ≡ ends (is 0 9223372036854775807 ∷ []) ∷ []
sum_comes_back = refl

-- module M(out V: int) { emit V(1); emit V(2); }
several_without_a_word :
    runs (program (number None 13 ∷ []) [] (Seq (emit_number 0 1) (emit_number 0 2))) ([] ∷ [] ∷ [])
    ≡ Refuses (Doubled 0) ∷ Refuses (Doubled 0) ∷ []
several_without_a_word = refl

-- module M(out V: int combine plus) { emit V(1); if (V.now) { emit V(2); } }
-- The first round decides the status, the second the value.
second_round :
    runs (program (number (Some Plus) 13 ∷ []) []
    (Seq (emit_number 0 1) (If (Now 0) (emit_number 0 2) Nothing))) ([] ∷ [])
    ≡ ends (is 0 3 ∷ []) ∷ []
second_round = refl

-- module M(out V: int) { emit V(V.nowval + 1); }
value_of_itself :
    runs (program (number None 13 ∷ []) []
    (Emit 0 (Some (Arith (position 39) Add (NowVal 0) (Int (pos 1)))))) ([] ∷ [])
    ≡ Refuses (Undecided (0 ∷ [])) ∷ []
value_of_itself = refl

-- module M(out V: int combine plus) { emit V(1); if (V.nowval == 1) { emit V(2); } }
-- The value is known only when every emission is decided.
value_waits :
    runs (program (number (Some Plus) 13 ∷ []) []
    (Seq (emit_number 0 1) (If (Compare Eq (NowVal 0) (Int (pos 1))) (emit_number 0 2) Nothing)))
    ([] ∷ [])
    ≡ Refuses (Undecided (0 ∷ [])) ∷ []
value_waits = refl

-- module M(out V: int) { loop { emit V(V.preval + 1); pause; } }
previous_value :
    runs (program (number None 13 ∷ []) []
    (Loop (Seq (Emit 0 (Some (Arith (position 46) Add (PreVal 0) (Int (pos 1))))) Pause)))
    ([] ∷ [] ∷ [] ∷ [])
    ≡ pauses (is 0 1 ∷ []) ∷ pauses (is 0 2 ∷ []) ∷ pauses (is 0 3 ∷ []) ∷ []
previous_value = refl

-- module M(out V: int, out X) { emit V(4); pause; if (V.nowval == 4) { emit X; } }
-- Without an emission a signal keeps its value.
keeps_its_value :
    runs (program (number None 13 ∷ output 25 ∷ []) []
    (Seq (Seq (emit_number 0 4) Pause) (If (Compare Eq (NowVal 0) (Int (pos 4))) (emit 1) Nothing)))
    ([] ∷ [] ∷ [])
    ≡ pauses (is 0 4 ∷ []) ∷ ends (on 1 ∷ []) ∷ []
keeps_its_value = refl

-- ---- static codes

-- loop { trap T { break T; pause; } }: the body may end in the reaction in which it starts
may_end : static_codes (Trap (Seq (Exit 0) Pause)) 0 ≡ true
may_end = refl

pauses_first : static_codes (Seq Pause (Exit 0)) 0 ≡ false
pauses_first = refl

a_loop_does_not_end : static_codes (Loop Pause) 0 ≡ false
a_loop_does_not_end = refl

-- a loop whose body may end does not end itself
nor_one_that_turns : static_codes (Loop (If (Now 0) Nothing Pause)) 0 ≡ false
nor_one_that_turns = refl

-- the outer of two traps is left by the inner one's body
leaves_two_traps : static_codes (Trap (Par Pause (Trap (Exit 1)))) 0 ≡ true
leaves_two_traps = refl

-- a branch that ends waits for one that pauses
parallel_waits : static_codes (Par Nothing (Async 0)) 0 ≡ false
parallel_waits = refl
