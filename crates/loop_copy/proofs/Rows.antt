-- Copies of worked statements and programs, written out, and what their reactions give, by computation from the definitions alone.
use Rattle.std.proofs.Common.{◌≡◌, refl, Some, None, [], ◌∷◌}
use Rattle.host_expr.specs.Expression.{Now, Pre}
use Rattle.hh_term.specs.Statement.{Nothing, Pause, If, Seq, Par, Loop, Local, Async}
use Rattle.hh_term.specs.Kernel.{Kernel, AsyncSite}
use Rattle.hh_term.specs.Sizes.{size_of, copied_size_of}
use Rattle.hh_term.proofs.Runs.{pauses, runs, input, output, hidden, program, emit, on, halt, await, abort}
use Rattle.loop_copy.specs.Copies.{copy, copied_program, copied_sites, copied_asyncs, original_site}

-- ---- sizes

-- loop { emit A; pause; }
abbrev emits_always : Kernel
emits_always = program (output 13 ∷ []) [] (Loop (Seq (emit 0) Pause))

sizes_of_one : (size_of emits_always emits_always.statement ≡ 4) × (copied_size_of emits_always emits_always.statement ≡ 8)
    × (size_of (copied_program emits_always) (copied_program emits_always).statement ≡ 8)
sizes_of_one = (refl, refl, refl)

-- loop { loop { pause; } }
abbrev two_loops : Kernel
two_loops = program [] [] (Loop (Loop Pause))

sizes_of_two : (size_of two_loops two_loops.statement ≡ 3) × (copied_size_of two_loops two_loops.statement ≡ 10)
    × (size_of (copied_program two_loops) (copied_program two_loops).statement ≡ 10)
sizes_of_two = (refl, refl, refl)

-- ---- statements

-- inner loops are copied too
loops_in_loops : (copied_program two_loops).statement ≡ Loop (Seq (Loop (Seq Pause Pause)) (Loop (Seq Pause Pause)))
loops_in_loops = refl

-- the second half has a local of its own, which it emits and reads, and whose previous status it reads
own_locals :
    copy (λ s. s) 1 0 (Loop (Local 1 (Seq (emit 1) (Seq Pause (If (Pre 1) (emit 0) Nothing)))))
    ≡ Loop (Seq (Local 1 (Seq (emit 1) (Seq Pause (If (Pre 1) (emit 0) Nothing))))
    (Local 2 (Seq (emit 2) (Seq Pause (If (Pre 2) (emit 0) Nothing)))))
own_locals = refl

-- what stands behind a loop is numbered behind both halves
behind_both_halves :
    copy (λ s. s) 1 0 (Seq (Loop (Local 1 Pause)) (Local 2 (emit 2)))
    ≡ Seq (Loop (Seq (Local 1 Pause) (Local 2 Pause))) (Local 3 (emit 3))
behind_both_halves = refl

-- a local round a loop is the same in both halves
shared_outside : copy (λ s. s) 0 0 (Local 0 (Loop (Seq Pause (emit 0)))) ≡ Local 0 (Loop (Seq (Seq Pause (emit 0)) (Seq Pause (emit 0))))
shared_outside = refl

-- ---- async sites

-- an async site that answers to signal 1 and has its previous status as its argument
abbrev site : AsyncSite
site = record { body = 0; signal = Some 1; args = Pre 1 ∷ []; kill = None; suspend = None; resume = None }

own_sites : copy (λ s. s) 1 0 (Loop (Local 1 (Async 0))) ≡ Loop (Seq (Local 1 (Async 0)) (Local 2 (Async 1)))
own_sites = refl

own_targets :
    copied_sites (site ∷ []) (λ s. s) 1 (Loop (Local 1 (Async 0)))
    ≡ site ∷ record site { signal = Some 2; args = Pre 2 ∷ [] } ∷ []
own_targets = refl

originals : copied_asyncs (Seq (Loop (Seq (Async 0) (Async 1))) (Async 2)) ≡ 0 ∷ 1 ∷ 0 ∷ 1 ∷ 2 ∷ []
originals = refl

original_of_the_second_half : original_site (program [] [] (Seq (Loop (Seq (Async 0) (Async 1))) (Async 2))) 3 ≡ 1
original_of_the_second_half = refl

-- ---- reactions

-- module ABRO(in A, in B, in R, out O) { do { fork { await (A.now); } par { await (B.now); } emit O; } every (R.now); }
abbrev abro : Kernel
abro = program (input 15 ∷ input 21 ∷ input 27 ∷ output 34 ∷ []) []
    (Loop (abort (Now 2) (Seq (Seq (Par (await (Now 0)) (await (Now 1))) (emit 3)) halt)))

abro_copied :
    runs (copied_program abro)
    ([] ∷ (on 0 ∷ []) ∷ (on 1 ∷ []) ∷ (on 0 ∷ on 1 ∷ []) ∷ (on 2 ∷ on 0 ∷ on 1 ∷ [])
    ∷ (on 0 ∷ on 1 ∷ []) ∷ [])
    ≡ pauses [] ∷ pauses [] ∷ pauses (on 3 ∷ []) ∷ pauses [] ∷ pauses [] ∷ pauses (on 3 ∷ []) ∷ []
abro_copied = refl

-- module M(out P, out Q) { loop { signal S { if (S.now) { emit P; } else { emit Q; } pause; emit S; } } }
reincarnation_copied :
    runs (copied_program (program (output 13 ∷ output 20 ∷ []) (hidden 39 ∷ [])
    (Loop (Local 2 (Seq (Seq (If (Now 2) (emit 0) (emit 1)) Pause) (emit 2)))))) ([] ∷ [] ∷ [] ∷ [])
    ≡ pauses (on 1 ∷ []) ∷ pauses (on 1 ∷ []) ∷ pauses (on 1 ∷ []) ∷ []
reincarnation_copied = refl

-- module M(out P, out Q) { loop { signal S { if (S.pre) { emit P; } else { emit Q; } emit S; pause; } } }
-- The previous status is that of the incarnation before, which was another one.
previous_copied :
    runs (copied_program (program (output 13 ∷ output 20 ∷ []) (hidden 39 ∷ [])
    (Loop (Local 2 (Seq (Seq (If (Pre 2) (emit 0) (emit 1)) (emit 2)) Pause))))) ([] ∷ [] ∷ [] ∷ [])
    ≡ pauses (on 1 ∷ []) ∷ pauses (on 1 ∷ []) ∷ pauses (on 1 ∷ []) ∷ []
previous_copied = refl
