-- Worked runs of the constructive machine: the replies to a few events, by computation from the definitions alone.
use Rattle.std.proofs.Common.{◌≡◌, refl, ℕ, true, false, Option, Some, None, List, [], ◌∷◌}
use Rattle.std.specs.Prelude.{pos}
use Rattle.hh_base.specs.declared.value.Kind.TheVariants as kind
use Rattle.hh_base.specs.declared.value.Value.{Value}
use Rattle.hh_base.specs.declared.value.Value.TheVariants as value
use Rattle.host_expr.specs.declared.expr.Op.TheVariants.{Add, Div}
use Rattle.host_expr.specs.Combination.{counts_as}
use Rattle.host_expr.specs.Environment.{blank}
use Rattle.host_expr.specs.Evaluation.{eval_of}
use Rattle.host_expr.specs.Expression.{Int, Now, Arg, Arith, Expression}
use Rattle.hh_term.specs.Statement.{Nothing, Pause, If, Suspend, Seq, Par, Loop, Local, Async}
use Rattle.hh_term.specs.Kernel.{Kernel, AsyncSite, Body}
use Rattle.hh_term.proofs.Runs.{input, number, hidden, program, emit, position, is, halt, abort}
use Rattle.exec_instance.specs.declared.answer.Answer.{Answer}
use Rattle.exec_instance.specs.declared.effect.Effect.{Effect}
use Rattle.exec_instance.specs.declared.effect.Effect.TheVariants.{Dropped, More, Ended, Killed, Suspended, Resumed, Started}
use Rattle.exec_instance.specs.declared.effect.Reason.TheVariants.{Stale, Unknown, Repeated, Mistyped}
use Rattle.reaction_run.specs.declared.event.Event.{Event}
use Rattle.reaction_run.specs.declared.event.Event.TheVariants.{React, Pump, Reset}
use Rattle.reaction_run.specs.declared.reply.Reply.{Reply}
use Rattle.reaction_run.specs.declared.reply.Reply.TheVariants as reply
use Rattle.reaction_run.specs.Machine.{begin}
use Rattle.reaction_run.specs.Run.{replies}
use Rattle.term_machine.specs.Place.{start_of}
use Rattle.term_machine.specs.ConstructiveMachine.{constructive}

-- body think(a: int): int { a + 1 }, called with 4
abbrev think : Body
think =
    record {
      name = [];
      params = kind.Int ∷ [];
      answer = kind.Int;
      expr = Some (Arith (position 26) Add (Arg 0) (Int (pos 1)));
      pos = position 5;
    }

abbrev action : List ℕ → Option (List ℕ)
action bytes = Some bytes

abbrev held_text : List ℕ
held_text = 104 ∷ 101 ∷ 108 ∷ 100 ∷ []

abbrev back_text : List ℕ
back_text = 98 ∷ 97 ∷ 99 ∷ 107 ∷ []

-- async (V) call think(4) suspend "held" resume "back", where V is signal v
abbrev call : ℕ → AsyncSite
call v =
    record { body = 0; signal = Some v; args = Int (pos 4) ∷ []; kill = None; suspend = Some held_text; resume = Some back_text }

abbrev with_call : ℕ → Kernel → Kernel
with_call v K = record K { bodies = think ∷ []; sites = call v ∷ [] }

-- events, answers and replies
abbrev run_of : Kernel → List Event → List Reply
run_of K events = replies constructive (begin constructive (start_of K) 0) events

abbrev react : List Answer → Event
react took = React [] took

abbrev react_a : List Answer → Event
react_a took = React (record { signal = 0; value = value.Unit } ∷ []) took

abbrev notify : ℕ → ℕ → Answer
notify id n = record { id = id; value = value.Int (pos n); last = true }

abbrev more : ℕ → ℕ → Answer
more id n = record { id = id; value = value.Int (pos n); last = false }

abbrev tells : List (ℕ × Value) → List Effect → Reply
tells outs effects = reply.Done (record { outs = outs; ended = false; effects = effects })

abbrev ends : List (ℕ × Value) → List Effect → Reply
ends outs effects = reply.Done (record { outs = outs; ended = true; effects = effects })

abbrev starts : ℕ → Effect
starts id = Started id 0 (value.Int (pos 4) ∷ [])

abbrev kills : ℕ → Effect
kills id = Killed id None

abbrev used : ℕ → ℕ → Effect
used id n = More id (value.Int (pos n))

abbrev ended : ℕ → ℕ → Effect
ended id n = Ended id (value.Int (pos n))

-- ---- module M(out V: int) { async (V) call think(4); }
abbrev one_call : Kernel
one_call = with_call 0 (program (number None 50 ∷ []) [] (Async 0))

answered : run_of one_call (react [] ∷ react (notify 1 5 ∷ []) ∷ []) ≡ tells [] (starts 1 ∷ []) ∷ ends (is 0 5 ∷ []) (ended 1 5 ∷ []) ∷ []
answered = refl

mistyped :
    run_of one_call (react [] ∷ react (record { id = 1; value = value.Bool true; last = true } ∷ []) ∷ [])
    ≡ tells [] (starts 1 ∷ []) ∷ tells [] (Dropped 1 Mistyped ∷ []) ∷ []
mistyped = refl

reset_kills :
    run_of one_call (react [] ∷ Reset ∷ react [] ∷ [])
    ≡ tells [] (starts 1 ∷ []) ∷ reply.Reset (kills 1 ∷ []) ∷ tells [] (starts 2 ∷ []) ∷ []
reset_kills = refl

-- a part is used in each reaction
parts :
    run_of one_call (react [] ∷ react (more 1 5 ∷ more 1 6 ∷ notify 1 7 ∷ []) ∷ react [] ∷ react [] ∷ [])
    ≡ tells [] (starts 1 ∷ []) ∷ tells (is 0 5 ∷ []) (used 1 5 ∷ []) ∷ tells (is 0 6 ∷ []) (used 1 6 ∷ [])
    ∷ ends (is 0 7 ∷ []) (ended 1 7 ∷ []) ∷ []
parts = refl

-- nothing waits, and something waits
pumped : run_of one_call (Pump [] ∷ react [] ∷ Pump (notify 1 5 ∷ []) ∷ []) ≡ reply.Idle ∷ tells [] (starts 1 ∷ []) ∷ ends (is 0 5 ∷ []) (ended 1 5 ∷ []) ∷ []
pumped = refl

-- ---- module M(in A, out V: int) { abort (A.now) { async (V) call think(4); } }
abbrev aborted_call : Kernel
aborted_call = with_call 1 (program (input 47 ∷ number None 50 ∷ []) [] (abort (Now 0) (Async 0)))

aborted :
    run_of aborted_call (react [] ∷ react_a [] ∷ react (notify 1 5 ∷ notify 9 5 ∷ []) ∷ [])
    ≡ tells [] (starts 1 ∷ []) ∷ ends [] (kills 1 ∷ []) ∷ tells [] (Dropped 1 Stale ∷ Dropped 9 Unknown ∷ []) ∷ []
aborted = refl

-- ---- module M(in R, out V: int) { do { async (V) call think(4); } every (R.now); }
abbrev repeated_call : Kernel
repeated_call = with_call 1 (program (input 47 ∷ number None 50 ∷ []) [] (Loop (abort (Now 0) (Seq (Async 0) halt))))

-- a late answer does not go to the instance that was started since
late_answer :
    run_of repeated_call (react [] ∷ react_a (notify 1 5 ∷ []) ∷ react (notify 1 7 ∷ []) ∷ [])
    ≡ tells [] (starts 1 ∷ []) ∷ tells [] (kills 1 ∷ starts 2 ∷ []) ∷ tells [] (Dropped 1 Stale ∷ []) ∷ []
late_answer = refl

-- ---- module M(in A, out V: int) { suspend (A.now) { async (V) call think(4) suspend "held" resume "back"; } }
abbrev held_call : Kernel
held_call = with_call 1 (program (input 47 ∷ number None 50 ∷ []) [] (Suspend (Now 0) (Async 0)))

abbrev holds : Effect
holds = Suspended 1 (Some held_text)

abbrev resumes : Effect
resumes = Resumed 1 (Some back_text)

answered_while_held :
    run_of held_call (react [] ∷ react_a [] ∷ react_a (notify 1 5 ∷ []) ∷ react_a (notify 1 6 ∷ []) ∷ react [] ∷ [])
    ≡ tells [] (starts 1 ∷ []) ∷ tells [] (holds ∷ []) ∷ tells [] [] ∷ tells [] (Dropped 1 Repeated ∷ [])
    ∷ ends (is 1 5 ∷ []) (ended 1 5 ∷ []) ∷ []
answered_while_held = refl

held_and_resumed :
    run_of held_call (react [] ∷ react_a [] ∷ react_a [] ∷ react [] ∷ [])
    ≡ tells [] (starts 1 ∷ []) ∷ tells [] (holds ∷ []) ∷ tells [] [] ∷ tells [] (resumes ∷ []) ∷ []
held_and_resumed = refl

part_while_held :
    run_of held_call (react [] ∷ react_a [] ∷ react_a (more 1 5 ∷ []) ∷ react (notify 1 6 ∷ more 1 8 ∷ []) ∷ react [] ∷ [])
    ≡ tells [] (starts 1 ∷ []) ∷ tells [] (holds ∷ []) ∷ tells [] []
    ∷ tells (is 1 5 ∷ []) (Dropped 1 Repeated ∷ used 1 5 ∷ resumes ∷ []) ∷ ends (is 1 6 ∷ []) (ended 1 6 ∷ []) ∷ []
part_while_held = refl

-- ---- module M(in A, out V: int) { fork { async (V) call think(4); } par { loop { if (A.now) { signal S { if (S.now) {}
-- else { emit S; } } } pause; } } }
abbrev undecided_call : Kernel
undecided_call =
    with_call 1
    (program (input 47 ∷ number None 50 ∷ []) (hidden 60 ∷ [])
    (Par (Async 0) (Loop (Seq (If (Now 0) (Local 2 (If (Now 2) Nothing (emit 2))) Nothing) Pause))))

-- what a refused reaction took is tried by the next one
refused_then_accepted :
    run_of undecided_call (react [] ∷ react_a (notify 1 5 ∷ []) ∷ react [] ∷ [])
    ≡ tells [] (starts 1 ∷ []) ∷ reply.Causality [] ∷ tells (is 1 5 ∷ []) (ended 1 5 ∷ []) ∷ []
refused_then_accepted = refl

-- ---- no ids are left above the limit

last_ids :
    replies constructive (begin constructive (start_of one_call) 18446744073709550591) (react [] ∷ react [] ∷ Reset ∷ react [] ∷ [])
    ≡ tells [] (starts 18446744073709550592 ∷ []) ∷ reply.Worn 18446744073709550592 ∷ reply.Reset (kills 18446744073709550592 ∷ [])
    ∷ reply.Worn 18446744073709550592 ∷ []
last_ids = refl

-- and none from the start
no_ids :
    replies constructive (begin constructive (start_of one_call) 18446744073709550592) (react [] ∷ react [] ∷ [])
    ≡ reply.Worn 18446744073709550592 ∷ reply.Worn 18446744073709550592 ∷ []
no_ids = refl

-- ---- body part(a: int): int { 10 / a } module M(out N: int) { async (N) call part(0); }
abbrev divided : Expression
divided = Arith (position 26) Div (Int (pos 10)) (Arg 0)

abbrev part_call : Kernel
part_call =
    record one_call {
      bodies = record { name = []; params = kind.Int ∷ []; answer = kind.Int; expr = Some divided; pos = position 5 } ∷ [];
      sites = record { body = 0; signal = Some 0; args = Int (pos 0) ∷ []; kill = None; suspend = None; resume = None } ∷ [];
    }

-- what the body answers where it is called so: a fault counts as 0
abbrev answers : Answer
answers = record { id = 1; value = counts_as kind.Int (eval_of divided blank (value.Int (pos 0) ∷ [])); last = true }

faulting_body :
    run_of part_call (react [] ∷ react (answers ∷ []) ∷ [])
    ≡ tells [] (Started 1 0 (value.Int (pos 0) ∷ []) ∷ []) ∷ ends (is 0 0 ∷ []) (ended 1 0 ∷ []) ∷ []
faulting_body = refl
