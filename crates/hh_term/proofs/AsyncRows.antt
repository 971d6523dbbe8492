-- Worked programs with async, suspension and faults: what each reaction gives and leaves, by computation
-- from the definitions alone.
use Rattle.std.proofs.Common.{◌≡◌, refl, ℕ, Bool, true, false, Option, Some, None, List, [], ◌∷◌}
use Rattle.std.specs.Prelude.{pos}
use Rattle.hh_base.specs.declared.value.Kind.TheVariants as kind
use Rattle.hh_base.specs.declared.value.Value.{Value}
use Rattle.hh_base.specs.declared.value.Value.TheVariants as value
use Rattle.hh_base.specs.declared.value.FaultKind.TheVariants.{Divide, Overflow}
use Rattle.hh_base.specs.declared.item.Item.{Item}
use Rattle.host_expr.specs.declared.expr.Op.TheVariants.{Add, Div}
use Rattle.host_expr.specs.declared.expr.Rel.TheVariants.{Eq}
use Rattle.hh_base.specs.declared.value.Dir.TheVariants as dir
use Rattle.host_expr.specs.Expression.{Expression, Int, Now, Pre, PreVal, Arg, Arith, Compare}
use Rattle.hh_term.specs.Statement.{Nothing, Pause, Emit, If, Suspend, Seq, Par, Loop, Trap, Exit, Local}
use Rattle.hh_term.specs.Statement.{Async}
use Rattle.hh_term.specs.Selection.{Selection, AtPause, AtAsync, First, Second, Both, Inside, Control}
use Rattle.hh_term.specs.Selection.{Fresh, At}
use Rattle.hh_term.specs.Kernel.{Kernel, AsyncSite, Body}
use Rattle.hh_term.specs.Touches.{Touch}
use Rattle.hh_term.specs.Reaction.{Outcome, Undecided, Doubled, Faulted, Completes, reaction, first_lasts}
use Rattle.hh_term.proofs.Runs.{Refuses, pauses, ends, is_over, runs, runs_from, input, output, number}
use Rattle.hh_term.proofs.Runs.{hidden, program, emit, emit_number, position, on, is, halt, abort}

-- ---- what a reaction leaves

abbrev control_left : Outcome → Option Control
control_left (Completes d) = Some d.next
control_left _ = None

abbrev touches_left : Outcome → List Touch
touches_left (Completes d) = d.touches
touches_left _ = []

abbrev first_reaction : Kernel → List (ℕ × Value) → Outcome
first_reaction K given = reaction K Fresh (first_lasts K) given 0

-- a reaction of a program whose last id is 1
abbrev next_reaction : Kernel → Selection → List (ℕ × Value) → Outcome
next_reaction K m given = reaction K (At m) (first_lasts K) given 1

-- body think(a: int): int { a + 1 }, and its one site: async (V) call think(4)
abbrev think : Body
think = record {
  name = [];
  params = kind.Int ∷ [];
  answer = kind.Int;
  expr = Some (Arith (position 26) Add (Arg 0) (Int (pos 1)));
  pos = position 5;
}

abbrev call : ℕ → Expression → AsyncSite
call v e = record { body = 0; signal = Some v; args = e ∷ []; kill = None; suspend = None; resume = None }

abbrev with_sites : List AsyncSite → Kernel → Kernel
with_sites sites K = record K { bodies = think ∷ []; sites = sites }

abbrev with_site : AsyncSite → Kernel → Kernel
with_site a = with_sites (a ∷ [])

-- its instance with id n, this queue and this flag
abbrev instance : ℕ → List Item → Bool → Selection
instance n queue suspended = AtAsync n (value.Int (pos 4) ∷ []) queue suspended

abbrev part : ℕ → Item
part n = record { value = value.Int (pos n); last = false }

abbrev last : ℕ → Item
last n = record { value = value.Int (pos n); last = true }

-- the instance with this id of a site: started and running on, ended, held and running on
abbrev new_touch : ℕ → ℕ → Touch
new_touch n id =
    record {
      site = n;
      id = id;
      started = Some (value.Int (pos 4) ∷ []);
      used = false;
      ended = false;
      held = false;
      resumed = false;
      runs_after = true;
    }

abbrev end_touch : ℕ → ℕ → Touch
end_touch n id =
    record {
      site = n;
      id = id;
      started = None;
      used = false;
      ended = true;
      held = false;
      resumed = true;
      runs_after = false;
    }

abbrev hold_touch : ℕ → ℕ → Touch
hold_touch n id =
    record {
      site = n;
      id = id;
      started = None;
      used = false;
      ended = false;
      held = true;
      resumed = false;
      runs_after = true;
    }

-- ---- one instance, its parts and its end

-- module M(out V: int) { async (V) call think(4); }
abbrev one_call : Kernel
one_call = with_site (call 0 (Int (pos 4))) (program (number None 50 ∷ []) [] (Async 0))

starts : control_left (first_reaction one_call []) ≡ Some (At (instance 1 [] false))
starts = refl

is_started : touches_left (first_reaction one_call []) ≡ new_touch 0 1 ∷ []
is_started = refl

-- one answer each reaction, the last one ends it
parts_and_end :
    runs_from one_call (At (instance 1 (part 5 ∷ part 6 ∷ last 7 ∷ []) false)) (first_lasts one_call)
    ([] ∷ [] ∷ [] ∷ [] ∷ [])
    ≡ pauses (is 0 5 ∷ []) ∷ pauses (is 0 6 ∷ []) ∷ ends (is 0 7 ∷ []) ∷ is_over [] ∷ []
parts_and_end = refl

waits : control_left (next_reaction one_call (instance 1 [] true) []) ≡ Some (At (instance 1 [] false))
waits = refl

uses_a_part :
    control_left (next_reaction one_call (instance 1 (part 5 ∷ last 6 ∷ []) true) [])
    ≡ Some (At (instance 1 (last 6 ∷ []) false))
uses_a_part = refl

is_used :
    touches_left (next_reaction one_call (instance 1 (part 5 ∷ last 6 ∷ []) true) [])
    ≡ record (end_touch 0 1) { used = true; ended = false; runs_after = true } ∷ []
is_used = refl

is_ended : touches_left (next_reaction one_call (instance 1 (last 5 ∷ []) false) []) ≡ end_touch 0 1 ∷ []
is_ended = refl

-- ---- two instances

-- module M(out V: int, out W: int) { fork { async (V) call think(4); } par { async (W) call think(4); } }
-- Ids go in the order of the sites.
two_calls :
    touches_left
    (first_reaction
    (with_sites (call 0 (Int (pos 4)) ∷ call 1 (Int (pos 4)) ∷ [])
    (program (number None 50 ∷ number None 57 ∷ []) [] (Par (Async 0) (Async 1)))) [])
    ≡ new_touch 0 1 ∷ new_touch 1 2 ∷ []
two_calls = refl

-- module M(out V: int, out W: int) { loop { async (V) call think(4); async (W) call think(4); } }
-- The second ends and the first starts anew: touches stand in the order of the sites.
one_after_the_other :
    touches_left
    (next_reaction
    (with_sites (call 0 (Int (pos 4)) ∷ call 1 (Int (pos 4)) ∷ [])
    (program (number None 50 ∷ number None 57 ∷ []) [] (Loop (Seq (Async 0) (Async 1)))))
    (Inside (Second (instance 1 (last 7 ∷ []) false))) [])
    ≡ new_touch 0 2 ∷ end_touch 1 1 ∷ []
one_after_the_other = refl

-- ---- preemption

-- module M(in A, out V: int) { suspend (A.now) { async (V) call think(4); } }
abbrev suspended_call : Kernel
suspended_call =
    with_site (call 1 (Int (pos 4)))
    (program (input 47 ∷ number None 54 ∷ []) [] (Suspend (Now 0) (Async 0)))

-- held with its queue, and the flag is set
is_held :
    control_left (next_reaction suspended_call (Inside (instance 1 (last 5 ∷ []) false)) (on 0 ∷ []))
    ≡ Some (At (Inside (instance 1 (last 5 ∷ []) true)))
is_held = refl

held_touch :
    touches_left (next_reaction suspended_call (Inside (instance 1 [] false)) (on 0 ∷ []))
    ≡ hold_touch 0 1 ∷ []
held_touch = refl

-- module M(in R, out V: int) { do { async (V) call think(4); } every (R.now); }
abbrev repeated_call : Kernel
repeated_call =
    with_site (call 1 (Int (pos 4)))
    (program (input 47 ∷ number None 54 ∷ []) [] (Loop (abort (Now 0) (Seq (Async 0) halt))))

abbrev running : ℕ → Selection
running n = Inside (Inside (Both (First (Inside (First (instance n [] false)))) (Inside (First AtPause))))

-- with R what ran is held and does not run after, and a new instance has the next id
restarts : control_left (next_reaction repeated_call (running 1) (on 0 ∷ [])) ≡ Some (At (running 2))
restarts = refl

restart_touches :
    touches_left (next_reaction repeated_call (running 1) (on 0 ∷ []))
    ≡ record (hold_touch 0 1) { runs_after = false } ∷ new_touch 0 2 ∷ []
restart_touches = refl

-- module M(out V: int) { trap T { fork { async (V) call think(4); } par { break T; } } }
-- An instance that is started and killed in one reaction uses no id.
started_and_killed :
    touches_left
    (first_reaction
    (with_site (call 0 (Int (pos 4)))
    (program (number None 50 ∷ []) [] (Trap (Par (Async 0) (Exit 0))))) [])
    ≡ record (new_touch 0 0) { runs_after = false } ∷ []
started_and_killed = refl

-- The fault of its argument counts all the same.
killed_with_a_fault :
    first_reaction
    (with_site (call 0 (Arith (position 9) Div (Int (pos 1)) (Int (pos 0))))
    (program (number None 50 ∷ []) [] (Trap (Par (Async 0) (Exit 0))))) []
    ≡ Faulted (position 9) Divide
killed_with_a_fault = refl

-- module M(in A, out X) { suspend (A.now) { signal S { emit S; pause; if (S.pre) { emit X; } } } }
-- A local signal is frozen while it is suspended: its previous status is that of its last active reaction.
frozen :
    runs (program (input 12 ∷ output 19 ∷ []) (hidden 50 ∷ [])
    (Suspend (Now 0) (Local 2 (Seq (Seq (emit 2) Pause) (If (Pre 2) (emit 1) Nothing)))))
    ([] ∷ (on 0 ∷ []) ∷ [] ∷ [])
    ≡ pauses [] ∷ pauses [] ∷ ends (on 1 ∷ []) ∷ []
frozen = refl

-- module M(out X) { loop { signal S { if (S.pre) { emit X; } emit S; pause; } } }
-- At each entry of its scope a local signal begins anew.
begins_anew :
    runs (program (output 13 ∷ []) (hidden 32 ∷ [])
    (Loop (Local 1 (Seq (Seq (If (Pre 1) (emit 0) Nothing) (emit 1)) Pause)))) ([] ∷ [] ∷ [])
    ≡ pauses [] ∷ pauses [] ∷ []
begins_anew = refl

-- module M(out X) { signal S: int { emit S(4); pause; if (S.preval == 4) { emit X; } } }
-- Its mark keeps the value of its last reaction.
keeps_its_value :
    runs (program (output 13 ∷ []) (record (number None 26) { dir = dir.Local } ∷ [])
    (Local 1
    (Seq (Seq (emit_number 1 4) Pause) (If (Compare Eq (PreVal 1) (Int (pos 4))) (emit 0) Nothing))))
    ([] ∷ [] ∷ [])
    ≡ pauses [] ∷ ends (on 0 ∷ []) ∷ []
keeps_its_value = refl

-- module M() { trap T { fork { pause; } par { break T; } } }
-- What a trap leaves is over: no mark of the other branch stays.
left_for_good : runs (program [] [] (Trap (Par Pause (Exit 0)))) ([] ∷ [] ∷ []) ≡ ends [] ∷ is_over [] ∷ []
left_for_good = refl

-- ---- refusals

-- module M(inout V: int) { emit V(1); }
-- A given input is one more emission.
given_and_emitted :
    runs (program (record (number None 15) { dir = dir.Both } ∷ []) [] (emit_number 0 1))
    ((is 0 2 ∷ []) ∷ [] ∷ [])
    ≡ Refuses (Doubled 0) ∷ ends (is 0 1 ∷ []) ∷ []
given_and_emitted = refl

-- module M(out X) { if (1 / 0 == 1) {} else { emit X; } }
fault_of_a_test :
    runs (program (output 13 ∷ []) []
    (If (Compare Eq (Arith (position 24) Div (Int (pos 1)) (Int (pos 0))) (Int (pos 1))) Nothing
    (emit 0))) ([] ∷ [])
    ≡ Refuses (Faulted (position 24) Divide) ∷ []
fault_of_a_test = refl

-- module M() { suspend (1 / 0 == 1) { pause; } }
-- A guard is met at the resumption alone.
fault_of_a_guard :
    runs (program [] []
    (Suspend (Compare Eq (Arith (position 24) Div (Int (pos 1)) (Int (pos 0))) (Int (pos 1))) Pause))
    ([] ∷ [] ∷ [])
    ≡ pauses [] ∷ Refuses (Faulted (position 24) Divide) ∷ []
fault_of_a_guard = refl

-- module M(in A, out V: int) { loop { if (A.now) { emit V(1 / 0); } pause; } }
-- A refused reaction changes nothing.
fault_changes_nothing :
    runs (program (input 12 ∷ number None 19 ∷ []) []
    (Loop (Seq
    (If (Now 0)
    (Emit 1 (Some (Arith (position 58) Div (Int (pos 1)) (Int (pos 0))))) Nothing) Pause)))
    ([] ∷ (on 0 ∷ []) ∷ [] ∷ [])
    ≡ pauses [] ∷ Refuses (Faulted (position 58) Divide) ∷ pauses [] ∷ []
fault_changes_nothing = refl

-- the fault of least position, and there the first kind, whichever is met first
abbrev faulty : ℕ → ℕ → Kernel
faulty m n =
    let least = Arith (position m) Add (Int (pos 9223372036854775807)) (Int (pos 1)) in
    let divides = Arith (position n) Div (Int (pos 1)) (Int (pos 0)) in
    program (number None 13 ∷ number None 20 ∷ []) [] (Seq (Emit 0 (Some least)) (Emit 1 (Some divides)))

least_position : runs (faulty 40 50) ([] ∷ []) ≡ Refuses (Faulted (position 40) Overflow) ∷ []
least_position = refl

least_position_second : runs (faulty 50 40) ([] ∷ []) ≡ Refuses (Faulted (position 40) Divide) ∷ []
least_position_second = refl

first_kind : runs (faulty 40 40) ([] ∷ []) ≡ Refuses (Faulted (position 40) Divide) ∷ []
first_kind = refl

-- two emissions of V at 13 and of W at 20, without combine words: V is named, also where the declarations
-- are the other way round
abbrev doubles : ℕ → ℕ → Kernel
doubles m n =
    program (number None m ∷ number None n ∷ []) []
    (Seq (Seq (emit_number 0 1) (emit_number 0 2)) (Seq (emit_number 1 1) (emit_number 1 2)))

least_declaration : runs (doubles 13 20) ([] ∷ []) ≡ Refuses (Doubled 0) ∷ []
least_declaration = refl

least_declaration_second : runs (doubles 20 13) ([] ∷ []) ≡ Refuses (Doubled 1) ∷ []
least_declaration_second = refl

-- module M(in A) { loop { if (A.now) { signal S { if (S.now) {} else { emit S; } } } pause; } }
-- What an undecided local signal refuses is forgotten in the next reaction.
causality_changes_nothing :
    runs (program (input 12 ∷ []) (hidden 44 ∷ [])
    (Loop (Seq (If (Now 0) (Local 1 (If (Now 1) Nothing (emit 1))) Nothing) Pause)))
    ([] ∷ (on 0 ∷ []) ∷ [] ∷ [])
    ≡ pauses [] ∷ Refuses (Undecided []) ∷ pauses [] ∷ []
causality_changes_nothing = refl
