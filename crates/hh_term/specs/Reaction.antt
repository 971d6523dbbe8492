-- A reaction of a program: the interface signals are solved as the outermost scopes, a given input is one
-- more emission, and a
-- reaction is refused or completes. (Berry's reaction; the refusals and what is kept of values are this
-- project's own.)
use Rattle.std.specs.Prelude.{ℕ, suc, Bool, false, cond, ◌&&◌, ◌||◌, ◌==◌, nat_lt, Option, Some, None}
use Rattle.std.specs.Prelude.{List, [], ◌∷◌, ◌++◌, length, map, fold, take}
use Rattle.hh_base.specs.declared.value.Pos.{Pos}
use Rattle.hh_base.specs.declared.value.Value.{Value}
use Rattle.hh_base.specs.declared.value.FaultKind.{FaultKind}
use Rattle.hh_base.specs.declared.value.FaultKind.TheVariants.{Divide, Overflow, TextLong}
use Rattle.host_expr.specs.declared.cell.Cell.TheVariants as cell
use Rattle.host_expr.specs.declared.cell.SigCell.{SigCell}
use Rattle.host_expr.specs.Environment.{Env, is_known, is_decided, is_present, unsolved, put, blank}
use Rattle.hh_term.specs.Statement.{Statement}
use Rattle.hh_term.specs.Selection.{Control, Fresh, At, Ended, Start, Resume}
use Rattle.hh_term.specs.declared.program.SignalDecl.{SignalDecl}
use Rattle.hh_term.specs.Kernel.{Kernel}
use Rattle.hh_term.specs.MustCan.{Table, table_of, MustCan, Bag, Executed, must_can, solve, hide, cells_of}
use Rattle.hh_term.specs.Touches.{Touch, by_site, numbered, marks_numbered}
use Rattle.hh_term.specs.Step.{Stepped, step, leave, value_in}

-- an interface signal's status and value in the last accepted reaction
pub record Last : Type 0 where
  pub status : Bool
  pub val : Value

-- an interface signal at the start of a reaction, with the value given to it, if any
pub record Outer : Type 0 where
  pub signal : ℕ
  pub last : Last
  pub given : Option Value

abbrev pub given_bag : Outer → Bag
given_bag o = (elim o.given [ Some v ↦ (o.signal, cell.Known v) ∷ [] | None ↦ [] ])

-- a given input is one more emission
abbrev pub with_given : Outer → MustCan → MustCan
with_given o a =
    record { must = given_bag o ++ a.must; code = a.code; can = given_bag o ++ a.can; codes = a.codes }

abbrev pub solved_cell : Table → Outer → (Env → MustCan) → Env → SigCell
solved_cell T o p E = solve T o.signal (λ F. with_given o (p F)) E (unsolved o.last.status o.last.val)

-- the interface signals as the outermost scopes, and the environment that they leave
abbrev pub nest : Table → List Outer → (Env → MustCan) → Env → MustCan
nest T [] p E = p E
nest T (o ∷ os) p E =
    hide o.signal (with_given o (nest T os p (put E o.signal (solved_cell T o (nest T os p) E))))

abbrev pub solved : Table → List Outer → (Env → MustCan) → Env → Env
solved T [] p E = E
solved T (o ∷ os) p E = solved T os p (put E o.signal (solved_cell T o (nest T os p) E))

-- a program that has ended has an empty bag and no code
abbrev pub nothing_done : MustCan
nothing_done = record { must = []; code = None; can = []; codes = λ c. false }

abbrev pub program_must_can : Table → Statement → Control → Env → MustCan
program_must_can T p Fresh E = must_can T p Start Executed E
program_must_can T p (At m) E = must_can T p (Resume m) Executed E
program_must_can T p Ended E = nothing_done

-- what the program did: the code is none where it had ended before
pub record Ran : Type 0 where
  pub stepped : Stepped
  pub code : Option ℕ

abbrev pub ran : Option Stepped → Option Ran
ran (Some a) = Some (record { stepped = a; code = Some a.code })
ran None = None

abbrev pub idle : Stepped
idle = record { bag = []; code = 0; next = None; touches = []; faults = []; doubled = [] }

abbrev pub program_step : Table → Statement → Control → Env → Option Ran
program_step T p Fresh E = ran (step T p Start E)
program_step T p (At m) E = ran (step T p (Resume m) E)
program_step T p Ended E = Some (record { stepped = idle; code = None })

abbrev pub undecided : Env → List Outer → List ℕ
undecided E [] = []
undecided E (o ∷ os) =
    cond (is_decided (E o.signal).status && is_known (E o.signal).value) (undecided E os)
    (o.signal ∷ undecided E os)

-- each interface signal is left like a scope
abbrev pub leave_all : Table → List Outer → Stepped → Stepped
leave_all T [] a = a
leave_all T (o ∷ os) a =
    leave T o.signal (let b = leave_all T os a in record b { bag = given_bag o ++ b.bag })

-- an interface signal in a reaction that completes: its emissions, a given input among them, its status
-- and its value
pub record Now : Type 0 where
  pub signal : ℕ
  pub emissions : ℕ
  pub status : Bool
  pub val : Value

abbrev pub now_of : Env → Bag → Outer → Now
now_of E bag o =
    record {
      signal = o.signal;
      emissions = length (cells_of o.signal (given_bag o ++ bag));
      status = is_present (E o.signal).status;
      val = value_in (E o.signal).preval (E o.signal).value;
    }

pub record Completed : Type 0 where
  pub signals : List Now
  pub code : Option ℕ
  pub next : Control
  pub touches : List Touch

pub data Outcome : Type 0 where
  Undecided : (signals : List ℕ) → Outcome
  Doubled : (signal : ℕ) → Outcome
  Faulted : (at : Pos) (kind : FaultKind) → Outcome
  Completes : (completed : Completed) → Outcome

-- the signal of least declaration position
abbrev pub first_declared : Table → ℕ → ℕ → ℕ
first_declared T s t = cond (nat_lt (T.position t).0 (T.position s).0) t s

-- the fault of least position, there the first kind in the order Divide, Overflow, TextLong
abbrev pub fault_rank : FaultKind → ℕ
fault_rank Divide = 0
fault_rank Overflow = 1
fault_rank TextLong = 2

abbrev pub is_earlier : Pos × FaultKind → Pos × FaultKind → Bool
is_earlier f g = nat_lt f.0.0 g.0.0 || (f.0.0 == g.0.0 && nat_lt (fault_rank f.1) (fault_rank g.1))

abbrev pub earlier : Pos × FaultKind → Pos × FaultKind → Pos × FaultKind
earlier f g = cond (is_earlier g f) g f

abbrev pub control_after : ℕ → Ran → Control
control_after last r = (elim r.stepped.next [ Some m ↦ At (marks_numbered last m).0 | None ↦ Ended ])

abbrev pub completed : Table → List Outer → ℕ → Env → Ran → Completed
completed T os last E r =
    record {
      signals = map (now_of E r.stepped.bag) os;
      code = r.code;
      next = control_after last r;
      touches = numbered last (by_site r.stepped.touches);
    }

abbrev pub judged : Table → List Outer → ℕ → Env → Ran → Outcome
judged T os last E r =
    let left = leave_all T os r.stepped in
    (elim left.doubled [
      | s ∷ ss ↦ Doubled (fold (first_declared T) s ss)
      | [] ↦ (elim left.faults [
        | f
            ∷ fs ↦ Faulted (fold earlier f fs).0 (fold earlier f fs).1
        | [] ↦ Completes
            (completed T os last E r)
      ])
    ])

abbrev pub concluded : Table → List Outer → ℕ → Env → Option Ran → Outcome
concluded T os last E None = Undecided []
concluded T os last E (Some r) = judged T os last E r

abbrev pub react : Table → List Outer → Statement → Control → ℕ → Outcome
react T os p c last =
    let E = solved T os (program_must_can T p c) blank in
    (elim (undecided E os) [
      | [] ↦ concluded T os last E (program_step T p c E)
      | s
          ∷ ss ↦ Undecided (s ∷ ss)
    ])

-- the inputs of a reaction are pairs of a signal and its value
abbrev pub given_to : List (ℕ × Value) → ℕ → Option Value
given_to [] s = None
given_to (i ∷ is) s = cond (i.0 == s) (Some i.1) (given_to is s)

abbrev pub outers_from : ℕ → List (ℕ × Value) → List Last → List Outer
outers_from s is [] = []
outers_from s is (l ∷ ls) = record { signal = s; last = l; given = given_to is s } ∷ outers_from (suc s) is ls

-- the reaction of a program whose control is here, after these last statuses and values of its interface,
-- to these inputs; `last`
-- is the last id that an async instance got
abbrev pub reaction : Kernel → Control → List Last → List (ℕ × Value) → ℕ → Outcome
reaction K c before is last = react (table_of K) (outers_from 0 is before) K.statement c last

-- the interface before the first reaction, and after a reaction that completes

abbrev pub last_of : Now → Last
last_of n = record { status = n.status; val = n.val }

abbrev pub first_last : SignalDecl → Last
first_last d = record { status = false; val = d.first }

abbrev pub first_lasts : Kernel → List Last
first_lasts K = map first_last (take K.interface K.signals)
