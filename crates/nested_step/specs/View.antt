-- How the values of the code stand for steps and for the outcome of a reaction. (This project's own.)
use Rattle.std.specs.Prelude.{ℕ, cond, ◌&&◌, Option, Some, None, [], ◌∷◌, fold, map}
use Rattle.host_expr.specs.declared.cell.SigCell.{SigCell}
use Rattle.host_expr.specs.Environment.{is_decided, is_known}
use Rattle.hh_term.specs.declared.mark.Mark.{Mark}
use Rattle.hh_term.specs.MustCan.{Table}
use Rattle.hh_term.specs.Reaction as reaction
use Rattle.hh_term.specs.Selection.{Selection, First, Second, Inside, Control, At, Ended}
use Rattle.hh_term.specs.Step as kernel
use Rattle.hh_term.specs.Step.{◌>>=◌, beside, trap_step, leave, wrapped, scope_mark}
use Rattle.hh_term.specs.Touches as kernel_touch
use Rattle.hh_term.specs.Touches.{marks_numbered}
use Rattle.hh_term.specs.Views.{control_of, selection_of}
use Rattle.nested_step.specs.declared.marks.Part.{Part}
use Rattle.nested_step.specs.declared.marks.Part.TheVariants as part
use Rattle.nested_step.specs.declared.touches.Touch.{Touch}
use Rattle.nested_step.specs.declared.stepped.Stepped.{Stepped}
use Rattle.nested_step.specs.declared.outcome.Now.{Now}
use Rattle.nested_step.specs.declared.outcome.Completed.{Completed}
use Rattle.nested_step.specs.declared.outcome.Outcome.{Outcome}
use Rattle.nested_step.specs.declared.outcome.Outcome.TheVariants as outcome
use Rattle.nested_step.specs.declared.reaction.Ran.{Ran}

abbrev pub in_part : Part → Selection → Selection
in_part part.First = First
in_part part.Second = Second
in_part part.Inside = Inside

abbrev pub selection_at : Option Mark → Option Selection
selection_at (Some m) = Some (selection_of m)
selection_at None = None

abbrev pub touch_of : Touch → kernel_touch.Touch
touch_of t =
    record {
      site = t.site;
      id = t.id;
      started = t.started;
      used = t.used;
      ended = t.ended;
      held = t.held;
      resumed = t.resumed;
      runs_after = t.runs_after;
    }

abbrev pub stepped_of : Stepped → kernel.Stepped
stepped_of a =
    record {
      bag = a.bag.items;
      code = a.code;
      next = selection_at a.next;
      touches = map touch_of a.touches.items;
      faults = a.faults.items;
      doubled = a.doubled.items;
    }

-- undefined where there is none
abbrev pub step_of : Option Stepped → Option kernel.Stepped
step_of (Some a) = Some (stepped_of a)
step_of None = None

-- the steps of two parts at once, of a trap, and of the scope of a signal that has this cell
abbrev pub beside_of : Option kernel.Stepped → Option kernel.Stepped → Option kernel.Stepped
beside_of p q = p >>= (λ a. q >>= (λ b. Some (beside a b)))

abbrev pub trap_of : Option kernel.Stepped → Option kernel.Stepped
trap_of p = p >>= (λ a. Some (trap_step a))

abbrev pub scope_of : Table → ℕ → SigCell → Option kernel.Stepped → Option kernel.Stepped
scope_of T s d p =
    cond (is_decided d.status && is_known d.value) (p >>= (λ a. Some (leave T s (wrapped (scope_mark d) a)))) None

abbrev pub run_in : Ran → reaction.Ran
run_in r = record { stepped = stepped_of r.stepped; code = r.code }

abbrev pub ran_of : Option Ran → Option reaction.Ran
ran_of (Some r) = Some (run_in r)
ran_of None = None

-- where control rests then, the new instances in it numbered
abbrev pub control_by : ℕ → Option Selection → Control
control_by last (Some m) = At (marks_numbered last m).0
control_by last None = Ended

abbrev pub now_in : Now → reaction.Now
now_in n = record { signal = n.signal; emissions = n.emissions; status = n.status; val = n.value }

abbrev pub completed_in : Completed → reaction.Completed
completed_in d =
    record {
      signals = map now_in d.signals.items;
      code = d.code;
      next = control_of d.next;
      touches = map touch_of d.touches.items;
    }

abbrev pub outcome_of : Outcome → reaction.Outcome
outcome_of (outcome.Undecided signals) = reaction.Undecided signals.items
outcome_of (outcome.Doubled s) = reaction.Doubled s
outcome_of (outcome.Faulted at kind) = reaction.Faulted at kind
outcome_of (outcome.Completes d) = reaction.Completes (completed_in d)

-- how a reaction ends of which this is left outside all scopes, and which did this where nothing is wrong
abbrev pub judged_by : Table → kernel.Stepped → reaction.Completed → reaction.Outcome
judged_by T left done = (elim left.doubled [
  | s ∷ ss ↦ reaction.Doubled (fold (reaction.first_declared T) s ss)
  | [] ↦ (elim left.faults [
    | f ∷ fs ↦ reaction.Faulted (fold reaction.earlier f fs).0 (fold reaction.earlier f fs).1
    | [] ↦ reaction.Completes done
  ])
])
