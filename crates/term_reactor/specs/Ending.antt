-- What the code makes of the answer to a reaction stands for the machine's outcome. (This project's own.)
use Rattle.std.specs.Prelude.{◌≡◌, ◌<◌}
use Rattle.std.specs.List.{AllByRecursion}
use Rattle.hh_term.specs.Kernel.{Kernel}
use Rattle.hh_term.specs.Views.{control_of}
use Rattle.status_rounds.specs.Before.{lasts_of}
use Rattle.sync_step.specs.declared.answer.StepEnd.{StepEnd}
use Rattle.sync_step.specs.declared.answer.StepEnd.TheVariants as step
use Rattle.reaction_run.specs.declared.reply.Reply.TheVariants as reply
use Rattle.reaction_run.specs.Machine.{Outcome, Undecided, Doubled, Faulted, Completes, Completed}
use Rattle.term_machine.specs.Place.{Place}
use Rattle.term_reactor.specs.declared.ending.Finish.{Finish}
use Rattle.term_reactor.specs.declared.ending.Ending.{Ending}
use Rattle.term_reactor.specs.declared.ending.Ending.TheVariants as ending

abbrev pub completed_of : Kernel → Finish → Completed Place
completed_of K f =
    record {
      outs = f.outs;
      ended = f.ended;
      changes = f.changes.items;
      next = record { kernel = K; control = control_of f.next; lasts = lasts_of f.lasts.cells.items };
    }

-- a refusal is the reply that tells it
abbrev pub Means : Kernel → Outcome Place → Ending → Type 0
Means K (Undecided names) (ending.Refused r) = r ≡ reply.Causality names
Means K (Doubled name) (ending.Refused r) = r ≡ reply.Multiple name
Means K (Faulted at kind) (ending.Refused r) = r ≡ reply.Fault at kind
Means K (Completes c) (ending.Finished f) = completed_of K f ≡ c
Means K _ _ = ⊥

-- what is undecided is of the interface
abbrev pub AreOfInterface : Kernel → StepEnd → Type 0
AreOfInterface K (step.Undecided signals) = AllByRecursion (λ s. s < K.interface) signals.items
AreOfInterface K _ = Unit {0}
