-- The machine whose step is the constructive semantics of its program: one event is a reaction of the program
-- where its control rests, with the answers that entered. (This project's own, over Berry's semantics.)
use Rattle.std.specs.Prelude.{ℕ, Bool, true, false, List, [], ◌∷◌, map}
use Rattle.hh_base.specs.declared.value.Value.{Value}
use Rattle.hh_base.specs.declared.value.Kind.{Kind}
use Rattle.hh_term.specs.Kernel.{Kernel, Body, AsyncSite}
use Rattle.hh_term.specs.Touches.{Touch}
use Rattle.hh_term.specs.Reaction as term
use Rattle.exec_instance.specs.declared.change.Change.{Change}
use Rattle.exec_instance.specs.declared.instance.Instance.{Instance}
use Rattle.reaction_run.specs.declared.event.Input.{Input}
use Rattle.reaction_run.specs.Machine.{Machine, Outcome, Undecided, Doubled, Faulted, Completes, Completed}
use Rattle.term_machine.specs.Place.{Place, start_of, control_with_queues, name_at, outputs_of, has_ended}
use Rattle.term_machine.specs.Place.{body_at, kill_at, suspend_at, resume_at, kill_of}

-- what a touch of an async site tells of the instance
abbrev pub change_by : Kernel → Touch → Change
change_by K t =
    record {
      id = t.id;
      body = body_at K t.site;
      started = t.started;
      used = t.used;
      ended = t.ended;
      held = t.held;
      resumed = t.resumed;
      runs_after = t.runs_after;
      kill = kill_at K t.site;
      suspend = suspend_at K t.site;
      resume = resume_at K t.site;
    }

abbrev pub completed_by : Kernel → term.Completed → Completed Place
completed_by K d =
    record {
      outs = outputs_of K d.signals;
      ended = has_ended d.code;
      changes = map (change_by K) d.touches;
      next = record { kernel = K; control = d.next; lasts = map term.last_of d.signals };
    }

-- the outcome of a reaction, with names for signals
abbrev pub outcome_by : Kernel → term.Outcome → Outcome Place
outcome_by K (term.Undecided signals) = Undecided (map (name_at K) signals)
outcome_by K (term.Doubled signal) = Doubled (name_at K signal)
outcome_by K (term.Faulted at kind) = Faulted at kind
outcome_by K (term.Completes d) = Completes (completed_by K d)

abbrev pub input_pair : Input → ℕ × Value
input_pair i = (i.signal, i.value)

abbrev pub body_answers : Body → Kind
body_answers b = b.answer

abbrev pub has_sites : List AsyncSite → Bool
has_sites [] = false
has_sites (a ∷ rest) = true

abbrev pub reaction_at : Place → List Instance → List Input → ℕ → Outcome Place
reaction_at p running inputs last =
    outcome_by p.kernel
    (term.reaction p.kernel (control_with_queues running p.control) p.lasts (map input_pair inputs) last)

abbrev pub constructive : Machine Place
constructive =
    record {
      kinds = λ p. map body_answers p.kernel.bodies;
      parts = λ p. true;
      wants_ids = λ p. has_sites p.kernel.sites;
      restarted = λ p. start_of p.kernel;
      kill_action = kill_of;
      reaction = reaction_at;
    }
