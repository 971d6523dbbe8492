-- What holds of where the machine stands stays through each event.
use Rattle.std.proofs.Common.{◌≡◌, ℕ, zero, suc, ◌≤◌, List, [], ◌∷◌, map, length, take, refl, sym, ◌∙◌, ap, subst, arith}
use Rattle.hh_term.specs.declared.program.SignalDecl.{SignalDecl}
use Rattle.hh_term.specs.Kernel.{Kernel}
use Rattle.hh_term.specs.Reaction as term
use Rattle.exec_instance.specs.declared.answer.Answer.{Answer}
use Rattle.reaction_run.specs.declared.event.Event.{Event}
use Rattle.reaction_run.specs.declared.event.Input.{Input}
use Rattle.reaction_run.specs.Machine.{State, Completes, Completed, begin}
use Rattle.reaction_run.specs.Run.{next_state, state_after, outcome, with_answers}
use Rattle.reaction_run.proofs.Events.{of_event}
use Rattle.term_machine.specs.Place.{Place, start_of, control_with_queues}
use Rattle.term_machine.specs.ConstructiveMachine.{constructive, completed_by, outcome_by, input_pair}
use Rattle.term_machine.proofs.Standing.{stands, stands_from}
use Rattle.term_reactor.specs.Standing.{Keeps}
use Rattle.term_reactor.proofs.Shapes.{Shape, shape}

pub record CameFrom (K : Kernel) (o : term.Outcome) (c : Completed Place) : Type 0 where
  pub done : term.Completed
  pub outcome : o ≡ term.Completes done
  pub completed : completed_by K done ≡ c

pub came_from : (K : Kernel) (o : term.Outcome) (c : Completed Place) → outcome_by K o ≡ Completes c → CameFrom K o c
came_from K (term.Completes d) c e = record { done = d; outcome = refl; completed = cc }
came_from K (term.Undecided signals) c e = cc
came_from K (term.Doubled s) c e = cc
came_from K (term.Faulted at kind) c e = cc

lasts_many : (ns : List term.Now) → length (map term.last_of ns) ≡ length ns
lasts_many [] = refl
lasts_many (n ∷ ns) = ap suc (lasts_many ns)

-- a last status and value for each interface signal, of the same program
record SameInterface (S next : State Place) : Type 0 where
  kernel : next.place.kernel ≡ S.place.kernel
  lasts : length S.place.lasts ≡ S.place.kernel.interface → length next.place.lasts ≡ S.place.kernel.interface

completes_same : (S : State Place) (inputs : List Input) (took : List Answer) (c : Completed Place) → outcome constructive S inputs took ≡ Completes c → SameInterface S (state_after constructive S took (Completes c))
completes_same S inputs took c e =
    let K = S.place.kernel in
    let W = with_answers constructive S took in
    let o = term.reaction K (control_with_queues W S.place.control) S.place.lasts (map input_pair inputs) S.last in
    let f = came_from K o c e in
    record {
      kernel = ap (λ (x : Completed Place). x.next.kernel) (sym f.completed);
      lasts = λ many. ap (λ (x : Completed Place). length x.next.lasts) (sym f.completed) ∙ lasts_many f.done.signals ∙ subst (Shape K.interface) f.outcome (shape K (control_with_queues W S.place.control) S.place.lasts (map input_pair inputs) S.last K.interface many);
    }

firsts_many : (ds : List SignalDecl) (n : ℕ) → n ≤ length ds → length (map term.first_last (take n ds)) ≡ n
firsts_many [] zero h = refl
firsts_many (d ∷ ds) zero h = refl
firsts_many [] (suc n) h = absurd (omega arith)
firsts_many (d ∷ ds) (suc n) h = ap suc (firsts_many ds n (omega arith))

event_same : (S : State Place) (e : Event) → S.place.kernel.interface ≤ length S.place.kernel.signals → SameInterface S (next_state constructive S e)
event_same S e h = at S e h
  where
    at : (S : State Place) (e : Event) → S.place.kernel.interface ≤ length S.place.kernel.signals → SameInterface S (next_state constructive S e)
    at =
        of_event constructive (λ S took r next. S.place.kernel.interface ≤ length S.place.kernel.signals → SameInterface S next) (λ S took h. record { kernel = refl; lasts = λ many. many }) (λ S took r refuses quiet h. record { kernel = refl; lasts = λ many. many })
        (λ S inputs took c is h. completes_same S inputs took c is) (λ S h. record { kernel = refl; lasts = λ many. firsts_many S.place.kernel.signals S.place.kernel.interface h })

pub keeps_on : (S : State Place) (e : Event) → S.place.kernel.interface ≤ length S.place.kernel.signals → Keeps S → Keeps (next_state constructive S e)
keeps_on S e h k = let s = event_same S e h in record { stands = stands_from S (e ∷ []) k.stands; lasts = s.lasts k.lasts ∙ ap (λ (K : Kernel). K.interface) (sym s.kernel) }

-- where the machine begins

pub keeps_start : (K : Kernel) (last : ℕ) (S : State Place) → K.interface ≤ length K.signals → S ≡ begin constructive (start_of K) last → Keeps S
keeps_start K last S h e =
    subst Keeps (sym e) (record { stands = stands K last []; lasts = firsts_many K.signals K.interface h })

-- the next state of the code is that of the definitions
pub keeps_next : (S next : State Place) (e : Event) → S.place.kernel.interface ≤ length S.place.kernel.signals → Keeps S → next ≡ next_state constructive S e → Keeps next
keeps_next S next e h k is = subst Keeps (sym is) (keeps_on S e h k)
