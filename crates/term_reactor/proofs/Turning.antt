-- What the code makes of a reaction is the machine's reply and its next state.
use Rattle.std.proofs.Common.{◌≡◌, ℕ, ◌<◌, Bool, false, true, List, [], ◌∷◌, ◌++◌, map, length, refl, sym, ◌∙◌, ap, subst}
use Rattle.std.specs.Prelude.{Result, Ok, Err, IfOk, ◌≢◌, ◌^◌, suc, if◌then◌else◌}
use Rattle.std.specs.List.{AllByRecursion}
use Rattle.hh_base.specs.declared.value.Value.{Value}
use Rattle.hh_base.specs.declared.value.Kind.{Kind}
use Rattle.hh_term.specs.Kernel.{Kernel}
use Rattle.hh_term.specs.IsProgram.{IsProgram}
use Rattle.hh_term.specs.Pairs.{EachPair}
use Rattle.hh_term.specs.Selection.{Control}
use Rattle.hh_term.specs.Marks.{IdsDiffer}
use Rattle.hh_term.specs.Reaction as term
use Rattle.hh_term.specs.Views.{control_of}
use Rattle.exec_instance.specs.declared.answer.Answer.{Answer}
use Rattle.exec_instance.specs.declared.effect.Effect.{Effect}
use Rattle.exec_instance.specs.declared.instance.Instance.{Instance}
use Rattle.hh_base.specs.declared.memory.NoMemory.{NoMemory}
use Rattle.exec_instance.specs.Running.{Running}
use Rattle.exec_instance.specs.Entering.{under, entered, drops}
use Rattle.exec_instance.specs.Effects.{effects, advanced, last_after}
use Rattle.reaction_run.specs.declared.event.Input.{Input}
use Rattle.reaction_run.specs.declared.reply.Reply.{Reply}
use Rattle.reaction_run.specs.declared.reply.Reply.TheVariants as reply
use Rattle.reaction_run.specs.Machine.{State, Outcome, Undecided, Doubled, Faulted, Completes, Completed}
use Rattle.reaction_run.specs.Run.{reply_to, state_after, outcome, with_answers, is_worn, refused, reply_of_reaction, after_reaction}
use Rattle.status_rounds.specs.Before.{lasts_of}
use Rattle.status_rounds.specs.Given.{NoneTwice}
use Rattle.sync_step.specs.Told.{Tells}
use Rattle.sync_step.specs.declared.answer.StepEnd.{StepEnd}
use Rattle.sync_step.specs.declared.answer.StepEnd.TheVariants as end
use Rattle.term_machine.specs.Place.{Place, control_with_queues}
use Rattle.term_machine.specs.ConstructiveMachine.{constructive, completed_by, outcome_by, input_pair}
use Rattle.term_machine.specs.Standing.{Stands}
use Rattle.term_machine.proofs.Waiting.{ids_with_queues}
use Rattle.term_reactor.specs.declared.ending.Ending.{Ending}
use Rattle.term_reactor.specs.declared.ending.Ending.TheVariants as ending
use Rattle.term_reactor.specs.declared.ending.Finish.{Finish}
use Rattle.term_reactor.specs.declared.stand.Turn.{Turn}
use Rattle.term_reactor.specs.declared.stand.Stand.{Stand}
use Rattle.term_reactor.specs.Ending.{Means, AreOfInterface, completed_of}
use Rattle.term_reactor.specs.Standing.{state_at, IsTurn}
use Rattle.term_reactor.proofs.Shapes.{Shape, shape}
use Rattle.term_reactor.proofs.Room.{has_room}

-- what a step asks for

pub differ_with_queues : (running : List Instance) (c : Control) → IdsDiffer c → IdsDiffer (control_with_queues running c)
differ_with_queues running c d = subst (EachPair (λ i j. i ≢ j)) (sym (ids_with_queues running c)) d

cells_many : (cells : List (Bool × Value)) → length (lasts_of cells) ≡ length cells
cells_many [] = refl
cells_many (c ∷ cs) = ap suc (cells_many cs)

pub cells_of : (cells : List (Bool × Value)) (n : ℕ) → length (lasts_of cells) ≡ n → length cells ≡ n
cells_of cells n e = sym (cells_many cells) ∙ e

all_twice : (i : Input) (is : List Input) → AllByRecursion (λ j. i.signal ≢ j.signal) is → AllByRecursion (λ j. i.signal ≢ j.0) (map input_pair is)
all_twice i [] h = tt
all_twice i (j ∷ js) h = (h.0, all_twice i js h.1)

pub none_twice : (is : List Input) → EachPair (λ i j. i.signal ≢ j.signal) is → NoneTwice (map input_pair is)
none_twice [] h = tt
none_twice (i ∷ is) h = (all_twice i is h.0, none_twice is h.1)

pub of_interface : (K : Kernel) (o : term.Outcome) (e : StepEnd) → Shape K.interface o → Tells K o e → AreOfInterface K e
of_interface K (term.Undecided signals) (end.Undecided us) h t = subst (AllByRecursion (λ s. s < K.interface)) (sym t) h
of_interface K o (end.Stepped a) h t = tt
of_interface K (term.Doubled s) (end.Undecided us) h t = absurd t
of_interface K (term.Faulted at kind) (end.Undecided us) h t = absurd t
of_interface K (term.Completes d) (end.Undecided us) h t = absurd t

-- refusals

pub refused_turn : (K : Kernel) (S : State Place) (took waiting : List Answer) (o : Outcome Place) (r : Reply) (t : Turn) → waiting ≡ S.pending ++ took → Means K o (ending.Refused r) → IsTurn K r (record S { pending = waiting }) t → IsTurn K (reply_to constructive S took o) (state_after constructive S took o) t
refused_turn K S took waiting (Undecided names) r t w m i = record { reply = i.reply ∙ m; next = i.next ∙ ap (λ (p : List Answer). record S { pending = p }) w }
refused_turn K S took waiting (Doubled name) r t w m i = record { reply = i.reply ∙ m; next = i.next ∙ ap (λ (p : List Answer). record S { pending = p }) w }
refused_turn K S took waiting (Faulted at kind) r t w m i = record { reply = i.reply ∙ m; next = i.next ∙ ap (λ (p : List Answer). record S { pending = p }) w }
refused_turn K S took waiting (Completes c) r t w m i = absurd m

-- reactions that complete

abbrev done_of : Completed Place → List Effect → List Instance → ℕ → Reply
done_of c told W last = reply.Done (record { outs = c.outs; ended = c.ended; effects = told ++ effects last c.changes W })

abbrev next_of : Completed Place → List Instance → ℕ → State Place
next_of c W last = record { place = c.next; running = advanced last c.changes W; pending = []; last = last_after last c.changes }

pub completed_turn : (K : Kernel) (S : State Place) (took : List Answer) (o : Outcome Place) (f : Finish) (told : List Effect) (W : List Instance) (last : ℕ) (t : Turn) → Means K o (ending.Finished f) → last ≡ S.last → W ≡ with_answers constructive S took
    → told ≡ drops (under (constructive.kinds S.place) true S.last) S.running (S.pending ++ took) → IsTurn K (done_of (completed_of K f) told W last) (next_of (completed_of K f) W last) t → IsTurn K (reply_to constructive S took o) (state_after constructive S took o) t
completed_turn K S took (Completes c) f told W last t m l w d i =
    record {
      reply = i.reply ∙ ap (λ (x : Completed Place). done_of x told W last) m ∙ ap (λ (n : ℕ). done_of c told W n) l ∙ ap (λ (x : List Instance). done_of c told x S.last) w ∙ ap (λ (x : List Effect). done_of c x (with_answers constructive S took) S.last) d;
      next = i.next ∙ ap (λ (x : Completed Place). next_of x W last) m ∙ ap (λ (n : ℕ). next_of c W n) l ∙ ap (λ (x : List Instance). next_of c x S.last) w;
    }
completed_turn K S took (Undecided names) f told W last t m l w d i = absurd m
completed_turn K S took (Doubled name) f told W last t m l w d i = absurd m
completed_turn K S took (Faulted at kind) f told W last t m l w d i = absurd m

room_at : (K : Kernel) (o : term.Outcome) (f : Finish) (last : ℕ) → Means K (outcome_by K o) (ending.Finished f) → ((d : term.Completed) → o ≡ term.Completes d → last_after last (completed_by K d).changes < 2 ^ 64) → last_after last f.changes.items < 2 ^ 64
room_at K (term.Completes d) f last m h = subst (λ (c : Completed Place). last_after last c.changes < 2 ^ 64) (sym m) (h d refl)
room_at K (term.Undecided signals) f last m h = absurd m
room_at K (term.Doubled s) f last m h = absurd m
room_at K (term.Faulted at kind) f last m h = absurd m

pub finish_room : (S : State Place) (W : List Instance) (is : List (ℕ × Value)) (f : Finish) → ∥ IsProgram S.place.kernel ∥₁ → Stands S → is_worn constructive S ≡ false → S.last < 2 ^ 64
    → Means S.place.kernel (outcome_by S.place.kernel (term.reaction S.place.kernel (control_with_queues W S.place.control) S.place.lasts is S.last)) (ending.Finished f) → last_after S.last f.changes.items < 2 ^ 64
finish_room S W is f rules s fresh fits m =
    room_at S.place.kernel (term.reaction S.place.kernel (control_with_queues W S.place.control) S.place.lasts is S.last) f S.last m (λ d e. has_room S W is d rules s fresh fits e)

-- the reaction, where ids are left or not

pub worn_turn : (K : Kernel) (S : State Place) (inputs : List Input) (took waiting : List Answer) (t : Turn) → is_worn constructive S ≡ true → waiting ≡ S.pending ++ took → IsTurn K (reply.Worn S.last) (record S { pending = waiting }) t → IsTurn K (reply_of_reaction constructive S inputs took) (after_reaction constructive S inputs took) t
worn_turn K S inputs took waiting t worn w i =
    record {
      reply = i.reply ∙ sym (ap (λ (b : Bool). if b then reply.Worn S.last else reply_to constructive S took (outcome constructive S inputs took)) worn);
      next = i.next ∙ ap (λ (p : List Answer). record S { pending = p }) w ∙ sym (ap (λ (b : Bool). if b then refused constructive S took else state_after constructive S took (outcome constructive S inputs took)) worn);
    }

pub fresh_turn : (K : Kernel) (S : State Place) (inputs : List Input) (took : List Answer) (t : Turn) → is_worn constructive S ≡ false → IsTurn K (reply_to constructive S took (outcome constructive S inputs took)) (state_after constructive S took (outcome constructive S inputs took)) t → IsTurn K (reply_of_reaction constructive S inputs took) (after_reaction constructive S inputs took) t
fresh_turn K S inputs took t fresh i =
    record {
      reply = i.reply ∙ sym (ap (λ (b : Bool). if b then reply.Worn S.last else reply_to constructive S took (outcome constructive S inputs took)) fresh);
      next = i.next ∙ sym (ap (λ (b : Bool). if b then refused constructive S took else state_after constructive S took (outcome constructive S inputs took)) fresh);
    }

-- the goals of the function that reacts

pub when_ok : {T E : Type 0} (r : Result T E) (P Q : T → Type 0) → ((t : T) → P t → Q t) → IfOk r P → IfOk r Q
when_ok (Ok t) P Q f p = f t p
when_ok (Err e) P Q f p = tt

abbrev entered_now : List Kind → Running → List Answer → Running
entered_now kinds r waiting = record r { instances = entered (under kinds true r.last) r.instances waiting }

pub asks_interface : (K : Kernel) (stand : Stand) (inputs : List Input) (W : List Instance) (last : ℕ) (e : StepEnd) → Tells K (term.reaction K (control_with_queues W (control_of stand.control)) (lasts_of stand.before.cells.items) (map input_pair inputs) last) e → length (lasts_of stand.before.cells.items) ≡ K.interface → AreOfInterface K e
asks_interface K stand inputs W last e told many =
    of_interface K (term.reaction K (control_with_queues W (control_of stand.control)) (lasts_of stand.before.cells.items) (map input_pair inputs) last) e (shape K (control_with_queues W (control_of stand.control)) (lasts_of stand.before.cells.items) (map input_pair inputs) last K.interface many) told

-- these are the instances where the answers entered
module _ (K : Kernel) (stand : Stand) (kinds : List Kind) (inputs : List Input) (waiting : List Answer) (last : ℕ) (copy after : Running) (e : StepEnd) (g : Ending)
    (copied : copy ≡ stand.instances) (entering : after ≡ entered_now kinds copy waiting) (of_bodies : kinds ≡ constructive.kinds (state_at K stand).place) (at_last : last ≡ stand.instances.last)
    (told : Tells K (term.reaction K (control_with_queues after.instances (control_of stand.control)) (lasts_of stand.before.cells.items) (map input_pair inputs) last) e)
    (means : (o : term.Outcome) → Tells K o e → Means K (outcome_by K o) g) where
  abbrev S : State Place
  S = state_at K stand

  abbrev o_at : List Instance → term.Outcome
  o_at W = term.reaction K (control_with_queues W (control_of stand.control)) (lasts_of stand.before.cells.items) (map input_pair inputs) stand.instances.last

  last_same : after.last ≡ stand.instances.last
  last_same = ap (λ (r : Running). r.last) (entering ∙ ap (λ (r : Running). entered_now kinds r waiting) copied)

  told_last : Tells K (o_at after.instances) e
  told_last = subst (λ (n : ℕ). Tells K (term.reaction K (control_with_queues after.instances (control_of stand.control)) (lasts_of stand.before.cells.items) (map input_pair inputs) n) e) at_last told

  entered_same : (took : List Answer) → waiting ≡ stand.pending ++ took → after.instances ≡ with_answers constructive S took
  entered_same took w =
      ap (λ (r : Running). r.instances) (entering ∙ ap (λ (r : Running). entered_now kinds r waiting) copied)
      ∙ ap (λ (ks : List Kind). entered (under ks true stand.instances.last) stand.instances.instances waiting) of_bodies
      ∙ ap (λ (xs : List Answer). entered (under (constructive.kinds S.place) true stand.instances.last) stand.instances.instances xs) w

  means_now : (took : List Answer) → waiting ≡ stand.pending ++ took → Means K (outcome constructive S inputs took) g
  means_now took w = subst (λ (W : List Instance). Means K (outcome_by K (o_at W)) g) (entered_same took w) (means (o_at after.instances) told_last)

  pub asks_room : (f : Finish) → ∥ IsProgram K ∥₁ → Stands S → is_worn constructive S ≡ false → last < 2 ^ 64 → g ≡ ending.Finished f → last_after after.last f.changes.items < 2 ^ 64
  asks_room f rules s fresh fits is =
      subst (λ (n : ℕ). last_after n f.changes.items < 2 ^ 64) (sym last_same)
      (finish_room S after.instances (map input_pair inputs) f rules s fresh (subst (λ (n : ℕ). n < 2 ^ 64) at_last fits) (subst (Means K (outcome_by K (o_at after.instances))) is (means (o_at after.instances) told_last)))

  pub refuses : (r : Reply) (result : Result Turn NoMemory) → g ≡ ending.Refused r → ((K : Kernel) → IfOk result (IsTurn K r (record (state_at K stand) { pending = waiting }))) → (took : List Answer) → waiting ≡ stand.pending ++ took
      → IfOk result (IsTurn K (reply_to constructive S took (outcome constructive S inputs took)) (state_after constructive S took (outcome constructive S inputs took)))
  refuses r result is turn took w =
      when_ok result (IsTurn K r (record S { pending = waiting })) (IsTurn K (reply_to constructive S took (outcome constructive S inputs took)) (state_after constructive S took (outcome constructive S inputs took)))
      (λ t i. refused_turn K S took waiting (outcome constructive S inputs took) r t w (subst (Means K (outcome constructive S inputs took)) is (means_now took w)) i) (turn K)

  pub completes : (f : Finish) (drops_told : List Effect) (result : Result Turn NoMemory) → g ≡ ending.Finished f → drops_told ≡ drops (under kinds true copy.last) copy.instances waiting → ((K : Kernel) → IfOk result (IsTurn K (done_of (completed_of K f) drops_told after.instances after.last) (next_of (completed_of K f) after.instances after.last)))
      → (took : List Answer) → waiting ≡ stand.pending ++ took → IfOk result (IsTurn K (reply_to constructive S took (outcome constructive S inputs took)) (state_after constructive S took (outcome constructive S inputs took)))
  completes f drops_told result is dropped turn took w =
      when_ok result (IsTurn K (done_of (completed_of K f) drops_told after.instances after.last) (next_of (completed_of K f) after.instances after.last)) (IsTurn K (reply_to constructive S took (outcome constructive S inputs took)) (state_after constructive S took (outcome constructive S inputs took)))
      (λ t i. completed_turn K S took (outcome constructive S inputs took) f drops_told after.instances after.last t (subst (Means K (outcome constructive S inputs took)) is (means_now took w)) last_same (entered_same took w)
      (dropped ∙ ap (λ (r : Running). drops (under kinds true r.last) r.instances waiting) copied
      ∙ ap (λ (ks : List Kind). drops (under ks true stand.instances.last) stand.instances.instances waiting) of_bodies
      ∙ ap (λ (xs : List Answer). drops (under (constructive.kinds S.place) true stand.instances.last) stand.instances.instances xs) w) i) (turn K)

pub from_nothing : (told first more : List Effect) → told ≡ first ++ more → first ≡ [] → told ≡ more
from_nothing told first more is none = is ∙ ap (λ (xs : List Effect). xs ++ more) none
