-- What the code makes of a reset is the machine's reply and its next state.
use Rattle.std.proofs.Common.{◌≡◌, ℕ, ◌<◌, List, [], ◌++◌, map, sym, ◌∙◌, ap, subst}
use Rattle.std.specs.Prelude.{◌^◌}
use Rattle.hh_term.specs.Kernel.{Kernel}
use Rattle.hh_term.specs.Reaction as term
use Rattle.hh_term.specs.declared.mark.Control.TheVariants as control
use Rattle.exec_instance.specs.declared.answer.Answer.{Answer}
use Rattle.exec_instance.specs.declared.change.Change.{Change}
use Rattle.exec_instance.specs.declared.effect.Effect.{Effect}
use Rattle.exec_instance.specs.Effects.{effects, last_after, advanced}
use Rattle.exec_instance.specs.Running.{Running}
use Rattle.status_rounds.specs.declared.settle.Before.{Before}
use Rattle.status_rounds.specs.Before.{lasts_of}
use Rattle.reaction_run.specs.declared.reply.Reply.TheVariants as reply
use Rattle.reaction_run.specs.Run.{killed}
use Rattle.term_machine.specs.Place.{start_of}
use Rattle.term_machine.specs.ConstructiveMachine.{constructive}
use Rattle.term_machine.specs.Standing.{Stands}
use Rattle.term_reactor.specs.declared.stand.Stand.{Stand}
use Rattle.term_reactor.specs.Standing.{state_at, IsTurn}
use Rattle.term_reactor.proofs.Killing.{changes, reset_effects, reset_running, reset_last}

abbrev advanced_by : List Change → Running → Running
advanced_by cs r = record { last = last_after r.last cs; instances = advanced r.last cs r.instances }

module _ (K : Kernel) (stand : Stand) (s : Stands (state_at K stand)) (cs : List Change) (copy : Running) (these : cs ≡ changes (state_at K stand) s) (copied : copy ≡ stand.instances) where
  pub asks_room : (last : ℕ) → last ≡ stand.instances.last → last < 2 ^ 64 → last_after copy.last cs < 2 ^ 64
  asks_room last is fits =
      subst (λ (n : ℕ). n < 2 ^ 64) (is ∙ sym (reset_last (state_at K stand) s) ∙ sym (ap (λ (xs : List Change). last_after stand.instances.last xs) these) ∙ sym (ap (λ (r : Running). last_after r.last cs) copied)) fits

  pub resets : (after : Running) (first kills told : List Effect) (before : Before) (pending : List Answer) → after ≡ advanced_by cs copy → kills ≡ first ++ effects copy.last cs copy.instances → first ≡ [] → told ≡ kills → lasts_of before.cells.items ≡ term.first_lasts K → pending ≡ stand.pending
      → IsTurn K (reply.Reset (map (killed constructive (state_at K stand)) stand.instances.instances)) (record { place = start_of K; running = []; pending = stand.pending; last = stand.instances.last })
      (record { reply = reply.Reset told; next = record { control = control.Fresh; before = before; instances = after; pending = pending } })
  resets after first kills told before pending advances tells none same firsts waits =
      record {
        reply =
            ap (λ (es : List Effect). reply.Reset es)
            (same ∙ tells ∙ ap (λ (es : List Effect). es ++ effects copy.last cs copy.instances) none ∙ ap (λ (r : Running). effects r.last cs r.instances) copied ∙ ap (λ (xs : List Change). effects stand.instances.last xs stand.instances.instances) these ∙ reset_effects (state_at K stand) s);
        next =
            ap (λ (ls : List term.Last). record { place = record (start_of K) { lasts = ls }; running = after.instances; pending = pending; last = after.last }) firsts
            ∙ ap (λ (as' : List Answer). record { place = start_of K; running = after.instances; pending = as'; last = after.last }) waits
            ∙ ap (λ (r : Running). record { place = start_of K; running = r.instances; pending = stand.pending; last = r.last }) (advances ∙ ap (advanced_by cs) copied ∙ ap (λ (xs : List Change). advanced_by xs stand.instances) these)
            ∙ ap (λ (is : List _). record { place = start_of K; running = is; pending = stand.pending; last = last_after stand.instances.last (changes (state_at K stand) s) }) (reset_running (state_at K stand) s)
            ∙ ap (λ (n : ℕ). record { place = start_of K; running = []; pending = stand.pending; last = n }) (reset_last (state_at K stand) s);
      }
