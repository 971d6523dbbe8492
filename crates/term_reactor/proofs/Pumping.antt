-- A pump where something waits is a reaction without inputs.
use Rattle.std.proofs.Common.{◌≡◌, Bool, true, false, List, [], ◌∷◌, ◌++◌, refl, sym, ◌∙◌, ap, subst}
use Rattle.std.specs.Prelude.{if◌then◌else◌, ◌↔◌, IsTrue}
use Rattle.hh_term.specs.Kernel.{Kernel}
use Rattle.exec_instance.specs.declared.answer.Answer.{Answer}
use Rattle.reaction_run.specs.declared.reply.Reply.TheVariants as reply
use Rattle.reaction_run.specs.Machine.{State}
use Rattle.reaction_run.specs.Run.{is_none_waiting, reply_of_reaction, after_reaction}
use Rattle.term_machine.specs.Place.{Place}
use Rattle.term_machine.specs.ConstructiveMachine.{constructive}
use Rattle.term_reactor.specs.declared.stand.Turn.{Turn}
use Rattle.term_reactor.specs.Standing.{IsTurn}

pub not_empty : (b : Bool) (xs : List Answer) → b ≡ false → (IsTrue b ↔ (xs ≡ [])) → xs ≡ [] → ⊥
not_empty true xs e h is = cc
not_empty false xs e h is = let no = h.1 is in cc

pub waits_first : (xs ys : List Answer) → (xs ≡ [] → ⊥) → is_none_waiting constructive (xs ++ ys) ≡ false
waits_first [] ys h = absurd (h refl)
waits_first (x ∷ xs) ys h = refl

pub waits_second : (xs ys : List Answer) → (ys ≡ [] → ⊥) → is_none_waiting constructive (xs ++ ys) ≡ false
waits_second [] [] h = absurd (h refl)
waits_second [] (y ∷ ys) h = refl
waits_second (x ∷ xs) ys h = refl

pub pump_turn : (K : Kernel) (S : State Place) (took copy : List Answer) (t : Turn) → copy ≡ took → is_none_waiting constructive (S.pending ++ took) ≡ false → IsTurn K (reply_of_reaction constructive S [] took) (after_reaction constructive S [] took) t
    → IsTurn K (if is_none_waiting constructive (S.pending ++ copy) then reply.Idle else reply_of_reaction constructive S [] copy) (if is_none_waiting constructive (S.pending ++ copy) then S else after_reaction constructive S [] copy) t
pump_turn K S took copy t same waits i =
    subst (λ (as' : List Answer). IsTurn K (if is_none_waiting constructive (S.pending ++ as') then reply.Idle else reply_of_reaction constructive S [] as') (if is_none_waiting constructive (S.pending ++ as') then S else after_reaction constructive S [] as') t) (sym same)
    (record {
      reply = i.reply ∙ sym (ap (λ (b : Bool). if b then reply.Idle else reply_of_reaction constructive S [] took) waits);
      next = i.next ∙ sym (ap (λ (b : Bool). if b then S else after_reaction constructive S [] took) waits);
    })
