-- A legal log with one entry more.
use Rattle.std.proofs.Common.{◌≡◌, ℕ, ◌+◌, ◌⊎◌, inl, inr, Result, Ok, Err, IfOk, OnErr, Bool, true, false, ◌<◌, ◌^◌, List, [], ◌∷◌, ◌++◌, length, map, refl, sym, ◌∙◌, ap, subst, arith, append-nil, append_assoc, length-append}
use Rattle.std.specs.Prelude.{if◌then◌else◌}
use Rattle.std.specs.Coded.{Coded-set, coded_list}
use Rattle.std.proofs.lemmas.List.{nil_from_length}
use Rattle.std.proofs.Math.Logic.{∥∥₁_elim, ∥∥₁_prop}
use Rattle.exec_instance.specs.declared.answer.Answer.{Answer}
use Rattle.exec_instance.specs.contracts.answer.Answer as answer
use Rattle.reaction_run.specs.contracts.reply.Reply as reply
use Rattle.reaction_run.specs.declared.event.Event.{Event}
use Rattle.reaction_run.specs.declared.event.Event.TheVariants.{Reset}
use Rattle.reaction_run.specs.declared.reply.Reply.{Reply}
use Rattle.reaction_run.specs.declared.log.Entry.{Entry}
use Rattle.reaction_run.specs.Machine.{Machine, State}
use Rattle.reaction_run.specs.Run.{replies, final_state, next_state, reply_of}
use Rattle.reaction_run.specs.Legal.{Legal, event_of, reply_in, events_of, replies_in, took_by, took_in, tried, is_done}
use Rattle.reaction_run.specs.Reacting.{Reacts}
use Rattle.reaction_run.proofs.Keeping.{tried_once}
use Rattle.reaction_desk.specs.Adding.{entry_of}

pub events_more : (log : List Entry) (x : Entry) → events_of (log ++ x ∷ []) ≡ events_of log ++ x.event ∷ []
events_more [] x = refl
events_more (y ∷ log) x = ap (λ (es : List Event). y.event ∷ es) (events_more log x)

replies_added : (log : List Entry) (x : Entry) → replies_in (log ++ x ∷ []) ≡ replies_in log ++ x.reply ∷ []
replies_added [] x = refl
replies_added (y ∷ log) x = ap (λ (rs : List Reply). y.reply ∷ rs) (replies_added log x)

pub took_more : (es : List Event) (e : Event) → took_in (es ++ e ∷ []) ≡ took_in es ++ took_by e
took_more [] e = append-nil (took_by e)
took_more (x ∷ es) e = ap (λ (l : List Answer). took_by x ++ l) (took_more es e) ∙ sym (append_assoc (took_by x) (took_in es) (took_by e))

pub short_on : (log more : List Entry) (x : Entry) → length log < 2 ^ 60 → more ≡ log ++ x ∷ [] → length more < 2 ^ 64
short_on log more x few is = let a : length more ≡ length (log ++ x ∷ []) = ap length is in let b = length-append log (x ∷ []) in omega arith

none_more : (b : Bool) (p t n : List Answer) → (if b then p ++ t ++ [] else []) ++ n ≡ p ++ (t ++ []) → (n ≡ []) ⊎ (n ≡ p ++ t)
none_more true p t n e =
    let a = length-append (p ++ t ++ []) n in let b = length-append (p ++ t) [] in let c = length-append p t in let d = length-append p (t ++ []) in let f = length-append t [] in
    let g : length ((p ++ t ++ []) ++ n) ≡ length (p ++ (t ++ [])) = ap length e in
    inl (nil_from_length n (omega arith))
none_more false p t n e = inr (e ∙ ap (λ (l : List Answer). p ++ l) (append-nil t))

module _ {Place : Type 0} (M : Machine Place) where
  replies_more : (events : List Event) (S : State Place) (e : Event) → replies M S (events ++ e ∷ []) ≡ replies M S events ++ reply_of M (final_state M S events) e ∷ []
  replies_more [] S e = refl
  replies_more (x ∷ xs) S e = ap (λ (rs : List Reply). reply_of M S x ∷ rs) (replies_more xs (next_state M S x) e)

  state_more : (events : List Event) (S : State Place) (e : Event) → final_state M S (events ++ e ∷ []) ≡ next_state M (final_state M S events) e
  state_more [] S e = refl
  state_more (x ∷ xs) S e = state_more xs (next_state M S x) e

  legal_prop : (S : State Place) (log : List Entry) → IsProp (Legal M S log)
  legal_prop S log = Coded-set (coded_list reply.the_row.coded) (replies_in log) (replies M S (events_of log))

  legal_one : (S T U : State Place) (log more : List Entry) (e : Event) (r : Reply) → Legal M S log → T ≡ final_state M S (events_of log) → Reacts M T U e log more r → Legal M S more
  legal_one S T U log more e r legal stands reacts =
      ap replies_in reacts.2 ∙ replies_added log (entry_of e r) ∙ ap (λ (rs : List Reply). rs ++ r ∷ []) legal
      ∙ ap (λ (x : Reply). replies M S (events_of log) ++ x ∷ []) (reacts.0 ∙ ap (λ (V : State Place). reply_of M V e) stands)
      ∙ sym (replies_more (events_of log) S e) ∙ ap (replies M S) (sym (events_more log (entry_of e r)) ∙ ap events_of (sym reacts.2))

  -- the log is legal with the entry of an event, and leads to the state behind it
  pub legal_on : (S T U : State Place) (log more : List Entry) (e : Event) (r : Reply) → Legal M S log → ∥ T ≡ final_state M S (events_of log) ∥₁ → Reacts M T U e log more r → Legal M S more
  legal_on S T U log more e r legal stands reacts = ∥∥₁_elim stands (legal_prop S more) (λ is. legal_one S T U log more e r legal is reacts)

  pub stands_on : (S T U : State Place) (log more : List Entry) (e : Event) (r : Reply) → ∥ T ≡ final_state M S (events_of log) ∥₁ → Reacts M T U e log more r → ∥ U ≡ final_state M S (events_of more) ∥₁
  stands_on S T U log more e r stands reacts =
      ∥∥₁_elim stands ∥∥₁_prop (λ is. ∣ reacts.1 ∙ ap (λ (V : State Place). next_state M V e) is ∙ sym (state_more (events_of log) S e) ∙ ap (final_state M S) (sym (events_more log (entry_of e r)) ∙ ap events_of (sym reacts.2)) ∣₁)

  -- where an event is over, nothing waits, or what waited and what was taken
  pub waits_after : (T U : State Place) (log more : List Entry) (e : Event) (r : Reply) → Reacts M T U e log more r → (U.pending ≡ []) ⊎ (U.pending ≡ T.pending ++ took_by e)
  waits_after T U log more e r reacts =
      subst (λ (V : State Place). (V.pending ≡ []) ⊎ (V.pending ≡ T.pending ++ took_by e)) (sym reacts.1)
      (none_more (is_done (reply_of M T e)) T.pending (took_by e) (next_state M T e).pending (tried_once M T (e ∷ [])))

  -- the same of a reset, whose call may have failed
  pub record ResetKeeps (S T U : State Place) (more : List Entry) : Type 0 where
    pub legal : Legal M S more
    pub stands : ∥ U ≡ final_state M S (events_of more) ∥₁
    pub short : length more < 2 ^ 64
    pub waits : U.pending ≡ T.pending

  pub reset_keeps : {N : Type 0} (S T U : State Place) (log more : List Entry) → Legal M S log → ∥ T ≡ final_state M S (events_of log) ∥₁ → length log < 2 ^ 60
      → (out : Result Reply N) → IfOk out (λ r. Reacts M T U Reset log more r) → OnErr out ((U ≡ T) × (more ≡ log)) → ResetKeeps S T U more
  reset_keeps S T U log more legal stands few (Ok r) ok err =
      record {
        legal = legal_on S T U log more Reset r legal stands ok;
        stands = stands_on S T U log more Reset r stands ok;
        short = short_on log more (entry_of Reset r) few ok.2;
        waits = ap (λ (V : State Place). V.pending) ok.1;
      }
  reset_keeps S T U log more legal stands few (Err x) ok err =
      let same = ap length err.1 in
      record {
        legal = subst (λ (l : List Entry). Legal M S l) (sym err.1) legal;
        stands = ∥∥₁_elim stands ∥∥₁_prop (λ is. ∣ err.0 ∙ is ∙ ap (λ (l : List Entry). final_state M S (events_of l)) (sym err.1) ∣₁);
        short = omega arith;
        waits = ap (λ (V : State Place). V.pending) err.0;
      }
