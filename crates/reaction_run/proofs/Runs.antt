-- A run that goes on by one event.
use Rattle.std.proofs.Common.{◌≡◌, ℕ, zero, suc, ◌+◌, ◌<◌, List, [], ◌∷◌, ◌++◌, length, take, get_or, refl, sym, ◌∙◌, ap, subst, arith}
use Rattle.std.specs.List.{AllByRecursion}
use Rattle.std.proofs.lemmas.List.{take_more}
use Rattle.reaction_run.specs.declared.event.Event.{Event}
use Rattle.reaction_run.specs.declared.reply.Reply.{Reply}
use Rattle.reaction_run.specs.declared.log.Entry.{Entry}
use Rattle.reaction_run.specs.Machine.{Machine, State}
use Rattle.reaction_run.specs.Run.{replies, final_state, next_state, reply_of}
use Rattle.reaction_run.specs.Reacting.{Reacts}

pub fits_at : (P : Event → Type 0) (events : List Event) (k : ℕ) (e : Event) → AllByRecursion P events → k < length events → e ≡ get_or events k e → P e
fits_at P [] k e all within is = absurd (omega arith)
fits_at P (x ∷ xs) zero e all within is = subst P (sym is) all.0
fits_at P (x ∷ xs) (suc k) e all within is = fits_at P xs k e all.1 (omega arith) is

module _ {Place : Type 0} (M : Machine Place) where
  replies_more : (events : List Event) (S : State Place) (e : Event) → replies M S (events ++ e ∷ []) ≡ replies M S events ++ reply_of M (final_state M S events) e ∷ []
  replies_more [] S e = refl
  replies_more (x ∷ xs) S e = ap (λ (rs : List Reply). reply_of M S x ∷ rs) (replies_more xs (next_state M S x) e)

  state_more : (events : List Event) (S : State Place) (e : Event) → final_state M S (events ++ e ∷ []) ≡ next_state M (final_state M S events) e
  state_more [] S e = refl
  state_more (x ∷ xs) S e = state_more xs (next_state M S x) e

  -- the first k events were taken
  pub record Ran (S : State Place) (events : List Event) (k : ℕ) (now : State Place) (told : List Reply) : Type 0 where
    pub replies_are : told ≡ replies M S (take k events)
    pub state_is : now ≡ final_state M S (take k events)

  pub none_ran : (S : State Place) (events : List Event) → Ran S events 0 S []
  none_ran S events = record { replies_are = refl; state_is = refl }

  pub ran_on : (S : State Place) (events : List Event) (k : ℕ) (now after : State Place) (told told' : List Reply) (e : Event) (log more : List Entry) (r : Reply) → Ran S events k now told → k < length events → e ≡ get_or events k e
      → Reacts M now after e log more r → told' ≡ told ++ r ∷ [] → Ran S events (k + 1) after told'
  ran_on S events k now after told told' e log more r ran within is reacts is_told =
      let more_taken : take (k + 1) events ≡ take k events ++ e ∷ [] = take_more events k e within ∙ ap (λ (x : Event). take k events ++ x ∷ []) (sym is) in
      record {
        replies_are =
            is_told ∙ ap (λ (rs : List Reply). rs ++ r ∷ []) ran.replies_are ∙ ap (λ (x : Reply). replies M S (take k events) ++ x ∷ []) (reacts.0 ∙ ap (λ (T : State Place). reply_of M T e) ran.state_is)
            ∙ sym (replies_more (take k events) S e) ∙ ap (λ (es : List Event). replies M S es) (sym more_taken);
        state_is = reacts.1 ∙ ap (λ (T : State Place). next_state M T e) ran.state_is ∙ sym (state_more (take k events) S e) ∙ ap (λ (es : List Event). final_state M S es) (sym more_taken);
      }

  pub prefix_ran : (S : State Place) (events : List Event) (k : ℕ) (now : State Place) (told : List Reply) → Ran S events k now told → (j : ℕ) × (now ≡ final_state M S (take j events))
  prefix_ran S events k now told ran = (k, ran.state_is)

  pub prefix_more : (S : State Place) (events : List Event) (k : ℕ) (now after : State Place) (told : List Reply) (e : Event) (log more : List Entry) (r : Reply) → Ran S events k now told → k < length events → e ≡ get_or events k e
      → Reacts M now after e log more r → (j : ℕ) × (after ≡ final_state M S (take j events))
  prefix_more S events k now after told e log more r ran within is reacts = (k + 1, (ran_on S events k now after told (told ++ r ∷ []) e log more r ran within is reacts refl).state_is)
