-- A play that goes on by one line.
use Rattle.std.proofs.Common.{◌≡◌, ℕ, Option, Some, None, List, [], ◌∷◌, ◌++◌, refl, sym, ◌∙◌, ap, subst}
use Rattle.std.proofs.Common.{append_assoc, append-nil}
use Rattle.std.specs.Option.{option_to_list}
use Rattle.hh_term.specs.declared.program.SignalDecl.{SignalDecl}
use Rattle.hh_term.specs.declared.program.BodyDecl.{BodyDecl}
use Rattle.exec_instance.specs.declared.answer.Answer.{Answer}
use Rattle.reaction_run.specs.declared.event.Event.{Event}
use Rattle.reaction_run.specs.declared.reply.Reply.{Reply}
use Rattle.reaction_run.specs.Machine.{Machine, State}
use Rattle.reaction_run.specs.Run.{replies, final_state, next_state, reply_of}
use Rattle.host_hooks.specs.Promise.{Promise}
use Rattle.scenario_lines.specs.declared.line.Line.{Line}
use Rattle.scenario_print.specs.Print.{printed_from, number_after, reply_lines}
use Rattle.scenario_play.specs.Plays.{Does, Plays, state_after}
use Rattle.scenario_play.specs.Playing.{number_behind, replies_to}

-- the print of replies that go on
pub printed_more : (signals : List SignalDecl) (bodies : List BodyDecl) (n : ℕ) (rs more : List Reply)
    → printed_from signals bodies n (rs ++ more)
    ≡ printed_from signals bodies n rs ++ printed_from signals bodies (number_behind n rs) more
printed_more signals bodies n [] more = refl
printed_more signals bodies n (r ∷ rs) more =
    ap (λ (t : List ℕ). reply_lines signals bodies n r ++ t) (printed_more signals bodies (number_after n r) rs more)
    ∙ sym (append_assoc (reply_lines signals bodies n r) (printed_from signals bodies (number_after n r) rs)
    (printed_from signals bodies (number_behind (number_after n r) rs) more))

pub number_more : (n : ℕ) (rs more : List Reply) → number_behind n (rs ++ more) ≡ number_behind (number_behind n rs) more
number_more n [] more = refl
number_more n (r ∷ rs) more = number_more (number_after n r) rs more

module _ {Place : Type 0} (M : Machine Place) (hooks : List Promise) (bodies : List BodyDecl) where
  -- a run of events that goes on
  pub replies_more : (es : List Event) (S : State Place) (e : Option Event)
      → replies M S (es ++ option_to_list e) ≡ replies M S es ++ replies_to M hooks bodies (final_state M S es) e
  replies_more [] S (Some e) = refl
  replies_more [] S None = refl
  replies_more (x ∷ xs) S e = ap (λ (rs : List Reply). reply_of M S x ∷ rs) (replies_more xs (next_state M S x) e)

  pub state_more : (es : List Event) (S : State Place) (e : Option Event)
      → final_state M S (es ++ option_to_list e) ≡ state_after M hooks bodies (final_state M S es) e
  state_more [] S (Some e) = refl
  state_more [] S None = refl
  state_more (x ∷ xs) S e = state_more xs (next_state M S x) e

  behind_first : (S : State Place) (e : Option Event) (rest : List Event)
      → final_state M S (option_to_list e ++ rest) ≡ final_state M (state_after M hooks bodies S e) rest
  behind_first S (Some e) rest = refl
  behind_first S None rest = refl

  -- lines that go on by one more
  pub plays_more : (ls : List Line) (S : State Place) (posts : List Answer) (es : List Event) (left : List Answer)
      (l : Line) (e : Option Event) (more : List Answer)
      → Plays M hooks bodies S posts ls es left → Does M hooks bodies (final_state M S es) left l e more
      → Plays M hooks bodies S posts (ls ++ l ∷ []) (es ++ option_to_list e) more
  plays_more [] S posts es left l e more p d = (
    e,
    more,
    [],
    subst (λ (ps : List Answer). Does M hooks bodies S ps l e more) p.1
        (subst (λ (fs : List Event). Does M hooks bodies (final_state M S fs) left l e more) p.0 d),
    ap (λ (fs : List Event). fs ++ option_to_list e) p.0 ∙ sym (append-nil (option_to_list e)),
    (refl, refl),
  )
  plays_more (k ∷ ls) S posts es left l e more (first, between, rest, does, parted, p) d =
      let there = subst (λ (T : State Place). Does M hooks bodies T left l e more)
      (ap (final_state M S) parted ∙ behind_first S first rest) d in (
        first,
        between,
        rest ++ option_to_list e,
        does,
        ap (λ (fs : List Event). fs ++ option_to_list e) parted ∙ append_assoc (option_to_list first) rest (option_to_list e),
        plays_more ls (state_after M hooks bodies S first) between rest left l e more p there,
      )
