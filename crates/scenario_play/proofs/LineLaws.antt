-- One line of a scenario: what it does, and the text of it.
use Rattle.std.proofs.Common.{◌≡◌, ℕ, ◌+◌, ◌<◌, ◌≤◌, Option, Some, None, List, [], ◌∷◌, ◌++◌, length, take, Result, Ok, Err, OnOk}
use Rattle.std.proofs.Common.{get_or, refl, sym, ◌∙◌, ap, subst, append_assoc, append-nil, arith, inl, inr, lit<}
use Rattle.std.proofs.lemmas.Bool.{cases_lt}
use Rattle.std.proofs.lemmas.List.{take_more, length-map}
use Rattle.hh_io.specs.SinkState.{SinkState, Puts, CutsOff}
use Rattle.hh_io.specs.declared.fault.SinkFault.{SinkFault}
use Rattle.hh_io.specs.declared.sink.TheConstants.{WAITING_LIMIT}
use Rattle.hh_term.specs.declared.program.SignalDecl.{SignalDecl}
use Rattle.hh_term.specs.declared.program.BodyDecl.{BodyDecl}
use Rattle.exec_instance.specs.declared.answer.Answer.{Answer}
use Rattle.reaction_run.specs.declared.event.Input.{Input}
use Rattle.reaction_run.specs.declared.event.Event.{Event}
use Rattle.reaction_run.specs.declared.event.Event.TheVariants as event
use Rattle.reaction_run.specs.declared.log.Entry.{Entry}
use Rattle.reaction_run.specs.declared.reply.Reply.{Reply}
use Rattle.reaction_run.specs.declared.reply.Reply.TheVariants as reply
use Rattle.reaction_run.specs.Machine.{Machine, State}
use Rattle.reaction_run.specs.Reacting.{Reacts}
use Rattle.host_hooks.specs.Promise.{Promise}
use Rattle.scenario_lines.specs.declared.line.Line.{Line}
use Rattle.scenario_lines.specs.declared.line.Line.TheVariants as line
use Rattle.scenario_print.specs.Print.{printed_from, number_after, reply_lines}
use Rattle.scenario_play.specs.declared.play.Turn.{Turn}
use Rattle.scenario_play.specs.Plays.{Does}
use Rattle.scenario_play.specs.Playing.{LineDone, LineAdds, LinePlayed, LineCut, number_behind, replies_to, told_in}
use Rattle.scenario_play.specs.Playing.{line_text}
use Rattle.scenario_play.proofs.PlayLaws.{printed_more, number_more}
use Rattle.scenario_play.proofs.Puts.{puts_nothing}

-- ---- the print of a log

told_more : (xs ys : List Entry) → told_in (xs ++ ys) ≡ told_in xs ++ told_in ys
told_more [] ys = refl
told_more (x ∷ xs) ys = ap (λ (rs : List Reply). x.reply ∷ rs) (told_more xs ys)

number_steps : (n : ℕ) (r : Reply) → number_after n r ≤ n + 1
number_steps n (reply.Done d) = omega arith
number_steps n (reply.Causality names) = omega arith
number_steps n (reply.Multiple name) = omega arith
number_steps n (reply.Fault at kind) = omega arith
number_steps n (reply.Worn id) = omega arith
number_steps n reply.Idle = omega arith
number_steps n (reply.Reset kills) = omega arith

-- the first k entries of a log were printed
pub record Printed (signals : List SignalDecl) (bodies : List BodyDecl) (log : List Entry) (k number next : ℕ)
    (before now : List ℕ) : Type 0 where
  pub lines : now ≡ before ++ printed_from signals bodies number (told_in (take k log))
  pub counts : next ≡ number_behind number (told_in (take k log))
  pub small : next ≤ number + k

pub printed_none : (signals : List SignalDecl) (bodies : List BodyDecl) (log : List Entry) (number : ℕ) (before : List ℕ)
    → Printed signals bodies log 0 number number before before
printed_none signals bodies log number before =
    record { lines = sym (append-nil before); counts = refl; small = omega arith }

pub printed_on : (signals : List SignalDecl) (bodies : List BodyDecl) (log : List Entry) (k number next next' : ℕ)
    (before now now' : List ℕ) (e : Entry) → Printed signals bodies log k number next before now → k < length log
    → e ≡ get_or log k e → now' ≡ now ++ reply_lines signals bodies next e.reply → next' ≡ number_after next e.reply
    → Printed signals bodies log (k + 1) number next' before now'
printed_on signals bodies log k number next next' before now now' e p within is lines counts =
    let told : List Reply = told_in (take k log) in
    let more : told_in (take (k + 1) log) ≡ told ++ e.reply ∷ [] =
    ap told_in (take_more log k e within ∙ ap (λ (x : Entry). take k log ++ x ∷ []) (sym is))
    ∙ told_more (take k log) (e ∷ []) in
    record {
      lines =
          lines ∙ ap (λ (t : List ℕ). t ++ reply_lines signals bodies next e.reply) p.lines
          ∙ ap (λ (n : ℕ). (before ++ printed_from signals bodies number told) ++ reply_lines signals bodies n e.reply) p.counts
          ∙ append_assoc before (printed_from signals bodies number told) (reply_lines signals bodies (number_behind number told) e.reply)
          ∙ ap (λ (t : List ℕ). before ++ (printed_from signals bodies number told ++ t))
          (sym (append-nil (reply_lines signals bodies (number_behind number told) e.reply)))
          ∙ ap (λ (t : List ℕ). before ++ t) (sym (printed_more signals bodies number told (e.reply ∷ [])))
          ∙ ap (λ (rs : List Reply). before ++ printed_from signals bodies number rs) (sym more);
      counts =
          counts ∙ ap (λ (n : ℕ). number_after n e.reply) p.counts ∙ sym (number_more number told (e.reply ∷ []))
          ∙ ap (number_behind number) (sym more);
      small = (let s = number_steps next e.reply in let h = p.small in let c : next' ≡ number_after next e.reply = counts in omega arith);
    }

-- ---- what a line does

module _ {Place : Type 0} (M : Machine Place) (hooks : List Promise) (bodies : List BodyDecl) where
  pub line_reacted : (S S' : State Place) (posts more : List Answer) (inputs given : List Input) (l : Line)
      (log log' : List Entry) (r : Reply) → l ≡ line.React inputs → given ≡ inputs → log ≡ [] → more ≡ []
      → Reacts M S S' (event.React given posts) log log' r → LineDone M hooks bodies S S' posts more l log'
  line_reacted S S' posts more inputs given l log log' r is same none emptied reacts =
      record {
        event = Some (event.React given posts);
        does = subst (λ (k : Line). Does M hooks bodies S posts k (Some (event.React given posts)) more) (sym is)
            (ap (λ (i : List Input). Some (event.React i posts)) same, emptied);
        stands = reacts.1;
        told = ap told_in reacts.2 ∙ ap (λ (es : List Entry). told_in (es ++ record { event = event.React given posts; reply = r } ∷ [])) none
            ∙ ap (λ (x : Reply). x ∷ []) reacts.0;
      }

  pub line_reset : (S S' : State Place) (posts : List Answer) (l : Line) (log log' : List Entry) (r : Reply)
      → l ≡ line.Reset → log ≡ [] → Reacts M S S' event.Reset log log' r
      → LineDone M hooks bodies S S' posts posts l log'
  line_reset S S' posts l log log' r is none reacts =
      record {
        event = Some event.Reset;
        does = subst (λ (k : Line). Does M hooks bodies S posts k (Some event.Reset) posts) (sym is) (refl, refl);
        stands = reacts.1;
        told = ap told_in reacts.2 ∙ ap (λ (es : List Entry). told_in (es ++ record { event = event.Reset; reply = r } ∷ [])) none
            ∙ ap (λ (x : Reply). x ∷ []) reacts.0;
      }

  few_replies : (S : State Place) (e : Option Event) → length (replies_to M hooks bodies S e) ≤ 1
  few_replies S (Some e) = omega arith
  few_replies S None = omega arith

  -- a line gives at most one reply
  pub few_told : (S S' : State Place) (posts more : List Answer) (l : Line) (log : List Entry)
      → LineDone M hooks bodies S S' posts more l log → length log ≤ 1
  few_told S S' posts more l log d =
      let few = few_replies S d.event in
      let same : length log ≡ length (replies_to M hooks bodies S d.event) =
      sym (length-map log (λ (e : Entry). e.reply)) ∙ ap length d.told in
      omega arith

  number_line : (n : ℕ) (S : State Place) (e : Option Event) → number_behind n (replies_to M hooks bodies S e) ≤ n + 1
  number_line n S (Some e) = number_steps n _
  number_line n S None = omega arith

  pub line_counts : (signals : List SignalDecl) (S S' : State Place) (l : Line) (old new : Turn)
      → LineAdds M hooks bodies signals S S' l old new → new.number ≤ old.number + 1
  line_counts signals S S' l old new a =
      let small = number_line old.number S a.event in let same = a.counts in omega arith

  -- its replies, printed
  pub line_adds : (signals shown : List SignalDecl) (S S' : State Place) (l : Line) (log : List Entry) (old new : Turn)
      → LineDone M hooks bodies S S' old.posts new.posts l log → shown ≡ signals
      → new.out.items ≡ old.out.items ++ printed_from shown bodies old.number (told_in log)
      → new.number ≡ number_behind old.number (told_in log) → LineAdds M hooks bodies signals S S' l old new
  line_adds signals shown S S' l log old new d declared lines counts =
      record {
        event = d.event;
        does = d.does;
        stands = d.stands;
        counts = counts ∙ ap (number_behind old.number) d.told;
        text = lines ∙ ap (λ (ds : List SignalDecl). old.out.items ++ printed_from ds bodies old.number (told_in log)) declared
            ∙ ap (λ (rs : List Reply). old.out.items ++ printed_from signals bodies old.number rs) d.told;
      }

  -- and then a write of the text that waits, if it is long
  pub line_played : (signals : List SignalDecl) (S S' : State Place) (l : Line) (old middle new : Turn) (w w' : SinkState)
      → LineAdds M hooks bodies signals S S' l old middle → new.posts ≡ middle.posts → new.number ≡ middle.number
      → (length middle.out.items < WAITING_LIMIT → (new.out.items ≡ middle.out.items) × (w' ≡ w))
      → (WAITING_LIMIT ≤ length middle.out.items → Puts w w' middle.out.items)
      → (WAITING_LIMIT ≤ length middle.out.items → new.out.items ≡ [])
      → LinePlayed M hooks bodies signals S S' l old new w w'
  line_played signals S S' l old middle new w w' a posts number short long emptied =
      let does = subst (λ (ps : List Answer). Does M hooks bodies S old.posts l a.event ps) (sym posts) a.does in
      let counts = number ∙ a.counts in
      elim (cases_lt (length middle.out.items) WAITING_LIMIT) [
        | inl lt ↦
            record {
              event = a.event;
              does = does;
              stands = a.stands;
              counts = counts;
              put = [];
              written = subst (λ (s : SinkState). Puts w s []) (sym (short lt).1) (puts_nothing w);
              whole = sym a.text ∙ sym (short lt).0;
              waits = subst (λ (t : List ℕ). length t < WAITING_LIMIT) (sym (short lt).0) lt;
              patient = λ few. (short lt).1;
            }
        | inr le ↦
            record {
              event = a.event;
              does = does;
              stands = a.stands;
              counts = counts;
              put = middle.out.items;
              written = long le;
              whole = sym a.text ∙ sym (append-nil middle.out.items) ∙ ap (λ (t : List ℕ). middle.out.items ++ t) (sym (emptied le));
              waits = subst (λ (t : List ℕ). length t < WAITING_LIMIT) (sym (emptied le)) (lit< tt);
              patient = λ few. absurd (let size : length middle.out.items ≡ length (old.out.items ++ line_text M hooks bodies signals old.number S a.event) = ap length a.text in let no_more : ⊥ = omega arith in no_more);
            }
      ]

  pub line_cut : (signals : List SignalDecl) (S S' : State Place) (l : Line) (old middle : Turn) (w w' : SinkState)
      (fault : SinkFault) → LineAdds M hooks bodies signals S S' l old middle → CutsOff w w' middle.out.items fault
      → LineCut M hooks bodies signals S l old w w' fault
  line_cut signals S S' l old middle w w' fault a cut =
      record {
        event = a.event;
        more = middle.posts;
        does = a.does;
        cut = subst (λ (t : List ℕ). CutsOff w w' t fault) a.text cut;
      }

  pub played_ok : (r : Result (Unit {0}) SinkFault) (signals : List SignalDecl) (S S' : State Place) (l : Line)
      (old middle new : Turn) (w w' : SinkState) → LineAdds M hooks bodies signals S S' l old middle
      → new.posts ≡ middle.posts → new.number ≡ middle.number
      → (length middle.out.items < WAITING_LIMIT → (new.out.items ≡ middle.out.items) × (w' ≡ w))
      → (WAITING_LIMIT ≤ length middle.out.items → OnOk r (Puts w w' middle.out.items))
      → (WAITING_LIMIT ≤ length middle.out.items → OnOk r (new.out.items ≡ []))
      → OnOk r (LinePlayed M hooks bodies signals S S' l old new w w')
  played_ok (Ok x) signals S S' l old middle new w w' a posts number short long emptied =
      line_played signals S S' l old middle new w w' a posts number short long emptied
  played_ok (Err e) signals S S' l old middle new w w' a posts number short long emptied = tt
