-- The lines of a scenario, one after the other: what was written and what waits is the print of the replies.
use Rattle.std.proofs.Common.{◌≡◌, ℕ, ◌+◌, ◌<◌, ◌≤◌, Option, List, [], ◌∷◌, ◌++◌, length, take, drop, get_or}
use Rattle.std.proofs.Common.{refl, sym, ◌∙◌, ap, subst, append_assoc, append-nil, inl, inr, Result, Ok, Err, OnOk, All}
use Rattle.std.proofs.lemmas.List.{take_more, take_all, take-append-drop}
use Rattle.std.proofs.lemmas.List.Elements.{All-get_or}
use Rattle.std.specs.Option.{option_to_list}
use Rattle.hh_io.specs.SinkState.{SinkState, Puts, CutsOff}
use Rattle.hh_io.specs.declared.fault.SinkFault.{SinkFault}
use Rattle.hh_io.specs.declared.fault.SinkFault.TheVariants.{NoMemory}
use Rattle.hh_term.specs.declared.program.SignalDecl.{SignalDecl}
use Rattle.hh_term.specs.declared.program.BodyDecl.{BodyDecl}
use Rattle.exec_instance.specs.declared.answer.Answer.{Answer}
use Rattle.reaction_run.specs.declared.event.Event.{Event}
use Rattle.reaction_run.specs.declared.reply.Reply.{Reply}
use Rattle.reaction_run.specs.Machine.{Machine, State}
use Rattle.reaction_run.specs.Run.{replies, final_state}
use Rattle.host_hooks.specs.Promise.{Promise}
use Rattle.scenario_lines.specs.declared.line.Line.{Line}
use Rattle.scenario_print.specs.Print.{printed}
use Rattle.scenario_play.specs.declared.play.Turn.{Turn}
use Rattle.scenario_play.specs.Plays.{Does, Plays, WritesPlay, CutsPlay, LineFits, state_after}
use Rattle.scenario_play.specs.Playing.{LinePlayed, LineCut, CutsLine, line_text, number_behind, replies_to}
use Rattle.scenario_play.proofs.PlayLaws.{printed_more, number_more, replies_more, state_more, plays_more}
use Rattle.scenario_play.proofs.Puts.{puts_nothing, puts_no_part, puts_both, puts_same, cuts_behind}

pub line_fits : (signals shown : List SignalDecl) (lines : List Line) (i : ℕ) (l : Line) → All (LineFits signals) lines
    → shown ≡ signals → i < length lines → l ≡ get_or lines i l → LineFits shown l
line_fits signals shown lines i l all same within is =
    subst (λ (ds : List SignalDecl). LineFits ds l) (sym same)
    (subst (LineFits signals) (sym is) (All-get_or (LineFits signals) lines i l within all))

module _ {Place : Type 0} (M : Machine Place) (hooks : List Promise) (bodies : List BodyDecl)
    (signals : List SignalDecl) where
  -- the lines before the place i were played from S0 on: the machine stands in S, and what was written since w0
  -- and what waits is the print of the replies
  pub record Reached (S0 : State Place) (front : List Line) (turn : Turn) (S : State Place) (w0 w : SinkState)
      : Type 0 where
    pub events : List Event
    pub plays : Plays M hooks bodies S0 [] front events turn.posts
    pub stands : S ≡ final_state M S0 events
    pub counts : turn.number ≡ number_behind 1 (replies M S0 events)
    pub put : List ℕ
    pub written : Puts w0 w put
    pub whole : printed signals bodies (replies M S0 events) ≡ put ++ turn.out.items

  pub reached_none : (S0 S : State Place) (turn : Turn) (w : SinkState) → S ≡ S0 → turn.posts ≡ [] → turn.number ≡ 1
      → turn.out.items ≡ [] → Reached S0 [] turn S w w
  reached_none S0 S turn w same none one empty =
      record {
        events = [];
        plays = (refl, none);
        stands = same;
        counts = one;
        put = [];
        written = puts_nothing w;
        whole = sym empty;
      }

  -- the print, with the text of the next line at its end
  text_more : (S0 : State Place) (front : List Line) (turn : Turn) (S : State Place) (w0 w : SinkState)
      (r : Reached S0 front turn S w0 w) (e : Option Event)
      → printed signals bodies (replies M S0 (r.events ++ option_to_list e))
      ≡ r.put ++ (turn.out.items ++ line_text M hooks bodies signals turn.number S e)
  text_more S0 front turn S w0 w r e =
      let told : List Reply = replies M S0 r.events in
      ap (printed signals bodies) (replies_more M hooks bodies r.events S0 e)
      ∙ printed_more signals bodies 1 told (replies_to M hooks bodies (final_state M S0 r.events) e)
      ∙ ap (λ (n : ℕ). printed signals bodies told ++ line_text M hooks bodies signals n (final_state M S0 r.events) e) (sym r.counts)
      ∙ ap (λ (T : State Place). printed signals bodies told ++ line_text M hooks bodies signals turn.number T e) (sym r.stands)
      ∙ ap (λ (t : List ℕ). t ++ line_text M hooks bodies signals turn.number S e) r.whole
      ∙ append_assoc r.put turn.out.items (line_text M hooks bodies signals turn.number S e)

  does_there : (S0 : State Place) (front : List Line) (turn : Turn) (S : State Place) (w0 w : SinkState)
      (r : Reached S0 front turn S w0 w) (l : Line) (e : Option Event) (more : List Answer)
      → Does M hooks bodies S turn.posts l e more
      → Plays M hooks bodies S0 [] (front ++ l ∷ []) (r.events ++ option_to_list e) more
  does_there S0 front turn S w0 w r l e more d =
      plays_more M hooks bodies front S0 [] r.events turn.posts l e more r.plays
      (subst (λ (T : State Place). Does M hooks bodies T turn.posts l e more) r.stands d)

  -- one line further
  reached_next : (S0 : State Place) (front : List Line) (turn turn' : Turn) (S S' : State Place) (w0 w w' : SinkState)
      (l : Line) → Reached S0 front turn S w0 w → LinePlayed M hooks bodies signals S S' l turn turn' w w'
      → Reached S0 (front ++ l ∷ []) turn' S' w0 w'
  reached_next S0 front turn turn' S S' w0 w w' l r p =
      let told : List Reply = replies M S0 r.events in
      let last : List Reply = replies_to M hooks bodies (final_state M S0 r.events) p.event in
      record {
        events = r.events ++ option_to_list p.event;
        plays = does_there S0 front turn S w0 w r l p.event turn'.posts p.does;
        stands = p.stands ∙ ap (λ (T : State Place). state_after M hooks bodies T p.event) r.stands
            ∙ sym (state_more M hooks bodies r.events S0 p.event);
        counts = p.counts ∙ ap (λ (n : ℕ). number_behind n (replies_to M hooks bodies S p.event)) r.counts
            ∙ ap (λ (T : State Place). number_behind (number_behind 1 told) (replies_to M hooks bodies T p.event)) r.stands
            ∙ sym (number_more 1 told last)
            ∙ ap (number_behind 1) (sym (replies_more M hooks bodies r.events S0 p.event));
        put = r.put ++ p.put;
        written = puts_both w0 w w' r.put p.put r.written p.written;
        whole = text_more S0 front turn S w0 w r p.event ∙ ap (λ (t : List ℕ). r.put ++ t) p.whole
            ∙ sym (append_assoc r.put p.put turn'.out.items);
      }

  pub reached_on : (S0 : State Place) (lines : List Line) (i : ℕ) (turn turn' : Turn) (S S' : State Place)
      (w0 w w' : SinkState) (l : Line) → i < length lines → l ≡ get_or lines i l
      → Reached S0 (take i lines) turn S w0 w → LinePlayed M hooks bodies signals S S' l turn turn' w w'
      → Reached S0 (take (i + 1) lines) turn' S' w0 w'
  reached_on S0 lines i turn turn' S S' w0 w w' l within is r p =
      subst (λ (front : List Line). Reached S0 front turn' S' w0 w')
      (ap (λ (x : Line). take i lines ++ x ∷ []) is ∙ sym (take_more lines i l within))
      (reached_next S0 (take i lines) turn turn' S S' w0 w w' l r p)

  -- memory ran out before a line
  pub cut_before : (S0 : State Place) (lines : List Line) (i : ℕ) (turn : Turn) (S : State Place) (w0 w w' : SinkState)
      (fault : SinkFault) → Reached S0 (take i lines) turn S w0 w → fault ≡ NoMemory → w' ≡ w
      → CutsPlay M hooks bodies signals S0 lines w0 w' fault
  cut_before S0 lines i turn S w0 w w' fault r why same =
      record {
        front = take i lines;
        behind = drop i lines;
        parted = sym (take-append-drop i lines);
        events = r.events;
        left = turn.posts;
        plays = r.plays;
        cut =
            subst (CutsOff w0 w' (printed signals bodies (replies M S0 r.events))) (sym why)
            (cuts_behind w0 w w' (printed signals bodies (replies M S0 r.events)) r.put turn.out.items [] NoMemory r.written
            (subst (λ (s : SinkState). CutsOff w s turn.out.items NoMemory) (sym same) (puts_no_part w turn.out.items))
            (r.whole ∙ ap (λ (t : List ℕ). r.put ++ t) (sym (append-nil turn.out.items))));
      }

  -- cut off at a line
  cut_in : (S0 : State Place) (front behind : List Line) (turn : Turn) (S : State Place) (w0 w w' : SinkState)
      (l : Line) (fault : SinkFault) (lines : List Line) → lines ≡ (front ++ l ∷ []) ++ behind
      → Reached S0 front turn S w0 w → LineCut M hooks bodies signals S l turn w w' fault
      → CutsPlay M hooks bodies signals S0 lines w0 w' fault
  cut_in S0 front behind turn S w0 w w' l fault lines parted r c =
      let text : List ℕ = turn.out.items ++ line_text M hooks bodies signals turn.number S c.event in
      record {
        front = front ++ l ∷ [];
        behind = behind;
        parted = parted;
        events = r.events ++ option_to_list c.event;
        left = c.more;
        plays = does_there S0 front turn S w0 w r l c.event c.more c.does;
        cut =
            cuts_behind w0 w w' (printed signals bodies (replies M S0 (r.events ++ option_to_list c.event))) r.put text [] fault
            r.written c.cut
            (text_more S0 front turn S w0 w r c.event ∙ ap (λ (t : List ℕ). r.put ++ t) (sym (append-nil text)));
      }

  pub cut_at : (S0 : State Place) (lines : List Line) (i : ℕ) (turn : Turn) (S : State Place) (w0 w w' : SinkState)
      (l : Line) (fault : SinkFault) → i < length lines → l ≡ get_or lines i l → Reached S0 (take i lines) turn S w0 w
      → CutsLine M hooks bodies signals S l turn w w' fault → CutsPlay M hooks bodies signals S0 lines w0 w' fault
  cut_at S0 lines i turn S w0 w w' l fault within is r (inl h) = cut_before S0 lines i turn S w0 w w' fault r h.0 h.1
  cut_at S0 lines i turn S w0 w w' l fault within is r (inr c) =
      cut_in S0 (take i lines) (drop (i + 1) lines) turn S w0 w w' l fault lines
      (sym (take-append-drop (i + 1) lines)
      ∙ ap (λ (front : List Line). front ++ drop (i + 1) lines)
      (take_more lines i l within ∙ ap (λ (x : Line). take i lines ++ x ∷ []) (sym is))) r c

  -- behind the last line
  pub written_all : (S0 : State Place) (lines : List Line) (i : ℕ) (turn : Turn) (S : State Place) (w0 w w' : SinkState)
      → length lines ≤ i → Reached S0 (take i lines) turn S w0 w → Puts w w' turn.out.items
      → WritesPlay M hooks bodies signals S0 lines w0 w'
  written_all S0 lines i turn S w0 w w' all r p =
      record {
        events = r.events;
        left = turn.posts;
        plays = subst (λ (front : List Line). Plays M hooks bodies S0 [] front r.events turn.posts) (take_all i lines all) r.plays;
        written = puts_same w0 w' (r.put ++ turn.out.items) (printed signals bodies (replies M S0 r.events))
            (puts_both w0 w w' r.put turn.out.items r.written p) (sym r.whole);
      }

  pub cut_at_end : (S0 : State Place) (lines : List Line) (i : ℕ) (turn : Turn) (S : State Place) (w0 w w' : SinkState)
      (fault : SinkFault) → Reached S0 (take i lines) turn S w0 w → CutsOff w w' turn.out.items fault
      → CutsPlay M hooks bodies signals S0 lines w0 w' fault
  cut_at_end S0 lines i turn S w0 w w' fault r cut =
      record {
        front = take i lines;
        behind = drop i lines;
        parted = sym (take-append-drop i lines);
        events = r.events;
        left = turn.posts;
        plays = r.plays;
        cut =
            cuts_behind w0 w w' (printed signals bodies (replies M S0 r.events)) r.put turn.out.items [] fault r.written cut
            (r.whole ∙ ap (λ (t : List ℕ). r.put ++ t) (sym (append-nil turn.out.items)));
      }

pub on_ok_then : {T E : Type 0} (r : Result T E) (P Q : Type 0) → OnOk r P → (P → Q) → OnOk r Q
on_ok_then (Ok x) P Q p f = f p
on_ok_then (Err e) P Q p f = tt
