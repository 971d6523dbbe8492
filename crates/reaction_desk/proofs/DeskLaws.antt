-- What an event keeps of a desk.
use Rattle.std.proofs.Common.{◌≡◌, ℕ, zero, suc, ◌+◌, ◌-◌, ◌<◌, ◌≤◌, ◌^◌, ◌⊎◌, ⊎_elim, Bool, true, false, ltb, Result, Ok, Err, IfOk, OnOk, OnErr, List, [], ◌∷◌, ◌++◌, length, refl, sym, ◌∙◌, ap, subst, arith, append-nil, append_assoc, length-append}
use mathlib.Core.Logic.{dite}
use native.Mathlib.Decide.{dec_lt}
use Rattle.exec_instance.specs.declared.answer.Answer.{Answer}
use Rattle.turn_cell.specs.Lists.{total}
use Rattle.turn_cell.proofs.Places.{total_snoc, ltb_no}
use Rattle.reaction_run.specs.declared.event.Event.{Event}
use Rattle.reaction_run.specs.declared.event.Event.TheVariants.{React, Pump, Reset}
use Rattle.reaction_run.specs.declared.reply.Reply.{Reply}
use Rattle.reaction_run.specs.declared.log.Entry.{Entry}
use Rattle.reaction_run.specs.Legal.{events_of, took_by, took_in}
use Rattle.notify_inbox.specs.declared.view.PassView.{PassView}
use Rattle.notify_inbox.specs.declared.passes.TakePass.{TakePass}
use Rattle.notify_inbox.specs.Views.{took_more}
use Rattle.notify_inbox.specs.Rule.{one_if}
use Rattle.notify_inbox.specs.Calls.{CountedOne, CountedOneAtMost, Took, RanDry, take_view, empties_of}
use Rattle.reaction_desk.specs.Adding.{IsAdded, entry_of, short_event, short_entry, count_short}
use Rattle.reaction_desk.specs.Taking.{TookMore, AddsEntry}
use Rattle.reaction_desk.proofs.LegalLogs as logs

most_one : (b : Bool) → one_if b ≤ 1
most_one true = omega arith
most_one false = omega arith

short_most : (e : Event) → short_event e ≤ 1
short_most (React inputs took) = most_one (ltb (length took) 4096)
short_most (Pump took) = most_one (ltb (length took) 4096)
short_most Reset = omega arith

short_none : (e : Event) → 4096 ≤ length (took_by e) → short_event e ≡ 0
short_none (React inputs took) l = ap one_if (ltb_no (length took) 4096 l)
short_none (Pump took) l = ap one_if (ltb_no (length took) 4096 l)
short_none Reset l = refl

count_most : (log : List Entry) → count_short log ≤ length log
count_most [] = omega arith
count_most (x ∷ log) = let a = count_most log in let b = short_most x.event in omega arith

counted_up : (m n : ℕ) → CountedOne m n → m ≤ n
counted_up m n c = ⊎_elim (λ (e : n ≡ m + 1). omega arith) (λ (e : (m ≡ 2 ^ 64 - 1) × (n ≡ m)). let f = e.1 in omega arith) c

pub counted_most : (m n : ℕ) → CountedOneAtMost m n → m ≤ n
counted_most m n c = ⊎_elim (λ (e : n ≡ m). omega arith) (λ (e : CountedOne m n). counted_up m n e) c

-- a list that grows by one entry has one short entry more at most, and none more where its answers are 4,096
short_after : (log more : List Entry) (e : Event) (r : Reply) (has : List Answer) (m n : ℕ) → IsAdded log more e r → took_by e ≡ has → count_short log ≤ m → m ≤ n
    → length more < 2 ^ 64 → (length has < 4096 → CountedOne m n) → count_short more ≤ n
short_after log more e r has m n added took low up small told =
    let grown : count_short more ≡ count_short log + short_event e = ap count_short added ∙ total_snoc short_entry log (entry_of e r) in
    let one = short_most e in let most = count_most more in let same : length (took_by e) ≡ length has = ap length took in
    dite (dec_lt (length has) 4096)
    (λ l. ⊎_elim (λ (z : n ≡ m + 1). omega arith) (λ (z : (m ≡ 2 ^ 64 - 1) × (n ≡ m)). let y = z.0 in let x = z.1 in omega arith) (told l))
    (λ l. let z = short_none e (omega arith) in omega arith)

module _ (first : PassView Answer) where
  -- what the pass took is what the log took, and then what waits; short entries are no more than Nones; and not too many wait
  pub record DeskKept (log : List Entry) (now : PassView Answer) (empties : ℕ) (waits : List Answer) : Type 0 where
    pub took : now ≡ took_more first (took_in (events_of log) ++ waits)
    pub short : count_short log ≤ empties
    pub few : length waits ≤ 4096

  -- where answers were taken and no entry was added
  pub kept_taken : (log : List Entry) (old new : TakePass) (had has : List Answer) → DeskKept log (take_view old) (empties_of old) had → TookMore old new had has → DeskKept log (take_view new) (empties_of new) has
  kept_taken log old new had has kept t =
      let all : List Answer = took_in (events_of log) in
      let lists : (first.took ++ (all ++ had)) ++ t.more ≡ first.took ++ (all ++ has) =
      append_assoc first.took (all ++ had) t.more ∙ ap (λ (l : List Answer). first.took ++ l) (append_assoc all had t.more ∙ ap (λ (l : List Answer). all ++ l) (sym t.took.appended)) in
      let up = counted_most (empties_of old) (empties_of new) t.took.counted in let low = kept.short in
      record {
        took = t.took.taken ∙ ap (λ (v : PassView Answer). took_more v t.more) kept.took ∙ ap (λ (l : List Answer). record first { took = l }) lists;
        short = omega arith;
        few = t.few;
      }

  kept_same : (log more : List Entry) (now : PassView Answer) (empties : ℕ) (has waits : List Answer) → DeskKept log now empties has → more ≡ log → waits ≡ has → DeskKept more now empties waits
  kept_same log more now empties has waits kept same same' =
      subst (λ (l : List Entry). DeskKept l now empties waits) (sym same) (subst (λ (l : List Answer). DeskKept log now empties l) (sym same') kept)

  -- an event with the answers that wait
  pub kept_event : {N : Type 0} (log more : List Entry) (old new : TakePass) (had has waits : List Answer) (e : Event)
      → DeskKept log (take_view old) (empties_of old) had → TookMore old new had has → took_by e ≡ has → length more < 2 ^ 64 → (length has < 4096 → RanDry old new)
      → (out : Result Reply N) → IfOk out (IsAdded log more e) → OnOk out (waits ≡ []) → OnErr out ((more ≡ log) × (waits ≡ has))
      → DeskKept more (take_view new) (empties_of new) waits
  kept_event log more old new had has waits e kept t is small end (Ok r) added none failed =
      let base = kept_taken log old new had has kept t in
      let up = counted_most (empties_of old) (empties_of new) t.took.counted in
      let lists : took_in (events_of log) ++ has ≡ took_in (events_of more) ++ waits =
      ap (λ (l : List Answer). took_in (events_of log) ++ l) (sym is) ∙ sym (logs.took_more (events_of log) e)
      ∙ ap took_in (sym (logs.events_more log (entry_of e r)) ∙ ap events_of (sym added))
      ∙ sym (append-nil (took_in (events_of more))) ∙ ap (λ (l : List Answer). took_in (events_of more) ++ l) (sym none) in
      let zero_left : length waits ≡ 0 = ap length none in
      record {
        took = base.took ∙ ap (λ (l : List Answer). took_more first l) lists;
        short = short_after log more e r has (empties_of old) (empties_of new) added is kept.short up small (λ l. (end l).counted);
        few = omega arith;
      }
  kept_event log more old new had has waits e kept t is small end (Err x) added none failed =
      kept_same log more (take_view new) (empties_of new) has waits (kept_taken log old new had has kept t) failed.0 failed.1

  -- a reset takes nothing
  pub kept_reset : {N : Type 0} (log more : List Entry) (now : PassView Answer) (empties : ℕ) (waits : List Answer) → DeskKept log now empties waits
      → (out : Result Reply N) → IfOk out (IsAdded log more Reset) → OnErr out (more ≡ log) → DeskKept more now empties waits
  kept_reset log more now empties waits kept (Ok r) added failed =
      let lists : took_in (events_of log) ≡ took_in (events_of more) =
      sym (append-nil (took_in (events_of log))) ∙ sym (logs.took_more (events_of log) Reset) ∙ ap took_in (sym (logs.events_more log (entry_of Reset r)) ∙ ap events_of (sym added)) in
      let grown : count_short more ≡ count_short log + 0 = ap count_short added ∙ total_snoc short_entry log (entry_of Reset r) in let low = kept.short in
      record {
        took = kept.took ∙ ap (λ (l : List Answer). took_more first (l ++ waits)) lists;
        short = omega arith;
        few = kept.few;
      }
  kept_reset log more now empties waits kept (Err x) added failed = kept_same log more now empties waits waits kept failed refl

-- what the call tells
pub adds_of : {N : Type 0} (of : List Answer → Event) (log more : List Entry) (old new : TakePass) (had has waits : List Answer) → TookMore old new had has
    → (out : Result Reply N) → IfOk out (IsAdded log more (of has)) → OnOk out (waits ≡ []) → OnOk out (length has < 4096 → RanDry old new) → OnErr out ((more ≡ log) × (waits ≡ has))
    → AddsEntry of log more had waits old new out
adds_of of log more old new had has waits t (Ok r) added none end failed =
    record {
      taken = t.more;
      took = t.took.taken;
      entry = subst (λ (l : List Answer). IsAdded log more (of l) r) t.took.appended added;
      none = none;
      end = subst (λ (l : List Answer). length l < 4096 → RanDry old new) t.took.appended end;
      no_entry = tt;
      kept = tt;
    }
adds_of of log more old new had has waits t (Err x) added none end failed =
    record {
      taken = t.more;
      took = t.took.taken;
      entry = tt;
      none = tt;
      end = tt;
      no_entry = failed.0;
      kept = failed.1 ∙ t.took.appended;
    }
