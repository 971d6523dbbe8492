-- What an event at a desk takes and adds. (This project's own.)
use Rattle.std.specs.Prelude.{◌≡◌, ℕ, ◌<◌, ◌≤◌, List, [], ◌++◌, length, Result, IfOk, OnOk, OnErr}
use Rattle.exec_instance.specs.declared.answer.Answer.{Answer}
use Rattle.reaction_run.specs.declared.event.Event.{Event}
use Rattle.reaction_run.specs.declared.reply.Reply.{Reply}
use Rattle.reaction_run.specs.declared.log.Entry.{Entry}
use Rattle.notify_inbox.specs.declared.limits.TheConstants.{INBOX_PLACES}
use Rattle.notify_inbox.specs.declared.passes.TakePass.{TakePass}
use Rattle.notify_inbox.specs.Calls.{Took, RanDry, take_view}
use Rattle.notify_inbox.specs.Views.{took_more}
use Rattle.reaction_desk.specs.Adding.{IsAdded}

-- some answers were taken to those that wait, which are at most 4,096 then
pub record TookMore (old new : TakePass) (had has : List Answer) : Type 0 where
  pub more : List Answer
  pub took : Took old new had has more
  pub few : length has ≤ INBOX_PLACES

-- answers were taken, and one entry was added, whose answers are those that had waited and then those that
-- were taken. Where they are fewer than 4,096, the queue was empty at a moment of the call. Where memory ran
-- out, no entry was added, and they wait
pub record AddsEntry {N : Type 0} (of : List Answer → Event) (log more : List Entry)
    (had waits : List Answer) (old new : TakePass)
    (out : Result Reply N) : Type 0 where
  pub taken : List Answer
  pub took : take_view new ≡ took_more (take_view old) taken
  pub entry : IfOk out (IsAdded log more (of (had ++ taken)))
  pub none : OnOk out (waits ≡ [])
  pub end : OnOk out (length (had ++ taken) < INBOX_PLACES → RanDry old new)
  pub no_entry : OnErr out (more ≡ log)
  pub kept : OnErr out (waits ≡ had ++ taken)
