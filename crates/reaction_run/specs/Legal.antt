-- A log is legal from a state of a machine where its replies are those of a run of its events from there.
-- (This project's own.)
use Rattle.std.specs.Prelude.{◌≡◌, Bool, true, false, if◌then◌else◌, List, [], ◌∷◌, ◌++◌, map}
use Rattle.exec_instance.specs.declared.answer.Answer.{Answer}
use Rattle.reaction_run.specs.declared.event.Event.{Event}
use Rattle.reaction_run.specs.declared.event.Event.TheVariants.{React, Pump, Reset}
use Rattle.reaction_run.specs.declared.reply.Reply.{Reply}
use Rattle.reaction_run.specs.declared.reply.Reply.TheVariants as reply
use Rattle.reaction_run.specs.declared.log.Entry.{Entry}
use Rattle.reaction_run.specs.Machine.{Machine, State}
use Rattle.reaction_run.specs.Run.{replies}

abbrev pub event_of : Entry → Event
event_of e = e.event

abbrev pub reply_in : Entry → Reply
reply_in e = e.reply

abbrev pub events_of : List Entry → List Event
events_of log = map event_of log

abbrev pub replies_in : List Entry → List Reply
replies_in log = map reply_in log

abbrev pub Legal : {Place : Type 0} → Machine Place → State Place → List Entry → Type 0
Legal M start log = replies_in log ≡ replies M start (events_of log)

-- the answers that an event took
abbrev pub took_by : Event → List Answer
took_by (React inputs took) = took
took_by (Pump took) = took
took_by Reset = []

abbrev pub took_in : List Event → List Answer
took_in [] = []
took_in (e ∷ es) = took_by e ++ took_in es

-- a reaction was accepted
abbrev pub is_done : Reply → Bool
is_done (reply.Done d) = true
is_done _ = false

-- the answers that the accepted reactions of the events tried, in order, where these wait at first; and those
-- that are left. Both are read off the events and the replies alone
abbrev pub tried : List Answer → List Event → List Reply → List Answer
tried pending (e ∷ es) (r ∷ rs) =
    if is_done r then pending ++ took_by e ++ tried [] es rs else tried (pending ++ took_by e) es rs
tried pending _ _ = []

abbrev pub left : List Answer → List Event → List Reply → List Answer
left pending (e ∷ es) (r ∷ rs) = if is_done r then left [] es rs else left (pending ++ took_by e) es rs
left pending _ _ = pending
