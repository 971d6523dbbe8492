-- What an event adds to a log. (This project's own.)
use Rattle.std.specs.Prelude.{◌≡◌, ℕ, ◌+◌, List, [], ◌∷◌, ◌++◌, length, ltb}
use Rattle.turn_cell.specs.Lists.{total}
use Rattle.notify_inbox.specs.Rule.{one_if}
use Rattle.notify_inbox.specs.declared.limits.TheConstants.{INBOX_PLACES}
use Rattle.reaction_run.specs.declared.event.Event.{Event}
use Rattle.reaction_run.specs.declared.event.Event.TheVariants.{React, Pump, Reset}
use Rattle.reaction_run.specs.declared.reply.Reply.{Reply}
use Rattle.reaction_run.specs.declared.log.Entry.{Entry}

abbrev pub entry_of : Event → Reply → Entry
entry_of e r = record { event = e; reply = r }

-- one entry more: this event, and the reply to it
abbrev pub IsAdded : List Entry → List Entry → Event → Reply → Type 0
IsAdded log more e r = more ≡ log ++ entry_of e r ∷ []

-- 1 for a React or a Pump with fewer answers
abbrev pub short_event : Event → ℕ
short_event (React inputs took) = one_if (ltb (length took) INBOX_PLACES)
short_event (Pump took) = one_if (ltb (length took) INBOX_PLACES)
short_event Reset = 0

abbrev pub short_entry : Entry → ℕ
short_entry e = short_event e.event

-- how many of them a log has
abbrev pub count_short : List Entry → ℕ
count_short log = total short_entry log
