-- What a desk begins from, and what it has. (This project's own.)
use Rattle.std.specs.Prelude.{◌≡◌, List}
use Rattle.exec_instance.specs.declared.answer.Answer.{Answer}
use Rattle.reaction_run.specs.declared.log.Entry.{Entry}
use Rattle.reaction_run.specs.declared.reactor.Reactor.{Ghosts}
use Rattle.notify_inbox.specs.declared.passes.Inbox.{Inbox}
use Rattle.notify_inbox.specs.declared.passes.TakePass.{TakePass}
use Rattle.reaction_desk.specs.declared.desk.Desk.{Desk}
use Rattle.reaction_desk.specs.declared.desk.Opening.{Opening}

-- the pass is one of this inbox
abbrev pub TakesFrom : Inbox → TakePass → Type 0
TakesFrom inbox pass = pass.pass.table_id ≡ inbox.queue.table.shared.table_id

module _ {M : Type 0} {G : Ghosts M} where
  -- the machine and the pass that it was given
  abbrev pub opening_of : Desk M G → Opening M
  opening_of d = record { machine = d.logged.first.value; pass = d.first_pass.value }

  -- its log
  abbrev pub log_of : Desk M G → List Entry
  log_of d = d.logged.log

  -- answers that were taken and are not in the log
  abbrev pub waiting_of : Desk M G → List Answer
  waiting_of d = d.waiting

  abbrev pub pass_of : Desk M G → TakePass
  pass_of d = d.pass
