use Rattle.std.proofs.Common.{◌≡◌, ◌+◌, ◌≤◌, ◌++◌, length, List, vec_len, vec_capacity}
use Rattle.exec_instance.specs.declared.answer.Answer.{Answer}
use Rattle.notify_inbox.specs.Views.{took_more}
use Rattle.notify_inbox.specs.Calls.{take_view, IsTakePassOf}
use Rattle.notify_inbox.proofs.passes.Inbox.take_up_to.Given as goal

abbrev pub invariant-loop : goal.invariant-loop
invariant-loop g l = record {
  own : IsTakePassOf l.self l.pass;
  room : vec_len l.into + l.most ≤ vec_capacity l.into + l.counter;
  took : (more : List Answer) × (l.into.items ≡ l.fn.into.items ++ more) × (take_view l.pass ≡ took_more (take_view l.fn.pass) more)
      × (length more ≡ l.counter);
  empties : l.pass.empties ≡ l.fn.pass.empties;
}
