use Rattle.std.proofs.Common.{◌≡◌, ◌⊎◌, ◌++◌, [], List, ◌∙◌, sym, ap, subst}
use Rattle.exec_instance.specs.declared.answer.Answer.{Answer}
use Rattle.reaction_run.specs.declared.event.Event.TheVariants.{React}
use Rattle.reaction_desk.specs.Adding.{entry_of}
use Rattle.reaction_desk.proofs.LegalLogs.{legal_on, stands_on, short_on, waits_after}
use Rattle.reaction_desk.proofs.logged.Logged.react.Goals as goal

pub invariant_of-self-2 : goal.invariant_of-self-2
invariant_of-self-2 g c =
    let M = g.M.Reactor in let d = c.args.self.now in let S = M.state d.first.value in let reacts = c.in_ok-reply.ensures.reacts in
    let e = React c.args.inputs.now c.args.took.now in let more = c.react.new.log in
    record {
      legal = legal_on M.machine S (M.state d.machine) (M.state c.react.new.self) d.log more e c.in_ok-reply.reply d.legal d.stands reacts;
      stands = stands_on M.machine S (M.state d.machine) (M.state c.react.new.self) d.log more e c.in_ok-reply.reply d.stands reacts;
      signals = c.react.ensures.signals ∙ d.signals;
      short = short_on d.log more (entry_of e c.in_ok-reply.reply) c.in_ok-check_room.ensures reacts.2;
      copied = c.keep_pending.ensures.copied;
      room = c.keep_pending.ensures.room;
    }

pub keep_pending-requires-clause-waits : goal.keep_pending-requires-clause-waits
keep_pending-requires-clause-waits g c =
    let M = g.M.Reactor in let d = c.args.self.now in let T = M.state d.machine in let U = M.state c.react.new.self in
    let old : T.pending ++ c.args.took.now ≡ c.copies_of.new.pending.items ++ c.in_ok-copies.copies.items =
    λ i. (sym d.copied ∙ sym c.copies_of.ensures.same) i ++ (sym c.in_ok-copies.ensures.copies) i in
    subst (λ (l : List Answer). (U.pending ≡ []) ⊎ (U.pending ≡ l)) old (waits_after M.machine T U d.log c.react.new.log (React c.args.inputs.now c.args.took.now) c.in_ok-reply.reply c.in_ok-reply.ensures.reacts)
