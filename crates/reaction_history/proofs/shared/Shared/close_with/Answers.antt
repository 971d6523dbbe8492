use Rattle.std.proofs.Common.{◌≡◌, List, sym, ap, subst}
use Rattle.turn_cell.specs.Calls.{view, EndsWith}
use Rattle.reaction_run.specs.declared.log.Entry.{Entry}
use Rattle.reaction_run.specs.Legal.{Legal}
use Rattle.reaction_desk.specs.Desks.{opening_of}
use Rattle.reaction_history.proofs.shared.Shared.close_with.Goals as goal

pub close-requires-in-Ok-clause-inbox : goal.close-requires-in-Ok-clause-inbox
close-requires-in-Ok-clause-inbox g c = (c.requires.own.begins (opening_of c.in-Ok.desk) c.in-Ok.ensures.end.start).takes_from

pub close-requires-in-Ok-clause-taker : goal.close-requires-in-Ok-clause-taker
close-requires-in-Ok-clause-taker g c = (c.requires.own.begins (opening_of c.in-Ok.desk) c.in-Ok.ensures.end.start).taker

pub close-requires-in-Ok-clause-none : goal.close-requires-in-Ok-clause-none
close-requires-in-Ok-clause-none g c = (c.requires.own.begins (opening_of c.in-Ok.desk) c.in-Ok.ensures.end.start).none

pub returns-in-Ok-clause-closed : goal.returns-in-Ok-clause-closed
returns-in-Ok-clause-closed g c =
    let M = g.M.Reactor in let d = c.in-Ok.desk in let log = sym c.close-in-Ok.ensures.log in
    record {
      first = opening_of d;
      end = subst (λ (es : List Entry). EndsWith (view c.args.seat) (opening_of d) es) log c.in-Ok.ensures.end;
      legal = subst (λ (es : List Entry). Legal M.machine (M.state d.logged.first.value) es) log d.logged.legal;
      leads = c.close-in-Ok.ensures.state;
      posted = c.close-in-Ok.ensures.posted;
    }
