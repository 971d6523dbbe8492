use Rattle.std.proofs.Common.{refl}
use Rattle.link_faults.specs.declared.names.Names.{Names}
use Rattle.link_faults.proofs.ScopeMoves.{stands_outside}
use Rattle.link_faults.proofs.walk.Walker.leave_signals.Goals as goal

pub returns-clause-moves : goal.returns-clause-moves
returns-clause-moves c = λ scope n signals long s.
    let old = c.args.self.now in
    let names : Names = record {
      signals = c.leave_all.new.self;
      meanings = old.names.meanings;
      parameters = old.names.parameters;
    } in
    record {
      stands = stands_outside scope n c.args.count signals old (record old { names = names }) long s
          c.in_ok-leave_all.ensures.scope c.in_ok-leave_all.ensures.declared refl refl refl;
      first = refl;
      runs = refl;
    }
