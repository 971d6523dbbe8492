use Rattle.std.proofs.Common.{refl}
use Rattle.link_faults.specs.declared.names.Names.{Names}
use Rattle.link_faults.proofs.ScopeMoves.{stands_within}
use Rattle.link_faults.proofs.walk.Walker.enter_signals.Goals as goal

pub returns-clause-moves : goal.returns-clause-moves
returns-clause-moves c = λ scope n s.
    let old = c.args.self.now in
    let names : Names = record {
      signals = c.enter_signals.new.self;
      meanings = c.add_meanings.new.meanings;
      parameters = old.names.parameters;
    } in
    record {
      stands = stands_within scope n c.in_ok-place.place c.args.signals.now old (record old { names = names }) s
          c.in_ok-place.ensures.0 c.in_ok-enter_signals.ensures.scope c.in_ok-enter_signals.ensures.declared
          c.in_ok-add_meanings.ensures refl refl;
      first = refl;
      runs = refl;
    }
