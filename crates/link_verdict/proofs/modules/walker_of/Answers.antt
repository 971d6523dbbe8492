use Rattle.std.proofs.Common.{◌≡◌, None, rules}
use Rattle.indexmap.specs.IndexMap.{get_by_text}
use Rattle.link_faults.specs.Named.{Name}
use Rattle.link_verdict.proofs.Interfaces.{stands_in_interface}
use Rattle.link_verdict.proofs.modules.walker_of.Goals as goal

pub returns-clause-stands : goal.returns-clause-stands
returns-clause-stands c =
    let none : (q : Name) → get_by_text c.new.result q ≡ None = λ q. search rules in
    stands_in_interface c.args.interface.now (record {
      names = record {
        signals = c.in_ok-signals.signals;
        meanings = c.in_ok-meanings.meanings;
        parameters = c.new.result;
      };
      traps = c.new-2.result;
      first = None;
      runs = c.new-3.result;
    }) c.in_ok-signals.ensures.scope c.in_ok-signals.ensures.declared c.in_ok-meanings.ensures
    c.new-2.ensures.scope c.new-2.ensures.none none
