use Rattle.std.proofs.Common.{◌≡◌, map, take}
use Rattle.std.specs.List.{find}
use Rattle.std.specs.Str.{bytes_eq}
use Rattle.module_tree.specs.declared.source.Binding.{Binding}
use Rattle.module_tree.specs.Scopes.{Signal, InScope, interface_signals}
use Rattle.link_faults.specs.Named.{Name}
use Rattle.module_link.specs.Places.{Shows}
use Rattle.module_link.specs.Resolved.{resolved_binding}
use Rattle.module_link.proofs.places.Places.bound.Given as goal

abbrev pub invariant-signals : goal.invariant-signals
invariant-signals l = (c : InScope) → Shows l.self c → l.bindings.items ≡ map
    (λ (s : Signal). resolved_binding c l.fn.pos s (find (λ (b : Binding Name). bytes_eq b.left.name
    s.signal.name) l.fn.written)) (interface_signals (take l.place l.interface))
