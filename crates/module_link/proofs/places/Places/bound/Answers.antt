use Rattle.std.proofs.Common.{List, map, refl, sym, ap, ◌∙◌, arith}
use Rattle.std.specs.List.{find}
use Rattle.std.specs.Str.{bytes_eq}
use Rattle.std.proofs.lemmas.List.{take_all}
use Rattle.module_tree.specs.declared.source.Binding.{Binding}
use Rattle.module_tree.specs.declared.source.InterfaceNode.{InterfaceNode}
use Rattle.module_tree.specs.Scopes.{Signal, interface_signals}
use Rattle.link_faults.specs.Named.{Name}
use Rattle.module_link.specs.Resolved.{resolved_binding}
use Rattle.module_link.proofs.RunBindings.{one_more, signal_of}
use Rattle.module_link.proofs.places.Places.bound.Goals as goal

pub signals-preserved : goal.signals-preserved
signals-preserved c = λ k shows.
    let written = c.args.written.now in
    let i = c.signals.place in
    let d = c.index-interface-place.result in
    let name = ap (λ (e : InterfaceNode). e.signal.name) c.index-interface-place.is in
    one_more (λ (s : Signal). resolved_binding k c.args.pos s (find (λ (b : Binding Name).
    bytes_eq b.left.name s.signal.name) written)) c.args.interface.now i d c.signals.bindings.items
    c.push.new.self.items c.binding-binding.result (omega (arith, c.signals-test.true))
    c.index-interface-place.is (c.signals.invariant k shows)
    (c.binding-binding.ensures k shows (signal_of i d) refl name
    ∙ ap (resolved_binding k c.args.pos (signal_of i d)) (c.written_for-found.ensures
    ∙ ap (λ n. find (λ (b : Binding Name). bytes_eq b.left.name n) written) (sym name)))
    c.in_ok-push.ensures.items

pub returns : goal.returns
returns c = λ k shows.
    let written = c.args.written.now in
    c.from_vec.ensures ∙ c.signals.invariant k shows
    ∙ ap (λ (ds : List InterfaceNode). map (λ (s : Signal). resolved_binding k c.args.pos s
    (find (λ (b : Binding Name). bytes_eq b.left.name s.signal.name) written)) (interface_signals ds))
    (take_all c.signals.place c.args.interface.now (omega (arith, c.signals-test.false)))
