-- A walker where the signals of an interface are in scope.
use Rattle.std.proofs.Common.{◌≡◌, ℕ, ◌+◌, None, List, [], ◌∷◌, ◌++◌, map, length, refl, sym, ◌∙◌, ap}
use Rattle.std.proofs.Common.{append_assoc, length-append}
use Rattle.std.specs.Prelude.{Some, slice_get}
use Rattle.std.proofs.Math.Path.{fun_ext}
use Rattle.indexmap.specs.IndexMap.{get_by_text}
use Rattle.module_tree.specs.declared.source.InterfaceNode.{InterfaceNode}
use Rattle.module_tree.specs.Scopes.{InScope, interface_from, interface_signals}
use Rattle.link_faults.specs.declared.names.Meaning.{Meaning}
use Rattle.link_faults.specs.declared.walk.Walker.{Walker}
use Rattle.link_faults.specs.Named.{Name}
use Rattle.link_faults.specs.InnermostFirst.{Named, IsScope, in_scope, shown}
use Rattle.link_faults.specs.Meanings.{node_meaning}
use Rattle.link_faults.specs.Walks.{shown_by, shown_signal, Stands}
use Rattle.link_faults.proofs.RunLaws.{at_seam}

now_shown : (pre : List Meaning) (interface : List InterfaceNode) (n : ℕ) → n ≡ length pre
    → map (shown_by (pre ++ map node_meaning interface)) (map shown (interface_from n interface))
    ≡ map shown_signal (interface_from n interface)
now_shown pre [] n e = refl
now_shown pre (d ∷ interface) n e =
    let whole = pre ++ node_meaning d ∷ map node_meaning interface in
    let here : slice_get whole n ≡ Some (node_meaning d) = ap (slice_get whole) e
    ∙ at_seam pre (node_meaning d) (map node_meaning interface) in
    ap (λ m. record { name = d.signal.name; meaning = m } ∷ map (shown_by whole)
    (map shown (interface_from (n + 1) interface))) here
    ∙ ap (λ xs. record { name = d.signal.name; meaning = Some (node_meaning d) } ∷ xs)
    (ap (λ ms. map (shown_by ms) (map shown (interface_from (n + 1) interface)))
    (sym (append_assoc pre (node_meaning d ∷ []) (map node_meaning interface)))
    ∙ now_shown (pre ++ node_meaning d ∷ []) interface (n + 1)
    (ap (λ k. k + 1) e ∙ sym (length-append pre (node_meaning d ∷ []))))

-- what is in scope in the block of a module
abbrev pub interface_scope : List InterfaceNode → InScope
interface_scope interface = record { signals = interface_signals interface; traps = [] }

pub stands_in_interface : (interface : List InterfaceNode) (w : Walker) → IsScope w.names.signals
    → in_scope w.names.signals ≡ map shown (interface_signals interface)
    → w.names.meanings ≡ map node_meaning interface → IsScope w.traps → in_scope w.traps ≡ []
    → ((q : Name) → get_by_text w.names.parameters q ≡ None) → Stands (interface_scope interface) w
stands_in_interface interface w signals declared meanings traps none parameters = record {
  signals = signals;
  meant = ap (map (shown_by w.names.meanings)) declared
      ∙ ap (λ ms. map (shown_by ms) (map shown (interface_signals interface))) meanings
      ∙ now_shown [] interface 0 refl;
  traps = traps;
  named = ap (map (λ (n : Named). n.name)) none;
  bodiless = fun_ext parameters;
}
