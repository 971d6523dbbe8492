-- What a name means at a place of a text: the first declaration of that name in the innermost list that has
-- one. (Block structure, as in Algol 60.)
use Rattle.std.specs.Prelude.{ℕ, ◌+◌, Bool, cond, Option, Some, None, List}
use Rattle.std.specs.Prelude.{[], ◌∷◌}
use Rattle.std.specs.List.{find, list_any}
use Rattle.std.specs.Str.{bytes_eq}
use Rattle.module_tree.specs.declared.source.ParameterNode.{ParameterNode}
use Rattle.module_tree.specs.declared.source.InterfaceNode.{InterfaceNode}
use Rattle.module_tree.specs.declared.source.ModuleNode.{ModuleNode}
use Rattle.module_tree.specs.declared.source.Part.{Part}
use Rattle.module_tree.specs.Scopes.{Signal, TrapName, InScope, interface_signals}
use Rattle.module_tree.specs.Callables.{Signature, modules_of, signatures_of}

-- a name as it is written
abbrev pub Name : Type 0
Name = List ℕ

abbrev pub signal_named : InScope → Name → Option Signal
signal_named scope name = find (λ (s : Signal). bytes_eq s.signal.name name) scope.signals

abbrev pub trap_named : InScope → Name → Option TrapName
trap_named scope name = find (λ (t : TrapName). bytes_eq t.name name) scope.traps

abbrev pub module_named : List (Part Name) → Name → Option (ModuleNode Name)
module_named parts name = find (λ (m : ModuleNode Name). bytes_eq m.name name) (modules_of parts)

-- a body or host
abbrev pub signature_named : List (Part Name) → Name → Option Signature
signature_named parts name = find (λ (s : Signature). bytes_eq s.name name) (signatures_of parts)

abbrev pub parameter_named : List ParameterNode → Name → Option ParameterNode
parameter_named parameters name = find (λ (p : ParameterNode). bytes_eq p.name name) parameters

-- an interface signal, with its place in the interface
abbrev pub interface_named : List InterfaceNode → Name → Option Signal
interface_named interface name = find (λ (s : Signal). bytes_eq s.signal.name name)
    (interface_signals interface)

-- the first place at which a name stands in a list
abbrev pub place_from : ℕ → List Name → Name → Option ℕ
place_from n [] name = None
place_from n (m ∷ ms) name = cond (bytes_eq m name) (Some n) (place_from (n + 1) ms name)

abbrev pub place_of : List Name → Name → Option ℕ
place_of = place_from 0

abbrev pub is_named : List Name → Name → Bool
is_named names name = list_any (λ (n : Name). bytes_eq n name) names

-- without the declarations of names that are declared before
abbrev pub first_ones : List Name → List Signal → List Signal
first_ones before [] = []
first_ones before (s ∷ others) = cond (is_named before s.signal.name) (first_ones before others)
    (s ∷ first_ones (s.signal.name ∷ before) others)
