-- The first fault of an `async` and of a `run`, given what names mean there. This project's own.
use Rattle.std.specs.Prelude.{◌==◌, ◌&&◌, ◌||◌, Bool, false, not, Option, Some, None, is_none, option_map, List}
use Rattle.std.specs.Prelude.{[], ◌∷◌, map, filter, length}
use Rattle.hh_base.specs.declared.value.Pos.{Pos}
use Rattle.hh_base.specs.declared.value.Kind.{Kind}
use Rattle.module_tree.specs.declared.source.NameAt.{NameAt}
use Rattle.module_tree.specs.declared.source.ExprAt.{ExprAt}
use Rattle.module_tree.specs.declared.source.Binding.{Binding}
use Rattle.module_tree.specs.declared.source.AsyncNode.{AsyncNode}
use Rattle.module_tree.specs.declared.source.InterfaceNode.{InterfaceNode}
use Rattle.module_tree.specs.LinkedFacts.{is_kind, is_input}
use Rattle.module_tree.specs.Scopes.{Signal, interface_signals}
use Rattle.link_faults.specs.declared.fault.LinkKind.TheVariants as fault
use Rattle.link_faults.specs.declared.fault.LinkFault.{LinkFault}
use Rattle.link_faults.specs.declared.names.Meaning.{Meaning}
use Rattle.link_faults.specs.declared.text.Callable.{Callable}
use Rattle.link_faults.specs.Faults.{earlier}
use Rattle.link_faults.specs.Earliest.{first_at, first_by}
use Rattle.link_faults.specs.Named.{Name, interface_named, is_named, first_ones}
use Rattle.link_faults.specs.SourceKinds.{Kinds}
use Rattle.link_faults.specs.Rows.{here_if, repeated, wrong_result}
use Rattle.link_faults.specs.Judgements.{unknown_at}
use Rattle.link_faults.specs.Meanings.{meaning}
use Rattle.link_faults.specs.PartFaults.{Meanings, kinds_by, first_expected, first_anywhere, first_emitted}

-- ---- `async`

-- each argument in the place of its parameter, as far as there are some
abbrev pub first_arguments : Kinds → Kinds → List Kind → List (ExprAt Name) → Option LinkFault
first_arguments signals args ks [] = None
first_arguments signals args [] (x ∷ xs) = earlier (first_anywhere signals args x)
    (first_arguments signals args [] xs)
first_arguments signals args (k ∷ ks) (x ∷ xs) = earlier (first_expected signals args k x)
    (first_arguments signals args ks xs)

abbrev pub first_answered : Meanings → Option (NameAt Name) → Option LinkFault
first_answered meant None = None
first_answered meant (Some n) = first_emitted n (meant n.name)

abbrev pub first_called : Kinds → Kinds → AsyncNode Name → Option Callable → Option LinkFault
first_called signals args a None = earlier (Some (record { pos = a.body.pos; kind = fault.UnknownBody }))
    (first_arguments signals args [] a.args)
first_called signals args a (Some c) =
    earlier (first_at fault.KindWrong (here_if (not (length c.parameters == length a.args)) a.body.pos))
    (earlier (first_arguments signals args c.parameters a.args)
    (first_at fault.KindWrong (wrong_result signals c.answer a.signal)))

abbrev pub first_start : Meanings → Kinds → AsyncNode Name → Option Callable → Option LinkFault
first_start meant args a c = earlier (first_answered meant a.signal) (first_called (kinds_by meant) args a c)

-- ---- `run`

abbrev pub means_input : Option Meaning → Bool
means_input None = false
means_input (Some m) = is_input m.dir

abbrev pub means_emitted : Option Meaning → Bool
means_emitted None = false
means_emitted (Some m) = not (is_input m.dir)

abbrev pub kinds_differ : Option Meaning → Option Meaning → Bool
kinds_differ (Some a) (Some b) = not (is_kind a.kind (Some b.kind))
kinds_differ _ _ = false

-- a binding that is written, where its left name means this in the interface and its right name this here
abbrev pub first_bound : Option Meaning → Option Meaning → Binding Name → Option LinkFault
first_bound left right b =
    earlier (first_at fault.EmitsInput (here_if (means_emitted left && means_input right) b.right.pos))
    (first_at fault.BadBinding (here_if (is_none left || kinds_differ left right) b.left.pos))

-- a signal of the interface that is not bound, where its name means this here
abbrev pub first_implied : Pos → Meaning → Option Meaning → Option LinkFault
first_implied p left right =
    earlier (first_at fault.EmitsInput (here_if (not (is_input left.dir) && means_input right) p))
    (first_at fault.BadBinding (here_if (is_none right || kinds_differ (Some left) right) p))

abbrev pub left_name : Binding Name → NameAt Name
left_name b = b.left

abbrev pub first_right : Meanings → List (Binding Name) → Option LinkFault
first_right meant = first_by (λ (b : Binding Name). unknown_at b.right.pos (kinds_by meant b.right.name))

abbrev pub first_bindings : Meanings → List (Binding Name) → List InterfaceNode → Option LinkFault
first_bindings meant bindings interface = first_by (λ (b : Binding Name). first_bound
    (option_map meaning (interface_named interface b.left.name)) (meant b.right.name) b) bindings

-- no binding names the signal
abbrev pub is_unbound : List (Binding Name) → Signal → Bool
is_unbound bindings s = not (is_named (map (λ (b : Binding Name). b.left.name) bindings) s.signal.name)

abbrev pub first_unbound : Meanings → Pos → List (Binding Name) → List InterfaceNode → Option LinkFault
first_unbound meant p bindings interface = first_by (λ (s : Signal). first_implied p (meaning s)
    (meant s.signal.name)) (filter (is_unbound bindings) (first_ones [] (interface_signals interface)))

abbrev pub first_in_run : Meanings → NameAt Name → List (Binding Name) → Option (List InterfaceNode)
    → Option LinkFault
first_in_run meant callee bindings None = Some (record { pos = callee.pos; kind = fault.UnknownModule })
first_in_run meant callee bindings (Some interface) =
    earlier (first_at fault.BadBinding (repeated (map left_name bindings)))
    (earlier (first_bindings meant bindings interface) (first_unbound meant callee.pos bindings interface))

abbrev pub first_call : Meanings → NameAt Name → List (Binding Name) → Option (List InterfaceNode)
    → Option LinkFault
first_call meant callee bindings interface = earlier (first_right meant bindings)
    (first_in_run meant callee bindings interface)
