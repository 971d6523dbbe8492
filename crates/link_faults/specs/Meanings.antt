-- What a name means to those who judge a text: of a signal its kind and direction, of a parameter its kind.
-- This project's own.
use Rattle.std.specs.Prelude.{ℕ, Option, Some, None, option_map, slice_get}
use Rattle.indexmap.specs.IndexMap.{get_by_text}
use Rattle.module_tree.specs.declared.source.InterfaceNode.{InterfaceNode}
use Rattle.module_tree.specs.Scopes.{Signal, InScope}
use Rattle.link_faults.specs.declared.names.Meaning.{Meaning}
use Rattle.link_faults.specs.declared.names.Names.{Names}
use Rattle.link_faults.specs.Named.{Name, signal_named}
use Rattle.link_faults.specs.SourceKinds.{Kinds}

abbrev pub meaning_at : Names → Option ℕ → Option Meaning
meaning_at names None = None
meaning_at names (Some place) = slice_get names.meanings place

abbrev pub meaning_of : Names → Name → Option Meaning
meaning_of names name = meaning_at names (get_by_text names.signals.places name)

abbrev pub kind_of_signal : Names → Kinds
kind_of_signal names name = option_map (λ (m : Meaning). m.kind) (meaning_of names name)

abbrev pub kind_of_parameter : Names → Kinds
kind_of_parameter names name = get_by_text names.parameters name

abbrev pub meaning : Signal → Meaning
meaning s = record { kind = s.signal.kind; dir = s.dir }

abbrev pub node_meaning : InterfaceNode → Meaning
node_meaning d = record { kind = d.signal.kind; dir = d.dir }

-- what is meant by the names in scope
abbrev pub meant_in : InScope → Name → Option Meaning
meant_in scope name = option_map meaning (signal_named scope name)
