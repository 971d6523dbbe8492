-- The first fault of each part of a text, given what names mean there. This project's own.
use Rattle.std.specs.Prelude.{Option, Some, None, option_map, List}
use Rattle.hh_base.specs.declared.value.Kind.{Kind}
use Rattle.hh_base.specs.declared.value.Kind.TheVariants as kind
use Rattle.module_tree.specs.declared.source.NameAt.{NameAt}
use Rattle.module_tree.specs.declared.source.ExprAt.{ExprAt}
use Rattle.module_tree.specs.declared.source.SignalNode.{SignalNode}
use Rattle.module_tree.specs.Parts.{signals_read, parameters_read}
use Rattle.module_tree.specs.LinkedFacts.{is_input}
use Rattle.link_faults.specs.declared.fault.LinkKind.TheVariants as fault
use Rattle.link_faults.specs.declared.fault.LinkFault.{LinkFault}
use Rattle.link_faults.specs.declared.names.Meaning.{Meaning}
use Rattle.link_faults.specs.Faults.{earlier}
use Rattle.link_faults.specs.Earliest.{first_at, first_by}
use Rattle.link_faults.specs.Named.{Name}
use Rattle.link_faults.specs.SourceKinds.{Kinds, misfits_in, wrong_for, wrong_value}
use Rattle.link_faults.specs.Rows.{here_if, wrong_signal}
use Rattle.link_faults.specs.Judgements.{first_unknown}

-- ---- expressions

abbrev pub first_read : Kinds → Kinds → ExprAt Name → Option LinkFault
first_read signals args x = earlier (first_unknown signals (signals_read x.expr))
    (first_unknown args (parameters_read x.expr))

-- in a place that needs this kind
abbrev pub first_expected : Kinds → Kinds → Kind → ExprAt Name → Option LinkFault
first_expected signals args k x = earlier (first_read signals args x)
    (first_at fault.KindWrong (wrong_for signals args k x))

-- in a place of which nothing is known
abbrev pub first_anywhere : Kinds → Kinds → ExprAt Name → Option LinkFault
first_anywhere signals args x = earlier (first_read signals args x)
    (first_at fault.KindWrong (misfits_in signals args x))

-- in a place where no value may stand
abbrev pub first_nowhere : Kinds → Kinds → ExprAt Name → Option LinkFault
first_nowhere signals args x = earlier (first_read signals args x)
    (first_at fault.KindWrong (wrong_value (misfits_in signals args x) x.pos))

-- ---- emissions

-- what the names of signals mean
abbrev pub Meanings : Type 0
Meanings = Name → Option Meaning

abbrev pub kinds_by : Meanings → Kinds
kinds_by meant n = option_map (λ (m : Meaning). m.kind) (meant n)

-- a name that is emitted
abbrev pub first_emitted : NameAt Name → Option Meaning → Option LinkFault
first_emitted n None = Some (record { pos = n.pos; kind = fault.UnknownSignal })
first_emitted n (Some m) = first_at fault.EmitsInput (here_if (is_input m.dir) n.pos)

abbrev pub first_carried : Kinds → Kinds → NameAt Name → Option Kind → Option (ExprAt Name) → Option LinkFault
first_carried signals args n None None = None
first_carried signals args n None (Some x) = first_anywhere signals args x
first_carried signals args n (Some kind.Pure) None = None
first_carried signals args n (Some kind.Pure) (Some x) = first_nowhere signals args x
first_carried signals args n (Some k) None = Some (record { pos = n.pos; kind = fault.KindWrong })
first_carried signals args n (Some k) (Some x) = first_expected signals args k x

abbrev pub first_emission : Meanings → Kinds → NameAt Name → Option (ExprAt Name) → Option LinkFault
first_emission meant args n value = earlier (first_emitted n (meant n.name))
    (first_carried (kinds_by meant) args n (kinds_by meant n.name) value)

-- ---- declared signals

abbrev pub first_wrong : List SignalNode → Option LinkFault
first_wrong = first_by (λ (s : SignalNode). first_at fault.KindWrong (wrong_signal s))
