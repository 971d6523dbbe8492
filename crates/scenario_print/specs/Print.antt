-- The print of a log: a line for each reply that has one, and a line for each effect behind it. (This
-- project's own.)
use Rattle.std.specs.Prelude.{ℕ, ◌+◌, Bool, true, false, Option, Some, None, List, [], ◌∷◌, ◌++◌, codes}
use Rattle.std.specs.Prelude.{decimal, slice_get}
use Rattle.std.specs.List.{flat_map}
use Rattle.hh_base.specs.declared.value.Value.{Value}
use Rattle.hh_base.specs.declared.value.Value.TheVariants as value
use Rattle.hh_base.specs.declared.value.FaultKind.{FaultKind}
use Rattle.hh_base.specs.declared.value.FaultKind.TheVariants.{Divide, Overflow, TextLong}
use Rattle.hh_base.specs.Literal.{quoted, printed as literal}
use Rattle.hh_term.specs.declared.program.SignalDecl.{SignalDecl}
use Rattle.hh_term.specs.declared.program.BodyDecl.{BodyDecl}
use Rattle.exec_instance.specs.declared.effect.Effect.{Effect}
use Rattle.exec_instance.specs.declared.effect.Effect.TheVariants.{Dropped, More, Ended, Killed, Suspended}
use Rattle.exec_instance.specs.declared.effect.Effect.TheVariants.{Resumed, Started}
use Rattle.exec_instance.specs.declared.effect.Reason.{Reason}
use Rattle.exec_instance.specs.declared.effect.Reason.TheVariants.{Stale, Unknown, Repeated, Mistyped}
use Rattle.reaction_run.specs.declared.reply.Reply.{Reply}
use Rattle.reaction_run.specs.declared.reply.Reply.TheVariants.{Done, Causality, Multiple, Fault, Worn, Idle}
use Rattle.reaction_run.specs.declared.reply.Reply.TheVariants.{Reset}

abbrev pub line_end : List ℕ
line_end = 10 ∷ []

-- the bytes of a name, if there is one
abbrev pub name_or_none : Option (List ℕ) → List ℕ
name_or_none (Some n) = n
name_or_none None = []

-- the name of signal s
abbrev pub name_at : List SignalDecl → ℕ → List ℕ
name_at signals s = (elim (slice_get signals s) [ Some d ↦ name_or_none d.name | None ↦ [] ])

-- the name of body b
abbrev pub body_name : List BodyDecl → ℕ → List ℕ
body_name bodies b = (elim (slice_get bodies b) [ Some d ↦ d.name | None ↦ [] ])

-- a space and a part
abbrev pub spaced : List ℕ → List ℕ
spaced part = 32 ∷ part

-- the value that a signal carries; a pure one carries none
abbrev pub carried : Value → List ℕ
carried value.Unit = []
carried v = 61 ∷ literal v

abbrev pub output_text : List SignalDecl → ℕ × Value → List ℕ
output_text signals o = spaced (name_at signals o.0) ++ carried o.1

abbrev pub ended_text : Bool → List ℕ
ended_text true = codes " done"
ended_text false = []

abbrev pub fault_word : FaultKind → List ℕ
fault_word Divide = codes "divide"
fault_word Overflow = codes "overflow"
fault_word TextLong = codes "textlong"

-- why an answer was dropped
abbrev pub reason_word : Reason → List ℕ
reason_word Stale = codes "stale"
reason_word Unknown = codes "unknown"
reason_word Repeated = codes "repeated"
reason_word Mistyped = codes "mistyped"

-- the action that an async names, as a literal
abbrev pub action_text : Option (List ℕ) → List ℕ
action_text (Some a) = spaced (quoted a)
action_text None = []

-- a comma and a space stand between arguments
abbrev pub argument_behind : Value → List ℕ
argument_behind v = codes ", " ++ literal v

abbrev pub arguments_text : List Value → List ℕ
arguments_text [] = []
arguments_text (v ∷ vs) = literal v ++ flat_map argument_behind vs

-- the text of an effect
abbrev pub effect_text : List BodyDecl → Effect → List ℕ
effect_text bodies (Dropped id reason) = codes "!drop " ++ decimal id ++ spaced (reason_word reason)
effect_text bodies (More id v) = codes "!more " ++ decimal id ++ spaced (literal v)
effect_text bodies (Ended id v) = codes "!end " ++ decimal id ++ spaced (literal v)
effect_text bodies (Killed id action) = codes "!kill " ++ decimal id ++ action_text action
effect_text bodies (Suspended id action) = codes "!suspend " ++ decimal id ++ action_text action
effect_text bodies (Resumed id action) = codes "!resume " ++ decimal id ++ action_text action
effect_text bodies (Started id b args) =
    codes "!start " ++ decimal id ++ spaced (body_name bodies b) ++ codes "(" ++ arguments_text args ++ codes
    ")"

abbrev pub effect_line : List BodyDecl → Effect → List ℕ
effect_line bodies e = effect_text bodies e ++ line_end

abbrev pub effect_lines : List BodyDecl → List Effect → List ℕ
effect_lines bodies es = flat_map (effect_line bodies) es

-- the lines of a reply, where n is the number of the next accepted reaction
abbrev pub reply_lines : List SignalDecl → List BodyDecl → ℕ → Reply → List ℕ
reply_lines signals bodies n (Done d) =
    decimal n ++ codes ":" ++ flat_map (output_text signals) d.outs ++ ended_text d.ended ++ line_end ++
    effect_lines bodies d.effects
reply_lines signals bodies n (Causality names) = codes "-: causality" ++ flat_map spaced names ++ line_end
reply_lines signals bodies n (Multiple name) = codes "-: multiple" ++ spaced name ++ line_end
reply_lines signals bodies n (Fault p k) = codes "-: fault " ++ decimal p.0 ++ spaced (fault_word k) ++
    line_end
reply_lines signals bodies n (Worn id) = codes "-: worn " ++ decimal id ++ line_end
reply_lines signals bodies n Idle = []
reply_lines signals bodies n (Reset kills) = codes "reset" ++ line_end ++ effect_lines bodies kills

-- the number of the next accepted reaction after a reply: resets and refusals do not count
abbrev pub number_after : ℕ → Reply → ℕ
number_after n (Done d) = n + 1
number_after n _ = n

abbrev pub printed_from : List SignalDecl → List BodyDecl → ℕ → List Reply → List ℕ
printed_from signals bodies n [] = []
printed_from signals bodies n (r ∷ rs) = reply_lines signals bodies n r ++ printed_from signals bodies
    (number_after n r) rs

-- the print of a whole history, whose accepted reactions count from 1
abbrev pub printed : List SignalDecl → List BodyDecl → List Reply → List ℕ
printed signals bodies replies = printed_from signals bodies 1 replies
