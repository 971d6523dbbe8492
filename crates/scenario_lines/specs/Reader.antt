-- What the steps of the reader tell. Bridges to the reader, and no part of a promise. (This project's own.)
use Rattle.std.specs.Prelude.{◌≡◌, ◌≢◌, ◌⊎◌, ℕ, ◌<◌, false, Option, Some, None, List, [], ◌∷◌}
use Rattle.std.specs.Prelude.{◌++◌, codes, length, slice_index, slice_set, MatchOption}
use Rattle.hh_base.specs.declared.value.Value.{Value}
use Rattle.hh_base.specs.declared.value.Value.TheVariants as a_value
use Rattle.hh_term.specs.declared.program.SignalDecl.{SignalDecl}
use Rattle.reaction_run.specs.declared.event.Input.{Input}
use Rattle.scenario_lines.specs.declared.command.Command.{Command}
use Rattle.scenario_lines.specs.declared.command.Command.TheVariants.{React, Work, Notify, More, Reset, Settle}
use Rattle.scenario_lines.specs.declared.line.Line.{Line}
use Rattle.scenario_lines.specs.declared.line.Mode.{Mode}
use Rattle.scenario_lines.specs.Literals.{IsValue}
use Rattle.scenario_lines.specs.Lines.{is_skipped, parts_of}
use Rattle.scenario_lines.specs.Scenario.{IsInput, IsLine}

-- the bytes that stand in parentheses
abbrev pub Within : List ℕ → List ℕ → Type 0
Within bytes inner = bytes ≡ codes "(" ++ inner ++ codes ")"

-- a literal in parentheses, of a value and not `unit`
pub record IsBracketed (bytes : List ℕ) (v : Value) : Type 0 where
  pub literal : List ℕ
  pub text : Within bytes literal
  pub value : IsValue literal v
  pub some : v ≢ a_value.Unit

-- what stands behind the name of an input carries this value
abbrev pub Carries : List ℕ → Value → Type 0
Carries rest v = ((rest ≡ []) × (v ≡ a_value.Unit)) ⊎ IsBracketed rest v

-- a value that a signal carries
abbrev pub valued : Value → Option Value
valued a_value.Unit = None
valued v = Some v

-- the input that the part gives, and no other
pub record IsTheInput (signals : List SignalDecl) (part : List ℕ) (i : Input) : Type 0 where
  pub gives : IsInput signals part i
  pub only : (j : Input) → IsInput signals part j → j ≡ i

-- the part gives no input, or one whose signal line n had named
abbrev pub IsRefusedPart : List SignalDecl → List ℕ → ℕ → List ℕ → Type 0
IsRefusedPart signals part n noted =
    ((i : Input) → IsInput signals part i → ⊥)
    ⊎ ((i : Input) × IsTheInput signals part i × (i.signal < length noted) × (slice_index noted i.signal ≡ n))

-- the part gives the input, whose signal line n had not named; now it has
pub record IsTakenPart (signals : List SignalDecl) (part : List ℕ) (n : ℕ) (old new : List ℕ) (i : Input)
    : Type 0 where
  pub input : IsTheInput signals part i
  pub noted : i.signal < length old
  pub once : slice_index old i.signal ≢ n
  pub new_is : new ≡ slice_set old i.signal n

abbrev pub TakesPart : List SignalDecl → List ℕ → ℕ → List ℕ → Option Input → List ℕ → Type 0
TakesPart signals part n old taken new =
    MatchOption taken (IsRefusedPart signals part n old × (new ≡ old)) (IsTakenPart signals part n old new)

-- the word of a command
abbrev pub command_word : Command → List ℕ
command_word React = codes "react"
command_word Work = codes "work"
command_word Notify = codes "notify"
command_word More = codes "more"
command_word Reset = codes "reset"
command_word Settle = codes "settle"

-- the line is the one part, or the two
abbrev pub IsOne : List ℕ → List ℕ → Type 0
IsOne line part = parts_of line ≡ part ∷ []

abbrev pub AreTwo : List ℕ → List ℕ → List ℕ → Type 0
AreTwo line first second = parts_of line ≡ first ∷ second ∷ []

-- the line means this one, and no other
pub record IsTheLine (mode : Mode) (signals : List SignalDecl) (parts : List (List ℕ)) (l : Line) : Type 0 where
  pub counts : is_skipped parts ≡ false
  pub means : IsLine mode signals parts l
  pub only : (m : Line) → IsLine mode signals parts m → m ≡ l
