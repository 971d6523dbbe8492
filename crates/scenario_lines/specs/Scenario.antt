-- A scenario: what each line of a text means. (This project's own.)
use Rattle.std.specs.Prelude.{◌≡◌, ◌≢◌, ◌⊎◌, ℕ, ◌+◌, Bool, true, false, List, [], ◌∷◌}
use Rattle.std.specs.Prelude.{◌++◌, AllPairs, codes, length, map}
use Rattle.std.specs.List.{AllZip}
use Rattle.hh_base.specs.declared.value.Kind.TheVariants as kind
use Rattle.hh_base.specs.declared.value.Value.TheVariants as value
use Rattle.hh_base.specs.Value.{is_valued, kind_of}
use Rattle.hh_term.specs.declared.program.SignalDecl.{SignalDecl}
use Rattle.reaction_run.specs.declared.event.Input.{Input}
use Rattle.scenario_lines.specs.declared.line.Line.{Line}
use Rattle.scenario_lines.specs.declared.line.Line.TheVariants.{React, Work, Notify, Reset, Settle}
use Rattle.scenario_lines.specs.declared.line.Mode.{Mode}
use Rattle.scenario_lines.specs.declared.line.Mode.TheVariants.{Play, Serve}
use Rattle.scenario_lines.specs.Interface.{IsGiven}
use Rattle.scenario_lines.specs.Literals.{IsId, IsValue}
use Rattle.scenario_lines.specs.Lines.{lines_of, parts_of, is_skipped}

-- a pure signal is given by its name alone
pub record GivesPure (signals : List SignalDecl) (part : List ℕ) (i : Input) : Type 0 where
  pub signal : SignalDecl
  pub given : IsGiven signals part i.signal signal
  pub kind : signal.kind ≡ kind.Pure
  pub value : i.value ≡ value.Unit

-- a valued one by its name and, in parentheses, the literal of a value of its kind
pub record GivesValue (signals : List SignalDecl) (part : List ℕ) (i : Input) : Type 0 where
  pub signal : SignalDecl
  pub name : List ℕ
  pub given : IsGiven signals name i.signal signal
  pub literal : List ℕ
  pub part_is : part ≡ name ++ codes "(" ++ literal ++ codes ")"
  pub value : IsValue literal i.value
  pub valued : is_valued signal.kind ≡ true
  pub kind : kind_of i.value ≡ signal.kind

-- the part gives this input
abbrev pub IsInput : List SignalDecl → List ℕ → Input → Type 0
IsInput signals part i = GivesPure signals part i ⊎ GivesValue signals part i

-- the signals of inputs
abbrev pub signals_in : List Input → List ℕ
signals_in inputs = map (λ i. i.signal) inputs

-- the parts give these inputs, in their order, and no signal twice
pub record AreInputs (signals : List SignalDecl) (parts : List (List ℕ)) (inputs : List Input) : Type 0 where
  pub each : AllZip (IsInput signals) parts inputs
  pub once : AllPairs (λ s t. s ≢ t) (signals_in inputs)

-- the word of an answer: `notify` where it is the last one
abbrev pub answer_word : Bool → List ℕ
answer_word true = codes "notify"
answer_word false = codes "more"

-- the forms of lines: the parts are those of the line
abbrev pub IsLine : Mode → List SignalDecl → List (List ℕ) → Line → Type 0
IsLine mode signals parts (React inputs) = (given : List (List ℕ)) × (parts ≡ codes "react" ∷ given)
    × AreInputs signals given inputs
IsLine mode signals parts (Work id) = (mode ≡ Play) × (digits : List ℕ)
    × (parts ≡ codes "work" ∷ digits ∷ []) × IsId digits id
IsLine mode signals parts (Notify a) =
    (digits : List ℕ) × (literal : List ℕ) × (parts ≡ answer_word a.last ∷ digits ∷ literal ∷ [])
    × IsId digits a.id × IsValue literal a.value
IsLine mode signals parts Reset = parts ≡ codes "reset" ∷ []
IsLine mode signals parts Settle = (mode ≡ Serve) × (parts ≡ codes "settle" ∷ [])

-- the lines that a text's lines mean, where those that are skipped mean none
abbrev pub Mean : Mode → List SignalDecl → List (List ℕ) → List Line → Type 0
Mean mode signals [] lines = lines ≡ []
Mean mode signals (l ∷ ls) lines =
    ((is_skipped (parts_of l) ≡ true) × Mean mode signals ls lines)
    ⊎ ((is_skipped (parts_of l) ≡ false)
    × ((first : Line) × (rest : List Line) × (lines ≡ first ∷ rest)
    × IsLine mode signals (parts_of l) first × Mean mode signals ls rest))

abbrev pub IsScenario : Mode → List SignalDecl → List ℕ → List Line → Type 0
IsScenario mode signals text lines = Mean mode signals (lines_of text) lines

-- a line that is not skipped and has no form
pub record IsRefused (mode : Mode) (signals : List SignalDecl) (line : List ℕ) : Type 0 where
  pub counts : is_skipped (parts_of line) ≡ false
  pub formless : (l : Line) → IsLine mode signals (parts_of line) l → ⊥

-- line n, counted from 1, is refused, and none before it
pub record IsFirstRefused (mode : Mode) (signals : List SignalDecl) (text : List ℕ) (n : ℕ) : Type 0 where
  pub before : List (List ℕ)
  pub line : List ℕ
  pub behind : List (List ℕ)
  pub lines : lines_of text ≡ before ++ line ∷ behind
  pub counted : n ≡ length before + 1
  pub read : (meant : List Line) × Mean mode signals before meant
  pub refused : IsRefused mode signals line
