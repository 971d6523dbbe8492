-- What the form of a line asks of what it says: numbers of 32 bits, and part gates in version 2 alone. (This
-- project's own.)
use Rattle.std.specs.Prelude.{◌≡◌, ℕ, ◌≤◌, Bool, true, false, List, length, Option, Some, None}
use Rattle.std.specs.List.{AllByRecursion}
use Rattle.std.specs.Str.{is_utf8}
use Rattle.hh_base.specs.Literal.{quoted}
use Rattle.hh_base.specs.Text.{IsText}
use Rattle.hh_base.specs.declared.value.Value.{Value}
use Rattle.hh_base.specs.declared.value.Value.TheVariants as value
use Rattle.net_line.specs.Literals.{fits_64, is_name_part, is_dash}
use Rattle.net_line.specs.Reading.{plain}
use Rattle.net_list.specs.Form.{GREATEST}
use Rattle.hh_base.specs.declared.value.Kind.{Kind}
use Rattle.hh_base.specs.declared.value.Kind.TheVariants as kind
use Rattle.net_list.specs.declared.record.NetSignal.{NetSignal}
use Rattle.net_list.specs.declared.gate.NetGate.{NetGate}
use Rattle.net_list.specs.declared.gate.NetGate.TheVariants as gate

abbrev pub IsSmall : ℕ → Type 0
IsSmall n = n ≤ GREATEST

abbrev pub AllSmall : List ℕ → Type 0
AllSmall ns = AllByRecursion IsSmall ns

-- `part` stands only where partial answers are taken
abbrev pub IsGateForm : Bool → NetGate → Type 0
IsGateForm parts gate.Zero = Unit {0}
IsGateForm parts gate.One = Unit {0}
IsGateForm parts (gate.Not n) = IsSmall n
IsGateForm parts (gate.And ns) = AllSmall ns
IsGateForm parts (gate.Or ns) = AllSmall ns
IsGateForm parts (gate.Reg n) = IsSmall n
IsGateForm parts (gate.Test n) = IsSmall n
IsGateForm parts (gate.Input n) = IsSmall n
IsGateForm parts (gate.Answer n) = IsSmall n
IsGateForm parts (gate.Part n) = (parts ≡ true) × IsSmall n

-- a value that a literal of a line may have
abbrev pub IsLiteralForm : Value → Type 0
IsLiteralForm value.Unit = ⊥
IsLiteralForm (value.Int z) = fits_64 z ≡ true
IsLiteralForm (value.Bool b) = Unit {0}
IsLiteralForm (value.Text t) = IsText t × (is_utf8 (quoted t) ≡ true)

-- a first value: `-` where the signal is pure
abbrev pub IsFirstForm : Value → Type 0
IsFirstForm value.Unit = Unit {0}
IsFirstForm v = IsLiteralForm v

abbrev pub IsHandlerForm : Option (List ℕ) → Type 0
IsHandlerForm (Some t) = IsLiteralForm (value.Text t)
IsHandlerForm None = Unit {0}

-- what may stand for a name: no space, no quote in front, not `-`
pub record IsNamePart (w : List ℕ) : Type 0 where
  pub plain : plain w ≡ true
  pub part : is_name_part w ≡ true
  pub some : is_dash w ≡ false

abbrev pub IsNameForm : Option (List ℕ) → Type 0
IsNameForm (Some w) = IsNamePart w
IsNameForm None = Unit {0}

-- a pure signal has no first value, and each other one has one
abbrev pub first_fits : Kind → Value → Bool
first_fits kind.Pure value.Unit = true
first_fits kind.Pure v = false
first_fits k value.Unit = false
first_fits k v = true

-- the line of a signal has its form
pub record IsSignalForm (s : NetSignal) : Type 0 where
  pub name : IsNameForm s.decl.name
  pub first : IsFirstForm s.decl.first
  pub fits : first_fits s.decl.kind s.decl.first ≡ true
  pub pos : IsSmall s.decl.pos.0
  pub status : IsSmall s.status
  pub pre : IsSmall s.pre
  pub sel : IsSmall s.sel

abbrev pub IsRegisterForm : Bool × ℕ → Type 0
IsRegisterForm r = IsSmall r.1

-- a section has its form: its count is a number, and each line has its form
pub record IsSectionForm {X : Type 0} (IsForm : X → Type 0) (xs : List X) : Type 0 where
  pub counted : IsSmall (length xs)
  pub each : AllByRecursion IsForm xs
