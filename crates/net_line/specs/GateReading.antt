-- The reading of gates, registers and headings. Bridges to the reader, and no part of a promise. (This
-- project's own.)
use Rattle.std.specs.Prelude.{◌≡◌, ℕ, zero, suc, ◌+◌, ◌==◌, ◌&&◌, Bool, true, false, if◌then◌else◌}
use Rattle.std.specs.Prelude.{Option, Some, None, List, [], ◌∷◌, codes}
use Rattle.std.specs.Str.{bytes_eq}
use Rattle.hh_base.specs.Bytes.{space, line_feed}
use Rattle.net_list.specs.declared.gate.NetGate.{NetGate}
use Rattle.net_list.specs.declared.gate.NetGate.TheVariants as gate
use Rattle.net_line.specs.declared.gate.Named.{Named}
use Rattle.net_line.specs.declared.gate.Named.TheVariants as named
use Rattle.net_line.specs.declared.gate.GateWord.{GateWord}
use Rattle.net_line.specs.declared.gate.GateWord.TheVariants as word
use Rattle.net_line.specs.Decoding.{number_of}
use Rattle.net_line.specs.Reading.{Reader, ◌>>=◌, pure, lift, part_as, word_as, times, line_end}

abbrev pub number : Reader ℕ
number = part_as number_of

abbrev pub first_number : Reader ℕ
first_number = word_as number_of

abbrev pub named_word : List ℕ → Option Named
named_word w =
    if bytes_eq w (codes "not") then Some named.Not
    else if bytes_eq w (codes "reg") then Some named.Reg
    else if bytes_eq w (codes "test") then Some named.Test
    else if bytes_eq w (codes "in") then Some named.Input
    else if bytes_eq w (codes "ans") then Some named.Answer
    else if bytes_eq w (codes "part") then Some named.Part
    else None

-- `part` stands where partial answers are taken
abbrev pub if_taken : Bool → Option Named → Option GateWord
if_taken parts None = None
if_taken parts (Some named.Part) = if parts then Some (word.Of named.Part) else None
if_taken parts (Some k) = Some (word.Of k)

abbrev pub gate_word : Bool → List ℕ → Option GateWord
gate_word parts w =
    if bytes_eq w (codes "0") then Some word.Zero
    else if bytes_eq w (codes "1") then Some word.One
    else if bytes_eq w (codes "and") then Some word.And
    else if bytes_eq w (codes "or") then Some word.Or
    else if_taken parts (named_word w)

abbrev pub gate_of : Named → ℕ → NetGate
gate_of named.Not n = gate.Not n
gate_of named.Reg n = gate.Reg n
gate_of named.Test n = gate.Test n
gate_of named.Input n = gate.Input n
gate_of named.Answer n = gate.Answer n
gate_of named.Part n = gate.Part n

-- the spaces up to the end of the line
abbrev pub spaces : List ℕ → ℕ
spaces [] = 0
spaces (b ∷ bs) = if b == line_feed then 0 else (if b == space then 1 + spaces bs else 0 + spaces bs)

-- the numbers up to the end of the line
abbrev pub inputs : Reader (List ℕ)
inputs text = times (spaces text) number text

abbrev pub gate_behind : GateWord → Reader NetGate
gate_behind word.Zero = pure gate.Zero
gate_behind word.One = pure gate.One
gate_behind word.And = inputs >>= λ gs. pure (gate.And gs)
gate_behind word.Or = inputs >>= λ gs. pure (gate.Or gs)
gate_behind (word.Of k) = number >>= λ n. pure (gate_of k n)

abbrev pub gate_line_of : Bool → Reader NetGate
gate_line_of parts = word_as (gate_word parts) >>= λ w. gate_behind w >>= λ g. line_end >>= λ _. pure g

abbrev pub state_of : List ℕ → Option Bool
state_of w = if bytes_eq w (codes "0") then Some false else if bytes_eq w (codes "1") then Some true else None

abbrev pub register_line_of : Reader (Bool × ℕ)
register_line_of = word_as state_of >>= λ s. number >>= λ n. line_end >>= λ _. pure (s, n)

abbrev pub word_is : List ℕ → List ℕ → Option (Unit {0})
word_is word w = if bytes_eq w word then Some tt else None

abbrev pub heading_of : List ℕ → Reader ℕ
heading_of word = word_as (word_is word) >>= λ _. number >>= λ n. line_end >>= λ _. pure n

-- a line with a count, and so many lines
abbrev pub section_of : {A : Type 0} → List ℕ → Reader A → Reader (List A)
section_of word row = heading_of word >>= λ n. times n row
