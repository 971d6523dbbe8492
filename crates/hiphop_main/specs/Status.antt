-- The exit status of each cause, and the line that a refusal writes. (This project's own.)
use Rattle.std.specs.Prelude.{ℕ, Option, Some, None, List, [], ◌++◌, codes}
use Rattle.std.specs.Fmt.{decimal}
use Rattle.module_compile.specs.FaultForms.{word_of, place_of, number_of}
use Rattle.hiphop_main.specs.declared.ending.Cause.{Cause}
use Rattle.hiphop_main.specs.declared.ending.Cause.TheVariants.{Fine, ReadFault, Usage, Module, NoHook}
use Rattle.hiphop_main.specs.declared.ending.Cause.TheVariants.{Scenario}
use Rattle.hiphop_main.specs.declared.ending.Cause.TheVariants.{NoMemory, WriteFault, TooLong}

abbrev pub status_of : Cause → ℕ
status_of Fine = 0
status_of ReadFault = 1
status_of Usage = 2
status_of (Module f) = 3
status_of (NoHook p) = 3
status_of (Scenario n) = 4
status_of NoMemory = 5
status_of WriteFault = 6
status_of TooLong = 8

-- a space and the number that passes a limit, where there is one
abbrev pub number_part : Option ℕ → List ℕ
number_part (Some n) = codes " " ++ decimal n
number_part None = []

-- the line that a refusal writes, with its LF; nothing for the causes that refuse nothing
abbrev pub refusal_line : Cause → List ℕ
refusal_line Usage = codes
    "! usage: hiphop play, compile, play_net, serve [--workers N], gen --seed N --size N\n"
refusal_line (Module f) =
    codes "! module " ++ decimal (place_of f) ++ codes " " ++ word_of f ++
    number_part (number_of f) ++ codes "\n"
refusal_line (NoHook p) = codes "! module " ++ decimal p.0 ++ codes " NoHook\n"
refusal_line (Scenario n) = codes "! scenario " ++ decimal n ++ codes "\n"
refusal_line TooLong = codes "! input TooLong\n"
refusal_line _ = []
