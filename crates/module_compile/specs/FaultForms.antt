-- The kind, the place and the number of each fault of a module text, as its refusal tells them. (This
-- project's own.)
use Rattle.std.specs.Prelude.{ℕ, Option, Some, None, List, codes}
use Rattle.link_faults.specs.declared.fault.LinkKind.{LinkKind}
use Rattle.link_faults.specs.declared.fault.LinkKind.TheVariants as link
use Rattle.kernel_expand.specs.declared.fault.ExpandFault.{ExpandFault}
use Rattle.kernel_expand.specs.declared.fault.ExpandFault.TheVariants as expand
use Rattle.module_reader.specs.FaultWord.{read_fault_word}
use Rattle.module_reader.specs.Refusals.{place_of as read_place}
use Rattle.module_compile.specs.declared.fault.ModuleFault.{ModuleFault}
use Rattle.module_compile.specs.declared.fault.ModuleFault.TheVariants.{NotUtf8, Read, Link, Expand}

abbrev pub link_word : LinkKind → List ℕ
link_word link.TwiceDeclared = codes "TwiceDeclared"
link_word link.UnknownSignal = codes "UnknownSignal"
link_word link.UnknownModule = codes "UnknownModule"
link_word link.UnknownTrap = codes "UnknownTrap"
link_word link.UnknownBody = codes "UnknownBody"
link_word link.KindWrong = codes "KindWrong"
link_word link.EmitsInput = codes "EmitsInput"
link_word link.BadBinding = codes "BadBinding"
link_word link.RunCycle = codes "RunCycle"

abbrev pub expand_word : ExpandFault → List ℕ
expand_word (expand.TooLarge n) = codes "TooLarge"
expand_word (expand.TooDeep n) = codes "TooDeep"
expand_word (expand.TrapsDeep n) = codes "TrapsDeep"
expand_word (expand.ManyAsyncs n) = codes "ManyAsyncs"
expand_word (expand.CopyLarge n) = codes "CopyLarge"
expand_word (expand.InstantLoop p) = codes "InstantLoop"
expand_word expand.NoMemory = codes "NoMemory"

-- an instantaneous loop has a place, and a number that passes its limit has none
abbrev pub expand_place : ExpandFault → ℕ
expand_place (expand.InstantLoop p) = p.0
expand_place _ = 0

abbrev pub expand_number : ExpandFault → Option ℕ
expand_number (expand.TooLarge n) = Some n
expand_number (expand.TooDeep n) = Some n
expand_number (expand.TrapsDeep n) = Some n
expand_number (expand.ManyAsyncs n) = Some n
expand_number (expand.CopyLarge n) = Some n
expand_number _ = None

abbrev pub word_of : ModuleFault → List ℕ
word_of (NotUtf8 p) = codes "NotUtf8"
word_of (Read f) = read_fault_word f
word_of (Link f) = link_word f.kind
word_of (Expand f) = expand_word f

abbrev pub place_of : ModuleFault → ℕ
place_of (NotUtf8 p) = p.0
place_of (Read f) = read_place f
place_of (Link f) = f.pos.0
place_of (Expand f) = expand_place f

abbrev pub number_of : ModuleFault → Option ℕ
number_of (Expand f) = expand_number f
number_of _ = None
