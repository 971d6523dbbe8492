-- How a call of `gen` ends.
use Rattle.std.proofs.Common.{◌≡◌, ◌≢◌, ◌∙◌, ℕ, Some, List, [], ◌++◌, ap, arith, refl, subst, sym}
use Rattle.hh_io.specs.SinkState.{SinkState, Puts, CutsOff}
use Rattle.hh_io.specs.declared.fault.SinkFault.{SinkFault}
use Rattle.hh_io.specs.declared.fault.SinkFault.TheVariants as sink_fault
use Rattle.hh_term.specs.declared.program.Program.{Program}
use Rattle.host_hooks.specs.Promise.{Promise}
use Rattle.scenario_lines.specs.declared.line.Line.{Line}
use Rattle.scenario_make.specs.Make.{made}
use Rattle.hiphop_main.specs.declared.ending.Cause.{Cause}
use Rattle.hiphop_main.specs.declared.ending.Cause.TheVariants.{Fine, NoMemory, Usage}
use Rattle.hiphop_main.specs.Ends.{Ends, whole, out_of_memory, failed}
use Rattle.hiphop_main.specs.Exchange.{Exchange}
use Rattle.hiphop_main.specs.Gen.{SumsUp, WritesSummary, lacks_memory, refuses, sums_up}
use Rattle.hiphop_main.specs.Play.{CompletesUnlessCutOff, InputPlayed, IsInput, IsLogText, IsRefusedInput, cause_of, cut_off, played, refused}
use Rattle.hiphop_main.specs.Play.{unanswered as unplayed}
use Rattle.hiphop_main.proofs.Plays.{bad_is, ends_command, ends_complete, ends_fine, input_fine}

-- ---- a play whose text goes into memory

abbrev pub sink_of : List ℕ → SinkState
sink_of written = record { written = Some written; faults = 0 }

-- where it is fine, what was written is the print of a log
pub log_in_memory : (hooks : List Promise) (input before text : List ℕ) (cause : Cause) → before ≡ []
    → InputPlayed hooks input (sink_of before) (sink_of text) cause → cause ≡ Fine → IsLogText hooks input text []
log_in_memory hooks input before text cause none p is =
    let log = input_fine hooks input (sink_of before) (sink_of text) cause p is in
    let added : text ≡ before ++ log.0 = log.2.added in
    subst (λ (t : List ℕ). IsLogText hooks input t []) (sym (added ∙ ap (λ (b : List ℕ). b ++ log.0) none)) log.1

no_cut : (before text log : List ℕ) (fault : SinkFault) → CutsOff (sink_of before) (sink_of text) log fault → cause_of fault ≢ NoMemory → ⊥
no_cut before text log sink_fault.Failed p other = absurd (let fault = p.fault in let no_fault : ⊥ = omega arith in no_fault)
no_cut before text log sink_fault.NoMemory p other = other refl

ends_due : (hooks : List Promise) (input before text line : List ℕ) (due cause : Cause) → Ends due line (sink_of before) (sink_of text) cause
    → IsRefusedInput hooks input due → cause ≢ NoMemory → IsRefusedInput hooks input cause
ends_due hooks input before text line due _ (whole p) r other = r
ends_due hooks input before text line due _ (out_of_memory p) r other = absurd (other refl)
ends_due hooks input before text line due _ (failed p) r other =
    absurd (let fault = p.fault in let no_fault : ⊥ = omega arith in no_fault)

-- where it is neither fine nor short of memory, the input is refused
pub refused_in_memory : (hooks : List Promise) (input before text : List ℕ) (cause : Cause)
    → InputPlayed hooks input (sink_of before) (sink_of text) cause → cause ≢ Fine → cause ≢ NoMemory → IsRefusedInput hooks input cause
refused_in_memory hooks input before text _ (refused {due} {cause = last} r e) not_fine not_short =
    ends_due hooks input before text _ due last e r not_short
refused_in_memory hooks input before text _ (played {text = log} l p) not_fine not_short = absurd (not_fine refl)
refused_in_memory hooks input before text _ (cut_off {text = log} {behind} fault l c) not_fine not_short =
    absurd (no_cut before text log fault c not_short)
refused_in_memory hooks input before text _ (unplayed s) not_fine not_short = absurd (not_short refl)

-- ---- what a call promises

ends_whole : (due cause : Cause) (text : List ℕ) (old new : SinkState) → Ends due text old new cause → cause ≡ Fine → Puts old new text
ends_whole due _ text old new (whole p) h = p
ends_whole due _ text old new (out_of_memory p) h = cc
ends_whole due _ text old new (failed p) h = cc

pub sums_fine : (hooks : List Promise) (seed size : ℕ) (old new : SinkState) (cause : Cause) → SumsUp hooks seed size old new cause → cause ≡ Fine
    → WritesSummary hooks seed size old new
sums_fine hooks seed size old new _ (sums_up {text} {cause = last} l e) h =
    record { text = text; log = l; written = ends_whole Fine last _ old new e h }
sums_fine hooks seed size old new _ (refuses {due} {cause = last} r e) h =
    absurd ((bad_is hooks (made seed size) due r.bad).0 (ends_fine due last _ old new e h))
sums_fine hooks seed size old new _ (lacks_memory s) h = cc

pub sums_command : (hooks : List Promise) (seed size : ℕ) (old new : SinkState) (cause : Cause) → SumsUp hooks seed size old new cause → cause ≢ Usage
sums_command hooks seed size old new _ (sums_up {text} {cause = last} l e) = ends_command Fine last _ old new e (λ h. cc)
sums_command hooks seed size old new _ (refuses {due} {cause = last} r e) =
    ends_command due last _ old new e (bad_is hooks (made seed size) due r.bad).1
sums_command hooks seed size old new _ (lacks_memory s) = λ h. cc

pub sums_complete : (hooks : List Promise) (seed size : ℕ) (x : Exchange) (cause : Cause) (p : Program) (ls : List Line)
    → SumsUp hooks seed size x.sink_before x.sink_after cause → IsInput hooks (made seed size) p ls → CompletesUnlessCutOff x cause
sums_complete hooks seed size x _ p ls (sums_up {text} {cause = last} l e) i = ends_complete x Fine last _ e tt
sums_complete hooks seed size x _ p ls (refuses {due} {cause = last} r e) i = absurd (r.none p ls i)
sums_complete hooks seed size x _ p ls (lacks_memory s) i = tt
