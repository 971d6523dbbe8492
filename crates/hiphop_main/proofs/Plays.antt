-- How a call of `play` ends.
use Rattle.std.proofs.Common.{◌≡◌, ◌≢◌, ℕ, ◌+◌, ◌≤◌, Option, Some, None, List, [], ◌∷◌, ◌++◌, length, slice_get, ap}
use Rattle.std.proofs.Common.{subst, ◌∙◌, arith, append-nil, length-append}
use Rattle.std.specs.Io.KnownBytes.{Consumes, IsAtEnd}
use Rattle.hh_io.specs.SinkState.{SinkState, Puts, CutsOff}
use Rattle.hh_io.specs.declared.fault.SinkFault.{SinkFault}
use Rattle.hh_io.specs.declared.fault.SinkFault.TheVariants as sink_fault
use Rattle.hh_term.specs.declared.program.Program.{Program}
use Rattle.host_hooks.specs.Promise.{Promise}
use Rattle.scenario_lines.specs.declared.line.Line.{Line}
use Rattle.hiphop_main.specs.declared.ending.Cause.{Cause}
use Rattle.hiphop_main.specs.declared.ending.Cause.TheVariants.{Fine, Usage, TooLong}
use Rattle.hiphop_main.specs.Ends.{Ends, whole, out_of_memory, failed}
use Rattle.hiphop_main.specs.Exchange.{Exchange}
use Rattle.hiphop_main.specs.Play.{IsInput, IsBad, of_module, of_hooks, of_scenario, IsLogText, InputPlayed, refused, played, cut_off, unanswered, cause_of}
use Rattle.hiphop_main.specs.Play.{Played, read, too_long, read_fault, no_memory, PlaysLog, Accepts, CompletesUnlessCutOff, Plays}

pub no_word : (ws : List (List ℕ)) (p : List ℕ) → None ≡ slice_get ws 0 → ws ≡ p ∷ [] → ⊥
no_word [] p g e = cc
no_word (w ∷ ws) p g e = cc

pub one_word : (ws : List (List ℕ)) (w p : List ℕ) → Some w ≡ slice_get ws 0 → length ws ≡ 1 → w ≡ p → ws ≡ p ∷ []
one_word [] w p g l e = absurd (omega (arith, l))
one_word (x ∷ []) w p g l e = cc
one_word (x ∷ y ∷ zs) w p g l e = absurd (let no_more : ⊥ = omega arith in no_more)

pub first_word : (ws : List (List ℕ)) (w p : List ℕ) → Some w ≡ slice_get ws 0 → ws ≡ p ∷ [] → w ≡ p
first_word [] w p g e = cc
first_word (x ∷ xs) w p g e = cc

consumed_all : (before after : Option (List ℕ)) (told bytes : List ℕ) → before ≡ Some told → Consumes before after bytes
    → IsAtEnd after → told ≡ bytes
consumed_all None after told bytes e c end = cc
consumed_all (Some xs) None told bytes e c end = absurd c
consumed_all (Some xs) (Some ys) told bytes e c end =
    let same : told ≡ xs = cc in same ∙ c ∙ ap (λ t. bytes ++ t) end ∙ append-nil bytes

consumed_within : (before after : Option (List ℕ)) (told bytes : List ℕ) → before ≡ Some told
    → Consumes before after bytes → length bytes ≤ length told
consumed_within None after told bytes e c = absurd (let no_bytes : ⊥ = cc in no_bytes)
consumed_within (Some xs) None told bytes e c = absurd c
consumed_within (Some xs) (Some ys) told bytes e c =
    let same : told ≡ xs = cc in
    let size : length told ≡ length bytes + length ys = ap length (same ∙ c) ∙ length-append bytes ys in
    omega arith

-- ---- what is refused

-- the causes that refuse an input
pub bad_is : (hooks : List Promise) (input : List ℕ) (due : Cause) → IsBad hooks input due → (due ≢ Fine) × (due ≢ Usage)
bad_is hooks input _ (of_module {f} h) = (λ e. cc, λ e. cc)
bad_is hooks input _ (of_hooks {at} h) = (λ e. cc, λ e. cc)
bad_is hooks input _ (of_scenario {n} h) = (λ e. cc, λ e. cc)

pub ends_fine : (due cause : Cause) (text : List ℕ) (old new : SinkState) → Ends due text old new cause → cause ≡ Fine → due ≡ Fine
ends_fine due cause text old new (whole p) h = h
ends_fine due cause text old new (out_of_memory p) h = cc
ends_fine due cause text old new (failed p) h = cc

pub ends_command : (due cause : Cause) (text : List ℕ) (old new : SinkState) → Ends due text old new cause → due ≢ Usage → cause ≢ Usage
ends_command due cause text old new (whole p) n = n
ends_command due cause text old new (out_of_memory p) n = λ h. cc
ends_command due cause text old new (failed p) n = λ h. cc

pub ends_complete : (x : Exchange) (due cause : Cause) (text : List ℕ) → Ends due text x.sink_before x.sink_after cause
    → CompletesUnlessCutOff x due → CompletesUnlessCutOff x cause
ends_complete x due cause text (whole p) c = c
ends_complete x due cause text (out_of_memory p) c = tt
ends_complete x due cause text (failed p) c = p.fault

-- ---- an input that was read whole

fault_fine : (fault : SinkFault) → cause_of fault ≢ Fine
fault_fine sink_fault.Failed = λ e. cc
fault_fine sink_fault.NoMemory = λ e. cc

fault_command : (fault : SinkFault) → cause_of fault ≢ Usage
fault_command sink_fault.Failed = λ e. cc
fault_command sink_fault.NoMemory = λ e. cc

fault_complete : (x : Exchange) (text : List ℕ) (fault : SinkFault) → CutsOff x.sink_before x.sink_after text fault
    → CompletesUnlessCutOff x (cause_of fault)
fault_complete x text sink_fault.Failed c = c.fault
fault_complete x text sink_fault.NoMemory c = tt

pub input_fine : (hooks : List Promise) (input : List ℕ) (old new : SinkState) (cause : Cause) → InputPlayed hooks input old new cause
    → cause ≡ Fine → (text : List ℕ) × IsLogText hooks input text [] × Puts old new text
input_fine hooks input old new _ (refused {due} {cause = last} r e) h =
    absurd ((bad_is hooks input due r.bad).0 (ends_fine due last _ old new e h))
input_fine hooks input old new _ (played {text} l p) h = (text, l, p)
input_fine hooks input old new _ (cut_off {text} {behind} fault l c) h = absurd (fault_fine fault h)
input_fine hooks input old new cause (unanswered s) h = cc

played_fine : (hooks : List Promise) (x : Exchange) (cause : Cause) → Played hooks x cause → cause ≡ Fine → PlaysLog hooks x
played_fine hooks x _ (read {input} {cause = last} r i) h =
    let f = input_fine hooks input x.sink_before x.sink_after last i h in
    record { input = input; text = f.0; read = r; log = f.1; written = f.2 }
played_fine hooks x _ (too_long {cause = last} t e) h = let f = ends_fine TooLong last _ x.sink_before x.sink_after e h in cc
played_fine hooks x cause (read_fault f s) h = cc
played_fine hooks x cause (no_memory a s) h = cc

input_command : (hooks : List Promise) (input : List ℕ) (old new : SinkState) (cause : Cause)
    → InputPlayed hooks input old new cause → cause ≢ Usage
input_command hooks input old new _ (refused {due} {cause = last} r e) =
    ends_command due last _ old new e (bad_is hooks input due r.bad).1
input_command hooks input old new _ (played {text} l p) = λ h. cc
input_command hooks input old new _ (cut_off {text} {behind} fault l c) = fault_command fault
input_command hooks input old new cause (unanswered s) = λ h. cc

played_command : (hooks : List Promise) (x : Exchange) (cause : Cause) → Played hooks x cause → cause ≢ Usage
played_command hooks x _ (read {input} {cause = last} r i) = input_command hooks input x.sink_before x.sink_after last i
played_command hooks x _ (too_long {cause = last} t e) = ends_command TooLong last _ x.sink_before x.sink_after e (λ h. cc)
played_command hooks x cause (read_fault f s) = λ h. cc
played_command hooks x cause (no_memory a s) = λ h. cc

input_complete : (hooks : List Promise) (x : Exchange) (input : List ℕ) (cause : Cause) (p : Program) (ls : List Line)
    → InputPlayed hooks input x.sink_before x.sink_after cause → IsInput hooks input p ls → CompletesUnlessCutOff x cause
input_complete hooks x input _ p ls (refused {due} {cause = last} r e) i = absurd (r.none p ls i)
input_complete hooks x input _ p ls (played {text} l w) i = tt
input_complete hooks x input _ p ls (cut_off {text} {behind} fault l c) i = fault_complete x text fault c
input_complete hooks x input cause p ls (unanswered s) i = tt

played_complete : (hooks : List Promise) (x : Exchange) (cause : Cause) → Played hooks x cause → Accepts hooks x.source_before
    → CompletesUnlessCutOff x cause
played_complete hooks x _ (read {input} {cause = last} r i) a =
    let same : a.input ≡ input = consumed_all x.source_before.rest x.source_after.rest a.input input a.told r.gave.came r.gave.ended in
    input_complete hooks x input last a.program a.lines i (subst (λ b. IsInput hooks b a.program a.lines) same a.input_is)
played_complete hooks x _ (too_long {cause = last} t e) a =
    absurd (let more = consumed_within x.source_before.rest x.source_after.rest a.input t.0 a.told t.2.came in let size = t.1 in let most = a.within in let no_more : ⊥ = omega arith in no_more)
played_complete hooks x cause (read_fault f s) a = f.fault
played_complete hooks x cause (no_memory g s) a = tt

pub plays : (hooks : List Promise) (x : Exchange) (cause : Cause) → Played hooks x cause → Plays hooks x cause
plays hooks x cause p =
    record {
      ends = p;
      fine = played_fine hooks x cause p;
      complete = played_complete hooks x cause p;
      command = played_command hooks x cause p;
    }
