-- A call over a source and a sink in memory.
use Rattle.std.proofs.Common.{◌≡◌, ◌≢◌, ℕ, ◌+◌, ◌≤◌, Some, None, List, [], ◌++◌, length, ◌⊎◌, inl, inr, ap, sym, subst, ◌∙◌, append-nil, length-append, arith, refl}
use Rattle.hh_term.specs.declared.program.Program.{Program}
use Rattle.hh_io.specs.SourceState.{SourceState}
use Rattle.hh_io.specs.SinkState.{SinkState, CutsOff}
use Rattle.hh_io.specs.declared.fault.SinkFault.{SinkFault}
use Rattle.hh_io.specs.declared.fault.SinkFault.TheVariants.{Failed, NoMemory as OutOfMemory}
use Rattle.scenario_lines.specs.declared.line.Line.{Line}
use Rattle.host_hooks.specs.Promise.{Promise}
use Rattle.hiphop_main.specs.declared.ending.Cause.{Cause}
use Rattle.hiphop_main.specs.declared.ending.Cause.TheVariants.{Fine, ReadFault, Usage, NoMemory, WriteFault, TooLong}
use Rattle.hiphop_main.specs.declared.limits.TheConstants.{INPUT_LIMIT}
use Rattle.hiphop_main.specs.Ends.{Ends, whole, out_of_memory, failed}
use Rattle.hiphop_main.specs.Exchange.{Exchange, exchange}
use Rattle.hiphop_main.specs.Gen.{IsGen, SumsUp, sums_up, refuses, lacks_memory}
use Rattle.hiphop_main.specs.Obeys.{IsPlay, Obeys, plays, gens, unanswered as unordered, says_usage, play, gen}
use Rattle.hiphop_main.specs.Play.{IsInput, IsLogText, IsBad, IsRefusedInput, of_module, of_hooks, of_scenario, cause_of}
use Rattle.hiphop_main.specs.Play.{InputPlayed, refused, played, cut_off, unanswered, Played, read, too_long, read_fault, no_memory}
use Rattle.play_tests.specs.InMemory.{EndsInMemory, all, cut_off as cut_short, InputInMemory, refused_in, played_in, cut_in}
use Rattle.hiphop_main.specs.Status.{refusal_line}
use Rattle.hiphop_main.specs.Summary.{summary}
use Rattle.hiphop_main.proofs.Dispatch.{order_once, play_is_no_gen}
use Rattle.scenario_make.specs.Make.{made}
use Rattle.play_tests.specs.InMemory.{PlaysInMemory, within, beyond, nothing, ObeysInMemory, plays_in, gens_in, unanswered_in, says_in}
use Rattle.play_tests.specs.InMemory.{GensInMemory, summed_in, refused_made, nothing_made, IsSummary}

-- the states of a source and of a sink in memory
abbrev source_of : List ℕ → SourceState
source_of rest = record { rest = Some rest; ends = None; faults = 0 }

abbrev sink_of : List ℕ → SinkState
sink_of written = record { written = Some written; faults = 0 }

abbrev call_of : List ℕ → List ℕ → List ℕ → Exchange
call_of input rest text = exchange (source_of input) (source_of rest) (sink_of []) (sink_of text)

ends_of : (due cause : Cause) (line text : List ℕ) → Ends due line (sink_of []) (sink_of text) cause → EndsInMemory due line text cause
ends_of due cause line text (whole p) = all p.added
ends_of due cause line text (out_of_memory p) = let prefix = p.prefix in cut_short prefix.0 prefix.1 prefix.2
ends_of due cause line text (failed p) = absurd (let fault = p.fault in let no_fault : ⊥ = omega arith in no_fault)

cut_of : (hooks : List Promise) (input log text : List ℕ) (behind : List Line) (fault : SinkFault) → IsLogText hooks input log behind
    → CutsOff (sink_of []) (sink_of text) log fault → InputInMemory hooks input text (cause_of fault)
cut_of hooks input log text behind Failed l p = absurd (let fault = p.fault in let no_fault : ⊥ = omega arith in no_fault)
cut_of hooks input log text behind OutOfMemory l p = let prefix = p.prefix in cut_in {log = log} {behind = behind} l prefix.0 prefix.1 prefix.2

same_text : (text : List ℕ) → sink_of text ≡ sink_of [] → text ≡ []
same_text text e = let same : Some text ≡ Some [] = ap (λ (k : SinkState). k.written) e in cc

input_of : (hooks : List Promise) (input text : List ℕ) (cause : Cause) → length input ≤ INPUT_LIMIT
    → InputPlayed hooks input (sink_of []) (sink_of text) cause → PlaysInMemory hooks input text cause
input_of hooks input text _ few (refused {due} {cause = last} r e) = within few (refused_in r (ends_of due last _ text e))
input_of hooks input text _ few (played {text = log} l p) = within few (played_in (subst (λ t. IsLogText hooks input t []) (sym p.added) l))
input_of hooks input text _ few (cut_off {text = log} {behind} fault l c) = within few (cut_of hooks input log text behind fault l c)
input_of hooks input text _ few (unanswered s) = nothing (same_text text s)

plays_of : (hooks : List Promise) (input rest text : List ℕ) (cause : Cause) → Played hooks (call_of input rest text) cause → PlaysInMemory hooks input text cause
plays_of hooks input rest text _ (read {input = bytes} {cause = last} r i) =
    let g = r.gave in
    let came : input ≡ bytes = g.came ∙ ap (λ l. bytes ++ l) g.ended ∙ append-nil bytes in
    subst (λ b. PlaysInMemory hooks b text last) (sym came) (input_of hooks bytes text last r.within i)
plays_of hooks input rest text _ (too_long {cause = last} t e) =
    let size : length input ≡ length t.0 + length rest = ap length t.2.came ∙ length-append t.0 rest in
    let count = t.1 in
    beyond (omega arith) (ends_of TooLong last _ text e)
plays_of hooks input rest text cause (read_fault f s) = absurd (let fault = f.fault in let no_fault : ⊥ = omega arith in no_fault)
plays_of hooks input rest text cause (no_memory g s) = nothing (same_text text s)

gens_of : (hooks : List Promise) (seed size : ℕ) (text : List ℕ) (cause : Cause) → SumsUp hooks seed size (sink_of []) (sink_of text) cause → GensInMemory hooks seed size text cause
gens_of hooks seed size text _ (sums_up {text = log} {cause = last} l e) = summed_in {log = log} l (ends_of Fine last _ text e)
gens_of hooks seed size text _ (refuses {due} {cause = last} r e) = refused_made r (ends_of due last _ text e)
gens_of hooks seed size text _ (lacks_memory s) = nothing_made (same_text text s)

obeys_of : (hooks : List Promise) (words : List (List ℕ)) (input rest text : List ℕ) (cause : Cause) → Obeys hooks words (call_of input rest text) cause
    → ObeysInMemory hooks words input text cause
obeys_of hooks words input rest text cause (plays p o) = plays_in p (plays_of hooks input rest text cause o.ends)
obeys_of hooks words input rest text cause (gens {seed} {size} w o) = gens_in w (gens_of hooks seed size text cause o.ends)
obeys_of hooks words input rest text cause (unordered w u) = unanswered_in w u.lacks_memory (same_text text u.unwritten)
obeys_of hooks words input rest text cause (says_usage n u) = says_in n (ends_of Usage cause _ text u.line)

-- the same of the values of the code
pub obeys : (hooks : List Promise) (words : List (List ℕ)) (source rest sink written input text : List ℕ) (cause : Cause) → source ≡ input → sink ≡ [] → text ≡ written
    → Obeys hooks words (exchange (source_of source) (source_of rest) (sink_of sink) (sink_of written)) cause → ObeysInMemory hooks words input text cause
obeys hooks words source rest sink written input text cause i k t o =
    let P : List ℕ → Type 0 = λ s. Obeys hooks words (exchange (source_of s) (source_of rest) (sink_of []) (sink_of text)) cause in
    let Q : List ℕ → Type 0 = λ s. Obeys hooks words (exchange (source_of source) (source_of rest) (sink_of s) (sink_of text)) cause in
    let R : List ℕ → Type 0 = λ s. Obeys hooks words (exchange (source_of source) (source_of rest) (sink_of sink) (sink_of s)) cause in
    obeys_of hooks words input rest text cause (subst P i (subst Q k (subst R (sym t) o)))

-- ---- what follows from it

ends_fine : (due cause : Cause) (line text : List ℕ) → EndsInMemory due line text cause → cause ≡ Fine → (due ≡ Fine) × (text ≡ line)
ends_fine due cause line text (all e) h = (h, e)
ends_fine due cause line text (cut_short n le e) h = cc

-- what is refused is refused for one of three causes
bad_is_due : (hooks : List Promise) (input : List ℕ) (due : Cause) → IsBad hooks input due → (due ≢ Fine) × (due ≢ ReadFault) × (due ≢ WriteFault)
bad_is_due hooks input _ (of_module {f} b) = (λ h. cc, λ h. cc, λ h. cc)
bad_is_due hooks input _ (of_hooks {at} b) = (λ h. cc, λ h. cc, λ h. cc)
bad_is_due hooks input _ (of_scenario {n} b) = (λ h. cc, λ h. cc, λ h. cc)

input_fine : (hooks : List Promise) (input text : List ℕ) (cause : Cause) → InputInMemory hooks input text cause → cause ≡ Fine → IsLogText hooks input text []
input_fine hooks input text _ (refused_in {due} {cause = last} r e) h =
    absurd ((bad_is_due hooks input due r.bad).0 (ends_fine due last _ text e h).0)
input_fine hooks input text _ (played_in l) h = l
input_fine hooks input text _ (cut_in l n le e) h = cc

plays_fine : (hooks : List Promise) (input text : List ℕ) (cause : Cause) → PlaysInMemory hooks input text cause → cause ≡ Fine → IsLogText hooks input text []
plays_fine hooks input text _ (within {cause = last} few i) h = input_fine hooks input text last i h
plays_fine hooks input text _ (beyond {cause = last} more e) h = let f = (ends_fine TooLong last _ text e h).0 in cc
plays_fine hooks input text cause (nothing e) h = cc

pub log : (hooks : List Promise) (words : List (List ℕ)) (input text : List ℕ) (cause : Cause) → ObeysInMemory hooks words input text cause → IsPlay words → cause ≡ Fine
    → IsLogText hooks input text []
log hooks words input text cause (plays_in p o) is h = plays_fine hooks input text cause o h
log hooks words input text cause (gens_in w o) is h = absurd (play_is_no_gen words is w.word)
log hooks words input text cause (unanswered_in w m s) is h = absurd (play_is_no_gen words is w)
log hooks words input text cause (says_in n e) is h = absurd (n (play is))

gens_fine : (hooks : List Promise) (seed size : ℕ) (text : List ℕ) (cause : Cause) → GensInMemory hooks seed size text cause → cause ≡ Fine → IsSummary hooks seed size text
gens_fine hooks seed size text _ (summed_in {log} {cause = last} l e) h = record { log = log; log_is = l; text_is = (ends_fine Fine last _ text e h).1 }
gens_fine hooks seed size text _ (refused_made {due} {cause = last} r e) h = absurd ((bad_is_due hooks (made seed size) due r.bad).0 (ends_fine due last _ text e h).0)
gens_fine hooks seed size text _ (nothing_made e) h = cc

no_fine : (cause : Cause) → cause ≡ NoMemory → cause ≡ Fine → ⊥
no_fine cause m h = cc

-- a call of `gen` that is fine has written a summary
pub summed : (hooks : List Promise) (words : List (List ℕ)) (input text : List ℕ) (cause : Cause) → ObeysInMemory hooks words input text cause → (seed size : ℕ) → IsGen words seed size
    → cause ≡ Fine → IsSummary hooks seed size text
summed hooks words input text cause (plays_in p o) seed size is h = absurd (play_is_no_gen words p is.word)
summed hooks words input text cause (gens_in {seed = one} {size = other} w o) seed size is h =
    let same = order_once words one seed other size w.order is.order in
    subst (λ (k : ℕ). IsSummary hooks k size text) same.0 (subst (λ (k : ℕ). IsSummary hooks one k text) same.1 (gens_fine hooks one other text cause o h))
summed hooks words input text cause (unanswered_in w m s) seed size is h = absurd (no_fine cause m h)
summed hooks words input text cause (says_in n e) seed size is h = absurd (n (gen is))

input_complete : (hooks : List Promise) (input text : List ℕ) (cause : Cause) (p : Program) (ls : List Line) → InputInMemory hooks input text cause → IsInput hooks input p ls
    → (cause ≡ Fine) ⊎ (cause ≡ NoMemory)
input_complete hooks input text cause p ls (refused_in r e) i = absurd (r.none p ls i)
input_complete hooks input text cause p ls (played_in l) i = inl refl
input_complete hooks input text cause p ls (cut_in l n le e) i = inr refl

plays_complete : (hooks : List Promise) (input text : List ℕ) (cause : Cause) (p : Program) (ls : List Line) → PlaysInMemory hooks input text cause
    → length input ≤ INPUT_LIMIT → IsInput hooks input p ls → (cause ≡ Fine) ⊎ (cause ≡ NoMemory)
plays_complete hooks input text _ p ls (within {cause = last} few o) le i = input_complete hooks input text last p ls o i
plays_complete hooks input text cause p ls (beyond more e) le i = absurd (let no_more : ⊥ = omega arith in no_more)
plays_complete hooks input text cause p ls (nothing e) le i = inr refl

pub complete : (hooks : List Promise) (words : List (List ℕ)) (input text : List ℕ) (cause : Cause) → ObeysInMemory hooks words input text cause → IsPlay words
    → length input ≤ INPUT_LIMIT → (p : Program) (ls : List Line) → IsInput hooks input p ls → (cause ≡ Fine) ⊎ (cause ≡ NoMemory)
complete hooks words input text cause (plays_in w o) is le p ls i = plays_complete hooks input text cause p ls o le i
complete hooks words input text cause (gens_in w o) is le p ls i = absurd (play_is_no_gen words is w.word)
complete hooks words input text cause (unanswered_in w m s) is le p ls i = inr m
complete hooks words input text cause (says_in n e) is le p ls i = absurd (n (play is))

-- no call ends with a fault
abbrev NoFault : Cause → Type 0
NoFault cause = (cause ≢ ReadFault) × (cause ≢ WriteFault)

ends_quiet : (due cause : Cause) (line text : List ℕ) → EndsInMemory due line text cause → NoFault due → NoFault cause
ends_quiet due cause line text (all e) n = n
ends_quiet due cause line text (cut_short m le e) n = (λ h. cc, λ h. cc)

input_quiet : (hooks : List Promise) (input text : List ℕ) (cause : Cause) → InputInMemory hooks input text cause → NoFault cause
input_quiet hooks input text _ (refused_in {due} {cause = last} r e) =
    let d = bad_is_due hooks input due r.bad in ends_quiet due last _ text e (d.1, d.2)
input_quiet hooks input text _ (played_in l) = (λ h. cc, λ h. cc)
input_quiet hooks input text _ (cut_in l n le e) = (λ h. cc, λ h. cc)

plays_quiet : (hooks : List Promise) (input text : List ℕ) (cause : Cause) → PlaysInMemory hooks input text cause → NoFault cause
plays_quiet hooks input text _ (within {cause = last} few i) = input_quiet hooks input text last i
plays_quiet hooks input text _ (beyond {cause = last} more e) = ends_quiet TooLong last _ text e (λ h. cc, λ h. cc)
plays_quiet hooks input text cause (nothing e) = (λ h. cc, λ h. cc)

gens_quiet : (hooks : List Promise) (seed size : ℕ) (text : List ℕ) (cause : Cause) → GensInMemory hooks seed size text cause → NoFault cause
gens_quiet hooks seed size text _ (summed_in {log} {cause = last} l e) = ends_quiet Fine last _ text e (λ h. cc, λ h. cc)
gens_quiet hooks seed size text _ (refused_made {due} {cause = last} r e) =
    let d = bad_is_due hooks (made seed size) due r.bad in ends_quiet due last _ text e (d.1, d.2)
gens_quiet hooks seed size text _ (nothing_made e) = (λ h. cc, λ h. cc)

short_is : (cause other : Cause) → cause ≡ NoMemory → cause ≡ other → (NoMemory ≡ other → ⊥) → ⊥
short_is cause other m h none = none (sym m ∙ h)

pub quiet : (hooks : List Promise) (words : List (List ℕ)) (input text : List ℕ) (cause : Cause) → ObeysInMemory hooks words input text cause → (cause ≢ ReadFault) × (cause ≢ WriteFault)
quiet hooks words input text cause (plays_in p o) = plays_quiet hooks input text cause o
quiet hooks words input text cause (gens_in {seed} {size} w o) = gens_quiet hooks seed size text cause o
quiet hooks words input text cause (unanswered_in w m s) = (λ h. short_is cause ReadFault m h (λ e. cc), λ h. short_is cause WriteFault m h (λ e. cc))
quiet hooks words input text cause (says_in n e) = ends_quiet Usage cause _ text e (λ h. cc, λ h. cc)
