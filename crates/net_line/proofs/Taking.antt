-- What is read as it is written is taken.
use Rattle.std.proofs.Common.{◌≡◌, ℕ, List, [], ◌∷◌, ◌++◌, Bool, true, Option, Some, None, Result, Ok, Err}
use Rattle.std.proofs.Common.{refl, sym, ap, ◌∙◌, subst, codes}
use Rattle.std.specs.Prelude.{MatchResult}
use Rattle.net_list.specs.declared.gate.NetGate.{NetGate}
use Rattle.net_text.specs.Lines.{gate_line, register_line}
use Rattle.net_text.specs.NetText.{heading, section}
use Rattle.net_line.specs.declared.fault.LineFault.{LineFault}
use Rattle.net_line.specs.declared.fault.LineFault.TheVariants.{Formless}
use Rattle.net_line.specs.Formed.{IsSmall, IsGateForm, IsRegisterForm, IsSectionForm}
use Rattle.net_line.specs.Reading.{Reader, Reads, plain}
use Rattle.net_line.specs.GateReading.{gate_line_of, register_line_of, heading_of, section_of}
use Rattle.net_line.specs.Taken.{IsTaken, IsRefused, Takes}
use Rattle.net_line.proofs.Chain.{ReadsAll, Anything, same_read}
use Rattle.net_line.proofs.Sections.{reads_section}
use Rattle.net_line.proofs.Gates.{reads_gate, reads_register, reads_heading}

is_taken : {A : Type 0} (r : Reader A) (W : A → List ℕ) (F : A → Type 0) → ReadsAll Anything r W F
    → (old : List ℕ) (a : A) (new : List ℕ) → r old ≡ Some (a, new) → IsTaken W F old a new
is_taken r W F h old a new e =
    let s = h.sound old a new e in
    record {
      whole = s.0;
      form = s.1;
      only = λ b rest f is. same_read b a rest new (sym (h.complete b tt f rest tt) ∙ ap r (sym is) ∙ e);
    }

is_refused : {A : Type 0} (r : Reader A) (W : A → List ℕ) (F : A → Type 0) → ReadsAll Anything r W F
    → (old : List ℕ) → r old ≡ None → IsRefused W F old
is_refused r W F h old none a rest f is =
    let some = ap r is ∙ h.complete a tt f rest tt in
    let clash : ⊥ = cc in clash

pub taken : {A : Type 0} (r : Reader A) (W : A → List ℕ) (F : A → Type 0) → ReadsAll Anything r W F
    → (old : List ℕ) (result : Result A LineFault) (new : List ℕ) → Reads (r old) result new
    → Takes W F old result new
taken r W F h old (Ok a) new e = is_taken r W F h old a new e
taken r W F h old (Err fault) new e = λ formless. is_refused r W F h old (e formless)

-- the same of what is seen by a view
pub seen : {A B : Type 0} (result : Result B LineFault) (view : B → A) (r : Reader A) (W : A → List ℕ)
    (F : A → Type 0) → ReadsAll Anything r W F → (old new : List ℕ)
    → MatchResult result (λ b. r old ≡ Some (view b, new)) (λ e. e ≡ Formless → r old ≡ None)
    → MatchResult result (λ b. IsTaken W F old (view b) new) (λ e. e ≡ Formless → IsRefused W F old)
seen (Ok b) view r W F h old new e = is_taken r W F h old (view b) new e
seen (Err fault) view r W F h old new e = λ formless. is_refused r W F h old (e formless)

pub reads_registers : ReadsAll Anything (section_of (codes "registers") register_line_of)
    (section (codes "registers") register_line) (IsSectionForm IsRegisterForm)
reads_registers = reads_section (codes "registers") refl register_line_of register_line IsRegisterForm
    reads_register

pub reads_gates : (parts : Bool) → ReadsAll Anything (section_of (codes "gates") (gate_line_of parts))
    (section (codes "gates") gate_line) (IsSectionForm (IsGateForm parts))
reads_gates parts =
    reads_section (codes "gates") refl (gate_line_of parts) gate_line (IsGateForm parts) (reads_gate parts)

pub gate_taken : (parts : Bool) (old : List ℕ) (result : Result NetGate LineFault) (new : List ℕ)
    → Reads (gate_line_of parts old) result new → Takes gate_line (IsGateForm parts) old result new
gate_taken parts = taken (gate_line_of parts) gate_line (IsGateForm parts) (reads_gate parts)

pub register_taken : (old : List ℕ) (result : Result (Bool × ℕ) LineFault) (new : List ℕ)
    → Reads (register_line_of old) result new → Takes register_line IsRegisterForm old result new
register_taken = taken register_line_of register_line IsRegisterForm reads_register

pub heading_taken : (word : List ℕ) → plain word ≡ true → (old : List ℕ) (result : Result ℕ LineFault)
    (new : List ℕ) → Reads (heading_of word old) result new → Takes (heading word) IsSmall old result new
heading_taken word h = taken (heading_of word) (heading word) IsSmall (reads_heading word h)
