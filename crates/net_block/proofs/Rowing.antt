-- What the rows of the table draw.
use Rattle.std.proofs.Common.{◌≡◌, ℕ, suc, ◌≤◌, ◌-◌, Bool, false, List, [], ◌∷◌, ◌++◌, sym, ap, ◌∙◌, arith}
use Rattle.std.proofs.Common.{Some, None, set}
use Rattle.std.specs.Prelude.{slice_index_or}
use Rattle.std.proofs.lemmas.List.{append_assoc, append-nil}
use Rattle.net_list.specs.declared.gate.NetGate.TheVariants.{Not, And, Or, Reg}
use Rattle.net_list.specs.declared.record.NetEmit.{NetEmit}
use Rattle.net_block.specs.declared.ends.Controls.{Controls}
use Rattle.net_block.specs.Parts.{up, Parts, only_gates}
use Rattle.net_block.specs.Codes.{CodeGates, only_code}
use Rattle.net_block.specs.Block.{pause_block}
use Rattle.net_block.specs.Drawn.{Drawn, next_of, with_parts, AddsGate}
use Rattle.net_block.proofs.Growing.{with_both, Steps, drawn_none, drawn_more, steps_drawn, step_number}

abbrev pub only_registers : List (Bool × ℕ) → Parts
only_registers rs = record (only_gates []) { registers = rs }

module _ (A B C D E F G : Drawn) (w : Controls) (x r e h p l n : ℕ) (is : x ≡ (next_of A).register)
    (u1 : AddsGate A B (Reg x) r) (u2 : AddsGate B C (And (r ∷ w.resume ∷ [])) e)
    (u3 : AddsGate C D (And (r ∷ w.suspend ∷ [])) h) (u4 : AddsGate D E (Or (w.go ∷ h ∷ [])) p)
    (u5 : AddsGate E F (Not w.kill) l) (u6 : AddsGate F G (And (p ∷ l ∷ [])) n) where
  s1 : Steps A (Reg x ∷ []) B
  s1 = drawn_more drawn_none u1

  s2 : Steps A (Reg x ∷ And (r ∷ w.resume ∷ []) ∷ []) C
  s2 = drawn_more s1 u2

  s3 : Steps A (Reg x ∷ And (r ∷ w.resume ∷ []) ∷ And (r ∷ w.suspend ∷ []) ∷ []) D
  s3 = drawn_more s2 u3

  s4 : Steps A (Reg x ∷ And (r ∷ w.resume ∷ []) ∷ And (r ∷ w.suspend ∷ []) ∷ Or (w.go ∷ h ∷ []) ∷ []) E
  s4 = drawn_more s3 u4

  s5 : Steps A (Reg x ∷ And (r ∷ w.resume ∷ []) ∷ And (r ∷ w.suspend ∷ []) ∷ Or (w.go ∷ h ∷ []) ∷ Not w.kill ∷ []) F
  s5 = drawn_more s4 u5

  s6 : Steps A (
      Reg x ∷ And (r ∷ w.resume ∷ []) ∷ And (r ∷ w.suspend ∷ []) ∷ Or (w.go ∷ h ∷ []) ∷ Not w.kill ∷ And (p ∷ l ∷ []) ∷ []
      ) G
  s6 = drawn_more s5 u6

  pub pause_rests : r ≡ (next_of A).gate
  pause_rests = u1.number

  pub pause_ends : e ≡ up 1 (next_of A).gate
  pause_ends = step_number s1 u2

  pause_held : h ≡ up 2 (next_of A).gate
  pause_held = step_number s2 u3

  pause_goes_on : p ≡ up 3 (next_of A).gate
  pause_goes_on = step_number s3 u4

  pause_lives : l ≡ up 4 (next_of A).gate
  pause_lives = step_number s4 u5

  pause_next : n ≡ up 5 (next_of A).gate
  pause_next = step_number s5 u6

  pub pause_drawn : with_parts G (only_registers ((false, n) ∷ [])) ≡ with_parts A (pause_block (next_of A) w).parts
  pause_drawn =
      ap (λ z. with_parts z (only_registers ((false, n) ∷ []))) (steps_drawn s6)
      ∙ with_both A (only_gates (
      Reg x ∷ And (r ∷ w.resume ∷ []) ∷ And (r ∷ w.suspend ∷ []) ∷ Or (w.go ∷ h ∷ []) ∷ Not w.kill ∷ And (p ∷ l ∷ []) ∷ []
      )) (only_registers ((false, n) ∷ []))
      ∙ (λ i. with_parts A (record (only_gates (
      Reg (is i) ∷ And (pause_rests i ∷ w.resume ∷ []) ∷ And (pause_rests i ∷ w.suspend ∷ [])
      ∷ Or (w.go ∷ pause_held i ∷ []) ∷ Not w.kill ∷ And (pause_goes_on i ∷ pause_lives i ∷ []) ∷ []
      )) { registers = (false, pause_next i) ∷ [] }))

pub only_code_so_far : (n i : ℕ) (g : ℕ) (codes : CodeGates) → i ≤ n → codes ++ only_code (n - i) g ≡ only_code n g
    → n ≤ i → codes ++ Some g ∷ [] ≡ only_code n g
only_code_so_far n i g codes h e k =
    let none : n - i ≡ 0 = omega (arith, h, k) in
    ap (λ z. codes ++ only_code z g) (sym none) ∙ e

pub only_code_step : (n i j : ℕ) (g : ℕ) (codes longer : CodeGates) → suc i ≤ n → j ≡ suc i → longer ≡ codes ++ None ∷ []
    → codes ++ only_code (n - i) g ≡ only_code n g → longer ++ only_code (n - j) g ≡ only_code n g
only_code_step n i j g codes longer h k p e =
    let one : n - i ≡ suc (n - suc i) = omega (arith, h) in
    (λ l. p l ++ only_code (n - k l) g) ∙ append_assoc codes (None ∷ []) (only_code (n - suc i) g)
    ∙ ap (λ z. codes ++ only_code z g) (sym one) ∙ e

-- a register more
pub with_register : (D : Drawn) (rs all : List (Bool × ℕ)) → all ≡ D.parts.registers ++ rs
    → record D { parts = record D.parts { registers = all } } ≡ with_parts D (only_registers rs)
with_register D rs all e =
    (λ i. record D { parts = record D.parts { registers = e i } }) ∙ sym (λ i. record D {
      parts =
          record {
            gates = append-nil D.parts.gates i;
            registers = D.parts.registers ++ rs;
            tests = append-nil D.parts.tests i;
            emits = append-nil D.parts.emits i;
            execs = append-nil D.parts.execs i;
            signals = append-nil D.parts.signals i;
          };
    })

-- an emission more, which is noted
pub with_emission : (D E : Drawn) (e : NetEmit) (es : List NetEmit)
    → E ≡ record D { emitters = set D.emitters e.signal (slice_index_or D.emitters e.signal [] ++ e.control ∷ []) }
    → es ≡ E.parts.emits ++ e ∷ []
    → record E { parts = record E.parts { emits = es } } ≡ with_parts D (record (only_gates []) { emits = e ∷ [] })
with_emission D E e es noted added =
    let all : es ≡ D.parts.emits ++ e ∷ [] = added ∙ ap (λ (z : Drawn). z.parts.emits ++ e ∷ []) noted in
    (λ i. record (noted i) { parts = record ((noted i).parts) { emits = all i } })
    ∙ sym (λ i. record {
      first = D.first;
      parts =
          record {
            gates = append-nil D.parts.gates i;
            registers = append-nil D.parts.registers i;
            tests = append-nil D.parts.tests i;
            emits = D.parts.emits ++ e ∷ [];
            execs = append-nil D.parts.execs i;
            signals = append-nil D.parts.signals i;
          };
      emitters = set D.emitters e.signal (slice_index_or D.emitters e.signal [] ++ e.control ∷ []);
    })
