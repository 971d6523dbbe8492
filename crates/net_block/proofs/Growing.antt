-- Lists that grow, and the numbers of what stands in them.
use Rattle.std.proofs.Common.{◌≡◌, ℕ, zero, suc, ◌+◌, List, [], ◌∷◌, ◌++◌, length, refl, sym, ap, ◌∙◌, arith}
use Rattle.std.proofs.Common.{length-append, set}
use Rattle.std.specs.Prelude.{slice_index_or}
use Rattle.net_list.specs.declared.record.NetEmit.{NetEmit}
use Rattle.std.proofs.lemmas.List.{append-nil, append_assoc}
use Rattle.net_list.specs.declared.gate.NetGate.{NetGate}
use Rattle.net_block.specs.Parts.{up, Parts, From, only_gates, ◌⊕◌, behind}
use Rattle.net_block.specs.Drawn.{Drawn, next_of, noted, with_parts, AddsGate}

pub up_is : (k n : ℕ) → up k n ≡ k + n
up_is zero n = (let same : n ≡ 0 + n = omega arith in same)
up_is (suc k) n = ap suc (up_is k n) ∙ (let same : suc (k + n) ≡ suc k + n = omega arith in same)

pub up_up : (a b n : ℕ) → up (a + b) n ≡ up b (up a n)
up_up a b n =
    let same : (a + b) + n ≡ b + (a + n) = omega arith in
    up_is (a + b) n ∙ same ∙ ap (λ z. b + z) (sym (up_is a n)) ∙ sym (up_is b (up a n))

pub up_length : {A : Type 0} (xs ys : List A) (n : ℕ) → up (length (xs ++ ys)) n ≡ up (length ys) (up (length xs) n)
up_length xs ys n = ap (λ k. up k n) (length-append xs ys) ∙ up_up (length xs) (length ys) n

pub joined_assoc : (a b c : Parts) → (a ⊕ b) ⊕ c ≡ a ⊕ (b ⊕ c)
joined_assoc a b c =
    λ i. record {
      gates = append_assoc a.gates b.gates c.gates i;
      registers = append_assoc a.registers b.registers c.registers i;
      tests = append_assoc a.tests b.tests c.tests i;
      emits = append_assoc a.emits b.emits c.emits i;
      execs = append_assoc a.execs b.execs c.execs i;
      signals = append_assoc a.signals b.signals c.signals i;
    }

pub joined_none : (a : Parts) → a ⊕ only_gates [] ≡ a
joined_none a =
    λ i. record {
      gates = append-nil a.gates i;
      registers = append-nil a.registers i;
      tests = append-nil a.tests i;
      emits = append-nil a.emits i;
      execs = append-nil a.execs i;
      signals = append-nil a.signals i;
    }

pub behind_joined : (a b : Parts) (n : From) → behind (a ⊕ b) n ≡ behind b (behind a n)
behind_joined a b n =
    λ i. record {
      gate = up_length a.gates b.gates n.gate i;
      register = up_length a.registers b.registers n.register i;
      test = up_length a.tests b.tests n.test i;
    }

pub noted_both : (lists : List (List ℕ)) (xs ys : List NetEmit) → noted lists (xs ++ ys) ≡ noted (noted lists xs) ys
noted_both lists [] ys = refl
noted_both lists (x ∷ xs) ys = noted_both (set lists x.signal (slice_index_or lists x.signal [] ++ x.control ∷ [])) xs ys

-- what is drawn behind these parts
pub with_both : (D : Drawn) (a b : Parts) → with_parts (with_parts D a) b ≡ with_parts D (a ⊕ b)
with_both D a b =
    λ i. record D { parts = joined_assoc D.parts a b i; emitters = sym (noted_both D.emitters a.emits b.emits) i }

pub with_none : (D : Drawn) → with_parts D (only_gates []) ≡ D
with_none D = λ i. record D { parts = joined_none D.parts i }

pub next_with : (D : Drawn) (a : Parts) → next_of (with_parts D a) ≡ behind a (next_of D)
next_with D a = behind_joined D.parts a D.first

-- gates that are drawn one by one
pub data Steps (D : Drawn) : List NetGate → Drawn → Type 0 where
  drawn_none : Steps D [] D
  drawn_more : {gs : List NetGate} {E F : Drawn} {g : NetGate} {n : ℕ} → Steps D gs E → AddsGate E F g n → Steps D (gs ++ g ∷ []) F

pub steps_drawn : {D E : Drawn} {gs : List NetGate} → Steps D gs E → E ≡ with_parts D (only_gates gs)
steps_drawn {D = D} drawn_none = sym (with_none D)
steps_drawn {D = D} (drawn_more {gs} {E} {F} {g} s a) =
    a.drawn ∙ ap (λ z. with_parts z (only_gates (g ∷ []))) (steps_drawn s) ∙ with_both D (only_gates gs) (only_gates (g ∷ []))

pub step_number : {D E F : Drawn} {gs : List NetGate} {g : NetGate} {n : ℕ} → Steps D gs E → AddsGate E F g n
    → n ≡ up (length gs) (next_of D).gate
step_number {D = D} {gs = gs} s a =
    a.number ∙ ap (λ z. (next_of z).gate) (steps_drawn s) ∙ ap (λ (z : From). z.gate) (next_with D (only_gates gs))
