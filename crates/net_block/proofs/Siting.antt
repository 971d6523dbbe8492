-- What an async site draws.
use Rattle.std.proofs.Common.{◌≡◌, ℕ, false, Some, List, [], ◌∷◌, ◌++◌, sym, ap, ◌∙◌}
use Rattle.std.proofs.lemmas.List.{append-nil}
use Rattle.hh_base.specs.declared.value.Pos.{Pos}
use Rattle.hh_term.specs.declared.program.Site.{Site}
use Rattle.net_list.specs.declared.record.NetExec.{NetExec}
use Rattle.net_list.specs.declared.gate.NetGate.TheVariants.{Not, And, Or, Reg, Answer, Part}
use Rattle.net_block.specs.declared.ends.Controls.{Controls}
use Rattle.net_block.specs.declared.sites.SiteGates.{SiteGates}
use Rattle.net_block.specs.Parts.{up, Parts, only_gates, ◌⊕◌}
use Rattle.net_block.specs.Written.{written_site}
use Rattle.net_block.specs.Block.{async_gates, async_block, answers, optional}
use Rattle.net_block.specs.Drawn.{Drawn, next_of, with_parts, only_emits, AddsGate, DrawsSite}
use Rattle.net_block.proofs.Growing.{with_both, Steps, drawn_none, drawn_more, steps_drawn, step_number}
use Rattle.net_block.proofs.Rowing.{only_registers}

module _ (A B C D E F G H I J K L M N O : Drawn) (y : ℕ) (w : Controls)
    (x r a b n e u t s p h q l k z : ℕ) (is : x ≡ (next_of A).register)
    (u1 : AddsGate A B (Reg x) r) (u2 : AddsGate B C (Answer y) a) (u3 : AddsGate C D (Part y) b)
    (u4 : AddsGate D E (And (r ∷ w.resume ∷ [])) n) (u5 : AddsGate E F (And (n ∷ a ∷ [])) e)
    (u6 : AddsGate F G (And (n ∷ b ∷ [])) u) (u7 : AddsGate G H (Not a) t) (u8 : AddsGate H I (And (n ∷ t ∷ [])) s)
    (u9 : AddsGate I J (Or (w.go ∷ s ∷ [])) p) (u10 : AddsGate J K (And (r ∷ w.suspend ∷ [])) h)
    (u11 : AddsGate K L (Or (p ∷ h ∷ [])) q) (u12 : AddsGate L M (Not w.kill) l) (u13 : AddsGate M N (And (q ∷ l ∷ [])) k)
    (u14 : AddsGate N O (Or (e ∷ u ∷ [])) z) where
  s1 : Steps A (Reg x ∷ []) B
  s1 = drawn_more drawn_none u1

  s2 : Steps A (Reg x ∷ Answer y ∷ []) C
  s2 = drawn_more s1 u2

  s3 : Steps A (Reg x ∷ Answer y ∷ Part y ∷ []) D
  s3 = drawn_more s2 u3

  s4 : Steps A (Reg x ∷ Answer y ∷ Part y ∷ And (r ∷ w.resume ∷ []) ∷ []) E
  s4 = drawn_more s3 u4

  s5 : Steps A (Reg x ∷ Answer y ∷ Part y ∷ And (r ∷ w.resume ∷ []) ∷ And (n ∷ a ∷ []) ∷ []) F
  s5 = drawn_more s4 u5

  s6 : Steps A (
      Reg x ∷ Answer y ∷ Part y
      ∷ And (r ∷ w.resume ∷ []) ∷ And (n ∷ a ∷ []) ∷ And (n ∷ b ∷ []) ∷ []
      ) G
  s6 = drawn_more s5 u6

  s7 : Steps A (
      Reg x ∷ Answer y ∷ Part y
      ∷ And (r ∷ w.resume ∷ []) ∷ And (n ∷ a ∷ []) ∷ And (n ∷ b ∷ []) ∷ Not a ∷ []
      ) H
  s7 = drawn_more s6 u7

  s8 : Steps A (
      Reg x ∷ Answer y ∷ Part y ∷ And (r ∷ w.resume ∷ [])
      ∷ And (n ∷ a ∷ []) ∷ And (n ∷ b ∷ []) ∷ Not a ∷ And (n ∷ t ∷ []) ∷ []
      ) I
  s8 = drawn_more s7 u8

  s9 : Steps A (
      Reg x ∷ Answer y ∷ Part y ∷ And (r ∷ w.resume ∷ [])
      ∷ And (n ∷ a ∷ []) ∷ And (n ∷ b ∷ []) ∷ Not a ∷ And (n ∷ t ∷ []) ∷ Or (w.go ∷ s ∷ []) ∷ []
      ) J
  s9 = drawn_more s8 u9

  s10 : Steps A (
      Reg x ∷ Answer y ∷ Part y ∷ And (r ∷ w.resume ∷ []) ∷ And (n ∷ a ∷ [])
      ∷ And (n ∷ b ∷ []) ∷ Not a ∷ And (n ∷ t ∷ []) ∷ Or (w.go ∷ s ∷ []) ∷ And (r ∷ w.suspend ∷ []) ∷ []
      ) K
  s10 = drawn_more s9 u10

  s11 : Steps A (
      Reg x ∷ Answer y ∷ Part y ∷ And (r ∷ w.resume ∷ []) ∷ And (n ∷ a ∷ [])
      ∷ And (n ∷ b ∷ []) ∷ Not a ∷ And (n ∷ t ∷ []) ∷ Or (w.go ∷ s ∷ []) ∷ And (r ∷ w.suspend ∷ []) ∷ Or (p ∷ h ∷ []) ∷ []
      ) L
  s11 = drawn_more s10 u11

  s12 : Steps A (
      Reg x ∷ Answer y ∷ Part y ∷ And (r ∷ w.resume ∷ []) ∷ And (n ∷ a ∷ []) ∷ And (n ∷ b ∷ [])
      ∷ Not a ∷ And (n ∷ t ∷ []) ∷ Or (w.go ∷ s ∷ []) ∷ And (r ∷ w.suspend ∷ []) ∷ Or (p ∷ h ∷ []) ∷ Not w.kill ∷ []
      ) M
  s12 = drawn_more s11 u12

  s13 : Steps A (
      Reg x ∷ Answer y ∷ Part y ∷ And (r ∷ w.resume ∷ []) ∷ And (n ∷ a ∷ []) ∷ And (n ∷ b ∷ [])
      ∷ Not a ∷ And (n ∷ t ∷ []) ∷ Or (w.go ∷ s ∷ []) ∷ And (r ∷ w.suspend ∷ []) ∷ Or (p ∷ h ∷ []) ∷ Not w.kill ∷ And (q ∷ l ∷ []) ∷ []
      ) N
  s13 = drawn_more s12 u13

  s14 : Steps A (
      Reg x ∷ Answer y ∷ Part y ∷ And (r ∷ w.resume ∷ []) ∷ And (n ∷ a ∷ []) ∷ And (n ∷ b ∷ []) ∷ Not a
      ∷ And (n ∷ t ∷ []) ∷ Or (w.go ∷ s ∷ []) ∷ And (r ∷ w.suspend ∷ []) ∷ Or (p ∷ h ∷ []) ∷ Not w.kill ∷ And (q ∷ l ∷ []) ∷ Or (e ∷ u ∷ []) ∷ []
      ) O
  s14 = drawn_more s13 u14

  er : r ≡ (next_of A).gate
  er = u1.number

  ea : a ≡ up 1 (next_of A).gate
  ea = step_number s1 u2

  eb : b ≡ up 2 (next_of A).gate
  eb = step_number s2 u3

  en : n ≡ up 3 (next_of A).gate
  en = step_number s3 u4

  ee : e ≡ up 4 (next_of A).gate
  ee = step_number s4 u5

  eu : u ≡ up 5 (next_of A).gate
  eu = step_number s5 u6

  et : t ≡ up 6 (next_of A).gate
  et = step_number s6 u7

  es : s ≡ up 7 (next_of A).gate
  es = step_number s7 u8

  ep : p ≡ up 8 (next_of A).gate
  ep = step_number s8 u9

  eh : h ≡ up 9 (next_of A).gate
  eh = step_number s9 u10

  eq : q ≡ up 10 (next_of A).gate
  eq = step_number s10 u11

  el : l ≡ up 11 (next_of A).gate
  el = step_number s11 u12

  ek : k ≡ up 12 (next_of A).gate
  ek = step_number s12 u13

  ez : z ≡ up 13 (next_of A).gate
  ez = step_number s13 u14

  pub site_drawn : (Z : Drawn) → Z ≡ with_parts O (only_registers ((false, k) ∷ []))
      → DrawsSite y w A Z (record { rests = r; ends = e; used = u; resumed = s; pauses = p; held = h; next = k; sends = z })
  site_drawn Z last =
      record {
        rests = er;
        ends = ee;
        used = eu;
        resumed = es;
        pauses = ep;
        held = eh;
        next = ek;
        sends = ez;
        drawn = last ∙ ap (λ Y. with_parts Y (only_registers ((false, k) ∷ []))) (steps_drawn s14)
            ∙ with_both A (only_gates (
            Reg x ∷ Answer y ∷ Part y ∷ And (r ∷ w.resume ∷ []) ∷ And (n ∷ a ∷ []) ∷ And (n ∷ b ∷ []) ∷ Not a
            ∷ And (n ∷ t ∷ []) ∷ Or (w.go ∷ s ∷ []) ∷ And (r ∷ w.suspend ∷ []) ∷ Or (p ∷ h ∷ []) ∷ Not w.kill
            ∷ And (q ∷ l ∷ []) ∷ Or (e ∷ u ∷ []) ∷ []
            )) (only_registers ((false, k) ∷ []))
            ∙ (λ i. with_parts A (record (only_gates (
            Reg (is i) ∷ Answer y ∷ Part y ∷ And (er i ∷ w.resume ∷ []) ∷ And (en i ∷ ea i ∷ []) ∷ And (en i ∷ eb i ∷ [])
            ∷ Not (ea i) ∷ And (en i ∷ et i ∷ []) ∷ Or (w.go ∷ es i ∷ []) ∷ And (er i ∷ w.suspend ∷ [])
            ∷ Or (ep i ∷ eh i ∷ []) ∷ Not w.kill ∷ And (eq i ∷ el i ∷ []) ∷ Or (ee i ∷ eu i ∷ []) ∷ []
            )) { registers = (false, ek i) ∷ [] }));
      }

abbrev only_exec : NetExec → Parts
only_exec x = record (only_gates []) { execs = x ∷ [] }

-- an exec more
pub with_exec : (D : Drawn) (x : NetExec) (all : List NetExec) → all ≡ D.parts.execs ++ x ∷ []
    → record D { parts = record D.parts { execs = all } } ≡ with_parts D (only_exec x)
with_exec D x all e =
    (λ i. record D { parts = record D.parts { execs = e i } })
    ∙ sym (λ i. record D {
      parts =
          record {
            gates = append-nil D.parts.gates i;
            registers = append-nil D.parts.registers i;
            tests = append-nil D.parts.tests i;
            emits = append-nil D.parts.emits i;
            execs = D.parts.execs ++ x ∷ [];
            signals = append-nil D.parts.signals i;
          };
    })

abbrev exec_of : Pos → Site → Controls → SiteGates → NetExec
exec_of at site w g =
    record {
      site = site;
      go = w.go;
      reg = g.rests;
      end = g.ends;
      used = g.used;
      held = g.held;
      resumed = g.resumed;
      next = g.next;
      pos = at;
    }

pub async_drawn : (A B C D : Drawn) (at : Pos) (y : ℕ) (site copy : Site) (w : Controls) (g : SiteGates) → DrawsSite y w A B g
    → copy ≡ written_site site → C ≡ with_parts B (only_exec (exec_of at copy w g))
    → D ≡ with_parts C (only_emits (optional (answers at y g.sends) site.signal))
    → D ≡ with_parts A (async_block at y (Some site) (next_of A) w).parts
async_drawn A B C D at y site copy w g drew same execs emits =
    let gates : Parts = record (only_gates (async_gates y (next_of A) w)) {
      registers = (false, up 12 (next_of A).gate) ∷ [];
    } in
    let exec = only_exec (exec_of at copy w g) in
    let sent = only_emits (optional (answers at y g.sends) site.signal) in
    emits ∙ ap (λ z. with_parts z sent) (execs ∙ ap (λ z. with_parts z exec) drew.drawn)
    ∙ with_both (with_parts A gates) exec sent ∙ with_both A gates (exec ⊕ sent)
    ∙ (λ i. with_parts A (record gates {
      emits = optional (answers at y (drew.sends i)) site.signal;
      execs = record {
        site = same i;
        go = w.go;
        reg = drew.rests i;
        end = drew.ends i;
        used = drew.used i;
        held = drew.held i;
        resumed = drew.resumed i;
        next = drew.next i;
        pos = at;
      } ∷ [];
    }))
