-- What is drawn of nets so far. (This project's own.)
use Rattle.std.specs.Prelude.{◌≡◌, ℕ, false, List, [], ◌∷◌, ◌++◌, set, slice_index_or}
use Rattle.net_list.specs.declared.gate.NetGate.{NetGate}
use Rattle.net_list.specs.declared.record.NetEmit.{NetEmit}
use Rattle.net_block.specs.Parts.{up, Parts, From, only_gates, ◌⊕◌, behind}
use Rattle.net_block.specs.Codes.{Made, Joined}
use Rattle.net_block.specs.Block.{Block, async_gates}
use Rattle.net_block.specs.declared.codes.JoinedCode.{JoinedCode}
use Rattle.net_block.specs.declared.ends.Controls.{Controls}
use Rattle.net_block.specs.declared.ends.Ends.{Ends}
use Rattle.net_block.specs.declared.sites.SiteGates.{SiteGates}
use Rattle.net_block.specs.declared.drawing.Drawing.{Drawing}

-- the numbers of the first gate and register, what is drawn, and for each signal the gates that are 1 where
-- it is emitted
pub record Drawn : Type 0 where
  pub first : From
  pub parts : Parts
  pub emitters : List (List ℕ)

abbrev pub drawn : Drawing → Drawn
drawn d =
    record {
      first = record { gate = d.first_gate; register = d.first_register; test = 0 };
      parts =
          record {
            gates = d.gates.items;
            registers = d.registers.items;
            tests = d.tests.items;
            emits = d.emits.items;
            execs = d.execs.items;
            signals = d.signals.items;
          };
      emitters = d.emitters.items;
    }

-- the numbers that come next
abbrev pub next_of : Drawn → From
next_of D = behind D.parts D.first

-- with these emissions more
abbrev pub noted : List (List ℕ) → List NetEmit → List (List ℕ)
noted lists [] = lists
noted lists (e ∷ es) = noted (set lists e.signal (slice_index_or lists e.signal [] ++ e.control ∷ [])) es

-- these behind all
abbrev pub with_parts : Drawn → Parts → Drawn
with_parts D a = record D { parts = D.parts ⊕ a; emitters = noted D.emitters a.emits }

-- one gate more, with this number
pub record AddsGate (before after : Drawn) (g : NetGate) (n : ℕ) : Type 0 where
  pub number : n ≡ (next_of before).gate
  pub drawn : after ≡ with_parts before (only_gates (g ∷ []))

-- what was made, and its gates behind all
pub record Makes {A : Type 0} (made : Made A) (before after : Drawn) (x : A) : Type 0 where
  pub is : x ≡ made.0
  pub drawn : after ≡ with_parts before (only_gates made.1)

-- the same of the gates of one code of a parallel
pub record JoinsCode (made : Joined) (before after : Drawn) (x : JoinedCode) : Type 0 where
  pub left : x.left ≡ made.left
  pub right : x.right ≡ made.right
  pub code : x.code ≡ made.code
  pub drawn : after ≡ with_parts before (only_gates made.gates)

abbrev pub only_emits : List NetEmit → Parts
only_emits es = record (only_gates []) { emits = es }

-- the gates and the register of an async site behind all
pub record DrawsSite (x : ℕ) (w : Controls) (before after : Drawn) (g : SiteGates) : Type 0 where
  pub rests : g.rests ≡ (next_of before).gate
  pub ends : g.ends ≡ up 4 (next_of before).gate
  pub used : g.used ≡ up 5 (next_of before).gate
  pub resumed : g.resumed ≡ up 7 (next_of before).gate
  pub pauses : g.pauses ≡ up 8 (next_of before).gate
  pub held : g.held ≡ up 9 (next_of before).gate
  pub next : g.next ≡ up 12 (next_of before).gate
  pub sends : g.sends ≡ up 13 (next_of before).gate
  pub drawn : after ≡ with_parts before (record (only_gates (async_gates x (next_of before) w)) {
    registers = (false, up 12 (next_of before).gate) ∷ [];
  })

-- a block behind all
pub record Draws (b : Block) (before after : Drawn) (e : Ends) : Type 0 where
  pub sel : e.sel ≡ b.sel
  pub codes : e.codes.items ≡ b.codes
  pub drawn : after ≡ with_parts before b.parts
