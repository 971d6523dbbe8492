-- Gates of completion codes. (The synchronizer of a parallel is Berry's, The Constructive Semantics of Pure
-- Esterel; the order of gates is this project's own.)
use Rattle.std.specs.Prelude.{ℕ, zero, suc, Option, Some, None, List, [], ◌∷◌, ◌++◌, length, drop}
use Rattle.std.specs.Prelude.{slice_index_or}
use Rattle.net_list.specs.declared.gate.NetGate.{NetGate}
use Rattle.net_list.specs.declared.gate.NetGate.TheVariants.{And, Or}
use Rattle.net_block.specs.Parts.{up}

-- the gate of each code that a statement may have: its place in the list is the code
abbrev pub CodeGates : Type 0
CodeGates = List (Option ℕ)

abbrev pub code_gate : CodeGates → ℕ → Option ℕ
code_gate codes c = slice_index_or codes c None

-- gate 0, which is constant, where there is no such gate
abbrev pub gate_or_zero : Option ℕ → ℕ
gate_or_zero (Some g) = g
gate_or_zero None = 0

-- code c alone
abbrev pub only_code : ℕ → ℕ → CodeGates
only_code zero g = Some g ∷ []
only_code (suc c) g = None ∷ only_code c g

abbrev pub without_end : CodeGates → CodeGates
without_end codes = None ∷ drop 1 codes

-- the gates of both for each code
abbrev pub side_by_side : CodeGates → CodeGates → List (Option ℕ × Option ℕ)
side_by_side [] [] = []
side_by_side [] (y ∷ ys) = (None, y) ∷ side_by_side [] ys
side_by_side (x ∷ xs) [] = (x, None) ∷ side_by_side xs []
side_by_side (x ∷ xs) (y ∷ ys) = (x, y) ∷ side_by_side xs ys

-- what was made from gate n on: a wire, or the gates of codes, and the new gates
abbrev pub Made : Type 0 → Type 0
Made A = A × List NetGate

-- where both are there a new `or`, else the one
abbrev pub either : ℕ → Option ℕ → Option ℕ → Made (Option ℕ)
either n (Some a) (Some b) = (Some n, Or (a ∷ b ∷ []) ∷ [])
either n (Some a) None = (Some a, [])
either n None y = (y, [])

-- codes are merged in rising order
abbrev pub merged : ℕ → List (Option ℕ × Option ℕ) → Made CodeGates
merged n [] = ([], [])
merged n (c ∷ cs) =
    let one = either n c.0 c.1 in
    let rest = merged (up (length one.1) n) cs in
    (one.0 ∷ rest.0, one.1 ++ rest.1)

-- a wire with one more code
abbrev pub joined : ℕ → ℕ → Option ℕ → Made ℕ
joined n wire (Some c) = (n, Or (wire ∷ c ∷ []) ∷ [])
joined n wire None = (wire, [])

-- a code of one branch, where the other branch has a code that is no greater, or is dead
abbrev pub let_through : ℕ → Option ℕ → ℕ → Made (Option ℕ)
let_through n (Some c) wire = (Some n, And (c ∷ wire ∷ []) ∷ [])
let_through n None wire = (None, [])

-- the gates of one code of a parallel, and the two wires with it
pub record Joined : Type 0 where
  pub left : ℕ
  pub right : ℕ
  pub code : Option ℕ
  pub gates : List NetGate

abbrev pub joined_code : ℕ → ℕ → ℕ → Option ℕ × Option ℕ → Joined
joined_code n left right c =
    let l = joined n left c.0 in
    let behind_left = up (length l.1) n in
    let r = joined behind_left right c.1 in
    let behind_wires = up (length r.1) behind_left in
    let a = let_through behind_wires c.0 r.0 in
    let behind_first = up (length a.1) behind_wires in
    let b = let_through behind_first c.1 l.0 in
    let one = either (up (length b.1) behind_first) a.0 b.0 in
    record {
      left = l.0;
      right = r.0;
      code = one.0;
      gates = l.1 ++ (r.1 ++ (a.1 ++ (b.1 ++ one.1)));
    }

-- the greater of the codes of two branches, `left` and `right` being 1 where the branch is dead or has a code
-- that is no greater
abbrev pub synchronized : ℕ → ℕ → ℕ → List (Option ℕ × Option ℕ) → Made CodeGates
synchronized n left right [] = ([], [])
synchronized n left right (c ∷ cs) =
    let one = joined_code n left right c in
    let rest = synchronized (up (length one.gates) n) one.left one.right cs in
    (one.code ∷ rest.0, one.gates ++ rest.1)

-- codes 0 and 2 of a trap's body end the trap, and greater ones leave one trap less
abbrev pub trapped : ℕ → CodeGates → Made CodeGates
trapped n codes =
    let end = either n (code_gate codes 0) (code_gate codes 2) in
    (end.0 ∷ code_gate codes 1 ∷ drop 3 codes, end.1)

-- a suspension pauses where its body pauses, and where it is held
abbrev pub suspended : ℕ → ℕ → CodeGates → Made CodeGates
suspended n held codes =
    let pause = either n (Some held) (code_gate codes 1) in
    (code_gate codes 0 ∷ pause.0 ∷ drop 2 codes, pause.1)
