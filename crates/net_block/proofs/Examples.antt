-- The definition at small programs.
use Rattle.std.specs.Prelude.{ℕ, Bool, true, false, Some, None, List, [], ◌∷◌, codes}
use Rattle.std.proofs.Common.{refl, ◌≡◌}
use Rattle.hh_base.specs.declared.value.Dir.TheVariants as dir
use Rattle.hh_base.specs.declared.value.Kind.TheVariants as kind
use Rattle.hh_base.specs.declared.value.Value.TheVariants as value
use Rattle.hh_base.specs.declared.value.Pos.{Pos}
use Rattle.host_expr.specs.declared.expr.Expr.{Expr, roll-Expr}
use Rattle.host_expr.specs.declared.expr.ExprNode.{roll-ExprNode}
use Rattle.host_expr.specs.declared.expr.ExprNode.TheOpen as node
use Rattle.hh_term.specs.declared.program.SignalDecl.{SignalDecl}
use Rattle.hh_term.specs.Placed.{Placed, PlacedKernel, Nothing, Pause, Emit, If, Suspend, Seq, Par, Loop, Trap, Exit, Local}
use Rattle.net_list.specs.declared.gate.NetGate.{NetGate}
use Rattle.net_list.specs.declared.gate.NetGate.TheVariants as gate
use Rattle.net_list.specs.declared.record.NetRecords.{NetRecords}
use Rattle.net_block.specs.Circuit.{nets_of}

abbrev at : Pos
at = record { 0 = 0 }

abbrev output : SignalDecl
output = record { name = Some (codes "O"); dir = dir.Output; kind = kind.Pure; first = value.Unit; combine = None; pos = record { 0 = 13 } }

abbrev program : List SignalDecl → ℕ → Placed → PlacedKernel
program signals n p = record { signals = signals; interface = n; bodies = []; sites = []; statement = p }

abbrev sig : SignalDecl
sig = record output { dir = dir.Local }

abbrev input : SignalDecl
input = record output { dir = dir.Input }

abbrev now_0 : Expr ℕ
now_0 = roll-Expr ℕ (record { pos = at; node = roll-ExprNode ℕ (node.Now 0) })

abbrev Shown : NetRecords → List NetGate → List (Bool × ℕ) → ℕ → Type 0
Shown N gates registers done = (N.gates ≡ gates) × (N.registers ≡ registers) × (N.done ≡ done)

pub row_21 : (nets_of (program (output ∷ []) 1 (Seq at (Pause at) (Emit at 0 None)))).gates ≡
    gate.Zero ∷ gate.One ∷ gate.Reg 0 ∷ gate.Not 2 ∷ gate.Or (7 ∷ []) ∷ gate.Reg 1 ∷ gate.Reg 2
    ∷ gate.And (6 ∷ 3 ∷ []) ∷ gate.And (6 ∷ 0 ∷ []) ∷ gate.Or (2 ∷ 8 ∷ []) ∷ gate.Not 0
    ∷ gate.And (9 ∷ 10 ∷ []) ∷ gate.Or (6 ∷ 0 ∷ []) ∷ []
row_21 = refl

pub row_005 : Shown (nets_of (program ([]) 0 (Trap at (Exit at 0))))
    (gate.Zero ∷ gate.One ∷ gate.Reg 0 ∷ gate.Not 2 ∷ gate.Or (0 ∷ 2 ∷ []) ∷ [])
    ((true, 0) ∷ []) 2
row_005 = (refl, refl, refl)

pub row_006 : Shown (nets_of (program (input ∷ output ∷ []) 2 (If at now_0 (Emit at 1 None) (Nothing at))))
    (gate.Zero ∷ gate.One ∷ gate.Reg 0 ∷ gate.Not 2 ∷ gate.Input 0 ∷ gate.Or (4 ∷ []) ∷ gate.Reg 1 ∷ gate.Or (10 ∷ []) ∷ gate.Reg 2 ∷ gate.Test 0 ∷ gate.And (2 ∷ 9 ∷ []) ∷ gate.Not 9 ∷ gate.And (2 ∷ 11 ∷ []) ∷ gate.Or (0 ∷ 0 ∷ []) ∷ gate.Or (10 ∷ 12 ∷ []) ∷ [])
    ((true, 0) ∷ (false, 5) ∷ (false, 7) ∷ []) 14
row_006 = (refl, refl, refl)

pub row_007 : Shown (nets_of (program (input ∷ []) 1 (Suspend at now_0 (Pause at))))
    (gate.Zero ∷ gate.One ∷ gate.Reg 0 ∷ gate.Not 2 ∷ gate.Input 0 ∷ gate.Or (4 ∷ []) ∷ gate.Reg 1 ∷ gate.Test 0 ∷ gate.Not 7 ∷ gate.And (3 ∷ 8 ∷ []) ∷ gate.And (3 ∷ 7 ∷ []) ∷ gate.Or (0 ∷ 10 ∷ []) ∷ gate.Reg 2 ∷ gate.And (12 ∷ 9 ∷ []) ∷ gate.And (12 ∷ 11 ∷ []) ∷ gate.Or (2 ∷ 14 ∷ []) ∷ gate.Not 0 ∷ gate.And (15 ∷ 16 ∷ []) ∷ gate.And (12 ∷ 3 ∷ []) ∷ gate.And (12 ∷ 10 ∷ []) ∷ gate.Or (19 ∷ 2 ∷ []) ∷ [])
    ((true, 0) ∷ (false, 5) ∷ (false, 17) ∷ []) 13
row_007 = (refl, refl, refl)

pub row_008 : Shown (nets_of (program ([]) 0 (Par at (Pause at) (Nothing at))))
    (gate.Zero ∷ gate.One ∷ gate.Reg 0 ∷ gate.Not 2 ∷ gate.Reg 1 ∷ gate.And (4 ∷ 3 ∷ []) ∷ gate.And (4 ∷ 0 ∷ []) ∷ gate.Or (2 ∷ 6 ∷ []) ∷ gate.Not 0 ∷ gate.And (7 ∷ 8 ∷ []) ∷ gate.Or (4 ∷ 0 ∷ []) ∷ gate.Not 4 ∷ gate.And (10 ∷ 11 ∷ []) ∷ gate.Not 0 ∷ gate.And (10 ∷ 13 ∷ []) ∷ gate.Or (12 ∷ 5 ∷ []) ∷ gate.Or (14 ∷ 2 ∷ []) ∷ gate.And (5 ∷ 16 ∷ []) ∷ gate.And (2 ∷ 15 ∷ []) ∷ gate.Or (17 ∷ 18 ∷ []) ∷ gate.Or (15 ∷ 2 ∷ []) ∷ gate.And (2 ∷ 16 ∷ []) ∷ [])
    ((true, 0) ∷ (false, 9) ∷ []) 19
row_008 = (refl, refl, refl)

pub row_009 : Shown (nets_of (program ([]) 0 (Loop at (Seq at (Pause at) (Pause at)))))
    (gate.Zero ∷ gate.One ∷ gate.Reg 0 ∷ gate.Not 2 ∷ gate.Or (2 ∷ 12 ∷ []) ∷ gate.Reg 1 ∷ gate.And (5 ∷ 3 ∷ []) ∷ gate.And (5 ∷ 0 ∷ []) ∷ gate.Or (4 ∷ 7 ∷ []) ∷ gate.Not 0 ∷ gate.And (8 ∷ 9 ∷ []) ∷ gate.Reg 2 ∷ gate.And (11 ∷ 3 ∷ []) ∷ gate.And (11 ∷ 0 ∷ []) ∷ gate.Or (6 ∷ 13 ∷ []) ∷ gate.Not 0 ∷ gate.And (14 ∷ 15 ∷ []) ∷ gate.Or (5 ∷ 11 ∷ []) ∷ gate.Or (4 ∷ 6 ∷ []) ∷ [])
    ((true, 0) ∷ (false, 10) ∷ (false, 16) ∷ []) 0
row_009 = (refl, refl, refl)

pub row_010 : Shown (nets_of (program (sig ∷ []) 0 (Local at 0 (Emit at 0 None))))
    (gate.Zero ∷ gate.One ∷ gate.Reg 0 ∷ gate.Not 2 ∷ gate.Or (2 ∷ []) ∷ gate.Reg 1 ∷ gate.And (5 ∷ 0 ∷ []) ∷ gate.And (0 ∷ 0 ∷ 5 ∷ []) ∷ gate.Or (4 ∷ 7 ∷ []) ∷ [])
    ((true, 0) ∷ (false, 8) ∷ []) 2
row_010 = (refl, refl, refl)

pub row_012 : Shown (nets_of (program (input ∷ []) 1 (Trap at (If at now_0 (Exit at 0) (Nothing at)))))
    (gate.Zero ∷ gate.One ∷ gate.Reg 0 ∷ gate.Not 2 ∷ gate.Input 0 ∷ gate.Or (4 ∷ []) ∷ gate.Reg 1 ∷ gate.Or (0 ∷ 9 ∷ []) ∷ gate.Test 0 ∷ gate.And (2 ∷ 8 ∷ []) ∷ gate.Not 8 ∷ gate.And (2 ∷ 10 ∷ []) ∷ gate.Or (0 ∷ 0 ∷ []) ∷ gate.Or (11 ∷ 9 ∷ []) ∷ [])
    ((true, 0) ∷ (false, 5) ∷ []) 13
row_012 = (refl, refl, refl)
