-- Which refusal an expansion has, if any: the counted numbers against their limits, and then the loops whose
-- body may end in the reaction in which it starts. (The limits and their order are this project's own; of
-- loops: Berry, The Constructive Semantics of Pure Esterel.)
use Rattle.std.specs.Prelude.{◌≡◌, ℕ, min, Bool, cond, nat_lt, Result, Ok, Err, Option, Some, None, List, []}
use Rattle.std.specs.Prelude.{◌∷◌, ◌++◌, length}
use Rattle.hh_base.specs.declared.value.Pos.{Pos}
use Rattle.hh_term.specs.declared.limits.TheConstants.{SIZE_LIMIT, COPIED_LIMIT, HEIGHT_LIMIT, TRAP_LIMIT}
use Rattle.hh_term.specs.declared.limits.TheConstants.{SITE_LIMIT}
use Rattle.hh_term.specs.declared.program.Program.{Program}
use Rattle.hh_term.specs.Codes.{static_codes}
use Rattle.hh_term.specs.Sizes.{size_of, copied_size_of, height_of, traps_round}
use Rattle.hh_term.specs.Placed.{Placed, Nothing, Pause, Emit, If, Suspend, Seq, Par, Loop, Trap, Exit, Local}
use Rattle.hh_term.specs.Placed.{Async, unplaced}
use Rattle.hh_term.specs.ProgramView.{kernel_of, placed_of}
use Rattle.kernel_expand.specs.declared.fault.ExpandFault.{ExpandFault}
use Rattle.kernel_expand.specs.declared.fault.ExpandFault.TheVariants as fault
use Rattle.kernel_expand.specs.Expansion.{Expansion, kernel_of_expansion}
use Rattle.kernel_expand.specs.Measures.{counted}

-- the position of a loop whose body may end in the reaction in which it starts
abbrev pub if_instant : Bool → Pos → List Pos
if_instant ends at = cond ends (at ∷ []) []

-- the positions of all such loops
abbrev pub instant_loops : Placed → List Pos
instant_loops (Nothing at) = []
instant_loops (Pause at) = []
instant_loops (Emit at s e) = []
instant_loops (If at e p q) = instant_loops p ++ instant_loops q
instant_loops (Suspend at e p) = instant_loops p
instant_loops (Seq at p q) = instant_loops p ++ instant_loops q
instant_loops (Par at p q) = instant_loops p ++ instant_loops q
instant_loops (Loop at p) = if_instant (static_codes (unplaced p) 0) at ++ instant_loops p
instant_loops (Trap at p) = instant_loops p
instant_loops (Exit at k) = []
instant_loops (Local at s p) = instant_loops p
instant_loops (Async at n) = []

abbrev pub earlier : Pos → Option Pos → Pos
earlier p None = p
earlier p (Some q) = record { 0 = min p.0 q.0 }

-- of two, of which either may be missing
abbrev pub both_earlier : Option Pos → Option Pos → Option Pos
both_earlier None q = q
both_earlier (Some p) q = Some (earlier p q)

abbrev pub least : List Pos → Option Pos
least [] = None
least (p ∷ ps) = Some (earlier p (least ps))

-- the refusal of what passes its limit, with its number; else what comes next in the order
abbrev pub past : ℕ → ℕ → (ℕ → ExpandFault) → Option ExpandFault → Option ExpandFault
past limit n refusal others = cond (nat_lt limit n) (Some (refusal (counted n))) others

abbrev pub instant : Option Pos → Option ExpandFault
instant None = None
instant (Some at) = Some (fault.InstantLoop at)

abbrev pub refusal_of : Expansion → Option ExpandFault
refusal_of x =
    let K = kernel_of_expansion x in
    past SIZE_LIMIT (size_of K K.statement) fault.TooLarge
    (past HEIGHT_LIMIT (height_of K.statement) fault.TooDeep
    (past TRAP_LIMIT (traps_round K.statement) fault.TrapsDeep
    (past SITE_LIMIT (length K.sites) fault.ManyAsyncs
    (past COPIED_LIMIT (copied_size_of K K.statement) fault.CopyLarge
    (instant (least (instant_loops x.statement)))))))

-- the program is the expansion, with its positions
pub record IsProgramOf (x : Expansion) (p : Program) : Type 0 where
  pub kernel : kernel_of p ≡ kernel_of_expansion x
  pub statement : (placed_of p).statement ≡ x.statement

-- a program exactly where nothing refuses it, and else the first refusal; want of memory has no cause
abbrev pub Expands : Expansion → Result Program ExpandFault → Type 0
Expands x (Ok p) = (refusal_of x ≡ None) × IsProgramOf x p
Expands x (Err fault.NoMemory) = Unit {0}
Expands x (Err refusal) = refusal_of x ≡ Some refusal
