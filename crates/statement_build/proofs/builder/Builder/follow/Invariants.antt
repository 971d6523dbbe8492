use Rattle.std.proofs.Common.{◌≡◌, ℕ, suc, Option, Some, None, IfSome}
use Rattle.kernel_expand.specs.Numbering.{Numbered, no_traps}
use Rattle.statement_build.specs.declared.chain.Body.{Body}
use Rattle.statement_build.specs.Building.{numbered_of}
use Rattle.statement_build.specs.Levels.{runs_in, body_piece, tail, IsBelow}
use Rattle.statement_build.proofs.builder.Builder.follow.Given as goal

-- how deep modules may still run one another
abbrev left : Option Body → ℕ
left None = 0
left (Some b) = suc b.level.deep

abbrev pub invariant-chain : goal.invariant-chain
invariant-chain l = ((n : Numbered) → tail n (runs_in l.fn.level l.fn.place no_traps (numbered_of l.fn.self))
    ≡ tail n (body_piece l.body no_traps (numbered_of l.self)))
    × IfSome l.body (IsBelow l.fn.level)

abbrev pub decreases-chain : goal.decreases-chain
decreases-chain l = left l.body
