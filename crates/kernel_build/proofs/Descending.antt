-- How much is left to walk: a run goes to a tree of any depth, and one level down.
use Rattle.std.proofs.Common.{◌≡◌, ℕ, ◌+◌, ◌*◌, ◌<◌, ◌≤◌, max, Option, Some, None, ap, arith, mul_comm}
use Rattle.std.specs.Prelude.{IfSome}
use Rattle.std.proofs.lemmas.Nat.{mul-add-lt}
use Rattle.module_tree.specs.declared.source.BlockNode.{size-BlockNode}
use Rattle.module_tree.specs.declared.source.Statement.{size-Statement}
use Rattle.module_tree.specs.declared.source.Statement.TheVariants as v
use Rattle.statement_build.specs.declared.chain.Body.{Body}
use Rattle.statement_build.specs.declared.chain.Level.{Level}
use Rattle.statement_build.specs.declared.steps.Step.{Step}
use Rattle.statement_build.specs.declared.steps.Step.TheVariants as step
use Rattle.statement_build.specs.Levels.{modules_in, largest, IsBelow}
use Rattle.statement_build.specs.Steps.{IsWithin}

-- below a tree of this depth
abbrev pub left : Level → ℕ → ℕ
left l depth = 8 * (l.deep * (1 + largest (modules_in l)) + depth)

abbrev pub left_of : Option Body → ℕ
left_of None = 0
left_of (Some b) = left b.level (size-BlockNode ℕ b.block.now) + 2

-- the depth of what a step leaves
abbrev pub depth_of : Step → ℕ
depth_of (step.Done t) = 0
depth_of (step.Inside w b) = size-BlockNode ℕ b.now
depth_of (step.Choice e p q) = max (size-BlockNode ℕ p.now) (size-BlockNode ℕ q.now)
depth_of (step.Branches bs) = size-Statement ℕ (v.Fork bs.now)
depth_of (step.Run m bs) = 0

step_within : (s : Step) (depth : ℕ) → IsWithin depth s → depth_of s ≤ depth
step_within (step.Done t) depth h = omega arith
step_within (step.Inside w b) depth h = omega (arith, h)
step_within (step.Choice e p q) depth h = omega (arith, h.0, h.1)
step_within (step.Branches bs) depth h = h
step_within (step.Run m bs) depth h = omega arith

-- what a statement leaves is less than its node
pub step_goes_down : (l : Level) (s : Step) (what node : ℕ) → IsWithin what s → what < node
    → left l (depth_of s) + 4 < left l node
step_goes_down l s what node h less = let most = step_within s what h in omega (arith, most, less)

one_down : (d e w s : ℕ) → d < e → s < w → d * w + s < e * w
one_down d e w s less lower = omega (arith, mul-add-lt d w s e less lower, mul_comm w e)

-- the body that a run goes to
pub run_goes_down : (l : Level) (b : Body) → IsBelow l b
    → left b.level (size-BlockNode ℕ b.block.now) + 2 < left l 0 + 3
run_goes_down l b below =
    let w = 1 + largest (modules_in l) in
    let same : largest (modules_in b.level) ≡ largest (modules_in l) = ap largest below.modules in
    let equal : b.level.deep * (1 + largest (modules_in b.level)) ≡ b.level.deep * w =
    ap (λ z. b.level.deep * (1 + z)) same in
    let s = size-BlockNode ℕ b.block.now in
    let down = one_down b.level.deep l.deep w s below.deep (omega (arith, below.size)) in
    omega (arith, equal, down)

pub found_goes_down : (l : Level) (b : Option Body) → IfSome b (IsBelow l) → left_of b < left l 0 + 3
found_goes_down l None below = omega arith
found_goes_down l (Some b) below = run_goes_down l b below
