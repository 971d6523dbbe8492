use Rattle.std.proofs.Common.{◌≡◌, ◌∙◌, ◌++◌, ◌-◌, ap, arith}
use Rattle.net_block.specs.Codes.{only_code}
use Rattle.net_block.proofs.Rowing.{only_code_step, only_code_so_far}
use Rattle.net_block.proofs.rows.only_code.Goals as goal

pub loop-level-init : goal.loop-level-init
loop-level-init c =
    let all : c.args.code - 0 ≡ c.args.code = omega arith in
    ap (λ z. z ++ only_code (c.args.code - 0) c.args.go) c.new-codes.ensures.items ∙ ap (λ z. only_code z c.args.go) all

pub loop-level-preserved : goal.loop-level-preserved
loop-level-preserved c =
    only_code_step c.args.code c.loop-level.level _ c.args.go c.loop-level.codes.items c.push.new.self.items (omega arith)
    (omega arith) c.in_ok-push.ensures.items c.loop-level.invariant

pub returns : goal.returns
returns c =
    c.in_ok-push-2.ensures.items
    ∙ only_code_so_far c.args.code c.loop-level.level c.args.go c.loop-level.codes.items (omega arith) c.loop-level.invariant
    (omega arith)
