use Rattle.std.proofs.Common.{sym, ap, ◌∙◌}
use Rattle.kernel_expand.specs.Numbering.{no_traps}
use Rattle.statement_build.specs.Building.{numbered_of}
use Rattle.statement_build.specs.Levels.{runs_in, tail}
use Rattle.statement_build.proofs.Chained.{below_again}
use Rattle.statement_build.proofs.builder.Builder.follow.Goals as goal

pub chain-preserved : goal.chain-preserved
chain-preserved c =
    let place = c.in-Some.passage.place in
    let level = c.in-Some.level in (
      λ n. c.chain.invariant.0 n
          ∙ ap (tail n) (c.in-Some.ensures.means no_traps (numbered_of c.chain.self) (record { 0 = 0 }))
          ∙ ap (λ z. tail n (runs_in level place no_traps z)) (sym c.in_ok-enter.ensures.after)
          ∙ ap (tail n) (c.body_of-body-in-Some.ensures.means no_traps (numbered_of c.enter.new.self)),
      below_again c.args.level level c.chain.body c.body_of-body-in-Some.result c.in-Some.ensures.level
          c.chain.invariant.1 c.body_of-body-in-Some.ensures.less,
    )
