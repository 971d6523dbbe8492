use Rattle.std.proofs.Common.{◌+◌, refl, arith}
use Rattle.reaction_run.specs.declared.apart.TheConstants.{BLOCK}
use Rattle.reaction_run.proofs.Pairs.{none_apart, next_block, all_apart, apart_within}
use Rattle.reaction_run.proofs.apart.all_differ.Goals as goal

pub loop-signals-init : goal.loop-signals-init
loop-signals-init c = (omega arith, none_apart c.args.inputs.now)

pub returns-then-signals-from-le-BLOCK : goal.returns-then-signals-from-le-BLOCK
returns-then-signals-from-le-BLOCK c = (
  (λ yes'. all_apart c.args.signals (c.loop-signals.from + BLOCK) c.args.inputs.now c.requires (let h = c.if-signals-from-le-BLOCK.true in omega arith)
      (next_block c.loop-signals.from (c.loop-signals.from + BLOCK) c.args.inputs.now c.loop-signals.invariant.1 (c.loop-signals-test.ensures.0 refl))),
  λ d. refl,
)

pub loop-signals-preserved : goal.loop-signals-preserved
loop-signals-preserved c =
    (let h = c.if-signals-from-le-BLOCK.false in omega arith, next_block c.loop-signals.from (c.loop-signals.from + BLOCK) c.args.inputs.now c.loop-signals.invariant.1 (c.loop-signals-test.ensures.0 refl))

pub returns : goal.returns
returns c = ((λ yes'. cc), λ d. let h = c.loop-signals-test.ensures.1 (apart_within c.loop-signals.from (c.loop-signals.from + BLOCK) c.args.inputs.now d) in let g = c.loop-signals-test.false in cc)
