use Rattle.std.proofs.Common.{◌+◌, List, Bool, refl, sym, subst, drop, arith}
use Rattle.reaction_run.specs.declared.apart.TheConstants.{BLOCK}
use Rattle.reaction_run.proofs.Pairs.{Decides, none_met, goes_on, passes, stops, through}
use Rattle.reaction_run.proofs.apart.differ_within.Goals.{then-signal-from+then-signal-from-lt-BLOCK+else-seen-signal, else-signal-from, else-signal-from-via-then-signal-from+else-signal-from-lt-BLOCK, else-signal-from-via-else-signal-from}
use Rattle.reaction_run.proofs.apart.differ_within.Goals as goal

pub loop-input-init : goal.loop-input-init
loop-input-init c = none_met c.args.from BLOCK c.args.inputs.now

pub returns-then-seen-signal : goal.returns-then-seen-signal
returns-then-seen-signal c =
    ((λ yes'. cc), λ a. absurd (stops c.args.from (c.args.from + BLOCK) BLOCK c.loop-input.seen c.input-item.result c.loop-input.input-index c.args.inputs.now c.loop-input-test.true c.input-item.is c.if-signal-from.true c.if-signal-from-lt-BLOCK.true c.if-seen-signal.true c.loop-input.invariant a))

pub loop-input-preserved : goal.loop-input-preserved
loop-input-preserved c =
    elim c.if-signal-from.branch [
      | then-signal-from+then-signal-from-lt-BLOCK+else-seen-signal w ↦ subst (λ (seen : List Bool). Decides c.args.from (c.args.from + BLOCK) BLOCK seen (drop (c.loop-input.input-index + 1) c.args.inputs.now) c.args.inputs.now) (sym w.seen-is)
          (goes_on c.args.from (c.args.from + BLOCK) BLOCK c.loop-input.seen c.input-item.result c.loop-input.input-index c.args.inputs.now c.loop-input-test.true c.input-item.is w.if-signal-from.true w.if-signal-from-lt-BLOCK.true w.if-seen-signal.false c.loop-input.invariant)
      | else-signal-from w ↦ subst (λ (seen : List Bool). Decides c.args.from (c.args.from + BLOCK) BLOCK seen (drop (c.loop-input.input-index + 1) c.args.inputs.now) c.args.inputs.now) (sym w.seen-is)
          (passes c.args.from (c.args.from + BLOCK) BLOCK c.loop-input.seen c.input-item.result c.loop-input.input-index c.args.inputs.now c.loop-input-test.true c.input-item.is
          (elim w.else-signal-from.branch [
            | else-signal-from-via-then-signal-from+else-signal-from-lt-BLOCK w' ↦ λ low within. let h = w'.if-signal-from-lt-BLOCK.false in omega arith
            | else-signal-from-via-else-signal-from w' ↦ λ low within. let h = w'.if-signal-from.false in omega arith
          ]) c.loop-input.invariant)
    ]

pub returns : goal.returns
returns c = ((λ yes'. through c.args.from (c.args.from + BLOCK) BLOCK c.loop-input.seen c.loop-input.input-index c.args.inputs.now (let h = c.loop-input-test.false in omega arith) c.loop-input.invariant), λ a. refl)
