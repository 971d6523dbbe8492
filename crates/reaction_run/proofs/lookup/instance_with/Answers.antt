use Rattle.std.proofs.Common.{sym, ◌∙◌, ap, arith}
use Rattle.std.specs.Option.{option_copied}
use Rattle.reaction_run.proofs.Halving.{at_first, go_up, go_down, go_past, not_held, held_there, past_last}
use Rattle.reaction_run.proofs.lookup.instance_with.Goals as goal

pub loop-low-init : goal.loop-low-init
loop-low-init c = at_first c.args.instances.now.instances c.args.instances.now.last c.args.id c.last.ensures.rising

pub returns-in-Some : goal.returns-in-Some
returns-in-Some c = sym (held_there c.args.instances.now.instances c.args.instances.now.last c.args.id _ c.in-Some.instance.now c.last.ensures.rising (sym c.in-Some.ensures) c.if-instance-id.true)

pub loop-low-preserved-then-instance-id-2 : goal.loop-low-preserved-then-instance-id-2
loop-low-preserved-then-instance-id-2 c =
    go_up c.args.instances.now.instances c.args.instances.now.last c.args.id c.loop-low.low c.loop-low.high _ c.in-Some.instance.now c.last.ensures.rising c.loop-low.invariant (sym c.in-Some.ensures) c.if-instance-id-2.true

pub returns : goal.returns
returns c = sym (not_held c.args.instances.now.instances c.args.id c.loop-low.low c.loop-low.high c.loop-low.invariant (let h = c.loop-low-test.false in omega arith))

pub returns-then-id-last : goal.returns-then-id-last
returns-then-id-last c =
    let h = c.if-id-last.true in
    let last = c.last.ensures.last in
    sym (past_last c.args.instances.now.instances c.args.instances.now.last c.args.id c.last.ensures.rising (omega arith))

pub loop-low-preserved-in_default : goal.loop-low-preserved-in_default
loop-low-preserved-in_default c =
    go_down c.args.instances.now.instances c.args.instances.now.last c.args.id c.loop-low.low c.loop-low.high _ c.in-Some.instance.now c.last.ensures.rising c.loop-low.invariant (sym c.in-Some.ensures) c.if-instance-id.false c.if-instance-id-2.false

pub loop-low-preserved : goal.loop-low-preserved
loop-low-preserved c = go_past c.args.instances.now.instances c.args.id c.loop-low.low c.loop-low.high _ c.loop-low.invariant (sym c.at.ensures ∙ ap option_copied c.in_default.is)
