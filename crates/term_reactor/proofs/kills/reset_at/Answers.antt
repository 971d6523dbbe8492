use Rattle.std.proofs.Common.{◌∙◌, ap, map, List}
use Rattle.hh_term.specs.ProgramView.{kernel_of}
use Rattle.last_walk.specs.declared.touch.Touch.{Touch}
use Rattle.last_walk.specs.LastWalk.{touch_of}
use Rattle.term_machine.specs.ConstructiveMachine.{change_by}
use Rattle.term_reactor.proofs.Resetting.{asks_room, resets}
use Rattle.term_reactor.proofs.kills.reset_at.Goals as goal

pub advance-requires : goal.advance-requires
advance-requires c =
    let K = kernel_of c.args.program.now in
    asks_room K c.args.stand.now c.requires.stands c.deref-2.result.now c.in_ok-instances.instances
    (c.deref-2.ensures.value ∙ c.in_ok-changes.ensures ∙ ap (λ (ts : List Touch). map (change_by K) (map touch_of ts)) c.deref.ensures.value ∙ ap (map (change_by K)) c.in_ok-touches.ensures) c.in_ok-instances.ensures c.last-last.result c.last-last.ensures.last c.last-last.type_inv

pub returns : goal.returns
returns c =
    let K = kernel_of c.args.program.now in
    resets K c.args.stand.now c.requires.stands c.deref-2.result.now c.in_ok-instances.instances
    (c.deref-2.ensures.value ∙ c.in_ok-changes.ensures ∙ ap (λ (ts : List Touch). map (change_by K) (map touch_of ts)) c.deref.ensures.value ∙ ap (map (change_by K)) c.in_ok-touches.ensures) c.in_ok-instances.ensures
    (record { last = c.instances.inside.last; instances = c.instances.inside.running.items }) c.new-kills.result.items c.advance.new.out.items c.from_vec.result c.in_ok-first_before.field-0 c.in_ok-copy_answers.field-0
    (c.instances.view_is ∙ c.in_ok-advance.ensures.ok) c.in_ok-advance.ensures.told c.new-kills.ensures.items c.from_vec.ensures c.in_ok-first_before.ensures c.in_ok-copy_answers.ensures
