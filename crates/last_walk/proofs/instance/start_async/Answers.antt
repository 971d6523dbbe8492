use Rattle.std.proofs.Common.{◌≡◌, sym, subst, ap, ◌∙◌, map, zip, [], Some, true, false}
use Rattle.hh_term.specs.MustCan.{table_of, all_known}
use Rattle.hh_term.specs.ProgramView.{kernel_of}
use Rattle.hh_term.specs.Selection.{AtAsync}
use Rattle.hh_term.specs.Step.{argument_value, async_step}
use Rattle.hh_term.specs.Touches.{Touch}
use Rattle.last_walk.specs.LastWalk.{faults_in, nothing_touched, Did, Noted}
use Rattle.last_walk.proofs.Instances.{noted_touch, started}
use Rattle.last_walk.proofs.instance.start_async.Goals as goal

pub returns : goal.returns
returns c =
    let T = table_of (kernel_of c.args.program.now) in
    let n = c.args.site in
    let cs = c.in_ok-cells.cells.items in
    let b0 = c.args.pass.now in
    let b1 = c.note_faults.new.pass in
    let args : c.in_ok-args.args ≡ map argument_value (zip (T.params n) cs) = c.in_ok-args.ensures ∙ ap
    (λ ks. map argument_value (zip ks c.deref-3.result.now)) c.params_of.ensures ∙ ap
    (λ z. map argument_value (zip (T.params n) z)) c.deref-3.ensures.value in
    let copies : c.in_ok-copy_values.field-0 ≡ map argument_value (zip (T.params n) cs) =
    c.in_ok-copy_values.ensures ∙ c.as_slice.ensures ∙ args in
    subst (λ z. Did T (async_step T n z) (Some c.rests_in.result) b0
    (record b1 { touches = c.push.new.self })) c.in_ok-cells.ensures
    (started T n cs c.rests_in.result b0 b1 (record b1 { touches = c.push.new.self })
    (ap all_known (sym c.deref.ensures.value) ∙ sym c.are_known.ensures ∙ c.if-not-are_known.false)
    (subst (λ z. Noted T [] [] (faults_in z) [] b0 b1) c.deref-2.ensures.value (c.note_faults.ensures T))
    (noted_touch T b1 c.push.new.self _
    (record (nothing_touched n 0) { started = Some (map argument_value (zip (T.params n) cs)); runs_after = true })
    c.in_ok-push.ensures.items
    (ap (λ t. let u : Touch = record t { started = Some c.in_ok-copy_values.field-0; runs_after = true } in u)
    c.of.ensures ∙ ap (λ v. let u : Touch = record (nothing_touched n 0) { started = Some v; runs_after = true } in u)
    copies)) c.rests_in.ensures.code
    (c.rests_in.ensures.next ∙ ap (λ q. Some (AtAsync 0 c.in_ok-args.args q false)) c.new.ensures ∙ ap
    (λ v. Some (AtAsync 0 v [] false)) args))
