use Rattle.std.proofs.Common.{refl, string_bytes, sym}
use Rattle.host_hooks.specs.Promise.{promise_of}
use Rattle.host_hooks.proofs.Tables.{finds, lacks, misses}
use Rattle.host_hooks.proofs.table.HookTable.find.Goals as goal

pub returns-in_err-hook : goal.returns-in_err-hook
returns-in_err-hook g c =
    rw c.from_residual.ensures
    (lacks string_bytes promise_of c.args.self.now.hooks.entries c.args.body.now c.as_str.result.now
    c.args.self.now.keyed c.as_str.ensures.text (sym c.in_err-hook.ensures.value))

pub returns-then-meets : goal.returns-then-meets
returns-then-meets g c =
    let kinds = c.if-meets.ensures.0 refl in
    finds string_bytes promise_of c.args.self.now.hooks.entries c.args.body.now c.as_str.result.now
    c.in_ok-hook.hook.now c.args.self.now.keyed c.as_str.ensures.text (sym c.in_ok-hook.ensures.value)
    kinds.0 kinds.1

pub returns-else-meets : goal.returns-else-meets
returns-else-meets g c =
    misses string_bytes promise_of c.args.self.now.hooks.entries c.args.body.now c.as_str.result.now
    c.in_ok-hook.hook.now c.args.self.now.keyed c.args.self.now.differ c.as_str.ensures.text (sym
    c.in_ok-hook.ensures.value) (λ kinds. absurd (let yes = c.if-meets.ensures.1 kinds in cc))
