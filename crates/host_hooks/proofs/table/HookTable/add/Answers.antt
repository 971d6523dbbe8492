use Rattle.std.proofs.Common.{refl, string_bytes, sym, ap, ◌∙◌}
use Rattle.host_hooks.specs.Promise.{promise_of}
use Rattle.host_hooks.proofs.Tables.{has_name, lacks_name, more_promises, no_value, promises, stored_keeps}
use Rattle.host_hooks.proofs.table.HookTable.add.Goals as goal

pub returns-then-contains_key-clause-fault : goal.returns-then-contains_key-clause-fault
returns-then-contains_key-clause-fault g c = (
  refl,
  has_name string_bytes promise_of c.args.self.now.hooks.entries c.name.result.now c.args.hook.name
      c.args.self.now.keyed c.name.ensures (sym c.if-contains_key.ensures),
)

pub returns-in_default-clause-fault : goal.returns-in_default-clause-fault
returns-in_default-clause-fault g c = (
  refl,
  lacks_name string_bytes promise_of c.args.self.now.hooks.entries c.name.result.now
      c.args.hook.name c.args.self.now.keyed c.name.ensures (sym c.if-contains_key.ensures),
)

pub store-requires : goal.store-requires
store-requires g c =
    no_value string_bytes promise_of c.args.self.now.hooks.entries c.name.result.now (string_bytes
    c.in-Ok.key) (c.name.ensures ∙ sym c.name-2.ensures ∙ sym c.in-Ok.ensures.ok) (sym
    c.if-contains_key.ensures)

pub invariant_of-self : goal.invariant_of-self
invariant_of-self g c =
    let kept = stored_keeps string_bytes promise_of c.args.self.now.hooks.entries c.store.new.hooks.entries
    c.in-Ok.key c.args.hook c.store.result c.store.ensures c.args.self.now.keyed c.args.self.now.differ
    (no_value string_bytes promise_of c.args.self.now.hooks.entries c.name.result.now c.args.hook.name
    c.name.ensures (sym c.if-contains_key.ensures)) (c.in-Ok.ensures.ok ∙ c.name-2.ensures) in
    record { keyed = kept.keyed; differ = kept.differ }

pub returns-in-Ok-store-clause-ok : goal.returns-in-Ok-store-clause-ok
returns-in-Ok-store-clause-ok g c =
    ap (promises string_bytes promise_of) c.in-Ok-store.ensures
    ∙ more_promises string_bytes promise_of c.args.self.now.hooks.entries c.in-Ok.key c.args.hook

pub returns-in-Ok-store-clause-new_name : goal.returns-in-Ok-store-clause-new_name
returns-in-Ok-store-clause-new_name g c =
    lacks_name string_bytes promise_of c.args.self.now.hooks.entries c.name.result.now c.args.hook.name
    c.args.self.now.keyed c.name.ensures (sym c.if-contains_key.ensures)

pub returns-in-Err-clause-err : goal.returns-in-Err-clause-err
returns-in-Err-clause-err g c = ap (promises string_bytes promise_of) c.in-Err.ensures.1

pub returns-in-Err-clause-fault : goal.returns-in-Err-clause-fault
returns-in-Err-clause-fault g c = (
  c.in-Err.ensures.0,
  lacks_name string_bytes promise_of c.args.self.now.hooks.entries c.name.result.now
      c.args.hook.name c.args.self.now.keyed c.name.ensures (sym c.if-contains_key.ensures),
)
