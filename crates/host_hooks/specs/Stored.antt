-- A table of hooks as contracts see it: their promises, in the order in which they were added. (This
-- project's own.)
use Rattle.std.specs.Prelude.{List, map}
use Rattle.std.specs.HashMap.{values}
use Rattle.host_hooks.specs.declared.table.HookTable.{HookTable}
use Rattle.host_hooks.specs.Promise.{Promise, promise_of}

module _ {Stored : Type 0} {Value : Stored → Type 0} {called : _} where
  abbrev pub promises_of : HookTable Stored Value called → List Promise
  promises_of t = map promise_of (values t.hooks)
