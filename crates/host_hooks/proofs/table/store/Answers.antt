use Rattle.std.proofs.Common.{◌∙◌, ap}
use Rattle.std.specs.String.{string_eq}
use Rattle.indexmap.proofs.CallerLemmas.{insert_entry-new}
use Rattle.host_hooks.proofs.table.store.Goals as goal

pub returns-in-Ok : goal.returns-in-Ok
returns-in-Ok g c = c.in-Ok.ensures.entries ∙ insert_entry-new string_eq c.args.hooks.now c.args.key
    c.args.hook c.requires

pub returns : goal.returns
returns g c = (ap (λ p. p.1) c.in-Err.ensures.value_returned, c.in-Err.ensures.err)
