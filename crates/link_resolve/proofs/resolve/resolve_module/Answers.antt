use Rattle.std.proofs.Common.{◌∙◌}
use Rattle.link_resolve.proofs.ModuleParts.{module_made}
use Rattle.link_resolve.proofs.resolve.resolve_module.Goals as goal

pub returns : goal.returns
returns c = module_made c.args.text.now.parts.now c.args.node.now c.in_ok-places.places c.resolve_block.new.places
    c.in_ok-copy.field-0 c.in_ok-copy_interface.field-0 c.in_ok-block.block c.as_slice.result.now
    c.as_slice.ensures c.in_ok-places.ensures.shows c.in_ok-places.ensures.before c.in_ok-block.ensures
    c.in_ok-copy.ensures (c.in_ok-copy_interface.ensures ∙ c.as_slice-2.ensures)
