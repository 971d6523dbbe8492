use Rattle.std.proofs.Common.{◌≡◌, map, take}
use Rattle.module_link.specs.Resolved.{resolved_part}
use Rattle.link_resolve.proofs.resolve.resolve_parts.Given as goal

abbrev pub invariant-parts : goal.invariant-parts
invariant-parts l = l.resolved.items ≡ map (resolved_part l.parts) (take l.part-index l.parts)
