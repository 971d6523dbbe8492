-- What a text is linked to: the tree with its names resolved exactly where it has no fault, and else its
-- first fault. Want of memory is tied to no cause. This project's own.
use Rattle.std.specs.Prelude.{◌≡◌, ℕ, List, Result, Ok, Err}
use Rattle.module_tree.specs.declared.source.Part.{Part}
use Rattle.link_faults.specs.Rows.{Program}
use Rattle.link_faults.specs.FirstFault.{IsFaultless, IsFirstFault}
use Rattle.module_link.specs.Resolved.{resolved_parts}
use Rattle.link_resolve.specs.declared.link.LinkError.{LinkError}
use Rattle.link_resolve.specs.declared.link.LinkError.TheVariants.{Fault, NoMemory}

abbrev pub IsLinkOf : Program → Result (List (Part ℕ)) LinkError → Type 0
IsLinkOf parts (Ok tree) = IsFaultless parts × (tree ≡ resolved_parts parts)
IsLinkOf parts (Err (Fault f)) = IsFirstFault parts f
IsLinkOf parts (Err NoMemory) = Unit {0}
