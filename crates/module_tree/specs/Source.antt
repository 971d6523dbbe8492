-- The source trees that some module text has, but for positions, said as tests on the tree. This project's
-- own.
use Rattle.std.specs.Prelude.{ℕ, ◌&&◌, Bool, true, false, List, nat_le}
use Rattle.std.specs.List.{list_all, list_any}
use Rattle.module_tree.specs.declared.limits.TheConstants.{OPEN_LIMIT}
use Rattle.module_tree.specs.declared.source.Part.{Part}
use Rattle.module_tree.specs.declared.source.Part.TheVariants as top
use Rattle.module_tree.specs.SourceForms.{fits_part}
use Rattle.module_tree.specs.SourceNesting.{nesting_of_part}

abbrev pub is_module : Part (List ℕ) → Bool
is_module (top.Module m) = true
is_module _ = false

-- no more `(` and `{` are open at once than may be
abbrev pub is_shallow : Part (List ℕ) → Bool
is_shallow t = nat_le (nesting_of_part t) OPEN_LIMIT

abbrev pub is_source : List (Part (List ℕ)) → Bool
is_source parts = list_any is_module parts && list_all fits_part parts && list_all is_shallow parts
