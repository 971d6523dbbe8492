use Rattle.std.proofs.Common.{map, take}
use Rattle.link_faults.specs.NameTables.{IsTable}
use Rattle.link_faults.proofs.table.table_of.Given as goal

abbrev pub invariant-items : goal.invariant-items
invariant-items g l = IsTable l.fn.twice (map g.T.Declares.name_at (take l.at l.items)) l.table
