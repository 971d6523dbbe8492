-- How far a method that reads is from the next bracket, by which recursion ends.
use Rattle.std.proofs.Common.{ℕ}
use Rattle.expression_reader.specs.declared.operator.Grouping.{Grouping}
use Rattle.expression_reader.specs.declared.operator.Grouping.TheVariants as grouping

-- the operand of a level; its term is one above, and its chain two
abbrev pub rank : Grouping → ℕ
rank grouping.Product = 4
rank grouping.Sum = 7
rank grouping.Both = 12
rank grouping.Either = 15
