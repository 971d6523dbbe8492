-- What an index of names shows: the declarations whose signals it finds. (This project's own.)
use Rattle.std.specs.Prelude.{List}
use Rattle.hh_term.specs.declared.program.SignalDecl.{SignalDecl}
use Rattle.scenario_lines.specs.declared.interface.NameIndex.TheInside.{Inside}
use Rattle.scenario_lines.specs.Index.{IsIndex}
use Rattle.scenario_lines.specs.Interface.{HasWords}

abbrev pub signals_of : Inside → List SignalDecl
signals_of i = i.signals.now

-- the numbers found are those of the signals that the environment gives, whose names are words
pub record IsIndexed (i : Inside) : Type 0 where
  pub index : IsIndex i.signals.now i.numbers
  pub words : HasWords i.signals.now
