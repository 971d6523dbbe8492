-- What is read of an item of a list takes a token: by that loops end.
use Rattle.std.proofs.Common.{ℕ, suc}
use Rattle.grammar.proofs.Bundle.{shorter}
use Rattle.grammar.proofs.Levels.{outer_level}
use Rattle.expression_reader.specs.Terminals.{symbols}
use Rattle.expression_reader.specs.Reference as ep
use Rattle.module_reader.specs.Reference as p
use Rattle.expression_reader.proofs.PartRules.{good_behind_comma}
use Rattle.expression_reader.specs.Reference.{Takes}
use Rattle.module_reader.proofs.DeclarationRules.{good_valued, good_signal, good_interface, good_parameter}
use Rattle.module_reader.proofs.StatementRules.{good_binding, good_behind_par, good_statement, good_block}
use Rattle.module_reader.proofs.ProgramRules.{good_part}

pub sig_takes : Takes (ep.behind_comma p.signal)
sig_takes = shorter (good_behind_comma {v = outer_level symbols} {x = 0} {n = 0} good_signal)

pub decl_takes : Takes (ep.behind_comma p.interface)
decl_takes = shorter (good_behind_comma {v = outer_level symbols} {x = 0} {n = 0} good_interface)

pub param_takes : Takes (ep.behind_comma p.parameter)
param_takes = shorter (good_behind_comma {v = outer_level symbols} {x = 0} {n = 0} good_parameter)

pub valued_takes : Takes (ep.behind_comma p.valued)
valued_takes = shorter (good_behind_comma {v = outer_level symbols} {x = 0} {n = 0} good_valued)

pub binding_takes : Takes (ep.behind_comma p.binding)
binding_takes = shorter (good_behind_comma {v = outer_level symbols} {x = 0} {n = 0} good_binding)

pub par_takes : (room : ℕ) → Takes (p.behind_par (p.block room))
par_takes room = shorter (good_behind_par (good_block room 0))

pub statement_takes : (room : ℕ) → Takes (p.statement (p.block room) room)
statement_takes room = shorter (good_statement room 0 (good_block room 0))

pub top_takes : (room : ℕ) → Takes (p.part (suc room))
top_takes room = shorter (good_part room 0)
