-- The refusals by measured sizes. (The limits and their order are this project's own.)
use Rattle.std.specs.Prelude.{Option}
use Rattle.hh_term.specs.declared.limits.TheConstants.{SIZE_LIMIT, COPIED_LIMIT, HEIGHT_LIMIT, TRAP_LIMIT}
use Rattle.hh_term.specs.declared.limits.TheConstants.{SITE_LIMIT}
use Rattle.kernel_expand.specs.declared.fault.ExpandFault.{ExpandFault}
use Rattle.kernel_expand.specs.declared.fault.ExpandFault.TheVariants as fault
use Rattle.kernel_expand.specs.declared.sizes.Sizes.{Sizes}
use Rattle.kernel_expand.specs.Refusals.{past}

-- the refusal by measured sizes; else what comes behind them
abbrev pub refusal_of_sizes : Sizes → Option ExpandFault → Option ExpandFault
refusal_of_sizes s others =
    past SIZE_LIMIT s.size fault.TooLarge (past HEIGHT_LIMIT s.height fault.TooDeep
    (past TRAP_LIMIT s.traps fault.TrapsDeep (past SITE_LIMIT s.sites fault.ManyAsyncs
    (past COPIED_LIMIT s.copied fault.CopyLarge others))))
