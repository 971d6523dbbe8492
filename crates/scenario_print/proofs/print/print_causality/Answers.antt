use Rattle.std.specs.Prelude.{codes}
use Rattle.std.specs.List.{flat_map}
use Rattle.scenario_print.specs.Print.{spaced}
use Rattle.scenario_print.proofs.Growing.{in_line}
use Rattle.scenario_print.proofs.print.print_causality.Goals as goal

pub returns : goal.returns
returns c =
    in_line (codes "-: causality") (flat_map spaced c.args.names.now) c.args.out.now.items
    c.extend_from_slice.new.self.items c.print_names.new.out.items c.push.new.self.items
    c.in_ok-extend_from_slice.ensures.items c.in_ok-print_names.ensures c.in_ok-push.ensures.items
