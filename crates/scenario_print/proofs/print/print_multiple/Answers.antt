use Rattle.std.specs.Prelude.{codes}
use Rattle.scenario_print.specs.Print.{spaced}
use Rattle.scenario_print.proofs.Growing.{in_line}
use Rattle.scenario_print.proofs.print.print_multiple.Goals as goal

pub returns : goal.returns
returns c =
    in_line (codes "-: multiple") (spaced c.args.name.now) c.args.out.now.items
    c.extend_from_slice.new.self.items c.print_name.new.out.items c.push.new.self.items
    c.in_ok-extend_from_slice.ensures.items c.in_ok-print_name.ensures c.in_ok-push.ensures.items
