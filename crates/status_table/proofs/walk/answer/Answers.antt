use Rattle.std.proofs.Common.{refl, sym, ◌∙◌}
use Rattle.std.proofs.lemmas.Option.{slice_get_within}
use Rattle.hh_term.specs.MustCan.{table_of}
use Rattle.hh_term.specs.ProgramView.{kernel_of}
use Rattle.status_table.proofs.Adding.{possible_first}
use Rattle.status_table.proofs.walk.answer.Goals as goal

pub returns-in_ok-add_possible-in-Some-Some : goal.returns-in_ok-add_possible-in-Some-Some
returns-in_ok-add_possible-in-Some-Some c =
    λ k.
    let queue = c.args.queue.now in
    record {
      signals = refl;
      args = refl;
      tallies = possible_first (table_of (kernel_of c.args.program.now)) c.in-Some-Some.signal _ queue k
          c.args.sure c.args.pass.now.tallies.items c.add_possible.new.tallies.items c.if-sure.false
          (sym c.target_of.ensures ∙ c.in-Some-Some.is-1)
          (slice_get_within queue 0 c.in-Some-Some.first.now (sym c.in-Some-Some.ensures))
          c.in_ok-add_possible-in-Some-Some.ensures;
      raised = refl;
    }
