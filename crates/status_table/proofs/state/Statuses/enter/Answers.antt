use Rattle.std.proofs.Common.{refl, ap, ◌∙◌, set}
use Rattle.status_table.proofs.Reading.{read_here}
use Rattle.status_table.proofs.state.Statuses.enter.Goals as goal

pub returns : goal.returns
returns c =
    let pass = c.args.pass.now in
    record {
      signals = ap (set pass.cells.signals.items c.args.signal)
          (c.replace-cell.ensures.after ∙ c.in_ok-inner.ensures);
      args = refl;
      cell = read_here pass.cells.signals.items c.args.signal c.index_mut.result.now c.replace-cell.result
          c.requires.cell c.index_mut.ensures.value c.replace-cell.ensures.value;
      tally = read_here pass.tallies.items c.args.signal c.index_mut-2.result.now c.replace-tally.result
          c.requires.tally c.index_mut-2.ensures.value c.replace-tally.ensures.value;
      fresh = c.replace-tally.new.dest;
      tallies = refl;
      none = λ k w. c.replace-tally.ensures.after ∙ c.new.ensures k w;
      raised = refl;
    }
