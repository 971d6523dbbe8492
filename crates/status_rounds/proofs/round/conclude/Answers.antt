use Rattle.std.proofs.Common.{◌≡◌, refl, sym, ◌∙◌, false, Some, slice_get}
use Rattle.std.proofs.lemmas.Option.{get_or_from_slice_get}
use Rattle.host_expr.specs.Environment.{env_of, unsolved}
use Rattle.hh_base.specs.declared.value.Value.TheVariants as value
use Rattle.hh_term.specs.MustCan.{table_of}
use Rattle.hh_term.specs.ProgramView.{kernel_of}
use Rattle.status_table.proofs.Reading.{read_here}
use Rattle.status_rounds.proofs.Concluding.{not_true, not_false, known_cell, cell_known, solved_cell}
use Rattle.status_rounds.proofs.Concluding.{some_tally}
use Rattle.status_rounds.proofs.round.conclude.Goals as goal

pub returns : goal.returns
returns c =
    let T = table_of (kernel_of c.args.program.now) in
    let s = c.args.signal in
    let pass = c.args.pass.now in
    let cells = pass.cells.signals.items in
    let was = c.index_mut-cell.result.now in
    let known = c.solved-known.result in
    let here : env_of cells s ≡ was = get_or_from_slice_get cells s was (unsolved false value.Unit)
    (read_here cells s was was c.requires.cell c.index_mut-cell.ensures.value refl) in
    let tally : slice_get pass.tallies.items s ≡ Some c.replace-tally.result = read_here pass.tallies.items s
    c.index_mut.result.now c.replace-tally.result c.requires.tally c.index_mut.ensures.value
    c.replace-tally.ensures.value in
    record {
      args = refl;
      raised = refl;
      cell = record { status = known.status; value = known.value; pre = was.pre; preval = was.preval };
      signals = refl;
      fresh = c.replace-tally.new.dest;
      tallies = refl;
      none = λ k w. c.replace-tally.ensures.after ∙ c.new.ensures k w;
      solved = λ t m d e q. solved_cell T s (env_of cells s) was known m d c.kind_of.result
          c.in_ok-copy.field-0 here c.kind_of.ensures c.in_ok-copy.ensures
          (c.solved-known.ensures.status (T.word s) m d) (c.solved-known.ensures.value (T.word s) m d)
          (some_tally c.replace-tally.result t (sym tally ∙ e) ∙ q);
      same = λ e. known_cell was known c.replace.result c.replace.ensures.value
          (c.is_same-changed.ensures.0 (not_false c.is_same-changed.result e)) ∙ sym here;
      other = λ e q. not_true c.is_same-changed.result e
          (c.is_same-changed.ensures.1 (cell_known was known c.replace.result c.replace.ensures.value
          (q ∙ here)));
    }
