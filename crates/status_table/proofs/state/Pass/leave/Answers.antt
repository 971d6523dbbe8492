use Rattle.std.proofs.Common.{◌≡◌, refl, sym, ap, ◌∙◌, set, inl, inr, true, false}
use Rattle.status_table.specs.declared.tally.Known.{Known}
use Rattle.status_table.proofs.Reading.{read_here}
use Rattle.status_table.proofs.state.Pass.leave.Goals as goal

pub returns-in_ok-push : goal.returns-in_ok-push
returns-in_ok-push c =
    let pass = c.args.self.now in
    record {
      signals = ap (set pass.cells.signals.items c.args.signal) c.replace-cell.ensures.after;
      args = refl;
      tallies = ap (set pass.tallies.items c.args.signal) c.replace-tally.ensures.after;
      cell = c.replace-cell.result;
      here = read_here pass.cells.signals.items c.args.signal c.index_mut.result.now c.replace-cell.result
          c.requires.cell c.index_mut.ensures.value c.replace-cell.ensures.value;
      tally = c.replace-tally.result;
      counted = read_here pass.tallies.items c.args.signal c.index_mut-2.result.now c.replace-tally.result
          c.requires.tally c.index_mut-2.ensures.value c.replace-tally.ensures.value;
      raised = λ w m d e. inr (
        _,
        c.in_ok-push.ensures.items,
        refl,
        refl,
        c.solved-known.ensures.status w m d e,
        c.solved-known.ensures.value w m d e,
        λ st va.
            let known = c.solved-known.result in
            let cell = c.replace-cell.result in
            let same : known ≡ record { status = cell.status; value = cell.value } = ap
            (λ z. let k : Known = record { status = z; value = known.value } in k) st ∙ ap
            (λ z. let k : Known = record { status = cell.status; value = z } in k) va in
            let no : false ≡ true = c.if-not-is_same.ensures.1 same in
            cc,
      );
    }

pub returns-else-not-is_same : goal.returns-else-not-is_same
returns-else-not-is_same c =
    let pass = c.args.self.now in
    let same = c.if-not-is_same.ensures.0 refl in
    record {
      signals = ap (set pass.cells.signals.items c.args.signal) c.replace-cell.ensures.after;
      args = refl;
      tallies = ap (set pass.tallies.items c.args.signal) c.replace-tally.ensures.after;
      cell = c.replace-cell.result;
      here = read_here pass.cells.signals.items c.args.signal c.index_mut.result.now c.replace-cell.result
          c.requires.cell c.index_mut.ensures.value c.replace-cell.ensures.value;
      tally = c.replace-tally.result;
      counted = read_here pass.tallies.items c.args.signal c.index_mut-2.result.now c.replace-tally.result
          c.requires.tally c.index_mut-2.ensures.value c.replace-tally.ensures.value;
      raised = λ w m d e. inl (
        refl,
        sym (c.solved-known.ensures.status w m d e) ∙ ap (λ k. k.status) same,
        sym
            (c.solved-known.ensures.value w m d e) ∙ ap (λ k. k.value) same,
      );
    }
