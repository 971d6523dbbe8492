use Rattle.std.proofs.Common.{refl, sym, subst, [], ◌∷◌}
use Rattle.host_expr.specs.Environment.{env_of}
use Rattle.host_expr.specs.Expression.{optional_expression}
use Rattle.hh_term.specs.MustCan.{table_of, emitted, gives}
use Rattle.hh_term.specs.ProgramView.{kernel_of}
use Rattle.status_table.specs.Walking.{index_of, Tallied}
use Rattle.status_table.proofs.walk.emit.Goals as goal

pub returns : goal.returns
returns c =
    let x = emitted (optional_expression c.args.value.now) (env_of c.args.pass.now.cells.signals.items) in
    record {
      signals = refl;
      args = refl;
      tallies = subst (λ b. Tallied (table_of (kernel_of c.args.program.now))
          (gives ((c.args.signal, x) ∷ []) 0 (index_of b)) c.args.pass.now.tallies.items
          c.add_possible.new.tallies.items) (sym c.if-sure.false) (c.in_ok-add_possible.ensures x);
      raised = refl;
    }
