use Rattle.std.proofs.Common.{◌≡◌, refl, ap, subst, ◌∙◌, ◌+◌, length, map, replicate, arith}
use Rattle.host_expr.specs.Environment.{env_of}
use Rattle.hh_term.specs.ProgramView.{kernel_of}
use Rattle.hh_term.specs.Views.{control_in}
use Rattle.status_table.specs.TableView.{cells_in}
use Rattle.status_rounds.specs.Before.{cell_after}
use Rattle.status_rounds.specs.Loops.{loops_round}
use Rattle.status_rounds.specs.Rounds.{Went}
use Rattle.status_rounds.proofs.Declared.{rules_declared, rules_height, loops_height}
use Rattle.status_rounds.proofs.Going.{rows_are, table_fits}
use Rattle.status_rounds.proofs.Settling.{first_shape, first_table, rounds_begin, rounds_go_on, rounds_end}
use Rattle.status_rounds.proofs.Settling.{rounds_settle}
use Rattle.status_rounds.proofs.settle.settle.Goals as goal

pub overflow_add-levels : goal.overflow_add-levels
overflow_add-levels c =
    let K = kernel_of c.args.program.now in
    let h = rules_height K c.args.program.now.rules in
    let l = loops_height K.statement in
    let e = c.loops_round-levels.ensures in
    let t = ap loops_round c.term.ensures.kernel in
    omega (arith, h, l, e, t)

pub opened-requires : goal.opened-requires
opened-requires c =
    let d = rules_declared (kernel_of c.args.program.now) c.args.program.now.rules in
    let e = ap length c.deref.ensures.value in
    let f = c.requires.before in
    omega (arith, d, e, f)

pub rounds-init : goal.rounds-init
rounds-init c =
    let K = kernel_of c.args.program.now in
    let d = rules_declared K c.args.program.now.rules in
    let count : length c.signals-count.result.now ≡ length K.signals = ap length c.signals-count.ensures in
    let levels : c.loops_round-levels.result + 1 ≡ loops_round K.statement + 1 = ap (λ n. n + 1)
    (c.loops_round-levels.ensures ∙ ap loops_round c.term.ensures.kernel) in
    let t = c.in_ok-table.table in
    let N = c.loops_round-levels.result + 1 in
    let S = length c.signals-count.result.now in
    record {
      ready = record {
        args = c.new.ensures.items;
        signals = c.in_ok-opened.ensures.len;
        tallies = c.in_ok-tallies.ensures.len ∙ count;
        fresh = λ s lt. c.in_ok-tallies.ensures.fresh s (omega (arith, lt, d, count));
        raised = c.new-2.ensures.items;
        shape = first_shape t N S c.in_ok-table.ensures ∙ ap (replicate N) count ∙ ap
            (λ n. replicate n (length K.signals)) levels;
      };
      sound = rounds_begin K (control_in c.args.marked.now) c.args.inputs.now c.args.before.now.cells.items
          c.args.program.now.rules c.requires.before c.requires.inputs (env_of c.in_ok-opened.field-0.items)
          (cells_in t)
          (c.in_ok-opened.ensures.env ∙ ap (λ z. env_of (map cell_after z)) c.deref.ensures.value)
          (first_table t N S c.in_ok-table.ensures);
    }

pub rounds-smaller : goal.rounds-smaller
rounds-smaller c =
    let K = kernel_of c.args.program.now in
    let F = env_of c.rounds.pass.cells.signals.items in
    let F' = env_of c.round.new.pass.cells.signals.items in
    let τ = cells_in c.rounds.table in
    let τ' = cells_in c.round.new.table in
    rounds_end K (control_in c.args.marked.now) c.args.inputs.now c.args.before.now.cells.items
    c.args.program.now.rules c.requires.before c.requires.inputs F F' τ τ' c.rounds.invariant.sound
    (subst (λ m. Went K (control_in c.args.marked.now) c.args.inputs.now m F F' τ τ') c.if-branch.true
    c.in_ok-round.ensures.went)

pub rounds-preserved : goal.rounds-preserved
rounds-preserved c =
    let K = kernel_of c.args.program.now in
    record {
      ready = c.in_ok-round.ensures.ready;
      sound = (rounds_go_on K (control_in c.args.marked.now) c.args.inputs.now c.args.before.now.cells.items
          c.args.program.now.rules c.requires.before c.requires.inputs c.in_ok-round.field-0
          (env_of c.rounds.pass.cells.signals.items) (env_of c.round.new.pass.cells.signals.items)
          (cells_in c.rounds.table) (cells_in c.round.new.table) c.rounds.invariant.sound
          c.in_ok-round.ensures.went).sound;
    }

pub returns : goal.returns
returns c =
    let K = kernel_of c.args.program.now in
    let F = env_of c.rounds.pass.cells.signals.items in
    let F' = env_of c.round.new.pass.cells.signals.items in
    let τ = cells_in c.rounds.table in
    let τ' = cells_in c.round.new.table in
    let t = c.round.new.table in
    let b = c.round.new.pass in
    let ready = c.in_ok-round.ensures.ready in
    let r = rounds_settle K (control_in c.args.marked.now) c.args.inputs.now c.args.before.now.cells.items
    c.args.program.now.rules c.requires.before c.requires.inputs F F' τ τ' c.rounds.invariant.sound
    (subst (λ m. Went K (control_in c.args.marked.now) c.args.inputs.now m F F' τ τ') c.if-branch.false
    c.in_ok-round.ensures.went) in
    let rows = rows_are K t b b ready refl in
    record {
      env = r.0;
      step = r.1;
      args = ready.args;
      signals = ready.signals;
      levels = omega (arith, rows);
      fits = table_fits K t b b ready refl c.args.program.now.rules;
    }
