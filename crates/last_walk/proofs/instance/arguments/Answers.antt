use Rattle.std.proofs.Common.{refl, sym, ap, ◌∙◌, map, []}
use Rattle.host_expr.specs.Environment.{env_of}
use Rattle.host_expr.specs.Evaluation.{eval_of}
use Rattle.host_expr.specs.Expression.{expression_of}
use Rattle.hh_term.specs.ProgramView.{kernel_of}
use Rattle.std.proofs.lemmas.Option.{slice_get_past}
use Rattle.status_table.proofs.Reading.{read_here}
use Rattle.last_walk.proofs.Instances.{args_found, no_args, map_twice}
use Rattle.last_walk.proofs.instance.arguments.Goals as goal

pub returns-in_ok-cells-in-Some : goal.returns-in_ok-cells-in-Some
returns-in_ok-cells-in-Some c =
    let E = env_of c.args.cells.now.signals.items in
    c.in_ok-cells-in-Some.ensures ∙ ap (map (λ e. eval_of (expression_of e) E [])) c.as_slice.ensures ∙ map_twice
    expression_of (λ e. eval_of e E []) c.in-Some.declared.now.args ∙ ap (map (λ e. eval_of e E []))
    (sym (args_found (kernel_of c.args.program.now) c.sites.result.now c.args.site c.in-Some.declared.now
    c.sites.ensures.kernel (read_here c.sites.result.now c.args.site c.in-Some.declared.now c.in-Some.declared.now
    c.in-Some.ensures.lookup.3.0 c.in-Some.ensures.lookup.1 refl)))

pub returns-in-None : goal.returns-in-None
returns-in-None c =
    let E = env_of c.args.cells.now.signals.items in
    c.new.ensures.items ∙ ap (map (λ e. eval_of e E []))
    (sym (no_args (kernel_of c.args.program.now) c.sites.result.now c.args.site c.sites.ensures.kernel
    (slice_get_past c.sites.result.now c.args.site c.in-None.ensures.lookup.3)))
