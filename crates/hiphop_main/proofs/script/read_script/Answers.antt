use Rattle.std.proofs.Common.{subst, arith, Err}
use Rattle.std.proofs.lemmas.Result.{err_from_is_err_and}
use Rattle.hh_term.specs.ProgramView.{kernel_of}
use Rattle.host_hooks.specs.Stored.{promises_of}
use Rattle.module_compile.specs.Compiling.{CompilesTo}
use Rattle.hiphop_main.specs.Scripts.{Compiled, IsOnlyScenario, Lined}
use Rattle.hiphop_main.proofs.Scripts.{only_input, module_refused, hook_refused, line_refused}
use Rattle.hiphop_main.proofs.script.read_script.Goals as goal

pub compile_module-requires : goal.compile_module-requires
compile_module-requires g c = let few = c.requires in let front = c.split.ensures.front in omega arith

pub returns-in_err-program-clause-refused : goal.returns-in_err-program-clause-refused
returns-in_err-program-clause-refused g c =
    let p = err_from_is_err_and c.from_residual.result c.from_residual.ensures.1 in
    rw (p.1, p.2)
    (module_refused (promises_of c.args.hooks.now) c.args.input.now c.in_err-program.field-0.0
    (subst (λ t. Compiled t (Err c.in_err-program.field-0.0)) c.split.ensures.modules c.in_err-program.ensures))

pub returns-in_err-check_hooks-clause-refused : goal.returns-in_err-check_hooks-clause-refused
returns-in_err-check_hooks-clause-refused g c =
    let p = err_from_is_err_and c.from_residual-in_err-check_hooks.result c.from_residual-in_err-check_hooks.ensures.1 in
    rw (p.1, p.2)
    (hook_refused (promises_of c.args.hooks.now) c.args.input.now c.in_ok-program.program c.in_err-check_hooks.field-0.0
    (subst (λ t. CompilesTo t c.in_ok-program.program) c.split.ensures.modules c.in_ok-program.ensures) c.in_err-check_hooks.ensures)

pub returns-in_err-lines-clause-refused : goal.returns-in_err-lines-clause-refused
returns-in_err-lines-clause-refused g c =
    let p = err_from_is_err_and c.from_residual-in_err-lines.result c.from_residual-in_err-lines.ensures.1 in
    rw (p.1, p.2)
    (line_refused (promises_of c.args.hooks.now) c.args.input.now c.in_ok-program.program c.in_err-lines.field-0.0
    (subst (λ t. CompilesTo t c.in_ok-program.program) c.split.ensures.modules c.in_ok-program.ensures) c.in_ok-check_hooks.ensures
    (subst (λ t. Lined (kernel_of c.in_ok-program.program).signals t (Err c.in_err-lines.field-0.0)) c.split.ensures.scenario c.in_err-lines.ensures.lines))

pub returns-clause-found : goal.returns-clause-found
returns-clause-found g c =
    only_input (promises_of c.args.hooks.now) c.args.input.now c.in_ok-program.program c.in_ok-lines.lines.items
    (subst (λ t. CompilesTo t c.in_ok-program.program) c.split.ensures.modules c.in_ok-program.ensures) c.in_ok-check_hooks.ensures
    (subst (λ t. IsOnlyScenario (kernel_of c.in_ok-program.program).signals t c.in_ok-lines.lines.items) c.split.ensures.scenario c.in_ok-lines.ensures.lines)
