use Rattle.std.proofs.Common.{◌+◌, List, ◌∙◌, subst}
use Rattle.std.proofs.lemmas.Result.{err_from_is_err_and}
use Rattle.hh_term.specs.declared.program.SignalDecl.{SignalDecl}
use Rattle.scenario_lines.proofs.Meaning.{MeansAs, step, fault_at_line, memory_ran_out}
use Rattle.scenario_lines.proofs.read.read_scenario.Goals as goal

pub returns-in_err-read-clause-only : goal.returns-in_err-read-clause-only
returns-in_err-read-clause-only c = λ lines reading.
    let signals = c.args.signals.now in
    let far = c.lines in
    let why = fault_at_line c.args.mode c.in_ok-index.index signals c.args.text.now far.lines.items far.number
    far.rest.now far.noted c.split_line.result.0.now c.split_line.result.1.now c.in_err-read.field-0.0
    c.in_ok-index.ensures.signals c.split_line.ensures.lines far.invariant c.in_err-read.ensures.refused in
    let p =
    err_from_is_err_and c.from_residual-in_err-read.result c.from_residual-in_err-read.ensures.1 in
    rw p.1 (p.2 ∙ memory_ran_out c.args.mode signals c.args.text.now (far.number + 1) c.in_err-read.field-0.0
    lines why reading)

pub lines-preserved : goal.lines-preserved
lines-preserved c =
    let signals = c.args.signals.now in
    let far = c.lines in
    let line = c.split_line.result.0.now in
    let means = subst (λ (s : List SignalDecl). MeansAs c.args.mode s line c.in_ok-read.read)
    c.in_ok-index.ensures.signals c.in_ok-read.ensures.line in
    rw c.in_ok-push_line.ensures (step c.args.mode signals c.args.text.now far.lines.items far.number
    far.rest.now far.noted line c.split_line.result.1.now c.read_line.new.noted c.in_ok-read.read
    c.split_line.ensures.lines c.split_line.ensures.shorter means c.in_ok-read.ensures.noted far.invariant)
