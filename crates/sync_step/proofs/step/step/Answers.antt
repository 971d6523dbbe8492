use Rattle.std.proofs.Common.{◌≡◌, sym, ap, subst, ◌∙◌, length, [], arith}
use Rattle.std.proofs.lemmas.List.{length-map}
use Rattle.host_expr.specs.Environment.{env_of}
use Rattle.hh_term.specs.MustCan.{table_of}
use Rattle.hh_term.specs.ProgramView.{kernel_of}
use Rattle.hh_term.specs.Reaction.{outers_from, undecided}
use Rattle.hh_term.specs.Views.{control_in}
use Rattle.last_walk.specs.Whole.{Runs}
use Rattle.status_rounds.specs.Before.{last_at, lasts_of}
use Rattle.status_rounds.specs.Given.{given_all}
use Rattle.status_table.specs.TableView.{cells_in}
use Rattle.status_table.specs.Walking.{Fits}
use Rattle.status_table.specs.WholeProgram.{program_flat_step}
use Rattle.sync_step.specs.Reacting.{Concluded, JudgedAll}
use Rattle.sync_step.proofs.Answering.{kept, none_left, opened, told_open, told_stepped}
use Rattle.sync_step.proofs.Named.{rules_declared}
use Rattle.sync_step.proofs.step.step.Goals as goal

pub walk-requires-clause-fits : goal.walk-requires-clause-fits
walk-requires-clause-fits c =
    let K = kernel_of c.args.program.now in
    let s = c.in_ok-settled.settled in
    let o = opened (table_of K) s.cells (given_all c.args.inputs.now) c.in_ok-pass.pass c.give.new.pass
    c.in_ok-pass.ensures (c.in_ok-give.ensures (table_of K)) in
    subst (λ n. Fits n (length s.table.rows.items) 0 K.statement) (sym (ap length o.signals))
    c.in_ok-settled.ensures.fits

pub walk-requires-clause-emitted : goal.walk-requires-clause-emitted
walk-requires-clause-emitted c =
    let K = kernel_of c.args.program.now in
    let o = opened (table_of K) c.in_ok-settled.settled.cells (given_all c.args.inputs.now) c.in_ok-pass.pass
    c.give.new.pass c.in_ok-pass.ensures (c.in_ok-give.ensures (table_of K)) in
    o.emitted ∙ sym (ap length o.signals)

pub walk-requires-clause-args : goal.walk-requires-clause-args
walk-requires-clause-args c =
    let K = kernel_of c.args.program.now in
    let o = opened (table_of K) c.in_ok-settled.settled.cells (given_all c.args.inputs.now) c.in_ok-pass.pass
    c.give.new.pass c.in_ok-pass.ensures (c.in_ok-give.ensures (table_of K)) in
    o.args ∙ c.in_ok-settled.ensures.args

pub walk-requires-clause-declared : goal.walk-requires-clause-declared
walk-requires-clause-declared c =
    let K = kernel_of c.args.program.now in
    let o = opened (table_of K) c.in_ok-settled.settled.cells (given_all c.args.inputs.now) c.in_ok-pass.pass
    c.give.new.pass c.in_ok-pass.ensures (c.in_ok-give.ensures (table_of K)) in
    let e = ap length o.signals ∙ c.in_ok-settled.ensures.signals in
    omega (arith, e)

pub returns-in_default : goal.returns-in_default
returns-in_default c =
    let K = kernel_of c.args.program.now in
    let T = table_of K in
    let s = c.in_ok-settled.settled in
    let ls = lasts_of c.args.before.now.cells.items in
    let is = c.args.inputs.now in
    let many : length ls ≡ K.interface = length-map c.args.before.now.cells.items last_at ∙ c.requires.before in
    let b1 = c.give.new.pass in
    let b2 = c.walk.new.pass in
    let o = opened T s.cells (given_all is) c.in_ok-pass.pass b1 c.in_ok-pass.ensures (c.in_ok-give.ensures T) in
    let none : undecided (env_of s.cells.signals.items) (outers_from 0 is ls) ≡ [] =
    sym (c.in_ok-unknown.ensures is ls (many ∙ sym c.interface_len.ensures)
    ∙ ap (λ z. undecided (env_of z) (outers_from 0 is ls)) c.deref.ensures.value) ∙ none_left c.in_ok-unknown.unknown c.if-not-is_empty.ensures in
    told_open K c.args.program.now.rules (control_in c.args.marked.now) ls many is c.requires.inputs c.args.last s
    c.in_ok-settled.ensures b1 b2 c.new-in_default.result none o.signals
    (subst (λ r. Runs T (program_flat_step T (cells_in s.table) K.statement (control_in c.args.marked.now)
    (env_of b1.cells.signals.items)) r b1 b2) c.in_default.is c.in_ok-ran.ensures) c.new-in_default.ensures.items

pub judge_interface-requires : goal.judge_interface-requires
judge_interface-requires c =
    let K = kernel_of c.args.program.now in
    let T = table_of K in
    let s = c.in_ok-settled.settled in
    let b1 = c.give.new.pass in
    let b2 = c.walk.new.pass in
    let p = program_flat_step T (cells_in s.table) K.statement (control_in c.args.marked.now)
    (env_of b1.cells.signals.items) in
    let o = opened T s.cells (given_all c.args.inputs.now) c.in_ok-pass.pass b1 c.in_ok-pass.ensures
    (c.in_ok-give.ensures T) in
    let k = kept T p c.in-Some.ran b1 b2 (subst (λ r. Runs T p r b1 b2) c.in-Some.is c.in_ok-ran.ensures) in
    let e = ap length c.deref-2.ensures.value ∙ ap (λ v. length v.items) c.replace-emitted.ensures.value ∙ k.emitted
    ∙ o.emitted ∙ c.in_ok-settled.ensures.signals in
    let d = rules_declared K c.args.program.now.rules in
    omega (arith, e, d)

pub told-requires-clause-cells : goal.told-requires-clause-cells
told-requires-clause-cells c =
    let K = kernel_of c.args.program.now in
    let T = table_of K in
    let s = c.in_ok-settled.settled in
    let b1 = c.give.new.pass in
    let b2 = c.walk.new.pass in
    let p = program_flat_step T (cells_in s.table) K.statement (control_in c.args.marked.now)
    (env_of b1.cells.signals.items) in
    let o = opened T s.cells (given_all c.args.inputs.now) c.in_ok-pass.pass b1 c.in_ok-pass.ensures
    (c.in_ok-give.ensures T) in
    let k = kept T p c.in-Some.ran b1 b2 (subst (λ r. Runs T p r b1 b2) c.in-Some.is c.in_ok-ran.ensures) in
    let e = ap (λ b. length b.cells.signals.items) c.judge_interface.ensures.same ∙ ap length k.signals
    ∙ ap length o.signals ∙ c.in_ok-settled.ensures.signals in
    let d = rules_declared K c.args.program.now.rules in
    omega (arith, e, d)

pub told-requires-clause-emitted : goal.told-requires-clause-emitted
told-requires-clause-emitted c =
    let K = kernel_of c.args.program.now in
    let T = table_of K in
    let s = c.in_ok-settled.settled in
    let b1 = c.give.new.pass in
    let b2 = c.walk.new.pass in
    let p = program_flat_step T (cells_in s.table) K.statement (control_in c.args.marked.now)
    (env_of b1.cells.signals.items) in
    let o = opened T s.cells (given_all c.args.inputs.now) c.in_ok-pass.pass b1 c.in_ok-pass.ensures
    (c.in_ok-give.ensures T) in
    let k = kept T p c.in-Some.ran b1 b2 (subst (λ r. Runs T p r b1 b2) c.in-Some.is c.in_ok-ran.ensures) in
    let e = ap length c.deref-3.ensures.value ∙ ap (λ v. length v.items) c.replace-emitted.ensures.value ∙ k.emitted
    ∙ o.emitted ∙ c.in_ok-settled.ensures.signals in
    let d = rules_declared K c.args.program.now.rules in
    omega (arith, e, d)

pub returns : goal.returns
returns c =
    let K = kernel_of c.args.program.now in
    let T = table_of K in
    let s = c.in_ok-settled.settled in
    let ls = lasts_of c.args.before.now.cells.items in
    let is = c.args.inputs.now in
    let many : length ls ≡ K.interface = length-map c.args.before.now.cells.items last_at ∙ c.requires.before in
    let b0 = c.in_ok-pass.pass in
    let b1 = c.give.new.pass in
    let b2 = c.walk.new.pass in
    let b3 = c.judge_interface.new.pass in
    let a = c.in_ok-stepped.stepped in
    let ran = c.in-Some.ran in
    let em = c.replace-emitted.result.items in
    let x = c.replace-emitted.new.dest in
    let o = opened T s.cells (given_all is) b0 b1 c.in_ok-pass.ensures (c.in_ok-give.ensures T) in
    let none : undecided (env_of s.cells.signals.items) (outers_from 0 is ls) ≡ [] =
    sym (c.in_ok-unknown.ensures is ls (many ∙ sym c.interface_len.ensures)
    ∙ ap (λ z. undecided (env_of z) (outers_from 0 is ls)) c.deref.ensures.value) ∙ none_left c.in_ok-unknown.unknown c.if-not-is_empty.ensures in
    told_stepped K c.args.program.now.rules (control_in c.args.marked.now) ls many is c.requires.inputs c.args.last s
    c.in_ok-settled.ensures ran em x b0 b1 b2 b3 a none o.signals
    (subst (λ r. Runs T (program_flat_step T (cells_in s.table) K.statement (control_in c.args.marked.now)
    (env_of b1.cells.signals.items)) r b1 b2) c.in-Some.is c.in_ok-ran.ensures)
    (record {
      begun = c.in_ok-pass.ensures;
      given = c.in_ok-give.ensures T;
      emitted = ap (λ v. v.items) c.replace-emitted.ensures.value;
      same = c.judge_interface.ensures.same;
      judged = subst (λ z. JudgedAll T K.interface z (record b2 { emitted = x }) b3) c.deref-2.ensures.value
          c.judge_interface.ensures.judged;
      told = subst (λ z. Concluded K c.args.last ran z b3 a) c.deref-3.ensures.value c.in_ok-stepped.ensures;
    })
