use Rattle.std.proofs.Common.{◌∙◌, sym, ap, subst, List, length, map, take}
use Rattle.std.specs.List.{range_with_len}
use Rattle.std.proofs.lemmas.List.FromFn.{length-range_with_len}
use Rattle.hh_term.specs.declared.program.SignalDecl.{SignalDecl}
use Rattle.hh_term.specs.ProgramView.{kernel_of}
use Rattle.hh_term.specs.Views.{body_of, statement_of}
use Rattle.loop_copy.specs.IsCopied.{IsCopied}
use Rattle.loop_copy.specs.declared.copier.Copier.{Copier}
use Rattle.loop_copy.specs.Within.{LiesWithin}
use Rattle.loop_copy.proofs.Whole.{is_copy, rules_within, rules_declared, rules_copied}
use Rattle.loop_copy.proofs.program.copy.Goals as goal

pub statement-requires-clause-lies : goal.statement-requires-clause-lies
statement-requires-clause-lies c =
    let K = kernel_of c.args.program.now in
    subst (LiesWithin (length K.signals) (length K.sites)) (sym c.term.ensures.kernel) (rules_within K c.args.program.now.rules)

pub statement-requires-clause-known : goal.statement-requires-clause-known
statement-requires-clause-known c =
    ap length c.in_ok-own_numbers.ensures ∙ length-range_with_len 0 (length c.signals-declared.result.now)
    ∙ ap length c.signals-declared.ensures

pub new-requires-2 : goal.new-requires-2
new-requires-2 c =
    let K = kernel_of c.args.program.now in
    let a : Copier = record {
      numbers = c.in_ok-own_numbers.field-0;
      signals = c.in_ok-copy_signals.field-0;
      sites = c.new.result;
    } in
    subst (λ k. ∥ IsCopied k ∥₁) (sym (
    is_copy K a c.statement.new.self c.interface_len-interface.result c.in_ok-bodies.bodies.items
    (statement_of c.term.result.now) c.in_ok-term.term
    (c.in_ok-own_numbers.ensures ∙ ap (λ (ds : List SignalDecl). range_with_len 0 (length ds)) c.signals-declared.ensures)
    (c.in_ok-copy_signals.ensures ∙ (λ i. take (c.interface_len-interface.ensures i) (c.signals-declared.ensures i)))
    c.new.ensures.items (rules_declared K c.args.program.now.rules) c.interface_len-interface.ensures
    (ap (map body_of) c.in_ok-bodies.ensures ∙ c.bodies.ensures.kernel) c.term.ensures.kernel c.in_ok-term.ensures))
    (rules_copied K c.args.program.now.rules)

pub returns : goal.returns
returns c =
    let K = kernel_of c.args.program.now in
    let a : Copier = record {
      numbers = c.in_ok-own_numbers.field-0;
      signals = c.in_ok-copy_signals.field-0;
      sites = c.new.result;
    } in
    c.new-2.ensures
    ∙ is_copy K a c.statement.new.self c.interface_len-interface.result c.in_ok-bodies.bodies.items
    (statement_of c.term.result.now) c.in_ok-term.term
    (c.in_ok-own_numbers.ensures ∙ ap (λ (ds : List SignalDecl). range_with_len 0 (length ds)) c.signals-declared.ensures)
    (c.in_ok-copy_signals.ensures ∙ (λ i. take (c.interface_len-interface.ensures i) (c.signals-declared.ensures i)))
    c.new.ensures.items (rules_declared K c.args.program.now.rules) c.interface_len-interface.ensures
    (ap (map body_of) c.in_ok-bodies.ensures ∙ c.bodies.ensures.kernel) c.term.ensures.kernel c.in_ok-term.ensures
