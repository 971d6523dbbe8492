-- The resolved tree of a text without faults is linked.
use Rattle.std.proofs.Common.{◌≡◌, ℕ, Bool, true, List, [], ◌∷◌, map}
use Rattle.std.proofs.Common.{option_map, refl, sym, ap, ◌∙◌}
use Rattle.std.specs.Prelude.{◌&&◌, not, is_some}
use Rattle.std.specs.List.{AllByRecursion, flat_map, list_all}
use Rattle.std.proofs.lemmas.Bool.{and_parts, and_from}
use Rattle.hh_base.specs.Value.{is_valued, is_interface}
use Rattle.module_tree.specs.declared.source.NameAt.{NameAt}
use Rattle.module_tree.specs.declared.source.ExprAt.{ExprAt}
use Rattle.module_tree.specs.declared.source.ParameterNode.{ParameterNode}
use Rattle.module_tree.specs.declared.source.InterfaceNode.{InterfaceNode}
use Rattle.module_tree.specs.declared.source.ModuleNode.{ModuleNode}
use Rattle.module_tree.specs.declared.source.Part.{Part}
use Rattle.module_tree.specs.declared.source.Part.TheVariants as top
use Rattle.module_tree.specs.Parts.{signals_read, parameters_read}
use Rattle.module_tree.specs.Callables.{Signature, modules_of, signatures_of}
use Rattle.module_tree.specs.Source.{is_source}
use Rattle.module_tree.specs.DeclaredAt.{NamesGoByPosition}
use Rattle.module_tree.specs.SourceForms.{fits_part, fits_block, fits_interface, fits_signal, fits_parameter}
use Rattle.module_tree.specs.SourceForms.{fits_expression}
use Rattle.module_tree.specs.SourceWords.{is_written_name}
use Rattle.module_tree.specs.LinkedFacts as linked
use Rattle.module_tree.specs.LinkedFacts.{IsLinked, sig_fits, is_formed, declaration_fits, declares_once}
use Rattle.module_tree.specs.LinkedFacts.{names_differ, all_names_differ, in_each_part, is_in_scope, kinds_fit}
use Rattle.module_tree.specs.LinkedFacts.{no_input_emitted, binds_interface, is_limited, locals_differ}
use Rattle.link_faults.specs.Named.{Name, parameter_named, place_of}
use Rattle.link_faults.specs.SourceKinds.{Kinds}
use Rattle.link_faults.specs.Rows as row
use Rattle.link_faults.specs.Rows.{Program, no_kinds}
use Rattle.link_faults.specs.FirstFault.{IsFaultless}
use Rattle.module_link.specs.Resolved.{resolved_part, resolved_parts, resolved_module, resolved_expr, or_first}
use Rattle.module_link.proofs.Lists.{append_empty, all_tests, all_of_map, all_weaker, all_both, flat_map_empty}
use Rattle.module_link.proofs.Lists.{tests_all, get_of_map}
use Rattle.module_link.proofs.ResolvedExpressions.{AllMean}
use Rattle.module_link.proofs.Distinct.{place_found, no_name_twice}
use Rattle.module_link.proofs.Meanings.{all_known, none_known, is_there, nothing_here}
use Rattle.module_link.proofs.Bound.{true_from_not}
use Rattle.module_link.proofs.Faultless.{Fine, FineText, each_weaker, text_is_fine, names_of_modules}
use Rattle.module_link.proofs.Faultless.{names_of_signatures}
use Rattle.module_link.proofs.SameDeclarations.{each_part_resolved, main_resolved, modules_resolved}
use Rattle.module_link.proofs.SameDeclarations.{same_signatures}
use Rattle.module_link.proofs.PartExpressions.{place_fits, none_mean, small_same}
use Rattle.module_link.proofs.RunParts.{stands_at}
use Rattle.module_link.proofs.NamesByPosition.{names_by_position}
use Rattle.module_link.proofs.PartFields as part

each_declaration : (test : Part ℕ → Bool) (parts : Program)
    → AllByRecursion (λ (p : Part Name). test (resolved_part parts p) ≡ true) parts
    → list_all test (resolved_parts parts) ≡ true
each_declaration test parts h = all_tests test (resolved_parts parts)
    (all_of_map (λ p. test p ≡ true) (resolved_part parts) parts h)

-- ---- kinds of declarations

interface_fits : (ds : List InterfaceNode) → flat_map (λ (d : InterfaceNode). row.wrong_signal d.signal) ds ≡ []
    → list_all (λ (d : InterfaceNode). sig_fits d.signal) ds ≡ true
interface_fits ds e =
    all_tests (λ (d : InterfaceNode). sig_fits d.signal) ds
    (all_weaker _ _ (λ d x. true_from_not (sig_fits d.signal)
    (nothing_here (not (sig_fits d.signal)) d.signal.pos x)) ds
    (flat_map_empty (λ (d : InterfaceNode). row.wrong_signal d.signal) ds e))

abbrev kinds_of_parameters : List ParameterNode → Kinds
kinds_of_parameters ps n = option_map (λ (p : ParameterNode). p.kind) (parameter_named ps n)

abbrev place_of_parameter : List ParameterNode → Name → ℕ
place_of_parameter ps n = or_first (place_of (map (λ (p : ParameterNode). p.name) ps) n)

parameters_mean : (ps : List ParameterNode) (names : List (NameAt Name))
    → AllByRecursion (λ (n : NameAt Name). is_some (parameter_named ps n.name) ≡ true) names
    → AllMean (kinds_of_parameters ps) (map (λ (p : ParameterNode). p.kind) ps) (place_of_parameter ps) names
parameters_mean ps [] h = tt
parameters_mean ps (n ∷ ns) h =
    let q = is_there (parameter_named ps n.name) h.0 in
    let kind = ap (option_map (λ (p : ParameterNode). p.kind)) q.1 in
    let stands = stands_at (λ (p : ParameterNode). p.name) ps n.name q.0
    (place_found (λ (p : ParameterNode). p.name) 0 ps n.name q.0 q.1) in (
      record {
        known = ap is_some kind;
        same = get_of_map (λ (p : ParameterNode). p.kind) ps (place_of_parameter ps n.name)
            ∙ ap (option_map (λ (p : ParameterNode). p.kind)) stands ∙ sym kind;
      },
      parameters_mean ps ns h.1,
    )

declaration_kinds : (parts : Program) (p : Part Name) → row.unknown_in_part p ≡ [] → row.wrong_in_part p ≡ []
    → declaration_fits (resolved_part parts p) ≡ true
declaration_kinds parts (top.Module m) known wrong = interface_fits m.interface wrong
declaration_kinds parts (top.Body b) known wrong =
    let q = append_empty _ _ known in
    place_fits (λ n. 0) (place_of_parameter b.parameters) no_kinds (kinds_of_parameters b.parameters) []
    (map (λ (p : ParameterNode). p.kind) b.parameters) b.answer b.expr
    (none_mean no_kinds [] (λ n. 0) (signals_read b.expr.expr) (none_known (signals_read b.expr.expr) q.0))
    (parameters_mean b.parameters (parameters_read b.expr.expr)
    (all_known (λ n. is_some (parameter_named b.parameters n)) (parameters_read b.expr.expr) q.1)) wrong
declaration_kinds parts (top.Host h) known wrong = refl

-- ---- forms

formed : (parts : Program) (p : Part Name) → fits_part p ≡ true → is_formed (resolved_part parts p) ≡ true
formed parts (top.Module m) fits =
    let q = and_parts (is_written_name m.name && list_all fits_interface m.interface) (fits_block m.block)
    fits in
    let r = and_parts (is_written_name m.name) (list_all fits_interface m.interface) q.0 in
    all_tests (λ (d : InterfaceNode). is_interface d.dir) m.interface
    (all_weaker _ _ (λ d x. (and_parts (is_interface d.dir) (fits_signal d.signal) x).0) m.interface
    (tests_all fits_interface m.interface r.1))
formed parts (top.Body b) fits =
    let named = is_written_name b.name && list_all fits_parameter b.parameters in
    let q = and_parts (named && is_valued b.answer) (fits_expression b.expr) fits in
    let r = and_parts named (is_valued b.answer) q.0 in
    let u = and_parts (is_written_name b.name) (list_all fits_parameter b.parameters) r.0 in
    let valued = all_tests (λ (p : ParameterNode). is_valued p.kind) b.parameters
    (all_weaker _ _ (λ p x. (and_parts (is_written_name p.name) (is_valued p.kind) x).1) b.parameters
    (tests_all fits_parameter b.parameters u.1)) in
    let parameters = list_all (λ (p : ParameterNode). is_valued p.kind) b.parameters in
    let x : ExprAt ℕ = record {
      pos = b.expr.pos;
      expr = resolved_expr (λ n. 0) (place_of_parameter b.parameters) b.expr.expr;
    } in
    and_from (parameters && is_valued b.answer) (linked.is_small x)
    (and_from parameters (is_valued b.answer) valued r.1)
    (small_same (λ n. 0) (place_of_parameter b.parameters) b.expr q.1)
formed parts (top.Host h) fits = (and_parts (is_written_name h.name) (list_all is_valued h.parameters) fits).1

-- ---- names

names_of : {A : Type 0} (f : A → NameAt Name) (g : A → Name) → ((x : A) → (f x).name ≡ g x) → (xs : List A)
    → map (λ (n : NameAt Name). n.name) (map f xs) ≡ map g xs
names_of f g h [] = refl
names_of f g h (x ∷ xs) = λ i. h x i ∷ names_of f g h xs i

once : (parts : Program) (p : Part Name) → row.repeated_in_part p ≡ []
    → declares_once (resolved_part parts p) ≡ true
once parts (top.Module m) e =
    ap names_differ (sym (names_of (λ (d : InterfaceNode). row.name_of_signal d.signal)
    (λ (d : InterfaceNode). d.signal.name) (λ d. refl) m.interface))
    ∙ no_name_twice (map (λ (d : InterfaceNode). row.name_of_signal d.signal) m.interface) e
once parts (top.Body b) e =
    ap names_differ (sym (names_of (λ (p : ParameterNode). record { pos = p.pos; name = p.name })
    (λ (p : ParameterNode). p.name) (λ p. refl) b.parameters))
    ∙ no_name_twice (map (λ (p : ParameterNode). record { pos = p.pos; name = p.name }) b.parameters) e
once parts (top.Host h) e = refl

same_names : (program parts : Program) → map (λ (m : ModuleNode ℕ). m.name)
    (modules_of (map (resolved_part program) parts))
    ≡ map (λ (m : ModuleNode Name). m.name) (modules_of parts)
same_names program parts = ap (map (λ (m : ModuleNode ℕ). m.name)) (modules_resolved program parts)
    ∙ renamed (modules_of parts)
  where
    renamed : (ms : List (ModuleNode Name)) → map (λ (m : ModuleNode ℕ). m.name)
        (map (resolved_module program) ms) ≡ map (λ (m : ModuleNode Name). m.name) ms
    renamed [] = refl
    renamed (m ∷ ms) = ap (λ ns. m.name ∷ ns) (renamed ms)

module_names : (parts : Program) → row.repeated (names_of_modules parts) ≡ []
    → names_differ (map (λ (m : ModuleNode ℕ). m.name) (modules_of (resolved_parts parts))) ≡ true
module_names parts e =
    ap names_differ (same_names parts parts ∙ sym (names_of (λ (m : ModuleNode Name). record {
      pos = m.pos;
      name = m.name;
    }) (λ (m : ModuleNode Name). m.name) (λ m. refl) (modules_of parts)))
    ∙ no_name_twice (names_of_modules parts) e

signature_names : (parts : Program) → row.repeated (names_of_signatures parts) ≡ []
    → names_differ (map (λ (s : Signature). s.name) (signatures_of (resolved_parts parts))) ≡ true
signature_names parts e =
    ap names_differ (ap (map (λ (s : Signature). s.name)) (same_signatures parts parts)
    ∙ sym (names_of (λ (s : Signature). record {
      pos = s.pos;
      name = s.name;
    }) (λ (s : Signature). s.name) (λ s. refl) (signatures_of parts)))
    ∙ no_name_twice (names_of_signatures parts) e

-- ---- the whole

pub fine_is_linked : (parts : Program) → FineText parts → NamesGoByPosition parts
    → IsLinked (resolved_parts parts)
fine_is_linked parts text positions =
    record {
      main = main_resolved parts text.main;
      scopes = each_part_resolved is_in_scope parts (each_weaker parts (Fine parts) _
          (λ m p fine. part.scopes_hold parts text m p.scope p.part fine) text.each);
      kinds = each_part_resolved (λ known p. kinds_fit known p.part) parts (each_weaker parts (Fine parts) _
          (λ m p fine. part.kinds_hold parts text m p.scope p.part fine) text.each);
      declarations = each_declaration declaration_fits parts
          (all_weaker _ _ (λ p x. declaration_kinds parts p x.0 x.1) parts
          (all_both _ _ parts text.known text.kinds));
      inputs = each_part_resolved (λ known p. no_input_emitted known p.scope p.part) parts
          (each_weaker parts (Fine parts) _
          (λ m p fine. part.inputs_hold parts text m p.scope p.part fine) text.each);
      bindings = each_part_resolved (λ known p. binds_interface known p.part) parts
          (each_weaker parts (Fine parts) _
          (λ m p fine. part.bindings_hold parts text m p.scope p.part fine) text.each);
      limits = each_part_resolved (λ known p. is_limited p.part) parts (each_weaker parts (Fine parts) _
          (λ m p fine. part.limits_hold parts text m p.scope p.part fine) text.each);
      forms = each_declaration is_formed parts (all_weaker _ _ (formed parts) parts text.forms);
      names = names;
      names_by_position = names_by_position parts positions;
    }
  where
    names : all_names_differ (resolved_parts parts) ≡ true
    names =
        let tree = resolved_parts parts in
        let modules = names_differ (map (λ (m : ModuleNode ℕ). m.name) (modules_of tree)) in
        let signatures = names_differ (map (λ (s : Signature). s.name) (signatures_of tree)) in
        let declared = list_all declares_once tree in
        and_from (modules && signatures && declared) (in_each_part (λ known p. locals_differ p.part) tree)
        (and_from (modules && signatures) declared
        (and_from modules signatures (module_names parts text.modules)
        (signature_names parts text.signatures))
        (each_declaration declares_once parts (all_weaker _ _ (once parts) parts text.once)))
        (each_part_resolved (λ known p. locals_differ p.part) parts (each_weaker parts (Fine parts) _
        (λ m p fine. part.locals_hold parts text m p.scope p.part fine) text.each))

-- a text without faults is linked once its names are resolved
pub resolved_is_linked : (parts : Program) → is_source parts ≡ true → NamesGoByPosition parts
    → IsFaultless parts → IsLinked (resolved_parts parts)
resolved_is_linked parts source positions faultless =
    fine_is_linked parts (text_is_fine parts source faultless) positions
